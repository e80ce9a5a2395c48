-- What an answer leaves of an operation: nothing that it wrote or reads is taken back, and what it gathers is in the log.
use Rattle.std.proofs.Common.{◌≡◌, ℕ, zero, suc, ◌<◌, ◌≤◌, Bool, true, false, cond, ltb, ◌⊎◌, List, set, replicate, sym, refl, ◌∙◌, subst, inl, inr}
use lib.Bits.{bit_or}
use Rattle.std.proofs.lemmas.Bool.{ltb-true, ltb-false, or_cases, false≢true}
use Rattle.quorum.specs.declared.member_set.MemberSet.{MemberSet}
use Rattle.quorum.specs.Sets.{has}
use Rattle.numbers.specs.declared.version.Version.{Version}
use Rattle.rules.specs.declared.message.Message.{Message}
use Rattle.rules.specs.Operation.{Operation, Reading, named_by, hears_pair}
use Rattle.rules.proofs.Reactions.{every_reaction}
use Rattle.guarantee.proofs.Sets.{has_or, has_none}
use Rattle.guarantee.proofs.Words.{at, at_cases, set_from}
use Rattle.guarantee.proofs.PlainState.{Params, reaction}
use Rattle.guarantee.proofs.Kept.{Wrote, Reads}

-- ---- nothing is taken back

module _ (P : Params) where
  pub wrote_up : (m : Message) (y : Operation) (o : ℕ) (v : Version) (x : ℕ) → Wrote y o v x → Wrote (reaction P m y).next o v x
  wrote_up = every_reaction P.inputs P.outputs (λ m y r. (o : ℕ) (v : Version) (x : ℕ) → Wrote y o v x → Wrote r.next o v x) (record {
    stays = λ m y n o v x h. h;
    asks = λ i p c a e o v x h. absurd h;
    gets = λ i p c a e o v x h. absurd h;
    sends = λ i p t w e o v x h. h;
    writes = λ i p t w e o v x h. tt;
    gathers = λ j p u z r e o v x h. absurd h;
    reads = λ j p u z r e o v x h. absurd h;
  })

  pub reads_up : (m : Message) (y : Operation) (o : ℕ) → Reads y o → Reads (reaction P m y).next o
  reads_up = every_reaction P.inputs P.outputs (λ m y r. (o : ℕ) → Reads y o → Reads r.next o) (record {
    stays = λ m y n o h. h;
    asks = λ i p c a e o h. absurd h;
    gets = λ i p c a e o h. absurd h;
    sends = λ i p t w e o h. absurd h;
    writes = λ i p t w e o h. absurd h;
    gathers = λ j p u z r e o h. h;
    reads = λ j p u z r e o h. tt;
  })

-- a fact of an operation's state, where one operation got a new state
pub moved_op : (X : Operation → Type 0) (q : ℕ) (y : Operation) (f : ℕ → Operation) → (X (f q) → X y) → (p : ℕ) → X (f p) → X (at q y f p)
moved_op X q y f g p h = at_cases X q p y f (λ e. g (subst (λ (z : ℕ). X (f z)) (sym e) h)) (λ _. h)

-- ---- what is gathered

-- an operation that has just got its version has named nobody
pub named_none : (k i j : ℕ) → has (named_by (replicate k (record { 0 = 0 })) i) j ≡ true → ⊥
named_none zero i j h = false≢true (sym (has_none j) ∙ h)
named_none (suc k) zero j h = false≢true (sym (has_none j) ∙ h)
named_none (suc k) (suc i) j h = named_none k i j h

-- who is named after an answer was named before, or by the answer
pub named_from : (i : ℕ) (t : MemberSet) (N : List MemberSet) (k j : ℕ)
    → has (named_by (set N i (record { 0 = bit_or (named_by N i) t.0 })) k) j ≡ true
    → (has (named_by N k) j ≡ true) ⊎ ((i ≡ k) × (has t.0 j ≡ true))
named_from i t N k j h = elim (set_from N i k (record { 0 = bit_or (named_by N i) t.0 }) (record { 0 = 0 })) [
  | inl e ↦ inl (subst (λ (s : MemberSet). has s.0 j ≡ true) e h)
  | inr e ↦ elim (or_cases (has (named_by N i) j) (has t.0 j) (sym (has_or (named_by N i) t.0 j) ∙ subst (λ (s : MemberSet). has s.0 j ≡ true) e.1 h)) [
    | inl a ↦ inl (subst (λ (z : ℕ). has (named_by N z) j ≡ true) e.0 a)
    | inr a ↦ inr (e.0, a)
  ]
]

-- the pair that a read has after an answer is the one that it had, or the answer's
pub pair_from : (j : ℕ) (v : Version) (x : ℕ) (r : Reading)
    → ((((hears_pair j v x r).version ≡ r.version) × ((hears_pair j v x r).value ≡ r.value) × (v.0 ≤ r.version.0))
    ⊎ (((hears_pair j v x r).version ≡ v) × ((hears_pair j v x r).value ≡ x) × (r.version.0 < v.0)))
pair_from j v x r = go (ltb r.version.0 v.0) refl
  where
    go : (b : Bool) → ltb r.version.0 v.0 ≡ b
        → (((cond b v r.version ≡ r.version) × (cond b x r.value ≡ r.value) × (v.0 ≤ r.version.0))
        ⊎ ((cond b v r.version ≡ v) × (cond b x r.value ≡ x) × (r.version.0 < v.0)))
    go true e = inr (refl, refl, ltb-true r.version.0 v.0 e)
    go false e = inl (refl, refl, ltb-false r.version.0 v.0 e)
