-- How any step of an input server moves its channels.
use Rattle.std.proofs.Common.{◌≡◌, ℕ, ◌+◌, ◌*◌, ◌<◌, ◌≤◌, true, ◌&&◌, ◌||◌, eqb, ltb, leb, ◌⊎◌, List, [], ◌∷◌, ◌++◌, length, get_or, take, drop, replicate, sym, refl, ap, ◌∙◌, subst, inl, inr, arith}
use lib.Seq.{sets-eq, take-append_seam}
use Rattle.std.proofs.lemmas.Bool.{cond_both, eqb-true, leb-true, ltb-true, ltb-false, and_parts, or_cases}
use Rattle.numbers.specs.declared.epoch.Epoch.{Epoch}
use Rattle.rules.specs.declared.kept.Held.{Held}
use Rattle.rules.specs.declared.kept.Ledger.{Ledger}
use Rattle.rules.specs.declared.message.Message.{Message}
use Rattle.rules.specs.declared.pairs.Pair.{Pair}
use Rattle.numbers.specs.declared.time.Time.{Time}
use Rattle.numbers.specs.declared.version.Version.{Version}
use Rattle.rules.specs.Input.{Input, held, ledger, chain, last_read, last_acknowledged, is_shut_out, queued, freed}
use Rattle.rules.specs.Input.{later_input}
use Rattle.rules.specs.Lists.{no_pair, list_of, pairs}
use Rattle.numbers.specs.Numbers.{none, raised}
use Rattle.rules.specs.Output.{Output, later_output}
use Rattle.guarantee.proofs.Channel.{Has, Part, answer, Moves, Fresh, Shut}
use Rattle.guarantee.proofs.ChannelOf.{Says, channel_of, Quiet}
use Rattle.guarantee.proofs.Words.{Any, any_old, any_split}

-- ---- what is read of versions, objects and ledgers

abbrev pub number : Version → ℕ
number v = v.0

abbrev pub held_number : Held → ℕ
held_number h = h.version.0

abbrev pub read_number : Held → ℕ
read_number h = h.last_read.0

abbrev pub the_acknowledged : Ledger → List Version
the_acknowledged l = l.last_acknowledged

abbrev pub the_epoch : Ledger → Epoch
the_epoch l = l.epoch

abbrev pub the_lease_end : Ledger → Time
the_lease_end l = l.lease_end

abbrev pub epoch_number : Ledger → ℕ
epoch_number l = l.epoch.0

abbrev pub acknowledged_at : ℕ → Ledger → ℕ
acknowledged_at p l = (get_or l.last_acknowledged p none).0

-- ---- lists of pairs

-- a message shows every pair of a list of at most 8
pub pairs_list : (ps : List Pair) → length ps ≤ 8 → list_of (pairs ps) ≡ ps
pairs_list ps h = ap (λ (l : List Pair). take (length ps) l) (sets-eq ps (replicate 8 no_pair) 0 (omega arith))
    ∙ take-append_seam ps (drop (0 + length ps) (replicate 8 no_pair))

-- the pair just queued is in the chain
pub queued_new : (x : Pair) (c : List Pair) → Has x.object x.version.0 (queued x c)
queued_new x [] = inl (refl, refl)
queued_new x (p ∷ ps) = cond_both (eqb p.object x.object) (x ∷ ps) (p ∷ queued x ps) (Has x.object x.version.0)
    (λ _. inl (refl, refl)) (λ _. inr (queued_new x ps))

-- queueing keeps the records of the other objects
pub queued_kept : (x : Pair) (o v : ℕ) (c : List Pair) → Has o v c → Has o v (queued x c) ⊎ (x.object ≡ o)
queued_kept x o v [] h = absurd h
queued_kept x o v (p ∷ ps) h = cond_both (eqb p.object x.object) (x ∷ ps) (p ∷ queued x ps) (λ c. Has o v c ⊎ (x.object ≡ o))
    (λ e. elim h [ inl a ↦ inr (omega (arith, eqb-true p.object x.object e)) | inr a ↦ inl (inr a) ])
    (λ e. elim h [ inl a ↦ inl (inl a) | inr a ↦ elim (queued_kept x o v ps a) [ inl b ↦ inl (inr b) | inr b ↦ inr b ] ])

-- freeing takes out only records of that object, at most at that version
pub freed_kept : (o : ℕ) (a : Version) (p u : ℕ) (c : List Pair) → Has p u c → Has p u (freed o a c) ⊎ ((o ≡ p) × (u ≤ a.0))
freed_kept o a p u [] h = absurd h
freed_kept o a p u (x ∷ r) h =
    cond_both (eqb x.object o && leb x.version.0 a.0) (freed o a r) (x ∷ freed o a r) (λ c. Has p u c ⊎ ((o ≡ p) × (u ≤ a.0)))
    (λ e. elim h [
      | inl b ↦ let d = and_parts (eqb x.object o) (leb x.version.0 a.0) e in
          inr (omega (arith, eqb-true x.object o d.0), omega (arith, leb-true x.version.0 a.0 d.1))
      | inr b ↦ freed_kept o a p u r b
    ])
    (λ e. elim h [ inl b ↦ inl (inl b) | inr b ↦ elim (freed_kept o a p u r b) [ inl d ↦ inl (inr d) | inr d ↦ inr d ] ])

-- ---- versions raised

-- a version raised is at least both, and is one of them
pub raised_up : (v w : Version) → v.0 ≤ (raised v w).0
raised_up v w = cond_both (ltb v.0 w.0) w v (λ (z : Version). v.0 ≤ z.0)
    (λ e. omega (arith, ltb-true v.0 w.0 e)) (λ _. omega arith)

pub raised_hit : (v w : Version) → w.0 ≤ (raised v w).0
raised_hit v w = cond_both (ltb v.0 w.0) w v (λ (z : Version). w.0 ≤ z.0) (λ _. omega arith) (λ e. ltb-false v.0 w.0 e)

pub raised_from : (v w : Version) → (raised v w ≡ v) ⊎ (raised v w ≡ w)
raised_from v w = cond_both (ltb v.0 w.0) w v (λ (z : Version). (z ≡ v) ⊎ (z ≡ w)) (λ _. inr refl) (λ _. inl refl)

-- ---- any step of an input server

module _ (L R : ℕ) where
  -- what is to show of a step at the input
  pub in_moves : (I J : Input) (O : Output) (i j : ℕ) (new log : List Message) →
      ((o : ℕ) → (held I o).version.0 ≤ (held J o).version.0) →
      ((ledger I j).epoch.0 ≤ (ledger J j).epoch.0) →
      (J.clock ≡ I.clock) →
      ((o : ℕ) → (last_read J j o ≡ last_read I j o) ⊎ (last_read J j o ≡ (held J o).version.0)) →
      ((o : ℕ) → (last_acknowledged J j o ≡ last_acknowledged I j o) ⊎ Any (Says i j (answer o (last_acknowledged J j o))) log) →
      (((ledger J j).lease_end.0 ≡ (ledger I j).lease_end.0) ⊎ ((ledger J j).lease_end.0 ≡ J.clock.0 + L)) →
      ((o v : ℕ) → Has o v (chain I j) →
      ((u : ℕ) × Has o u (chain J j) × ((v ≤ u) ⊎ (u ≡ (held J o).version.0)))
      ⊎ (v ≤ last_acknowledged J j o) ⊎ ((ledger I j).epoch.0 < (ledger J j).epoch.0)) →
      ((p : Part) → Any (Says i j p) new → Fresh L (channel_of I O i j log) (channel_of J O i j (log ++ new)) p) →
      Moves L R (channel_of I O i j log) (channel_of J O i j (log ++ new))
  in_moves I J O i j new log up ep cl rd ak le ch fr = record {
    held_up = up;
    known_up = λ o. omega arith;
    epoch_up = ep;
    lease_epoch_up = omega arith;
    clock_up = omega arith;
    drifts = subst (λ (t : Time). R * t.0 + 1000 * O.clock.0 ≤ R * I.clock.0 + 1000 * O.clock.0) (sym cl) (omega arith);
    given_set = rd;
    acknowledged_from = ak;
    got_from = λ o. inl refl;
    copy_from = λ o. inl refl;
    lease_end_from = inl refl;
    granted_set = le;
    chain_kept = ch;
    kept = λ p. any_old (Says i j p) log new;
    fresh = λ p h. elim (any_split (Says i j p) log new h) [ inl a ↦ inl a | inr a ↦ inr (fr p a) ];
  }

  -- what other servers do leaves a channel alone
  pub still : (I : Input) (O : Output) (i j : ℕ) (new log : List Message) → Quiet i j new →
      Moves L R (channel_of I O i j log) (channel_of I O i j (log ++ new))
  still I O i j new log q = in_moves I I O i j new log (λ o. omega arith) (omega arith) refl (λ o. inl refl) (λ o. inl refl) (inl refl)
      (λ o v h. inl (v, h, inl (omega arith))) (λ p h. absurd (q p h))

  -- both clocks move on, within the drift
  pub ticks : (I : Input) (O : Output) (i j : ℕ) (log : List Message) (x y : ℕ) → R * x ≤ 1000 * y →
      Moves L R (channel_of I O i j log) (channel_of (later_input x I) (later_output y O) i j log)
  ticks I O i j log x y h = record {
    held_up = λ o. omega arith;
    known_up = λ o. omega arith;
    epoch_up = omega arith;
    lease_epoch_up = omega arith;
    clock_up = omega arith;
    drifts = omega arith;
    given_set = λ o. inl refl;
    acknowledged_from = λ o. inl refl;
    got_from = λ o. inl refl;
    copy_from = λ o. inl refl;
    lease_end_from = inl refl;
    granted_set = inl refl;
    chain_kept = λ o v h. inl (v, h, inl (omega arith));
    kept = λ p h. h;
    fresh = λ p h. inl h;
  }

-- what the test for being shut out says of the channel
pub shut_shut : (I : Input) (O : Output) (i j : ℕ) (log : List Message) (o : ℕ) → is_shut_out I o j ≡ true → Shut (channel_of I O i j log) o
shut_shut I O i j log o h = tests (last_read I j o) (last_acknowledged I j o) (held I o).version.0 (ledger I j).lease_end.0 I.clock.0 h
  where
    tests : (r a h u c : ℕ) → (eqb r 0 || (ltb r a || (leb h a || leb u c))) ≡ true → (r ≡ 0) ⊎ (r < a) ⊎ (h ≤ a) ⊎ (u ≤ c)
    tests r a h u c t = elim (or_cases (eqb r 0) (ltb r a || (leb h a || leb u c)) t) [
      | inl e ↦ inl (eqb-true r 0 e)
      | inr e ↦ elim (or_cases (ltb r a) (leb h a || leb u c) e) [
        | inl f ↦ inr (inl (ltb-true r a f))
        | inr f ↦ elim (or_cases (leb h a) (leb u c) f) [
          | inl g ↦ inr (inr (inl (leb-true h a g)))
          | inr g ↦ inr (inr (inr (leb-true u c g)))
        ]
      ]
    ]
