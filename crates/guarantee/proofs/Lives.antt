-- A story over lawful systems: while its field is open, what is kept is kept from call to call.
use Rattle.std.proofs.Common.{length, ◌≡◌, ℕ, zero, suc, ◌≤◌, true, false, sym, ap, ◌∙◌, subst, inl, inr, arith}
use Rattle.std.proofs.lemmas.Bool.{cases_lt}
use Rattle.quorum.specs.Systems.{Lawful}
use Rattle.rules.specs.State.{Frame, State, Outcome}
use Rattle.guarantee.specs.Story.{Story, outcome_of, call_at, before}
use Rattle.guarantee.proofs.CallEffects.{params_of, act_of, Framed, Accepted}
use Rattle.guarantee.proofs.CallSteps.{Refuses, Stepped, call_step}
use Rattle.guarantee.proofs.Kept.{Small, Kept, May}
use Rattle.guarantee.proofs.Next.{keeps}
use Rattle.guarantee.proofs.PlainState.{Params, PlainState, Act, run, plain_of}

-- a story of two lawful systems, from a field that is not yet open
pub record Given : Type 0 where
  pub story : Story
  pub in_lawful : Lawful story.inputs
  pub out_lawful : Lawful story.outputs
  pub closed : story.start.frame.is_open ≡ false

module _ (given : Given) where
  abbrev S : Story
  S = given.story

  abbrev pub calls : ℕ
  calls = length S.calls

  abbrev pub outcome_at : ℕ → Outcome
  outcome_at t = outcome_of S.inputs S.outputs (call_at S t) (before S t)

  -- the world that call number t finds
  abbrev pub world : ℕ → PlainState
  world t = plain_of (before S t)

  -- ---- an open field in the story

  pub record Live (P : Params) (s : State) : Type 0 where
    pub is_open : s.frame.is_open ≡ true
    pub params : params_of S.inputs S.outputs s ≡ P
    pub framed : Framed s
    pub small : Small P
    pub kept : Kept P (plain_of s)

  pub in_of : (P : Params) (s : State) → Live P s → Lawful P.inputs
  in_of P s l = subst (λ (Q : Params). Lawful Q.inputs) l.params given.in_lawful

  pub out_of : (P : Params) (s : State) → Live P s → Lawful P.outputs
  out_of P s l = subst (λ (Q : Params). Lawful Q.outputs) l.params given.out_lawful

  pub happens : (P : Params) (t : ℕ) → Live P (before S t) → Stepped P (before S t) (act_of (before S t) (call_at S t)) (outcome_at t)
  happens P t l = subst (λ (Q : Params). Stepped Q (before S t) (act_of (before S t) (call_at S t)) (outcome_at t)) l.params
      (call_step S.inputs S.outputs (before S t) l.framed (subst Small (sym l.params) l.small) l.is_open (call_at S t))

  live_accepted : (P : Params) (s : State) (a : Act) (x : Outcome) → Live P s → Accepted P s a x → Live P x.after
  live_accepted P s a x l h = record {
    is_open = ap (λ (f : Frame). f.is_open) h.frame ∙ l.is_open;
    params = ap (λ (f : Frame). record { inputs = S.inputs; outputs = S.outputs; counts = f.counts; lease = f.lease; drift = f.drift }) h.frame ∙ l.params;
    framed = h.framed;
    small = l.small;
    kept = subst (Kept P) (sym h.world) (keeps P l.small (in_of P s l) (plain_of s) l.kept a h.may);
  }

  pub stayed : (s : State) (x : Outcome) → Refuses s x → x.after ≡ s
  stayed s x h = ap (λ (y : Outcome). y.after) h.1

  pub live_next : (P : Params) (t : ℕ) → Live P (before S t) → Live P (before S (suc t))
  live_next P t l = elim (happens P t l) [
    | inl h ↦ subst (Live P) (sym (stayed (before S t) (outcome_at t) h)) l
    | inr h ↦ live_accepted P (before S t) (act_of (before S t) (call_at S t)) (outcome_at t) l h
  ]

  -- what every accepted call keeps holds from one call to any later one
  pub carry : (P : Params) (X : PlainState → Type 0) → ((W : PlainState) → Small P → Lawful P.inputs → Lawful P.outputs → Kept P W → (a : Act) → May P a W → X W → X (run P a W))
      → (t u : ℕ) → t ≤ u → Live P (before S t) → X (plain_of (before S t)) → Live P (before S u) × X (plain_of (before S u))
  carry P X step t zero h l x = let e : t ≡ 0 = omega arith in
      (subst (λ (k : ℕ). Live P (before S k)) e l, subst (λ (k : ℕ). X (plain_of (before S k))) e x)
  carry P X step t (suc u) h l x = elim (cases_lt u t) [
    | inl b ↦ let e : t ≡ suc u = omega arith in
        (subst (λ (k : ℕ). Live P (before S k)) e l, subst (λ (k : ℕ). X (plain_of (before S k))) e x)
    | inr b ↦ let r = carry P X step t u b l x in next r.0 r.1
  ]
    where
      next : Live P (before S u) → X (plain_of (before S u)) → Live P (before S (suc u)) × X (plain_of (before S (suc u)))
      next l x = (
        live_next P u l,
        elim (happens P u l) [
          | inl h ↦ subst (λ (s : State). X (plain_of s)) (sym (stayed (before S u) (outcome_at u) h)) x
          | inr h ↦ subst X (sym h.world) (step (plain_of (before S u)) l.small (in_of P (before S u) l) (out_of P (before S u) l) l.kept (act_of (before S u) (call_at S u)) h.may x)
        ],
      )
