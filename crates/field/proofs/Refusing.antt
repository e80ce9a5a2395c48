-- A call that refuses by its row of tests, or goes on: what is known then.
use Rattle.std.proofs.Common.{◌≡◌, ℕ, Bool, true, false, cond, not, Some, None, Option, is_none, sym, refl, ap}
use Rattle.std.proofs.lemmas.Bool.{false≢true, not-false}
use Rattle.quorum.specs.declared.refusal.Refusal.{Refusal}
use Rattle.quorum.specs.Refusals.{number_of}
use Rattle.quorum.specs.Systems.{System}
use Rattle.rules.specs.Calls.{unless, as_opened, later_refusal}
use Rattle.rules.specs.State.{State, Outcome, refuse}

-- the first of the tests passed, and so did the others
pub passes : (b : Bool) (k : ℕ) (rest : Option ℕ) → cond b (Some k) rest ≡ None → (b ≡ false) × (rest ≡ None)
passes true k rest e = absurd (false≢true (ap is_none e))
passes false k rest e = (refl, e)

pub later_passes : (i o : System) (s : State) (own : Option ℕ) → later_refusal i o s own ≡ None
    → (s.frame.is_open ≡ true) × (as_opened i o s ≡ true) × (own ≡ None)
later_passes i o s own e =
    let p = passes (not s.frame.is_open) 8 _ e in
    let q = passes (not (as_opened i o s)) 9 own p.1 in
    (not-false _ p.0, not-false _ q.0, q.1)

-- a call whose tests refuse, and one whose tests pass
pub call_refuses : (e : Refusal) (r : Option ℕ) (x : Outcome) (s : State) → Some (number_of e) ≡ r → unless r s x ≡ refuse (number_of e) s
call_refuses e r x s is = ap (λ (k : Option ℕ). unless k s x) (sym is)

pub call_passes : (r : Option ℕ) (x : Outcome) (s : State) → None ≡ r → unless r s x ≡ x
call_passes r x s is = ap (λ (k : Option ℕ). unless k s x) (sym is)

-- what is said of a refusal says nothing of an acceptance
pub not_refused : {A : Type 0} → true ≡ false → A
not_refused e = absurd (false≢true (sym e))
