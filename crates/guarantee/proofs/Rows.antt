-- A row of tests, each with the number of its refusal: what holds of a call that refuses by the row, or goes on.
use Rattle.std.proofs.Common.{◌≡◌, ℕ, Bool, true, false, cond, not, Some, Option, refl, ap}
use Rattle.std.proofs.lemmas.Bool.{not-false}
use Rattle.quorum.specs.Systems.{System}
use Rattle.rules.specs.Calls.{unless, as_opened, later_refusal}
use Rattle.rules.specs.State.{State, Outcome, refuse}

-- one test, and the rest of the row
pub row : (b : Bool) (number : ℕ) (rest : Option ℕ) (s : State) (x : Outcome) (P : Outcome → Type 0)
    → (b ≡ true → P (refuse number s)) → (b ≡ false → P (unless rest s x)) → P (unless (cond b (Some number) rest) s x)
row true number rest s x P stop go = stop refl
row false number rest s x P stop go = go refl

-- what every call but opening asks first
pub later_row : (inputs outputs : System) (own : Option ℕ) (s : State) (x : Outcome) (P : Outcome → Type 0) → ((number : ℕ) → P (refuse number s))
    → (s.frame.is_open ≡ true → as_opened inputs outputs s ≡ true → P (unless own s x)) → P (unless (later_refusal inputs outputs s own) s x)
later_row inputs outputs own s x P stop go =
    row (not s.frame.is_open) 8 _ s x P (λ _. stop 8) (λ a.
    row (not (as_opened inputs outputs s)) 9 _ s x P (λ _. stop 9) (λ b. go (not-false _ a) (not-false _ b)))

-- a field that is not open refuses each of these
pub not_open : (inputs outputs : System) (own : Option ℕ) (s : State) (x : Outcome) → s.frame.is_open ≡ false
    → unless (later_refusal inputs outputs s own) s x ≡ refuse 8 s
not_open inputs outputs own s x e =
    ap (λ (b : Bool). unless (cond (not b) (Some 8) (cond (not (as_opened inputs outputs s)) (Some 9) own)) s x) e

-- a first condition that holds gives the number
pub first_refuses : (b : Bool) (number : ℕ) (rest : Option ℕ) (s : State) (x : Outcome) → b ≡ true → unless (cond b (Some number) rest) s x ≡ refuse number s
first_refuses b number rest s x e = ap (λ (t : Bool). unless (cond t (Some number) rest) s x) e
