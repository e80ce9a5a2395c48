-- A list changed at one place.
use Rattle.std.proofs.Common.{◌≡◌, ℕ, zero, suc, ◌≤◌, List, [], ◌∷◌, length, set, refl, ap, arith}

-- a place beyond the list changes nothing
pub set_beyond : {A : Type 0} (l : List A) (i : ℕ) (x : A) → length l ≤ i → set l i x ≡ l
set_beyond [] i x h = refl
set_beyond (y ∷ l) zero x h = absurd (omega arith)
set_beyond (y ∷ l) (suc i) x h = ap (λ r. y ∷ r) (set_beyond l i x (omega arith))
