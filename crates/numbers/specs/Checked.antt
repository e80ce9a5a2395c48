-- What checking a number into a type of its own gives: the same number there, just where it is in
-- range.
use Rattle.std.specs.Prelude.{◌≡◌, ℕ, Bool, true, false, Ok, Err, Result, Some, None, Option}

abbrev pub Checked : {A E : Type 0} → (A → ℕ) → Bool → ℕ → Result A E → Type 0
Checked of fits x (Ok a) = (fits ≡ true) × (of a ≡ x)
Checked of fits x (Err e) = fits ≡ false

-- the same of a sum
abbrev pub Added : {A : Type 0} → (A → ℕ) → Bool → ℕ → Option A → Type 0
Added of fits x (Some a) = (fits ≡ true) × (of a ≡ x)
Added of fits x None = fits ≡ false
