-- The smallest set of a family.
use Rattle.std.specs.Prelude.{◌≡◌, ℕ, ◌^◌, ◌<◌, ◌≤◌, Bool, true, count_ones}

-- Of the sets of n members that are in the family, none has fewer members than s, and none of as
-- many is lower as a number.
pub record Smallest (in_family : ℕ → Bool) (n s : ℕ) : Type 0 where
  pub inside : in_family s ≡ true
  pub fewest : (t : ℕ) → t < 2 ^ n → in_family t ≡ true → count_ones s ≤ count_ones t
  pub lowest : (t : ℕ) → t < 2 ^ n → in_family t ≡ true → count_ones t ≡ count_ones s → s ≤ t
