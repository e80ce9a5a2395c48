-- Sets of members as numbers: binary place i stands for member i.
use Rattle.std.specs.Prelude.{◌≡◌, ℕ, zero, suc, ◌-◌, ◌/◌, ◌%◌, ◌^◌, Bool, true, if◌then◌else◌, ◌&&◌, ◌==◌, bit_or, nat_lt}

-- member i is in the set s
abbrev pub has : ℕ → ℕ → Bool
has s i = s / 2 ^ i % 2 == 1

-- every member of s is a member of t
abbrev pub Within : ℕ → ℕ → Type 0
Within s t = (i : ℕ) → has s i ≡ true → has t i ≡ true

-- all of n members
abbrev pub full : ℕ → ℕ
full n = 2 ^ n - 1

-- the set s with the member i; a set has places for the numbers below 64 alone
abbrev pub joined : ℕ → ℕ → ℕ
joined s i = if nat_lt i 64 then bit_or s (2 ^ i) else s

-- the numbers below n that pass a test
abbrev pub set_of : ℕ → (ℕ → Bool) → ℕ
set_of zero test = 0
set_of (suc n) test = if test n then bit_or (set_of n test) (2 ^ n) else set_of n test

-- every number below n passes a test
abbrev pub all_below : ℕ → (ℕ → Bool) → Bool
all_below zero test = true
all_below (suc n) test = all_below n test && test n
