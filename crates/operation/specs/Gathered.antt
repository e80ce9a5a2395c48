-- A set of members that a chain of iterators gathers.
use Rattle.std.specs.Prelude.{ℕ, Bool, filter, fold}
use Rattle.std.specs.List.{range_with_len}
use Rattle.quorum.specs.declared.member_set.MemberSet.{MemberSet}
use Rattle.quorum.specs.Chains.{with_member}

-- the numbers below n that pass a test, one after another
abbrev pub gathered : ℕ → (ℕ → Bool) → MemberSet
gathered n test = fold with_member (record { 0 = 0 }) (filter test (range_with_len 0 n))
