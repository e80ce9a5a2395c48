-- What making a system of n members gives: that system, or the refusal 10 of a count outside 1 to
-- 64.
use Rattle.std.specs.Prelude.{◌≡◌, ℕ, Bool, true, false, ◌&&◌, Ok, Err, Result, nat_le}
use Rattle.quorum.specs.declared.majority.Majority.{Majority}
use Rattle.quorum.specs.declared.member_count.MemberCount.{MemberCount}
use Rattle.quorum.specs.declared.read_one_write_all.ReadOneWriteAll.{ReadOneWriteAll}
use Rattle.quorum.specs.declared.refusal.Refusal.{Refusal}
use Rattle.quorum.specs.Refusals.{number_of}

abbrev pub is_count : ℕ → Bool
is_count n = nat_le 1 n && nat_le n 64

abbrev pub Made : {Q : Type 0} → (Q → ℕ) → ℕ → Result Q Refusal → Type 0
Made count_of n (Ok q) = (is_count n ≡ true) × (count_of q ≡ n)
Made count_of n (Err e) = (is_count n ≡ false) × (number_of e ≡ 10)

-- how many members a system was made with
abbrev pub member_count : MemberCount → ℕ
member_count c = c.count

abbrev pub majority_count : Majority → ℕ
majority_count q = member_count q.members

abbrev pub read_one_write_all_count : ReadOneWriteAll → ℕ
read_one_write_all_count q = member_count q.members
