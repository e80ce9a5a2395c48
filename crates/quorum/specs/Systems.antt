-- What a quorum system means, and the laws that each one shows.
use Rattle.std.specs.Prelude.{◌≡◌, ℕ, ◌+◌, ◌/◌, ◌^◌, ◌<◌, ◌≤◌, Bool, true, ◌&&◌, ◌==◌, count_ones, nat_le, nat_lt}
use Rattle.quorum.specs.Sets.{has, Within, full}

-- a count of members, and which sets read and which write
pub record System : Type 0 where
  pub count : ℕ
  pub reads : ℕ → Bool
  pub writes : ℕ → Bool

-- what is asked of one family of sets over n members
pub record Family (n : ℕ) (in_family : ℕ → Bool) : Type 0 where
  -- all members together are in it
  pub all : in_family (full n) ≡ true
  -- a set with a number outside the members is not
  pub inside : (s : ℕ) → in_family s ≡ true → s < 2 ^ n
  -- a set of members that contains a set of it is in it too
  pub upward : (s t : ℕ) → in_family s ≡ true → Within s t → t < 2 ^ n → in_family t ≡ true

pub record Lawful (q : System) : Type 0 where
  pub some : 1 ≤ q.count
  pub few : q.count ≤ 64
  pub read_family : Family q.count q.reads
  pub write_family : Family q.count q.writes
  -- every read set shares a member with every write set
  pub meet : (s t : ℕ) → q.reads s ≡ true → q.writes t ≡ true
      → (i : ℕ) × (i < q.count) × (has s i ≡ true) × (has t i ≡ true)

-- a set of at least k of n members
abbrev pub at_least : ℕ → ℕ → ℕ → Bool
at_least k n s = nat_lt s (2 ^ n) && nat_le k (count_ones s)

-- both families: at least floor(n / 2) + 1 of n members
abbrev pub majority : ℕ → System
majority n = record { count = n; reads = at_least (n / 2 + 1) n; writes = at_least (n / 2 + 1) n }

-- any set with a member reads, and only the full set writes
abbrev pub read_one_write_all : ℕ → System
read_one_write_all n = record { count = n; reads = at_least 1 n; writes = λ s. (s == full n) }
