-- An opening that is not refused.
use Rattle.std.specs.Prelude.{◌≡◌, ℕ, ◌+◌, ◌≤◌, true, List, length}
use Rattle.numbers.specs.declared.time.Time.{Time}
use Rattle.numbers.specs.Numbers.{longest}
use Rattle.rules.specs.Calls.{clocks_fit}
use Rattle.rules.specs.State.{Frame}

-- the numbers handed in are in their ranges
pub record OpeningFits (n m k lease drift : ℕ) (clocks : List Time) : Type 0 where
  pub n_most : n ≤ 8
  pub m_most : m ≤ 8
  pub k_most : k ≤ 16
  pub short : lease ≤ longest
  pub slow : drift ≤ 999
  pub count : length clocks ≡ n + m
  pub shown : clocks_fit clocks ≡ true

-- what it fixes
abbrev pub opened_frame : ℕ → ℕ → ℕ → ℕ → ℕ → ℕ → ℕ → Frame
opened_frame n m k lease drift log_length table_length = record {
  is_open = true;
  counts = record { n = n; m = m; k = k };
  lease = lease;
  drift = drift;
  log_length = log_length;
  table_length = table_length;
}
