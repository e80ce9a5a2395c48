-- What can be seen of a field from outside.
use Rattle.std.specs.Prelude.{ℕ, ◌&&◌, Some, None, Option, nat_lt, if◌then◌else◌}
use Rattle.numbers.specs.declared.time.Time.{Time}
use Rattle.rules.specs.State.{State, input_at, output_at}

-- a number of an open field; 0 of one that is not open
abbrev pub of_open : State → ℕ → ℕ
of_open s x = if s.frame.is_open then x else 0

-- the clock of an input server, where there is one with that number
abbrev pub input_clock : State → ℕ → Option Time
input_clock s i =
    if s.frame.is_open && nat_lt i s.frame.counts.n then Some (input_at s i).clock else None

abbrev pub output_clock : State → ℕ → Option Time
output_clock s j =
    if s.frame.is_open && nat_lt j s.frame.counts.m then Some (output_at s j).clock else None
