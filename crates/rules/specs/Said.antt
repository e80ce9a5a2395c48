-- What a call says. A refusal is known by its number; the end of an operation has its number,
-- version and value.
use Rattle.std.specs.Prelude.{ℕ}

pub data Said : Type 0 where
  refused : ℕ → Said
  accepted : Said
  began : ℕ → Said
  nothing_ended : Said
  write_ended : ℕ → ℕ → ℕ → Said
  read_ended : ℕ → ℕ → ℕ → Said
