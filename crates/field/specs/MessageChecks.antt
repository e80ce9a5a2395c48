-- The tests of a delivery's operation, over the table alone.
use Rattle.std.specs.Prelude.{ℕ, ◌-◌, Bool, ◌&&◌, List, map, slice_index_or}
use Rattle.numbers.specs.Numbers.{between}
use Rattle.operation.specs.declared.table.Operation as Code
use Rattle.operation.specs.States.{operation_of}
use Rattle.rules.specs.Operation.{Operation, unused}
use Rattle.rules.specs.Ranges.{Counts, state_fits}

-- the state of operation p
abbrev pub place_of : List Code.Operation → ℕ → Operation
place_of table p = slice_index_or (map operation_of table) (p - 1) unused

-- p is one of the operations begun, and its state is in range
abbrev pub known_in : Counts → ℕ → List Code.Operation → ℕ → Bool
known_in c begun table p = between 1 begun p && state_fits c p (place_of table p)
