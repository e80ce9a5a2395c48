-- A field with its lent log and table, and what a call says.
use Rattle.std.specs.Prelude.{ℕ, ◌+◌, Bool, List, length, slice_index_or, slice_set}
use Rattle.std.proofs.lemmas.List.Edits.{sets}
use Rattle.rules.specs.declared.message.Message.{Message}
use Rattle.rules.specs.Input.{Input, first_input}
use Rattle.rules.specs.Operation.{Operation}
use Rattle.rules.specs.Output.{Output, first_output}
use Rattle.rules.specs.Ranges.{Counts}
use Rattle.rules.specs.Said.{Said, refused}

-- what opening fixes
pub record Frame : Type 0 where
  pub is_open : Bool
  pub counts : Counts
  -- the lease length
  pub lease : ℕ
  pub drift : ℕ
  pub log_length : ℕ
  pub table_length : ℕ

pub record State : Type 0 where
  pub frame : Frame
  -- messages made, operations begun
  pub made : ℕ
  pub begun : ℕ
  pub inputs : List Input
  pub outputs : List Output
  pub log : List Message
  pub table : List Operation

-- what a call says, and what it leaves
pub record Outcome : Type 0 where
  pub said : Said
  pub after : State

abbrev pub outcome : Said → State → Outcome
outcome r s = record { said = r; after = s }

-- a refusal alters nothing
abbrev pub refuse : ℕ → State → Outcome
refuse number s = outcome (refused number) s

-- ---- parts of a state

abbrev pub no_input : Input
no_input = first_input (record { 0 = 0 })

abbrev pub no_output : Output
no_output = first_output (record { 0 = 0 })

abbrev pub input_at : State → ℕ → Input
input_at s i = slice_index_or s.inputs i no_input

abbrev pub output_at : State → ℕ → Output
output_at s j = slice_index_or s.outputs j no_output

-- ---- changes of a state

-- messages are logged after those made before
abbrev pub post : List Message → State → State
post new s = record s { made = s.made + length new; log = sets s.log s.made new }

abbrev pub with_input : ℕ → Input → State → State
with_input i I s = record s { inputs = slice_set s.inputs i I }

abbrev pub with_output : ℕ → Output → State → State
with_output j O s = record s { outputs = slice_set s.outputs j O }
