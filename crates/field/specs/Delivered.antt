-- A delivery that is not refused, and an operation that takes its message.
use Rattle.std.specs.Prelude.{◌≡◌, ℕ, ◌-◌, ◌≤◌, List, length, slice_index_or}
use Rattle.quorum.specs.Systems.{System}
use Rattle.rules.specs.declared.message.Message.{Message}
use Rattle.rules.specs.declared.message.Message.TheVariants.{ClockAnswer, WriteAnswer, ReadAnswer}
use Rattle.rules.specs.Calls.{no_message}
use Rattle.operation.specs.declared.table.Operation.{Operation}
use Rattle.operation.specs.Alone.{refusal_at}
use Rattle.field.specs.declared.open_field.OpenField.{OpenField}
use Rattle.field.specs.MessageChecks.{place_of}
use Rattle.field.specs.Ready.{Ready}

-- message number k of a log
abbrev pub numbered : List Message → ℕ → Message
numbered log k = slice_index_or log (k - 1) no_message

-- the message is an answer to operation p
abbrev pub IsAnswerTo : ℕ → Message → Type 0
IsAnswerTo p (ClockAnswer i q c) = q ≡ p
IsAnswerTo p (WriteAnswer i q s) = q ≡ p
IsAnswerTo p (ReadAnswer j q v x) = q ≡ p
IsAnswerTo p m = ⊥

-- what the tests of a delivery have found before it looks at its message
pub record Deliverable (inputs outputs : System) (f : OpenField) (log : List Message) (table : List Operation) (number : ℕ) : Type 0 where
  pub ready : Ready f log
  pub inputs_as : inputs.count ≡ f.counts.inputs.number
  pub outputs_as : outputs.count ≡ f.counts.outputs.number
  pub begun : f.begun ≤ length table
  pub low : 1 ≤ number
  pub high : number ≤ length log

-- operation p has a place in the table, and what is there takes the message
pub record Reached (inputs outputs : System) (table : List Operation) (p : ℕ) (m : Message) : Type 0 where
  pub begun : (1 ≤ p) × (p ≤ length table)
  pub accepts : refusal_at inputs outputs (place_of table p) m ≡ 0
