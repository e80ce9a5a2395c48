-- An open field that can take one message more.
use Rattle.std.specs.Prelude.{ℕ, ◌+◌, ◌<◌, ◌≤◌, List, length, slice_index_or}
use Rattle.numbers.specs.Numbers.{last_epoch, last_operation}
use Rattle.rules.specs.declared.message.Message.{Message}
use Rattle.rules.specs.Input.{ledger}
use Rattle.rules.specs.State.{no_input}
use Rattle.field.specs.declared.open_field.OpenField.{OpenField}
use Rattle.field.specs.Views.{inputs_of}

pub record Ready (f : OpenField) (log : List Message) : Type 0 where
  -- nine places of the log are free
  pub room : f.made + 9 ≤ length log
  -- every operation's number is in its range
  pub few : f.begun ≤ last_operation
  -- no epoch is the last one
  pub epochs : (i j : ℕ) → i < 8 → j < 8 → (ledger (slice_index_or (inputs_of f.inputs) i no_input) j).epoch.0 < last_epoch
