-- The later calls of a field that is not yet open.
use Rattle.std.proofs.Common.{◌≡◌, ℕ, false, List, None, Option, ap}
use Rattle.quorum.specs.Systems.{System}
use Rattle.rules.specs.declared.message.Message.{Message}
use Rattle.rules.specs.Calls.{advancing, beginning_write, beginning_read, delivering}
use Rattle.rules.specs.State.{refuse}
use Rattle.operation.specs.declared.table.Operation.{Operation}
use Rattle.field.specs.declared.open_field.OpenField.{OpenField}
use Rattle.field.specs.Views.{field_of}
use Rattle.guarantee.proofs.Rows.{not_open}

module _ (i o : System) (f : Option OpenField) (log : List Message) (table : List Operation) (e : f ≡ None) where
  is_closed : (field_of f log table).frame.is_open ≡ false
  is_closed = ap (λ (x : Option OpenField). (field_of x log table).frame.is_open) e

  pub advance_closed : (xs : List ℕ) → advancing i o xs (field_of f log table) ≡ refuse 8 (field_of f log table)
  unfolding advancing
  advance_closed xs = not_open i o _ (field_of f log table) _ is_closed

  pub write_closed : (b x : ℕ) → beginning_write i o b x (field_of f log table) ≡ refuse 8 (field_of f log table)
  unfolding beginning_write
  write_closed b x = not_open i o _ (field_of f log table) _ is_closed

  pub read_closed : (b : ℕ) → beginning_read i o b (field_of f log table) ≡ refuse 8 (field_of f log table)
  unfolding beginning_read
  read_closed b = not_open i o _ (field_of f log table) _ is_closed

  pub delivery_closed : (number : ℕ) → delivering i o number (field_of f log table) ≡ refuse 8 (field_of f log table)
  unfolding delivering
  delivery_closed number = not_open i o _ (field_of f log table) _ is_closed
