-- A field with the log and the table that it is lent, as the rules speak of it.
use Rattle.std.specs.Prelude.{List}
use Rattle.rules.specs.declared.message.Message.{Message}
use Rattle.rules.specs.State.{State}
use Rattle.operation.specs.declared.table.Operation.{Operation}
use Rattle.field.specs.declared.field.Field.{Field}
use Rattle.field.specs.Views.{field_of}

abbrev pub lent_to : Field → List Message → List Operation → State
lent_to f log table = field_of f.inside log table
