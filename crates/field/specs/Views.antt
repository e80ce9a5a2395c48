-- A field, open or not yet, with the log and the table that it is lent, as the rules speak of them.
use Rattle.std.specs.Prelude.{true, List, map, Some, None, Option}
use Rattle.rules.specs.declared.message.Message.{Message}
use Rattle.rules.specs.State.{Frame, State}
use Rattle.operation.specs.declared.table.Operation.{Operation}
use Rattle.operation.specs.States.{operation_of}
use Rattle.input_server.specs.declared.server.InputServer.{InputServer}
use Rattle.input_server.specs.Views.{input_of}
use Rattle.output_server.specs.declared.server.OutputServer.{OutputServer}
use Rattle.output_server.specs.Views.{output_of}
use Rattle.rules.specs.Counts.{counts_of}
use Rattle.rules.specs.Input.{Input}
use Rattle.rules.specs.Output.{Output}
use Rattle.field.specs.declared.open_field.OpenField.{OpenField}
use Rattle.field.specs.Unopened.{unopened}

abbrev pub inputs_of : List InputServer → List Input
inputs_of servers = map input_of servers

abbrev pub outputs_of : List OutputServer → List Output
outputs_of servers = map output_of servers

abbrev pub frame_of : OpenField → Frame
frame_of f = record {
  is_open = true;
  counts = counts_of f.counts;
  lease = f.lease.micros;
  drift = f.drift.thousandths;
  log_length = f.log_len;
  table_length = f.table_len;
}

abbrev pub state_of : OpenField → List Message → List Operation → State
state_of f log table = record {
  frame = frame_of f;
  made = f.made;
  begun = f.begun;
  inputs = inputs_of f.inputs;
  outputs = outputs_of f.outputs;
  log = log;
  table = map operation_of table;
}

abbrev pub field_of : Option OpenField → List Message → List Operation → State
field_of None log table = unopened log (map operation_of table)
field_of (Some f) log table = state_of f log table
