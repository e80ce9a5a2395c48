-- A field that is not yet open.
use Rattle.std.specs.Prelude.{false, List, []}
use Rattle.rules.specs.declared.message.Message.{Message}
use Rattle.rules.specs.Operation.{Operation}
use Rattle.rules.specs.State.{State}
use Rattle.field.specs.Servers.{first_inputs, first_outputs}

-- every number is 0, and every server in its first state
abbrev pub unopened : List Message → List Operation → State
unopened log table = record {
  frame = record {
    is_open = false;
    counts = record { n = 0; m = 0; k = 0 };
    lease = 0;
    drift = 0;
    log_length = 0;
    table_length = 0;
  };
  made = 0;
  begun = 0;
  inputs = first_inputs [];
  outputs = first_outputs [];
  log = log;
  table = table;
}
