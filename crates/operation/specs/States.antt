-- The states of operations in code, as the rules speak of them.
use Rattle.rules.specs.Operation as Rules
use Rattle.rules.specs.Operation.{Asking, Sending, Reading, unused, asking, sending, reading, ended}
use Rattle.operation.specs.declared.asking.AskingWrite.{AskingWrite}
use Rattle.operation.specs.declared.sending.SendingWrite.{SendingWrite}
use Rattle.operation.specs.declared.read.Read.{Read}
use Rattle.operation.specs.declared.table.Operation.{Operation}
use Rattle.operation.specs.declared.table.Operation.TheVariants as Place

abbrev pub asking_of : AskingWrite → Asking
asking_of w = record {
  operation = w.operation;
  object = w.object;
  value = w.value;
  senders = w.senders.0;
  clock = w.clock;
}

abbrev pub sending_of : SendingWrite → Sending
sending_of w = record {
  operation = w.operation;
  object = w.object;
  version = w.version;
  value = w.value;
  named = w.named;
}

abbrev pub reading_of : Read → Reading
reading_of r = record {
  operation = r.operation;
  object = r.object;
  senders = r.senders.0;
  version = r.version;
  value = r.value;
}

-- a place of the table
abbrev pub operation_of : Operation → Rules.Operation
operation_of Place.Unused = unused
operation_of (Place.Asking w) = asking (asking_of w)
operation_of (Place.Sending w) = sending (sending_of w)
operation_of (Place.Reading r) = reading (reading_of r)
operation_of Place.Ended = ended
