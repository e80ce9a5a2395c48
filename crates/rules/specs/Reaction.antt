-- What an operation makes of a message that it is handed.
use Rattle.std.specs.Prelude.{List, [], if◌then◌else◌, ℕ}
use Rattle.quorum.specs.Systems.{System}
use Rattle.rules.specs.declared.message.Message.{Message}
use Rattle.rules.specs.declared.message.Message.TheVariants.{ClockAnswer, WriteAnswer, ReadAnswer}
use Rattle.rules.specs.Operation.{Operation, asking, sending, reading, ended, Asking, Sending, Reading, hears_clock, knows_clock, gets_version, write_requests, hears_named, is_written, hears_pair, is_read}
use Rattle.rules.specs.Said.{Said, nothing_ended, write_ended, read_ended}

-- the state that it is in then, the messages that it sends, and what the delivery says
pub record Reaction : Type 0 where
  pub next : Operation
  pub sends : List Message
  pub said : Said

-- it goes on in this state, and sends nothing
abbrev pub goes_on : Operation → Reaction
goes_on x = record { next = x; sends = []; said = nothing_ended }

-- it sends its version to every input server
abbrev pub sends_version : System → Sending → Reaction
sends_version inputs w = record {
  next = sending w;
  sends = write_requests inputs.count w;
  said = nothing_ended;
}

-- it has ended
abbrev pub ends_with : Said → Reaction
ends_with said = record { next = ended; sends = []; said = said }

-- ---- an answer was heard: is it enough?

abbrev pub asks_next : System → Asking → Reaction
asks_next inputs a =
    if knows_clock inputs a then sends_version inputs (gets_version a) else goes_on (asking a)

abbrev pub sends_next : System → System → ℕ → Sending → Reaction
sends_next inputs outputs p w =
    if is_written inputs outputs w
    then ends_with (write_ended p w.version.0 w.value)
    else goes_on (sending w)

abbrev pub reads_next : System → ℕ → Reading → Reaction
reads_next outputs p r =
    if is_read outputs r then ends_with (read_ended p r.version.0 r.value) else goes_on (reading r)

-- any other message has no effect, and no message has on an operation that ended
abbrev pub reacts : System → System → Message → Operation → Reaction
reacts inputs outputs (ClockAnswer i p c) (asking a) = asks_next inputs (hears_clock i c a)
reacts inputs outputs (WriteAnswer i p t) (sending w) =
    sends_next inputs outputs p (hears_named i t w)
reacts inputs outputs (ReadAnswer j p v x) (reading r) = reads_next outputs p (hears_pair j v x r)
reacts inputs outputs m x = goes_on x
