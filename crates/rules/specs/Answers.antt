-- What an answer of a call says. Every promise about an answer goes by these.
use Rattle.std.specs.Prelude.{ℕ, Some, None, Option, Ok, Err, Result}
use Rattle.quorum.specs.declared.refusal.Refusal.{Refusal}
use Rattle.quorum.specs.Refusals.{number_of}
use Rattle.rules.specs.declared.delivery.Delivery.{Delivery}
use Rattle.rules.specs.declared.delivery.Delivery.TheVariants.{NothingEnded, WriteEnded, ReadEnded}
use Rattle.rules.specs.Said.{Said, refused, accepted, began, nothing_ended, write_ended, read_ended}

-- what the tests of a call say: the number of the first refusal, if there is one
abbrev pub refusal_said : Result (Unit {0}) Refusal → Option ℕ
refusal_said (Ok u) = None
refusal_said (Err e) = Some (number_of e)

-- an opening or an advance
abbrev pub acceptance : Result (Unit {0}) Refusal → Said
acceptance (Ok u) = accepted
acceptance (Err e) = refused (number_of e)

-- a beginning, which gives the operation's number
abbrev pub beginning_says : Result ℕ Refusal → Said
beginning_says (Ok p) = began p
beginning_says (Err e) = refused (number_of e)

abbrev pub end_of : Delivery → Said
end_of NothingEnded = nothing_ended
end_of (WriteEnded p v x) = write_ended p v.0 x
end_of (ReadEnded p v x) = read_ended p v.0 x

abbrev pub delivery_says : Result Delivery Refusal → Said
delivery_says (Ok d) = end_of d
delivery_says (Err e) = refused (number_of e)

-- a message that was handed to a server, with which no operation ends
abbrev pub handing_says : Result (Unit {0}) Refusal → Said
handing_says (Ok u) = nothing_ended
handing_says (Err e) = refused (number_of e)
