-- The number by which a refusal is known outside, and its text. Every promise about a refused
-- call goes by the number.
use Rattle.std.specs.Prelude.{ℕ, List, codes}
use Rattle.quorum.specs.declared.refusal.Refusal.{Refusal}
use Rattle.quorum.specs.declared.refusal.Refusal.TheVariants.{AlreadyOpen, TooManyMembers, ObjectCount, LeaseLength, DriftRange, StartClocks, Lengths, NotOpen, NotAsOpened, MemberCount, IncrementCount, PastLastTime, DriftBroken, NoSuchObject, TableFull, NoRoomToBegin, NoSuchMessage, NoRoomToDeliver, OutOfRange}

abbrev pub number_of : Refusal → ℕ
number_of AlreadyOpen = 1
number_of TooManyMembers = 2
number_of ObjectCount = 3
number_of LeaseLength = 4
number_of DriftRange = 5
number_of StartClocks = 6
number_of Lengths = 7
number_of NotOpen = 8
number_of NotAsOpened = 9
number_of MemberCount = 10
number_of IncrementCount = 11
number_of PastLastTime = 12
number_of DriftBroken = 13
number_of NoSuchObject = 21
number_of TableFull = 22
number_of NoRoomToBegin = 23
number_of NoSuchMessage = 31
number_of NoRoomToDeliver = 32
number_of OutOfRange = 33

-- what a refusal prints
abbrev pub text_of : Refusal → List ℕ
text_of AlreadyOpen = codes "the field is open already"
text_of TooManyMembers = codes "a quorum system has more than 8 members"
text_of ObjectCount = codes "there are 1 to 16 objects"
text_of LeaseLength = codes "a lease lasts 1 to 1,000,000,000 microseconds"
text_of DriftRange = codes "a drift is at most 999 thousandths"
text_of StartClocks = codes "each server starts with a clock of at most 2^40"
text_of Lengths = codes "a log has 9 to 65,535 places, and a table 1 to 1,024"
text_of NotOpen = codes "the field is not open"
text_of NotAsOpened = codes "log, table or systems are not those of the opening"
text_of MemberCount = codes "a quorum system has 1 to 64 members"
text_of IncrementCount = codes "an advance has one increment for each server"
text_of PastLastTime = codes "a clock would pass 2^40"
text_of DriftBroken = codes "two increments break the drift"
text_of NoSuchObject = codes "there is no such object"
text_of TableFull = codes "the table has no place left"
text_of NoRoomToBegin = codes "fewer than 9 places of the log are free to begin"
text_of NoSuchMessage = codes "there is no such message"
text_of NoRoomToDeliver = codes "fewer than 9 places of the log are free to deliver"
text_of OutOfRange = codes "a number of the message, or of its operation, is out of range"
