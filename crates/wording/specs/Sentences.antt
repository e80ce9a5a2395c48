-- What is told of a message: who sends it, whether that asks, answers or tells, who gets it, and
-- what it says.
use Rattle.std.specs.Prelude.{ℕ, List, ◌++◌, codes, decimal}
use Rattle.rules.specs.declared.message.Message.{Message}
use Rattle.rules.specs.declared.message.Message.TheVariants.{ClockQuestion, ClockAnswer, WriteRequest, WriteAnswer, ReadRequest, ReadAnswer, RenewalRequest, RenewalAnswer, Invalidation, InvalidationAnswer}
use Rattle.quorum.specs.Words.{set_text}
use Rattle.wording.specs.Words.{write_name, read_name, input_name, output_name, version_text, versions_text, wanted_text, brought_text}

abbrev pub sender_text : Message → List ℕ
sender_text (ClockQuestion p i) = write_name p
sender_text (ClockAnswer i p clock) = input_name i
sender_text (WriteRequest p i o v x) = write_name p
sender_text (WriteAnswer i p s) = input_name i
sender_text (ReadRequest p j o) = read_name p
sender_text (ReadAnswer j p v x) = output_name j
sender_text (RenewalRequest j i r) = output_name j
sender_text (RenewalAnswer i j y) = input_name i
sender_text (Invalidation i j o v) = input_name i
sender_text (InvalidationAnswer j i l) = output_name j

abbrev pub verb_text : Message → List ℕ
verb_text (ClockQuestion p i) = codes "asks"
verb_text (ClockAnswer i p clock) = codes "answers"
verb_text (WriteRequest p i o v x) = codes "asks"
verb_text (WriteAnswer i p s) = codes "answers"
verb_text (ReadRequest p j o) = codes "asks"
verb_text (ReadAnswer j p v x) = codes "answers"
verb_text (RenewalRequest j i r) = codes "asks"
verb_text (RenewalAnswer i j y) = codes "answers"
verb_text (Invalidation i j o v) = codes "tells"
verb_text (InvalidationAnswer j i l) = codes "tells"

abbrev pub receiver_text : Message → List ℕ
receiver_text (ClockQuestion p i) = input_name i
receiver_text (ClockAnswer i p clock) = write_name p
receiver_text (WriteRequest p i o v x) = input_name i
receiver_text (WriteAnswer i p s) = write_name p
receiver_text (ReadRequest p j o) = output_name j
receiver_text (ReadAnswer j p v x) = read_name p
receiver_text (RenewalRequest j i r) = input_name i
receiver_text (RenewalAnswer i j y) = output_name j
receiver_text (Invalidation i j o v) = output_name j
receiver_text (InvalidationAnswer j i l) = input_name i

abbrev pub content_text : Message → List ℕ
content_text (ClockQuestion p i) = codes " for its clock"
content_text (ClockAnswer i p clock) = codes ": clock " ++ decimal clock
content_text (WriteRequest p i o v x) =
    codes " to hold " ++ version_text (record { object = o; version = v })
    ++ codes ", value " ++ decimal x
content_text (WriteAnswer i p s) = codes " and names as shut out: " ++ set_text s.0
content_text (ReadRequest p j o) = codes " for object " ++ decimal o
content_text (ReadAnswer j p v x) =
    codes ": version " ++ decimal v.0 ++ codes ", value " ++ decimal x
content_text (RenewalRequest j i r) =
    codes " for " ++ wanted_text r ++ codes ", stamped " ++ decimal r.stamp.0
content_text (RenewalAnswer i j y) = codes ": " ++ brought_text y
content_text (Invalidation i j o v) =
    codes " of " ++ version_text (record { object = o; version = v })
content_text (InvalidationAnswer j i l) = codes " that it knows " ++ versions_text l

abbrev pub sentence_of : Message → List ℕ
sentence_of e =
    sender_text e ++ codes " " ++ verb_text e ++ codes " " ++ receiver_text e ++ content_text e

abbrev pub line_of : ℕ → Message → List ℕ
line_of k e = codes "message " ++ decimal k ++ codes ": " ++ sentence_of e
