-- When operations end: with the delivery that completes their quorums, no earlier, no later, and
-- once. What an operation has gathered is read off the calls of a story, what they say, and the
-- log; never off the table.
use Rattle.std.specs.Prelude.{◌≡◌, ℕ, zero, suc, ◌<◌, Bool, true, false, if◌then◌else◌, ◌↔◌, List, length, replicate, Some, None, Option, ◌==◌, bit_or, slice_set}
use Rattle.quorum.specs.declared.member_set.MemberSet.{MemberSet}
use Rattle.quorum.specs.Sets.{joined, set_of}
use Rattle.quorum.specs.Systems.{Lawful}
use Rattle.rules.specs.declared.message.Message.{Message}
use Rattle.rules.specs.declared.message.Message.TheVariants.{WriteAnswer, ReadAnswer}
use Rattle.rules.specs.Calls.{message_at}
use Rattle.rules.specs.Operation.{named_by, counts}
use Rattle.rules.specs.Said.{Said, refused}
use Rattle.rules.specs.State.{State}
use Rattle.guarantee.specs.Story.{Story, Call, to_deliver, call_at, before, said_at, EndsWrite, EndsRead}

-- ---- what is delivered

abbrev pub is_refusal : Said → Bool
is_refusal (refused number) = true
is_refusal said = false

-- the message that a call hands over
abbrev pub message_of : Call → State → Option Message
message_of (to_deliver number) s = Some (message_at s number)
message_of call s = None

-- the message that call number t delivers: there is one if the call is a delivery and is not
-- refused
abbrev pub delivered_at : Story → ℕ → Option Message
delivered_at S t = if is_refusal (said_at S t) then None else message_of (call_at S t) (before S t)

-- what was gathered, with what the message adds, if there is one
abbrev pub also_hears : {G : Type 0} → (Message → G → G) → Option Message → G → G
also_hears hears None gathered = gathered
also_hears hears (Some m) gathered = hears m gathered

-- what is gathered from the messages that the calls before number t delivered, one after the
-- other; `first` is there from the start
abbrev pub gathered_before : {G : Type 0} → G → (Message → G → G) → Story → ℕ → G
gathered_before first hears S zero = first
gathered_before first hears S (suc t) = also_hears hears (delivered_at S t) (gathered_before first hears S t)

-- ---- the quorums of a write

-- an input server names output servers to the write p by a write answer; what it names later
-- joins what it named before
abbrev pub hears_names : ℕ → Message → List MemberSet → List MemberSet
hears_names p (WriteAnswer i q s) named =
    if q == p then slice_set named i (record { 0 = bit_or (named_by named i) s.0 }) else named
hears_names p m named = named

-- for each of eight input servers, the output servers that it named to the write p by what was
-- delivered before call number t
abbrev pub named_before : Story → ℕ → ℕ → List MemberSet
named_before S p t = gathered_before (replicate 8 (record { 0 = 0 })) (hears_names p) S t

-- they are enough: the output servers that count are a write set, where one counts if the input
-- servers that named it are a write set
abbrev pub written_before : Story → ℕ → ℕ → Bool
written_before S p t =
    S.outputs.writes (set_of S.outputs.count (counts S.inputs S.inputs.count (named_before S p t)))

-- call number t completes the quorums of the write p: they were not complete before it, and they
-- are with it
pub record WriteCompletes (S : Story) (t p : ℕ) : Type 0 where
  pub made : t < length S.calls
  pub before : written_before S p t ≡ false
  pub after : written_before S p (suc t) ≡ true

-- ---- the quorum of a read

-- an output server answers the read p by a read answer
abbrev pub hears_answer : ℕ → Message → ℕ → ℕ
hears_answer p (ReadAnswer j q v x) answered = if q == p then joined answered j else answered
hears_answer p m answered = answered

-- the output servers that answered the read p by what was delivered before call number t
abbrev pub answered_before : Story → ℕ → ℕ → ℕ
answered_before S p t = gathered_before 0 (hears_answer p) S t

-- they are enough: a read set
abbrev pub read_before : Story → ℕ → ℕ → Bool
read_before S p t = S.outputs.reads (answered_before S p t)

-- call number t completes the quorum of the read p
pub record ReadCompletes (S : Story) (t p : ℕ) : Type 0 where
  pub made : t < length S.calls
  pub before : read_before S p t ≡ false
  pub after : read_before S p (suc t) ≡ true

-- ---- the law

-- Of operation number p. It may be any number: where no call begins a write p, no write answer to
-- p is ever delivered, so nothing completes and nothing ends; and likewise for a read.
pub record EndsWhenComplete (S : Story) (p : ℕ) : Type 0 where
  -- Call number t ends the write p if and only if it completes the quorums of p.
  pub write : (t : ℕ) → ((v : ℕ) × (x : ℕ) × EndsWrite S t p v x) ↔ WriteCompletes S t p
  -- Call number t ends the read p if and only if it completes the quorum of p.
  pub read : (t : ℕ) → ((v : ℕ) × (x : ℕ) × EndsRead S t p v x) ↔ ReadCompletes S t p
  -- No operation ends with two calls, and none ends both as a write and as a read.
  pub write_once : (t u v w x y : ℕ) → EndsWrite S t p v x → EndsWrite S u p w y → t ≡ u
  pub read_once : (t u v w x y : ℕ) → EndsRead S t p v x → EndsRead S u p w y → t ≡ u
  pub not_both : (t u v w x y : ℕ) → EndsWrite S t p v x → EndsRead S u p w y → ⊥

-- for every story
abbrev pub OperationsEndWhenComplete : Type 0
OperationsEndWhenComplete =
    (S : Story) → Lawful S.inputs → Lawful S.outputs → S.start.frame.is_open ≡ false → (p : ℕ) → EndsWhenComplete S p
