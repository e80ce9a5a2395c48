-- A story: some calls, made one after the other from a field that is not yet open, whatever its
-- log and table hold. What begins, gets a version and ends in it is read off the answers of the
-- calls and the messages that they log.
use Rattle.std.specs.Prelude.{◌≡◌, ℕ, zero, suc, ◌<◌, List, length, slice_index_or, slice_range}
use Rattle.quorum.specs.Systems.{System}
use Rattle.rules.specs.declared.message.Message.{Message}
use Rattle.rules.specs.declared.message.Message.TheVariants.{WriteRequest}
use Rattle.numbers.specs.declared.time.Time.{Time}
use Rattle.numbers.specs.declared.version.Version.{Version}
use Rattle.rules.specs.Calls.{opening, advancing, beginning_write, beginning_read, delivering}
use Rattle.rules.specs.Said.{Said, began, write_ended, read_ended}
use Rattle.rules.specs.State.{State, Outcome}

-- a call with all that is handed in beside field, log, table and systems
pub data Call : Type 0 where
  -- objects, lease length, drift, start clocks
  to_open : ℕ → ℕ → ℕ → List Time → Call
  -- one increment for each server
  to_advance : List ℕ → Call
  -- object, value
  to_write : ℕ → ℕ → Call
  -- object
  to_read : ℕ → Call
  -- the number of a message
  to_deliver : ℕ → Call

-- what a call says, and what it leaves
unfoldable pub outcome_of : System → System → Call → State → Outcome
outcome_of inputs outputs (to_open k lease drift clocks) s = opening inputs outputs k lease drift clocks s
outcome_of inputs outputs (to_advance increments) s = advancing inputs outputs increments s
outcome_of inputs outputs (to_write o x) s = beginning_write inputs outputs o x s
outcome_of inputs outputs (to_read o) s = beginning_read inputs outputs o s
outcome_of inputs outputs (to_deliver number) s = delivering inputs outputs number s

-- the same two systems are handed to every call, and nothing but the calls writes field, log and
-- table
pub record Story : Type 0 where
  pub inputs : System
  pub outputs : System
  pub start : State
  pub calls : List Call

-- ---- the calls of a story are numbered from 0

abbrev pub call_at : Story → ℕ → Call
call_at S t = slice_index_or S.calls t (to_deliver 0)

-- the state that call number t finds
abbrev pub before : Story → ℕ → State
before S zero = S.start
before S (suc t) = (outcome_of S.inputs S.outputs (call_at S t) (before S t)).after

abbrev pub said_at : Story → ℕ → Said
said_at S t = (outcome_of S.inputs S.outputs (call_at S t) (before S t)).said

-- the messages from number a (counted from 0) up to, and without, number b
abbrev pub part : ℕ → ℕ → List Message → List Message
part a b log = slice_range log a b

-- the messages that call number t logs
abbrev pub logged_at : Story → ℕ → List Message
logged_at S t = part (before S t).made (before S (suc t)).made (before S (suc t)).log

-- ---- what happens in a story

-- the list has the element at some place
abbrev pub Has : {A : Type 0} → List A → A → Type 0
Has l x = (k : ℕ) × (k < length l) × (slice_index_or l k x ≡ x)

-- call number t begins the write p of x to object o
pub record BeginsWrite (S : Story) (t p o x : ℕ) : Type 0 where
  pub made : t < length S.calls
  pub call : call_at S t ≡ to_write o x
  pub said : said_at S t ≡ began p

-- call number t begins the read p of object o
pub record BeginsRead (S : Story) (t p o : ℕ) : Type 0 where
  pub made : t < length S.calls
  pub call : call_at S t ≡ to_read o
  pub said : said_at S t ≡ began p

-- call number t begins the operation p as a write, or as a read, whatever the object and the value
abbrev pub BeginsAsWrite : Story → ℕ → ℕ → Type 0
BeginsAsWrite S t p = (o : ℕ) × (x : ℕ) × BeginsWrite S t p o x

abbrev pub BeginsAsRead : Story → ℕ → ℕ → Type 0
BeginsAsRead S t p = (o : ℕ) × BeginsRead S t p o

-- With call number t, a delivery, the operation p sends the version v: it logs a write request of p
-- with that version.
pub record Sends (S : Story) (t p v : ℕ) : Type 0 where
  pub made : t < length S.calls
  pub number : ℕ
  pub call : call_at S t ≡ to_deliver number
  pub input : ℕ
  pub object : ℕ
  pub version : Version
  pub value : ℕ
  pub is : version.0 ≡ v
  pub logged : Has (logged_at S t) (WriteRequest p input object version value)

-- With call number t the write p gets its version v: it sends v, and a call before began p as a
-- write. An operation that sends write requests is no write by that alone.
pub record Gets (S : Story) (t p v : ℕ) : Type 0 where
  pub sends : Sends S t p v
  pub begins : ℕ
  pub earlier : begins < t
  pub begun : BeginsAsWrite S begins p

-- with call number t the write p ends, with version v and value x
pub record EndsWrite (S : Story) (t p v x : ℕ) : Type 0 where
  pub made : t < length S.calls
  pub said : said_at S t ≡ write_ended p v x

-- with call number t the read p ends, with version v and value x
pub record EndsRead (S : Story) (t p v x : ℕ) : Type 0 where
  pub made : t < length S.calls
  pub said : said_at S t ≡ read_ended p v x
