-- An operation: its states, what it gathers from answers, and when it ends.
use Rattle.std.specs.Prelude.{ℕ, ◌+◌, max, Bool, if◌then◌else◌, List, [], ◌∷◌, replicate, bit_or, nat_lt, slice_index_or, slice_set}
use Rattle.quorum.specs.declared.member_set.MemberSet.{MemberSet}
use Rattle.quorum.specs.Sets.{has, joined, set_of}
use Rattle.quorum.specs.Systems.{System}
use Rattle.rules.specs.declared.message.Message.{Message}
use Rattle.rules.specs.declared.message.Message.TheVariants.{ClockQuestion, WriteRequest, ReadRequest}
use Rattle.numbers.specs.declared.version.Version.{Version}
use Rattle.rules.specs.Lists.{each}
use Rattle.numbers.specs.Numbers.{none, version_of}

-- a write that asks for clocks: who answered, and the highest clock among the answers
pub record Asking : Type 0 where
  pub operation : ℕ
  pub object : ℕ
  pub value : ℕ
  pub senders : ℕ
  pub clock : ℕ

-- a write that sends its version: for each input server, the output servers that it named as shut
-- out
pub record Sending : Type 0 where
  pub operation : ℕ
  pub object : ℕ
  pub version : Version
  pub value : ℕ
  pub named : List MemberSet

-- a read: who answered, and the pair of highest version among the answers
pub record Reading : Type 0 where
  pub operation : ℕ
  pub object : ℕ
  pub senders : ℕ
  pub version : Version
  pub value : ℕ

pub data Operation : Type 0 where
  unused : Operation
  asking : Asking → Operation
  sending : Sending → Operation
  reading : Reading → Operation
  ended : Operation

-- ---- beginning

abbrev pub first_asking : ℕ → ℕ → ℕ → Asking
first_asking p o x = record { operation = p; object = o; value = x; senders = 0; clock = 0 }

abbrev pub first_reading : ℕ → ℕ → Reading
first_reading p o = record { operation = p; object = o; senders = 0; version = none; value = 0 }

-- a clock question to each input server below n
abbrev pub clock_questions : ℕ → ℕ → List Message
clock_questions p n = each n (λ i. ClockQuestion p i ∷ [])

-- a read request to each output server below m
abbrev pub read_requests : ℕ → ℕ → ℕ → List Message
read_requests p o m = each m (λ j. ReadRequest p j o ∷ [])

-- ---- clock answer from input server i

abbrev pub hears_clock : ℕ → ℕ → Asking → Asking
hears_clock i c a = record a { senders = joined a.senders i; clock = max a.clock c }

-- the senders are a read set, so the write can have its version
abbrev pub knows_clock : System → Asking → Bool
knows_clock inputs a = inputs.reads a.senders

-- the write with its version, which has named nobody yet
abbrev pub gets_version : Asking → Sending
gets_version a = record {
  operation = a.operation;
  object = a.object;
  version = version_of (a.clock + 1) a.operation;
  value = a.value;
  named = replicate 8 (record { 0 = 0 });
}

-- a write request to each input server below n
abbrev pub write_requests : ℕ → Sending → List Message
write_requests n w = each n (λ i. WriteRequest w.operation i w.object w.version w.value ∷ [])

-- ---- write answer from input server i

abbrev pub named_by : List MemberSet → ℕ → ℕ
named_by named i = (slice_index_or named i (record { 0 = 0 })).0

abbrev pub hears_named : ℕ → MemberSet → Sending → Sending
hears_named i s w =
    record w { named = slice_set w.named i (record { 0 = bit_or (named_by w.named i) s.0 }) }

-- output server j counts: the input servers below n that named it are a write set
abbrev pub counts : System → ℕ → List MemberSet → ℕ → Bool
counts inputs n named j = inputs.writes (set_of n (λ i. has (named_by named i) j))

-- the output servers below m that count are a write set
abbrev pub is_written : System → System → Sending → Bool
is_written inputs outputs w =
    outputs.writes (set_of outputs.count (counts inputs inputs.count w.named))

-- ---- read answer from output server j

abbrev pub hears_pair : ℕ → Version → ℕ → Reading → Reading
hears_pair j v x r = record r {
  senders = joined r.senders j;
  version = if nat_lt r.version.0 v.0 then v else r.version;
  value = if nat_lt r.version.0 v.0 then x else r.value;
}

abbrev pub is_read : System → Reading → Bool
is_read outputs r = outputs.reads r.senders
