-- The rules do something: four stories, each from a field that is not yet open, and what their
-- calls say. The guarantee speaks of each of them, so what it asks of a story can be met. Calls
-- are numbered from 0, messages and operations from 1. Beside a story's calls, "call 7" is one of
-- these calls, and what asks, brings or answers by a number, as in "6 asks for a copy", is the
-- message with that number in the story's log.
use Rattle.std.specs.Prelude.{◌≡◌, ℕ, zero, suc, ◌+◌, ◌*◌, false, List, [], ◌∷◌, ◌++◌, map, length, replicate}
use Rattle.quorum.specs.Systems.{Lawful, majority, read_one_write_all}
use Rattle.rules.specs.declared.kept.Ledger.{Ledger}
use Rattle.rules.specs.declared.message.Message.{Message}
use Rattle.rules.specs.declared.message.Message.TheVariants.{ClockQuestion, WriteAnswer, RenewalRequest, RenewalAnswer, Invalidation, InvalidationAnswer}
use Rattle.rules.specs.declared.parts.Parts.{Parts}
use Rattle.rules.specs.declared.parts.Parts.TheVariants.{Object, Volume}
use Rattle.rules.specs.declared.renewal.Renewal.{Renewal}
use Rattle.rules.specs.declared.renewal.Renewed.{Renewed}
use Rattle.rules.specs.declared.pairs.Pair.{Pair}
use Rattle.numbers.specs.declared.time.Time.{Time}
use Rattle.rules.specs.Calls.{message_at}
use Rattle.rules.specs.Input.{Input, chain}
use Rattle.rules.specs.Lists.{each, pairs}
use Rattle.numbers.specs.Numbers.{none, version_of}
use Rattle.rules.specs.Operation.{unused}
use Rattle.rules.specs.Said.{accepted, nothing_ended}
use Rattle.rules.specs.State.{State, input_at}
use Rattle.guarantee.specs.Endings.{written_before, WriteCompletes, ReadCompletes}
use Rattle.guarantee.specs.Story.{Story, Call, to_open, to_advance, to_write, to_read, to_deliver, before, said_at, BeginsWrite, BeginsRead, Gets, EndsWrite, EndsRead}

-- ---- words

-- a field that is not open; its log has room for so many messages, its table for so many operations
abbrev pub unopened : ℕ → ℕ → State
unopened messages operations = record {
  frame = record {
    is_open = false;
    counts = record { n = 0; m = 0; k = 0 };
    lease = 0;
    drift = 0;
    log_length = 0;
    table_length = 0;
  };
  made = 0;
  begun = 0;
  inputs = [];
  outputs = [];
  log = replicate messages (ClockQuestion 0 0);
  table = replicate operations unused;
}

-- so many start clocks, all 0
abbrev pub zeros : ℕ → List Time
zeros n = replicate n (record { 0 = 0 })

abbrev pub pair : ℕ → ℕ → Pair
pair object version = record { object = object; version = record { 0 = version } }

-- what is asked of object 0 at that time
abbrev pub asked_for : Parts → ℕ → Renewal
asked_for parts stamp = record { parts = parts; object = 0; stamp = record { 0 = stamp } }

-- an answer that brings a lease and a list, and no object
abbrev pub leased : ℕ → ℕ → ℕ → List Pair → Renewed
leased stamp epoch micros ps = record {
  renewal = asked_for Volume stamp;
  version = none;
  value = 0;
  epoch = record { 0 = epoch };
  length = micros;
  list = pairs ps;
}

-- these messages are delivered, one after the other
abbrev pub deliveries : List ℕ → List Call
deliveries = map to_deliver

-- with one input server, the four messages of a write, if the log has them from that number on:
-- the clock question, its answer, the write request, its answer
abbrev pub in_turn : ℕ → List Call
in_turn from = deliveries (from ∷ (from + 1) ∷ (from + 2) ∷ (from + 3) ∷ [])

-- input server 0 as call number t finds it: what call number t - 1 left
abbrev pub input_before : Story → ℕ → Input
input_before S t = input_at (before S t) 0

-- a message of the log that call number t finds
abbrev pub message_before : Story → ℕ → ℕ → Message
message_before S t number = message_at (before S t) number

-- the guarantee speaks of the story
pub record Covered (S : Story) : Type 0 where
  pub inputs : Lawful S.inputs
  pub outputs : Lawful S.outputs
  pub closed : S.start.frame.is_open ≡ false

-- ---- 1. a write, and then a read

-- One input server, one output server, one object, a lease of 1,000 microseconds, a drift of 10
-- thousandths.
unfoldable pub write_then_read : Story
write_then_read = record {
  inputs = majority 1;
  outputs = read_one_write_all 1;
  start = unopened 17 2;
  calls =
      to_open 1 1000 10 (zeros 2)
      -- call 1: a write, which makes the messages 1 to 4 of the log
      ∷ to_write 0 7
      ∷ in_turn 1
      -- call 6: a read. Its request is message 5. The output server has nothing: 6 asks for copy
      -- and lease, 7 brings them. The request is delivered again, and 8 answers it
      ++ to_read 0
      ∷ deliveries (5 ∷ 6 ∷ 7 ∷ 5 ∷ 8 ∷ []);
}

pub record WriteThenRead : Type 0 where
  pub covered : Covered write_then_read
  pub write_begins : BeginsWrite write_then_read 1 1 0 7
  pub write_gets : Gets write_then_read 3 1 131073
  pub write_ends : EndsWrite write_then_read 5 1 131073 7
  pub read_begins : BeginsRead write_then_read 6 2 0
  pub read_ends : EndsRead write_then_read 11 2 131073 7

-- ---- 2. a write under a live lease has to wait until the output server was told of it

-- The same field. The first calls are those of the first story.
unfoldable pub under_lease : Story
unfolding write_then_read
under_lease = record {
  inputs = majority 1;
  outputs = read_one_write_all 1;
  start = unopened 28 4;
  calls =
      write_then_read.calls
      -- call 12: a write. Its request, 11, is answered by 13, which names nobody; 12 is an
      -- invalidation
      ++ to_write 0 8
      ∷ deliveries (9 ∷ 10 ∷ 11 ∷ 13 ∷ [])
      -- call 17: the invalidation, and 14, which answers it. The request is delivered again, and
      -- answered by 15
      ++ deliveries (12 ∷ 14 ∷ 11 ∷ 15 ∷ [])
      -- call 21: a read, whose request is message 16. The lease is live and the copy is old: 17
      -- asks for a copy, 18 brings it, 19 answers
      ++ to_read 0
      ∷ deliveries (16 ∷ 17 ∷ 18 ∷ 16 ∷ 19 ∷ []);
}

pub record UnderLease : Type 0 where
  pub covered : Covered under_lease
  pub first_write_ends : EndsWrite under_lease 5 1 131073 7
  pub first_read_ends : EndsRead under_lease 11 2 131073 7
  pub write_begins : BeginsWrite under_lease 12 3 0 8
  pub write_gets : Gets under_lease 14 3 196611
  -- the write request tells the output server, and its answer does not name it
  pub invalidates : message_before under_lease 16 12 ≡ Invalidation 0 0 0 (record { 0 = 196611 })
  pub names_nobody : message_before under_lease 16 13 ≡ WriteAnswer 0 3 (record { 0 = 0 })
  pub not_yet : said_at under_lease 16 ≡ nothing_ended
  pub not_enough : written_before under_lease 3 17 ≡ false
  -- after the output server's answer it is named, and the write ends
  pub acknowledged : message_before under_lease 18 14 ≡ InvalidationAnswer 0 0 (pairs (pair 0 196611 ∷ []))
  pub names_it : message_before under_lease 20 15 ≡ WriteAnswer 0 3 (record { 0 = 1 })
  pub write_completes : WriteCompletes under_lease 20 3
  pub write_ends : EndsWrite under_lease 20 3 196611 8
  pub read_begins : BeginsRead under_lease 21 4 0
  pub read_completes : ReadCompletes under_lease 26 4
  pub read_ends : EndsRead under_lease 26 4 196611 8

-- ---- 3. a lease runs out, and an invalidation waits for the next one

-- The same field.
unfoldable pub lease_over : Story
lease_over = record {
  inputs = majority 1;
  outputs = read_one_write_all 1;
  start = unopened 24 3;
  calls =
      to_open 1 1000 10 (zeros 2)
      -- call 1: a read, whose request is message 1. 2 asks for copy and lease, 3 brings them, 4
      -- answers
      ∷ to_read 0
      ∷ deliveries (1 ∷ 2 ∷ 3 ∷ 1 ∷ 4 ∷ [])
      -- call 7: the lease runs out
      ++ to_advance (1000 ∷ 1000 ∷ [])
      -- call 8: a write, which makes the messages 5 to 8 of the log
      ∷ to_write 0 7
      ∷ in_turn 5
      -- call 13: a read, whose request is message 9. The lease is over: 10 asks for one, 11
      -- brings it with the invalidation that waited, 12 acknowledges that
      ++ to_read 0
      ∷ deliveries (9 ∷ 10 ∷ 11 ∷ 12 ∷ [])
      -- call 18: the request again. Now the copy is old: 13 asks for one, 14 brings it, 15 answers
      ++ deliveries (9 ∷ 13 ∷ 14 ∷ 9 ∷ 15 ∷ []);
}

pub record LeaseOver : Type 0 where
  pub covered : Covered lease_over
  pub first_read_begins : BeginsRead lease_over 1 1 0
  pub first_read_ends : EndsRead lease_over 6 1 65536 0
  pub time_passes : said_at lease_over 7 ≡ accepted
  pub write_begins : BeginsWrite lease_over 8 2 0 7
  pub write_gets : Gets lease_over 10 2 131074
  -- the write request finds the lease over: it names the output server, and leaves an
  -- invalidation waiting for it
  pub none_waits : chain (input_before lease_over 11) 0 ≡ []
  pub one_waits : chain (input_before lease_over 12) 0 ≡ pair 0 131074 ∷ []
  pub names_it : message_before lease_over 12 8 ≡ WriteAnswer 0 2 (record { 0 = 1 })
  pub write_ends : EndsWrite lease_over 12 2 131074 7
  -- the invalidation comes with the lease that the next read asks for
  pub read_begins : BeginsRead lease_over 13 3 0
  pub asked : message_before lease_over 15 10 ≡ RenewalRequest 0 0 (asked_for Volume 1000)
  pub brought : message_before lease_over 16 11
      ≡ RenewalAnswer 0 0 (leased 1000 1 1000 (pair 0 131074 ∷ []))
  pub acknowledged : message_before lease_over 17 12 ≡ InvalidationAnswer 0 0 (pairs (pair 0 131074 ∷ []))
  -- its record is free when the acknowledgement was delivered, and not before
  pub still_waits : chain (input_before lease_over 17) 0 ≡ pair 0 131074 ∷ []
  pub waits_no_more : chain (input_before lease_over 18) 0 ≡ []
  pub read_ends : EndsRead lease_over 22 3 131074 7

-- ---- 4. the records run out, and an epoch rises

-- One input server, eight output servers, nine objects: 72 invalidations would wait, and there
-- are 64 records.
unfoldable pub records_out : Story
records_out = record {
  inputs = majority 1;
  outputs = read_one_write_all 8;
  start = unopened 149 19;
  calls =
      to_open 9 1000 10 (zeros 9)
      -- call 1: a read of object 0, whose requests are the messages 1 to 8 of the log. For output
      -- server 0, 9 asks for copy and lease, 10 brings them, 11 answers
      ∷ to_read 0
      ∷ deliveries (1 ∷ 9 ∷ 10 ∷ 1 ∷ 11 ∷ [])
      -- calls 7, 10, .. 28: a read of each other object, with eight requests. The first goes to
      -- output server 0, which asks for a copy; it is given one
      ++ each 8 (λ i. to_read (1 + i) ∷ deliveries ((12 + 10 * i) ∷ (20 + 10 * i) ∷ []))
      -- call 31: the lease runs out
      ++ to_advance (replicate 9 1000)
      -- calls 32, 37, .. 72: a write of each object, with four messages
      ∷ each 9 (λ o. to_write o 7 ∷ in_turn (92 + 4 * o))
      -- call 77: a read of object 0, whose requests are the messages 128 to 135 of the log. For
      -- output server 0, 136 asks for a lease, 137 brings it
      ++ to_read 0
      ∷ deliveries (128 ∷ 136 ∷ 137 ∷ [])
      -- call 81: the request again. 138 asks for a copy, 139 brings it, 140 answers
      ++ deliveries (128 ∷ 138 ∷ 139 ∷ 128 ∷ 140 ∷ []);
}

-- for each output server, how many invalidations wait for it
abbrev pub waiting : Input → List ℕ
waiting I = map length I.waiting

-- for each output server, its epoch
abbrev pub epochs : Input → List ℕ
epochs I = map (λ (l : Ledger). l.epoch.0) I.ledgers

-- for every number below n
abbrev pub Below : ℕ → (ℕ → Type 0) → Type 0
Below zero P = Unit {0}
Below (suc n) P = Below n P × P n

pub record RecordsOut : Type 0 where
  pub covered : Covered records_out
  pub first_read_ends : EndsRead records_out 6 1 65536 0
  pub time_passes : said_at records_out 31 ≡ accepted
  -- every write ends
  pub writes_begin : Below 9 (λ o. BeginsWrite records_out (32 + 5 * o) (10 + o) o 7)
  pub writes_end : Below 9 (λ o. EndsWrite records_out (36 + 5 * o) (10 + o) (version_of (2 + o) (10 + o)).0 7)
  -- before the ninth write request all records are in use
  pub all_used : waiting (input_before records_out 75) ≡ replicate 8 8
  pub first_epochs : epochs (input_before records_out 75) ≡ replicate 8 1
  -- it finds no free record for output server 0: the chain is freed and the epoch rises,
  -- and each later output server gets a record of those that were freed
  pub some_freed : waiting (input_before records_out 76) ≡ 0 ∷ replicate 7 9
  pub next_epochs : epochs (input_before records_out 76) ≡ 2 ∷ replicate 7 1
  -- what was freed is not lost: the next lease brings no list but the new epoch, so that the old
  -- copy is asked for anew
  pub read_begins : BeginsRead records_out 77 19 0
  pub brought : message_before records_out 80 137
      ≡ RenewalAnswer 0 0 (leased 1000 2 1000 [])
  pub asked : message_before records_out 82 138 ≡ RenewalRequest 0 0 (asked_for Object 1000)
  pub read_ends : EndsRead records_out 85 19 131082 7

-- ---- all of it

pub record Alive : Type 0 where
  pub write_then_read_holds : WriteThenRead
  pub under_lease_holds : UnderLease
  pub lease_over_holds : LeaseOver
  pub records_out_holds : RecordsOut
