-- An input server: what it keeps, who is shut out, and what it does with each kind of message.
use Rattle.std.specs.Prelude.{ℕ, zero, suc, ◌+◌, max, Bool, false, if◌then◌else◌, not, ◌&&◌, ◌||◌, List, [], ◌∷◌, ◌++◌, length, take, replicate, ◌==◌, nat_le, nat_lt, slice_index_or, slice_set}
use Rattle.quorum.specs.Sets.{set_of}
use Rattle.numbers.specs.declared.epoch.Epoch.{Epoch}
use Rattle.rules.specs.declared.kept.Held.{Held}
use Rattle.rules.specs.declared.kept.Ledger.{Ledger}
use Rattle.rules.specs.declared.message.Message.{Message}
use Rattle.rules.specs.declared.message.Message.TheVariants.{ClockAnswer, WriteAnswer, RenewalAnswer, Invalidation}
use Rattle.rules.specs.declared.parts.Parts.{Parts}
use Rattle.rules.specs.declared.pairs.Pair.{Pair}
use Rattle.rules.specs.declared.renewal.Renewal.{Renewal}
use Rattle.rules.specs.declared.renewal.Renewed.{Renewed}
use Rattle.numbers.specs.declared.time.Time.{Time}
use Rattle.numbers.specs.declared.version.Version.{Version}
use Rattle.rules.specs.Lists.{pairs, each}
use Rattle.numbers.specs.Numbers.{none, starting, records, shown, clock_of, raised}
use Rattle.rules.specs.Renewals.{asks_object, asks_volume}

pub record Input : Type 0 where
  pub clock : Time
  -- the highest clock of any version taken
  pub lc : ℕ
  -- for each object: version, value, and the highest version given to any output server
  pub objects : List Held
  -- for each output server: what it acknowledged of each object, its epoch, its lease's end
  pub ledgers : List Ledger
  -- for each output server: its chain of waiting invalidations
  pub waiting : List (List Pair)

abbrev pub no_held : Held
no_held = record { version = none; value = 0; last_read = none }

abbrev pub no_ledger : Ledger
no_ledger = record {
  last_acknowledged = [];
  epoch = record { 0 = 0 };
  lease_end = record { 0 = 0 };
}

-- ---- words

abbrev pub held : Input → ℕ → Held
held I o = slice_index_or I.objects o no_held

abbrev pub ledger : Input → ℕ → Ledger
ledger I j = slice_index_or I.ledgers j no_ledger

abbrev pub chain : Input → ℕ → List Pair
chain I j = slice_index_or I.waiting j []

-- the highest version of o given to an output server; all of them share one number
abbrev pub last_read : Input → ℕ → ℕ → ℕ
last_read I j o = (held I o).last_read.0

abbrev pub last_acknowledged : Input → ℕ → ℕ → ℕ
last_acknowledged I j o = (slice_index_or (ledger I j).last_acknowledged o none).0

-- output server j is shut out for o
abbrev pub is_shut_out : Input → ℕ → ℕ → Bool
is_shut_out I o j =
    (last_read I j o == 0)
    || (nat_lt (last_read I j o) (last_acknowledged I j o)
    || (nat_le (held I o).version.0 (last_acknowledged I j o)
    || nat_le (ledger I j).lease_end.0 I.clock.0))

-- ---- the chains

-- the chain names the object
abbrev pub names : ℕ → List Pair → Bool
names o [] = false
names o (p ∷ ps) = p.object == o || names o ps

-- the chain with the pair in the object's record, else at the end
abbrev pub queued : Pair → List Pair → List Pair
queued x [] = x ∷ []
queued x (p ∷ ps) = if p.object == x.object then x ∷ ps else p ∷ queued x ps

-- the chain without the object's record, if its version is not above v
abbrev pub freed : ℕ → Version → List Pair → List Pair
freed o v [] = []
freed o v (p ∷ ps) =
    if p.object == o && nat_le p.version.0 v.0 then freed o v ps else p ∷ freed o v ps

-- the records in use
abbrev pub used : List (List Pair) → ℕ
used [] = 0
used (c ∷ cs) = length c + used cs

-- the pair goes into the chain of j; false where the records ran out
abbrev pub fits : Pair → ℕ → List (List Pair) → Bool
fits x j cs = names x.object (slice_index_or cs j []) || nat_lt (used cs) records

-- ---- clock question

abbrev pub answers_clock : ℕ → ℕ → Input → List Message
answers_clock i p I = ClockAnswer i p I.lc ∷ []

-- ---- write request

-- take version and value if the version is above the one held
unfoldable pub takes_write : ℕ → Version → ℕ → Input → Input
takes_write o v x I =
    if nat_lt (held I o).version.0 v.0
    then record I {
      lc = max I.lc (clock_of v);
      objects = slice_set I.objects o (record (held I o) { version = v; value = x });
    }
    else I

-- j has to be told of a write of o
abbrev pub owed : Input → ℕ → ℕ → Bool
owed I o j = not (last_read I j o == 0) && nat_le (last_acknowledged I j o) (last_read I j o)

abbrev pub with_chain : ℕ → List Pair → Epoch → Input → Input
with_chain j c e I = record I {
  ledgers = slice_set I.ledgers j (record (ledger I j) { epoch = e });
  waiting = slice_set I.waiting j c;
}

-- queue o with the version held for j, or free the chain of j and begin its next epoch
unfoldable pub queues_for : ℕ → ℕ → Input → Input
queues_for o j I =
    let x : Pair = record { object = o; version = (held I o).version } in
    if owed I o j
    then (if fits x j I.waiting
    then with_chain j (queued x (chain I j)) (ledger I j).epoch I
    else with_chain j [] (record { 0 = (ledger I j).epoch.0 + 1 }) I)
    else I

-- the same for each output server below m, in rising order
unfoldable pub queues_all : ℕ → ℕ → Input → Input
queues_all o zero I = I
queues_all o (suc m) I = queues_for o m (queues_all o m I)

abbrev pub after_write : ℕ → ℕ → Version → ℕ → Input → Input
after_write m o v x I = queues_all o m (takes_write o v x I)

-- an invalidation to output server j, unless it is shut out
abbrev pub invalidation : ℕ → ℕ → Input → ℕ → List Message
invalidation i o I j = if is_shut_out I o j then [] else Invalidation i j o (held I o).version ∷ []

-- the same to each output server below m
abbrev pub invalidations : ℕ → ℕ → ℕ → Input → List Message
invalidations i m o I = each m (invalidation i o I)

-- what is logged, of the server as it is after the write
abbrev pub answers_write : ℕ → ℕ → ℕ → ℕ → Input → List Message
answers_write i p m o I =
    invalidations i m o I ++ WriteAnswer i p (record { 0 = set_of m (is_shut_out I o) }) ∷ []

-- ---- renewal request

-- a lease is granted where the chain fits into one list
abbrev pub grants : Parts → ℕ → Input → Bool
grants a j I = asks_volume a && nat_le (length (chain I j)) shown

-- the answer to output server j
abbrev pub renewed : ℕ → ℕ → Renewal → Input → Renewed
renewed lease j r I = record {
  renewal = r;
  version = if asks_object r.parts then (held I r.object).version else none;
  value = if asks_object r.parts then (held I r.object).value else 0;
  epoch = (ledger I j).epoch;
  length = if grants r.parts j I then lease else 0;
  list = if asks_volume r.parts then pairs (take shown (chain I j)) else pairs [];
}

abbrev pub answers_renewal : ℕ → ℕ → ℕ → Renewal → Input → List Message
answers_renewal i lease j r I = RenewalAnswer i j (renewed lease j r I) ∷ []

abbrev pub after_renewal : ℕ → ℕ → Renewal → Input → Input
after_renewal lease j r I =
    let h : Held = held I r.object in
    let end : Time = record { 0 = I.clock.0 + lease } in
    record I {
      objects =
          if asks_object r.parts
          then slice_set I.objects r.object (record h { last_read = h.version })
          else I.objects;
      ledgers =
          if grants r.parts j I
          then slice_set I.ledgers j (record (ledger I j) { lease_end = end })
          else I.ledgers;
    }

-- ---- invalidation answer

-- raise what j acknowledged, and free the record that this covers
abbrev pub acknowledges : ℕ → Pair → Input → Input
acknowledges j x I =
    let l : Ledger = ledger I j in
    let acked : Version = raised (slice_index_or l.last_acknowledged x.object none) x.version in
    let known : List Version = slice_set l.last_acknowledged x.object acked in
    record I {
      ledgers = slice_set I.ledgers j (record l { last_acknowledged = known });
      waiting = slice_set I.waiting j (freed x.object acked (chain I j));
    }

unfoldable pub acknowledges_all : ℕ → List Pair → Input → Input
acknowledges_all j [] I = I
acknowledges_all j (x ∷ xs) I = acknowledges_all j xs (acknowledges j x I)

-- ---- the first state

abbrev pub first_input : Time → Input
first_input clock = record {
  clock = clock;
  lc = 1;
  objects = replicate 16 (record { version = starting; value = 0; last_read = none });
  ledgers = replicate 8 (record {
    last_acknowledged = replicate 16 none;
    epoch = record { 0 = 1 };
    lease_end = record { 0 = 0 };
  });
  waiting = replicate 8 [];
}

abbrev pub later_input : ℕ → Input → Input
later_input increment I = record I { clock = record { 0 = I.clock.0 + increment } }
