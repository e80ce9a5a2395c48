-- The ranges of an open field's numbers, and of its lists' lengths. Every call keeps them,
-- whatever log and table it is lent.
use Rattle.std.specs.Prelude.{◌≡◌, ℕ, ◌+◌, ◌<◌, ◌≤◌, true, false, List, [], ◌∷◌, length, slice_index_or}
use Rattle.quorum.specs.Systems.{System, Lawful}
use Rattle.rules.specs.declared.pairs.Pair.{Pair}
use Rattle.numbers.specs.declared.version.Version.{Version}
use Rattle.rules.specs.Input.{Input, held, ledger, names, used}
use Rattle.numbers.specs.Numbers.{records, last_time, longest}
use Rattle.rules.specs.Output.{Output, link}
use Rattle.rules.specs.State.{State, input_at, output_at}
use Rattle.guarantee.specs.Story.{Call, outcome_of}

-- low ≤ x ≤ high
abbrev pub IsBetween : ℕ → ℕ → ℕ → Type 0
IsBetween low high x = (low ≤ x) × (x ≤ high)

abbrev pub IsVersion : Version → Type 0
IsVersion v = IsBetween 65536 4294967295 v.0

-- ---- the chains of an input server

-- a pair names an object that there is a place for, and a version
abbrev pub IsPair : Pair → Type 0
IsPair p = (p.object < 16) × IsVersion p.version

abbrev pub ArePairs : List Pair → Type 0
ArePairs [] = Unit {0}
ArePairs (p ∷ ps) = IsPair p × ArePairs ps

-- no object is named twice
abbrev pub NamesOnce : List Pair → Type 0
NamesOnce [] = Unit {0}
NamesOnce (p ∷ ps) = (names p.object ps ≡ false) × NamesOnce ps

pub record ChainBounds (chains : List (List Pair)) : Type 0 where
  pub places : length chains ≡ 8
  -- the records in use are no more than there are
  pub room : used chains ≤ records
  pub once : (j : ℕ) → NamesOnce (slice_index_or chains j [])
  pub pairs : (j : ℕ) → ArePairs (slice_index_or chains j [])

-- ---- servers

-- an input server of a field with that lease length, in which so many messages were made
pub record InputBounds (lease made : ℕ) (I : Input) : Type 0 where
  -- a place for each object, for each output server, and for each object in what an output server
  -- acknowledged
  pub objects : length I.objects ≡ 16
  pub ledgers : length I.ledgers ≡ 8
  pub last_acknowledged : (j : ℕ) → j < 8 → length (ledger I j).last_acknowledged ≡ 16
  pub clock : I.clock.0 ≤ last_time
  pub highest : IsBetween 1 65535 I.lc
  pub version : (o : ℕ) → o < 16 → IsVersion (held I o).version
  -- an epoch rises by one at most with a call that makes a message
  pub epoch : (j : ℕ) → j < 8 → IsBetween 1 (made + 1) (ledger I j).epoch.0
  -- no lease ends later than one that is granted now
  pub lease_end : (j : ℕ) → (ledger I j).lease_end.0 ≤ I.clock.0 + lease
  pub chains : ChainBounds I.waiting

pub record OutputBounds (O : Output) : Type 0 where
  -- a place for each object, for each input server, and for each object among the copies from an
  -- input server
  pub newest : length O.newest ≡ 16
  pub links : length O.links ≡ 8
  pub copies : (i : ℕ) → i < 8 → length (link O i).copies ≡ 16
  pub clock : O.clock.0 ≤ last_time
  pub lease_end : (i : ℕ) → (link O i).lease_end.0 ≤ last_time + longest

-- ---- the field

pub record Bounded (s : State) : Type 0 where
  pub n : IsBetween 1 8 s.frame.counts.n
  pub m : IsBetween 1 8 s.frame.counts.m
  pub k : IsBetween 1 16 s.frame.counts.k
  pub lease : IsBetween 1 longest s.frame.lease
  pub drift : s.frame.drift ≤ 999
  pub log_length : IsBetween 9 65535 s.frame.log_length
  pub table_length : IsBetween 1 1024 s.frame.table_length
  pub made : s.made ≤ s.frame.log_length
  pub begun : s.begun ≤ s.frame.table_length
  -- 8 places on each side, of which the first n and m are servers
  pub inputs : length s.inputs ≡ 8
  pub outputs : length s.outputs ≡ 8
  pub each_input : (i : ℕ) → i < 8 → InputBounds s.frame.lease s.made (input_at s i)
  pub each_output : (j : ℕ) → j < 8 → OutputBounds (output_at s j)

-- ---- what is kept

-- A field that is within its bounds if it is open is so after any call too. Nothing is asked of
-- the log and the table, nor of the calls before. Of a field that is not open nothing is asked at
-- all: opening puts it within its bounds.
abbrev pub BoundsKept : Type 0
BoundsKept =
    (inputs outputs : System) → Lawful inputs → Lawful outputs → (c : Call) (s : State)
    → (s.frame.is_open ≡ true → Bounded s)
    → (outcome_of inputs outputs c s).after.frame.is_open ≡ true → Bounded (outcome_of inputs outputs c s).after

-- Within the bounds no epoch is above 65,536.
abbrev pub EpochsFit : Type 0
EpochsFit = (s : State) → Bounded s → (i j : ℕ) → i < 8 → j < 8 → (ledger (input_at s i) j).epoch.0 ≤ 65536
