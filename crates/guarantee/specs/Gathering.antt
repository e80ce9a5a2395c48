-- Laws of gathering: what answers leave of an operation, however often and in whatever order they
-- come. A range is asked for only where the law needs it.
use Rattle.std.specs.Prelude.{◌≡◌, ℕ, ◌+◌, ◌<◌, ◌≤◌, true, List, [], ◌∷◌, ◌≢◌}
use Rattle.quorum.specs.declared.member_set.MemberSet.{MemberSet}
use Rattle.quorum.specs.Systems.{System, Lawful}
use Rattle.numbers.specs.declared.version.Version.{Version}
use Rattle.numbers.specs.Numbers.{clock_of}
use Rattle.rules.specs.Operation.{Asking, Sending, Reading, hears_clock, knows_clock, gets_version, hears_named, is_written, hears_pair, is_read}
use Rattle.guarantee.specs.Story.{Has}

-- ---- the same answer twice

-- An answer that comes a second time changes nothing more.
abbrev pub ClockTwiceIsOnce : Type 0
ClockTwiceIsOnce = (i c : ℕ) (a : Asking) → hears_clock i c (hears_clock i c a) ≡ hears_clock i c a

abbrev pub NamedTwiceIsOnce : Type 0
NamedTwiceIsOnce = (i : ℕ) (s : MemberSet) (w : Sending) → hears_named i s (hears_named i s w) ≡ hears_named i s w

abbrev pub PairTwiceIsOnce : Type 0
PairTwiceIsOnce = (j : ℕ) (v : Version) (x : ℕ) (r : Reading) → hears_pair j v x (hears_pair j v x r) ≡ hears_pair j v x r

-- ---- two answers, either one first

-- Which of two answers comes first does not matter. (So no order of many matters: each is reached
-- from each other by changes of neighbours.)
abbrev pub ClocksInAnyOrder : Type 0
ClocksInAnyOrder = (i c k d : ℕ) (a : Asking) → hears_clock i c (hears_clock k d a) ≡ hears_clock k d (hears_clock i c a)

abbrev pub NamedInAnyOrder : Type 0
NamedInAnyOrder =
    (i k : ℕ) (s t : MemberSet) (w : Sending) → hears_named i s (hears_named k t w) ≡ hears_named k t (hears_named i s w)

-- Of a read: who answered, and the highest version. Between equal versions the pair that came
-- first stays, so the order can matter to the value, but between two different versions it does
-- not.
pub record SameButTheValue (q r : Reading) : Type 0 where
  pub operation : q.operation ≡ r.operation
  pub object : q.object ≡ r.object
  pub senders : q.senders ≡ r.senders
  pub version : q.version ≡ r.version

abbrev pub PairsInAnyOrder : Type 0
PairsInAnyOrder =
    (j k : ℕ) (v u : Version) (x y : ℕ) (r : Reading) → SameButTheValue (hears_pair j v x (hears_pair k u y r)) (hears_pair k u y (hears_pair j v x r))

abbrev pub UnequalPairsInAnyOrder : Type 0
UnequalPairsInAnyOrder =
    (j k : ℕ) (v u : Version) (x y : ℕ) (r : Reading) → (v.0 ≢ u.0)
    → hears_pair j v x (hears_pair k u y r) ≡ hears_pair k u y (hears_pair j v x r)

-- ---- a complete quorum

-- More answers never undo a complete quorum, in any two systems with the laws: not the clocks of
-- a read set,
abbrev pub ClockStaysKnown : Type 0
ClockStaysKnown =
    (inputs : System) → Lawful inputs → (i c : ℕ) (a : Asking) → i < inputs.count
    → knows_clock inputs a ≡ true → knows_clock inputs (hears_clock i c a) ≡ true

-- not the output servers that count as a write set,
abbrev pub WrittenStaysWritten : Type 0
WrittenStaysWritten =
    (inputs outputs : System) → Lawful inputs → Lawful outputs → (i : ℕ) (s : MemberSet) (w : Sending)
    → is_written inputs outputs w ≡ true → is_written inputs outputs (hears_named i s w) ≡ true

-- and not the answers of a read set.
abbrev pub ReadStaysRead : Type 0
ReadStaysRead =
    (outputs : System) → Lawful outputs → (j : ℕ) (v : Version) (x : ℕ) (r : Reading) → j < outputs.count
    → is_read outputs r ≡ true → is_read outputs (hears_pair j v x r) ≡ true

-- ---- the version that a write gets

-- one clock answer
pub record ClockSaid : Type 0 where
  pub input : ℕ
  pub clock : ℕ

-- the clock answers one after the other
abbrev pub hears_clocks : List ClockSaid → Asking → Asking
hears_clocks [] a = a
hears_clocks (x ∷ xs) a = hears_clocks xs (hears_clock x.input x.clock a)

-- The clock of the version is one above the highest clock gathered,
abbrev pub VersionIsNext : Type 0
VersionIsNext = (a : Asking) → a.operation < 65536 → clock_of (gets_version a).version ≡ a.clock + 1

-- so it is above each clock that the write heard, whatever else it heard before and after,
abbrev pub VersionAboveClocks : Type 0
VersionAboveClocks =
    (answers : List ClockSaid) (a : Asking) (x : ClockSaid) → a.operation < 65536 → Has answers x
    → x.clock < clock_of (gets_version (hears_clocks answers a)).version

-- and the version is above every version that has such a clock.
abbrev pub VersionAboveVersions : Type 0
VersionAboveVersions =
    (answers : List ClockSaid) (a : Asking) (x : ClockSaid) (v : Version) → a.operation < 65536 → Has answers x
    → clock_of v ≤ x.clock → v.0 < (gets_version (hears_clocks answers a)).version.0
