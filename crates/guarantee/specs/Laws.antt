-- Laws of single calls and of single steps of a server, whatever the log and the table hold.
use Rattle.std.specs.Prelude.{◌≡◌, ℕ, ◌<◌, ◌≤◌, true, false, List, take, ◌≢◌}
use Rattle.quorum.specs.declared.member_set.MemberSet.{MemberSet}
use Rattle.quorum.specs.Sets.{has, set_of}
use Rattle.quorum.specs.Systems.{System}
use Rattle.rules.specs.declared.message.Message.TheVariants.{WriteAnswer, Invalidation}
use Rattle.rules.specs.declared.pairs.Pair.{Pair}
use Rattle.numbers.specs.declared.version.Version.{Version}
use Rattle.rules.specs.Calls.{operation_at}
use Rattle.rules.specs.Input.{Input, held, ledger, chain, last_acknowledged, is_shut_out, queues_for, answers_write, acknowledges_all}
use Rattle.rules.specs.Operation.{ended}
use Rattle.rules.specs.Output.{Output, newest_of, link, copy_of}
use Rattle.rules.specs.Said.{refused}
use Rattle.rules.specs.State.{State, input_at, output_at}
use Rattle.guarantee.specs.Bounds.{Bounded}
use Rattle.guarantee.specs.Story.{Call, outcome_of, Has}

-- what a call leaves of a field that is open
abbrev pub AfterCalls : (State → State → Type 0) → Type 0
AfterCalls R =
    (inputs outputs : System) (c : Call) (s : State) → s.frame.is_open ≡ true → R s (outcome_of inputs outputs c s).after

-- ---- refusals

-- A refusal leaves everything as it was: field, log and table, open or not.
abbrev pub RefusalsAlterNothing : Type 0
RefusalsAlterNothing =
    (inputs outputs : System) (c : Call) (s : State) (number : ℕ)
    → (outcome_of inputs outputs c s).said ≡ refused number → (outcome_of inputs outputs c s).after ≡ s

-- ---- operations and messages

-- No operation is taken back, and one that has ended stays ended.
pub record OperationsStay (s t : State) : Type 0 where
  pub begun : s.begun ≤ t.begun
  pub ended : (p : ℕ) → 1 ≤ p → p ≤ s.begun → operation_at s p ≡ ended → operation_at t p ≡ ended

abbrev pub EndedStaysEnded : Type 0
EndedStaysEnded = AfterCalls OperationsStay

-- No message is taken back, and those made so far stay as they are and where they are.
pub record MessagesStay (s t : State) : Type 0 where
  pub made : s.made ≤ t.made
  pub same : take s.made t.log ≡ take s.made s.log

abbrev pub LoggedStaysLogged : Type 0
LoggedStaysLogged = AfterCalls MessagesStay

-- ---- what never falls

-- at an input server: its clock, the highest clock that it took, each version held, what each
-- output server acknowledged, and each epoch
pub record InputRises (I J : Input) : Type 0 where
  pub clock : I.clock.0 ≤ J.clock.0
  pub highest : I.lc ≤ J.lc
  pub held : (o : ℕ) → (held I o).version.0 ≤ (held J o).version.0
  pub last_acknowledged : (j o : ℕ) → last_acknowledged I j o ≤ last_acknowledged J j o
  pub epoch : (j : ℕ) → (ledger I j).epoch.0 ≤ (ledger J j).epoch.0

-- at an output server: its clock, each newest version, and from each input server what is known,
-- the epochs of the copies, the lease's epoch and the lease's end
pub record OutputRises (O Q : Output) : Type 0 where
  pub clock : O.clock.0 ≤ Q.clock.0
  pub newest : (o : ℕ) → (newest_of O o).version.0 ≤ (newest_of Q o).version.0
  pub known : (i o : ℕ) → (copy_of (link O i) o).known.0 ≤ (copy_of (link Q i) o).known.0
  pub copy_epoch : (i o : ℕ) → (copy_of (link O i) o).epoch.0 ≤ (copy_of (link Q i) o).epoch.0
  pub lease_epoch : (i : ℕ) → (link O i).epoch.0 ≤ (link Q i).epoch.0
  pub end_of_lease : (i : ℕ) → (link O i).lease_end.0 ≤ (link Q i).lease_end.0

pub record ServersRise (s t : State) : Type 0 where
  pub inputs : (i : ℕ) → InputRises (input_at s i) (input_at t i)
  pub outputs : (j : ℕ) → OutputRises (output_at s j) (output_at t j)

abbrev pub NothingFalls : Type 0
NothingFalls = AfterCalls ServersRise

-- No lease that an input server granted is shortened, in a field within its bounds.
abbrev pub LeasesStand : Type 0
LeasesStand = AfterCalls (λ s t. Bounded s → (i j : ℕ) → (ledger (input_at s i) j).lease_end.0 ≤ (ledger (input_at t i) j).lease_end.0)

-- ---- who is told of a write, and who is named

-- Of the messages that input server i logs for the write p of o, every invalidation is of o,
-- carries the version held, and goes to an output server that is not shut out. So what is shut
-- out is sent none.
abbrev pub OnlyOthersAreTold : Type 0
OnlyOthersAreTold =
    (I : Input) (i p m o : ℕ) (k j q : ℕ) (v : Version) → Has (answers_write i p m o I) (Invalidation k j q v)
    → (k ≡ i) × (j < m) × (q ≡ o) × (v ≡ (held I o).version) × (is_shut_out I o j ≡ false)

-- And every output server that is not shut out is sent one.
abbrev pub AllOthersAreTold : Type 0
AllOthersAreTold =
    (I : Input) (i p m o j : ℕ) → j < m → is_shut_out I o j ≡ false
    → Has (answers_write i p m o I) (Invalidation i j o (held I o).version)

-- A write answer is among them.
abbrev pub WriteIsAnswered : Type 0
WriteIsAnswered = (I : Input) (i p m o : ℕ) → (t : MemberSet) × Has (answers_write i p m o I) (WriteAnswer i p t)

-- Every write answer among them goes to p and names exactly the output servers that are shut out.
abbrev pub AnswerNamesShutOut : Type 0
AnswerNamesShutOut =
    (I : Input) (i p m o : ℕ) (k q : ℕ) (t : MemberSet) → Has (answers_write i p m o I) (WriteAnswer k q t)
    → (k ≡ i) × (q ≡ p) × ((j : ℕ) → j < m → has t.0 j ≡ is_shut_out I o j) × ((j : ℕ) → m ≤ j → has t.0 j ≡ false)

-- So it is with the set that the answer is made with.
abbrev pub NamedIsShutOut : Type 0
NamedIsShutOut = (I : Input) (m o j : ℕ) → j < m → has (set_of m (is_shut_out I o)) j ≡ is_shut_out I o j

-- ---- what concerns one output server alone

-- everything that the input server keeps of the output servers other than b is as it was: their
-- chains, and in their ledgers what they acknowledged, their epochs and their lease ends. So are
-- all objects
pub record LeavesOthers (b : ℕ) (I J : Input) : Type 0 where
  pub objects : J.objects ≡ I.objects
  pub chain : (j : ℕ) → (b ≢ j) → chain J j ≡ chain I j
  pub ledger : (j : ℕ) → (b ≢ j) → ledger J j ≡ ledger I j

-- Queueing a pair for one output server leaves the others alone, and so does acknowledging from
-- one.
abbrev pub QueueingLeavesOthers : Type 0
QueueingLeavesOthers = (o b : ℕ) (I : Input) → LeavesOthers b I (queues_for o b I)

abbrev pub AcknowledgingLeavesOthers : Type 0
AcknowledgingLeavesOthers = (b : ℕ) (ps : List Pair) (I : Input) → LeavesOthers b I (acknowledges_all b ps I)
