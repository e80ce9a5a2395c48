-- Laws of an output server that gets a read request, whatever it keeps, whatever the systems are
-- and however many input servers there are. `answers_read inputs j p n o O` is what output server j
-- logs for the read p of object o, where there are n input servers.
use Rattle.std.specs.Prelude.{◌≡◌, ℕ, ◌<◌, ◌≤◌, true, ◌↔◌, List, [], ◌∷◌, length, slice_index_or}
use Rattle.quorum.specs.Sets.{has}
use Rattle.quorum.specs.Systems.{System, Lawful}
use Rattle.rules.specs.declared.message.Message.{Message}
use Rattle.rules.specs.declared.message.Message.TheVariants.{ReadRequest, ReadAnswer, RenewalRequest}
use Rattle.rules.specs.declared.renewal.Renewal.{Renewal}
use Rattle.rules.specs.declared.renewal.Renewed.{Renewed}
use Rattle.numbers.specs.declared.time.Time.{Time}
use Rattle.numbers.specs.declared.version.Version.{Version}
use Rattle.rules.specs.Calls.{no_message, receives}
use Rattle.rules.specs.Output.{Output, newest_of, link, copy_of, answers_read, after_answer, after_invalidation, first_output, later_output}
use Rattle.rules.specs.Renewals.{asks_object, asks_volume}
use Rattle.rules.specs.State.{State}
use Rattle.guarantee.specs.Story.{Has}

-- ---- the words of the rules, as facts

-- the copy of o from input server i is sound: something was got, nothing newer is known, and it
-- belongs to the lease's epoch or a later one
pub record HasSoundCopy (O : Output) (o i : ℕ) : Type 0 where
  pub got : 1 ≤ (copy_of (link O i) o).got.0
  pub newest : (copy_of (link O i) o).known.0 ≤ (copy_of (link O i) o).got.0
  pub epoch : (link O i).epoch.0 ≤ (copy_of (link O i) o).epoch.0

-- a lease from it is live
abbrev pub HasLease : Output → ℕ → Type 0
HasLease O i = O.clock.0 < (link O i).lease_end.0

-- it is good for o
abbrev pub IsGood : Output → ℕ → ℕ → Type 0
IsGood O o i = HasSoundCopy O o i × HasLease O i

-- the validity condition of o: nothing newer than the newest version is known from any input
-- server, and those that are good are a read set
pub record MayAnswer (inputs : System) (n : ℕ) (O : Output) (o : ℕ) : Type 0 where
  pub nothing_newer : (i : ℕ) → i < n
      → (copy_of (link O i) o).known.0 ≤ (newest_of O o).version.0
  pub members : ℕ
  pub are_good : (i : ℕ) → (has members i ≡ true) ↔ ((i < n) × IsGood O o i)
  pub read : inputs.reads members ≡ true

-- ---- when it answers

abbrev pub LogsReadAnswer : List Message → Type 0
LogsReadAnswer new = (j : ℕ) × (p : ℕ) × (v : Version) × (x : ℕ) × Has new (ReadAnswer j p v x)

-- A read answer is logged if and only if the validity condition holds.
abbrev pub AnswersIfItMay : Type 0
AnswersIfItMay =
    (inputs : System) (O : Output) (j p n o : ℕ)
    → LogsReadAnswer (answers_read inputs j p n o O) ↔ MayAnswer inputs n O o

-- Then it goes to the read, has the newest version and value, and is all that is logged.
abbrev pub AnswersOnceWithNewest : Type 0
AnswersOnceWithNewest =
    (inputs : System) (O : Output) (j p n o : ℕ) → MayAnswer inputs n O o
    → answers_read inputs j p n o O
    ≡ ReadAnswer j p (newest_of O o).version (newest_of O o).value ∷ []

-- ---- who is asked otherwise

-- it asks for exactly what is missing from input server i, with its clock as the stamp
pub record AsksForMissing (O : Output) (o i : ℕ) (r : Renewal) : Type 0 where
  pub object : r.object ≡ o
  pub stamp : r.stamp ≡ O.clock
  pub copy : (asks_object r.parts ≡ true) ↔ (HasSoundCopy O o i → ⊥)
  pub lease : (asks_volume r.parts ≡ true) ↔ (HasLease O i → ⊥)

-- Otherwise all that is logged are renewal requests to input servers that are not good, and each
-- asks for what is missing from the one that it goes to.
abbrev pub OnlyOthersAreAsked : Type 0
OnlyOthersAreAsked =
    (inputs : System) (O : Output) (j p n o : ℕ) → (MayAnswer inputs n O o → ⊥)
    → (x : Message) → Has (answers_read inputs j p n o O) x
    → (i : ℕ) × (r : Renewal)
    × (x ≡ RenewalRequest j i r) × (i < n) × (IsGood O o i → ⊥) × AsksForMissing O o i r

-- Every input server that is not good is asked.
abbrev pub AllOthersAreAsked : Type 0
AllOthersAreAsked =
    (inputs : System) (O : Output) (j p n o : ℕ) → (MayAnswer inputs n O o → ⊥)
    → (i : ℕ) → i < n → (IsGood O o i → ⊥)
    → (r : Renewal) × Has (answers_read inputs j p n o O) (RenewalRequest j i r)

-- They are asked in rising order, so none is asked twice.
abbrev pub AskedInRisingOrder : Type 0
AskedInRisingOrder =
    (inputs : System) (O : Output) (j p n o : ℕ) (a b : ℕ)
    → a < b → b < length (answers_read inputs j p n o O)
    → (k i l q : ℕ) (r s : Renewal)
    → slice_index_or (answers_read inputs j p n o O) a no_message ≡ RenewalRequest k i r
    → slice_index_or (answers_read inputs j p n o O) b no_message ≡ RenewalRequest l q s
    → i < q

-- ---- someone is asked

-- no version of o that was got from an input server below n is above the newest
abbrev pub GotIsCovered : ℕ → Output → ℕ → Type 0
GotIsCovered n O o =
    (i : ℕ) → i < n → (copy_of (link O i) o).got.0 ≤ (newest_of O o).version.0

-- Over a lawful system there is then someone to ask: no read request is answered by nothing at all.
abbrev pub SomeoneIsAsked : Type 0
SomeoneIsAsked =
    (inputs : System) (O : Output) (j p o : ℕ) → Lawful inputs → GotIsCovered inputs.count O o
    → (MayAnswer inputs inputs.count O o → ⊥)
    → (i : ℕ) × (r : Renewal) × Has (answers_read inputs j p inputs.count o O) (RenewalRequest j i r)

-- It is so in the first state, and neither a message nor an advance makes it otherwise, where there
-- is a place for the newest version of the object that an answer brings.
pub record GotStaysCovered (n o : ℕ) : Type 0 where
  pub first : (clock : Time) → GotIsCovered n (first_output clock) o
  pub answer : (drift i : ℕ) (y : Renewed) (O : Output)
      → y.renewal.object < length O.newest
      → GotIsCovered n O o → GotIsCovered n (after_answer drift i y O) o
  pub invalidation : (i q : ℕ) (v : Version) (O : Output)
      → GotIsCovered n O o → GotIsCovered n (after_invalidation i q v O) o
  pub advance : (increment : ℕ) (O : Output)
      → GotIsCovered n O o → GotIsCovered n (later_output increment O) o

abbrev pub GotIsAlwaysCovered : Type 0
GotIsAlwaysCovered = (n o : ℕ) → GotStaysCovered n o

-- ---- what stays

-- servers and operations are as they were
pub record ServersStay (s t : State) : Type 0 where
  pub inputs : t.inputs ≡ s.inputs
  pub outputs : t.outputs ≡ s.outputs
  pub begun : t.begun ≡ s.begun
  pub table : t.table ≡ s.table

-- A read request alters no server and no operation.
abbrev pub ReadRequestsAlterNothing : Type 0
ReadRequestsAlterNothing =
    (inputs outputs : System) (s : State) (p j o : ℕ)
    → ServersStay s (receives inputs outputs (ReadRequest p j o) s).after
