-- What the answers of the states' calls say. Every promise about such an answer goes by these.
use Rattle.std.specs.Prelude.{◌≡◌, ℕ, Ok, Err, Result}
use Rattle.quorum.specs.declared.refusal.Refusal.{Refusal}
use Rattle.quorum.specs.Refusals.{number_of}
use Rattle.quorum.specs.Systems.{System}
use Rattle.operation.specs.declared.asking.AskingWrite.{AskingWrite}
use Rattle.operation.specs.declared.sending.SendingWrite.{SendingWrite}
use Rattle.operation.specs.declared.read.Read.{Read}
use Rattle.operation.specs.declared.progress.AskingProgress.{AskingProgress}
use Rattle.operation.specs.declared.progress.AskingProgress.TheVariants as A
use Rattle.operation.specs.declared.progress.Progress.{Progress}
use Rattle.operation.specs.declared.progress.Progress.TheVariants.{On, Ended}
use Rattle.operation.specs.declared.table.Operation.{Operation as Place}
use Rattle.operation.specs.declared.table.Reaction.{Reaction as PlaceStep}
use Rattle.operation.specs.declared.table.Reaction.TheVariants as R
use Rattle.operation.specs.Alone.{Handed, handed_back, taken}
use Rattle.operation.specs.States.{asking_of, sending_of, reading_of, operation_of}
use Rattle.rules.specs.Answers.{end_of}
use Rattle.rules.specs.Operation.{Operation, asking, sending, reading}
use Rattle.rules.specs.Reaction.{Reaction, goes_on, sends_version, ends_with}
use Rattle.rules.specs.Said.{write_ended, read_ended}

-- the very state that was given, alone where the refusal's number is 0, and beside the refusal
-- otherwise
abbrev pub Accepted : {State : Type 0} → ℕ → State → Result State (Refusal × State) → Type 0
Accepted number w (Ok s) = (number ≡ 0) × (s ≡ w)
Accepted number w (Err e) = (number ≡ number_of e.0) × (e.1 ≡ w)

-- a refusal hands back the very state that was given
abbrev pub HandsBack : {State Progress : Type 0}
    → State → Result Progress (Refusal × State) → Type 0
HandsBack w (Ok s) = Unit {0}
HandsBack w (Err e) = e.1 ≡ w

-- ---- what a step is as a reaction

abbrev pub asking_step : System → AskingProgress → Reaction
asking_step inputs (A.Asking w) = goes_on (asking (asking_of w))
asking_step inputs (A.Sending w) = sends_version inputs (sending_of w)

abbrev pub sending_step : Progress SendingWrite → Reaction
sending_step (On w) = goes_on (sending (sending_of w))
sending_step (Ended e) = ends_with (write_ended e.operation e.version.0 e.value)

abbrev pub read_step : Progress Read → Reaction
read_step (On r) = goes_on (reading (reading_of r))
read_step (Ended e) = ends_with (read_ended e.operation e.version.0 e.value)

abbrev pub place_step : System → PlaceStep → Reaction
place_step inputs (R.On x) = goes_on (operation_of x)
place_step inputs (R.Sends w) = sends_version inputs (sending_of w)
place_step inputs (R.Ends d) = ends_with (end_of d)

-- ---- a step, or a refusal with the state that it hands back

abbrev pub says : {State Progress : Type 0}
    → (State → Operation) → (Progress → Reaction) → Result Progress (Refusal × State) → Handed
says state step (Ok s) = taken (step s)
says state step (Err e) = handed_back (number_of e.0) (state e.1)

abbrev pub asking_says : System → Result AskingProgress (Refusal × AskingWrite) → Handed
asking_says inputs r = says (λ w. asking (asking_of w)) (asking_step inputs) r

abbrev pub sending_says : Result (Progress SendingWrite) (Refusal × SendingWrite) → Handed
sending_says r = says (λ w. sending (sending_of w)) sending_step r

abbrev pub read_says : Result (Progress Read) (Refusal × Read) → Handed
read_says r = says (λ x. reading (reading_of x)) read_step r

abbrev pub place_says : System → Result PlaceStep (Refusal × Place) → Handed
place_says inputs r = says operation_of (place_step inputs) r
