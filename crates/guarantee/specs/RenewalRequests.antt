-- Laws of an input server that gets a renewal request, whatever it keeps.
-- `answers_renewal i lease j r I` is what input server i logs for the request r of output server j,
-- with leases of that length, and `after_renewal lease j r I` is what it keeps from then on.
use Rattle.std.specs.Prelude.{◌≡◌, ℕ, ◌+◌, ◌<◌, ◌≤◌, true, false, [], ◌∷◌, length, take, ◌≢◌}
use Rattle.quorum.specs.Systems.{System}
use Rattle.rules.specs.declared.message.Message.TheVariants.{RenewalRequest, RenewalAnswer}
use Rattle.rules.specs.declared.renewal.Renewal.{Renewal}
use Rattle.rules.specs.declared.renewal.Renewed.{Renewed}
use Rattle.rules.specs.Calls.{receives}
use Rattle.rules.specs.Input.{Input, held, ledger, chain, answers_renewal, after_renewal}
use Rattle.rules.specs.Lists.{list_of}
use Rattle.rules.specs.Renewals.{asks_object, asks_volume}
use Rattle.rules.specs.State.{State, input_at}
use Rattle.numbers.specs.Numbers.{none, shown}

-- ---- the answer

-- the object part: the version and the value held where it is asked for, and otherwise 0 and 0
pub record GivesObject (I : Input) (r : Renewal) (y : Renewed) : Type 0 where
  pub version : asks_object r.parts ≡ true → y.version ≡ (held I r.object).version
  pub value : asks_object r.parts ≡ true → y.value ≡ (held I r.object).value
  pub no_version : asks_object r.parts ≡ false → y.version ≡ none
  pub no_value : asks_object r.parts ≡ false → y.value ≡ 0

-- the volume part: where it is asked for, the first 8 of what waits for j, in order, or all if
-- there are fewer; the lease length if that is all, and otherwise 0; where it is not asked for, 0
-- and nothing
pub record GivesVolume (lease j : ℕ) (I : Input) (r : Renewal) (y : Renewed) : Type 0 where
  pub list : asks_volume r.parts ≡ true → list_of y.list ≡ take shown (chain I j)
  pub granted : asks_volume r.parts ≡ true → length (chain I j) ≤ shown → y.length ≡ lease
  pub too_many : asks_volume r.parts ≡ true → shown < length (chain I j) → y.length ≡ 0
  pub no_list : asks_volume r.parts ≡ false → list_of y.list ≡ []
  pub no_length : asks_volume r.parts ≡ false → y.length ≡ 0

pub record GivesRenewal (lease j : ℕ) (I : Input) (r : Renewal) (y : Renewed) : Type 0 where
  -- parts, object and stamp are those of the request
  pub repeats : y.renewal ≡ r
  pub epoch : y.epoch ≡ (ledger I j).epoch
  pub object : GivesObject I r y
  pub volume : GivesVolume lease j I r y

-- One renewal answer to j is logged, and nothing else.
abbrev pub RenewalIsAnswered : Type 0
RenewalIsAnswered =
    (I : Input) (i lease j : ℕ) (r : Renewal)
    → (y : Renewed)
    × (answers_renewal i lease j r I ≡ RenewalAnswer i j y ∷ []) × GivesRenewal lease j I r y

-- ---- what the server keeps

-- What no renewal alters: the clock, the highest clock taken, every version and value held, all
-- that waits, all that was acknowledged and every epoch; nor does one alter the last read of
-- another object, or the lease end of another output server.
pub record StaysInRenewal (j : ℕ) (r : Renewal) (I J : Input) : Type 0 where
  pub clock : J.clock ≡ I.clock
  pub lc : J.lc ≡ I.lc
  pub version : (o : ℕ) → (held J o).version ≡ (held I o).version
  pub value : (o : ℕ) → (held J o).value ≡ (held I o).value
  pub waiting : J.waiting ≡ I.waiting
  pub last_acknowledged : (b : ℕ)
      → (ledger J b).last_acknowledged ≡ (ledger I b).last_acknowledged
  pub epoch : (b : ℕ) → (ledger J b).epoch ≡ (ledger I b).epoch
  pub other_objects : (o : ℕ) → r.object ≢ o → (held J o).last_read ≡ (held I o).last_read
  pub other_leases : (b : ℕ) → j ≢ b → (ledger J b).lease_end ≡ (ledger I b).lease_end

abbrev pub MostStaysInRenewal : Type 0
MostStaysInRenewal =
    (I : Input) (lease j : ℕ) (r : Renewal) → StaysInRenewal j r I (after_renewal lease j r I)

-- The last read of the object is the version held if the object part is asked for, and as it was if
-- not.
pub record ReadOfObject (r : Renewal) (I J : Input) : Type 0 where
  pub given : asks_object r.parts ≡ true
      → (held J r.object).last_read ≡ (held I r.object).version
  pub not_given : asks_object r.parts ≡ false
      → (held J r.object).last_read ≡ (held I r.object).last_read

abbrev pub LastReadIsGiven : Type 0
LastReadIsGiven =
    (I : Input) (lease j : ℕ) (r : Renewal) → ReadOfObject r I (after_renewal lease j r I)

-- The lease end of j, where there is a place for it, is one lease length after the clock if a
-- lease is granted: if the volume part is asked for and all that waits is shown. If not, it is as
-- it was.
pub record LeaseOfAsker (lease j : ℕ) (r : Renewal) (I J : Input) : Type 0 where
  pub granted : asks_volume r.parts ≡ true → length (chain I j) ≤ shown
      → j < length I.ledgers → (ledger J j).lease_end.0 ≡ I.clock.0 + lease
  pub too_many : asks_volume r.parts ≡ true → shown < length (chain I j)
      → (ledger J j).lease_end ≡ (ledger I j).lease_end
  pub not_asked : asks_volume r.parts ≡ false
      → (ledger J j).lease_end ≡ (ledger I j).lease_end

abbrev pub LeaseEndIsGranted : Type 0
LeaseEndIsGranted =
    (I : Input) (lease j : ℕ) (r : Renewal)
    → LeaseOfAsker lease j r I (after_renewal lease j r I)

-- ---- the other servers

-- all is as it was but input server i
pub record OthersStay (i : ℕ) (s t : State) : Type 0 where
  pub inputs : (k : ℕ) → i ≢ k → input_at t k ≡ input_at s k
  pub outputs : t.outputs ≡ s.outputs
  pub begun : t.begun ≡ s.begun
  pub table : t.table ≡ s.table

-- A renewal request alters no other server and no operation.
abbrev pub RenewalsAlterOne : Type 0
RenewalsAlterOne =
    (inputs outputs : System) (s : State) (j i : ℕ) (r : Renewal)
    → OthersStay i s (receives inputs outputs (RenewalRequest j i r) s).after
