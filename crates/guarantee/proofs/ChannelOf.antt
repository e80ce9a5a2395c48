-- The channel of input server i and output server j: what the two keep of each other, and what the messages between them say.
use Rattle.std.proofs.Common.{◌≡◌, ℕ, ◌<◌, ◌≤◌, true, ◌⊎◌, List, length}
use Rattle.rules.specs.declared.message.Message.{Message}
use Rattle.rules.specs.declared.message.Message.TheVariants.{ClockQuestion, ClockAnswer, WriteRequest, WriteAnswer, ReadRequest, ReadAnswer, RenewalRequest, RenewalAnswer, Invalidation, InvalidationAnswer}
use Rattle.rules.specs.declared.pairs.Pair.{Pair}
use Rattle.rules.specs.Input.{Input, held, ledger, chain, last_read, last_acknowledged}
use Rattle.rules.specs.Lists.{list_of}
use Rattle.rules.specs.Output.{Output, link, copy_of}
use Rattle.rules.specs.Renewals.{asks_object, asks_volume}
use Rattle.guarantee.proofs.Channel.{Has, Channel, Part, asked, copy, lease, answer}
use Rattle.guarantee.proofs.Words.{Any}

-- ---- which part is meant

abbrev pub IsAsked : ℕ → Part → Type 0
IsAsked s (asked t) = t ≡ s
IsAsked s (copy o v e) = ⊥
IsAsked s (lease t l e ps) = ⊥
IsAsked s (answer o v) = ⊥

abbrev pub IsCopy : ℕ → ℕ → ℕ → Part → Type 0
IsCopy o v e (asked t) = ⊥
IsCopy o v e (copy p u d) = (p ≡ o) × (u ≡ v) × (d ≡ e)
IsCopy o v e (lease t l d ps) = ⊥
IsCopy o v e (answer p u) = ⊥

abbrev pub IsLease : ℕ → ℕ → ℕ → List Pair → Part → Type 0
IsLease s l e ps (asked t) = ⊥
IsLease s l e ps (copy o v d) = ⊥
IsLease s l e ps (lease t k d qs) = (t ≡ s) × (k ≡ l) × (d ≡ e) × (qs ≡ ps)
IsLease s l e ps (answer o v) = ⊥

abbrev pub IsAnswer : List Pair → Part → Type 0
IsAnswer ps (asked t) = ⊥
IsAnswer ps (copy o v d) = ⊥
IsAnswer ps (lease t k d qs) = ⊥
IsAnswer ps (answer o v) = Has o v ps

-- the message says that part between i and j
abbrev pub Says : ℕ → ℕ → Part → Message → Type 0
Says i j p (ClockQuestion q k) = ⊥
Says i j p (ClockAnswer k q c) = ⊥
Says i j p (WriteRequest q k o v x) = ⊥
Says i j p (WriteAnswer k q s) = ⊥
Says i j p (ReadRequest q k o) = ⊥
Says i j p (ReadAnswer k q v x) = ⊥
Says i j p (RenewalRequest b a r) = (a ≡ i) × (b ≡ j) × (asks_volume r.parts ≡ true) × IsAsked r.stamp.0 p
Says i j p (RenewalAnswer a b y) =
    (a ≡ i) × (b ≡ j)
    × (((asks_object y.renewal.parts ≡ true) × IsCopy y.renewal.object y.version.0 y.epoch.0 p)
    ⊎ ((asks_volume y.renewal.parts ≡ true) × (1 ≤ y.length) × IsLease y.renewal.stamp.0 y.length y.epoch.0 (list_of y.list) p))
Says i j p (Invalidation a b o v) = ⊥
Says i j p (InvalidationAnswer b a ps) = (a ≡ i) × (b ≡ j) × IsAnswer (list_of ps) p

abbrev pub channel_of : Input → Output → ℕ → ℕ → List Message → Channel
channel_of I O i j log = record {
  held = λ o. (held I o).version.0;
  last_read = last_read I j;
  last_acknowledged = last_acknowledged I j;
  epoch = (ledger I j).epoch.0;
  granted = (ledger I j).lease_end.0;
  chain = chain I j;
  clock_in = I.clock.0;
  got = λ o. (copy_of (link O i) o).got.0;
  known = λ o. (copy_of (link O i) o).known.0;
  copy_epoch = λ o. (copy_of (link O i) o).epoch.0;
  lease_epoch = (link O i).epoch.0;
  end_of_lease = (link O i).lease_end.0;
  clock_out = O.clock.0;
  Sent = λ p. Any (Says i j p) log;
}

-- messages that say nothing between i and j
abbrev pub Quiet : ℕ → ℕ → List Message → Type 0
Quiet i j new = (p : Part) → Any (Says i j p) new → ⊥

-- ---- the servers' lists have a place for every server and object

pub record InputShape (I : Input) : Type 0 where
  pub objects : length I.objects ≡ 16
  pub ledgers : length I.ledgers ≡ 8
  pub last_acknowledged : (j : ℕ) → j < 8 → length (ledger I j).last_acknowledged ≡ 16
  pub waiting : length I.waiting ≡ 8

pub record OutputShape (O : Output) : Type 0 where
  pub newest : length O.newest ≡ 16
  pub links : length O.links ≡ 8
  pub copies : (i : ℕ) → i < 8 → length (link O i).copies ≡ 16
