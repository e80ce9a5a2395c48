-- What one input and one output hold of each other, and the messages between them: a channel.
-- `L` is the lease length, `R` is 1000 less the drift.
use Rattle.std.proofs.Common.{◌≡◌, ℕ, ◌+◌, ◌*◌, ◌/◌, ◌<◌, ◌≤◌, ◌⊎◌, List, [], ◌∷◌}
use Rattle.rules.specs.declared.pairs.Pair.{Pair}

-- the list holds the pair of object and version
abbrev pub Has : ℕ → ℕ → List Pair → Type 0
Has o v [] = ⊥
Has o v (x ∷ r) = ((x.object ≡ o) × (x.version.0 ≡ v)) ⊎ Has o v r

-- what a message between the two can say
pub data Part : Type 0 where
  -- the output asked for a lease at that time of its clock
  asked : ℕ → Part
  -- the input gave object, version, epoch
  copy : ℕ → ℕ → ℕ → Part
  -- the input granted a lease: stamp, length, epoch, list
  lease : ℕ → ℕ → ℕ → List Pair → Part
  -- the output acknowledged object, version
  answer : ℕ → ℕ → Part

pub record Channel : Type 1 where
  -- the input's
  pub held : ℕ → ℕ
  pub last_read : ℕ → ℕ
  pub last_acknowledged : ℕ → ℕ
  pub epoch : ℕ
  pub granted : ℕ
  pub chain : List Pair
  pub clock_in : ℕ
  -- the output's
  pub got : ℕ → ℕ
  pub known : ℕ → ℕ
  pub copy_epoch : ℕ → ℕ
  pub lease_epoch : ℕ
  pub end_of_lease : ℕ
  pub clock_out : ℕ
  -- the log's
  pub Sent : Part → Type 0

abbrev pub fin : ℕ → ℕ → ℕ → ℕ
fin R s l = s + (l * R) / 1000

-- the lease that the output goes by comes from a volume part of which it knows every pair
pub record Grant (R : ℕ) (V : Channel) (t k : ℕ) (known : ℕ → ℕ) : Type 0 where
  pub s : ℕ
  pub l : ℕ
  pub e : ℕ
  pub ps : List Pair
  pub sent : V.Sent (lease s l e ps)
  pub ends : fin R s l ≡ t
  pub old : e ≤ k
  pub told : (o v : ℕ) → Has o v ps → v ≤ known o

pub record Inv (L R : ℕ) (V : Channel) : Type 0 where
  pub given_held : (o : ℕ) → V.last_read o ≤ V.held o
  pub acked_known : (o : ℕ) → V.last_acknowledged o ≤ V.known o
  pub answered : (o v : ℕ) → V.Sent (answer o v) → v ≤ V.known o
  pub got_known : (o : ℕ) → V.got o ≤ V.known o
  pub got_source : (o : ℕ) → (V.got o ≡ 0) ⊎ ((e : ℕ) × V.Sent (copy o (V.got o) e))
  pub copy_source : (o : ℕ) → (V.copy_epoch o ≡ 0) ⊎ ((v : ℕ) × V.Sent (copy o v (V.copy_epoch o)) × (v ≤ V.known o))
  pub lease_source : (V.end_of_lease ≡ 0) ⊎ Grant R V V.end_of_lease V.lease_epoch V.known
  pub epoch_pos : 1 ≤ V.epoch
  pub copy_ok : (o v e : ℕ) → V.Sent (copy o v e) → (1 ≤ v) × (v ≤ V.last_read o) × (e ≤ V.epoch)
  pub lease_ok : (s l e : ℕ) (ps : List Pair) → V.Sent (lease s l e ps) → (l ≡ L) × (1 ≤ e) × (s ≤ V.clock_out)
  pub drift : (s l e : ℕ) (ps : List Pair) → V.Sent (lease s l e ps) → R * (V.clock_in + L) + 1000 * s ≤ R * V.granted + 1000 * V.clock_out
  pub asked_ok : (s : ℕ) → V.Sent (asked s) → s ≤ V.clock_out

-- what a step may newly say
abbrev pub Fresh : ℕ → Channel → Channel → Part → Type 0
Fresh L V W (asked s) = s ≤ V.clock_out
Fresh L V W (copy o v e) = (1 ≤ v) × (v ≡ W.held o) × (v ≡ W.last_read o) × (e ≡ W.epoch)
Fresh L V W (lease s l e ps) = V.Sent (asked s) × (l ≡ L) × (e ≡ W.epoch) × (W.granted ≡ W.clock_in + L) × ((o v : ℕ) → Has o v W.chain → Has o v ps)
Fresh L V W (answer o v) = v ≤ W.known o

-- how one step of any server may change a channel
pub record Moves (L R : ℕ) (V W : Channel) : Type 0 where
  pub held_up : (o : ℕ) → V.held o ≤ W.held o
  pub known_up : (o : ℕ) → V.known o ≤ W.known o
  pub epoch_up : V.epoch ≤ W.epoch
  pub lease_epoch_up : V.lease_epoch ≤ W.lease_epoch
  pub clock_up : V.clock_out ≤ W.clock_out
  pub drifts : R * W.clock_in + 1000 * V.clock_out ≤ R * V.clock_in + 1000 * W.clock_out
  pub given_set : (o : ℕ) → (W.last_read o ≡ V.last_read o) ⊎ (W.last_read o ≡ W.held o)
  pub acknowledged_from : (o : ℕ) → (W.last_acknowledged o ≡ V.last_acknowledged o) ⊎ V.Sent (answer o (W.last_acknowledged o))
  pub got_from : (o : ℕ) → (W.got o ≡ V.got o) ⊎ ((e : ℕ) × V.Sent (copy o (W.got o) e) × (W.got o ≤ W.known o))
  pub copy_from : (o : ℕ) → (W.copy_epoch o ≡ V.copy_epoch o) ⊎ ((v : ℕ) × V.Sent (copy o v (W.copy_epoch o)) × (v ≤ W.known o))
  pub lease_end_from : (W.end_of_lease ≡ V.end_of_lease) ⊎ Grant R V W.end_of_lease W.lease_epoch W.known
  pub granted_set : (W.granted ≡ V.granted) ⊎ (W.granted ≡ W.clock_in + L)
  pub chain_kept : (o v : ℕ) → Has o v V.chain →
      ((u : ℕ) × Has o u W.chain × ((v ≤ u) ⊎ (u ≡ W.held o))) ⊎ (v ≤ W.last_acknowledged o) ⊎ (V.epoch < W.epoch)
  pub kept : (p : Part) → V.Sent p → W.Sent p
  pub fresh : (p : Part) → W.Sent p → V.Sent p ⊎ Fresh L V W p

-- no copy below the version `w` of the object can be good any more
abbrev pub Older : Channel → ℕ → ℕ → ℕ → Type 0
Older V o w k = (v e : ℕ) → V.Sent (copy o v e) → v < w → e < k

abbrev pub Known : Channel → ℕ → ℕ → Type 0
Known V o w = (v e : ℕ) → V.Sent (copy o v e) → (w ≤ v) ⊎ (v < V.known o)

pub record Dead (R : ℕ) (V : Channel) (o w : ℕ) : Type 0 where
  pub sent : (s l e : ℕ) (ps : List Pair) → V.Sent (lease s l e ps) → (fin R s l ≤ V.clock_out) ⊎ ((v : ℕ) × Has o v ps × (w ≤ v)) ⊎ Older V o w e
  pub next : ((v : ℕ) × Has o v V.chain × (w ≤ v)) ⊎ Older V o w V.epoch

pub record Fenced (R : ℕ) (V : Channel) (o w : ℕ) : Type 0 where
  pub holds : w ≤ V.held o
  pub why : Known V o w ⊎ Dead R V o w

pub record Good (V : Channel) (o : ℕ) : Type 0 where
  pub copied : 1 ≤ V.got o
  pub sound : V.known o ≤ V.got o
  pub fresh : V.lease_epoch ≤ V.copy_epoch o
  pub live : V.clock_out < V.end_of_lease

-- the input calls the output shut out for the object
abbrev pub Shut : Channel → ℕ → Type 0
Shut V o = (V.last_read o ≡ 0) ⊎ (V.last_read o < V.last_acknowledged o) ⊎ (V.held o ≤ V.last_acknowledged o) ⊎ (V.granted ≤ V.clock_in)

-- the object was just queued, or the epoch has just passed every part sent
abbrev pub Queued : Channel → ℕ → Type 0
Queued V o = (V.last_read o ≡ 0) ⊎ (V.last_read o < V.last_acknowledged o) ⊎ Has o (V.held o) V.chain ⊎ ((v e : ℕ) → V.Sent (copy o v e) → e < V.epoch)
