-- What every world of a story keeps: of each channel, each message made, each operation and each server.
use Rattle.std.proofs.Common.{◌≡◌, ℕ, ◌-◌, ◌*◌, ◌/◌, ◌<◌, ◌≤◌, true, ◌⊎◌, List, inl, inr, arith}
use Rattle.quorum.specs.declared.member_set.MemberSet.{MemberSet}
use Rattle.quorum.specs.Sets.{has}
use Rattle.rules.specs.declared.message.Message.{Message}
use Rattle.rules.specs.declared.message.Message.TheVariants.{ClockQuestion, ClockAnswer, WriteRequest, WriteAnswer, ReadRequest, ReadAnswer, RenewalAnswer}
use Rattle.numbers.specs.declared.version.Version.{Version}
use Rattle.rules.specs.Input.{held}
use Rattle.numbers.specs.Numbers.{starting, clock_of}
use Rattle.rules.specs.Operation.{Operation, asking, sending, reading, ended, Asking, Sending, Reading, named_by}
use Rattle.rules.specs.Output.{newest_of}
use Rattle.rules.specs.Ranges.{numbers_fit}
use Rattle.rules.specs.Renewals.{asks_object}
use Rattle.guarantee.proofs.Channel.{Channel, Inv, Fenced}
use Rattle.guarantee.proofs.ChannelOf.{channel_of, InputShape, OutputShape}
use Rattle.guarantee.proofs.Words.{In, All}
use Rattle.guarantee.proofs.PlainState.{Params, PlainState, Act, ticks, writes, reads, hears}

abbrev pub slow : Params → ℕ
slow P = 1000 - P.drift

abbrev pub view : PlainState → ℕ → ℕ → Channel
view W i j = channel_of (W.inp i) (W.out j) i j W.sent

-- ---- words

abbrev pub Begun : PlainState → ℕ → Type 0
Begun W p = (1 ≤ p) × (p ≤ W.begun)

-- the write p sent requests of that object, version and value
abbrev pub Requested : PlainState → ℕ → ℕ → Version → ℕ → Type 0
Requested W p o v x = (i : ℕ) × In (WriteRequest p i o v x) W.sent

-- the read p sent requests of that object
abbrev pub AskedFor : PlainState → ℕ → ℕ → Type 0
AskedFor W p o = (j : ℕ) × In (ReadRequest p j o) W.sent

-- the pair is the starting pair of the object, or that of a write of it
abbrev pub Genuine : PlainState → ℕ → Version → ℕ → Type 0
Genuine W o v x = ((v ≡ starting) × (x ≡ 0)) ⊎ ((p : ℕ) × Requested W p o v x)

-- an operation that has sent write requests is that write, or has ended
abbrev pub Wrote : Operation → ℕ → Version → ℕ → Type 0
Wrote (sending w) o v x = (w.object ≡ o) × (w.version ≡ v) × (w.value ≡ x)
Wrote ended o v x = Unit {0}
Wrote y o v x = ⊥

-- an operation that has sent read requests is that read, or has ended
abbrev pub Reads : Operation → ℕ → Type 0
Reads (reading r) o = r.object ≡ o
Reads ended o = Unit {0}
Reads y o = ⊥

-- what a write leaves at an input server for an output server that it calls shut out: the fence, and the clock taken
pub record Stands (P : Params) (W : PlainState) (i j o w : ℕ) : Type 0 where
  pub fence : Fenced (slow P) (view W i j) o w
  pub clock : w / 65536 ≤ (W.inp i).lc

-- every output server that is named stands behind a fence
abbrev pub Named : Params → PlainState → ℕ → ℕ → List MemberSet → Type 0
Named P W o w N =
    (i j : ℕ) → has (named_by N i) j ≡ true → i < P.counts.n → j < P.counts.m → Stands P W i j o w

-- each sender's clock answer is there, and its clock is not above
abbrev pub Clocks : PlainState → ℕ → ℕ → ℕ → Type 0
Clocks W p A d = (i : ℕ) → has A i ≡ true → (c : ℕ) × In (ClockAnswer i p c) W.sent × (c ≤ d)

-- each sender's read answer is there, and its version is not above
abbrev pub Heard : PlainState → ℕ → ℕ → ℕ → Type 0
Heard W p A r = (j : ℕ) → has A j ≡ true → (v : Version) × (x : ℕ) × In (ReadAnswer j p v x) W.sent × (v.0 ≤ r)

-- ---- messages and operations

abbrev pub MsgOk : Params → PlainState → Message → Type 0
MsgOk P W (ClockQuestion p i) = Begun W p
MsgOk P W (ClockAnswer i p c) = Begun W p
MsgOk P W (WriteRequest p i o v x) = Begun W p × Wrote (W.op p) o v x
MsgOk P W (WriteAnswer i p t) =
    Begun W p
    × ((o : ℕ) × (v : Version) × (x : ℕ) × Requested W p o v x
    × ((j : ℕ) → has t.0 j ≡ true → i < P.counts.n → j < P.counts.m → Stands P W i j o v.0))
MsgOk P W (ReadRequest p j o) = Begun W p × Reads (W.op p) o
MsgOk P W (ReadAnswer j p v x) = Begun W p × ((o : ℕ) × AskedFor W p o × Genuine W o v x)
MsgOk P W (RenewalAnswer i j y) = asks_object y.renewal.parts ≡ true → Genuine W y.renewal.object y.version y.value
MsgOk P W m = Unit {0}

pub record AskingOk (W : PlainState) (p : ℕ) (a : Asking) : Type 0 where
  pub own : a.operation ≡ p
  pub clocks : Clocks W p a.senders a.clock

pub record SendingOk (P : Params) (W : PlainState) (p : ℕ) (w : Sending) : Type 0 where
  pub own : w.operation ≡ p
  pub named : Named P W w.object w.version.0 w.named
  pub asked : Requested W p w.object w.version w.value

pub record ReadingOk (W : PlainState) (p : ℕ) (r : Reading) : Type 0 where
  pub own : r.operation ≡ p
  pub heard : Heard W p r.senders r.version.0
  pub genuine : (r.version.0 ≡ 0) ⊎ Genuine W r.object r.version r.value

abbrev pub OpOk : Params → PlainState → ℕ → Operation → Type 0
OpOk P W p (asking a) = AskingOk W p a
OpOk P W p (sending w) = SendingOk P W p w
OpOk P W p (reading r) = ReadingOk W p r
OpOk P W p x = Unit {0}

-- ---- everything

pub record Small (P : Params) : Type 0 where
  pub n_pos : 1 ≤ P.counts.n
  pub m_pos : 1 ≤ P.counts.m
  pub n_most : P.counts.n ≤ 8
  pub m_most : P.counts.m ≤ 8
  pub k_most : P.counts.k ≤ 16
  pub n_is : P.inputs.count ≡ P.counts.n
  pub m_is : P.outputs.count ≡ P.counts.m

pub record Kept (P : Params) (W : PlainState) : Type 0 where
  pub chans : (i j : ℕ) → i < P.counts.n → j < P.counts.m → Inv P.lease (slow P) (view W i j)
  pub in_shape : (i : ℕ) → i < P.counts.n → InputShape (W.inp i)
  pub out_shape : (j : ℕ) → j < P.counts.m → OutputShape (W.out j)
  pub lc : (i : ℕ) → i < P.counts.n → (o : ℕ) → clock_of (held (W.inp i) o).version ≤ (W.inp i).lc
  pub held_pos : (i o : ℕ) → i < P.counts.n → o < 16 → 1 ≤ (held (W.inp i) o).version.0
  pub held_genuine : (i o : ℕ) → i < P.counts.n → o < 16 → Genuine W o (held (W.inp i) o).version (held (W.inp i) o).value
  pub newest_genuine : (j o : ℕ) → j < P.counts.m
      → ((newest_of (W.out j) o).version.0 ≡ 0) ⊎ Genuine W o (newest_of (W.out j) o).version (newest_of (W.out j) o).value
  pub msgs : All (MsgOk P W) W.sent
  pub ops : (p : ℕ) → Begun W p → OpOk P W p (W.op p)

-- when a call is accepted
abbrev pub May : Params → Act → PlainState → Type 0
May P (ticks x y) W = (i j : ℕ) → i < P.counts.n → j < P.counts.m → slow P * x i ≤ 1000 * y j
May P (writes o x) W = Unit {0}
May P (reads o) W = Unit {0}
May P (hears m) W = In m W.sent × (numbers_fit P.counts m ≡ true)

-- ---- what no call takes back

pub record Grows (P : Params) (W V : PlainState) : Type 0 where
  pub stands : (i j o w : ℕ) → i < P.counts.n → j < P.counts.m → Stands P W i j o w → Stands P V i j o w
  pub sent : (m : Message) → In m W.sent → In m V.sent
  pub wrote : (p o : ℕ) (v : Version) (x : ℕ) → Begun W p → Wrote (W.op p) o v x → Wrote (V.op p) o v x
  pub reads : (p o : ℕ) → Begun W p → Reads (W.op p) o → Reads (V.op p) o
  pub begun : W.begun ≤ V.begun

module _ (P : Params) (W V : PlainState) (g : Grows P W V) where
  pub begun_grows : (p : ℕ) → Begun W p → Begun V p
  begun_grows p h = (h.0, omega (arith, g.begun))

  pub requested_grows : (p o : ℕ) (v : Version) (x : ℕ) → Requested W p o v x → Requested V p o v x
  requested_grows p o v x h = (h.0, g.sent (WriteRequest p h.0 o v x) h.1)

  pub genuine_grows : (o : ℕ) (v : Version) (x : ℕ) → Genuine W o v x → Genuine V o v x
  genuine_grows o v x (inl h) = inl h
  genuine_grows o v x (inr h) = inr (h.0, requested_grows h.0 o v x h.1)

  pub msg_grows : (m : Message) → MsgOk P W m → MsgOk P V m
  msg_grows (ClockQuestion p i) h = begun_grows p h
  msg_grows (ClockAnswer i p c) h = begun_grows p h
  msg_grows (WriteRequest p i o v x) h = (begun_grows p h.0, g.wrote p o v x h.0 h.1)
  msg_grows (WriteAnswer i p t) h = let r = h.1 in (
    begun_grows p h.0,
    (r.0, r.1, r.2, requested_grows p r.0 r.1 r.2 r.3, λ j b k l. g.stands i j r.0 r.1.0 k l (r.4 j b k l)),
  )
  msg_grows (ReadRequest p j o) h = (begun_grows p h.0, g.reads p o h.0 h.1)
  msg_grows (ReadAnswer j p v x) h = let r = h.1 in (
    begun_grows p h.0,
    (r.0, (r.1.0, g.sent (ReadRequest p r.1.0 r.0) r.1.1), genuine_grows r.0 v x r.2),
  )
  msg_grows (RenewalAnswer i j y) h = λ b. genuine_grows y.renewal.object y.version y.value (h b)
  msg_grows m h = tt

  pub op_grows : (p : ℕ) (x : Operation) → OpOk P W p x → OpOk P V p x
  op_grows p (asking a) h = record {
    own = h.own;
    clocks = λ i b. let r = h.clocks i b in (r.0, g.sent (ClockAnswer i p r.0) r.1, r.2);
  }
  op_grows p (sending w) h = record {
    own = h.own;
    named = λ i j b k l. g.stands i j w.object w.version.0 k l (h.named i j b k l);
    asked = requested_grows p w.object w.version w.value h.asked;
  }
  op_grows p (reading r) h = record {
    own = h.own;
    heard = λ j b. let y = h.heard j b in (y.0, y.1, g.sent (ReadAnswer j p y.0 y.1) y.2, y.3);
    genuine = elim h.genuine [ inl z ↦ inl z | inr z ↦ inr (genuine_grows r.object r.version r.value z) ];
  }
  op_grows p x h = tt
