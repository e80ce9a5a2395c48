-- Each accepted call takes nothing back, and keeps what is kept.
use Rattle.std.proofs.Common.{◌≡◌, ℕ, ◌+◌, ◌<◌, ◌≤◌, ◌⊎◌, sym, refl, ap, subst, inl, inr, arith}
use Rattle.rules.specs.declared.kept.Held.{Held}
use Rattle.rules.specs.declared.message.Message.{Message}
use Rattle.rules.specs.declared.message.Message.TheVariants.{ClockQuestion, ClockAnswer, WriteRequest, WriteAnswer, ReadRequest, ReadAnswer, RenewalRequest, RenewalAnswer, Invalidation, InvalidationAnswer}
use Rattle.rules.specs.declared.renewal.Renewal.{Renewal}
use Rattle.rules.specs.declared.renewal.Renewed.{Renewed}
use Rattle.rules.specs.declared.pairs.Pairs.{Pairs}
use Rattle.numbers.specs.declared.version.Version.{Version}
use Rattle.rules.specs.Input.{Input, held, after_write, after_renewal, acknowledges_all}
use Rattle.rules.specs.Lists.{list_of}
use Rattle.rules.specs.Operation.{Operation, asking, reading, first_asking, first_reading}
use Rattle.rules.specs.Output.{Output, newest_of, after_answer, after_invalidation}
use Rattle.guarantee.proofs.Channel.{Inv}
use Rattle.guarantee.proofs.Fence.{invariant, stable}
use Rattle.guarantee.proofs.ChannelOf.{InputShape, OutputShape}
use Rattle.guarantee.proofs.WriteMoves as Writes
use Rattle.guarantee.proofs.RenewalMoves as Renewals
use Rattle.guarantee.proofs.AcknowledgementMoves as Acks
use Rattle.guarantee.proofs.WriteMoves.{Clocked}
use Rattle.guarantee.proofs.Kept.{slow, view, Begun, Genuine, Wrote, Reads, MsgOk, Small, Kept, May, Grows}
use Rattle.guarantee.proofs.Operations.{wrote_up, reads_up, moved_op}
use Rattle.guarantee.proofs.OutputMoves as Outs
use Rattle.guarantee.proofs.Steps.{moves}
use Rattle.guarantee.proofs.Words.{at, at_cases, at_miss, In, all_at, any_old}
use Rattle.guarantee.proofs.PlainState.{Params, PlainState, Act, ticks, writes, reads, hears, run, reaction}

-- ---- what a step leaves of a server

pub record InputStep (W : PlainState) (I J : Input) : Type 0 where
  pub lc_up : I.lc ≤ J.lc
  pub shape : InputShape I → InputShape J
  pub clocked : Clocked I → Clocked J
  pub held : (o : ℕ) → (((held J o).version ≡ (held I o).version) × ((held J o).value ≡ (held I o).value)) ⊎ Genuine W o (held J o).version (held J o).value

pub record OutputStep (W : PlainState) (O Q : Output) : Type 0 where
  pub shape : OutputShape O → OutputShape Q
  pub newest : (o : ℕ) → (newest_of Q o ≡ newest_of O o) ⊎ Genuine W o (newest_of Q o).version (newest_of Q o).value

input_same : (W : PlainState) (I : Input) → InputStep W I I
input_same W I = record { lc_up = omega arith; shape = λ s. s; clocked = λ c. c; held = λ o. inl (refl, refl) }

output_same : (W : PlainState) (O : Output) → OutputStep W O O
output_same W O = record { shape = λ s. s; newest = λ o. inl refl }

module _ (P : Params) (small : Small P) (W : PlainState) (k : Kept P W) where
  -- one input server changed, and the others did not
  one_input : (a : ℕ) (J : Input) → InputStep W (W.inp a) J → (i : ℕ) → InputStep W (W.inp i) (at a J W.inp i)
  one_input a J h i = at_cases (λ X. InputStep W (W.inp i) X) a i J W.inp
      (λ e. subst (λ (z : ℕ). InputStep W (W.inp z) J) e h) (λ _. input_same W (W.inp i))

  one_output : (b : ℕ) (Q : Output) → OutputStep W (W.out b) Q → (j : ℕ) → OutputStep W (W.out j) (at b Q W.out j)
  one_output b Q h j = at_cases (λ X. OutputStep W (W.out j) X) b j Q W.out
      (λ e. subst (λ (z : ℕ). OutputStep W (W.out z) Q) e h) (λ _. output_same W (W.out j))

  msg_at : (m : Message) → In m W.sent → MsgOk P W m
  msg_at m h = all_at (MsgOk P W) m W.sent k.msgs h

  input_write : (p a o : ℕ) (v : Version) (x : ℕ) → In (WriteRequest p a o v x) W.sent
      → InputStep W (W.inp a) (after_write P.counts.m o v x (W.inp a))
  input_write p a o v x sent = record {
    lc_up = (Writes.lc_write P.counts.m o v x (W.inp a)).0;
    shape = Writes.shape_write P.counts.m o v x (W.inp a);
    clocked = (Writes.lc_write P.counts.m o v x (W.inp a)).1;
    held = λ q. elim (Writes.held_write P.counts.m o v x (W.inp a) q) [
      | inl e ↦ inl e
      | inr e ↦ inr (inr (
        p,
        (
          a,
          wanted q (held (after_write P.counts.m o v x (W.inp a)) q).version
              (held (after_write P.counts.m o v x (W.inp a)) q).value e.0 e.1 e.2,
        ),
      ))
    ];
  }
    where
      wanted : (q : ℕ) (u : Version) (z : ℕ) → q ≡ o → u ≡ v → z ≡ x → In (WriteRequest p a q u z) W.sent
      wanted q u z d e f =
          subst (λ (y : ℕ). In (WriteRequest p a q u y) W.sent) (sym f)
          (subst (λ (y : Version). In (WriteRequest p a q y x) W.sent) (sym e)
          (subst (λ (y : ℕ). In (WriteRequest p a y v x) W.sent) (sym d) sent))

  input_renewal : (b : ℕ) (r : Renewal) (I : Input) → InputStep W I (after_renewal P.lease b r I)
  input_renewal b r I = record {
    lc_up = omega arith;
    shape = Renewals.shape_renewal P.lease b r I;
    clocked = Renewals.lc_renewal P.lease b r I;
    held = λ q. inl (Renewals.held_renewal P.lease b r I q);
  }

  input_ack : (b : ℕ) (l : Pairs) (I : Input) → InputStep W I (acknowledges_all b (list_of l) I)
  input_ack b l I = let t = Acks.keeps_acknowledgement b (list_of l) I in record {
    lc_up = omega (arith, t.lc);
    shape = Acks.shape_acknowledgement b (list_of l) I;
    clocked = Acks.lc_acknowledgement b (list_of l) I;
    held = λ q. inl (ap (λ (h : Held). h.version) (Acks.held_acknowledgement b (list_of l) I q), ap (λ (h : Held). h.value) (Acks.held_acknowledgement b (list_of l) I q));
  }

  pub inputs_step : (a : Act) → May P a W → (i : ℕ) → InputStep W (W.inp i) ((run P a W).inp i)
  inputs_step (ticks x y) h i = record {
    lc_up = omega arith;
    shape = λ s. record { objects = s.objects; ledgers = s.ledgers; last_acknowledged = s.last_acknowledged; waiting = s.waiting };
    clocked = λ c. c;
    held = λ o. inl (refl, refl);
  }
  inputs_step (hears (ClockQuestion p a)) h i = one_input a (W.inp a) (input_same W (W.inp a)) i
  inputs_step (hears (WriteRequest p a o v x)) h i = one_input a (after_write P.counts.m o v x (W.inp a)) (input_write p a o v x h.0) i
  inputs_step (hears (RenewalRequest b a r)) h i = one_input a (after_renewal P.lease b r (W.inp a)) (input_renewal b r (W.inp a)) i
  inputs_step (hears (InvalidationAnswer b a l)) h i = one_input a (acknowledges_all b (list_of l) (W.inp a)) (input_ack b l (W.inp a)) i
  inputs_step a h i = input_same W (W.inp i)

  output_answer : (a b : ℕ) (y : Renewed)
      → In (RenewalAnswer a b y) W.sent → (O : Output)
      → OutputStep W O (after_answer P.drift a y O)
  output_answer a b y sent O = record {
    shape = Outs.shape_renewed P.drift a y O;
    newest = λ q. elim (Outs.newest_renewed P.drift a y O q) [
      | inl d ↦ inl d
      | inr d ↦ inr (wanted q (newest_of (after_answer P.drift a y O) q).version
          (newest_of (after_answer P.drift a y O) q).value d.0 d.2 d.3
          (msg_at (RenewalAnswer a b y) sent d.1))
    ];
  }
    where
      wanted : (q : ℕ) (u : Version) (z : ℕ) → q ≡ y.renewal.object → u ≡ y.version → z ≡ y.value → Genuine W y.renewal.object y.version y.value → Genuine W q u z
      wanted q u z d e f g =
          subst (λ (n : ℕ). Genuine W q u n) (sym f)
          (subst (λ (n : Version). Genuine W q n y.value) (sym e)
          (subst (λ (n : ℕ). Genuine W n y.version y.value) (sym d) g))

  pub outputs_step : (a : Act) → May P a W → (j : ℕ) → OutputStep W (W.out j) ((run P a W).out j)
  outputs_step (ticks x y) h j = record {
    shape = λ s. record { newest = s.newest; links = s.links; copies = s.copies };
    newest = λ o. inl refl;
  }
  outputs_step (hears (ReadRequest p b o)) h j = one_output b (W.out b) (output_same W (W.out b)) j
  outputs_step (hears (RenewalAnswer a b y)) h j =
      one_output b (after_answer P.drift a y (W.out b)) (output_answer a b y h.0 (W.out b)) j
  outputs_step (hears (Invalidation a b o v)) h j =
      one_output b (after_invalidation a o v (W.out b))
      (record { shape = Outs.shape_invalidation a o v (W.out b); newest = λ q. inl (Outs.newest_invalidation a o v (W.out b) q) }) j
  outputs_step a h j = output_same W (W.out j)

  -- ---- nothing is taken back

  sent_up : (a : Act) → (m : Message) → In m W.sent → In m (run P a W).sent
  sent_up (ticks x y) m h = h
  sent_up (hears (ClockQuestion p a)) m h = any_old (λ z. m ≡ z) W.sent _ h
  sent_up a m h = any_old (λ z. m ≡ z) W.sent _ h

  -- a fact of operations that no answer takes back is not taken back by any call
  pub ops_up : (X : Operation → Type 0)
      → ((m : Message) (y : Operation) → X y → X (reaction P m y).next)
      → (a : Act) (p : ℕ) → Begun W p → X (W.op p) → X ((run P a W).op p)
  ops_up X f (writes o x) p b h = subst X (sym (at_miss (W.begun + 1) p (asking (first_asking (W.begun + 1) o x)) W.op (λ d. let z = b.1 in omega arith))) h
  ops_up X f (reads o) p b h = subst X (sym (at_miss (W.begun + 1) p (reading (first_reading (W.begun + 1) o)) W.op (λ d. let z = b.1 in omega arith))) h
  ops_up X f (hears (ClockAnswer a q c)) p b h = moved_op X q _ W.op (f (ClockAnswer a q c) (W.op q)) p h
  ops_up X f (hears (WriteAnswer a q t)) p b h = moved_op X q _ W.op (f (WriteAnswer a q t) (W.op q)) p h
  ops_up X f (hears (ReadAnswer c q v x)) p b h = moved_op X q _ W.op (f (ReadAnswer c q v x) (W.op q)) p h
  ops_up X f a p b h = h

  begun_up : (a : Act) → W.begun ≤ (run P a W).begun
  begun_up (writes o x) = omega arith
  begun_up (reads o) = omega arith
  begun_up (hears (ClockQuestion p a)) = omega arith
  begun_up a = omega arith

  pub chans_next : (a : Act) → May P a W → (i j : ℕ) → i < P.counts.n → j < P.counts.m → Inv P.lease (slow P) (view (run P a W) i j)
  chans_next a h i j x y = invariant P.lease (slow P) (view W i j) (view (run P a W) i j) (k.chans i j x y) (moves P small W k i j x y a h)

  pub grows : (a : Act) → May P a W → Grows P W (run P a W)
  grows a h = record {
    stands = λ i j o w x y s. record {
      fence = stable P.lease (slow P) (view W i j) (view (run P a W) i j) o w (k.chans i j x y) (chans_next a h i j x y)
          (moves P small W k i j x y a h) s.fence;
      clock = let z = (inputs_step a h i).lc_up in omega (arith, s.clock);
    };
    sent = sent_up a;
    wrote = λ p o v x. ops_up (λ y. Wrote y o v x) (λ m y. wrote_up P m y o v x) a p;
    reads = λ p o. ops_up (λ y. Reads y o) (λ m y. reads_up P m y o) a p;
    begun = begun_up a;
  }
