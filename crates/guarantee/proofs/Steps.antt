-- Each accepted call moves each channel as a step may.
use Rattle.std.proofs.Common.{◌≡◌, ℕ, ◌+◌, ◌<◌, List, [], ◌∷◌, ◌++◌, sym, ap, subst, subst₂, inl, inr, append-nil, arith}
use Rattle.std.proofs.lemmas.Bool.{cases_eq}
use Rattle.rules.specs.declared.message.Message.{Message}
use Rattle.rules.specs.declared.message.Message.TheVariants.{ClockQuestion, ClockAnswer, WriteRequest, WriteAnswer, ReadRequest, ReadAnswer, RenewalRequest, RenewalAnswer, Invalidation, InvalidationAnswer}
use Rattle.rules.specs.declared.pairs.Pair.{Pair}
use Rattle.rules.specs.Input.{Input, answers_clock, after_write, answers_write, after_renewal, answers_renewal, acknowledges_all}
use Rattle.rules.specs.Lists.{list_of, each}
use Rattle.rules.specs.Operation.{Operation, clock_questions, read_requests}
use Rattle.rules.specs.Output.{Output, answers_read, after_answer, acknowledgement, after_invalidation, answers_invalidation}
use Rattle.guarantee.proofs.Channel.{Part, Moves}
use Rattle.guarantee.proofs.ChannelOf.{Says, channel_of, Quiet, InputShape}
use Rattle.guarantee.proofs.Words.{at, at_cases, All, all_map, each_all}
use Rattle.guarantee.proofs.PlainState.{Params, PlainState, Act, ticks, writes, reads, hears, run, reaction}
use Rattle.guarantee.proofs.RangeFacts.{RenewalFits, RenewedFits, InvalidationFits, AckFits, fits_request, fits_renewal, fits_renewed, fits_invalidation, fits_ack}
use Rattle.guarantee.proofs.Kept.{Kept, Small, May, slow, view}
use Rattle.guarantee.proofs.InputMoves as Ins
use Rattle.guarantee.proofs.WriteMoves as Writes
use Rattle.guarantee.proofs.RenewalMoves as Renewals
use Rattle.guarantee.proofs.AcknowledgementMoves as Acks
use Rattle.guarantee.proofs.OutputMoves as Outs
use Rattle.guarantee.proofs.Reacting.{sends_requests}

-- messages of operations say nothing between servers
quiet_each : (i j n : ℕ) (f : ℕ → Message) → ((k : ℕ) (q : Part) → Says i j q (f k) → ⊥) → Quiet i j (each n (λ k. f k ∷ []))
quiet_each i j n f h = Writes.quiet_all i j (each n (λ k. f k ∷ []))
    (each_all (λ y. (q : Part) → Says i j q y → ⊥) n (λ k. f k ∷ []) (λ k l. (h k, tt)))

quiet_reaction : (P : Params) (i j : ℕ) (m : Message) (x : Operation) → Quiet i j (reaction P m x).sends
quiet_reaction P i j m x = Writes.quiet_all i j (reaction P m x).sends
    (sends_requests P.inputs P.outputs (λ y. (q : Part) → Says i j q y → ⊥) (λ _ _ _ _ _ _ h. h) m x)

module _ (P : Params) (small : Small P) (W : PlainState) (k : Kept P W) (i j : ℕ) (i<n : i < P.counts.n) (j<m : j < P.counts.m) where
  abbrev L : ℕ
  L = P.lease

  abbrev R : ℕ
  R = slow P

  -- from a step at input server a
  at_input_lem : (a : ℕ) (J : Input) (new : List Message) →
      (a ≡ i → Moves L R (view W i j) (channel_of J (W.out j) i j (W.sent ++ new))) →
      ((a ≡ i → ⊥) → Quiet i j new) →
      Moves L R (view W i j) (channel_of (at a J W.inp i) (W.out j) i j (W.sent ++ new))
  at_input_lem a J new own other =
      at_cases (λ X. Moves L R (view W i j) (channel_of X (W.out j) i j (W.sent ++ new))) a i J W.inp own
      (λ n. Ins.still L R (W.inp i) (W.out j) i j new W.sent (other n))

  -- from a step at output server b
  at_output_lem : (b : ℕ) (Q : Output) (new : List Message) →
      (b ≡ j → Moves L R (view W i j) (channel_of (W.inp i) Q i j (W.sent ++ new))) →
      ((b ≡ j → ⊥) → Quiet i j new) →
      Moves L R (view W i j) (channel_of (W.inp i) (at b Q W.out j) i j (W.sent ++ new))
  at_output_lem b Q new own other =
      at_cases (λ X. Moves L R (view W i j) (channel_of (W.inp i) X i j (W.sent ++ new))) b j Q W.out own
      (λ n. Ins.still L R (W.inp i) (W.out j) i j new W.sent (other n))

  still : (new : List Message) → Quiet i j new → Moves L R (view W i j) (channel_of (W.inp i) (W.out j) i j (W.sent ++ new))
  still new q = Ins.still L R (W.inp i) (W.out j) i j new W.sent q

  few : (x : ℕ) → x < P.counts.k → x < 16
  few x h = let z = small.k_most in omega arith

  moves_hears : (m : Message) → May P (hears m) W → Moves L R (view W i j) (view (run P (hears m) W) i j)
  moves_hears (ClockQuestion p a) h =
      at_input_lem a (W.inp a) (answers_clock a p (W.inp a))
      (λ e. subst (λ (z : ℕ). Moves L R (view W i j) (channel_of (W.inp z) (W.out j) i j (W.sent ++ answers_clock a p (W.inp a)))) (sym e)
      (still (answers_clock a p (W.inp a)) (λ q x. elim x [ inl y ↦ y | inr y ↦ y ])))
      (λ _ q x. elim x [ inl y ↦ y | inr y ↦ y ])
  moves_hears (ClockAnswer a p c) h = still _ (quiet_reaction P i j (ClockAnswer a p c) (W.op p))
  moves_hears (WriteRequest p a o v x) h = at_input_lem a J new
      (λ e. subst (λ (z : ℕ). Moves L R (channel_of (W.inp z) (W.out j) i j W.sent) (channel_of J (W.out j) i j (W.sent ++ new))) e
      (Writes.moves_write L R P.counts.m o v x (W.inp a) (W.out j) i j new W.sent (k.in_shape a (fits_request P.counts p a o v x h.1).receiver)
      small.m_most j<m (Writes.quiet_write i j a p P.counts.m o J)))
      (λ _. Writes.quiet_write i j a p P.counts.m o J)
    where
      J : Input
      J = after_write P.counts.m o v x (W.inp a)

      new : List Message
      new = answers_write a p P.counts.m o J
  moves_hears (WriteAnswer a p t) h = still _ (quiet_reaction P i j (WriteAnswer a p t) (W.op p))
  moves_hears (ReadRequest p b o) h = at_output_lem b (W.out b) (answers_read P.inputs b p P.counts.n o (W.out b))
      (λ e. subst (λ (z : ℕ). Moves L R (view W i j) (channel_of (W.inp i) (W.out z) i j (W.sent ++ answers_read P.inputs b p P.counts.n o (W.out b)))) (sym e)
      (Outs.moves_read L R P.inputs b p P.counts.n o (W.inp i) (W.out j) (W.out b) i j W.sent (λ f. ap W.out f)))
      (λ n q x. n (Outs.asked_read P.inputs b p P.counts.n o (W.out b) i j q x).0)
  moves_hears (ReadAnswer b p v x) h = still _ (quiet_reaction P i j (ReadAnswer b p v x) (W.op p))
  moves_hears (RenewalRequest b a r) h = at_input_lem a J new
      (λ e. elim (cases_eq b j) [
        | inl d ↦ subst₂ (λ (x y : ℕ). Moves L R (channel_of (W.inp x) (W.out y) x y W.sent) (channel_of J (W.out y) x y (W.sent ++ new))) e d
            (Renewals.moves_own_renewal L R r (W.inp a) (W.out b) a b W.sent shape (few r.object f.object) b<8 (k.held_pos a r.object f.input (few r.object f.object)) h.0)
        | inr n ↦ subst (λ (x : ℕ). Moves L R (channel_of (W.inp x) (W.out j) x j W.sent) (channel_of J (W.out j) x j (W.sent ++ new))) e
            (Renewals.moves_other_renewal L R b r (W.inp a) (W.out j) a j W.sent n)
      ])
      (λ n q x. elim x [ inl y ↦ n y.0 | inr y ↦ y ])
    where
      f : RenewalFits P.counts a b r
      f = fits_renewal P.counts b a r h.1

      J : Input
      J = after_renewal L b r (W.inp a)

      new : List Message
      new = answers_renewal a L b r (W.inp a)

      shape : InputShape (W.inp a)
      shape = k.in_shape a f.input

      b<8 : b < 8
      b<8 = let z = f.output in let y = small.m_most in omega arith
  moves_hears (RenewalAnswer a b y) h = at_output_lem b Q (acknowledgement b a y.list)
      (λ g. elim (cases_eq a i) [
        | inl d ↦ subst₂ (λ (x z : ℕ). Moves L R (channel_of (W.inp x) (W.out z) x z W.sent) (channel_of (W.inp x) Q x z (W.sent ++ acknowledgement b a y.list))) d g
            (Outs.moves_own_renewed L P.drift y (W.inp a) (W.out b) a b W.sent (k.out_shape b f.output) a<8 inside h.0)
        | inr n ↦ subst (λ (z : ℕ). Moves L R (channel_of (W.inp i) (W.out z) i z W.sent) (channel_of (W.inp i) Q i z (W.sent ++ acknowledgement b a y.list))) g
            (Outs.moves_other_renewed P.drift a y (W.out b) L R (W.inp i) i b W.sent y.list n)
      ])
      (λ n. Outs.quiet_ack i j a b y.list n)
    where
      f : RenewedFits P.counts a b y
      f = fits_renewed P.counts a b y h.1

      Q : Output
      Q = after_answer P.drift a y (W.out b)

      a<8 : a < 8
      a<8 = omega (arith, f.input, small.n_most)

      inside : All (λ (p : Pair). p.object < 16) (list_of y.list)
      inside = all_map (λ (p : Pair). p.object < P.counts.k) (λ (p : Pair). p.object < 16) (λ p h. few p.object h) (list_of y.list) f.objects
  moves_hears (Invalidation a b o v) h = at_output_lem b Q (answers_invalidation b a o v)
      (λ g. elim (cases_eq a i) [
        | inl d ↦ subst₂ (λ (x y : ℕ). Moves L R (channel_of (W.inp x) (W.out y) x y W.sent) (channel_of (W.inp x) Q x y (W.sent ++ answers_invalidation b a o v))) d g
            (Outs.moves_own_invalidation L R o v (W.inp a) (W.out b) a b W.sent (k.out_shape b f.output) a<8 (few o f.object))
        | inr n ↦ subst (λ (y : ℕ). Moves L R (channel_of (W.inp i) (W.out y) i y W.sent) (channel_of (W.inp i) Q i y (W.sent ++ answers_invalidation b a o v))) g
            (Outs.moves_other_invalidation a o v (W.out b) L R (W.inp i) i b W.sent n)
      ])
      (λ n. Outs.quiet_invalidation i j a b o v n)
    where
      f : InvalidationFits P.counts a b o v
      f = fits_invalidation P.counts a b o v h.1

      Q : Output
      Q = after_invalidation a o v (W.out b)

      a<8 : a < 8
      a<8 = let z = f.input in let y = small.n_most in omega arith
  moves_hears (InvalidationAnswer b a l) h = at_input_lem a J []
      (λ e. subst (λ (s : List Message). Moves L R (view W i j) (channel_of J (W.out j) i j s)) (sym (append-nil W.sent))
      (elim (cases_eq b j) [
        | inl d ↦ subst₂ (λ (x y : ℕ). Moves L R (channel_of (W.inp x) (W.out y) x y W.sent) (channel_of J (W.out y) x y W.sent)) e d
            (Acks.moves_own_acknowledgement L R l (W.inp a) (W.out b) a b W.sent (k.in_shape a f.input) b<8 inside h.0)
        | inr n ↦ subst (λ (x : ℕ). Moves L R (channel_of (W.inp x) (W.out j) x j W.sent) (channel_of J (W.out j) x j W.sent)) e
            (Acks.moves_other_acknowledgement L R b (list_of l) (W.inp a) (W.out j) a j W.sent n)
      ]))
      (λ n q x. x)
    where
      f : AckFits P.counts a b l
      f = fits_ack P.counts b a l h.1

      J : Input
      J = acknowledges_all b (list_of l) (W.inp a)

      b<8 : b < 8
      b<8 = let z = f.output in let y = small.m_most in omega arith

      inside : All (λ (p : Pair). p.object < 16) (list_of l)
      inside = all_map (λ (p : Pair). p.object < P.counts.k) (λ (p : Pair). p.object < 16) (λ p h. few p.object h) (list_of l) f.objects

  pub moves : (a : Act) → May P a W → Moves L R (view W i j) (view (run P a W) i j)
  moves (ticks x y) h = Ins.ticks L R (W.inp i) (W.out j) i j W.sent (x i) (y j) (h i j i<n j<m)
  moves (writes o x) h = still (clock_questions (W.begun + 1) P.counts.n) (quiet_each i j P.counts.n (λ a. ClockQuestion (W.begun + 1) a) (λ _ _ h. h))
  moves (reads o) h = still (read_requests (W.begun + 1) o P.counts.m) (quiet_each i j P.counts.m (λ b. ReadRequest (W.begun + 1) b o) (λ _ _ h. h))
  moves (hears m) h = moves_hears m h
