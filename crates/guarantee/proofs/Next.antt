-- What is kept of a world is kept of the next: its new messages and its new operations are as they should be.
use Rattle.std.proofs.Common.{◌≡◌, ℕ, ◌+◌, ◌/◌, ◌<◌, ◌≤◌, Bool, true, cond, ◌⊎◌, List, [], ◌∷◌, ◌++◌, sym, refl, ap, ◌∙◌, subst, inl, inr, arith}
use Rattle.std.proofs.lemmas.Bool.{and_parts, false≢true}
use Rattle.quorum.specs.declared.member_set.MemberSet.{MemberSet}
use Rattle.quorum.specs.Sets.{has, full, set_of}
use Rattle.quorum.specs.Systems.{Lawful}
use Rattle.rules.specs.declared.kept.Newest.{Newest}
use Rattle.rules.specs.declared.message.Message.{Message}
use Rattle.rules.specs.declared.message.Message.TheVariants.{ClockQuestion, ClockAnswer, WriteRequest, WriteAnswer, ReadRequest, ReadAnswer, RenewalRequest, RenewalAnswer, Invalidation, InvalidationAnswer}
use Rattle.numbers.specs.declared.version.Version.{Version}
use Rattle.rules.specs.Input.{Input, held, is_shut_out, answers_clock, after_write, answers_write, answers_renewal}
use Rattle.numbers.specs.Numbers.{none}
use Rattle.rules.specs.Operation.{Operation, asking, sending, reading, Asking, Sending, Reading, first_asking, first_reading, clock_questions, read_requests, write_requests, gets_version, hears_clock, knows_clock, hears_named, hears_pair}
use Rattle.rules.specs.Reaction.{Reaction}
use Rattle.rules.proofs.Reactions.{every_reaction}
use Rattle.rules.specs.Output.{newest_of, valid, covers, good, answers_read, acknowledgement}
use Rattle.guarantee.proofs.Channel.{Inv, Fenced}
use Rattle.guarantee.proofs.Fence.{establish}
use Rattle.guarantee.proofs.ChannelOf.{channel_of}
use Rattle.guarantee.proofs.RangeFacts.{fits_clock, fits_request, fits_read, fits_pair, fits_renewal}
use Rattle.guarantee.proofs.InputMoves as Ins
use Rattle.guarantee.proofs.WriteMoves as Writes
use Rattle.guarantee.proofs.OutputMoves as Outs
use Rattle.guarantee.proofs.Keeps.{inputs_step, outputs_step, chans_next, grows}
use Rattle.guarantee.proofs.Kept.{slow, Begun, Requested, AskedFor, Genuine, Wrote, Reads, Stands, Named, MsgOk, AskingOk, SendingOk, ReadingOk, OpOk, Small, Kept, May, Grows, requested_grows, genuine_grows, msg_grows, op_grows}
use Rattle.guarantee.proofs.Operations.{named_none, named_from, pair_from}
use Rattle.guarantee.proofs.Reacting.{reacts_gets}
use Rattle.guarantee.proofs.Sets.{has_none, of_set_of, of_joined}
use Rattle.guarantee.proofs.Steps.{moves}
use Rattle.guarantee.proofs.Words.{at, at_cases, at_same, In, All, all_map, all-++, all_at, any_old, any_new, each_all, any_each}
use Rattle.guarantee.proofs.PlainState.{Params, PlainState, Act, ticks, writes, reads, hears, run, reaction, answers_to}

module _ (P : Params) (small : Small P) (lawful : Lawful P.inputs) (W : PlainState) (k : Kept P W) where
  msg_at : (m : Message) → In m W.sent → MsgOk P W m
  msg_at m h = all_at (MsgOk P W) m W.sent k.msgs h

  abbrev pub next : Act → PlainState
  next a = run P a W

  few : (x : ℕ) → x < P.counts.k → x < 16
  few x h = let z = small.k_most in omega arith

  -- ---- an output server that may answer has a version

  pub valid_pos : (b o : ℕ) → b < P.counts.m → valid P.inputs P.counts.n o (W.out b) ≡ true → 1 ≤ (newest_of (W.out b) o).version.0
  valid_pos b o l h =
      let p = and_parts (covers (W.out b) o P.counts.n) (P.inputs.reads (set_of P.counts.n (good (W.out b) o))) h in
      let r = lawful.meet (set_of P.counts.n (good (W.out b) o)) (full P.inputs.count) p.1 lawful.write_family.all in
      let s = of_set_of P.counts.n (good (W.out b) o) r.0 r.2 in
      let g = Outs.good_good (W.inp r.0) (W.out b) r.0 b W.sent o s.1 in
      omega (arith, g.copied, (k.chans r.0 b s.0 l).got_known o, Outs.covered (W.out b) o P.counts.n r.0 p.0 s.0)

  -- ---- new messages

  writes_news : (a p o : ℕ) (v : Version) (x : ℕ) → (h : May P (hears (WriteRequest p a o v x)) W)
      → All (MsgOk P (next (hears (WriteRequest p a o v x))))
      (answers_write a p P.counts.m o (after_write P.counts.m o v x (W.inp a)))
  writes_news a p o v x h = Writes.names_write (MsgOk P V) a p P.counts.m o J (λ _. tt) (
    (msg_at (WriteRequest p a o v x) h.0).0,
    (o, v, x, (a, any_old (λ z. WriteRequest p a o v x ≡ z) W.sent new h.0), λ j b i<n j<m. stood j (of_set_of P.counts.m (is_shut_out J o) j b).1 i<n j<m),
  )
    where
      V : PlainState
      V = next (hears (WriteRequest p a o v x))

      J : Input
      J = after_write P.counts.m o v x (W.inp a)

      new : List Message
      new = answers_write a p P.counts.m o J

      fenced : (j : ℕ) → is_shut_out J o j ≡ true → (i<n : a < P.counts.n) → (j<m : j < P.counts.m)
          → Inv P.lease (slow P) (channel_of J (W.out j) a j (W.sent ++ new))
          → Fenced (slow P) (channel_of J (W.out j) a j (W.sent ++ new)) o v.0
      fenced j s i<n j<m inv = establish P.lease (slow P) (channel_of J (W.out j) a j (W.sent ++ new)) o v.0 inv
          (Ins.shut_shut J (W.out j) a j (W.sent ++ new) o s)
          (Writes.queued_write P.lease (slow P) P.counts.m o v x (W.inp a) (W.out j) a j new W.sent (k.in_shape a i<n) small.m_most j<m
          (k.chans a j i<n j<m) (Writes.quiet_write a j a p P.counts.m o J))
          (Writes.holds_write P.counts.m o v x (W.inp a) (k.in_shape a i<n) (few o (fits_request P.counts p a o v x h.1).object))

      stood : (j : ℕ) → is_shut_out J o j ≡ true → a < P.counts.n → j < P.counts.m → Stands P V a j o v.0
      stood j s i<n j<m = record {
        fence = subst (λ (X : Input). Inv P.lease (slow P) (channel_of X (W.out j) a j (W.sent ++ new)) → Fenced (slow P) (channel_of X (W.out j) a j (W.sent ++ new)) o v.0)
            (sym (at_same a J W.inp)) (fenced j s i<n j<m) (chans_next P small W k (hears (WriteRequest p a o v x)) h a j i<n j<m);
        clock = subst (λ (X : Input). v.0 / 65536 ≤ X.lc) (sym (at_same a J W.inp)) ((Writes.lc_write P.counts.m o v x (W.inp a)).2 (k.lc a i<n));
      }

  -- a write that knows the clock becomes a sending write, which its requests agree with
  knows_state : (a p c : ℕ) (x : Asking) → W.op p ≡ asking x → knows_clock P.inputs (hears_clock a c x) ≡ true
      → (next (hears (ClockAnswer a p c))).op p ≡ sending (gets_version (hears_clock a c x))
  knows_state a p c x e t = at_same p _ W.op ∙ ap (λ (y : Operation). (reaction P (ClockAnswer a p c) y).next) e
      ∙ ap (λ (r : Reaction). r.next) (reacts_gets P.inputs P.outputs a p c x t)

  requests_ok : (a p c : ℕ) → (h : May P (hears (ClockAnswer a p c)) W) → (x : Asking) → W.op p ≡ asking x
      → knows_clock P.inputs (hears_clock a c x) ≡ true
      → All (MsgOk P (next (hears (ClockAnswer a p c)))) (write_requests P.inputs.count (gets_version (hears_clock a c x)))
  requests_ok a p c h x e t =
      let b = msg_at (ClockAnswer a p c) h.0 in
      let own : x.operation ≡ p = (subst (OpOk P W p) e (k.ops p b)).own in
      let w = gets_version (hears_clock a c x) in
      each_all (MsgOk P (next (hears (ClockAnswer a p c)))) P.inputs.count
      (λ i. WriteRequest x.operation i w.object w.version w.value ∷ [])
      (λ i l. (
        subst (λ (q : ℕ). (Begun W q) × Wrote ((next (hears (ClockAnswer a p c))).op q) w.object w.version w.value) (sym own)
            (b, subst (λ (y : Operation). Wrote y w.object w.version w.value) (sym (knows_state a p c x e t)) (refl, refl, refl)),
        tt,
      ))

  sends_ok : (m : Message) (y : Operation) → May P (hears m) W → W.op (answers_to m) ≡ y → All (MsgOk P (next (hears m))) (reaction P m y).sends
  sends_ok = every_reaction P.inputs P.outputs (λ m y r. May P (hears m) W → W.op (answers_to m) ≡ y → All (MsgOk P (next (hears m))) r.sends) (record {
    stays = λ m y n h e. tt;
    asks = λ a p c x t h e. tt;
    gets = λ a p c x t h e. requests_ok a p c h x e t;
    sends = λ a p s w t h e. tt;
    writes = λ a p s w t h e. tt;
    gathers = λ b p v x r t h e. tt;
    reads = λ b p v x r t h e. tt;
  })

  read_news : (p b o : ℕ) → (h : May P (hears (ReadRequest p b o)) W)
      → All (MsgOk P (next (hears (ReadRequest p b o)))) (answers_read P.inputs b p P.counts.n o (W.out b))
  read_news p b o h = Outs.read_all P.inputs b p P.counts.n o (W.out b) (MsgOk P V) answer (λ _ _. tt)
    where
      V : PlainState
      V = next (hears (ReadRequest p b o))

      g : Grows P W V
      g = grows P small W k (hears (ReadRequest p b o)) h

      b<m : b < P.counts.m
      b<m = (fits_read P.counts p b o h.1).0

      answer : valid P.inputs P.counts.n o (W.out b) ≡ true → MsgOk P V (ReadAnswer b p (newest_of (W.out b) o).version (newest_of (W.out b) o).value)
      answer t = (
        (msg_at (ReadRequest p b o) h.0).0,
        (
          o,
          (b, g.sent (ReadRequest p b o) h.0),
          elim (k.newest_genuine b o b<m) [
            | inl z ↦ absurd (let y = valid_pos b o b<m t in omega arith)
            | inr z ↦ genuine_grows P W V g o (newest_of (W.out b) o).version (newest_of (W.out b) o).value z
          ],
        ),
      )

  pub news_next : (a : Act) → (h : May P a W) → All (MsgOk P (next a)) (next a).sent
  news_next a h = go a h (grows P small W k a h)
    where
      old : (a : Act) → Grows P W (next a) → All (MsgOk P (next a)) W.sent
      old a g = all_map (MsgOk P W) (MsgOk P (next a)) (msg_grows P W (next a) g) W.sent k.msgs

      more : (a : Act) → Grows P W (next a) → (new : List Message) → All (MsgOk P (next a)) new → All (MsgOk P (next a)) (W.sent ++ new)
      more a g new n = all-++ (MsgOk P (next a)) W.sent new (old a g) n

      go : (a : Act) → May P a W → Grows P W (next a) → All (MsgOk P (next a)) (next a).sent
      go (ticks x y) h g = old (ticks x y) g
      go (writes o x) h g = more (writes o x) g (clock_questions (W.begun + 1) P.counts.n)
          (each_all (MsgOk P (next (writes o x))) P.counts.n (λ i. ClockQuestion (W.begun + 1) i ∷ []) (λ i l. ((omega arith, omega arith), tt)))
      go (reads o) h g = more (reads o) g (read_requests (W.begun + 1) o P.counts.m)
          (each_all (MsgOk P (next (reads o))) P.counts.m (λ j. ReadRequest (W.begun + 1) j o ∷ [])
          (λ j l. (
            (
              (omega arith, omega arith),
              subst (λ (y : Operation). Reads y o) (sym (at_same (W.begun + 1) (reading (first_reading (W.begun + 1) o)) W.op)) refl,
            ),
            tt,
          )))
      go (hears (ClockQuestion p a)) h g = more (hears (ClockQuestion p a)) g (answers_clock a p (W.inp a)) (msg_at (ClockQuestion p a) h.0, tt)
      go (hears (ClockAnswer a p c)) h g = more (hears (ClockAnswer a p c)) g _ (sends_ok (ClockAnswer a p c) (W.op p) h refl)
      go (hears (WriteRequest p a o v x)) h g = more (hears (WriteRequest p a o v x)) g
          (answers_write a p P.counts.m o (after_write P.counts.m o v x (W.inp a))) (writes_news a p o v x h)
      go (hears (WriteAnswer a p t)) h g = more (hears (WriteAnswer a p t)) g _ (sends_ok (WriteAnswer a p t) (W.op p) h refl)
      go (hears (ReadRequest p b o)) h g = more (hears (ReadRequest p b o)) g (answers_read P.inputs b p P.counts.n o (W.out b)) (read_news p b o h)
      go (hears (ReadAnswer b p v x)) h g = more (hears (ReadAnswer b p v x)) g _ (sends_ok (ReadAnswer b p v x) (W.op p) h refl)
      go (hears (RenewalRequest b a r)) h g = more (hears (RenewalRequest b a r)) g (answers_renewal a P.lease b r (W.inp a)) (
        (λ e. let f = fits_renewal P.counts b a r h.1 in
            let z = genuine_grows P W (next (hears (RenewalRequest b a r))) g r.object (held (W.inp a) r.object).version (held (W.inp a) r.object).value (k.held_genuine a r.object f.input (few r.object f.object)) in
            subst (λ (t : Bool). Genuine (next (hears (RenewalRequest b a r))) r.object (cond t (held (W.inp a) r.object).version none) (cond t (held (W.inp a) r.object).value 0)) (sym e) z),
        tt,
      )
      go (hears (RenewalAnswer a b y)) h g = more (hears (RenewalAnswer a b y)) g (acknowledgement b a y.list)
          (Outs.ack_all (MsgOk P (next (hears (RenewalAnswer a b y)))) b a y.list tt)
      go (hears (Invalidation a b o v)) h g = more (hears (Invalidation a b o v)) g _ (tt, tt)
      go (hears (InvalidationAnswer b a l)) h g = more (hears (InvalidationAnswer b a l)) g [] tt

  -- ---- new states of operations

  -- an asking write that heard one clock more
  module _ (a p c : ℕ) (h : May P (hears (ClockAnswer a p c)) W) (x : Asking) (e : W.op p ≡ asking x) (ok : AskingOk W p x) where
    asked_next : AskingOk (next (hears (ClockAnswer a p c))) p (hears_clock a c x)
    asked_next = record {
      own = ok.own;
      clocks = λ i b. elim (of_joined x.senders a i (let z = (fits_clock P.counts a p c h.1).sender in let y = small.n_most in omega arith) b) [
        | inl s ↦ let r = ok.clocks i s in (r.0, any_old (λ z. ClockAnswer i p r.0 ≡ z) W.sent _ r.1, omega (arith, r.2))
        | inr d ↦ (
          c,
          subst (λ (z : ℕ). In (ClockAnswer z p c) (next (hears (ClockAnswer a p c))).sent) d (any_old (λ z. ClockAnswer a p c ≡ z) W.sent _ h.0),
          omega arith,
        )
      ];
    }

    sent_next : knows_clock P.inputs (hears_clock a c x) ≡ true → SendingOk P (next (hears (ClockAnswer a p c))) p (gets_version (hears_clock a c x))
    sent_next t = record {
      own = ok.own;
      named = λ i j b _ _. absurd (named_none 8 i j b);
      asked = (0, subst (λ (q : ℕ). In (WriteRequest q 0 w.object w.version w.value) V.sent) ok.own request);
    }
      where
        V : PlainState
        V = next (hears (ClockAnswer a p c))

        w : Sending
        w = gets_version (hears_clock a c x)

        news : (reaction P (ClockAnswer a p c) (W.op p)).sends ≡ write_requests P.inputs.count w
        news = ap (λ (y : Operation). (reaction P (ClockAnswer a p c) y).sends) e ∙ ap (λ (r : Reaction). r.sends) (reacts_gets P.inputs P.outputs a p c x t)

        request : In (WriteRequest x.operation 0 w.object w.version w.value) V.sent
        request = any_new (λ z. WriteRequest x.operation 0 w.object w.version w.value ≡ z) W.sent _
            (subst (λ (l : List Message). In (WriteRequest x.operation 0 w.object w.version w.value) l) (sym news)
            (any_each (λ z. WriteRequest x.operation 0 w.object w.version w.value ≡ z) P.inputs.count
            (λ i. WriteRequest x.operation i w.object w.version w.value ∷ []) 0 (let z = small.n_is in let y = small.n_pos in omega arith) (inl refl)))

  -- who is named after a write answer stands behind a fence
  pub named_next : (a p : ℕ) (t : MemberSet) → (h : May P (hears (WriteAnswer a p t)) W) → (w : Sending) → W.op p ≡ sending w
      → Named P (next (hears (WriteAnswer a p t))) w.object w.version.0 (hears_named a t w).named
  named_next a p t h w e = λ i j b i<n j<m. elim (named_from a t w.named i j b) [
    | inl s ↦ g.stands i j w.object w.version.0 i<n j<m (ok.named i j s i<n j<m)
    | inr s ↦ subst (λ (z : ℕ). Stands P V z j w.object w.version.0) s.0
        (g.stands a j w.object w.version.0 (subst (λ (z : ℕ). z < P.counts.n) (sym s.0) i<n) j<m
        (same said.0 said.1 said.2 said.3 j (said.4 j s.1 (subst (λ (z : ℕ). z < P.counts.n) (sym s.0) i<n) j<m)))
  ]
    where
      V : PlainState
      V = next (hears (WriteAnswer a p t))

      g : Grows P W V
      g = grows P small W k (hears (WriteAnswer a p t)) h

      begun : Begun W p
      begun = (msg_at (WriteAnswer a p t) h.0).0

      ok : SendingOk P W p w
      ok = subst (OpOk P W p) e (k.ops p begun)

      said : (o : ℕ) × (v : Version) × (x : ℕ) × Requested W p o v x
          × ((j : ℕ) → has t.0 j ≡ true → a < P.counts.n → j < P.counts.m → Stands P W a j o v.0)
      said = (msg_at (WriteAnswer a p t) h.0).1

      -- the requests of one write agree with it
      same : (o : ℕ) (v : Version) (x : ℕ) → Requested W p o v x → (j : ℕ) → Stands P W a j o v.0 → Stands P W a j w.object w.version.0
      same o v x r j s =
          let q : (w.object ≡ o) × (w.version ≡ v) × (w.value ≡ x) =
          subst (λ (y : Operation). Wrote y o v x) e (msg_at (WriteRequest p r.0 o v x) r.1).1 in
          subst (λ (z : ℕ). Stands P W a j z w.version.0) (sym q.0)
          (subst (λ (z : Version). Stands P W a j o z.0) (sym q.1) s)

  -- what a read has gathered after an answer
  pub heard_next : (b p : ℕ) (v : Version) (x : ℕ) → (h : May P (hears (ReadAnswer b p v x)) W) → (r : Reading) → W.op p ≡ reading r → OpOk P W p (reading r)
      → ReadingOk (next (hears (ReadAnswer b p v x))) p (hears_pair b v x r)
  heard_next b p v x h r e ok = record {
    own = ok.own;
    heard = λ j s. elim (of_joined r.senders b j (let z = f.0 in let y = small.m_most in omega arith) s) [
      | inl y ↦ let z = ok.heard j y in (
        z.0,
        z.1,
        any_old (λ q. ReadAnswer j p z.0 z.1 ≡ q) W.sent _ z.2,
        elim (pair_from b v x r) [
          | inl q ↦ let d = ap (λ (u : Version). u.0) q.0 in omega (arith, z.3)
          | inr q ↦ let d = ap (λ (u : Version). u.0) q.0 in omega (arith, z.3, q.2)
        ],
      )
      | inr d ↦ (
        v,
        x,
        subst (λ (z : ℕ). In (ReadAnswer z p v x) V.sent) d (any_old (λ q. ReadAnswer b p v x ≡ q) W.sent _ h.0),
        elim (pair_from b v x r) [
          | inl q ↦ let c = ap (λ (u : Version). u.0) q.0 in omega (arith, q.2)
          | inr q ↦ let c = ap (λ (u : Version). u.0) q.0 in omega arith
        ],
      )
    ];
    genuine = elim (pair_from b v x r) [
      | inl q ↦ elim ok.genuine [
        | inl z ↦ inl (let d = ap (λ (u : Version). u.0) q.0 in omega arith)
        | inr z ↦ inr (moved r.object r.version r.value (hears_pair b v x r).version (hears_pair b v x r).value q.0 q.1
            (genuine_grows P W V g r.object r.version r.value z))
      ]
      | inr q ↦ inr (moved r.object v x (hears_pair b v x r).version (hears_pair b v x r).value q.0 q.1 (genuine_grows P W V g r.object v x fresh))
    ];
  }
    where
      V : PlainState
      V = next (hears (ReadAnswer b p v x))

      g : Grows P W V
      g = grows P small W k (hears (ReadAnswer b p v x)) h

      f : (b < P.counts.m) × (65536 ≤ v.0)
      f = fits_pair P.counts b p v x h.1

      moved : (o : ℕ) (u : Version) (y : ℕ) (u' : Version) (y' : ℕ) → u' ≡ u → y' ≡ y → Genuine V o u y → Genuine V o u' y'
      moved o u y u' y' d c z = subst (λ (s : Version). Genuine V o s y') (sym d) (subst (λ (s : ℕ). Genuine V o u s) (sym c) z)

      said : (o : ℕ) × AskedFor W p o × Genuine W o v x
      said = (msg_at (ReadAnswer b p v x) h.0).1

      fresh : Genuine W r.object v x
      fresh =
          let d : r.object ≡ said.0 = subst (λ (y : Operation). Reads y said.0) e (msg_at (ReadRequest p said.1.0 said.0) said.1.1).1 in
          subst (λ (o : ℕ). Genuine W o v x) (sym d) said.2

  op_next : (m : Message) (y : Operation) → May P (hears m) W → W.op (answers_to m) ≡ y → OpOk P W (answers_to m) y
      → OpOk P (next (hears m)) (answers_to m) (reaction P m y).next
  op_next = every_reaction P.inputs P.outputs (λ m y r. May P (hears m) W → W.op (answers_to m) ≡ y → OpOk P W (answers_to m) y
      → OpOk P (next (hears m)) (answers_to m) r.next) (record {
        stays = λ m y n h e ok. op_grows P W (next (hears m)) (grows P small W k (hears m) h) (answers_to m) y ok;
        asks = λ a p c x t h e ok. asked_next a p c h x e ok;
        gets = λ a p c x t h e ok. sent_next a p c h x e ok t;
        sends = λ a p s w t h e ok. record {
          own = ok.own;
          named = named_next a p s h w e;
          asked = requested_grows P W (next (hears (WriteAnswer a p s))) (grows P small W k (hears (WriteAnswer a p s)) h) p w.object w.version w.value ok.asked;
        };
        writes = λ a p s w t h e ok. tt;
        gathers = λ b p v x r t h e ok. heard_next b p v x h r e ok;
        reads = λ b p v x r t h e ok. tt;
      })

  pub ops_next : (a : Act) → (h : May P a W) → (p : ℕ) → Begun (next a) p → OpOk P (next a) p ((next a).op p)
  ops_next a h = go a h (grows P small W k a h)
    where
      old : (a : Act) → Grows P W (next a) → (p : ℕ) → Begun W p → OpOk P (next a) p (W.op p)
      old a g p b = op_grows P W (next a) g p (W.op p) (k.ops p b)

      one : (a : Act) → Grows P W (next a) → (q : ℕ) (y : Operation) → OpOk P (next a) q y → (p : ℕ) → Begun W p → OpOk P (next a) p (at q y W.op p)
      one a g q y n p b = at_cases (OpOk P (next a) p) q p y W.op (λ e. subst (λ (z : ℕ). OpOk P (next a) z y) e n) (λ _. old a g p b)

      first : (a : Act) → Grows P W (next a) → (y : Operation) → OpOk P (next a) (W.begun + 1) y → (p : ℕ) → (1 ≤ p) × (p ≤ W.begun + 1)
          → OpOk P (next a) p (at (W.begun + 1) y W.op p)
      first a g y n p b = at_cases (OpOk P (next a) p) (W.begun + 1) p y W.op (λ e. subst (λ (z : ℕ). OpOk P (next a) z y) e n)
          (λ e. old a g p (b.0, let z = b.1 in omega arith))

      nobody : (i : ℕ) → has 0 i ≡ true → ⊥
      nobody i t = false≢true (sym (has_none i) ∙ t)

      go : (a : Act) → May P a W → Grows P W (next a) → (p : ℕ) → Begun (next a) p → OpOk P (next a) p ((next a).op p)
      go (writes o x) h g p b = first (writes o x) g (asking (first_asking (W.begun + 1) o x)) (record { own = refl; clocks = λ i t. absurd (nobody i t) }) p b
      go (reads o) h g p b = first (reads o) g (reading (first_reading (W.begun + 1) o))
          (record { own = refl; heard = λ j t. absurd (nobody j t); genuine = inl refl }) p b
      go (hears (ClockAnswer a q c)) h g p b = one (hears (ClockAnswer a q c)) g q _
          (op_next (ClockAnswer a q c) (W.op q) h refl (k.ops q (msg_at (ClockAnswer a q c) h.0))) p b
      go (hears (WriteAnswer a q t)) h g p b = one (hears (WriteAnswer a q t)) g q _
          (op_next (WriteAnswer a q t) (W.op q) h refl (k.ops q (msg_at (WriteAnswer a q t) h.0).0)) p b
      go (hears (ReadAnswer c q v x)) h g p b = one (hears (ReadAnswer c q v x)) g q _
          (op_next (ReadAnswer c q v x) (W.op q) h refl (k.ops q (msg_at (ReadAnswer c q v x) h.0).0)) p b
      go a h g p b = old a g p b

  -- ---- everything

  pub keeps : (a : Act) → May P a W → Kept P (next a)
  keeps a h = let g = grows P small W k a h in record {
    chans = chans_next P small W k a h;
    in_shape = λ i l. (inputs_step P small W k a h i).shape (k.in_shape i l);
    out_shape = λ j l. (outputs_step P small W k a h j).shape (k.out_shape j l);
    lc = λ i l. (inputs_step P small W k a h i).clocked (k.lc i l);
    held_pos = λ i o l s. let z = (moves P small W k i 0 l small.m_pos a h).held_up o in omega (arith, k.held_pos i o l s);
    held_genuine = λ i o l s. elim ((inputs_step P small W k a h i).held o) [
      | inl e ↦ subst (λ (v : Version). Genuine (next a) o v (held ((next a).inp i) o).value) (sym e.0)
          (subst (λ (x : ℕ). Genuine (next a) o (held (W.inp i) o).version x) (sym e.1)
          (genuine_grows P W (next a) g o (held (W.inp i) o).version (held (W.inp i) o).value (k.held_genuine i o l s)))
      | inr e ↦ genuine_grows P W (next a) g o (held ((next a).inp i) o).version (held ((next a).inp i) o).value e
    ];
    newest_genuine = λ j o l. elim ((outputs_step P small W k a h j).newest o) [
      | inl e ↦ subst (λ (n : Newest). (n.version.0 ≡ 0) ⊎ Genuine (next a) o n.version n.value) (sym e) (elim (k.newest_genuine j o l) [
        | inl z ↦ inl z
        | inr z ↦ inr (genuine_grows P W (next a) g o (newest_of (W.out j) o).version (newest_of (W.out j) o).value z)
      ])
      | inr e ↦ inr (genuine_grows P W (next a) g o (newest_of ((next a).out j) o).version (newest_of ((next a).out j) o).value e)
    ];
    msgs = news_next a h;
    ops = ops_next a h;
  }
