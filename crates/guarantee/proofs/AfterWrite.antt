-- From the end of a write on: what the read answers and clock answers to a later operation know of it.
use Rattle.std.proofs.Common.{◌≡◌, ℕ, ◌+◌, ◌*◌, ◌/◌, ◌<◌, ◌≤◌, max, true, List, [], ◌∷◌, ◌++◌, sym, refl, ap, subst, inl, inr, append-nil, arith}
use Rattle.std.proofs.lemmas.Bool.{and_parts}
use Rattle.quorum.specs.declared.member_set.MemberSet.{MemberSet}
use Rattle.quorum.specs.Sets.{has, joined, set_of}
use Rattle.quorum.specs.Systems.{Lawful}
use Rattle.rules.specs.declared.message.Message.{Message}
use Rattle.rules.specs.declared.message.Message.TheVariants.{ClockQuestion, ClockAnswer, WriteRequest, WriteAnswer, ReadRequest, ReadAnswer, RenewalRequest, RenewalAnswer, Invalidation, InvalidationAnswer}
use Rattle.numbers.specs.declared.version.Version.{Version}
use Rattle.rules.specs.Input.{after_write}
use Rattle.rules.specs.Operation.{Operation, asking, named_by, counts, hears_named, hears_pair}
use Rattle.rules.specs.Output.{newest_of, valid, covers, good}
use Rattle.guarantee.proofs.Fence.{pass}
use Rattle.guarantee.proofs.CallEffects.{news_of}
use Rattle.guarantee.proofs.Ends.{WriteEnds, ReadEnds, GetsVersion}
use Rattle.guarantee.proofs.RangeFacts.{fits_clock}
use Rattle.guarantee.proofs.WriteMoves as Writes
use Rattle.guarantee.proofs.Keeps.{grows}
use Rattle.guarantee.proofs.Kept.{slow, view, Begun, MsgOk, Named, OpOk, AskingOk, ReadingOk, Small, Kept, May, Grows, begun_grows}
use Rattle.guarantee.proofs.Next.{named_next, heard_next}
use Rattle.guarantee.proofs.OutputMoves as Outs
use Rattle.guarantee.proofs.Reacting.{sends_requests}
use Rattle.guarantee.proofs.Sets.{of_set_of, of_joined}
use Rattle.guarantee.proofs.Words.{In, All, all_map, all-++, all_at, each_all}
use Rattle.guarantee.proofs.PlainState.{Params, PlainState, Act, ticks, writes, reads, hears, run, reaction}

-- what an act logs is what joins the log
pub sent_is : (P : Params) (W : PlainState) (a : Act) → (run P a W).sent ≡ W.sent ++ news_of P a W
sent_is P W (ticks x y) = sym (append-nil W.sent)
sent_is P W (hears (ClockQuestion p i)) = refl
sent_is P W a = refl

-- a fact of every message, of which only clock questions, clock answers, read requests and read answers say anything
abbrev pub IsPlain : Message → Type 0
IsPlain (ClockQuestion p i) = ⊥
IsPlain (ClockAnswer i p c) = ⊥
IsPlain (ReadRequest p j o) = ⊥
IsPlain (ReadAnswer j p v x) = ⊥
IsPlain m = Unit {0}

abbrev pub Plain : (Message → Type 0) → Type 0
Plain X = (m : Message) → IsPlain m → X m

reaction_plain : (X : Message → Type 0) → Plain X → (P : Params) (m : Message) (y : Operation) → All X (reaction P m y).sends
reaction_plain X f P = sends_requests P.inputs P.outputs X (λ p i o v x. f (WriteRequest p i o v x) tt)

-- such a fact holds of all that an act logs, if it holds of these four
pub news_plain : (X : Message → Type 0) → Plain X → (P : Params) (W : PlainState)
    → ((i : ℕ) → X (ClockQuestion (W.begun + 1) i)) → ((o j : ℕ) → X (ReadRequest (W.begun + 1) j o))
    → (a : Act)
    → ((p i : ℕ) → a ≡ hears (ClockQuestion p i) → X (ClockAnswer i p (W.inp i).lc))
    → ((p j o : ℕ) → a ≡ hears (ReadRequest p j o) → valid P.inputs P.counts.n o (W.out j) ≡ true
    → X (ReadAnswer j p (newest_of (W.out j) o).version (newest_of (W.out j) o).value))
    → All X (news_of P a W)
news_plain X f P W cq rq (ticks x y) ca ra = tt
news_plain X f P W cq rq (writes o x) ca ra = each_all X P.counts.n (λ i. ClockQuestion (W.begun + 1) i ∷ []) (λ i l. (cq i, tt))
news_plain X f P W cq rq (reads o) ca ra = each_all X P.counts.m (λ j. ReadRequest (W.begun + 1) j o ∷ []) (λ j l. (rq o j, tt))
news_plain X f P W cq rq (hears (ClockQuestion p i)) ca ra = (ca p i refl, tt)
news_plain X f P W cq rq (hears (ClockAnswer i p c)) ca ra = reaction_plain X f P (ClockAnswer i p c) (W.op p)
news_plain X f P W cq rq (hears (WriteRequest p i o v x)) ca ra =
    Writes.names_write X i p P.counts.m o (after_write P.counts.m o v x (W.inp i)) (λ j. f _ tt) (f _ tt)
news_plain X f P W cq rq (hears (WriteAnswer i p t)) ca ra = reaction_plain X f P (WriteAnswer i p t) (W.op p)
news_plain X f P W cq rq (hears (ReadRequest p j o)) ca ra =
    Outs.read_all P.inputs j p P.counts.n o (W.out j) X (ra p j o refl) (λ i l. f _ tt)
news_plain X f P W cq rq (hears (ReadAnswer j p v x)) ca ra = reaction_plain X f P (ReadAnswer j p v x) (W.op p)
news_plain X f P W cq rq (hears (RenewalRequest j i r)) ca ra = (f _ tt, tt)
news_plain X f P W cq rq (hears (RenewalAnswer i j y)) ca ra = Outs.ack_all X j i y.list (f _ tt)
news_plain X f P W cq rq (hears (Invalidation i j o v)) ca ra = (f _ tt, tt)
news_plain X f P W cq rq (hears (InvalidationAnswer j i l)) ca ra = tt

-- ---- a write that has ended

-- enough output servers are fenced off by enough input servers, for good
pub record Settled (P : Params) (W : PlainState) (o w : ℕ) : Type 0 where
  pub named : List MemberSet
  pub enough : P.outputs.writes (set_of P.outputs.count (counts P.inputs P.inputs.count named)) ≡ true
  pub stand : Named P W o w named

pub settled_grows : (P : Params) (W V : PlainState) (o w : ℕ) → Grows P W V → Settled P W o w → Settled P V o w
settled_grows P W V o w g s = record {
  named = s.named;
  enough = s.enough;
  stand = λ i j b k l. g.stands i j o w k l (s.stand i j b k l);
}

-- ---- an operation that begins after the end of a write

-- Since the operation q began, a fact holds of every message made, and the write's fences stand
pub record Since (P : Params) (X : Message → Type 0) (q o w : ℕ) (N : List MemberSet) (W : PlainState) : Type 0 where
  pub stand : Named P W o w N
  pub begun : Begun W q
  pub said : All X W.sent

module _ (P : Params) (small : Small P) (X : Message → Type 0) (q o w : ℕ) (N : List MemberSet) (W : PlainState) (k : Kept P W) (a : Act) (h : May P a W)
    (news : All X (news_of P a W)) where
  stands : Named P W o w N → Named P (run P a W) o w N
  stands s i j b x y = (grows P small W k a h).stands i j o w x y (s i j b x y)

  logged : All X W.sent → All X (run P a W).sent
  logged s = subst (λ (l : List Message). All X l) (sym (sent_is P W a)) (all-++ X W.sent (news_of P a W) s news)

  -- from the call that begins it
  pub since_first : Named P W o w N → Begun (run P a W) q → ((m : Message) → MsgOk P W m → X m) → Since P X q o w N (run P a W)
  since_first s b f = record { stand = stands s; begun = b; said = logged (all_map (MsgOk P W) X f W.sent k.msgs) }

  -- and with each later one
  pub since_next : Since P X q o w N W → Since P X q o w N (run P a W)
  since_next s = record { stand = stands s.stand; begun = begun_grows P W (run P a W) (grows P small W k a h) q s.begun; said = logged s.said }

-- of a read: what is asked for it and what answers it
abbrev pub Late : Params → ℕ → ℕ → ℕ → List MemberSet → Message → Type 0
Late P q o w N (ReadRequest p j z) = p ≡ q → z ≡ o
Late P q o w N (ReadAnswer j p v x) = p ≡ q → j < P.counts.m → counts P.inputs P.inputs.count N j ≡ true → w ≤ v.0
Late P q o w N m = Unit {0}

-- of a write: what answers it
abbrev pub Wise : Params → ℕ → ℕ → List MemberSet → ℕ → Message → Type 0
Wise P q w N j (ClockAnswer i p c) = p ≡ q → has (named_by N i) j ≡ true → i < P.counts.n → w / 65536 ≤ c
Wise P q w N j m = Unit {0}

-- when the operation begins, no message names it yet
pub late_first : (P : Params) (W : PlainState) (q o w : ℕ) (N : List MemberSet) → q ≡ W.begun + 1 → (m : Message) → MsgOk P W m → Late P q o w N m
late_first P W q o w N e (ReadRequest p j z) h = λ f. absurd (let y = h.0.1 in omega arith)
late_first P W q o w N e (ReadAnswer j p v x) h = λ f _ _. absurd (let y = h.0.1 in omega arith)
late_first P W q o w N e m h = tt

pub wise_first : (P : Params) (W : PlainState) (q w : ℕ) (N : List MemberSet) (j : ℕ) → q ≡ W.begun + 1 → (m : Message) → MsgOk P W m → Wise P q w N j m
wise_first P W q w N j e (ClockAnswer i p c) h = λ f _ _. absurd (let y = h.1 in omega arith)
wise_first P W q w N j e m h = tt

module _ (P : Params) (small : Small P) (in_lawful : Lawful P.inputs) (out_lawful : Lawful P.outputs) where
  pub settles : (W : PlainState) → Kept P W → (a : Act) (p w y : ℕ) → May P a W → (e : WriteEnds P W a p w y) → Settled P (run P a W) e.write.object w
  settles W k a p w y may e = subst (λ (b : Act). May P b W → Settled P (run P b W) e.write.object w) (sym e.act)
      (λ h. record {
        named = (hears_named e.from e.set e.write).named;
        enough = e.written;
        stand = subst (λ (u : ℕ). Named P (run P (hears (WriteAnswer e.from p e.set)) W) e.write.object u (hears_named e.from e.set e.write).named) e.version
            (named_next P small in_lawful W k e.from p e.set h e.write e.op);
      }) may

  -- an output server that answers has passed every fence of an output server that counts
  answers : (W : PlainState) → Kept P W → (o w : ℕ) (N : List MemberSet) → Named P W o w N → (j : ℕ) → j < P.counts.m
      → counts P.inputs P.inputs.count N j ≡ true → valid P.inputs P.counts.n o (W.out j) ≡ true → w ≤ (newest_of (W.out j) o).version.0
  answers W k o w N named j l c v =
      let p = and_parts (covers (W.out j) o P.counts.n) (P.inputs.reads (set_of P.counts.n (good (W.out j) o))) v in
      let x = in_lawful.meet (set_of P.counts.n (good (W.out j) o)) (set_of P.inputs.count (λ i. has (named_by N i) j)) p.1 c in
      let g = of_set_of P.counts.n (good (W.out j) o) x.0 x.2 in
      let n = of_set_of P.inputs.count (λ i. has (named_by N i) j) x.0 x.3 in
      let z = pass P.lease (slow P) (view W x.0 j) o w (k.chans x.0 j g.0 l) (named x.0 j n.1 g.0 l).fence
      (Outs.good_good (W.inp x.0) (W.out j) x.0 j W.sent o g.1) in
      omega (arith, Outs.covered (W.out j) o P.counts.n x.0 p.0 g.0)

  -- ---- a read

  late_plain : (q o w : ℕ) (N : List MemberSet) → Plain (Late P q o w N)
  late_plain q o w N (ReadRequest p j z) h = absurd h
  late_plain q o w N (ReadAnswer j p v x) h = absurd h
  late_plain q o w N m h = tt

  pub late_news : (q o w : ℕ) (N : List MemberSet) (W : PlainState) → Kept P W → (a : Act) → May P a W → Since P (Late P q o w N) q o w N W
      → All (Late P q o w N) (news_of P a W)
  late_news q o w N W k a h s =
      news_plain (Late P q o w N) (late_plain q o w N) P W (λ _. tt) (λ z j e. absurd (let y = s.begun.1 in omega arith)) a (λ _ _ _. tt) answered
    where
      answered : (p j z : ℕ) → a ≡ hears (ReadRequest p j z) → valid P.inputs P.counts.n z (W.out j) ≡ true
          → p ≡ q → j < P.counts.m → counts P.inputs P.inputs.count N j ≡ true → w ≤ (newest_of (W.out j) z).version.0
      answered p j z e v f l c =
          let may : May P (hears (ReadRequest p j z)) W = subst (λ (b : Act). May P b W) e h in
          let d : z ≡ o = all_at (Late P q o w N) (ReadRequest p j z) W.sent s.said may.0 f in
          answers W k z w N (subst (λ (y : ℕ). Named P W y w N) (sym d) s.stand) j l c v

  -- its end
  pub read_not_behind : (q o w : ℕ) (W : PlainState) → Kept P W → (a : Act) (v y : ℕ) → May P a W → (settled : Settled P W o w)
      → Since P (Late P q o w settled.named) q o w settled.named W → ReadEnds P W a q v y → w ≤ v
  read_not_behind q o w W k a v y may settled s e =
      subst (λ (b : Act). May P b W → w ≤ v) (sym e.act) ends may
    where
      N : List MemberSet
      N = settled.named

      ends : May P (hears (ReadAnswer e.from q e.pair_version e.pair_value)) W → w ≤ v
      ends h =
          let ok : ReadingOk W q e.read = subst (OpOk P W q) e.op (k.ops q s.begun) in
          let r = heard_next P small in_lawful W k e.from q e.pair_version e.pair_value h e.read e.op ok in
          let t = since_next P small (Late P q o w N) q o w N W k (hears (ReadAnswer e.from q e.pair_version e.pair_value)) h
          (late_news q o w N W k (hears (ReadAnswer e.from q e.pair_version e.pair_value)) h s) s in
          let x = out_lawful.meet (hears_pair e.from e.pair_version e.pair_value e.read).senders
          (set_of P.outputs.count (counts P.inputs P.inputs.count N)) e.complete settled.enough in
          let c = of_set_of P.outputs.count (counts P.inputs P.inputs.count N) x.0 x.3 in
          let u = r.heard x.0 x.2 in
          let l : w ≤ u.0.0 = all_at (Late P q o w N) (ReadAnswer x.0 q u.0 u.1) _ t.said u.2 refl (let z = small.m_is in let y = x.1 in omega arith) c.1 in
          omega (arith, u.3, e.version)

  -- ---- a write

  wise_plain : (q w : ℕ) (N : List MemberSet) (j : ℕ) → Plain (Wise P q w N j)
  wise_plain q w N j (ClockAnswer i p c) h = absurd h
  wise_plain q w N j m h = tt

  pub wise_news : (q o w : ℕ) (N : List MemberSet) (j : ℕ) → j < P.counts.m → (W : PlainState) (a : Act) → Since P (Wise P q w N j) q o w N W
      → All (Wise P q w N j) (news_of P a W)
  wise_news q o w N j l W a s =
      news_plain (Wise P q w N j) (wise_plain q w N j) P W (λ _. tt) (λ _ _. tt) a (λ p i _ _ t n. (s.stand i j t n l).clock) (λ _ _ _ _ _. tt)

  -- its version
  pub version_rises : (q o w : ℕ) (W : PlainState) → Kept P W → (a : Act) (z : ℕ) (v : Version) (x : ℕ) → May P a W → (settled : Settled P W o w)
      → (j : ℕ) → j < P.counts.m → counts P.inputs P.inputs.count settled.named j ≡ true
      → Since P (Wise P q w settled.named j) q o w settled.named W → (e : GetsVersion P W a q z v x) → e.named ≡ q → w < v.0
  version_rises q o w W k a z v x may settled j l c s e same =
      subst (λ (b : Act). May P b W → w < v.0) (sym e.act) gets may
    where
      N : List MemberSet
      N = settled.named

      i : ℕ
      i = e.from

      wise : (n c : ℕ) → In (ClockAnswer n q c) W.sent → has (named_by N n) j ≡ true → n < P.counts.n → w / 65536 ≤ c
      wise n c h t b = all_at (Wise P q w N j) (ClockAnswer n q c) W.sent s.said h refl t b

      gets : May P (hears (ClockAnswer i e.named e.clock)) W → w < v.0
      gets h =
          let f = fits_clock P.counts i e.named e.clock h.1 in
          let h' : In (ClockAnswer i q e.clock) W.sent = subst (λ (p : ℕ). In (ClockAnswer i p e.clock) W.sent) same h.0 in
          let ok : AskingOk W q e.ask = subst (OpOk P W q) (subst (λ (p : ℕ). W.op p ≡ asking e.ask) same e.op) (k.ops q s.begun) in
          let y = in_lawful.meet (joined e.ask.senders i) (set_of P.inputs.count (λ n. has (named_by N n) j)) e.knows c in
          let t = of_set_of P.inputs.count (λ n. has (named_by N n) j) y.0 y.3 in
          let b : y.0 < P.counts.n = let z = small.n_is in let u = y.1 in omega arith in
          let top : w / 65536 ≤ max e.ask.clock e.clock = elim (of_joined e.ask.senders i y.0 (let z = f.sender in let u = small.n_most in omega arith) y.2) [
            | inl u ↦ let r = ok.clocks y.0 u in omega (arith, wise y.0 r.0 r.1 t.1 b, r.2)
            | inr u ↦ omega (arith, wise i e.clock h' (subst (λ (n : ℕ). has (named_by N n) j ≡ true) (sym u) t.1) f.sender)
          ] in
          let d : (max e.ask.clock e.clock + 1) * 65536 + e.ask.operation ≡ v.0 = ap (λ (u : Version). u.0) e.version in
          omega arith
