-- Where the operations and the requests of a story come from: the calls that began them, and those that gave them versions.
use Rattle.std.proofs.Common.{◌≡◌, ℕ, zero, suc, ◌+◌, ◌<◌, ◌≤◌, false, ◌⊎◌, List, [], ◌∷◌, length, get_or, take, sym, refl, ap, ◌∙◌, subst, inl, inr, arith}
use Rattle.rules.specs.declared.message.Message.{Message}
use Rattle.rules.specs.declared.message.Message.TheVariants.{ClockQuestion, ClockAnswer, WriteRequest, ReadRequest}
use Rattle.rules.specs.Operation.{Operation, asking, sending, reading, first_asking, first_reading}
use Rattle.rules.proofs.Reactions.{every_reaction}
use Rattle.rules.specs.Said.{refused, accepted, began}
use Rattle.rules.specs.State.{State, Outcome}
use Rattle.guarantee.specs.Story.{Story, Call, to_open, to_advance, to_write, to_read, to_deliver, call_at, before, said_at, Has, BeginsWrite, BeginsRead, Gets}
use Rattle.guarantee.proofs.CallEffects.{params_of, act_of, says_of, news_of, Accepted}
use Rattle.guarantee.proofs.Ends.{GetsVersion, gets_version_lem, asks_read}
use Rattle.guarantee.proofs.Keeps.{ops_up}
use Rattle.guarantee.proofs.Kept.{Begun, MsgOk, OpOk, AskingOk, May}
use Rattle.guarantee.proofs.Lives.{calls, outcome_at, Given, Live, happens, stayed, live_next}
use Rattle.guarantee.proofs.Opens.{closed_step}
use Rattle.guarantee.proofs.AfterWrite.{sent_is}
use Rattle.guarantee.proofs.Words.{never, at, at_cases, In, All, all_map, all-++, all_at}
use Rattle.guarantee.proofs.PlainState.{Params, PlainState, Act, reads, hears, run, plain_of, reaction}

-- ---- lists

pub in_has : {A : Type 0} (x : A) (l : List A) → In x l → Has l x
in_has x [] h = absurd h
in_has x (y ∷ l) (inl e) = (0, omega arith, sym e)
in_has x (y ∷ l) (inr h) = let r = in_has x l h in (suc r.0, let z = r.1 in omega arith, r.2)

pub has_in : {A : Type 0} (x : A) (l : List A) → Has l x → In x l
has_in x [] h = absurd (let z = h.1 in omega arith)
has_in x (y ∷ l) h = go h.0 h.1 h.2 (has_in x l)
  where
    go : (k : ℕ) → k < length (y ∷ l) → get_or (y ∷ l) k x ≡ x → (Has l x → In x l) → In x (y ∷ l)
    go zero b e more = inl (sym e)
    go (suc k) b e more = inr (more (k, omega arith, e))

all_from : {A : Type 0} (X : A → Type 0) (l : List A) → ((x : A) → In x l → X x) → All X l
all_from X [] f = tt
all_from X (x ∷ l) f = (f x (inl refl), all_from X l (λ y h. f y (inr h)))

module _ (given : Given) where
  abbrev S : Story
  S = given.story

  -- ---- where the operations and requests of a world come from

  abbrev pub OpTraced : ℕ → ℕ → Operation → Type 0
  OpTraced t p (asking a) = (b : ℕ) × (b < t) × BeginsWrite S b p a.object a.value
  OpTraced t p (sending w) = (b : ℕ) × (b < t) × BeginsWrite S b p w.object w.value
  OpTraced t p (reading r) = (b : ℕ) × (b < t) × BeginsRead S b p r.object
  OpTraced t p x = Unit {0}

  abbrev pub MsgTraced : ℕ → Message → Type 0
  MsgTraced t (WriteRequest p i o v x) = ((b : ℕ) × (b < t) × BeginsWrite S b p o x) × ((g : ℕ) × (g < t) × Gets S g p v.0)
  MsgTraced t (ReadRequest p j o) = (b : ℕ) × (b < t) × BeginsRead S b p o
  MsgTraced t m = Unit {0}

  pub record Traced (t : ℕ) (W : PlainState) : Type 0 where
    pub ops : (p : ℕ) → Begun W p → OpTraced t p (W.op p)
    pub msgs : All (MsgTraced t) W.sent

  op_later : (t p : ℕ) (x : Operation) → OpTraced t p x → OpTraced (suc t) p x
  op_later t p (asking a) h = (h.0, let z = h.1 in omega arith, h.2)
  op_later t p (sending w) h = (h.0, let z = h.1 in omega arith, h.2)
  op_later t p (reading r) h = (h.0, let z = h.1 in omega arith, h.2)
  op_later t p x h = tt

  msg_later : (t : ℕ) (m : Message) → MsgTraced t m → MsgTraced (suc t) m
  msg_later t (WriteRequest p i o v x) h =
      ((h.0.0, let z = h.0.1 in omega arith, h.0.2), (h.1.0, let z = h.1.1 in omega arith, h.1.2))
  msg_later t (ReadRequest p j o) h = (h.0, let z = h.1 in omega arith, h.2)
  msg_later t m h = tt

  traced_later : (t : ℕ) (W : PlainState) → Traced t W → Traced (suc t) W
  traced_later t W h = record {
    ops = λ p b. op_later t p (W.op p) (h.ops p b);
    msgs = all_map (MsgTraced t) (MsgTraced (suc t)) (msg_later t) W.sent h.msgs;
  }

  -- answers leave object and value of an operation
  traced_up : (P : Params) (t p : ℕ) (m : Message) (y : Operation) → OpTraced t p y → OpTraced t p (reaction P m y).next
  traced_up P t p = every_reaction P.inputs P.outputs (λ m y r. OpTraced t p y → OpTraced t p r.next) (record {
    stays = λ m y n h. h;
    asks = λ i q c a e h. h;
    gets = λ i q c a e h. h;
    sends = λ i q s w e h. h;
    writes = λ i q s w e h. tt;
    gathers = λ j q v x r e h. h;
    reads = λ j q v x r e h. tt;
  })

  -- ---- one call more

  module _ (P : Params) (t : ℕ) (in_story : t < calls given) (l : Live given P (before S t)) (T : Traced t (plain_of (before S t))) where
    abbrev W : PlainState
    W = plain_of (before S t)

    -- the operations
    ops_next : (c : Call) → call_at S t ≡ c → Accepted P (before S t) (act_of (before S t) c) (outcome_at given t)
        → (p : ℕ) → Begun (run P (act_of (before S t) c) W) p → OpTraced (suc t) p ((run P (act_of (before S t) c) W).op p)
    ops_next c e h = go c e h
      where
        old : (a : Act) (p : ℕ) → Begun W p → OpTraced (suc t) p ((run P a W).op p)
        old a p b = ops_up P l.small W l.kept (OpTraced (suc t) p) (traced_up P (suc t) p) a p b (op_later t p (W.op p) (T.ops p b))

        first : (p : ℕ) (y : Operation) → OpTraced (suc t) (W.begun + 1) y → (1 ≤ p) × (p ≤ W.begun + 1) → OpTraced (suc t) p (at (W.begun + 1) y W.op p)
        first p y n b = at_cases (OpTraced (suc t) p) (W.begun + 1) p y W.op (λ e. subst (λ (z : ℕ). OpTraced (suc t) z y) e n)
            (λ e. op_later t p (W.op p) (T.ops p (b.0, let z = b.1 in omega arith)))

        heard : (m : Message) (p : ℕ) → Begun (run P (hears m) W) p → OpTraced (suc t) p ((run P (hears m) W).op p)
        heard (ClockQuestion q i) p b = old (hears (ClockQuestion q i)) p b
        heard m p b = old (hears m) p b

        go : (c : Call) → call_at S t ≡ c → Accepted P (before S t) (act_of (before S t) c) (outcome_at given t)
            → (p : ℕ) → Begun (run P (act_of (before S t) c) W) p → OpTraced (suc t) p ((run P (act_of (before S t) c) W).op p)
        go (to_open k lease drift clocks) e h p b = op_later t p (W.op p) (T.ops p b)
        go (to_advance xs) e h p b = op_later t p (W.op p) (T.ops p b)
        go (to_write o x) e h p b = first p (asking (first_asking (W.begun + 1) o x)) (t, omega arith, record { made = in_story; call = e; said = h.said }) b
        go (to_read o) e h p b = first p (reading (first_reading (W.begun + 1) o)) (t, omega arith, record { made = in_story; call = e; said = h.said }) b
        go (to_deliver number) e h p b = heard _ p b

    -- a call that logs write requests is a delivery
    delivers : (c : Call) (i q k : ℕ) → act_of (before S t) c ≡ hears (ClockAnswer i q k) → (number : ℕ) × (c ≡ to_deliver number)
    delivers (to_deliver number) i q n e = (number, refl)
    delivers c i q n e = never (cc)

    -- one that logs read requests begins a read
    asks : (c : Call) (o : ℕ) → act_of (before S t) c ≡ reads o → c ≡ to_read o
    asks (to_read q) o e = cc
    asks c o e = never (cc)

    -- the messages
    new_traced : Accepted P (before S t) (act_of (before S t) (call_at S t)) (outcome_at given t)
        → (m : Message) → In m (news_of P (act_of (before S t) (call_at S t)) W) → MsgTraced (suc t) m
    new_traced h (WriteRequest p i o v x) n =
        let e = gets_version_lem P W p i o v x (act_of (before S t) (call_at S t)) n in
        let d = delivers (call_at S t) e.from e.named e.clock e.act in (
          ((begins e).0, let z = (begins e).1 in omega arith, (begins e).2),
          (
            t,
            omega arith,
            record {
              sends = record {
                made = in_story;
                number = d.0;
                call = d.1;
                input = i;
                object = o;
                version = v;
                value = x;
                is = refl;
                logged = subst (λ (new : List Message). Has new (WriteRequest p i o v x)) (sym h.news) (in_has (WriteRequest p i o v x) _ n);
              };
              begins = (begins e).0;
              earlier = (begins e).1;
              begun = (o, x, (begins e).2);
            },
          ),
        )
      where
        begins : GetsVersion P W (act_of (before S t) (call_at S t)) p o v x → (b : ℕ) × (b < t) × BeginsWrite S b p o x
        begins e =
            let may : May P (hears (ClockAnswer e.from e.named e.clock)) W = subst (λ (a : Act). May P a W) e.act h.may in
            let b : Begun W e.named = all_at (MsgOk P W) (ClockAnswer e.from e.named e.clock) W.sent l.kept.msgs may.0 in
            let ok : AskingOk W e.named e.ask = subst (OpOk P W e.named) e.op (l.kept.ops e.named b) in
            let same : e.named ≡ p = sym ok.own ∙ e.own in
            let r : (b : ℕ) × (b < t) × BeginsWrite S b e.named e.ask.object e.ask.value = subst (OpTraced t e.named) e.op (T.ops e.named b) in (
              r.0,
              r.1,
              subst (λ (q : ℕ). BeginsWrite S r.0 q o x) same
                  (subst (λ (z : ℕ). BeginsWrite S r.0 e.named z x) e.object (subst (λ (z : ℕ). BeginsWrite S r.0 e.named e.ask.object z) e.value r.2)),
            )
    new_traced h (ReadRequest p j o) n =
        let e = asks_read P W p j o (act_of (before S t) (call_at S t)) n in (
          t,
          omega arith,
          record {
            made = in_story;
            call = asks (call_at S t) o e.0;
            said = h.said ∙ ap (λ (a : Act). says_of P a W) e.0 ∙ ap began (sym e.1);
          },
        )
    new_traced h m n = tt

    pub traced_next : Traced (suc t) (plain_of (before S (suc t)))
    traced_next = elim (happens given P t l) [
      | inl h ↦ subst (λ (s : State). Traced (suc t) (plain_of s)) (sym (stayed given (before S t) (outcome_at given t) h)) (traced_later t W T)
      | inr h ↦ subst (Traced (suc t)) (sym h.world) (record {
        ops = ops_next (call_at S t) refl h;
        msgs = subst (λ (ms : List Message). All (MsgTraced (suc t)) ms) (sym (sent_is P W (act_of (before S t) (call_at S t))))
            (all-++ (MsgTraced (suc t)) W.sent (news_of P (act_of (before S t) (call_at S t)) W) (traced_later t W T).msgs
            (all_from (MsgTraced (suc t)) (news_of P (act_of (before S t) (call_at S t)) W) (new_traced h)));
      })
    ]

  -- ---- every call of the story

  pub record Known (t : ℕ) : Type 0 where
    pub P : Params
    pub live : Live given P (before S t)
    pub traced : Traced t (plain_of (before S t))

  pub fine : (t : ℕ) → t ≤ calls given → ((before S t).frame.is_open ≡ false) ⊎ Known t
  fine zero h = inl given.closed
  fine (suc t) h = elim (fine t (omega arith)) [
    | inl e ↦ elim (closed_step S.inputs S.outputs given.in_lawful given.out_lawful (before S t) e (call_at S t)) [
      | inl r ↦ inl (ap (λ (s : State). s.frame.is_open) (stayed given (before S t) (outcome_at given t) r) ∙ e)
      | inr r ↦ inr (record {
        P = params_of S.inputs S.outputs (before S (suc t));
        live = record { is_open = r.is_open; params = refl; framed = r.framed; small = r.small; kept = r.kept };
        traced = record {
          ops = λ p b. absurd (let z = r.none_begun in let y = b.0 in let x = b.1 in omega arith);
          msgs = subst (λ (n : ℕ). All (MsgTraced (suc t)) (take n (before S (suc t)).log)) (sym r.none_made) tt;
        };
      })
    ]
    | inr k ↦ inr (record {
      P = k.P;
      live = live_next given k.P t k.live;
      traced = traced_next k.P t (omega arith) k.live k.traced;
    })
  ]

  -- ---- what a call said

  -- a call that said something else than a refusal or an acceptance was made on an open field
  pub known_at : (t : ℕ) → t < calls given → ((n : ℕ) → said_at S t ≡ refused n → ⊥) → (said_at S t ≡ accepted → ⊥) → Known t
  known_at t h no_refusal no-opening = elim (fine t (omega arith)) [
    | inr k ↦ k
    | inl e ↦ elim (closed_step S.inputs S.outputs given.in_lawful given.out_lawful (before S t) e (call_at S t)) [
      | inl r ↦ absurd (no_refusal r.0 (ap (λ (x : Outcome). x.said) r.1))
      | inr r ↦ absurd (no-opening r.said)
    ]
  ]

  pub accepted_at : (P : Params) (t : ℕ) → Live given P (before S t) → ((n : ℕ) → said_at S t ≡ refused n → ⊥)
      → Accepted P (before S t) (act_of (before S t) (call_at S t)) (outcome_at given t)
  accepted_at P t l no_refusal = elim (happens given P t l) [
    | inl r ↦ absurd (no_refusal r.0 (ap (λ (x : Outcome). x.said) r.1))
    | inr h ↦ h
  ]
