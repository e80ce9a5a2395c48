-- In every story an operation ends with the delivery that completes its quorums.
use Rattle.std.proofs.Common.{◌≡◌, ℕ, zero, suc, ◌+◌, ◌<◌, ◌≤◌, Bool, true, false, cond, ◌⊎◌, List, Some, None, Option, sym, refl, ap, ◌∙◌, subst, inl, inr, arith}
use Rattle.std.proofs.lemmas.Bool.{cases_eq, cases_order, cond_both}
use Rattle.quorum.specs.declared.member_set.MemberSet.{MemberSet}
use Rattle.quorum.specs.Sets.{joined}
use Rattle.quorum.specs.Systems.{Lawful}
use Rattle.rules.specs.declared.message.Message.{Message}
use Rattle.rules.specs.declared.message.Message.TheVariants.{WriteRequest, WriteAnswer, ReadRequest, ReadAnswer}
use Rattle.rules.specs.Calls.{delivering, message_at}
use Rattle.rules.specs.Operation.{Operation, asking, reading, first_asking, first_reading, hears_named, is_written, hears_pair, is_read}
use Rattle.rules.specs.Said.{began}
use Rattle.rules.specs.State.{State, Outcome}
use Rattle.guarantee.specs.Endings.{is_refusal, message_of, delivered_at, also_hears, gathered_before, hears_names, named_before, hears_answer, answered_before, EndsWhenComplete, OperationsEndWhenComplete}
use Rattle.guarantee.specs.Story.{Story, Call, to_write, to_read, to_deliver, outcome_of, call_at, before, said_at, BeginsAsWrite, BeginsAsRead, EndsWrite, EndsRead}
use Rattle.guarantee.proofs.CallEffects.{params_of, act_of, Accepted}
use Rattle.guarantee.proofs.CallSteps.{Refuses}
use Rattle.guarantee.proofs.Completes.{heard_by, both, no_refusal, nobody, written, answered, nobody_writes, nobody_reads, more, asked_write, asked_read, WritePlace, written_next, write_next, write_said, names_from, names_more, ReadPlace, answered_next, read_next, read_said, answers_from, answers_more}
use Rattle.guarantee.proofs.Kept.{Begun, May}
use Rattle.guarantee.proofs.Events.{start, begun_grow, once, end_of_write, end_of_read}
use Rattle.guarantee.proofs.Lives.{calls, outcome_at, world, Given, Live, happens, live_next, stayed}
use Rattle.guarantee.proofs.Rows.{not_open}
use Rattle.guarantee.proofs.Stories.{what_ends_has_begun}
use Rattle.guarantee.proofs.Traces.{Known, fine, traced_next, accepted_at, MsgTraced}
use Rattle.guarantee.proofs.Words.{never, at, at_hit, all_at}
use Rattle.guarantee.proofs.PlainState.{Params, PlainState, Act, hears, run, plain_of}

-- ---- a test that stays true becomes true once

module _ (f : ℕ → Bool) (end : ℕ) (stays : (t : ℕ) → t < end → f t ≡ true → f (suc t) ≡ true) where
  goes_on : (t u : ℕ) → t ≤ u → u ≤ end → f t ≡ true → f u ≡ true
  goes_on t zero l h b = let e : t ≡ 0 = omega arith in subst (λ (n : ℕ). f n ≡ true) e b
  goes_on t (suc u) l h b = elim (cases_eq t (suc u)) [
    | inl e ↦ subst (λ (n : ℕ). f n ≡ true) e b
    | inr e ↦ stays u (omega arith) (goes_on t u (omega arith) (omega arith) b)
  ]

  one_change : (t u : ℕ) → t < end → u < end → f t ≡ false → f (suc t) ≡ true → f u ≡ false → f (suc u) ≡ true → t ≡ u
  one_change t u ht hu bt at bu au = elim (cases_order t u) [
    | inl e ↦ e
    | inr (inl l) ↦ both (goes_on (suc t) u l (omega arith) at) bu
    | inr (inr l) ↦ both (goes_on (suc u) t l (omega arith) au) bt
  ]

module _ (given : Given) where
  abbrev S : Story
  S = given.story

  abbrev il : Lawful given.story.inputs
  il = given.in_lawful

  abbrev ol : Lawful given.story.outputs
  ol = given.out_lawful

  abbrev params : ℕ → Params
  params t = params_of S.inputs S.outputs (before S t)

  abbrev act : ℕ → Act
  act t = act_of (before S t) (call_at S t)

  -- call number t is accepted, and does what its act does
  abbrev Steps : ℕ → Type 0
  Steps t = Accepted (params t) (before S t) (act t) (outcome_at given t)

  live : (t : ℕ) → Known given t → Live given (params t) (before S t)
  live t k = subst (λ (Q : Params). Live given Q (before S t)) (sym k.live.params) k.live

  known_next : (t : ℕ) → t < calls given → Known given t → Known given (suc t)
  known_next t h k = record {
    P = k.P;
    live = live_next given k.P t k.live;
    traced = traced_next given k.P t h k.live k.traced;
  }

  -- ---- what a call delivers

  refused_none : (t : ℕ) → Refuses (before S t) (outcome_at given t) → delivered_at S t ≡ None
  refused_none t r = ap (λ (x : Outcome). cond (is_refusal x.said) None (message_of (call_at S t) (before S t))) r.1

  closed_none : (t : ℕ) → (before S t).frame.is_open ≡ false → delivered_at S t ≡ None
  unfolding outcome_of delivering
  closed_none t e = go (call_at S t)
    where
      go : (c : Call) → cond (is_refusal (outcome_of S.inputs S.outputs c (before S t)).said) None (message_of c (before S t)) ≡ None
      go (to_deliver number) = ap (λ (x : Outcome). cond (is_refusal x.said) None (Some (message_at (before S t) number)))
          (not_open S.inputs S.outputs _ (before S t) _ e)
      go c = cond_both _ None None (λ (m : Option Message). m ≡ None) (λ _. refl) (λ _. refl)

  message_heard : (s : State) (c : Call) → message_of c s ≡ heard_by (act_of s c)
  message_heard s (to_deliver number) = refl
  message_heard s c = refl

  accepted_heard : (t : ℕ) → Steps t → delivered_at S t ≡ heard_by (act t)
  accepted_heard t a =
      ap (λ (b : Bool). cond b None (message_of (call_at S t) (before S t))) (ap is_refusal a.said ∙ no_refusal (params t) (world given t) (act t))
      ∙ message_heard (before S t) (call_at S t)

  -- a call delivers nothing, or it was made on an open field and accepted
  steps : (t : ℕ) → t < calls given → (delivered_at S t ≡ None) ⊎ (Known given t × Steps t)
  steps t h = elim (fine given t (omega arith)) [
    | inl e ↦ inl (closed_none t e)
    | inr k ↦ elim (happens given (params t) t (live t k)) [
      | inl r ↦ inl (refused_none t r)
      | inr a ↦ inr (k, a)
    ]
  ]

  -- ---- what is gathered along the story

  module _ {G : Type 0} (first : G) (hear : Message → G → G) where
    abbrev gathered : ℕ → G
    gathered t = gathered_before first hear S t

    -- a call that delivers nothing adds nothing, and one that is accepted adds what its act heard
    rests : (t : ℕ) → delivered_at S t ≡ None → gathered (suc t) ≡ gathered t
    rests t e = ap (λ (m : Option Message). also_hears hear m (gathered t)) e

    gathers : (t : ℕ) → Steps t → gathered (suc t) ≡ also_hears hear (heard_by (act t)) (gathered t)
    gathers t a = ap (λ (m : Option Message). also_hears hear m (gathered t)) (accepted_heard t a)

    -- the place of p agrees with what is gathered
    module _ (p : ℕ) (Place : G → Operation → Type 0) where
      record At (t : ℕ) : Type 0 where
        known : Known given t
        begun : Begun (world given t) p
        place : Place (gathered t) ((world given t).op p)

      abbrev Keeps : Type 0
      Keeps = (t : ℕ) → (w : At t) → (a : Steps t) → Place (also_hears hear (heard_by (act t)) (gathered t)) ((run (params t) (act t) (world given t)).op p)

      on : Keeps → (t : ℕ) → t < calls given → At t → At (suc t)
      on keeps t h w = record {
        known = known_next t h w.known;
        begun = let z = begun_grow given w.known.P t (suc t) (omega arith) w.known.live in
            let b = w.begun in (b.0, let y = b.1 in omega arith);
        place = elim (happens given (params t) t (live t w.known)) [
          | inl r ↦ subst (λ (s : State). Place (gathered (suc t)) ((plain_of s).op p)) (sym (stayed given (before S t) (outcome_at given t) r))
              (subst (λ (g : G). Place g ((world given t).op p)) (sym (rests t (refused_none t r))) w.place)
          | inr a ↦ subst (λ (W : PlainState). Place (gathered (suc t)) (W.op p)) (sym a.world)
              (subst (λ (g : G). Place g ((run (params t) (act t) (world given t)).op p)) (sym (gathers t a)) (keeps t w a))
        ];
      }

      along : Keeps → (b : ℕ) → At (suc b) → (t : ℕ) → b < t → t ≤ calls given → At t
      along keeps b w zero l h = absurd (omega arith)
      along keeps b w (suc t) l h = elim (cases_eq b t) [
        | inl e ↦ subst (λ (n : ℕ). At (suc n)) e w
        | inr e ↦ on keeps t (omega arith) (along keeps b w t (omega arith) (omega arith))
      ]

  -- a call that begins p makes its place and delivers nothing
  record Enters (b p : ℕ) (y : ℕ → Operation) : Type 0 where
    known : Known given (suc b)
    begun : Begun (world given (suc b)) p
    place : (world given (suc b)).op p ≡ y p
    heard : delivered_at S b ≡ None

  enters : (b p : ℕ) → b < calls given → said_at S b ≡ began p → (c : Call) → call_at S b ≡ c → (y : ℕ → Operation)
      → (run (params b) (act_of (before S b) c) (world given b)).op p ≡ at ((world given b).begun + 1) (y ((world given b).begun + 1)) (world given b).op p
      → heard_by (act_of (before S b) c) ≡ None → Enters b p y
  enters b p h e c f y entered quiet =
      let s = start given b p h e in
      let a = accepted_at given (params b) b (live b s.known) (λ n g. never (cc)) in
      record {
        known = known_next b h s.known;
        begun = (let z = s.number in omega arith, let z = s.after in omega arith);
        place = ap (λ (W : PlainState). W.op p) a.world ∙ ap (λ (d : Call). (run (params b) (act_of (before S b) d) (world given b)).op p) f ∙ entered
            ∙ at_hit ((world given b).begun + 1) p (y ((world given b).begun + 1)) (world given b).op (sym s.number) ∙ ap y (sym s.number);
        heard = accepted_heard b a ∙ ap (λ (d : Call). heard_by (act_of (before S b) d)) f ∙ quiet;
      }

  -- ---- operations of one kind

  module _ {G : Type 0} (first : G) (hear : Message → G → G) (full : G → Bool) (p : ℕ) (Place : G → Operation → Type 0) (Begins Ends : ℕ → Type 0) where
    abbrev Gathered : ℕ → G
    Gathered t = gathered first hear t

    abbrev Then : ℕ → G
    Then t = also_hears hear (heard_by (act t)) (Gathered t)

    abbrev There : ℕ → Type 0
    There t = At first hear p Place t

    -- a call before number t begins p
    abbrev HasBegun : ℕ → Type 0
    HasBegun t = (b : ℕ) × (b < t) × Begins b

    -- What is to show of them. A call that begins p makes its place, of which nothing is gathered yet; what is gathered changes
    -- only once p has begun; no act undoes what is enough, and one that makes it enough says an end; and what ends has begun
    record Kind : Type 0 where
      lacks : full first ≡ false
      begins : (b : ℕ) → Begins b → (b < calls given) × (said_at S b ≡ began p)
      enters : (b : ℕ) → Begins b → (y : ℕ → Operation) × Enters b p y × Place first (y p)
      news : (t : ℕ) → Known given t → Steps t → (Then t ≡ Gathered t) ⊎ HasBegun (suc t)
      keeps : Keeps first hear p Place
      stays : (t : ℕ) → Known given t → Steps t → full (Gathered t) ≡ true → full (Then t) ≡ true
      says : (t : ℕ) → t < calls given → There t → Steps t → full (Gathered t) ≡ false → full (Then t) ≡ true → Ends t
      ended : (t : ℕ) → Ends t → (t < calls given) × HasBegun t
      completes : (t : ℕ) → Ends t → There t → (full (Gathered t) ≡ false) × (full (Gathered (suc t)) ≡ true)

    -- call number t makes enough what was not enough
    record Completes (t : ℕ) : Type 0 where
      made : t < calls given
      lacking : full (Gathered t) ≡ false
      enough : full (Gathered (suc t)) ≡ true

    module _ (kind : Kind) where
      -- nothing is gathered before p begins
      since : (t : ℕ) → t ≤ calls given → (Gathered t ≡ first) ⊎ HasBegun t
      since zero h = inl refl
      since (suc t) h = elim (since t (omega arith)) [
        | inr b ↦ inr (b.0, let z = b.1 in omega arith, b.2)
        | inl e ↦ elim (steps t (omega arith)) [
          | inl n ↦ inl (rests first hear t n ∙ e)
          | inr k ↦ elim (kind.news t k.0 k.1) [
            | inl s ↦ inl (gathers first hear t k.1 ∙ s ∙ e)
            | inr b ↦ inr b
          ]
        ]
      ]

      first_there : (b : ℕ) → Begins b → There (suc b)
      first_there b f =
          let made = kind.begins b f in
          let n = kind.enters b f in
          record {
            known = n.1.known;
            begun = n.1.begun;
            place = subst (Place (Gathered (suc b))) (sym n.1.place) (subst (λ (g : G). Place g (n.0 p)) (sym (rests first hear b n.1.heard ∙ unheard)) n.2);
          }
        where
          unheard : Gathered b ≡ first
          unheard = elim (since b (let z = (kind.begins b f).0 in omega arith)) [
            | inl e ↦ e
            | inr y ↦ absurd (let m = kind.begins b f in let n = kind.begins y.0 y.2 in
                let e = once given y.0 b p n.0 m.0 n.1 m.1 in let z = y.1 in omega arith)
          ]

      there : (b : ℕ) → Begins b → (t : ℕ) → b < t → t ≤ calls given → There t
      there b f = along first hear p Place kind.keeps b (first_there b f)

      -- p ends with a call that makes it enough
      complete : (t : ℕ) → Ends t → Completes t
      complete t e =
          let h = kind.ended t e in
          let r = kind.completes t e (there h.1.0 h.1.2 t h.1.1 (let z = h.0 in omega arith)) in
          record { made = h.0; lacking = r.0; enough = r.1 }

      -- and with each such call
      ends : (t : ℕ) → Completes t → Ends t
      ends t c = elim (steps t c.made) [
        | inl n ↦ unchanged n
        | inr k ↦ elim (since (suc t) c.made) [
          | inl e ↦ both c.enough (ap full e ∙ kind.lacks)
          | inr y ↦ elim (cases_eq y.0 t) [
            | inl e ↦ unchanged (subst (λ (n : ℕ). delivered_at S n ≡ None) e (kind.enters y.0 y.2).1.heard)
            | inr e ↦ kind.says t c.made (there y.0 y.2 t (let z = y.1 in omega arith) (let z = c.made in omega arith)) k.1 c.lacking
                (sym (ap full (gathers first hear t k.1)) ∙ c.enough)
          ]
        ]
      ]
        where
          unchanged : {A : Type 0} → delivered_at S t ≡ None → A
          unchanged n = both (sym (ap full (rests first hear t n)) ∙ c.enough) c.lacking

      ends_once : (t u : ℕ) → Ends t → Ends u → t ≡ u
      ends_once t u e f =
          let c = complete t e in
          let d = complete u f in
          one_change (λ n. full (Gathered n)) (calls given) full_stays t u c.made d.made c.lacking c.enough d.lacking d.enough
        where
          full_stays : (t : ℕ) → t < calls given → full (Gathered t) ≡ true → full (Gathered (suc t)) ≡ true
          full_stays t h b = elim (steps t h) [
            | inl n ↦ ap full (rests first hear t n) ∙ b
            | inr k ↦ ap full (gathers first hear t k.1) ∙ kind.stays t k.0 k.1 b
          ]

  -- ---- writes

  abbrev Written : List MemberSet → Bool
  Written N = written S.inputs S.outputs N

  abbrev EndsAsWrite : ℕ → ℕ → Type 0
  EndsAsWrite p t = (v : ℕ) × (x : ℕ) × EndsWrite S t p v x

  write_kind : (p : ℕ) → Kind nobody (hears_names p) Written p (WritePlace S.inputs S.outputs) (λ b. BeginsAsWrite S b p) (EndsAsWrite p)
  write_kind p = record {
    lacks = nobody_writes S.inputs S.outputs il ol;
    begins = λ b f. (f.2.made, f.2.said);
    enters = λ b f. let y = λ (q : ℕ). asking (first_asking q f.0 f.1) in (y, enters b p f.2.made f.2.said (to_write f.0 f.1) f.2.call y refl refl, refl);
    news = λ t k a. elim (names_from p (named_before S p t) (act t)) [
      | inl e ↦ inl e
      | inr e ↦
          let may : May (params t) (hears (WriteAnswer e.0 p e.1)) (world given t) = subst (λ (c : Act). May (params t) c (world given t)) e.2 a.may in
          let r = asked_write (params t) (world given t) (live t k).kept e.0 p e.1 may.0 in
          let m = all_at (MsgTraced given t) (WriteRequest p r.3 r.0 r.1 r.2) (world given t).sent k.traced.msgs r.4 in
          inr (m.0.0, let z = m.0.1 in omega arith, (r.0, r.2, m.0.2))
    ];
    keeps = λ t w a. write_next (params t) il ol (world given t) (live t w.known).kept p w.begun (named_before S p t) w.place (act t) a.may;
    stays = λ t k a. written_next (params t) il ol p (named_before S p t) (act t);
    says = λ t h w a f e.
        let r = write_said (params t) il ol (world given t) (live t w.known).kept p w.begun (named_before S p t) w.place (act t) a.may f e in
        (r.0, r.1, record { made = h; said = a.said ∙ r.2 });
    ended = λ t e. let b = (what_ends_has_begun given p t e.0 e.1).0 e.2 in (e.2.made, (b.begins, b.earlier, b.begun));
    completes = λ t e w.
        let said = e.2.said in
        let E = end_of_write given t p e.0 e.1 e.2 in
        let how = E.how in
        let h : (how.write.named ≡ named_before S p t) × (Written (named_before S p t) ≡ false) = subst (WritePlace S.inputs S.outputs (named_before S p t)) how.op w.place in
        let a = accepted_at given (params t) t (live t E.known) (λ n g. never (cc)) in
        let n : named_before S p (suc t) ≡ more how.from how.set (named_before S p t) = gathers nobody (hears_names p) t a
        ∙ ap (λ (c : Act). also_hears (hears_names p) (heard_by c) (named_before S p t)) how.act ∙ names_more p how.from p how.set (named_before S p t) refl in
        let enough : Written (more how.from how.set how.write.named) ≡ true =
        subst (λ (Q : Params). is_written Q.inputs Q.outputs (hears_named how.from how.set how.write) ≡ true) (sym E.known.live.params) how.written in
        (h.1, ap (λ (M : List MemberSet). Written M) n ∙ subst (λ (M : List MemberSet). Written (more how.from how.set M) ≡ true) h.0 enough);
  }

  -- ---- reads

  abbrev EndsAsRead : ℕ → ℕ → Type 0
  EndsAsRead p t = (v : ℕ) × (x : ℕ) × EndsRead S t p v x

  read_kind : (p : ℕ) → Kind 0 (hears_answer p) (answered S.outputs) p (ReadPlace S.outputs) (λ b. BeginsAsRead S b p) (EndsAsRead p)
  read_kind p = record {
    lacks = nobody_reads S.inputs S.outputs il ol;
    begins = λ b f. (f.1.made, f.1.said);
    enters = λ b f. let y = λ (q : ℕ). reading (first_reading q f.0) in
        (y, enters b p f.1.made f.1.said (to_read f.0) f.1.call y refl refl, (refl, nobody_reads S.inputs S.outputs il ol));
    news = λ t k a. elim (answers_from p (answered_before S p t) (act t)) [
      | inl e ↦ inl e
      | inr e ↦
          let may : May (params t) (hears (ReadAnswer e.0 p e.1 e.2)) (world given t) = subst (λ (c : Act). May (params t) c (world given t)) e.3 a.may in
          let r = asked_read (params t) (world given t) (live t k).kept e.0 p e.1 e.2 may.0 in
          let m = all_at (MsgTraced given t) (ReadRequest p r.1 r.0) (world given t).sent k.traced.msgs r.2 in
          inr (m.0, let z = m.1 in omega arith, (r.0, m.2))
    ];
    keeps = λ t w a. let l = live t w.known in
        read_next (params t) l.small il ol (world given t) l.kept p w.begun (answered_before S p t) w.place (act t) a.may;
    stays = λ t k a. answered_next (params t) (live t k).small il ol (world given t) p (answered_before S p t) (act t) a.may;
    says = λ t h w a f e.
        let l = live t w.known in
        let r = read_said (params t) l.small il ol (world given t) l.kept p w.begun (answered_before S p t) w.place (act t) a.may f e in
        (r.0, r.1, record { made = h; said = a.said ∙ r.2 });
    ended = λ t e. let b = (what_ends_has_begun given p t e.0 e.1).1 e.2 in (e.2.made, (b.begins, b.earlier, b.begun));
    completes = λ t e w.
        let said = e.2.said in
        let E = end_of_read given t p e.0 e.1 e.2 in
        let how = E.how in
        let h : (how.read.senders ≡ answered_before S p t) × (answered S.outputs (answered_before S p t) ≡ false) = subst (ReadPlace S.outputs (answered_before S p t)) how.op w.place in
        let a = accepted_at given (params t) t (live t E.known) (λ n g. never (cc)) in
        let n : answered_before S p (suc t) ≡ joined (answered_before S p t) how.from = gathers 0 (hears_answer p) t a
        ∙ ap (λ (c : Act). also_hears (hears_answer p) (heard_by c) (answered_before S p t)) how.act
        ∙ answers_more p how.from p how.pair_version how.pair_value (answered_before S p t) refl in
        let enough : answered S.outputs (joined how.read.senders how.from) ≡ true =
        subst (λ (Q : Params). is_read Q.outputs (hears_pair how.from how.pair_version how.pair_value how.read) ≡ true) (sym E.known.live.params) how.complete in
        (h.1, ap (answered S.outputs) n ∙ subst (λ (B : ℕ). answered S.outputs (joined B how.from) ≡ true) h.0 enough);
  }

  -- ---- the law

  -- what ends as a write began as one, what ends as a read began as one, and nothing begins twice
  not_both : (p t u v w x y : ℕ) → EndsWrite S t p v x → EndsRead S u p w y → ⊥
  not_both p t u v w x y e f =
      let r = (what_ends_has_begun given p u w y).1 f in
      ((what_ends_has_begun given p t v x).0 e).never r.begins r.begun

  pub ends_when_complete : (p : ℕ) → EndsWhenComplete S p
  ends_when_complete p = record {
    write = λ t. (
      (λ e. let c = complete _ _ _ _ _ _ _ (write_kind p) t e in record { made = c.made; before = c.lacking; after = c.enough }),
      (λ c. ends _ _ _ _ _ _ _ (write_kind p) t (record { made = c.made; lacking = c.before; enough = c.after })),
    );
    read = λ t. (
      (λ e. let c = complete _ _ _ _ _ _ _ (read_kind p) t e in record { made = c.made; before = c.lacking; after = c.enough }),
      (λ c. ends _ _ _ _ _ _ _ (read_kind p) t (record { made = c.made; lacking = c.before; enough = c.after })),
    );
    write_once = λ t u v w x y e f. ends_once _ _ _ _ _ _ _ (write_kind p) t u (v, x, e) (w, y, f);
    read_once = λ t u v w x y e f. ends_once _ _ _ _ _ _ _ (read_kind p) t u (v, x, e) (w, y, f);
    not_both = not_both p;
  }

pub operations_end_when_complete : OperationsEndWhenComplete
operations_end_when_complete S il ol closed p = ends_when_complete (record { story = S; in_lawful = il; out_lawful = ol; closed = closed }) p
