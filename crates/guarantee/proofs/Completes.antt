-- What an operation has gathered, and what its place in the table says of it: a write that sends, and a read, have gathered
-- what is kept there and are not complete; what has ended is complete. Each act keeps that, and says the end of an
-- operation where it completes it.
use Rattle.std.proofs.Common.{◌≡◌, ℕ, ◌+◌, ◌<◌, Bool, true, false, eqb, ◌⊎◌, List, set, replicate, Some, None, Option, sym, refl, ap, ◌∙◌, subst, inl, inr, arith}
use lib.Bits.{bit_or}
use Rattle.std.proofs.lemmas.Bool.{cases_eq, cond-false, ne_eqb, cond_both, cond-true, eqb-true, eq-eqb, false≢true}
use Rattle.quorum.specs.declared.member_set.MemberSet.{MemberSet}
use Rattle.quorum.specs.Sets.{has, full, joined, set_of}
use Rattle.quorum.specs.Systems.{System, Lawful}
use Rattle.rules.specs.declared.message.Message.{Message}
use Rattle.rules.specs.declared.message.Message.TheVariants.{ClockAnswer, WriteRequest, WriteAnswer, ReadRequest, ReadAnswer}
use Rattle.numbers.specs.declared.version.Version.{Version}
use Rattle.numbers.specs.Numbers.{none}
use Rattle.rules.specs.Operation.{Operation, unused, asking, sending, reading, ended, first_asking, first_reading, named_by, counts, hears_named, is_written, hears_pair, is_read}
use Rattle.rules.specs.Reaction.{Reaction}
use Rattle.rules.proofs.Reactions.{every_reaction}
use Rattle.rules.specs.Said.{Said, write_ended, read_ended}
use Rattle.guarantee.specs.Endings.{is_refusal, also_hears, hears_names, hears_answer}
use Rattle.guarantee.proofs.CallEffects.{says_of}
use Rattle.guarantee.proofs.RangeFacts.{fits_pair}
use Rattle.guarantee.proofs.Gathered.{written_stays_written, read_stays_read}
use Rattle.guarantee.proofs.Kept.{Begun, Wrote, Reads, MsgOk, Small, Kept, May}
use Rattle.guarantee.proofs.Operations.{named_none}
use Rattle.guarantee.proofs.Sets.{has_none, of_set_of}
use Rattle.guarantee.proofs.Words.{never, at, at_cases, at_miss, In, all_at}
use Rattle.guarantee.proofs.PlainState.{Params, PlainState, Act, ticks, writes, reads, hears, run, reaction, answers_to}

-- what an act delivers
abbrev pub heard_by : Act → Option Message
heard_by (ticks x y) = None
heard_by (writes o x) = None
heard_by (reads o) = None
heard_by (hears m) = Some m

-- two tests that disagree
pub both : {A : Type 0} {b : Bool} → b ≡ true → b ≡ false → A
both t f = absurd (false≢true (sym f ∙ t))

off : (b : Bool) → (b ≡ true → ⊥) → b ≡ false
off true h = absurd (h refl)
off false h = refl

-- ---- an act that is accepted says no refusal

reaction_no_refusal : (P : Params) (m : Message) (y : Operation) → is_refusal (reaction P m y).said ≡ false
reaction_no_refusal P = every_reaction P.inputs P.outputs (λ m y r. is_refusal r.said ≡ false) (record {
  stays = λ m y n. refl;
  asks = λ i p c a e. refl;
  gets = λ i p c a e. refl;
  sends = λ i p t w e. refl;
  writes = λ i p t w e. refl;
  gathers = λ j p v x r e. refl;
  reads = λ j p v x r e. refl;
})

pub no_refusal : (P : Params) (W : PlainState) (a : Act) → is_refusal (says_of P a W) ≡ false
no_refusal P W (hears (ClockAnswer i q c)) = reaction_no_refusal P (ClockAnswer i q c) (W.op q)
no_refusal P W (hears (WriteAnswer i q s)) = reaction_no_refusal P (WriteAnswer i q s) (W.op q)
no_refusal P W (hears (ReadAnswer j q v x)) = reaction_no_refusal P (ReadAnswer j q v x) (W.op q)
no_refusal P W a = refl

-- ---- who is complete

abbrev pub nobody : List MemberSet
nobody = replicate 8 (record { 0 = 0 })

-- the output servers that count, by the sets named, are a write set
abbrev pub written : System → System → List MemberSet → Bool
written inputs outputs N = outputs.writes (set_of outputs.count (counts inputs inputs.count N))

-- the output servers that answered are a read set
abbrev pub answered : System → ℕ → Bool
answered outputs A = outputs.reads A

-- the sets named, with one more set from input server i
abbrev pub more : ℕ → MemberSet → List MemberSet → List MemberSet
more i s N = set N i (record { 0 = bit_or (named_by N i) s.0 })

module _ (inputs outputs : System) (il : Lawful inputs) (ol : Lawful outputs) where
  -- the empty set shares no member with the full one
  pub nobody_writes : written inputs outputs nobody ≡ false
  nobody_writes = off (written inputs outputs nobody) none_counts
    where
      none_named : (j : ℕ) → counts inputs inputs.count nobody j ≡ true → ⊥
      none_named j h =
          let r = il.meet (full inputs.count) (set_of inputs.count (λ i. has (named_by nobody i) j)) il.read_family.all h in
          named_none 8 r.0 j (of_set_of inputs.count (λ i. has (named_by nobody i) j) r.0 r.3).1

      none_counts : written inputs outputs nobody ≡ true → ⊥
      none_counts h =
          let r = ol.meet (full outputs.count) (set_of outputs.count (counts inputs inputs.count nobody)) ol.read_family.all h in
          none_named r.0 (of_set_of outputs.count (counts inputs inputs.count nobody) r.0 r.3).1

  pub nobody_reads : answered outputs 0 ≡ false
  nobody_reads = off (answered outputs 0) (λ h.
      let r = ol.meet 0 (full outputs.count) h ol.write_family.all in false≢true (sym (has_none r.0) ∙ r.2))

  -- what is complete stays so
  stays_written : (i : ℕ) (s : MemberSet) (N : List MemberSet) → written inputs outputs N ≡ true → written inputs outputs (more i s N) ≡ true
  stays_written i s N h = written_stays_written inputs outputs il ol i s (record { operation = 0; object = 0; version = none; value = 0; named = N }) h

  stays_answered : (j A : ℕ) → j < outputs.count → answered outputs A ≡ true → answered outputs (joined A j) ≡ true
  stays_answered j A l h = read_stays_read outputs ol j none 0 (record { operation = 0; object = 0; senders = A; version = none; value = 0 }) l h

-- ---- a message that an operation hears was sent by it, or to it

module _ (P : Params) (W : PlainState) (k : Kept P W) where
  -- a write answer goes to a write that has sent its requests
  pub asked_write : (i p : ℕ) (s : MemberSet) → In (WriteAnswer i p s) W.sent
      → (o : ℕ) × (v : Version) × (x : ℕ) × (c : ℕ) × In (WriteRequest p c o v x) W.sent × Wrote (W.op p) o v x
  asked_write i p s h =
      let m = (all_at (MsgOk P W) (WriteAnswer i p s) W.sent k.msgs h).1 in
      (m.0, m.1, m.2, m.3.0, m.3.1, (all_at (MsgOk P W) (WriteRequest p m.3.0 m.0 m.1 m.2) W.sent k.msgs m.3.1).1)

  -- a read answer goes to a read
  pub asked_read : (j p : ℕ) (v : Version) (x : ℕ) → In (ReadAnswer j p v x) W.sent
      → (o : ℕ) × (c : ℕ) × In (ReadRequest p c o) W.sent × Reads (W.op p) o
  asked_read j p v x h =
      let m = (all_at (MsgOk P W) (ReadAnswer j p v x) W.sent k.msgs h).1 in
      (m.0, m.1.0, m.1.1, (all_at (MsgOk P W) (ReadRequest p m.1.0 m.0) W.sent k.msgs m.1.1).1)

-- ---- an operation and what was gathered for it, of any kind

module _ (P : Params) (W : PlainState) (p : ℕ) (b : Begun W p) {G : Type 0} (hear : Message → G → G) (g : G)
    (others : (m : Message) → (answers_to m ≡ p → ⊥) → hear m g ≡ g) where
  -- no message but an answer to p adds anything
  unheard : (m : Message) → answers_to m ≡ 0 → hear m g ≡ g
  unheard m e = others m (λ f. let z = b.0 in omega arith)

  -- the place of p agrees with what is gathered after each act, if it does so after each answer to p
  module _ (Place : G → Operation → Type 0) (h : Place g (W.op p))
      (heard : (m : Message) → May P (hears m) W → answers_to m ≡ p → Place (hear m g) (reaction P m (W.op p)).next) where
    answer_next : (m : Message) → May P (hears m) W → Place (hear m g) (at (answers_to m) (reaction P m (W.op (answers_to m))).next W.op p)
    answer_next m may = at_cases (Place (hear m g)) (answers_to m) p _ W.op
        (λ e. subst (λ (q : ℕ). Place (hear m g) (reaction P m (W.op q)).next) (sym e) (heard m may e))
        (λ n. subst (λ (z : G). Place z (W.op p)) (sym (others m n)) h)

    pub place_next : (a : Act) → May P a W → Place (also_hears hear (heard_by a) g) ((run P a W).op p)
    place_next (ticks x y) m = h
    place_next (writes o x) m =
        subst (Place g) (sym (at_miss (W.begun + 1) p (asking (first_asking (W.begun + 1) o x)) W.op (λ d. let z = b.1 in omega arith))) h
    place_next (reads o) m =
        subst (Place g) (sym (at_miss (W.begun + 1) p (reading (first_reading (W.begun + 1) o)) W.op (λ d. let z = b.1 in omega arith))) h
    place_next (hears (ClockAnswer i q c)) m = answer_next (ClockAnswer i q c) m
    place_next (hears (WriteAnswer i q s)) m = answer_next (WriteAnswer i q s) m
    place_next (hears (ReadAnswer j q v x)) m = answer_next (ReadAnswer j q v x) m
    place_next (hears x) m = subst (λ (z : G). Place z (W.op p)) (sym (unheard x refl)) h

  -- an act that makes a test of it true says so, if each answer to p does
  module _ (full : G → Bool) (f : full g ≡ false) (Ended : Said → Type 0)
      (heard : (m : Message) → May P (hears m) W → answers_to m ≡ p → full (hear m g) ≡ true → Ended (reaction P m (W.op p)).said) where
    answer_said : (m : Message) → May P (hears m) W → full (hear m g) ≡ true → Ended (reaction P m (W.op (answers_to m))).said
    answer_said m may t = elim (cases_eq (answers_to m) p) [
      | inl e ↦ subst (λ (q : ℕ). Ended (reaction P m (W.op q)).said) (sym e) (heard m may e t)
      | inr n ↦ both (sym (ap full (others m n)) ∙ t) f
    ]

    pub place_said : (a : Act) → May P a W → full (also_hears hear (heard_by a) g) ≡ true → Ended (says_of P a W)
    place_said (ticks x y) m t = both t f
    place_said (writes o x) m t = both t f
    place_said (reads o) m t = both t f
    place_said (hears (ClockAnswer i q c)) m t = answer_said (ClockAnswer i q c) m t
    place_said (hears (WriteAnswer i q s)) m t = answer_said (WriteAnswer i q s) m t
    place_said (hears (ReadAnswer j q v x)) m t = answer_said (ReadAnswer j q v x) m t
    place_said (hears x) m t = both (sym (ap full (unheard x refl)) ∙ t) f

-- ---- the place of a write

abbrev pub WritePlace : System → System → List MemberSet → Operation → Type 0
WritePlace inputs outputs N unused = ⊥
WritePlace inputs outputs N (asking a) = N ≡ nobody
WritePlace inputs outputs N (sending w) = (w.named ≡ N) × (written inputs outputs N ≡ false)
WritePlace inputs outputs N (reading r) = ⊥
WritePlace inputs outputs N ended = written inputs outputs N ≡ true

-- what is named to p changes with a write answer to p alone
pub names_from : (p : ℕ) (N : List MemberSet) (a : Act)
    → (also_hears (hears_names p) (heard_by a) N ≡ N) ⊎ ((i : ℕ) × (s : MemberSet) × (a ≡ hears (WriteAnswer i p s)))
names_from p N (hears (WriteAnswer i q s)) = cond_both (eqb q p) (more i s N) N
    (λ (M : List MemberSet). (M ≡ N) ⊎ ((c : ℕ) × (u : MemberSet) × (hears (WriteAnswer i q s) ≡ hears (WriteAnswer c p u))))
    (λ e. inr (i, s, ap (λ (z : ℕ). hears (WriteAnswer i z s)) (eqb-true q p e))) (λ _. inl refl)
names_from p N a = inl refl

pub names_more : (p i q : ℕ) (s : MemberSet) (N : List MemberSet) → q ≡ p → hears_names p (WriteAnswer i q s) N ≡ more i s N
names_more p i q s N e = cond-true (eqb q p) (more i s N) N (eq-eqb q p e)

names_others : (p : ℕ) (N : List MemberSet) (m : Message) → (answers_to m ≡ p → ⊥) → hears_names p m N ≡ N
names_others p N (WriteAnswer i q s) n = cond-false (eqb q p) (more i s N) N (ne_eqb q p n)
names_others p N m n = refl

module _ (P : Params) (il : Lawful P.inputs) (ol : Lawful P.outputs) where
  abbrev ForWrite : List MemberSet → Operation → Type 0
  ForWrite N y = WritePlace P.inputs P.outputs N y

  abbrev Written : List MemberSet → Bool
  Written N = written P.inputs P.outputs N

  -- any other answer
  other_write : (N : List MemberSet) (m : Message) (y : Operation) → ((i p : ℕ) (s : MemberSet) → m ≡ WriteAnswer i p s → ⊥)
      → ForWrite N y → ForWrite N (reaction P m y).next
  other_write N = every_reaction P.inputs P.outputs (λ m y r. ((i p : ℕ) (s : MemberSet) → m ≡ WriteAnswer i p s → ⊥)
      → ForWrite N y → ForWrite N r.next) (record {
        stays = λ m y n f h. h;
        asks = λ i p c a e f h. h;
        gets = λ i p c a e f h. (sym h, ap Written h ∙ nobody_writes P.inputs P.outputs il ol);
        sends = λ i p s w e f h. absurd (f i p s refl);
        writes = λ i p s w e f h. absurd (f i p s refl);
        gathers = λ j p v x r e f h. absurd h;
        reads = λ j p v x r e f h. absurd h;
      })

  named_write : (N : List MemberSet) (i q : ℕ) (s : MemberSet) (y : Operation) (o : ℕ) (v : Version) (x : ℕ) → Wrote y o v x
      → ForWrite N y → ForWrite (more i s N) (reaction P (WriteAnswer i q s) y).next
  named_write N i q s (sending w) o v x g h = cond_both (is_written P.inputs P.outputs (hears_named i s w)) _ _
      (λ (r : Reaction). ForWrite (more i s N) r.next)
      (λ b. subst (λ (M : List MemberSet). Written (more i s M) ≡ true) h.0 b)
      (λ b. (ap (more i s) h.0, subst (λ (M : List MemberSet). Written (more i s M) ≡ false) h.0 b))
  named_write N i q s ended o v x g h = stays_written P.inputs P.outputs il ol i s N h
  named_write N i q s y o v x g h = absurd g

  pub written_next : (p : ℕ) (N : List MemberSet) (a : Act) → Written N ≡ true → Written (also_hears (hears_names p) (heard_by a) N) ≡ true
  written_next p N a h = elim (names_from p N a) [
    | inl e ↦ ap (λ (M : List MemberSet). Written M) e ∙ h
    | inr e ↦ ap (λ (c : Act). Written (also_hears (hears_names p) (heard_by c) N)) e.2 ∙ ap (λ (M : List MemberSet). Written M) (names_more p e.0 p e.1 N refl)
        ∙ stays_written P.inputs P.outputs il ol e.0 e.1 N h
  ]

  says_write : (N : List MemberSet) (i q : ℕ) (s : MemberSet) (y : Operation) (o : ℕ) (v : Version) (x : ℕ) → Wrote y o v x → ForWrite N y → Written N ≡ false
      → Written (more i s N) ≡ true → (v : ℕ) × (x : ℕ) × ((reaction P (WriteAnswer i q s) y).said ≡ write_ended q v x)
  says_write N i q s (sending w) o v x g h f t = (
    w.version.0,
    w.value,
    ap (λ (r : Reaction). r.said) (cond-true (is_written P.inputs P.outputs (hears_named i s w)) _ _
        (subst (λ (M : List MemberSet). Written (more i s M) ≡ true) (sym h.0) t)),
  )
  says_write N i q s ended o v x g h f t = both h f
  says_write N i q s y o v x g h f t = absurd g

  module _ (W : PlainState) (k : Kept P W) (p : ℕ) (b : Begun W p) (N : List MemberSet) (h : ForWrite N (W.op p)) where
    pub write_next : (a : Act) → May P a W → ForWrite (also_hears (hears_names p) (heard_by a) N) ((run P a W).op p)
    write_next = place_next P W p b (hears_names p) N (names_others p N) ForWrite h heard
      where
        heard : (m : Message) → May P (hears m) W → answers_to m ≡ p → ForWrite (hears_names p m N) (reaction P m (W.op p)).next
        heard (WriteAnswer i q s) m e =
            let r = asked_write P W k i q s m.0 in
            subst (λ (M : List MemberSet). ForWrite M (reaction P (WriteAnswer i q s) (W.op p)).next) (sym (names_more p i q s N e))
            (named_write N i q s (W.op p) r.0 r.1 r.2 (subst (λ (z : ℕ). Wrote (W.op z) r.0 r.1 r.2) e r.5) h)
        heard m may e = other_write N m (W.op p) (λ _ _ _ d. never (cc)) h

    pub write_said : (a : Act) → May P a W → Written N ≡ false → Written (also_hears (hears_names p) (heard_by a) N) ≡ true
        → (v : ℕ) × (x : ℕ) × (says_of P a W ≡ write_ended p v x)
    write_said a may f t =
        place_said P W p b (hears_names p) N (names_others p N) Written f (λ r. (v : ℕ) × (x : ℕ) × (r ≡ write_ended p v x)) heard a may t
      where
        heard : (m : Message) → May P (hears m) W → answers_to m ≡ p → Written (hears_names p m N) ≡ true
            → (v : ℕ) × (x : ℕ) × ((reaction P m (W.op p)).said ≡ write_ended p v x)
        heard (WriteAnswer i q s) m e t =
            let r = asked_write P W k i q s m.0 in
            let y = says_write N i q s (W.op p) r.0 r.1 r.2 (subst (λ (z : ℕ). Wrote (W.op z) r.0 r.1 r.2) e r.5) h f
            (sym (ap (λ (M : List MemberSet). Written M) (names_more p i q s N e)) ∙ t) in
            (y.0, y.1, y.2 ∙ ap (λ (z : ℕ). write_ended z y.0 y.1) e)
        heard m may e t = both t f

-- ---- the place of a read

abbrev pub ReadPlace : System → ℕ → Operation → Type 0
ReadPlace outputs A unused = ⊥
ReadPlace outputs A (asking a) = ⊥
ReadPlace outputs A (sending w) = ⊥
ReadPlace outputs A (reading r) = (r.senders ≡ A) × (answered outputs A ≡ false)
ReadPlace outputs A ended = answered outputs A ≡ true

-- who answered p changes with a read answer to p alone
pub answers_from : (p A : ℕ) (a : Act)
    → (also_hears (hears_answer p) (heard_by a) A ≡ A) ⊎ ((j : ℕ) × (v : Version) × (x : ℕ) × (a ≡ hears (ReadAnswer j p v x)))
answers_from p A (hears (ReadAnswer j q v x)) = cond_both (eqb q p) (joined A j) A
    (λ (B : ℕ). (B ≡ A) ⊎ ((c : ℕ) × (u : Version) × (y : ℕ) × (hears (ReadAnswer j q v x) ≡ hears (ReadAnswer c p u y))))
    (λ e. inr (j, v, x, ap (λ (z : ℕ). hears (ReadAnswer j z v x)) (eqb-true q p e))) (λ _. inl refl)
answers_from p A a = inl refl

pub answers_more : (p j q : ℕ) (v : Version) (x A : ℕ) → q ≡ p → hears_answer p (ReadAnswer j q v x) A ≡ joined A j
answers_more p j q v x A e = cond-true (eqb q p) (joined A j) A (eq-eqb q p e)

answers_others : (p A : ℕ) (m : Message) → (answers_to m ≡ p → ⊥) → hears_answer p m A ≡ A
answers_others p A (ReadAnswer j q v x) n = cond-false (eqb q p) (joined A j) A (ne_eqb q p n)
answers_others p A m n = refl

module _ (P : Params) (small : Small P) (il : Lawful P.inputs) (ol : Lawful P.outputs) where
  abbrev ForRead : ℕ → Operation → Type 0
  ForRead A y = ReadPlace P.outputs A y

  abbrev Answered : ℕ → Bool
  Answered A = answered P.outputs A

  -- any other answer
  other_read : (A : ℕ) (m : Message) (y : Operation) → ((j p : ℕ) (v : Version) (x : ℕ) → m ≡ ReadAnswer j p v x → ⊥)
      → ForRead A y → ForRead A (reaction P m y).next
  other_read A = every_reaction P.inputs P.outputs (λ m y r. ((j p : ℕ) (v : Version) (x : ℕ) → m ≡ ReadAnswer j p v x → ⊥)
      → ForRead A y → ForRead A r.next) (record {
        stays = λ m y n f h. h;
        asks = λ i p c a e f h. absurd h;
        gets = λ i p c a e f h. absurd h;
        sends = λ i p s w e f h. absurd h;
        writes = λ i p s w e f h. absurd h;
        gathers = λ j p v x r e f h. absurd (f j p v x refl);
        reads = λ j p v x r e f h. absurd (f j p v x refl);
      })

  pair_read : (A j q : ℕ) (v : Version) (x : ℕ) (y : Operation) (o : ℕ) → Reads y o → j < P.outputs.count
      → ForRead A y → ForRead (joined A j) (reaction P (ReadAnswer j q v x) y).next
  pair_read A j q v x (reading r) o g l h = cond_both (is_read P.outputs (hears_pair j v x r)) _ _
      (λ (z : Reaction). ForRead (joined A j) z.next)
      (λ b. subst (λ (B : ℕ). Answered (joined B j) ≡ true) h.0 b)
      (λ b. (ap (λ (B : ℕ). joined B j) h.0, subst (λ (B : ℕ). Answered (joined B j) ≡ false) h.0 b))
  pair_read A j q v x ended o g l h = stays_answered P.inputs P.outputs il ol j A l h
  pair_read A j q v x y o g l h = absurd g

  pub answered_next : (W : PlainState) (p A : ℕ) (a : Act) → May P a W → Answered A ≡ true → Answered (also_hears (hears_answer p) (heard_by a) A) ≡ true
  answered_next W p A a m h = elim (answers_from p A a) [
    | inl e ↦ ap (λ (B : ℕ). Answered B) e ∙ h
    | inr e ↦
        let n = (fits_pair P.counts e.0 p e.1 e.2 (subst (λ (c : Act). May P c W) e.3 m).1).0 in
        ap (λ (c : Act). Answered (also_hears (hears_answer p) (heard_by c) A)) e.3 ∙ ap (λ (B : ℕ). Answered B) (answers_more p e.0 p e.1 e.2 A refl)
        ∙ stays_answered P.inputs P.outputs il ol e.0 A (let z = small.m_is in omega arith) h
  ]

  says_read : (A j q : ℕ) (v : Version) (x : ℕ) (y : Operation) (o : ℕ) → Reads y o → ForRead A y → Answered A ≡ false
      → Answered (joined A j) ≡ true → (u : ℕ) × (z : ℕ) × ((reaction P (ReadAnswer j q v x) y).said ≡ read_ended q u z)
  says_read A j q v x (reading r) o g h f t = (
    (hears_pair j v x r).version.0,
    (hears_pair j v x r).value,
    ap (λ (z : Reaction). z.said) (cond-true (is_read P.outputs (hears_pair j v x r)) _ _
        (subst (λ (B : ℕ). Answered (joined B j) ≡ true) (sym h.0) t)),
  )
  says_read A j q v x ended o g h f t = both h f
  says_read A j q v x y o g h f t = absurd g

  module _ (W : PlainState) (k : Kept P W) (p : ℕ) (b : Begun W p) (A : ℕ) (h : ForRead A (W.op p)) where
    pub read_next : (a : Act) → May P a W → ForRead (also_hears (hears_answer p) (heard_by a) A) ((run P a W).op p)
    read_next = place_next P W p b (hears_answer p) A (answers_others p A) ForRead h heard
      where
        heard : (m : Message) → May P (hears m) W → answers_to m ≡ p → ForRead (hears_answer p m A) (reaction P m (W.op p)).next
        heard (ReadAnswer j q v x) m e =
            let r = asked_read P W k j q v x m.0 in
            let l = (fits_pair P.counts j q v x m.1).0 in
            subst (λ (B : ℕ). ForRead B (reaction P (ReadAnswer j q v x) (W.op p)).next) (sym (answers_more p j q v x A e))
            (pair_read A j q v x (W.op p) r.0 (subst (λ (z : ℕ). Reads (W.op z) r.0) e r.3) (let z = small.m_is in omega arith) h)
        heard m may e = other_read A m (W.op p) (λ _ _ _ _ d. never (cc)) h

    pub read_said : (a : Act) → May P a W → Answered A ≡ false → Answered (also_hears (hears_answer p) (heard_by a) A) ≡ true
        → (u : ℕ) × (z : ℕ) × (says_of P a W ≡ read_ended p u z)
    read_said a may f t =
        place_said P W p b (hears_answer p) A (answers_others p A) Answered f (λ r. (u : ℕ) × (z : ℕ) × (r ≡ read_ended p u z)) heard a may t
      where
        heard : (m : Message) → May P (hears m) W → answers_to m ≡ p → Answered (hears_answer p m A) ≡ true
            → (u : ℕ) × (z : ℕ) × ((reaction P m (W.op p)).said ≡ read_ended p u z)
        heard (ReadAnswer j q v x) m e t =
            let r = asked_read P W k j q v x m.0 in
            let y = says_read A j q v x (W.op p) r.0 (subst (λ (z : ℕ). Reads (W.op z) r.0) e r.3) h f
            (sym (ap Answered (answers_more p j q v x A e)) ∙ t) in
            (y.0, y.1, y.2 ∙ ap (λ (z : ℕ). read_ended z y.0 y.1) e)
        heard m may e t = both t f
