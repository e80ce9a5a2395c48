-- The laws of a read request at an output server.
use Rattle.std.proofs.Common.{◌≡◌, ℕ, zero, suc, ◌/◌, ◌%◌, ◌^◌, ◌<◌, ◌≤◌, Bool, true, false, not, ◌&&◌, eqb, ltb, leb, ◌⊎◌, List, [], ◌∷◌, ◌++◌, length, get_or, set, replicate, sym, refl, ap, ◌∙◌, subst, inl, inr, arith, pow_mono, pow_pos, get_or-set_same, length-append, append-nil}
use Rattle.std.proofs.Math.ListN.{get_or-append, get_or-eq_default}
use Rattle.std.proofs.Math.Nat.{div-eq_of_lt}
use Rattle.std.proofs.Math.Seq.{get_or-append_seam}
use Rattle.std.proofs.lemmas.Bool.Decides.{nat_tests}
use Rattle.std.proofs.lemmas.Bool.{cases_Bool, cases_eq, cases_lt, cond_both, cond-true, cond-false, and_parts, and_from, false_from_ne_true, false≢true, leb-true, le-leb, lt-ltb, ltb-true, ltb-false, not-true, not_from_false, not_from_true}
use Rattle.std.proofs.lemmas.List.{get_or-replicate}
use Rattle.quorum.specs.Sets.{has, full, set_of, all_below}
use Rattle.quorum.specs.Systems.{System}
use Rattle.quorum.specs.Members.{has_half, has_low}
use Rattle.numbers.specs.declared.time.Time.{Time}
use Rattle.numbers.specs.declared.version.Version.{Version}
use Rattle.rules.specs.declared.kept.Copied.{Copied}
use Rattle.rules.specs.declared.kept.Link.{Link}
use Rattle.rules.specs.declared.kept.Newest.{Newest}
use Rattle.rules.specs.declared.message.Message.{Message}
use Rattle.rules.specs.declared.message.Message.TheVariants.{ReadAnswer, RenewalRequest}
use Rattle.rules.specs.declared.renewal.Renewal.{Renewal}
use Rattle.rules.specs.declared.renewal.Renewed.{Renewed}
use Rattle.rules.specs.Calls.{no_message, receives}
use Rattle.rules.specs.Lists.{list_of}
use Rattle.rules.specs.Output.{Output, no_newest, no_copy, no_link, newest_of, link, copy_of, sound, leased, good, covers, valid, asks, asks_all, answers_read, hears, hears_all, accepts, takes_newest, after_answer, after_invalidation, first_output}
use Rattle.rules.specs.Output.{asked as wanted}
use Rattle.rules.specs.Renewals.{asks_object, asks_volume, parts_of}
use Rattle.guarantee.specs.ReadRequests.{HasSoundCopy, HasLease, IsGood, MayAnswer, LogsReadAnswer, AnswersIfItMay, AnswersOnceWithNewest, AsksForMissing, OnlyOthersAreAsked, AllOthersAreAsked, AskedInRisingOrder, GotIsCovered, SomeoneIsAsked, GotIsAlwaysCovered, ReadRequestsAlterNothing}
use Rattle.guarantee.specs.Story.{Has}
use Rattle.guarantee.proofs.OutputMoves as Outs
use Rattle.guarantee.proofs.ServerSteps.{changed}
use Rattle.guarantee.proofs.Sets.{of_set_of, to_set_of, set_of-within}
use Rattle.guarantee.proofs.Traces.{in_has, has_in}
use Rattle.guarantee.proofs.Words.{In, All, all_at, each_all, any_each}

-- ---- sets

-- two sets with the same members are one number
same_set : (a b : ℕ) → ((i : ℕ) → has a i ≡ has b i) → a ≡ b
same_set a b h = go a a b (omega arith) h
  where
    low : (a b : ℕ) → has a 0 ≡ has b 0 → a % 2 ≡ b % 2
    low a b e = let d : eqb (a % 2) 1 ≡ eqb (b % 2) 1 = sym (has_low a) ∙ e ∙ has_low b in grind (arith, nat_tests)

    halves : (a b : ℕ) → ((i : ℕ) → has a i ≡ has b i) → (i : ℕ) → has (a / 2) i ≡ has (b / 2) i
    halves a b h i = has_half a i ∙ h (suc i) ∙ sym (has_half b i)

    -- the empty set
    empty : (k b : ℕ) → b ≤ k → ((i : ℕ) → has 0 i ≡ has b i) → 0 ≡ b
    empty zero b l h = omega arith
    empty (suc k) b l h = let r = empty k (b / 2) (omega arith) (halves 0 b h) in let e = low 0 b (h 0) in omega arith

    go : (k a b : ℕ) → a ≤ k → ((i : ℕ) → has a i ≡ has b i) → a ≡ b
    go zero a b l h =
        let z : a ≡ 0 = omega arith in
        z ∙ empty b b (omega arith) (subst (λ (x : ℕ). (i : ℕ) → has x i ≡ has b i) z h)
    go (suc k) a b l h = let r = go k (a / 2) (b / 2) (omega arith) (halves a b h) in let e = low a b (h 0) in omega arith

-- a member of all of n is below n
full_below : (n i : ℕ) → has (full n) i ≡ true → i < n
full_below n i h = elim (cases_lt i n) [
  | inl l ↦ l
  | inr l ↦ let m : 2 ^ n ≤ 2 ^ i = pow_mono l in
      let p : 0 < 2 ^ n = pow_pos n in
      let e : full n / 2 ^ i ≡ 0 = div-eq_of_lt (omega arith) in
      absurd (false≢true (sym (ap (λ (x : ℕ). eqb (x % 2) 1) e) ∙ h))
]

-- ---- the words of the rules, as facts

module _ (O : Output) (o i : ℕ) where
  abbrev copy : Copied
  copy = copy_of (link O i) o

  sound_has : sound O o i ≡ true → HasSoundCopy O o i
  sound_has h =
      let a = and_parts (not (eqb copy.got.0 0)) (leb copy.known.0 copy.got.0 && leb (link O i).epoch.0 copy.epoch.0) h in
      let b = and_parts (leb copy.known.0 copy.got.0) (leb (link O i).epoch.0 copy.epoch.0) a.1 in
      record {
        got = some copy.got.0 (not-true (eqb copy.got.0 0) a.0);
        newest = leb-true copy.known.0 copy.got.0 b.0;
        epoch = leb-true (link O i).epoch.0 copy.epoch.0 b.1;
      }
    where
      some : (n : ℕ) → eqb n 0 ≡ false → 1 ≤ n
      some n e = grind (arith, nat_tests)

  has_sound : HasSoundCopy O o i → sound O o i ≡ true
  has_sound h = and_from (not (eqb copy.got.0 0)) (leb copy.known.0 copy.got.0 && leb (link O i).epoch.0 copy.epoch.0)
      (some copy.got.0 h.got)
      (and_from (leb copy.known.0 copy.got.0) (leb (link O i).epoch.0 copy.epoch.0)
      (le-leb copy.known.0 copy.got.0 h.newest) (le-leb (link O i).epoch.0 copy.epoch.0 h.epoch))
    where
      some : (n : ℕ) → 1 ≤ n → not (eqb n 0) ≡ true
      some n l = grind (arith, nat_tests)

  leased_has : leased O i ≡ true → HasLease O i
  leased_has h = ltb-true O.clock.0 (link O i).lease_end.0 h

  has_leased : HasLease O i → leased O i ≡ true
  has_leased h = lt-ltb O.clock.0 (link O i).lease_end.0 h

  good_is : good O o i ≡ true → IsGood O o i
  good_is h = let a = and_parts (sound O o i) (leased O i) h in (sound_has a.0, leased_has a.1)

  is_good : IsGood O o i → good O o i ≡ true
  is_good h = and_from (sound O o i) (leased O i) (has_sound h.0) (has_leased h.1)

  not_good : good O o i ≡ false → IsGood O o i → ⊥
  not_good e h = false≢true (sym e ∙ is_good h)

  -- what is asked is what is missing
  asks_missing : good O o i ≡ false → AsksForMissing O o i (wanted o O i)
  asks_missing g = record {
    object = refl;
    stamp = refl;
    copy = (
      (λ h k. false≢true (sym (not_from_true (sound O o i) (has_sound k)) ∙ sym (objects (not (sound O o i)) (not (leased O i))) ∙ h)),
      (λ n. objects (not (sound O o i)) (not (leased O i)) ∙ not_from_false (sound O o i) (false_from_ne_true (sound O o i) (λ e. n (sound_has e)))),
    );
    lease = (
      (λ h k. volumes (sound O o i) (leased O i) g (has_leased k) h),
      (λ n. wants (sound O o i) (leased O i) (false_from_ne_true (leased O i) (λ e. n (leased_has e)))),
    );
  }
    where
      objects : (a b : Bool) → asks_object (parts_of a b) ≡ a
      objects true true = refl
      objects true false = refl
      objects false true = refl
      objects false false = refl

      volumes : (a b : Bool) → (a && b) ≡ false → b ≡ true → asks_volume (parts_of (not a) (not b)) ≡ true → ⊥
      volumes true true g e h = false≢true (sym g)
      volumes true false g e h = false≢true e
      volumes false true g e h = false≢true h
      volumes false false g e h = false≢true e

      wants : (a b : Bool) → b ≡ false → asks_volume (parts_of (not a) (not b)) ≡ true
      wants true false e = refl
      wants false false e = refl
      wants true true e = absurd (false≢true (sym e))
      wants false true e = absurd (false≢true (sym e))

-- ---- the validity condition

all_from : (n : ℕ) (f : ℕ → Bool) → ((i : ℕ) → i < n → f i ≡ true) → all_below n f ≡ true
all_from zero f h = refl
all_from (suc n) f h = and_from (all_below n f) (f n) (all_from n f (λ i l. h i (omega arith))) (h n (omega arith))

module _ (inputs : System) (n o : ℕ) (O : Output) where
  valid_may : valid inputs n o O ≡ true → MayAnswer inputs n O o
  valid_may h = let a = and_parts (covers O o n) (inputs.reads (set_of n (good O o))) h in record {
    nothing_newer = λ i l. Outs.covered O o n i a.0 l;
    members = set_of n (good O o);
    are_good = λ i. (
      (λ e. let b = of_set_of n (good O o) i e in (b.0, good_is O o i b.1)),
      (λ e. to_set_of n (good O o) i e.0 (is_good O o i e.1)),
    );
    read = a.1;
  }

  may_valid : MayAnswer inputs n O o → valid inputs n o O ≡ true
  may_valid m = and_from (covers O o n) (inputs.reads (set_of n (good O o)))
      (all_from n (λ i. leb (copy_of (link O i) o).known.0 (newest_of O o).version.0)
      (λ i l. le-leb (copy_of (link O i) o).known.0 (newest_of O o).version.0 (m.nothing_newer i l)))
      (ap (λ (s : ℕ). inputs.reads s) (same_set (set_of n (good O o)) m.members same) ∙ m.read)
    where
      both : (a b : Bool) → (a ≡ true → b ≡ true) → (b ≡ true → a ≡ true) → a ≡ b
      both true true f g = refl
      both true false f g = absurd (false≢true (f refl))
      both false true f g = absurd (false≢true (g refl))
      both false false f g = refl

      same : (i : ℕ) → has (set_of n (good O o)) i ≡ has m.members i
      same i = both (has (set_of n (good O o)) i) (has m.members i)
          (λ e. let b = of_set_of n (good O o) i e in (m.are_good i).1 (b.0, good_is O o i b.1))
          (λ e. let b = (m.are_good i).0 e in to_set_of n (good O o) i b.0 (is_good O o i b.1))

  may_not : (MayAnswer inputs n O o → ⊥) → valid inputs n o O ≡ false
  may_not h = false_from_ne_true (valid inputs n o O) (λ e. h (valid_may e))

-- ---- what is logged

-- a renewal request to an input server that is not good, for what is missing
abbrev Asked : ℕ → ℕ → ℕ → Output → Message → Type 0
Asked j n o O x = (i : ℕ) × (r : Renewal) × (x ≡ RenewalRequest j i r) × (i < n) × (IsGood O o i → ⊥) × AsksForMissing O o i r

all_asked : (j n o : ℕ) (O : Output) → All (Asked j n o O) (asks_all j n o O)
all_asked j n o O = each_all (Asked j n o O) n (asks j o O)
    (λ i l. cond_both (good O o i) [] (RenewalRequest j i (wanted o O i) ∷ []) (λ (new : List Message). All (Asked j n o O) new)
    (λ _. tt) (λ e. ((i, wanted o O i, refl, l, not_good O o i e, asks_missing O o i e), tt)))

module _ (inputs : System) (O : Output) (j p n o : ℕ) where
  abbrev answer : Message
  answer = ReadAnswer j p (newest_of O o).version (newest_of O o).value

  answered : MayAnswer inputs n O o → answers_read inputs j p n o O ≡ answer ∷ []
  answered m = cond-true (valid inputs n o O) (answer ∷ []) (asks_all j n o O) (may_valid inputs n o O m)

  asked : valid inputs n o O ≡ false → answers_read inputs j p n o O ≡ asks_all j n o O
  asked e = cond-false (valid inputs n o O) (answer ∷ []) (asks_all j n o O) e

  -- of what is logged, where no answer is
  only_asked : valid inputs n o O ≡ false → (x : Message) → Has (answers_read inputs j p n o O) x → Asked j n o O x
  only_asked e x h = all_at (Asked j n o O) x (asks_all j n o O) (all_asked j n o O)
      (has_in x (asks_all j n o O) (subst (λ (new : List Message). Has new x) (asked e) h))

  logs_may : LogsReadAnswer (answers_read inputs j p n o O) → MayAnswer inputs n O o
  logs_may h = elim (cases_Bool (valid inputs n o O)) [
    | inl e ↦ valid_may inputs n o O e
    | inr e ↦ let a = only_asked e (ReadAnswer h.0 h.1 h.2 h.3) h.4 in no_request h.0 h.1 h.2 h.3 j a.0 a.1 a.2
  ]
    where
      no_request : {A : Type 0} (k q : ℕ) (v : Version) (x l i : ℕ) (r : Renewal) → ReadAnswer k q v x ≡ RenewalRequest l i r → A
      no_request k q v x l i r e = cc

  may_logs : MayAnswer inputs n O o → LogsReadAnswer (answers_read inputs j p n o O)
  may_logs m = (
    j,
    p,
    (newest_of O o).version,
    (newest_of O o).value,
    subst (λ (new : List Message). Has new answer) (sym (answered m)) (in_has answer (answer ∷ []) (inl refl)),
  )

pub answers_if_it_may : AnswersIfItMay
answers_if_it_may inputs O j p n o = (logs_may inputs O j p n o, may_logs inputs O j p n o)

pub answers_once : AnswersOnceWithNewest
answers_once inputs O j p n o m = answered inputs O j p n o m

pub only_others_are_asked : OnlyOthersAreAsked
only_others_are_asked inputs O j p n o m x h = only_asked inputs O j p n o (may_not inputs n o O m) x h

pub all_others_are_asked : AllOthersAreAsked
all_others_are_asked inputs O j p n o m i l g = (
  wanted o O i,
  subst (λ (new : List Message). Has new x) (sym (asked inputs O j p n o (may_not inputs n o O m)))
      (in_has x (asks_all j n o O)
      (any_each (λ (y : Message). x ≡ y) n (asks j o O) i l
      (subst (λ (new : List Message). In x new)
      (sym (cond-false (good O o i) [] (x ∷ []) (false_from_ne_true (good O o i) (λ e. g (good_is O o i e))))) (inl refl)))),
)
  where
    x : Message
    x = RenewalRequest j i (wanted o O i)

-- ---- in rising order

-- of the messages at two places the first goes to a lower input server, if both are renewal requests
abbrev Rising : List Message → Type 0
Rising new = (a b : ℕ) → a < b → b < length new → (k i l q : ℕ) (r s : Renewal)
    → get_or new a no_message ≡ RenewalRequest k i r → get_or new b no_message ≡ RenewalRequest l q s → i < q

rising_one : (x : Message) → Rising (x ∷ [])
rising_one x a b h l = absurd (omega arith)

-- one more request, to a higher input server
rising_more : (j n o : ℕ) (O : Output) (x : Renewal) (new : List Message) → All (Asked j n o O) new → Rising new
    → Rising (new ++ RenewalRequest j n x ∷ [])
rising_more j n o O x new below h a b less l k i m q r s e d =
    let room = length-append new (RenewalRequest j n x ∷ []) in
    let first : get_or new a no_message ≡ RenewalRequest k i r = sym (get_or-append new (RenewalRequest j n x ∷ []) no_message a (omega arith)) ∙ e in
    elim (cases_lt b (length new)) [
      | inl here ↦ h a b less here k i m q r s first (sym (get_or-append new (RenewalRequest j n x ∷ []) no_message b here) ∙ d)
      | inr there ↦
          let at : b ≡ length new = omega arith in
          let last : RenewalRequest j n x ≡ RenewalRequest m q s =
          sym (get_or-append_seam new (RenewalRequest j n x) [] no_message)
          ∙ subst (λ (c : ℕ). get_or (new ++ RenewalRequest j n x ∷ []) c no_message ≡ RenewalRequest m q s) at d in
          let before = all_at (Asked j n o O) (get_or new a no_message) new below (in_place new a (omega arith)) in
          lower (get_or new a no_message) k i r j before.0 before.1 n x m q s first before.2 before.3 last
    ]
  where
    in_place : (new : List Message) (a : ℕ) → a < length new → In (get_or new a no_message) new
    in_place [] a l = absurd (omega arith)
    in_place (y ∷ new) zero l = inl refl
    in_place (y ∷ new) (suc a) l = inr (in_place new a (omega arith))

    lower : (y : Message) (k i : ℕ) (r : Renewal) (j c : ℕ) (t : Renewal) (n : ℕ) (x : Renewal) (m q : ℕ) (s : Renewal)
        → y ≡ RenewalRequest k i r → y ≡ RenewalRequest j c t → c < n → RenewalRequest j n x ≡ RenewalRequest m q s → i < q
    lower y k i r j c t n x m q s e f l g =
        let u : i ≡ c = cc in
        let v : n ≡ q = cc in
        omega arith

rising_all : (j n o : ℕ) (O : Output) → Rising (asks_all j n o O)
rising_all j zero o O = λ a b h l. absurd (omega arith)
rising_all j (suc n) o O = cond_both (good O o n) [] (RenewalRequest j n (wanted o O n) ∷ []) (λ (new : List Message). Rising (asks_all j n o O ++ new))
    (λ _. subst Rising (sym (append-nil (asks_all j n o O))) (rising_all j n o O))
    (λ _. rising_more j n o O (wanted o O n) (asks_all j n o O) (all_asked j n o O) (rising_all j n o O))

pub asked_in_rising_order : AskedInRisingOrder
asked_in_rising_order inputs O j p n o = cond_both (valid inputs n o O) (answer inputs O j p n o ∷ []) (asks_all j n o O) Rising
    (λ _. rising_one (answer inputs O j p n o)) (λ _. rising_all j n o O)

-- ---- someone is asked

-- a test passes below n, or fails somewhere
first_failure : (n : ℕ) (f : ℕ → Bool) → ((i : ℕ) → i < n → f i ≡ true) ⊎ ((i : ℕ) × (i < n) × (f i ≡ false))
first_failure zero f = inl (λ i l. absurd (omega arith))
first_failure (suc n) f = elim (first_failure n f) [
  | inr h ↦ inr (h.0, let l = h.1 in omega arith, h.2)
  | inl h ↦ elim (cases_Bool (f n)) [
    | inr e ↦ inr (n, omega arith, e)
    | inl e ↦ inl (λ i l. elim (cases_eq i n) [
      | inl d ↦ ap f d ∙ e
      | inr d ↦ h i (omega arith)
    ])
  ]
]

pub someone_is_asked : SomeoneIsAsked
someone_is_asked inputs O j p o lawful covered m = elim (first_failure inputs.count (good O o)) [
  | inr h ↦ let r = all_others_are_asked inputs O j p inputs.count o m h.0 h.1 (not_good O o h.0 h.2) in (h.0, r.0, r.1)
  | inl h ↦ absurd (m (all_good h))
]
  where
    all_good : ((i : ℕ) → i < inputs.count → good O o i ≡ true) → MayAnswer inputs inputs.count O o
    all_good h = valid_may inputs inputs.count o O (and_from (covers O o inputs.count) (inputs.reads (set_of inputs.count (good O o)))
        (all_from inputs.count (λ i. leb (copy_of (link O i) o).known.0 (newest_of O o).version.0)
        (λ i l. let g = (good_is O o i (h i l)).0.newest in let c = covered i l in
        le-leb (copy_of (link O i) o).known.0 (newest_of O o).version.0 (omega arith)))
        (lawful.read_family.upward (full inputs.count) (set_of inputs.count (good O o)) lawful.read_family.all
        (λ i e. let l = full_below inputs.count i e in to_set_of inputs.count (good O o) i l (h i l))
        (set_of-within inputs.count (good O o))))

-- ---- what was got is covered

-- an accepted version is at most the newest from then on
newest_covers : (y : Renewed) (ns : List Newest) → y.renewal.object < length ns
    → y.version.0 ≤ (get_or (takes_newest true y ns) y.renewal.object no_newest).version.0
newest_covers y ns l = cond_both (ltb (get_or ns y.renewal.object no_newest).version.0 y.version.0)
    (set ns y.renewal.object (record { version = y.version; value = y.value })) ns
    (λ (new : List Newest). y.version.0 ≤ (get_or new y.renewal.object no_newest).version.0)
    (λ _. let e = ap (λ (x : Newest). x.version.0) (get_or-set_same ns y.renewal.object (record { version = y.version; value = y.value }) no_newest l) in omega arith)
    (λ e. ltb-false (get_or ns y.renewal.object no_newest).version.0 y.version.0 e)

module _ (drift a : ℕ) (y : Renewed) (O : Output) (room : y.renewal.object < length O.newest) where
  abbrev heard : Link
  heard = hears_all (list_of y.list) (link O a)

  accepted_covers : accepts y heard ≡ true → y.version.0 ≤ (newest_of (after_answer drift a y O) y.renewal.object).version.0
  unfolding after_answer
  accepted_covers t = subst (λ (b : Bool). y.version.0 ≤ (get_or (takes_newest b y O.newest) y.renewal.object no_newest).version.0) (sym t)
      (newest_covers y O.newest room)

  own_covered : (o : ℕ) → (copy_of (link O a) o).got.0 ≤ (newest_of O o).version.0
      → (copy_of (Outs.answered drift y (link O a)) o).got.0 ≤ (newest_of (after_answer drift a y O) o).version.0
  own_covered o b = subst (λ (c : Copied). c.got.0 ≤ (newest_of (after_answer drift a y O) o).version.0)
      (sym (Outs.answered_copy drift y (link O a) o))
      (elim (Outs.takes_from y heard o) [
        | inl e ↦
            let g = ap (λ (c : Copied). c.got.0) e in
            let k = ap (λ (v : Version). v.0) (Outs.hears_all_got (list_of y.list) (link O a) o) in
            omega (arith, Outs.newest_up_renewed drift a y O o)
        | inr h ↦
            let g = ap (λ (c : Copied). c.got.0) h.3 in
            let t = and_from (asks_object y.renewal.parts) (leb (copy_of heard y.renewal.object).known.0 y.version.0)
            h.1 (le-leb (copy_of heard y.renewal.object).known.0 y.version.0 h.2) in
            let c = subst (λ (q : ℕ). y.version.0 ≤ (newest_of (after_answer drift a y O) q).version.0) h.0 (accepted_covers t) in
            omega arith
      ])

  answer_covered : (n o : ℕ) → GotIsCovered n O o → GotIsCovered n (after_answer drift a y O) o
  unfolding after_answer
  answer_covered n o h i l = changed
      (λ (k m : Link). (copy_of k o).got.0 ≤ (newest_of O o).version.0
      → (copy_of m o).got.0 ≤ (newest_of (after_answer drift a y O) o).version.0)
      O.links a i (Outs.answered drift y (link O a)) no_link
      (λ k b. omega (arith, Outs.newest_up_renewed drift a y O o)) (own_covered o) (h i l)

invalidation_covered : (n o a q : ℕ) (v : Version) (O : Output) → GotIsCovered n O o → GotIsCovered n (after_invalidation a q v O) o
unfolding after_invalidation
invalidation_covered n o a q v O h i l = changed
    (λ (k m : Link). (copy_of k o).got.0 ≤ (newest_of O o).version.0 → (copy_of m o).got.0 ≤ (newest_of O o).version.0)
    O.links a i (hears (record { object = q; version = v }) (link O a)) no_link (λ k b. b)
    (λ b. let e = ap (λ (w : Version). w.0) (Outs.hears_got (record { object = q; version = v }) (link O a) o) in omega arith)
    (h i l)

first_covered : (n o : ℕ) (clock : Time) → GotIsCovered n (first_output clock) o
first_covered n o clock i l = elim (cases_lt i 8) [
  | inl h ↦ let e = ap (λ (k : Link). (copy_of k o).got.0) (get_or-replicate 8 i first no_link h) in omega (arith, none_got)
  | inr h ↦ let e = ap (λ (k : Link). (copy_of k o).got.0) (get_or-eq_default (replicate 8 first) no_link h) in omega arith
]
  where
    first : Link
    first = record { copies = replicate 16 no_copy; epoch = record { 0 = 0 }; lease_end = record { 0 = 0 } }

    none_got : (copy_of first o).got.0 ≡ 0
    none_got = elim (cases_lt o 16) [
      | inl h ↦ ap (λ (c : Copied). c.got.0) (get_or-replicate 16 o no_copy no_copy h)
      | inr h ↦ ap (λ (c : Copied). c.got.0) (get_or-eq_default (replicate 16 no_copy) no_copy h)
    ]

pub got_is_always_covered : GotIsAlwaysCovered
got_is_always_covered n o = record {
  first = first_covered n o;
  answer = λ drift a y O room. answer_covered drift a y O room n o;
  invalidation = invalidation_covered n o;
  advance = λ increment O h. h;
}

-- ---- what stays

pub read_requests_alter_nothing : ReadRequestsAlterNothing
unfolding receives
read_requests_alter_nothing inputs outputs s p j o = record { inputs = refl; outputs = refl; begun = refl; table = refl }
