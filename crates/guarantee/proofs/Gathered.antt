-- The laws of gathering.
use Rattle.std.proofs.Common.{◌≡◌, ℕ, zero, suc, ◌+◌, ◌*◌, ◌/◌, ◌%◌, ◌^◌, ◌<◌, ◌≤◌, max, Bool, true, false, cond, eqb, ltb, List, [], ◌∷◌, length, get_or, set, sym, refl, ap, ◌∙◌, subst, inl, inr, arith, get_or-set_other, get_or-set_same, set-set}
use lib.Arith.{bin_ind}
use lib.Bits.{bit_or, or_step, or_comm, or_self}
use lib.Seq.{set_comm}
use Rattle.std.proofs.lemmas.Bool.{cases_eq, cases_lt, cond_both, cond-true, cond-false, or_left, ltb-true, ltb-false, lt-ltb, le-ltb}
use Rattle.quorum.specs.declared.member_set.MemberSet.{MemberSet}
use Rattle.quorum.specs.Sets.{has, Within, joined, set_of}
use Rattle.quorum.specs.Systems.{System, Lawful}
use Rattle.numbers.specs.declared.version.Version.{Version}
use Rattle.rules.proofs.Places.{set_beyond}
use Rattle.rules.specs.Operation.{Asking, Sending, Reading, hears_clock, named_by, counts, hears_pair}
use Rattle.guarantee.specs.Gathering.{ClockTwiceIsOnce, NamedTwiceIsOnce, PairTwiceIsOnce, ClocksInAnyOrder, NamedInAnyOrder, PairsInAnyOrder, UnequalPairsInAnyOrder, ClockStaysKnown, WrittenStaysWritten, ReadStaysRead, ClockSaid, hears_clocks, VersionIsNext, VersionAboveClocks, VersionAboveVersions}
use Rattle.guarantee.proofs.Sets.{has_or, has_joined, of_set_of, to_set_of, set_of-within, joined_within}

-- ---- joining sets

digits : (a x p q : ℕ) → a ≡ x * 2 + max p q → p < 2 → q < 2 → (a / 2 ≡ x) × (a % 2 ≡ max p q)
digits a x p q e h k = (grind arith, grind arith)

or_digits : (a b : ℕ) → (bit_or a b / 2 ≡ bit_or (a / 2) (b / 2)) × (bit_or a b % 2 ≡ max (a % 2) (b % 2))
or_digits a b = digits (bit_or a b) (bit_or (a / 2) (b / 2)) (a % 2) (b % 2) (or_step a b) (omega arith) (omega arith)

or_assoc : (a b c : ℕ) → bit_or (bit_or a b) c ≡ bit_or a (bit_or b c)
or_assoc = bin_ind (λ (n : ℕ). (b c : ℕ) → bit_or (bit_or n b) c ≡ bit_or n (bit_or b c)) (λ b c. refl) step
  where
    step : (n : ℕ) → ((b c : ℕ) → bit_or (bit_or (n / 2) b) c ≡ bit_or (n / 2) (bit_or b c)) → (b c : ℕ) → bit_or (bit_or n b) c ≡ bit_or n (bit_or b c)
    step n ih b c =
        or_step (bit_or n b) c
        ∙ ap (λ (x : ℕ). bit_or x (c / 2) * 2 + max (bit_or n b % 2) (c % 2)) (or_digits n b).0
        ∙ ap (λ (x : ℕ). x * 2 + max (bit_or n b % 2) (c % 2)) (ih (b / 2) (c / 2))
        ∙ ap (λ (x : ℕ). bit_or (n / 2) (bit_or (b / 2) (c / 2)) * 2 + x) low
        ∙ ap (λ (x : ℕ). bit_or (n / 2) x * 2 + max (n % 2) (bit_or b c % 2)) (sym (or_digits b c).0)
        ∙ sym (or_step n (bit_or b c))
      where
        low : max (bit_or n b % 2) (c % 2) ≡ max (n % 2) (bit_or b c % 2)
        low =
            let p = (or_digits n b).1 in
            let q = (or_digits b c).1 in
            omega arith

-- a set that is joined twice is joined once
or_again : (a b : ℕ) → bit_or (bit_or a b) b ≡ bit_or a b
or_again a b = or_assoc a b b ∙ ap (bit_or a) (or_self b)

-- two sets are joined in any order
or_swap : (a b c : ℕ) → bit_or (bit_or a b) c ≡ bit_or (bit_or a c) b
or_swap a b c = or_assoc a b c ∙ ap (bit_or a) (or_comm b c) ∙ sym (or_assoc a c b)

joined_again : (s i : ℕ) → joined (joined s i) i ≡ joined s i
joined_again s i = go (ltb i 64)
  where
    go : (b : Bool) → cond b (bit_or (cond b (bit_or s (2 ^ i)) s) (2 ^ i)) (cond b (bit_or s (2 ^ i)) s) ≡ cond b (bit_or s (2 ^ i)) s
    go true = or_again s (2 ^ i)
    go false = refl

joined_swap : (s i k : ℕ) → joined (joined s i) k ≡ joined (joined s k) i
joined_swap s i k = go (ltb i 64) (ltb k 64)
  where
    go : (b c : Bool) → cond c (bit_or (cond b (bit_or s (2 ^ i)) s) (2 ^ k)) (cond b (bit_or s (2 ^ i)) s)
        ≡ cond b (bit_or (cond c (bit_or s (2 ^ k)) s) (2 ^ i)) (cond c (bit_or s (2 ^ k)) s)
    go true true = or_swap s (2 ^ i) (2 ^ k)
    go true false = refl
    go false true = refl
    go false false = refl

joined_grows : (s k : ℕ) → k < 64 → Within s (joined s k)
joined_grows s k l i h = has_joined s k i l ∙ or_left (has s i) (eqb k i) h

-- ---- clock answers

pub clock_twice : ClockTwiceIsOnce
clock_twice i c a = go (joined (joined a.senders i) i) (max (max a.clock c) c) (joined_again a.senders i) (omega arith)
  where
    go : (s h : ℕ) → s ≡ joined a.senders i → h ≡ max a.clock c
        → ◌≡◌ {A = Asking} (record { operation = a.operation; object = a.object; value = a.value; senders = s; clock = h }) (hears_clock i c a)
    go s h p q = cc

pub clocks_in_any_order : ClocksInAnyOrder
clocks_in_any_order i c k d a =
    go (joined (joined a.senders k) i) (max (max a.clock d) c) (joined_swap a.senders k i) (omega arith)
  where
    go : (s h : ℕ) → s ≡ joined (joined a.senders i) k → h ≡ max (max a.clock c) d
        → ◌≡◌ {A = Asking} (record { operation = a.operation; object = a.object; value = a.value; senders = s; clock = h }) (hears_clock k d (hears_clock i c a))
    go s h p q = cc

pub clock_stays_known : ClockStaysKnown
clock_stays_known q law i c a l h =
    let f = law.read_family in
    let few = law.few in
    f.upward a.senders (joined a.senders i) h (joined_grows a.senders i (omega arith))
    (joined_within q.count a.senders i l few (f.inside a.senders h))

-- ---- write answers

-- the sets named, where one more set came from input server i
abbrev with_named : List MemberSet → ℕ → MemberSet → List MemberSet
with_named l i s = set l i (record { 0 = bit_or (named_by l i) s.0 })

named_same : (l : List MemberSet) (i : ℕ) (s : MemberSet) → i < length l → named_by (with_named l i s) i ≡ bit_or (named_by l i) s.0
named_same l i s h = ap (λ (x : MemberSet). x.0) (get_or-set_same l i (record { 0 = bit_or (named_by l i) s.0 }) (record { 0 = 0 }) h)

named_other : (l : List MemberSet) (i k : ℕ) (s : MemberSet) → (k ≡ i → ⊥) → named_by (with_named l i s) k ≡ named_by l k
named_other l i k s h = ap (λ (x : MemberSet). x.0) (get_or-set_other l i k (record { 0 = bit_or (named_by l i) s.0 }) (record { 0 = 0 }) h)

named_beyond : (l : List MemberSet) (i : ℕ) (s : MemberSet) → length l ≤ i → with_named l i s ≡ l
named_beyond l i s h = set_beyond l i (record { 0 = bit_or (named_by l i) s.0 }) h

-- a set twice from one server, or two sets from it
named_again : (l : List MemberSet) (i : ℕ) (s t : MemberSet) → i < length l
    → with_named (with_named l i s) i t ≡ set l i (record { 0 = bit_or (bit_or (named_by l i) s.0) t.0 })
named_again l i s t h =
    set-set l i (record { 0 = bit_or (named_by l i) s.0 }) (record { 0 = bit_or (named_by (with_named l i s) i) t.0 })
    ∙ ap (λ (x : ℕ). set l i (record { 0 = bit_or x t.0 })) (named_same l i s h)

named_twice_list : (l : List MemberSet) (i : ℕ) (s : MemberSet) → with_named (with_named l i s) i s ≡ with_named l i s
named_twice_list l i s = elim (cases_lt i (length l)) [
  | inl h ↦ named_again l i s s h ∙ ap (λ (x : ℕ). set l i (record { 0 = x })) (or_again (named_by l i) s.0)
  | inr h ↦ ap (λ (m : List MemberSet). with_named m i s) (named_beyond l i s h)
]

named_swap : (l : List MemberSet) (i k : ℕ) (s t : MemberSet) → with_named (with_named l k t) i s ≡ with_named (with_named l i s) k t
named_swap l i k s t = elim (cases_eq i k) [
  | inl e ↦ subst (λ (n : ℕ). with_named (with_named l n t) i s ≡ with_named (with_named l i s) n t) e (one i)
  | inr e ↦ ap (λ (x : ℕ). set (with_named l k t) i (record { 0 = bit_or x s.0 })) (named_other l k i t e)
      ∙ set_comm l k i (record { 0 = bit_or (named_by l k) t.0 }) (record { 0 = bit_or (named_by l i) s.0 }) (λ f. e (sym f))
      ∙ ap (λ (x : ℕ). set (with_named l i s) k (record { 0 = bit_or x t.0 })) (sym (named_other l i k s (λ f. e (sym f))))
]
  where
    one : (n : ℕ) → with_named (with_named l n t) n s ≡ with_named (with_named l n s) n t
    one n = elim (cases_lt n (length l)) [
      | inl h ↦ named_again l n t s h ∙ ap (λ (x : ℕ). set l n (record { 0 = x })) (or_swap (named_by l n) t.0 s.0) ∙ sym (named_again l n s t h)
      | inr h ↦ ap (λ (m : List MemberSet). with_named m n s) (named_beyond l n t h) ∙ named_beyond l n s h
          ∙ sym (ap (λ (m : List MemberSet). with_named m n t) (named_beyond l n s h) ∙ named_beyond l n t h)
    ]

-- a write that has named those
abbrev with_list : Sending → List MemberSet → Sending
with_list w l = record { operation = w.operation; object = w.object; version = w.version; value = w.value; named = l }

pub named_twice : NamedTwiceIsOnce
named_twice i s w = ap (with_list w) (named_twice_list w.named i s)

pub named_in_any_order : NamedInAnyOrder
named_in_any_order i k s t w = ap (with_list w) (named_swap w.named i k s t)

-- no set loses a member
named_grows : (l : List MemberSet) (i : ℕ) (s : MemberSet) (k : ℕ) → Within (named_by l k) (named_by (with_named l i s) k)
named_grows l i s k j h = elim (cases_eq k i) [
  | inr e ↦ ap (λ (x : ℕ). has x j) (named_other l i k s e) ∙ h
  | inl e ↦ elim (cases_lt i (length l)) [
    | inl b ↦ subst (λ (n : ℕ). has (named_by l n) j ≡ true → has (named_by (with_named l i s) n) j ≡ true) (sym e)
        (λ g. ap (λ (x : ℕ). has x j) (named_same l i s b) ∙ has_or (named_by l i) s.0 j ∙ or_left (has (named_by l i) j) (has s.0 j) g) h
    | inr b ↦ ap (λ (m : List MemberSet). has (named_by m k) j) (named_beyond l i s b) ∙ h
  ]
]

-- a set made by a test that passes more
set_of_grows : (n : ℕ) (f g : ℕ → Bool) → ((i : ℕ) → f i ≡ true → g i ≡ true) → Within (set_of n f) (set_of n g)
set_of_grows n f g h i b = let p = of_set_of n f i b in to_set_of n g i p.0 (h i p.1)

-- who counts goes on counting
counts_on : (q : System) → Lawful q → (l m : List MemberSet) → ((k : ℕ) → Within (named_by l k) (named_by m k))
    → (j : ℕ) → counts q q.count l j ≡ true → counts q q.count m j ≡ true
counts_on q law l m w j h =
    law.write_family.upward (set_of q.count (λ i. has (named_by l i) j)) (set_of q.count (λ i. has (named_by m i) j)) h
    (set_of_grows q.count (λ i. has (named_by l i) j) (λ i. has (named_by m i) j) (λ i. w i j)) (set_of-within q.count (λ i. has (named_by m i) j))

pub written_stays_written : WrittenStaysWritten
written_stays_written q o law-q law-o i s w h =
    let more = with_named w.named i s in
    law-o.write_family.upward (set_of o.count (counts q q.count w.named)) (set_of o.count (counts q q.count more)) h
    (set_of_grows o.count (counts q q.count w.named) (counts q q.count more) (counts_on q law-q w.named more (named_grows w.named i s)))
    (set_of-within o.count (counts q q.count more))

-- ---- read answers

-- the higher of two versions; between equal ones the first
abbrev higher : Version → Version → Version
higher h v = cond (ltb h.0 v.0) v h

-- the value of the higher
abbrev value_of : Version → ℕ → Version → ℕ → ℕ
value_of h z v x = cond (ltb h.0 v.0) x z

higher_again : (h v : Version) → ltb (higher h v).0 v.0 ≡ false
higher_again h v = cond_both (ltb h.0 v.0) v h (λ y. ltb y.0 v.0 ≡ false) (λ _. le-ltb v.0 v.0 (omega arith)) (λ e. e)

pub pair_twice : PairTwiceIsOnce
pair_twice j v x r =
    go (joined (joined r.senders j) j) (ltb (higher r.version v).0 v.0) (joined_again r.senders j) (higher_again r.version v)
  where
    go : (s : ℕ) (b : Bool) → s ≡ joined r.senders j → b ≡ false
        → ◌≡◌ {A = Reading} (record {
          operation = r.operation;
          object = r.object;
          senders = s;
          version = cond b v (higher r.version v);
          value = cond b x (value_of r.version r.value v x);
        }) (hears_pair j v x r)
    go s b p q = ap (λ (t : ℕ). record {
      operation = r.operation;
      object = r.object;
      senders = t;
      version = cond b v (higher r.version v);
      value = cond b x (value_of r.version r.value v x);
    }) p ∙ ap (λ (c : Bool). record {
      operation = r.operation;
      object = r.object;
      senders = joined r.senders j;
      version = cond c v (higher r.version v);
      value = cond c x (value_of r.version r.value v x);
    }) q

-- Of three versions h, u and v, with c, b and a beside them, h came first: what stands beside the highest is the same in
-- whichever order u and v came, if it is the same where they are equal.
best_swap : {A : Type 0} (h u v : Version) (c b a : A) → (u.0 ≡ v.0 → b ≡ a)
    → cond (ltb (higher h u).0 v.0) a (cond (ltb h.0 u.0) b c) ≡ cond (ltb (higher h v).0 u.0) b (cond (ltb h.0 v.0) a c)
best_swap h u v c b a tie = go (ltb h.0 u.0) (ltb h.0 v.0) refl refl
  where
    both : cond (ltb u.0 v.0) a b ≡ cond (ltb v.0 u.0) b a
    both = elim (cases_lt u.0 v.0) [
      | inl l ↦ cond-true (ltb u.0 v.0) a b (lt-ltb u.0 v.0 l) ∙ sym (cond-false (ltb v.0 u.0) b a (le-ltb v.0 u.0 (omega arith)))
      | inr l ↦ cond-false (ltb u.0 v.0) a b (le-ltb u.0 v.0 l)
          ∙ sym (cond_both (ltb v.0 u.0) b a (λ y. y ≡ b) (λ _. refl)
          (λ e. let m : u.0 ≤ v.0 = ltb-false v.0 u.0 e in sym (tie (omega arith))))
    ]

    go : (p q : Bool) → ltb h.0 u.0 ≡ p → ltb h.0 v.0 ≡ q
        → cond (ltb (cond p u h).0 v.0) a (cond p b c) ≡ cond (ltb (cond q v h).0 u.0) b (cond q a c)
    go true true e f = both
    go true false e f =
        let l : h.0 < u.0 = ltb-true h.0 u.0 e in
        let m : v.0 ≤ h.0 = ltb-false h.0 v.0 f in
        cond-false (ltb u.0 v.0) a b (le-ltb u.0 v.0 (omega arith)) ∙ sym (cond-true (ltb h.0 u.0) b c e)
    go false true e f =
        let l : u.0 ≤ h.0 = ltb-false h.0 u.0 e in
        let m : h.0 < v.0 = ltb-true h.0 v.0 f in
        cond-true (ltb h.0 v.0) a c f ∙ sym (cond-false (ltb v.0 u.0) b a (le-ltb v.0 u.0 (omega arith)))
    go false false e f = cond-false (ltb h.0 v.0) a c f ∙ sym (cond-false (ltb h.0 u.0) b c e)

version_swap : (h u v : Version) → higher (higher h u) v ≡ higher (higher h v) u
version_swap h u v = best_swap h u v h u v (λ e. ap (λ (n : ℕ). record { 0 = n }) e)

pub pairs_in_any_order : PairsInAnyOrder
pairs_in_any_order j k v u x y r = record {
  operation = refl;
  object = refl;
  senders = joined_swap r.senders k j;
  version = version_swap r.version u v;
}

pub unequal_pairs_in_any_order : UnequalPairsInAnyOrder
unequal_pairs_in_any_order j k v u x y r ne =
    go (joined (joined r.senders k) j) (higher (higher r.version u) v) (hears_pair j v x (hears_pair k u y r)).value
    (joined_swap r.senders k j) (version_swap r.version u v)
    (best_swap r.version u v r.value y x (λ e. absurd (ne (sym e))))
  where
    go : (s : ℕ) (w : Version) (z : ℕ) → s ≡ (hears_pair k u y (hears_pair j v x r)).senders → w ≡ (hears_pair k u y (hears_pair j v x r)).version
        → z ≡ (hears_pair k u y (hears_pair j v x r)).value
        → ◌≡◌ {A = Reading} (record { operation = r.operation; object = r.object; senders = s; version = w; value = z }) (hears_pair k u y (hears_pair j v x r))
    go s w z a b c = cc

pub read_stays_read : ReadStaysRead
read_stays_read o law j v x r l h =
    let f = law.read_family in
    let few = law.few in
    f.upward r.senders (joined r.senders j) h (joined_grows r.senders j (omega arith))
    (joined_within o.count r.senders j l few (f.inside r.senders h))

-- ---- the version

pub version_is_next : VersionIsNext
version_is_next a h = omega arith

-- what was heard before is not lost
clocks_rise : (xs : List ClockSaid) (a : Asking) → a.clock ≤ (hears_clocks xs a).clock
clocks_rise [] a = omega arith
clocks_rise (x ∷ xs) a = let r = clocks_rise xs (hears_clock x.input x.clock a) in omega arith

same_operation : (xs : List ClockSaid) (a : Asking) → (hears_clocks xs a).operation ≡ a.operation
same_operation [] a = refl
same_operation (x ∷ xs) a = same_operation xs (hears_clock x.input x.clock a)

-- each clock heard is at most the highest
clocks_below : (xs : List ClockSaid) (a : Asking) (x : ClockSaid) (k : ℕ) → k < length xs → get_or xs k x ≡ x → x.clock ≤ (hears_clocks xs a).clock
clocks_below [] a x k l e = absurd (omega arith)
clocks_below (y ∷ ys) a x zero l e =
    let r = clocks_rise ys (hears_clock y.input y.clock a) in
    let f : y.clock ≡ x.clock = ap (λ (z : ClockSaid). z.clock) e in
    omega arith
clocks_below (y ∷ ys) a x (suc k) l e = clocks_below ys (hears_clock y.input y.clock a) x k (omega arith) e

pub version_above_clocks : VersionAboveClocks
version_above_clocks xs a x h m =
    let b = clocks_below xs a x m.0 m.1 m.2 in
    let e = same_operation xs a in
    let n = version_is_next (hears_clocks xs a) (omega arith) in
    omega arith

pub version_above_versions : VersionAboveVersions
version_above_versions xs a x v h m l =
    let b = clocks_below xs a x m.0 m.1 m.2 in
    omega arith
