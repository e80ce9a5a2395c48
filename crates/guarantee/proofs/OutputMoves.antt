-- What a message does at an output server, seen from each of its channels.
use Rattle.std.proofs.Common.{◌≡◌, ℕ, zero, suc, ◌-◌, ◌<◌, ◌≤◌, max, true, false, cond, not, ◌&&◌, eqb, ltb, leb, ◌⊎◌, List, [], ◌∷◌, ◌++◌, length, get_or, set, sym, refl, ap, ◌∙◌, subst, inl, inr, arith, length-set, get_or-set_other, get_or-set_same}
use Rattle.std.proofs.lemmas.Bool.Decides.{nat_tests}
use Rattle.std.proofs.lemmas.Bool.{and_parts, cases_eq, cond_both, leb-true, ltb-true, ltb-false, not-true}
use Rattle.quorum.specs.Systems.{System}
use Rattle.numbers.specs.declared.epoch.Epoch.{Epoch}
use Rattle.rules.specs.declared.kept.Copied.{Copied}
use Rattle.rules.specs.declared.kept.Link.{Link}
use Rattle.rules.specs.declared.kept.Newest.{Newest}
use Rattle.rules.specs.declared.message.Message.{Message}
use Rattle.rules.specs.declared.message.Message.TheVariants.{ReadAnswer, RenewalRequest, RenewalAnswer, InvalidationAnswer}
use Rattle.rules.specs.declared.renewal.Renewed.{Renewed}
use Rattle.rules.specs.declared.pairs.Pair.{Pair}
use Rattle.rules.specs.declared.pairs.Pairs.{Pairs}
use Rattle.numbers.specs.declared.time.Time.{Time}
use Rattle.numbers.specs.declared.version.Version.{Version}
use Rattle.rules.specs.Input.{Input}
use Rattle.rules.specs.Lists.{list_of}
use Rattle.numbers.specs.Numbers.{raised, later, longer, lease_end}
use Rattle.rules.specs.Output.{Output, no_newest, no_copy, no_link, newest_of, link, copy_of, sound, leased, good, covers, valid}
use Rattle.rules.specs.Output.{asked as wanted, asks_all, answers_read, with_copy, hears, hears_all, accepts, takes_copy, takes_lease}
use Rattle.rules.specs.Output.{after_answer, acknowledgement, after_invalidation, answers_invalidation}
use Rattle.rules.specs.Renewals.{asks_object, asks_volume}
use Rattle.guarantee.proofs.Channel.{Has, Channel, Part, asked, copy, lease, answer, Grant, Moves, Fresh, Good}
use Rattle.guarantee.proofs.Words.{set_from, Any, In, any_old, any_split, in_any, All, each_all, each_any, each_length}
use Rattle.guarantee.proofs.ChannelOf.{IsAsked, IsAnswer, Says, channel_of, Quiet, OutputShape}

-- ---- the higher of two versions, epochs or times

raised_up : (v to : Version) → v.0 ≤ (raised v to).0
raised_up v to = cond_both (ltb v.0 to.0) to v (λ (x : Version). v.0 ≤ x.0)
    (λ e. omega (arith, ltb-true v.0 to.0 e)) (λ _. omega arith)

raised_to : (v to : Version) → to.0 ≤ (raised v to).0
raised_to v to = cond_both (ltb v.0 to.0) to v (λ (x : Version). to.0 ≤ x.0) (λ _. omega arith) (λ e. ltb-false v.0 to.0 e)

later_up : (e to : Epoch) → e.0 ≤ (later e to).0
later_up e to = cond_both (ltb e.0 to.0) to e (λ (x : Epoch). e.0 ≤ x.0)
    (λ h. omega (arith, ltb-true e.0 to.0 h)) (λ _. omega arith)

later_to : (e to : Epoch) → to.0 ≤ (later e to).0
later_to e to = cond_both (ltb e.0 to.0) to e (λ (x : Epoch). to.0 ≤ x.0) (λ _. omega arith) (λ h. ltb-false e.0 to.0 h)

later_from : (e to : Epoch) → (later e to ≡ e) ⊎ (later e to ≡ to)
later_from e to = cond_both (ltb e.0 to.0) to e (λ (x : Epoch). (x ≡ e) ⊎ (x ≡ to)) (λ _. inr refl) (λ _. inl refl)

longer_up : (t to : Time) → t.0 ≤ (longer t to).0
longer_up t to = cond_both (ltb t.0 to.0) to t (λ (x : Time). t.0 ≤ x.0)
    (λ h. omega (arith, ltb-true t.0 to.0 h)) (λ _. omega arith)

longer_from : (t to : Time) → (longer t to ≡ t) ⊎ (longer t to ≡ to)
longer_from t to = cond_both (ltb t.0 to.0) to t (λ (x : Time). (x ≡ t) ⊎ (x ≡ to)) (λ _. inr refl) (λ _. inl refl)

-- ---- a link that hears of a version

abbrev heard : Pair → Link → Copied
heard x l = record {
  got = (copy_of l x.object).got;
  known = raised (copy_of l x.object).known x.version;
  epoch = (copy_of l x.object).epoch;
}

hears_from : (x : Pair) (l : Link) (p : ℕ) → (copy_of (hears x l) p ≡ copy_of l p) ⊎ ((x.object ≡ p) × (copy_of (hears x l) p ≡ heard x l))
hears_from x l p = set_from l.copies x.object p (heard x l) no_copy

pub hears_got : (x : Pair) (l : Link) (p : ℕ) → (copy_of (hears x l) p).got ≡ (copy_of l p).got
hears_got x l p = elim (hears_from x l p) [
  | inl e ↦ ap (λ (c : Copied). c.got) e
  | inr h ↦ ap (λ (c : Copied). c.got) h.1 ∙ ap (λ (k : ℕ). (copy_of l k).got) h.0
]

hears_epoch : (x : Pair) (l : Link) (p : ℕ) → (copy_of (hears x l) p).epoch ≡ (copy_of l p).epoch
hears_epoch x l p = elim (hears_from x l p) [
  | inl e ↦ ap (λ (c : Copied). c.epoch) e
  | inr h ↦ ap (λ (c : Copied). c.epoch) h.1 ∙ ap (λ (k : ℕ). (copy_of l k).epoch) h.0
]

hears_up : (x : Pair) (l : Link) (p : ℕ) → (copy_of l p).known.0 ≤ (copy_of (hears x l) p).known.0
hears_up x l p = elim (hears_from x l p) [
  | inl e ↦ subst (λ (c : Copied). (copy_of l p).known.0 ≤ c.known.0) (sym e) (omega arith)
  | inr h ↦ subst (λ (c : Copied). (copy_of l p).known.0 ≤ c.known.0) (sym h.1)
      (subst (λ (k : ℕ). (copy_of l k).known.0 ≤ (heard x l).known.0) h.0 (raised_up (copy_of l x.object).known x.version))
]

hears_told : (x : Pair) (l : Link) → x.object < length l.copies → x.version.0 ≤ (copy_of (hears x l) x.object).known.0
hears_told x l b = subst (λ (c : Copied). x.version.0 ≤ c.known.0) (sym (get_or-set_same l.copies x.object (heard x l) no_copy b))
    (raised_to (copy_of l x.object).known x.version)

-- ---- a link that hears a whole list

hears_all_copies : (ps : List Pair) (l : Link) → length (hears_all ps l).copies ≡ length l.copies
unfolding hears_all
hears_all_copies [] l = refl
hears_all_copies (x ∷ r) l = hears_all_copies r (hears x l) ∙ length-set l.copies x.object (heard x l)

hears_all_lease : (ps : List Pair) (l : Link) → ((hears_all ps l).epoch ≡ l.epoch) × ((hears_all ps l).lease_end ≡ l.lease_end)
unfolding hears_all
hears_all_lease [] l = (refl, refl)
hears_all_lease (x ∷ r) l = hears_all_lease r (hears x l)

pub hears_all_got : (ps : List Pair) (l : Link) (p : ℕ) → (copy_of (hears_all ps l) p).got ≡ (copy_of l p).got
unfolding hears_all
hears_all_got [] l p = refl
hears_all_got (x ∷ r) l p = hears_all_got r (hears x l) p ∙ hears_got x l p

hears_all_epoch : (ps : List Pair) (l : Link) (p : ℕ) → (copy_of (hears_all ps l) p).epoch ≡ (copy_of l p).epoch
unfolding hears_all
hears_all_epoch [] l p = refl
hears_all_epoch (x ∷ r) l p = hears_all_epoch r (hears x l) p ∙ hears_epoch x l p

hears_all_up : (ps : List Pair) (l : Link) (p : ℕ) → (copy_of l p).known.0 ≤ (copy_of (hears_all ps l) p).known.0
unfolding hears_all
hears_all_up [] l p = omega arith
hears_all_up (x ∷ r) l p = omega (arith, hears_all_up r (hears x l) p, hears_up x l p)

hears_all_told : (ps : List Pair) (l : Link) → All (λ (p : Pair). p.object < length l.copies) ps → (o v : ℕ) → Has o v ps
    → v ≤ (copy_of (hears_all ps l) o).known.0
unfolding hears_all
hears_all_told [] l b o v h = absurd h
hears_all_told (x ∷ r) l b o v (inl h) =
    let d : v ≤ (copy_of (hears_all r (hears x l)) x.object).known.0 =
    omega (arith, hears_all_up r (hears x l) x.object, hears_told x l b.0) in
    subst (λ (k : ℕ). v ≤ (copy_of (hears_all r (hears x l)) k).known.0) h.0 d
hears_all_told (x ∷ r) l b o v (inr h) =
    hears_all_told r (hears x l)
    (subst (λ (n : ℕ). All (λ (p : Pair). p.object < n) r) (sym (length-set l.copies x.object (heard x l))) b.1) o v h

-- ---- a link that takes a copy

abbrev taken : Renewed → Link → Copied
taken y l = record { got = y.version; known = y.version; epoch = later (copy_of l y.renewal.object).epoch y.epoch }

-- each copy is as it was, or is the one that was accepted
pub takes_from : (y : Renewed) (l : Link) (p : ℕ) → (copy_of (takes_copy y l) p ≡ copy_of l p)
    ⊎ ((y.renewal.object ≡ p) × (asks_object y.renewal.parts ≡ true) × ((copy_of l y.renewal.object).known.0 ≤ y.version.0) × (copy_of (takes_copy y l) p ≡ taken y l))
takes_from y l p = cond_both (accepts y l) (with_copy y.renewal.object (taken y l) l) l
    (λ (k : Link). (copy_of k p ≡ copy_of l p)
    ⊎ ((y.renewal.object ≡ p) × (asks_object y.renewal.parts ≡ true) × ((copy_of l y.renewal.object).known.0 ≤ y.version.0) × (copy_of k p ≡ taken y l)))
    (λ t. let b = and_parts (asks_object y.renewal.parts) (leb (copy_of l y.renewal.object).known.0 y.version.0) t in elim (set_from l.copies y.renewal.object p (taken y l) no_copy) [
      | inl h ↦ inl h
      | inr h ↦ inr (h.0, b.0, leb-true (copy_of l y.renewal.object).known.0 y.version.0 b.1, h.1)
    ])
    (λ _. inl refl)

takes_copies : (y : Renewed) (l : Link) → length (takes_copy y l).copies ≡ length l.copies
takes_copies y l = cond_both (accepts y l) (with_copy y.renewal.object (taken y l) l) l (λ (k : Link). length k.copies ≡ length l.copies)
    (λ _. length-set l.copies y.renewal.object (taken y l)) (λ _. refl)

takes_lease_lem : (y : Renewed) (l : Link)
    → ((takes_copy y l).epoch ≡ l.epoch) × ((takes_copy y l).lease_end ≡ l.lease_end)
takes_lease_lem y l = cond_both (accepts y l) (with_copy y.renewal.object (taken y l) l) l
    (λ (k : Link). (k.epoch ≡ l.epoch) × (k.lease_end ≡ l.lease_end)) (λ _. (refl, refl)) (λ _. (refl, refl))

takes_up : (y : Renewed) (l : Link) (p : ℕ) → (copy_of l p).known.0 ≤ (copy_of (takes_copy y l) p).known.0
takes_up y l p = elim (takes_from y l p) [
  | inl h ↦ subst (λ (c : Copied). (copy_of l p).known.0 ≤ c.known.0) (sym h) (omega arith)
  | inr h ↦ subst (λ (c : Copied). (copy_of l p).known.0 ≤ c.known.0) (sym h.3)
      (subst (λ (k : ℕ). (copy_of l k).known.0 ≤ y.version.0) h.0 h.2)
]

-- ---- a link that takes a lease

module _ (drift : ℕ) (y : Renewed) (l : Link) where
  abbrev leasing : Link
  leasing = record {
    copies = l.copies;
    epoch = later l.epoch y.epoch;
    lease_end = cond (ltb 0 y.length) (longer l.lease_end (lease_end y.renewal.stamp.0 y.length drift)) l.lease_end;
  }

  leases_copies : (takes_lease drift y l).copies ≡ l.copies
  leases_copies = cond_both (asks_volume y.renewal.parts) leasing l (λ (k : Link). k.copies ≡ l.copies) (λ _. refl) (λ _. refl)

  leases_up : l.epoch.0 ≤ (takes_lease drift y l).epoch.0
  leases_up = cond_both (asks_volume y.renewal.parts) leasing l (λ (k : Link). l.epoch.0 ≤ k.epoch.0) (λ _. later_up l.epoch y.epoch) (λ _. omega arith)

  leases_until : l.lease_end.0 ≤ (takes_lease drift y l).lease_end.0
  leases_until = cond_both (asks_volume y.renewal.parts) leasing l (λ (k : Link). l.lease_end.0 ≤ k.lease_end.0)
      (λ _. cond_both (ltb 0 y.length) (longer l.lease_end (lease_end y.renewal.stamp.0 y.length drift)) l.lease_end (λ (t : Time). l.lease_end.0 ≤ t.0)
      (λ _. longer_up l.lease_end (lease_end y.renewal.stamp.0 y.length drift)) (λ _. omega arith))
      (λ _. omega arith)

  -- the lease ends where it did, or where the one taken ends
  leases_from : ((takes_lease drift y l).lease_end ≡ l.lease_end)
      ⊎ ((asks_volume y.renewal.parts ≡ true) × (1 ≤ y.length) × ((takes_lease drift y l).lease_end ≡ lease_end y.renewal.stamp.0 y.length drift)
      × (y.epoch.0 ≤ (takes_lease drift y l).epoch.0))
  leases_from = cond_both (asks_volume y.renewal.parts) leasing l
      (λ (k : Link). (k.lease_end ≡ l.lease_end)
      ⊎ ((asks_volume y.renewal.parts ≡ true) × (1 ≤ y.length) × (k.lease_end ≡ lease_end y.renewal.stamp.0 y.length drift) × (y.epoch.0 ≤ k.epoch.0)))
      (λ t. cond_both (ltb 0 y.length) (longer l.lease_end (lease_end y.renewal.stamp.0 y.length drift)) l.lease_end
      (λ (u : Time). (u ≡ l.lease_end)
      ⊎ ((asks_volume y.renewal.parts ≡ true) × (1 ≤ y.length) × (u ≡ lease_end y.renewal.stamp.0 y.length drift) × (y.epoch.0 ≤ (later l.epoch y.epoch).0)))
      (λ s. elim (longer_from l.lease_end (lease_end y.renewal.stamp.0 y.length drift)) [
        | inl h ↦ inl h
        | inr h ↦ inr (t, omega (arith, ltb-true 0 y.length s), h, later_to l.epoch y.epoch)
      ])
      (λ _. inl refl))
      (λ _. inl refl)

-- ---- a link after a renewal answer

abbrev pub answered : ℕ → Renewed → Link → Link
answered drift y l = takes_lease drift y (takes_copy y (hears_all (list_of y.list) l))

module _ (drift : ℕ) (y : Renewed) (l : Link) where
  pub answered_copy : (p : ℕ) → copy_of (answered drift y l) p ≡ copy_of (takes_copy y (hears_all (list_of y.list) l)) p
  answered_copy p = ap (λ (cs : List Copied). get_or cs p no_copy) (leases_copies drift y (takes_copy y (hears_all (list_of y.list) l)))

  pub answered_copies : length (answered drift y l).copies ≡ length l.copies
  answered_copies = ap (λ (cs : List Copied). length cs) (leases_copies drift y (takes_copy y (hears_all (list_of y.list) l)))
      ∙ takes_copies y (hears_all (list_of y.list) l) ∙ hears_all_copies (list_of y.list) l

  -- what is known never falls
  pub answered_up : (p : ℕ) → (copy_of l p).known.0 ≤ (copy_of (answered drift y l) p).known.0
  answered_up p = subst (λ (c : Copied). (copy_of l p).known.0 ≤ c.known.0) (sym (answered_copy p))
      (omega (arith, hears_all_up (list_of y.list) l p, takes_up y (hears_all (list_of y.list) l) p))

  -- every pair of the list is known
  pub answered_told : All (λ (p : Pair). p.object < length l.copies) (list_of y.list) → (q u : ℕ) → Has q u (list_of y.list)
      → u ≤ (copy_of (answered drift y l) q).known.0
  answered_told b q u h = subst (λ (c : Copied). u ≤ c.known.0) (sym (answered_copy q))
      (omega (arith, hears_all_told (list_of y.list) l b q u h, takes_up y (hears_all (list_of y.list) l) q))

  -- what was got is as it was, or is what the answer gave
  pub answered_got : (p : ℕ) → ((copy_of (answered drift y l) p).got ≡ (copy_of l p).got)
      ⊎ ((y.renewal.object ≡ p) × (asks_object y.renewal.parts ≡ true) × ((copy_of (answered drift y l) p).got ≡ y.version)
      × ((copy_of (answered drift y l) p).known ≡ y.version))
  answered_got p = subst
      (λ (c : Copied). (c.got ≡ (copy_of l p).got) ⊎ ((y.renewal.object ≡ p) × (asks_object y.renewal.parts ≡ true) × (c.got ≡ y.version) × (c.known ≡ y.version)))
      (sym (answered_copy p))
      (elim (takes_from y (hears_all (list_of y.list) l) p) [
        | inl h ↦ inl (ap (λ (c : Copied). c.got) h ∙ hears_all_got (list_of y.list) l p)
        | inr h ↦ inr (h.0, h.1, ap (λ (c : Copied). c.got) h.3, ap (λ (c : Copied). c.known) h.3)
      ])

  -- and so is the epoch of the copy
  pub answered_epoch : (p : ℕ) → ((copy_of (answered drift y l) p).epoch ≡ (copy_of l p).epoch)
      ⊎ ((y.renewal.object ≡ p) × (asks_object y.renewal.parts ≡ true) × ((copy_of (answered drift y l) p).epoch ≡ y.epoch)
      × ((copy_of (answered drift y l) p).known ≡ y.version))
  answered_epoch p = subst
      (λ (c : Copied). (c.epoch ≡ (copy_of l p).epoch) ⊎ ((y.renewal.object ≡ p) × (asks_object y.renewal.parts ≡ true) × (c.epoch ≡ y.epoch) × (c.known ≡ y.version)))
      (sym (answered_copy p))
      (elim (takes_from y (hears_all (list_of y.list) l) p) [
        | inl h ↦ inl (ap (λ (c : Copied). c.epoch) h ∙ hears_all_epoch (list_of y.list) l p)
        | inr h ↦ elim (later_from (copy_of (hears_all (list_of y.list) l) y.renewal.object).epoch y.epoch) [
          | inl k ↦ inl (ap (λ (c : Copied). c.epoch) h.3 ∙ k ∙ hears_all_epoch (list_of y.list) l y.renewal.object ∙ ap (λ (q : ℕ). (copy_of l q).epoch) h.0)
          | inr k ↦ inr (h.0, h.1, ap (λ (c : Copied). c.epoch) h.3 ∙ k, ap (λ (c : Copied). c.known) h.3)
        ]
      ])

  -- the lease's epoch and end never fall
  pub answered_epoch_up : l.epoch.0 ≤ (answered drift y l).epoch.0
  answered_epoch_up =
      let a = ap (λ (x : Epoch). x.0) (hears_all_lease (list_of y.list) l).0 in
      let b = ap (λ (x : Epoch). x.0) (takes_lease_lem y (hears_all (list_of y.list) l)).0 in
      omega (arith, leases_up drift y (takes_copy y (hears_all (list_of y.list) l)))

  pub answered_until_up : l.lease_end.0 ≤ (answered drift y l).lease_end.0
  answered_until_up =
      let a = ap (λ (x : Time). x.0) (hears_all_lease (list_of y.list) l).1 in
      let b = ap (λ (x : Time). x.0) (takes_lease_lem y (hears_all (list_of y.list) l)).1 in
      omega (arith, leases_until drift y (takes_copy y (hears_all (list_of y.list) l)))

  -- the lease ends where it did, or where the one that the answer gave ends
  pub answered_until : ((answered drift y l).lease_end ≡ l.lease_end)
      ⊎ ((asks_volume y.renewal.parts ≡ true) × (1 ≤ y.length) × ((answered drift y l).lease_end ≡ lease_end y.renewal.stamp.0 y.length drift)
      × (y.epoch.0 ≤ (answered drift y l).epoch.0))
  answered_until = elim (leases_from drift y (takes_copy y (hears_all (list_of y.list) l))) [
    | inl h ↦ inl (h ∙ (takes_lease_lem y (hears_all (list_of y.list) l)).1 ∙ (hears_all_lease (list_of y.list) l).1)
    | inr h ↦ inr h
  ]

-- ---- which parts an acknowledgement says

pub ack_says : (i j a b : ℕ) (l : Pairs) (p : Part) → Any (Says i j p) (acknowledgement b a l) → (a ≡ i) × (b ≡ j) × IsAnswer (list_of l) p
ack_says i j a b l p = cond_both (eqb l.count 0) [] (InvalidationAnswer b a l ∷ [])
    (λ (new : List Message). Any (Says i j p) new → (a ≡ i) × (b ≡ j) × IsAnswer (list_of l) p)
    (λ _ h. absurd h) (λ _ h. elim h [ inl x ↦ x | inr x ↦ absurd x ])

-- an acknowledgement of another output server, or to another input server, says nothing
pub quiet_ack : (i j a b : ℕ) (l : Pairs) → (b ≡ j → ⊥) → Quiet i j (acknowledgement b a l)
quiet_ack i j a b l n p h = n (ack_says i j a b l p h).1

pub quiet_ack_to : (i j a b : ℕ) (l : Pairs) → (a ≡ i → ⊥) → Quiet i j (acknowledgement b a l)
quiet_ack_to i j a b l n p h = n (ack_says i j a b l p h).0

pub ack_all : (P : Message → Type 0) (j i : ℕ) (l : Pairs) → P (InvalidationAnswer j i l) → All P (acknowledgement j i l)
ack_all P j i l h = cond_both (eqb l.count 0) [] (InvalidationAnswer j i l ∷ []) (λ (new : List Message). All P new)
    (λ _. tt) (λ _. (h, tt))

pub ack_length : (j i : ℕ) (l : Pairs) → length (acknowledgement j i l) ≤ 1
ack_length j i l = cond_both (eqb l.count 0) [] (InvalidationAnswer j i l ∷ []) (λ (new : List Message). length new ≤ 1)
    (λ _. omega arith) (λ _. omega arith)

-- ---- what is to show of a step at the output server

-- how a link may change, for the channel that it belongs to
pub record Tells (R : ℕ) (V : Channel) (l k : Link) : Type 0 where
  pub known_up : (o : ℕ) → (copy_of l o).known.0 ≤ (copy_of k o).known.0
  pub epoch_up : l.epoch.0 ≤ k.epoch.0
  pub got_from : (o : ℕ) → ((copy_of k o).got.0 ≡ (copy_of l o).got.0)
      ⊎ ((e : ℕ) × V.Sent (copy o (copy_of k o).got.0 e) × ((copy_of k o).got.0 ≤ (copy_of k o).known.0))
  pub copy_from : (o : ℕ) → ((copy_of k o).epoch.0 ≡ (copy_of l o).epoch.0)
      ⊎ ((v : ℕ) × V.Sent (copy o v (copy_of k o).epoch.0) × (v ≤ (copy_of k o).known.0))
  pub until_from : (k.lease_end.0 ≡ l.lease_end.0) ⊎ Grant R V k.lease_end.0 k.epoch.0 (λ o. (copy_of k o).known.0)

module _ (L R : ℕ) where
  pub out_moves : (I : Input) (O Q : Output) (i j : ℕ) (log new : List Message)
      → ((o : ℕ) → (copy_of (link O i) o).known.0 ≤ (copy_of (link Q i) o).known.0)
      → (link O i).epoch.0 ≤ (link Q i).epoch.0
      → Q.clock ≡ O.clock
      → ((o : ℕ) → ((copy_of (link Q i) o).got.0 ≡ (copy_of (link O i) o).got.0)
      ⊎ ((e : ℕ) × Any (Says i j (copy o (copy_of (link Q i) o).got.0 e)) log
      × ((copy_of (link Q i) o).got.0 ≤ (copy_of (link Q i) o).known.0)))
      → ((o : ℕ) → ((copy_of (link Q i) o).epoch.0 ≡ (copy_of (link O i) o).epoch.0)
      ⊎ ((v : ℕ) × Any (Says i j (copy o v (copy_of (link Q i) o).epoch.0)) log × (v ≤ (copy_of (link Q i) o).known.0)))
      → ((link Q i).lease_end.0 ≡ (link O i).lease_end.0)
      ⊎ Grant R (channel_of I O i j log) (link Q i).lease_end.0 (link Q i).epoch.0 (λ o. (copy_of (link Q i) o).known.0)
      → ((p : Part) → Any (Says i j p) new → Fresh L (channel_of I O i j log) (channel_of I Q i j (log ++ new)) p)
      → Moves L R (channel_of I O i j log) (channel_of I Q i j (log ++ new))
  out_moves I O Q i j log new kn le cl go co un fr =
      let t : Q.clock.0 ≡ O.clock.0 = ap (λ (x : Time). x.0) cl in
      record {
        held_up = λ o. omega arith;
        known_up = kn;
        epoch_up = omega arith;
        lease_epoch_up = le;
        clock_up = omega arith;
        drifts = omega arith;
        given_set = λ o. inl refl;
        acknowledged_from = λ o. inl refl;
        got_from = go;
        copy_from = co;
        lease_end_from = un;
        granted_set = inl refl;
        chain_kept = λ o v h. inl (v, h, inl (omega arith));
        kept = λ p. any_old (Says i j p) log new;
        fresh = λ p h. elim (any_split (Says i j p) log new h) [ inl a ↦ inl a | inr a ↦ inr (fr p a) ];
      }

  -- the same of a link that became k, where all that is newly said are answers of what is known
  pub link_moves : (I : Input) (O Q : Output) (i j : ℕ) (log new : List Message) (k : Link) (ps : List Pair)
      → link Q i ≡ k → Q.clock ≡ O.clock → Tells R (channel_of I O i j log) (link O i) k
      → ((p : Part) → Any (Says i j p) new → IsAnswer ps p)
      → ((o v : ℕ) → Has o v ps → v ≤ (copy_of k o).known.0)
      → Moves L R (channel_of I O i j log) (channel_of I Q i j (log ++ new))
  link_moves I O Q i j log new k ps e cl t says told = out_moves I O Q i j log new
      s.known_up s.epoch_up cl s.got_from s.copy_from s.until_from (λ p h. fresh p (says p h))
    where
      s : Tells R (channel_of I O i j log) (link O i) (link Q i)
      s = subst (λ (x : Link). Tells R (channel_of I O i j log) (link O i) x) (sym e) t

      fresh : (p : Part) → IsAnswer ps p → Fresh L (channel_of I O i j log) (channel_of I Q i j (log ++ new)) p
      fresh (asked t) h = absurd h
      fresh (copy o v d) h = absurd h
      fresh (lease t m d qs) h = absurd h
      fresh (answer o v) h = subst (λ (x : Link). v ≤ (copy_of x o).known.0) (sym e) (told o v h)

  -- a step at the output server that leaves the link as it was, and says nothing
  pub out_still : (I : Input) (O Q : Output) (i j : ℕ) (log new : List Message) → link Q i ≡ link O i → Q.clock ≡ O.clock → Quiet i j new
      → Moves L R (channel_of I O i j log) (channel_of I Q i j (log ++ new))
  out_still I O Q i j log new e cl q = link_moves I O Q i j log new (link O i) [] e cl
      (record {
        known_up = λ o. omega arith;
        epoch_up = omega arith;
        got_from = λ o. inl refl;
        copy_from = λ o. inl refl;
        until_from = inl refl;
      })
      (λ p h. absurd (q p h)) (λ o v h. absurd h)

-- ---- a good input server, and what the newest version covers

pub good_good : (I : Input) (O : Output) (i j : ℕ) (log : List Message) (o : ℕ) → good O o i ≡ true → Good (channel_of I O i j log) o
good_good I O i j log o h = record {
  copied = some c.got.0 (not-true (eqb c.got.0 0) b.0);
  sound = leb-true c.known.0 c.got.0 d.0;
  fresh = leb-true (link O i).epoch.0 c.epoch.0 d.1;
  live = ltb-true O.clock.0 (link O i).lease_end.0 a.1;
}
  where
    c : Copied
    c = copy_of (link O i) o

    a : (sound O o i ≡ true) × (leased O i ≡ true)
    a = and_parts (sound O o i) (leased O i) h

    b : (not (eqb c.got.0 0) ≡ true) × ((leb c.known.0 c.got.0 && leb (link O i).epoch.0 c.epoch.0) ≡ true)
    b = and_parts (not (eqb c.got.0 0)) (leb c.known.0 c.got.0 && leb (link O i).epoch.0 c.epoch.0) a.0

    d : (leb c.known.0 c.got.0 ≡ true) × (leb (link O i).epoch.0 c.epoch.0 ≡ true)
    d = and_parts (leb c.known.0 c.got.0) (leb (link O i).epoch.0 c.epoch.0) b.1

    some : (n : ℕ) → eqb n 0 ≡ false → 1 ≤ n
    some n e = grind (arith, nat_tests)

pub covered : (O : Output) (o n i : ℕ) → covers O o n ≡ true → i < n → (copy_of (link O i) o).known.0 ≤ (newest_of O o).version.0
covered O o zero i h l = absurd (omega arith)
covered O o (suc n) i h l =
    let b = and_parts (covers O o n) (leb (copy_of (link O n) o).known.0 (newest_of O o).version.0) h in
    elim (cases_eq i n) [
      | inl e ↦ subst (λ (k : ℕ). (copy_of (link O k) o).known.0 ≤ (newest_of O o).version.0) (sym e)
          (leb-true (copy_of (link O n) o).known.0 (newest_of O o).version.0 b.1)
      | inr e ↦ covered O o n i b.0 (omega arith)
    ]

-- ---- one link changed

-- what holds of a link that stays and of the one that changed holds of every link
changed : (P : Link → Link → Type 0) (ls : List Link) (a i : ℕ) (k : Link) → ((l : Link) → P l l) → P (get_or ls a no_link) k
    → P (get_or ls i no_link) (get_or (set ls a k) i no_link)
changed P ls a i k same new = elim (set_from ls a i k no_link) [
  | inl e ↦ subst (λ (m : Link). P (get_or ls i no_link) m) (sym e) (same (get_or ls i no_link))
  | inr h ↦ subst (λ (m : Link). P (get_or ls i no_link) m) (sym h.1) (subst (λ (c : ℕ). P (get_or ls c no_link) k) h.0 new)
]

-- ---- a renewal answer from input server a

module _ (drift a : ℕ) (y : Renewed) (O : Output) where
  pub clock_renewed : (after_answer drift a y O).clock ≡ O.clock
  unfolding after_answer
  clock_renewed = refl

  -- the link of another input server is as it was
  pub link_other_renewed : (i : ℕ) → (a ≡ i → ⊥) → link (after_answer drift a y O) i ≡ link O i
  unfolding after_answer
  link_other_renewed i n = get_or-set_other O.links a i (answered drift y (link O a)) no_link (λ h. n (sym h))

  pub link_own_renewed : a < length O.links
      → link (after_answer drift a y O) a ≡ answered drift y (link O a)
  unfolding after_answer
  link_own_renewed h = get_or-set_same O.links a (answered drift y (link O a)) no_link h

  -- what is known, and a lease's epoch and end, never fall
  pub known_up_renewed : (i p : ℕ) → (copy_of (link O i) p).known.0 ≤ (copy_of (link (after_answer drift a y O) i) p).known.0
  unfolding after_answer
  known_up_renewed i p = changed (λ l m. (copy_of l p).known.0 ≤ (copy_of m p).known.0) O.links a i (answered drift y (link O a))
      (λ l. omega arith) (answered_up drift y (link O a) p)

  pub lease_epoch_up_renewed : (i : ℕ) → (link O i).epoch.0 ≤ (link (after_answer drift a y O) i).epoch.0
  unfolding after_answer
  lease_epoch_up_renewed i = changed (λ l m. l.epoch.0 ≤ m.epoch.0) O.links a i (answered drift y (link O a))
      (λ l. omega arith) (answered_epoch_up drift y (link O a))

  pub lease_end_up_renewed : (i : ℕ) → (link O i).lease_end.0 ≤ (link (after_answer drift a y O) i).lease_end.0
  unfolding after_answer
  lease_end_up_renewed i = changed (λ l m. l.lease_end.0 ≤ m.lease_end.0) O.links a i (answered drift y (link O a))
      (λ l. omega arith) (answered_until_up drift y (link O a))

  -- a lease ends where it did, or where the one that the answer gave ends
  pub lease_end_bound_renewed : (i : ℕ) → (link (after_answer drift a y O) i).lease_end.0
      ≤ max (link O i).lease_end.0 (lease_end y.renewal.stamp.0 y.length drift).0
  unfolding after_answer
  lease_end_bound_renewed i = changed (λ l m. m.lease_end.0 ≤ max l.lease_end.0 (lease_end y.renewal.stamp.0 y.length drift).0) O.links a i
      (answered drift y (link O a)) (λ l. omega arith)
      (elim (answered_until drift y (link O a)) [
        | inl h ↦ let k = ap (λ (t : Time). t.0) h in omega arith
        | inr h ↦ let k = ap (λ (t : Time). t.0) h.2 in omega arith
      ])

  -- the newest of an object is as it was, or is what the answer gave
  pub newest_renewed : (p : ℕ) → (newest_of (after_answer drift a y O) p ≡ newest_of O p)
      ⊎ ((p ≡ y.renewal.object) × (asks_object y.renewal.parts ≡ true) × ((newest_of (after_answer drift a y O) p).version ≡ y.version)
      × ((newest_of (after_answer drift a y O) p).value ≡ y.value))
  unfolding after_answer
  newest_renewed p = cond_both (accepts y (hears_all (list_of y.list) (link O a)) && ltb (newest_of O y.renewal.object).version.0 y.version.0)
      (set O.newest y.renewal.object (record { version = y.version; value = y.value })) O.newest
      (λ (ns : List Newest). (get_or ns p no_newest ≡ newest_of O p)
      ⊎ ((p ≡ y.renewal.object) × (asks_object y.renewal.parts ≡ true) × ((get_or ns p no_newest).version ≡ y.version) × ((get_or ns p no_newest).value ≡ y.value)))
      (λ t. elim (set_from O.newest y.renewal.object p (record { version = y.version; value = y.value }) no_newest) [
        | inl h ↦ inl h
        | inr h ↦ inr (
          sym h.0,
          (and_parts (asks_object y.renewal.parts) (leb (copy_of (hears_all (list_of y.list) (link O a)) y.renewal.object).known.0 y.version.0)
              (and_parts (accepts y (hears_all (list_of y.list) (link O a))) (ltb (newest_of O y.renewal.object).version.0 y.version.0) t).0).0,
          ap (λ (n : Newest). n.version) h.1,
          ap (λ (n : Newest). n.value) h.1,
        )
      ])
      (λ _. inl refl)

  -- the newest version never falls
  pub newest_up_renewed : (p : ℕ) → (newest_of O p).version.0 ≤ (newest_of (after_answer drift a y O) p).version.0
  unfolding after_answer
  newest_up_renewed p = cond_both (accepts y (hears_all (list_of y.list) (link O a)) && ltb (newest_of O y.renewal.object).version.0 y.version.0)
      (set O.newest y.renewal.object (record { version = y.version; value = y.value })) O.newest
      (λ (ns : List Newest). (newest_of O p).version.0 ≤ (get_or ns p no_newest).version.0)
      (λ t. elim (set_from O.newest y.renewal.object p (record { version = y.version; value = y.value }) no_newest) [
        | inl h ↦ subst (λ (n : Newest). (newest_of O p).version.0 ≤ n.version.0) (sym h) (omega arith)
        | inr h ↦ subst (λ (n : Newest). (newest_of O p).version.0 ≤ n.version.0) (sym h.1)
            (subst (λ (q : ℕ). (newest_of O q).version.0 ≤ y.version.0) h.0
            (let b = ltb-true (newest_of O y.renewal.object).version.0 y.version.0
            (and_parts (accepts y (hears_all (list_of y.list) (link O a))) (ltb (newest_of O y.renewal.object).version.0 y.version.0) t).1 in
            omega arith))
      ])
      (λ _. omega arith)

  -- the lists keep their lengths
  pub shape_renewed : OutputShape O → OutputShape (after_answer drift a y O)
  unfolding after_answer
  shape_renewed s = record {
    newest = cond_both (accepts y (hears_all (list_of y.list) (link O a)) && ltb (newest_of O y.renewal.object).version.0 y.version.0)
        (set O.newest y.renewal.object (record { version = y.version; value = y.value })) O.newest (λ (ns : List Newest). length ns ≡ 16)
        (λ _. length-set O.newest y.renewal.object (record { version = y.version; value = y.value }) ∙ s.newest) (λ _. s.newest);
    links = length-set O.links a (answered drift y (link O a)) ∙ s.links;
    copies = λ i b. changed (λ l m. length m.copies ≡ length l.copies) O.links a i (answered drift y (link O a))
        (λ l. refl) (answered_copies drift y (link O a)) ∙ s.copies i b;
  }

  -- the channel of another input server
  pub moves_other_renewed : (L R : ℕ) (I : Input) (i j : ℕ) (log : List Message) (l : Pairs) → (a ≡ i → ⊥)
      → Moves L R (channel_of I O i j log) (channel_of I (after_answer drift a y O) i j (log ++ acknowledgement j a l))
  moves_other_renewed L R I i j log l n = out_still L R I O (after_answer drift a y O) i j log (acknowledgement j a l)
      (link_other_renewed i n) clock_renewed (quiet_ack_to i j a j l n)

-- the channel of the input server that answers
pub moves_own_renewed : (L drift : ℕ) (y : Renewed)
    (I : Input) (O : Output) (i j : ℕ) (log : List Message)
    → OutputShape O → i < 8 → All (λ (p : Pair). p.object < 16) (list_of y.list) → In (RenewalAnswer i j y) log
    → Moves L (1000 - drift) (channel_of I O i j log)
    (channel_of I (after_answer drift i y O) i j (log ++ acknowledgement j i y.list))
moves_own_renewed L drift y I O i j log s b inside sent =
    link_moves L (1000 - drift) I O (after_answer drift i y O) i j log (acknowledgement j i y.list) k (list_of y.list)
    (link_own_renewed drift i y O (omega arith))
    (clock_renewed drift i y O)
    (record {
      known_up = answered_up drift y (link O i);
      epoch_up = answered_epoch_up drift y (link O i);
      got_from = got;
      copy_from = copied;
      until_from = ends;
    })
    (λ p h. (ack_says i j i j y.list p h).2)
    told
  where
    k : Link
    k = answered drift y (link O i)

    told : (q u : ℕ) → Has q u (list_of y.list) → u ≤ (copy_of k q).known.0
    told = answered_told drift y (link O i)
        (subst (λ (n : ℕ). All (λ (p : Pair). p.object < n) (list_of y.list)) (sym (s.copies i b)) inside)

    got : (p : ℕ) → ((copy_of k p).got.0 ≡ (copy_of (link O i) p).got.0)
        ⊎ ((d : ℕ) × Any (Says i j (copy p (copy_of k p).got.0 d)) log × ((copy_of k p).got.0 ≤ (copy_of k p).known.0))
    got p = elim (answered_got drift y (link O i) p) [
      | inl h ↦ inl (ap (λ (y : Version). y.0) h)
      | inr h ↦ let c = ap (λ (y : Version). y.0) h.2 in let d = ap (λ (y : Version). y.0) h.3 in
          inr (
            y.epoch.0,
            in_any (Says i j (copy p (copy_of k p).got.0 y.epoch.0)) (RenewalAnswer i j y) log sent
                (refl, refl, inl (h.1, (sym h.0, c, refl))),
            omega arith,
          )
    ]

    copied : (p : ℕ) → ((copy_of k p).epoch.0 ≡ (copy_of (link O i) p).epoch.0)
        ⊎ ((u : ℕ) × Any (Says i j (copy p u (copy_of k p).epoch.0)) log × (u ≤ (copy_of k p).known.0))
    copied p = elim (answered_epoch drift y (link O i) p) [
      | inl h ↦ inl (ap (λ (y : Epoch). y.0) h)
      | inr h ↦ let c = ap (λ (y : Epoch). y.0) h.2 in let d = ap (λ (y : Version). y.0) h.3 in
          inr (
            y.version.0,
            in_any (Says i j (copy p y.version.0 (copy_of k p).epoch.0)) (RenewalAnswer i j y) log sent
                (refl, refl, inl (h.1, (sym h.0, refl, c))),
            omega arith,
          )
    ]

    ends : (k.lease_end.0 ≡ (link O i).lease_end.0)
        ⊎ Grant (1000 - drift) (channel_of I O i j log) k.lease_end.0 k.epoch.0 (λ q. (copy_of k q).known.0)
    ends = elim (answered_until drift y (link O i)) [
      | inl h ↦ inl (ap (λ (t : Time). t.0) h)
      | inr h ↦ inr (record {
        s = y.renewal.stamp.0;
        l = y.length;
        e = y.epoch.0;
        ps = list_of y.list;
        sent = in_any (Says i j (lease y.renewal.stamp.0 y.length y.epoch.0 (list_of y.list))) (RenewalAnswer i j y) log sent
            (refl, refl, inr (h.0, h.1, (refl, refl, refl, refl)));
        ends = sym (ap (λ (t : Time). t.0) h.2);
        old = h.3;
        told = told;
      })
    ]

-- ---- an invalidation from input server a

abbrev told_invalidation : ℕ → Version → Pair
told_invalidation o v = record { object = o; version = v }

module _ (a o : ℕ) (v : Version) (O : Output) where
  pub clock_invalidation : (after_invalidation a o v O).clock ≡ O.clock
  unfolding after_invalidation
  clock_invalidation = refl

  pub newest_invalidation : (p : ℕ) → newest_of (after_invalidation a o v O) p ≡ newest_of O p
  unfolding after_invalidation
  newest_invalidation p = refl

  pub link_other_invalidation : (i : ℕ) → (a ≡ i → ⊥) → link (after_invalidation a o v O) i ≡ link O i
  unfolding after_invalidation
  link_other_invalidation i n = get_or-set_other O.links a i (hears (told_invalidation o v) (link O a)) no_link (λ h. n (sym h))

  pub link_own_invalidation : a < length O.links → link (after_invalidation a o v O) a ≡ hears (record { object = o; version = v }) (link O a)
  unfolding after_invalidation
  link_own_invalidation h = get_or-set_same O.links a (hears (told_invalidation o v) (link O a)) no_link h

  -- what is known never falls, and every lease is as it was
  pub known_up_invalidation : (i p : ℕ) → (copy_of (link O i) p).known.0 ≤ (copy_of (link (after_invalidation a o v O) i) p).known.0
  unfolding after_invalidation
  known_up_invalidation i p = changed (λ l m. (copy_of l p).known.0 ≤ (copy_of m p).known.0) O.links a i (hears (told_invalidation o v) (link O a))
      (λ l. omega arith) (hears_up (told_invalidation o v) (link O a) p)

  pub lease_epoch_invalidation : (i : ℕ) → (link (after_invalidation a o v O) i).epoch ≡ (link O i).epoch
  unfolding after_invalidation
  lease_epoch_invalidation i = changed (λ l m. m.epoch ≡ l.epoch) O.links a i (hears (told_invalidation o v) (link O a)) (λ l. refl) refl

  pub lease_end_invalidation : (i : ℕ) → (link (after_invalidation a o v O) i).lease_end ≡ (link O i).lease_end
  unfolding after_invalidation
  lease_end_invalidation i = changed (λ l m. m.lease_end ≡ l.lease_end) O.links a i (hears (told_invalidation o v) (link O a)) (λ l. refl) refl

  pub lease_epoch_up_invalidation : (i : ℕ) → (link O i).epoch.0 ≤ (link (after_invalidation a o v O) i).epoch.0
  lease_epoch_up_invalidation i = let h = ap (λ (x : Epoch). x.0) (lease_epoch_invalidation i) in omega arith

  pub lease_end_up_invalidation : (i : ℕ) → (link O i).lease_end.0 ≤ (link (after_invalidation a o v O) i).lease_end.0
  lease_end_up_invalidation i = let h = ap (λ (x : Time). x.0) (lease_end_invalidation i) in omega arith

  -- the lists keep their lengths
  pub shape_invalidation : OutputShape O → OutputShape (after_invalidation a o v O)
  unfolding after_invalidation
  shape_invalidation s = record {
    newest = s.newest;
    links = length-set O.links a (hears (told_invalidation o v) (link O a)) ∙ s.links;
    copies = λ i b. changed (λ l m. length m.copies ≡ length l.copies) O.links a i (hears (told_invalidation o v) (link O a))
        (λ l. refl) (length-set (link O a).copies o (heard (told_invalidation o v) (link O a))) ∙ s.copies i b;
  }

  -- the channel of another input server
  pub moves_other_invalidation : (L R : ℕ) (I : Input) (i j : ℕ) (log : List Message) → (a ≡ i → ⊥)
      → Moves L R (channel_of I O i j log) (channel_of I (after_invalidation a o v O) i j (log ++ answers_invalidation j a o v))
  moves_other_invalidation L R I i j log n = out_still L R I O (after_invalidation a o v O) i j log (answers_invalidation j a o v)
      (link_other_invalidation i n) clock_invalidation (λ p h. elim h [ inl y ↦ n y.0 | inr y ↦ y ])

-- the channel of the input server that invalidates
pub moves_own_invalidation : (L R o : ℕ) (v : Version) (I : Input) (O : Output) (i j : ℕ) (log : List Message) → OutputShape O → i < 8 → o < 16
    → Moves L R (channel_of I O i j log) (channel_of I (after_invalidation i o v O) i j (log ++ answers_invalidation j i o v))
moves_own_invalidation L R o v I O i j log s b c =
    link_moves L R I O (after_invalidation i o v O) i j log (answers_invalidation j i o v) (hears (told_invalidation o v) (link O i)) (told_invalidation o v ∷ [])
    (link_own_invalidation i o v O (omega arith))
    (clock_invalidation i o v O)
    (record {
      known_up = hears_up (told_invalidation o v) (link O i);
      epoch_up = omega arith;
      got_from = λ p. inl (ap (λ (y : Version). y.0) (hears_got (told_invalidation o v) (link O i) p));
      copy_from = λ p. inl (ap (λ (y : Epoch). y.0) (hears_epoch (told_invalidation o v) (link O i) p));
      until_from = inl refl;
    })
    (λ p h. elim h [ inl y ↦ y.2 | inr y ↦ absurd y ])
    told
  where
    told : (q u : ℕ) → Has q u (told_invalidation o v ∷ []) → u ≤ (copy_of (hears (told_invalidation o v) (link O i)) q).known.0
    told q u (inr h) = absurd h
    told q u (inl h) =
        let y : o < length (link O i).copies = omega (arith, s.copies i b) in
        let t : u ≤ (copy_of (hears (told_invalidation o v) (link O i)) o).known.0 = omega (arith, hears_told (told_invalidation o v) (link O i) y) in
        subst (λ (k : ℕ). u ≤ (copy_of (hears (told_invalidation o v) (link O i)) k).known.0) h.0 t

pub quiet_invalidation : (i j a b o : ℕ) (v : Version) → (b ≡ j → ⊥) → Quiet i j (answers_invalidation b a o v)
quiet_invalidation i j a b o v n p h = elim h [ inl y ↦ n y.1 | inr y ↦ y ]

-- ---- a read request at output server b

module _ (sys : System) (b p n o : ℕ) (O : Output) where
  abbrev renewal : ℕ → Message
  renewal k = RenewalRequest b k (wanted o O k)

  -- what it asks of the input servers bears its clock
  asked_renewals : (i j : ℕ) (q : Part) → Any (Says i j q) (asks_all b n o O) → (b ≡ j) × IsAsked O.clock.0 q
  asked_renewals i j q h =
      let r = each_any (Says i j q) n (λ k. cond (good O o k) [] (renewal k ∷ [])) h in
      one r.0 r.2
    where
      one : (k : ℕ) → Any (Says i j q) (cond (good O o k) [] (renewal k ∷ [])) → (b ≡ j) × IsAsked O.clock.0 q
      one k = cond_both (good O o k) [] (renewal k ∷ []) (λ (new : List Message). Any (Says i j q) new → (b ≡ j) × IsAsked O.clock.0 q)
          (λ _ x. absurd x) (λ _ x. elim x [ inl y ↦ (y.1, y.3) | inr y ↦ absurd y ])

  pub asked_read : (i j : ℕ) (q : Part) → Any (Says i j q) (answers_read sys b p n o O) → (b ≡ j) × IsAsked O.clock.0 q
  asked_read i j q = cond_both (valid sys n o O) (ReadAnswer b p (newest_of O o).version (newest_of O o).value ∷ []) (asks_all b n o O)
      (λ (new : List Message). Any (Says i j q) new → (b ≡ j) × IsAsked O.clock.0 q)
      (λ _ x. elim x [ inl y ↦ absurd y | inr y ↦ absurd y ]) (λ _. asked_renewals i j q)

  -- a read answer only where the copy is valid, and renewal requests with its clock
  pub read_all : (P : Message → Type 0) → (valid sys n o O ≡ true → P (ReadAnswer b p (newest_of O o).version (newest_of O o).value))
      → ((i : ℕ) → i < n → P (RenewalRequest b i (wanted o O i))) → All P (answers_read sys b p n o O)
  read_all P f g = cond_both (valid sys n o O) (ReadAnswer b p (newest_of O o).version (newest_of O o).value ∷ []) (asks_all b n o O)
      (λ (new : List Message). All P new) (λ h. (f h, tt))
      (λ _. each_all P n (λ k. cond (good O o k) [] (renewal k ∷ []))
      (λ k l. cond_both (good O o k) [] (renewal k ∷ []) (λ (new : List Message). All P new) (λ _. tt)
      (λ _. (g k l, tt))))

  pub read_length : 1 ≤ n → length (answers_read sys b p n o O) ≤ n
  read_length l = cond_both (valid sys n o O) (ReadAnswer b p (newest_of O o).version (newest_of O o).value ∷ []) (asks_all b n o O)
      (λ (new : List Message). length new ≤ n) (λ _. omega arith)
      (λ _. each_length n (λ k. cond (good O o k) [] (renewal k ∷ []))
      (λ k. cond_both (good O o k) [] (renewal k ∷ []) (λ (new : List Message). length new ≤ 1) (λ _. omega arith) (λ _. omega arith)))

pub moves_read : (L R : ℕ) (sys : System) (b p n o : ℕ) (I : Input) (O Q : Output) (i j : ℕ) (log : List Message) → (b ≡ j → Q ≡ O)
    → Moves L R (channel_of I O i j log) (channel_of I O i j (log ++ answers_read sys b p n o Q))
moves_read L R sys b p n o I O Q i j log e = out_moves L R I O O i j log (answers_read sys b p n o Q)
    (λ o. omega arith) (omega arith) refl (λ o. inl refl) (λ o. inl refl) (inl refl)
    (λ q h. says q (asked_read sys b p n o Q i j q h))
  where
    says : (q : Part) → (b ≡ j) × IsAsked Q.clock.0 q → Fresh L (channel_of I O i j log) (channel_of I O i j (log ++ answers_read sys b p n o Q)) q
    says (asked t) h = omega (arith, h.1, ap (λ (X : Output). X.clock.0) (e h.0))
    says (copy q u d) h = absurd h.1
    says (lease t m d qs) h = absurd h.1
    says (answer q u) h = absurd h.1
