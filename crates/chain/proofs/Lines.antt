-- Lines of records: what a line is, what one write leaves of it, and steps along it.
use Rattle.std.proofs.Common.{◌≡◌, ℕ, zero, suc, ◌+◌, ◌-◌, ◌<◌, ◌≤◌, true, false, cond, eqb, ◌≢◌, List, [], ◌∷◌, ◌++◌, map, length, get_or, set, sym, refl, ap, ◌∙◌, subst, ap₂, subst₂, inl, inr, arith}
use mathlib.Core.Logic.{∥∥₁_elim}
use mathlib.Core.HLevel.{Unit-prop}
use native.Mathlib.Nat.{ℕ_set}
use native.Mathlib.Bridge.{le_prop}
use Rattle.std.proofs.lemmas.List.{get_or-set_same, get_or-set_other, get_or-map}
use Rattle.std.proofs.lemmas.Bool.{ne_eqb, eq-eqb, cond-true, cond-false}
use Rattle.numbers.specs.Numbers.{records}
use Rattle.chain.specs.declared.record.Entry.{Entry}
use Rattle.chain.specs.Records.{blank, at, pair_in, entry, walk, line, Hop, Leads, On, count, tally, naming, total, Lines, View, WellLinked, Ends}
use Rattle.chain.specs.declared.record.Record.{Record}

-- A line is determined by where it begins.

entry_is : (rs : List Record) (i : ℕ) (x : Entry) → Hop rs i x → entry rs i ≡ x
entry_is rs i x s = λ k. record { slot = s.number k; pair = s.holds k }

walk_leads : (rs : List Record) (n i : ℕ) (es : List Entry) → length es ≤ n → Leads rs i es 0 → walk rs n i ≡ es
unfolding walk Leads
walk_leads rs zero i [] h l = refl
walk_leads rs zero i (x ∷ es) h l = absurd (omega arith)
walk_leads rs (suc n) i [] h l = cond-true (eqb i 0) _ _ (eq-eqb i 0 l)
walk_leads rs (suc n) i (x ∷ es) h l =
    let e = entry_is rs i x l.0 in
    let z : i ≡ 0 → ⊥ = λ p. omega arith in
    let w = walk_leads rs n (at rs i).next es (omega arith) l.1 in
    cond-false (eqb i 0) _ _ (ne_eqb i 0 z) ∙ cc

pub line_is : (rs : List Record) (i : ℕ) (es : List Entry) → length es ≤ records → Leads rs i es 0 → line rs i ≡ es
unfolding line
line_is rs i es h l = walk_leads rs records i es h l

length_walk : (rs : List Record) (n i : ℕ) → length (walk rs n i) ≤ n
unfolding walk
length_walk rs zero i = omega arith
length_walk rs (suc n) i =
    elim (eqb i 0) as (λ t. length (cond t [] (entry rs i ∷ walk rs n (at rs i).next)) ≤ suc n)
    [ true ↦ omega arith | false ↦ omega (arith, length_walk rs n (at rs i).next) ]

pub length_line : (rs : List Record) (i : ℕ) → length (line rs i) ≤ records
unfolding line
length_line rs i = length_walk rs records i

-- The facts of the invariant have one proof each.

leads_prop : (rs : List Record) (i : ℕ) (es : List Entry) (e : ℕ) → IsProp (Leads rs i es e)
unfolding Leads
leads_prop rs i [] e = hlevel ℕ_set
leads_prop rs i (x ∷ es) e = hlevel (le_prop, ℕ_set, leads_prop rs (at rs i).next es e)

lines_prop : (rs : List Record) (hs : List ℕ) (cs : List (List Entry)) → IsProp (Lines rs hs cs)
unfolding Lines
lines_prop rs [] [] = hlevel Unit-prop
lines_prop rs [] (c ∷ cs) = hlevel
lines_prop rs (h ∷ hs) [] = hlevel
lines_prop rs (h ∷ hs) (c ∷ cs) = hlevel (le_prop, leads_prop, lines_prop rs hs cs)

view_prop : (rs : List Record) (hs : List ℕ) (f : ℕ) (cs : List (List Entry)) (fs : List Entry) → IsProp (View rs hs f cs fs)
view_prop rs hs f cs fs = hlevel (le_prop, ℕ_set, leads_prop, lines_prop)

pub viewed : (rs : List Record) (hs : List ℕ) (f : ℕ) → WellLinked rs hs f → View rs hs f (map (line rs) hs) (line rs f)
viewed rs hs f s = ∥∥₁_elim s (view_prop rs hs f _ _) (λ v. v)

-- What one write leaves.

pub at_same : (rs : List Record) (i : ℕ) (r : Record) → 0 < i → i ≤ length rs → at (set rs (i - 1) r) i ≡ r
at_same rs i r p q = get_or-set_same rs (i - 1) r blank (omega arith)

at_other : (rs : List Record) (i j : ℕ) (r : Record) → 0 < i → 0 < j → j ≢ i → at (set rs (i - 1) r) j ≡ at rs j
at_other rs i j r p q n = get_or-set_other rs (i - 1) (j - 1) r blank (omega arith)

count_none : (i : ℕ) (x : Entry) (xs : List Entry) → count i (x ∷ xs) ≡ 0 → (x.slot ≢ i) × (count i xs ≡ 0)
unfolding count
count_none i x xs h = (λ e. let t = cond-true {A = ℕ} (eqb x.slot i) 1 0 (eq-eqb _ _ e) in omega arith, omega arith)

pub leads_kept : (rs : List Record) (j : ℕ) (r : Record) → 0 < j → (i : ℕ) (es : List Entry) (e : ℕ)
    → count j es ≡ 0 → Leads rs i es e → Leads (set rs (j - 1) r) i es e
unfolding Leads
leads_kept rs j r p i [] e h l = l
leads_kept rs j r p i (x ∷ es) e h l =
    let t = count_none j x es h in
    let s = l.0 in
    let a : at (set rs (j - 1) r) i ≡ at rs i = at_other rs j i r p s.some (λ q. t.0 (sym s.number ∙ q)) in (
      record { number = s.number; some = s.some; within = s.within; holds = ap pair_in a ∙ s.holds },
      subst (λ n. Leads (set rs (j - 1) r) n es e) (ap (λ y. y.next) (sym a)) (leads_kept rs j r p (at rs i).next es e t.1 l.1),
    )

pub leads_join : (rs : List Record) (i : ℕ) (ys : List Entry) (m : ℕ) (zs : List Entry) (e : ℕ)
    → Leads rs i ys m → Leads rs m zs e → Leads rs i (ys ++ zs) e
unfolding Leads
leads_join rs i [] m zs e l k = subst (λ n. Leads rs n zs e) (sym l) k
leads_join rs i (y ∷ ys) m zs e l k = (l.0, leads_join rs (at rs i).next ys m zs e l.1 k)

leads_split : (rs : List Record) (i : ℕ) (ys zs : List Entry) (e : ℕ)
    → Leads rs i (ys ++ zs) e → (m : ℕ) × (Leads rs i ys m × Leads rs m zs e)
unfolding Leads
leads_split rs i [] zs e l = (i, (refl, l))
leads_split rs i (y ∷ ys) zs e l =
    let k = leads_split rs (at rs i).next ys zs e l.1 in (k.0, ((l.0, k.1.0), k.1.1))

pub last_step : (rs : List Record) (i : ℕ) (ys : List Entry) (p : Entry) (e b : ℕ)
    → Leads rs i (ys ++ (p ∷ [])) e → p.slot ≡ b → Leads rs i ys b × Hop rs b p
unfolding Leads
last_step rs i ys p e b l k =
    let s = leads_split rs i ys (p ∷ []) e l in
    let m : s.0 ≡ b = s.1.1.0.number ∙ k in
    (subst (λ n. Leads rs i ys n) m s.1.0, subst (λ n. Hop rs n p) m s.1.1.0)

pub none_left : (rs : List Record) (i : ℕ) (es : List Entry) → Leads rs i es 0 → i ≡ 0 → es ≡ []
unfolding Leads
none_left rs i [] l z = refl
none_left rs i (y ∷ es) l z = absurd (omega (arith, l.0.some))

pub some_left : (rs : List Record) (i : ℕ) (es : List Entry) → Leads rs i es 0 → 0 < i
    → (y : Entry) × (gs : List Entry) × (es ≡ y ∷ gs) × Hop rs i y × Leads rs (at rs i).next gs 0
unfolding Leads
some_left rs i [] l z = absurd (omega arith)
some_left rs i (y ∷ es) l z = (y, es, refl, l.0, l.1)

-- Counts.

pub count_join : (i : ℕ) (ys zs : List Entry) → count i (ys ++ zs) ≡ count i ys + count i zs
unfolding count
count_join i [] zs = omega arith
count_join i (y ∷ ys) zs = omega (arith, count_join i ys zs)

pub count_here : (i : ℕ) (y : Entry) (zs : List Entry) → y.slot ≡ i → count i (y ∷ zs) ≡ 1 + count i zs
unfolding count
count_here i y zs e = ap (λ n. n + count i zs) (cond-true {A = ℕ} (eqb y.slot i) 1 0 (eq-eqb _ _ e))

pub count_nil : (i : ℕ) → count i [] ≡ 0
unfolding count
count_nil i = refl

pub naming_join : (o : ℕ) (ys zs : List Entry) → naming o (ys ++ zs) ≡ naming o ys + naming o zs
unfolding naming
naming_join o [] zs = omega arith
naming_join o (y ∷ ys) zs = omega (arith, naming_join o ys zs)

pub tally_set : (i : ℕ) (cs : List (List Entry)) (j : ℕ) (c : List Entry) → j < length cs
    → tally i (set cs j c) + count i (get_or cs j []) ≡ tally i cs + count i c
unfolding tally
tally_set i [] j c h = absurd (omega arith)
tally_set i (d ∷ cs) zero c h = omega arith
tally_set i (d ∷ cs) (suc j) c h = omega (arith, tally_set i cs j c (omega arith))

pub total_set : (cs : List (List Entry)) (j : ℕ) (c : List Entry) → j < length cs
    → total (set cs j c) + length (get_or cs j []) ≡ total cs + length c
unfolding total
total_set [] j c h = absurd (omega arith)
total_set (d ∷ cs) zero c h = omega arith
total_set (d ∷ cs) (suc j) c h = omega (arith, total_set cs j c (omega arith))

-- Several lines.

pub lines_length : (rs : List Record) (hs : List ℕ) (cs : List (List Entry)) → Lines rs hs cs → length cs ≡ length hs
unfolding Lines
lines_length rs [] [] l = refl
lines_length rs [] (c ∷ cs) l = absurd l
lines_length rs (h ∷ hs) [] l = absurd l
lines_length rs (h ∷ hs) (c ∷ cs) l = ap suc (lines_length rs hs cs l.1.1)

pub lines_at : (rs : List Record) (hs : List ℕ) (cs : List (List Entry)) → Lines rs hs cs → (j : ℕ) → j < length hs
    → Leads rs (get_or hs j 0) (get_or cs j []) 0 × ((o : ℕ) → naming o (get_or cs j []) ≤ 1)
unfolding Lines
lines_at rs [] cs l j h = absurd (omega arith)
lines_at rs (h ∷ hs) [] l j q = absurd l
lines_at rs (h ∷ hs) (c ∷ cs) l zero q = (l.0, l.1.0)
lines_at rs (h ∷ hs) (c ∷ cs) l (suc j) q = lines_at rs hs cs l.1.1 j (omega arith)

pub lines_put : (rs : List Record) (hs : List ℕ) (cs : List (List Entry)) (j h : ℕ) (c : List Entry)
    → Lines rs hs cs → Leads rs h c 0 → ((o : ℕ) → naming o c ≤ 1) → Lines rs (set hs j h) (set cs j c)
unfolding Lines
lines_put rs [] [] j h c l k n = l
lines_put rs [] (d ∷ cs) j h c l k n = absurd l
lines_put rs (g ∷ hs) [] j h c l k n = absurd l
lines_put rs (g ∷ hs) (d ∷ cs) zero h c l k n = (k, (n, l.1.1))
lines_put rs (g ∷ hs) (d ∷ cs) (suc j) h c l k n = (l.0, (l.1.0, lines_put rs hs cs j h c l.1.1 k n))

module _ (rs : List Record) (p : ℕ) (r : Record) (some : 0 < p) where
  pub lines_kept : (hs : List ℕ) (cs : List (List Entry)) → tally p cs ≡ 0 → Lines rs hs cs → Lines (set rs (p - 1) r) hs cs
  unfolding Lines tally
  lines_kept [] [] t l = l
  lines_kept [] (c ∷ cs) t l = l
  lines_kept (h ∷ hs) [] t l = l
  lines_kept (h ∷ hs) (c ∷ cs) t l =
      (leads_kept rs p r some h c 0 (omega arith) l.0, (l.1.0, lines_kept hs cs (omega arith) l.1.1))

  -- a write to a record of line j
  pub lines_set : (hs : List ℕ) (cs : List (List Entry)) (j h : ℕ) (c : List Entry) → tally p (set cs j []) ≡ 0
      → Lines rs hs cs → Leads (set rs (p - 1) r) h c 0 → ((o : ℕ) → naming o c ≤ 1) → Lines (set rs (p - 1) r) (set hs j h) (set cs j c)
  unfolding Lines tally
  lines_set [] [] j h c t l k n = l
  lines_set [] (d ∷ cs) j h c t l k n = absurd l
  lines_set (g ∷ hs) [] j h c t l k n = absurd l
  lines_set (g ∷ hs) (d ∷ cs) zero h c t l k n = (k, (n, lines_kept hs cs (omega arith) l.1.1))
  lines_set (g ∷ hs) (d ∷ cs) (suc j) h c t l k n =
      (leads_kept rs p r some g d 0 (omega arith) l.0, (l.1.0, lines_set hs cs j h c (omega arith) l.1.1 k n))

lines_map : (rs : List Record) (hs : List ℕ) (cs : List (List Entry)) → total cs ≤ records → Lines rs hs cs → map (line rs) hs ≡ cs
unfolding Lines total
lines_map rs [] [] t l = refl
lines_map rs [] (c ∷ cs) t l = absurd l
lines_map rs (h ∷ hs) [] t l = absurd l
lines_map rs (h ∷ hs) (c ∷ cs) t l =
    ap₂ (λ x xs. x ∷ xs) (line_is rs h c (omega arith) l.0) (lines_map rs hs cs (omega arith) l.1.1)

-- A view closes into the invariant.

module _ (rs : List Record) (hs : List ℕ) (f : ℕ) (cs : List (List Entry)) (fs : List Entry) (v : View rs hs f cs fs) where
  pub view_lines : map (line rs) hs ≡ cs
  view_lines = lines_map rs hs cs (omega (arith, v.all)) v.lines

  pub sealed : WellLinked rs hs f
  sealed =
      ∣ subst₂ (λ xs ys. View rs hs f xs ys) (sym view_lines) (sym (line_is rs f fs (omega (arith, v.all)) v.spare)) v ∣₁

-- The line of an output server.

pub line_at : (rs : List Record) (hs : List ℕ) (j : ℕ) → j < length hs → get_or (map (line rs) hs) j [] ≡ line rs (get_or hs j 0)
line_at rs hs j l = get_or-map (line rs) hs j 0 [] l

pub on_start : (rs : List Record) (hs : List ℕ) (f j : ℕ) → WellLinked rs hs f → j < 8 → ∥ On rs (get_or hs j 0) ∥₁
on_start rs hs f j s q =
    let v = viewed rs hs f s in
    let l : j < length hs = omega arith in
    ∣ subst (λ es. Leads rs (get_or hs j 0) es 0) (line_at rs hs j l) (lines_at rs hs (map (line rs) hs) v.lines j l).0 ∣₁

module _ (rs : List Record) (x : ℕ) (end : ∥ On rs x ∥₁) where
  on : On rs x
  on = ∥∥₁_elim end (leads_prop rs x (line rs x) 0) (λ o. o)

  pub on_none : x ≡ 0 → line rs x ≡ []
  on_none z = none_left rs x (line rs x) on z

  pub on_more : 0 < x → ∥ On rs (at rs x).next ∥₁ × (line rs x ≡ entry rs x ∷ line rs (at rs x).next) × (x ≤ records)
  on_more some =
      let w = some_left rs x (line rs x) on some in
      let q = line_is rs (at rs x).next w.1 (omega (arith, length_line rs x, ap length w.2)) w.4 in (
        ∣ subst (λ es. Leads rs (at rs x).next es 0) (sym q) w.4 ∣₁,
        w.2 ∙ ap₂ (λ a b. a ∷ b) (sym (entry_is rs x w.0 w.3)) (sym q),
        w.3.within,
      )

-- A place on a line.

-- where a line begins
abbrev pub first : List Entry → ℕ
first [] = 0
first (y ∷ ys) = y.slot

leads_first : (rs : List Record) (i : ℕ) (es : List Entry) → Leads rs i es 0 → i ≡ first es
unfolding Leads
leads_first rs i [] l = l
leads_first rs i (y ∷ es) l = l.0.number

-- the line that begins at h goes through its front to where the rest begins
pub leads_parts : (rs : List Record) (h : ℕ) (front back : List Entry) → ∥ On rs h ∥₁ → line rs h ≡ front ++ back
    → Leads rs h front (first back) × Leads rs (first back) back 0
leads_parts rs h front back end whole =
    let l = leads_split rs h front back 0 (subst (λ es. Leads rs h es 0) whole (on rs h end)) in
    subst (λ x. Leads rs h front x × Leads rs x back 0) (leads_first rs l.0 back l.1.1) l.1

-- where a line begins, and what stands before, have a record's number, or are 0
pub leads_within : (rs : List Record) (i : ℕ) (es : List Entry) → Leads rs i es 0 → i ≤ records
unfolding Leads
leads_within rs i [] l = omega arith
leads_within rs i (y ∷ es) l = l.0.within

pub ends_within : (rs : List Record) (h : ℕ) (es : List Entry) (x b : ℕ) → Leads rs h es x → Ends es b → b ≤ records
ends_within rs h es x b l (inl e) = omega (arith, e.1)
ends_within rs h es x b l (inr e) = (last_step rs h e.0 e.1 x b (subst (λ ys. Leads rs h ys x) e.2 l) e.3).1.within

-- one more entry that does not name the object
pub naming_more : (o : ℕ) (ys : List Entry) (y : Entry) → naming o ys ≡ 0 → (y.pair.object ≡ o → ⊥) → naming o (ys ++ y ∷ []) ≡ 0
unfolding naming
naming_more o ys y none ne =
    let t = cond-false {A = ℕ} (eqb y.pair.object o) 1 0 (ne_eqb _ _ ne) in omega (arith, naming_join o ys (y ∷ []))
