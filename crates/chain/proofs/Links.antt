-- What each change of the links does to the lines.
use Rattle.std.proofs.Common.{◌≡◌, ℕ, ◌-◌, ◌<◌, ◌≤◌, false, eqb, List, [], ◌∷◌, ◌++◌, length, get_or, set, sym, refl, ap, ◌∙◌, subst, subst₂, inl, inr, arith}
use Rattle.std.proofs.lemmas.List.{set-get_or, length-append, length-set, append_assoc, append-nil}
use Rattle.std.proofs.lemmas.Bool.{ne_eqb, eq-eqb, eqb-false, cond-true, cond-false, cond_both, cases_eq}
use Rattle.numbers.specs.Numbers.{records}
use Rattle.numbers.specs.declared.version.Version.{Version}
use Rattle.rules.specs.declared.pairs.Pair.{Pair}
use Rattle.chain.specs.declared.record.Entry.{Entry}
use Rattle.chain.specs.Records.{at, pair_in, relinked, linked_records, linked_heads, Hop, Leads, count, tally, naming, Lines, View, Ends}
use Rattle.chain.specs.declared.record.Record.{Record}
use Rattle.chain.proofs.Lines.{at_same, leads_kept, leads_join, last_step, count_join, count_here, count_nil, naming_join, tally_set, total_set, lines_length, lines_at, lines_put, lines_kept, lines_set}

-- A record that leads to another number.

at_relinked : (rs : List Record) (i n : ℕ) → length rs ≡ records → 0 < i → i ≤ records
    → at (relinked rs i n) i ≡ record { version = (at rs i).version; object = (at rs i).object; next = n }
at_relinked rs i n w p q = at_same rs i _ p (omega arith)

-- the record of entry y leads to n, where zs begins
leads_relinked : (rs : List Record) (i n : ℕ) (y : Entry) (zs : List Entry) → length rs ≡ records → Hop rs i y
    → Leads (relinked rs i n) n zs 0 → Leads (relinked rs i n) i (y ∷ zs) 0
unfolding Leads
leads_relinked rs i n y zs w s l =
    let a = at_relinked rs i n w s.some s.within in (
      record { number = s.number; some = s.some; within = s.within; holds = ap pair_in a ∙ s.holds },
      subst (λ k. Leads (relinked rs i n) k zs 0) (sym (ap (λ r. r.next) a)) l,
    )

-- Record number x takes another version; record number f takes a pair and leads nowhere.

abbrev pub renewed : List Record → ℕ → Version → List Record
renewed rs x w = set rs (x - 1) (record { version = w; object = (at rs x).object; next = (at rs x).next })

abbrev pub filled : List Record → ℕ → Pair → List Record
filled rs f x = set rs (f - 1) (record { version = x.version; object = x.object; next = 0 })

-- Number n comes after number b, or first on line j if b is 0.

module _ (rs : List Record) (b n : ℕ) where
  some_before : eqb b 0 ≡ false → 0 < b
  some_before f = let z = eqb-false b 0 f in omega arith

  leads_linked : (i : ℕ) (es : List Entry) (e : ℕ) → (0 < b → count b es ≡ 0) → Leads rs i es e → Leads (linked_records rs b n) i es e
  leads_linked i es e apart l =
      cond_both (eqb b 0) rs (relinked rs b n) (λ qs. Leads qs i es e) (λ t. l)
      (λ f. leads_kept rs b _ (some_before f) i es e (apart (some_before f)) l)

  rows_linked : length (linked_records rs b n) ≡ length rs
  rows_linked = cond_both (eqb b 0) rs (relinked rs b n) (λ qs. length qs ≡ length rs) (λ t. refl) (λ f. length-set rs (b - 1) _)

tops_linked : (hs : List ℕ) (j b n : ℕ) → length (linked_heads hs j b n) ≡ length hs
tops_linked hs j b n = cond_both (eqb b 0) (set hs j n) hs (λ gs. length gs ≡ length hs) (λ t. length-set hs j n) (λ f. refl)

-- The front of line j, which b ends, goes on with zs.
lines_linked : (rs : List Record) → length rs ≡ records → (hs : List ℕ) (cs : List (List Entry)) → Lines rs hs cs
    → (j : ℕ) (front zs : List Entry) (b m n : ℕ) → Leads rs (get_or hs j 0) front m → Ends front b
    → (0 < b → (tally b (set cs j []) ≡ 0) × (count b front ≤ 1) × (count b zs ≡ 0))
    → Leads rs n zs 0 → ((o : ℕ) → naming o (front ++ zs) ≤ 1)
    → Lines (linked_records rs b n) (linked_heads hs j b n) (set cs j (front ++ zs))
lines_linked rs wide hs cs ls j front zs b m n before (inl (e, z)) apart rest nm =
    let t = eq-eqb b 0 z in
    subst₂ (λ qs gs. Lines qs gs (set cs j (front ++ zs))) (sym (cond-true _ _ _ t)) (sym (cond-true _ _ _ t))
    (lines_put rs hs cs j n (front ++ zs) ls (subst (λ es. Leads rs n (es ++ zs) 0) (sym e) rest) nm)
lines_linked rs wide hs cs ls j front zs b m n before (inr (ys, p, e, k)) apart rest nm =
    let h = get_or hs j 0 in
    let l = last_step rs h ys p m b (subst (λ es. Leads rs h es m) e before) k in
    let some = l.1.some in
    let a = apart some in
    let f = ne_eqb b 0 (λ z. omega (arith, some)) in
    let qs = relinked rs b n in
    let c : count b ys ≡ 0 = omega (arith, a.1, ap (count b) e, count_join b ys (p ∷ []), count_here b p [] k) in
    let r : Leads qs n zs 0 = leads_kept rs b _ some n zs 0 a.2 rest in
    let w : Leads qs h ys b = leads_kept rs b _ some h ys b c l.0 in
    let way : Leads qs h (front ++ zs) 0 =
    subst (λ es. Leads qs h es 0) (sym (append_assoc ys (p ∷ []) zs) ∙ ap (λ es. es ++ zs) (sym e))
    (leads_join qs h ys b (p ∷ zs) 0 w (leads_relinked rs b n p zs wide l.1 r)) in
    subst₂ (λ rs' gs. Lines rs' gs (set cs j (front ++ zs))) (sym (cond-false _ _ _ f)) (sym (cond-false _ _ _ f))
    (subst (λ gs. Lines qs gs (set cs j (front ++ zs))) (set-get_or hs j 0)
    (lines_set rs b _ some hs cs j h (front ++ zs) a.0 ls way nm))

-- The changes, each from a view of the lines before to one of the lines after.

module _ (rs : List Record) (hs : List ℕ) (f : ℕ) (cs : List (List Entry)) (fs : List Entry) (v : View rs hs f cs fs) (j : ℕ) (inside : j < 8) where
  room : j < length cs
  room = omega (arith, lines_length rs hs cs v.lines, v.tops)

  named_once : (o : ℕ) → naming o (get_or cs j []) ≤ 1
  named_once = (lines_at rs hs cs v.lines j (omega (arith, v.tops))).1

  -- a record of line j stands nowhere else
  alone : (i : ℕ) (ys : List Entry) (p : Entry) (zs : List Entry) → p.slot ≡ i → get_or cs j [] ≡ ys ++ (p ∷ zs)
      → (tally i (set cs j []) ≡ 0) × (count i ys ≡ 0) × (count i zs ≡ 0) × (count i fs ≡ 0)
  alone i ys p zs k e =
      let a = tally_set i cs j [] room in
      let d = ap (count i) e in
      let g = count_join i ys (p ∷ zs) in
      let h = count_here i p zs k in
      let n = count_nil i in
      let o = v.once i in
      (omega arith, omega arith, omega arith, omega arith)

  -- nor does the record that ends the front of line j
  apart : (front back : List Entry) (b : ℕ) → Ends front b → get_or cs j [] ≡ front ++ back → 0 < b
      → (tally b (set cs j []) ≡ 0) × (count b front ≤ 1) × (count b back ≡ 0) × (count b fs ≡ 0)
  apart front back b (inl (e, z)) w some = absurd (omega arith)
  apart front back b (inr (ys, p, e, k)) w some =
      let a = alone b ys p back k (w ∙ ap (λ es. es ++ back) e ∙ append_assoc ys (p ∷ []) back) in
      (a.0, omega (arith, a.1, ap (count b) e, count_join b ys (p ∷ []), count_here b p [] k, count_nil b), a.2, a.3)

  -- Record x of line j leaves it for the free line.
  module _ (front : List Entry) (y : Entry) (zs : List Entry) (b x : ℕ) (whole : get_or cs j [] ≡ front ++ (y ∷ zs))
      (before : Leads rs (get_or hs j 0) front x) (last : Ends front b) (here : Hop rs x y) (rest : Leads rs (at rs x).next zs 0) where
    pub view_unlinked : View (relinked (linked_records rs b (at rs x).next) x f) (linked_heads hs j b (at rs x).next) x (set cs j (front ++ zs)) (y ∷ fs)
    unfolding Leads count naming
    view_unlinked =
        let n = (at rs x).next in
        let qs = linked_records rs b n in
        let wide : length qs ≡ records = rows_linked rs b n ∙ v.rows in
        let w = apart front (y ∷ zs) b last whole in
        let a = alone x front y zs (sym here.number) whole in
        let nm : (o : ℕ) → naming o (front ++ zs) ≤ 1 =
        λ o. omega (arith, named_once o, ap (naming o) whole, naming_join o front (y ∷ zs), naming_join o front zs) in
        let ls = lines_linked rs v.rows hs cs v.lines j front zs b x n before last (λ p. ((w p).0, (w p).1, omega (arith, (w p).2))) rest nm in
        let st : Hop qs x y = (leads_linked rs b n x (y ∷ []) n (λ p. omega (arith, (w p).2)) (here, refl)).0 in
        let free : Leads qs f fs 0 = leads_linked rs b n f fs 0 (λ p. (w p).3) v.spare in
        let t : tally x (set cs j (front ++ zs)) ≡ 0 =
        omega (arith, tally_set x cs j [] room, tally_set x cs j (front ++ zs) room, count_join x front zs, a.0, a.1, a.2) in
        record {
          lines = lines_kept qs x _ here.some (linked_heads hs j b n) (set cs j (front ++ zs)) t ls;
          spare = leads_relinked qs x f y fs wide st (leads_kept qs x _ here.some f fs 0 a.3 free);
          once = λ i. omega (arith, v.once i, tally_set i cs j (front ++ zs) room, ap (count i) whole, count_join i front (y ∷ zs), count_join i front zs);
          all = omega (arith, v.all, total_set cs j (front ++ zs) room, ap length whole, length-append front (y ∷ zs), length-append front zs);
          rows = length-set qs (x - 1) _ ∙ wide;
          tops = tops_linked hs j b n ∙ v.tops;
        }

  -- Record x of line j takes another version.
  pub view_renewed : (x : ℕ) (w : Version) (ys : List Entry) (y : Entry) (zs : List Entry) → get_or cs j [] ≡ ys ++ (y ∷ zs)
      → Leads rs (get_or hs j 0) ys x → Hop rs x y → Leads rs (at rs x).next zs 0
      → View (renewed rs x w) hs f (set cs j (ys ++ (record { slot = y.slot; pair = record { object = y.pair.object; version = w } } ∷ zs))) fs
  unfolding Leads count naming
  view_renewed x w ys y zs e l s r =
      let y' : Entry = record { slot = y.slot; pair = record { object = y.pair.object; version = w } } in
      let qs = renewed rs x w in
      let al = alone x ys y zs (sym s.number) e in
      let a : at qs x ≡ record { version = w; object = (at rs x).object; next = (at rs x).next } = at_same rs x _ s.some (omega (arith, v.rows, s.within)) in
      let st : Hop qs x y' =
      record {
        number = s.number;
        some = s.some;
        within = s.within;
        holds = ap pair_in a ∙ ap (λ p. record { object = p.object; version = w }) s.holds;
      } in
      let rest = subst (λ k. Leads qs k zs 0) (sym (ap (λ z. z.next) a)) (leads_kept rs x _ s.some (at rs x).next zs 0 al.2 r) in
      let way : Leads qs (get_or hs j 0) (ys ++ (y' ∷ zs)) 0 =
      leads_join qs (get_or hs j 0) ys x (y' ∷ zs) 0 (leads_kept rs x _ s.some (get_or hs j 0) ys x al.1 l) (st, rest) in
      let nm : (o : ℕ) → naming o (ys ++ (y' ∷ zs)) ≤ 1 =
      λ o. omega (arith, named_once o, ap (naming o) e, naming_join o ys (y ∷ zs), naming_join o ys (y' ∷ zs)) in
      let ls = lines_set rs x _ s.some hs cs j (get_or hs j 0) (ys ++ (y' ∷ zs)) al.0 v.lines way nm in
      record {
        lines = subst (λ gs. Lines qs gs (set cs j (ys ++ (y' ∷ zs)))) (set-get_or hs j 0) ls;
        spare = leads_kept rs x _ s.some f fs 0 al.3 v.spare;
        once = λ i. omega (arith, v.once i, tally_set i cs j (ys ++ (y' ∷ zs)) room, ap (count i) e, count_join i ys (y ∷ zs), count_join i ys (y' ∷ zs));
        all = omega (arith, v.all, total_set cs j (ys ++ (y' ∷ zs)) room, ap length e, length-append ys (y ∷ zs), length-append ys (y' ∷ zs));
        rows = length-set rs (x - 1) _ ∙ v.rows;
        tops = v.tops;
      }

  -- Line j becomes the free one.
  pub view_released : fs ≡ [] → View rs (set hs j 0) (get_or hs j 0) (set cs j []) (get_or cs j [])
  unfolding Leads count naming
  view_released e =
      record {
        lines = lines_put rs hs cs j 0 [] v.lines refl (λ o. omega arith);
        spare = (lines_at rs hs cs v.lines j (omega (arith, v.tops))).0;
        once = λ i. omega (arith, v.once i, tally_set i cs j [] room);
        all = omega (arith, v.all, total_set cs j [] room, ap length e);
        rows = v.rows;
        tops = length-set hs j 0 ∙ v.tops;
      }

  -- The first free record takes pair x and ends line j.
  module _ (y : Entry) (gs : List Entry) (e : fs ≡ y ∷ gs) (s : Hop rs f y) (r : Leads rs (at rs f).next gs 0) (x : Pair)
      (b : ℕ) (last : Ends (get_or cs j []) b) (fresh : naming x.object (get_or cs j []) ≡ 0) where
    naming_appended : (q : ℕ) → naming q (get_or cs j [] ++ (record { slot = y.slot; pair = x } ∷ [])) ≤ 1
    unfolding naming
    naming_appended q =
        let k = naming_join q (get_or cs j []) (record { slot = y.slot; pair = x } ∷ []) in
        elim (cases_eq x.object q) [
          | inl p ↦
              let z = ap (λ t. naming t (get_or cs j [])) p in
              let d = cond-true {A = ℕ} (eqb x.object q) 1 0 (eq-eqb _ _ p) in
              omega (arith, fresh)
          | inr p ↦
              let d = cond-false {A = ℕ} (eqb x.object q) 1 0 (ne_eqb _ _ p) in
              omega (arith, named_once q)
        ]

    pub view_appended : View (linked_records (filled rs f x) b f) (linked_heads hs j b f) (at rs f).next (set cs j (get_or cs j [] ++ (record { slot = y.slot; pair = x } ∷ []))) gs
    unfolding Leads count
    view_appended =
        let y' : Entry = record { slot = y.slot; pair = x } in
        let front = get_or cs j [] in
        let qs = filled rs f x in
        let wide : length qs ≡ records = length-set rs (f - 1) _ ∙ v.rows in
        let c = count_here f y gs (sym s.number) in
        let d = ap (count f) e in
        let o = v.once f in
        let t : tally f cs ≡ 0 = omega arith in
        let g : count f gs ≡ 0 = omega arith in
        let ls : Lines qs hs cs = lines_kept rs f _ s.some hs cs t v.lines in
        let free : Leads qs (at rs f).next gs 0 = leads_kept rs f _ s.some (at rs f).next gs 0 g r in
        let a : at qs f ≡ record { version = x.version; object = x.object; next = 0 } = at_same rs f _ s.some (omega (arith, v.rows, s.within)) in
        let tail : Leads qs f (y' ∷ []) 0 =
        (record { number = s.number; some = s.some; within = s.within; holds = ap pair_in a }, ap (λ z. z.next) a) in
        let before : Leads qs (get_or hs j 0) front 0 = (lines_at qs hs cs ls j (omega (arith, v.tops))).0 in
        let w = λ (p : 0 < b). apart front [] b last (sym (append-nil front)) p in
        let k = λ (p : 0 < b). ap (count b) e in
        record {
          lines = lines_linked qs wide hs cs ls j front (y' ∷ []) b 0 f before last (λ p. ((w p).0, (w p).1, omega (arith, (w p).3, k p))) tail naming_appended;
          spare = leads_linked qs b f (at rs f).next gs 0 (λ p. omega (arith, (w p).3, k p)) free;
          once = λ i. omega (arith, v.once i, tally_set i cs j (front ++ (y' ∷ [])) room, ap (count i) e, count_join i front (y' ∷ []));
          all = omega (arith, v.all, total_set cs j (front ++ (y' ∷ [])) room, ap length e, length-append front (y' ∷ []));
          rows = rows_linked qs b f ∙ wide;
          tops = tops_linked hs j b f ∙ v.tops;
        }
