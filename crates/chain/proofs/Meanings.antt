-- What each change of the lines means for the pairs that wait.
use Rattle.std.proofs.Common.{◌≡◌, ℕ, ◌+◌, ◌<◌, ◌≤◌, true, false, eqb, List, [], ◌∷◌, ◌++◌, map, length, get_or, set, sym, refl, ap, ◌∙◌, subst, ap₂, arith}
use Rattle.std.proofs.lemmas.List.{get_or-map, set-get_or, length-map, map-set, map-append, append-nil}
use Rattle.std.proofs.lemmas.Bool.{ne_eqb, eq-eqb, le-leb, lt-leb, lt-ltb, le-ltb, cond-true, cond-false, and_from, and_left, and_right, or_from, or_left, or_right}
use Rattle.numbers.specs.Numbers.{records}
use Rattle.numbers.specs.declared.version.Version.{Version}
use Rattle.rules.specs.declared.pairs.Pair.{Pair}
use Rattle.rules.specs.Input.{names, queued, freed, used}
use Rattle.chain.specs.declared.record.Entry.{Entry}
use Rattle.chain.specs.Records.{at, relinked, linked_records, linked_heads, line, Hop, Leads, naming, total, View, WellLinked, Ends, Stands}
use Rattle.chain.specs.Waiting.{pairs_along, waiting_in, waiting_of, waiting_for, has_free, Found}
use Rattle.chain.specs.declared.chains.Chains.{Chains}
use Rattle.chain.specs.declared.chains.walk.Place.{Place}
use Rattle.chain.specs.declared.record.Record.{Record}
use Rattle.chain.proofs.Lines.{naming_join, lines_at, viewed, sealed, view_lines, line_at, none_left, some_left, on_start, first, leads_parts, leads_within, ends_within}
use Rattle.chain.proofs.Links.{renewed, filled, view_unlinked, view_renewed, view_released, view_appended}

-- The rules' words, on the pairs along a line.

off : (o : ℕ) (x : Entry) (ys : List Entry) → naming o (x ∷ ys) ≡ 0 → (eqb x.pair.object o ≡ false) × (naming o ys ≡ 0)
unfolding naming
off o x ys n = (ne_eqb _ _ (λ t. let k = cond-true {A = ℕ} (eqb x.pair.object o) 1 0 (eq-eqb _ _ t) in omega arith), omega arith)

names_none : (o : ℕ) (ys : List Entry) → naming o ys ≡ 0 → names o (pairs_along ys) ≡ false
names_none o [] n = refl
names_none o (x ∷ ys) n = let f = off o x ys n in or_from _ _ f.0 (names_none o ys f.1)

names_at : (o : ℕ) (ys : List Entry) (y : Entry) (zs : List Entry) → y.pair.object ≡ o → names o (pairs_along (ys ++ (y ∷ zs))) ≡ true
names_at o [] y zs e = or_left _ _ (eq-eqb _ _ e)
names_at o (x ∷ ys) y zs e = or_right _ _ (names_at o ys y zs e)

queued_none : (x : Pair) (ys : List Entry) → naming x.object ys ≡ 0 → queued x (pairs_along ys) ≡ pairs_along ys ++ (x ∷ [])
queued_none x [] n = refl
queued_none x (y ∷ ys) n =
    let f = off x.object y ys n in cond-false _ _ _ f.0 ∙ ap (λ l. y.pair ∷ l) (queued_none x ys f.1)

queued_at : (x : Pair) (ys : List Entry) (y : Entry) (zs : List Entry) → naming x.object ys ≡ 0 → y.pair.object ≡ x.object
    → queued x (pairs_along (ys ++ (y ∷ zs))) ≡ pairs_along (ys ++ (record { slot = y.slot; pair = x } ∷ zs))
queued_at x [] y zs n e = cond-true _ _ _ (eq-eqb _ _ e)
queued_at x (w ∷ ys) y zs n e =
    let f = off x.object w ys n in cond-false _ _ _ f.0 ∙ ap (λ l. w.pair ∷ l) (queued_at x ys y zs f.1 e)

module _ (o : ℕ) (v : Version) where
  freed_none : (ys : List Entry) → naming o ys ≡ 0 → freed o v (pairs_along ys) ≡ pairs_along ys
  freed_none [] n = refl
  freed_none (x ∷ ys) n =
      let f = off o x ys n in cond-false _ _ _ (and_left _ _ f.0) ∙ ap (λ l. x.pair ∷ l) (freed_none ys f.1)

  freed_at : (ys : List Entry) (y : Entry) (zs : List Entry) → naming o ys ≡ 0 → naming o zs ≡ 0 → y.pair.object ≡ o
      → y.pair.version.0 ≤ v.0 → freed o v (pairs_along (ys ++ (y ∷ zs))) ≡ pairs_along (ys ++ zs)
  freed_at [] y zs n m e l = cond-true _ _ _ (and_from _ _ (eq-eqb _ _ e) (le-leb _ _ l)) ∙ freed_none zs m
  freed_at (x ∷ ys) y zs n m e l =
      let f = off o x ys n in cond-false _ _ _ (and_left _ _ f.0) ∙ ap (λ k. x.pair ∷ k) (freed_at ys y zs f.1 m e l)

  freed_above : (ys : List Entry) (y : Entry) (zs : List Entry) → naming o ys ≡ 0 → naming o zs ≡ 0
      → v.0 < y.pair.version.0 → freed o v (pairs_along (ys ++ (y ∷ zs))) ≡ pairs_along (ys ++ (y ∷ zs))
  freed_above [] y zs n m l = cond-false _ _ _ (and_right _ _ (lt-leb _ _ l)) ∙ ap (λ k. y.pair ∷ k) (freed_none zs m)
  freed_above (x ∷ ys) y zs n m l =
      let f = off o x ys n in cond-false _ _ _ (and_left _ _ f.0) ∙ ap (λ k. x.pair ∷ k) (freed_above ys y zs f.1 m l)

used_along : (cs : List (List Entry)) → used (map pairs_along cs) ≡ total cs
unfolding total
used_along [] = refl
used_along (c ∷ cs) = ap₂ (λ m n. m + n) (length-map c (λ (x : Entry). x.pair)) (used_along cs)

-- The pairs that wait, by the lines.

pub waiting_lines : (rs : List Record) (hs : List ℕ) (f : ℕ) (cs : List (List Entry)) (fs : List Entry) → View rs hs f cs fs
    → waiting_in rs hs ≡ map pairs_along cs
unfolding waiting_in
waiting_lines rs hs f cs fs v = ap (map pairs_along) (view_lines rs hs f cs fs v)

-- The chains s, and what is done to the one of output server j.

module _ (s : Chains) (j : ℕ) (inside : j < 8) where
  abbrev rs : List Record
  rs = s.records

  abbrev hs : List ℕ
  hs = s.heads

  abbrev f : ℕ
  f = s.free

  -- the line of each output server
  abbrev cs : List (List Entry)
  cs = map (line rs) hs

  v : View rs hs f cs (line rs f)
  v = viewed rs hs f s.well_linked

  top : j < length hs
  top = omega (arith, v.tops, inside)

  pub waiting_at : waiting_for s j ≡ pairs_along (line rs (get_or hs j 0))
  unfolding waiting_in
  waiting_at = get_or-map pairs_along cs j [] [] (simp length-map top) ∙ ap pairs_along (line_at rs hs j top)

  -- line j became c, whose pairs are ps
  became : (rs' : List Record) (hs' : List ℕ) (f' : ℕ) (fs' c : List Entry) (ps : List Pair) → View rs' hs' f' (set cs j c) fs'
      → pairs_along c ≡ ps → WellLinked rs' hs' f' × (waiting_in rs' hs' ≡ set (waiting_of s) j ps)
  unfolding waiting_in
  became rs' hs' f' fs' c ps w e =
      (sealed rs' hs' f' _ fs' w, waiting_lines rs' hs' f' _ fs' w ∙ map-set pairs_along cs j c ∙ ap (set (waiting_of s) j) e)

  waiting_same : (c : List Pair) → c ≡ waiting_for s j → waiting_of s ≡ set (waiting_of s) j c
  waiting_same c e = sym (ap (set (waiting_of s) j) e ∙ set-get_or (waiting_of s) j [])

  waiting_used : used (waiting_of s) + length (line rs f) ≡ records
  unfolding waiting_in
  waiting_used = ap (λ n. n + length (line rs f)) (used_along cs) ∙ v.all

  -- Where no record is free, the chain becomes free.
  module _ (none : f ≡ 0) where
    no_line : line rs f ≡ []
    no_line = none_left rs f (line rs f) v.spare none

    pub none_free : has_free (waiting_of s) ≡ false
    none_free = le-ltb _ _ (omega (arith, waiting_used, ap length no_line))

    pub released : WellLinked rs (set hs j 0) (get_or hs j 0) × (waiting_in rs (set hs j 0) ≡ set (waiting_of s) j [])
    released = became rs (set hs j 0) (get_or hs j 0) _ [] [] (view_released rs hs f cs (line rs f) v j inside no_line) refl

  -- Where a record is free.
  module _ (some : 0 < f) where
    next : (y : Entry) × (gs : List Entry) × (line rs f ≡ y ∷ gs) × Hop rs f y × Leads rs (at rs f).next gs 0
    next = some_left rs f (line rs f) v.spare some

    pub free_within : f ≤ records
    free_within = next.3.within

    pub some_free : has_free (waiting_of s) ≡ true
    some_free = lt-ltb _ _ (omega (arith, waiting_used, ap length next.2))

  -- A place behind the chain's last record.
  module _ (o b x : ℕ) (st : Stands rs (get_or hs j 0) o b x) (gone : x ≡ 0) where
    whole_front : line rs (get_or hs j 0) ≡ st.front
    whole_front = st.whole ∙ ap (λ es. st.front ++ es) (none_left rs x st.back st.after gone) ∙ append-nil st.front

    waiting_front : waiting_for s j ≡ pairs_along st.front
    waiting_front = waiting_at ∙ ap pairs_along whole_front

    not_named : names o (waiting_for s j) ≡ false
    not_named = ap (names o) waiting_front ∙ names_none o st.front st.none

  -- The place at the first of the entries back.
  pub found_at : (o b : ℕ) (front back : List Entry) → line rs (get_or hs j 0) ≡ front ++ back → Ends front b → naming o front ≡ 0
      → ((y : Entry) (zs : List Entry) → back ≡ y ∷ zs → y.pair.object ≡ o) → Found s j o (record { before = b; here = first back })
  found_at o b front back whole last none own =
      let l = leads_parts rs (get_or hs j 0) front back (on_start rs hs f j s.well_linked inside) whole in
      let st : Stands rs (get_or hs j 0) o b (first back) =
      record { front = front; back = back; whole = whole; before = l.0; after = l.1; last = last; none = none } in
      record {
        stands = st;
        before_fits = ends_within rs (get_or hs j 0) front (first back) b l.0 last;
        here_fits = leads_within rs (first back) back l.1;
        own = λ some. let w = some_left rs (first back) back l.1 some in ap (λ q. q.object) w.3.holds ∙ own w.0 w.1 w.2;
        absent = λ gone. not_named o b (first back) st gone;
      }

  module _ (o : ℕ) (p : Place) (found : Found s j o p) where
    abbrev b : ℕ
    b = p.before

    abbrev x : ℕ
    x = p.here

    abbrev st : Stands rs (get_or hs j 0) o b x
    st = found.stands

    -- The chain does not name the object.
    pub nothing_freed : x ≡ 0 → (w : Version) → waiting_of s ≡ set (waiting_of s) j (freed o w (waiting_for s j))
    nothing_freed gone w =
        let e = waiting_front o b x st gone in
        waiting_same _ (ap (freed o w) e ∙ freed_none o w st.front st.none ∙ sym e)

    -- The chain names the object, in record x.
    module _ (some : 0 < x) where
      here : (y : Entry) × (zs : List Entry) × (st.back ≡ y ∷ zs) × Hop rs x y × Leads rs (at rs x).next zs 0
      here = some_left rs x st.back st.after some

      whole : line rs (get_or hs j 0) ≡ st.front ++ (here.0 ∷ here.1)
      whole = st.whole ∙ ap (λ es. st.front ++ es) here.2

      line_whole : get_or cs j [] ≡ st.front ++ (here.0 ∷ here.1)
      line_whole = line_at rs hs j top ∙ whole

      waiting_whole : waiting_for s j ≡ pairs_along (st.front ++ (here.0 ∷ here.1))
      waiting_whole = waiting_at ∙ ap pairs_along whole

      y_own : here.0.pair.object ≡ o
      y_own = sym (ap (λ q. q.object) here.3.holds) ∙ found.own some

      not_after : naming o here.1 ≡ 0
      unfolding naming
      not_after =
          let n = (lines_at rs hs cs v.lines j top).1 o in
          let k = cond-true {A = ℕ} (eqb here.0.pair.object o) 1 0 (eq-eqb _ _ y_own) in
          omega (arith, n, ap (naming o) line_whole, naming_join o st.front (here.0 ∷ here.1))

      pub named : names o (waiting_for s j) ≡ true
      named = ap (names o) waiting_whole ∙ names_at o st.front here.0 here.1 y_own

      -- the record is at rs x
      module _ (w : Version) where
        y_version : (at rs x).version ≡ here.0.pair.version
        y_version = ap (λ q. q.version) here.3.holds

        pub above_stays : w.0 < (at rs x).version.0 → waiting_of s ≡ set (waiting_of s) j (freed o w (waiting_for s j))
        above_stays l =
            let a = subst (λ u. w.0 < u.0) y_version l in
            waiting_same _ (ap (freed o w) waiting_whole ∙ freed_above o w st.front here.0 here.1 st.none not_after a ∙ sym waiting_whole)

        pub unlinked : (at rs x).version.0 ≤ w.0
            → WellLinked (relinked (linked_records rs b (at rs x).next) x f) (linked_heads hs j b (at rs x).next) x
            × (waiting_in (relinked (linked_records rs b (at rs x).next) x f) (linked_heads hs j b (at rs x).next) ≡ set (waiting_of s) j (freed o w (waiting_for s j)))
        unlinked l =
            let a = subst (λ u. u.0 ≤ w.0) y_version l in
            became _ _ x (here.0 ∷ line rs f) (st.front ++ here.1) _
            (view_unlinked rs hs f cs (line rs f) v j inside st.front here.0 here.1 b x line_whole st.before st.last here.3 here.4)
            (sym (ap (freed o w) waiting_whole ∙ freed_at o w st.front here.0 here.1 st.none not_after y_own a))

  -- A pair is queued.
  module _ (q : Pair) (p : Place) (found : Found s j q.object p) where
    abbrev at_place : Stands rs (get_or hs j 0) q.object p.before p.here
    at_place = found.stands

    abbrev front : List Entry
    front = at_place.front

    -- The chain names its object: that record takes the version.
    module _ (some : 0 < p.here) where
      abbrev y : Entry
      y = (here q.object p found some).0

      abbrev zs : List Entry
      zs = (here q.object p found some).1

      pub renewed_queued : WellLinked (renewed rs p.here q.version) hs f
          × (waiting_in (renewed rs p.here q.version) hs ≡ set (waiting_of s) j (queued q (waiting_for s j)))
      renewed_queued =
          became _ hs f (line rs f) (front ++ (record { slot = y.slot; pair = q } ∷ zs)) _
          (subst (λ n. View (renewed rs p.here q.version) hs f (set cs j (front ++ (record { slot = y.slot; pair = record { object = n; version = q.version } } ∷ zs))) (line rs f))
          (y_own q.object p found some)
          (view_renewed rs hs f cs (line rs f) v j inside p.here q.version front y zs (line_whole q.object p found some) at_place.before
          (here q.object p found some).3 (here q.object p found some).4))
          (sym (ap (queued q) (waiting_whole q.object p found some) ∙ queued_at q front y zs at_place.none (y_own q.object p found some)))

    -- The chain does not name its object: a free record ends the chain.
    module _ (gone : p.here ≡ 0) (some : 0 < f) where
      abbrev y_free : Entry
      y_free = (next some).0

      abbrev gs : List Entry
      gs = (next some).1

      line_front : get_or cs j [] ≡ front
      line_front = line_at rs hs j top ∙ whole_front q.object p.before p.here at_place gone

      pub appended : WellLinked (linked_records (filled rs f q) p.before f) (linked_heads hs j p.before f) (at rs f).next
          × (waiting_in (linked_records (filled rs f q) p.before f) (linked_heads hs j p.before f) ≡ set (waiting_of s) j (queued q (waiting_for s j)))
      appended =
          became _ _ (at rs f).next gs (get_or cs j [] ++ (record { slot = y_free.slot; pair = q } ∷ [])) _
          (view_appended rs hs f cs (line rs f) v j inside y_free gs (next some).2 (next some).3 (next some).4 q p.before
          (subst (λ es. Ends es p.before) (sym line_front) at_place.last) (ap (naming q.object) line_front ∙ at_place.none))
          (map-append (λ (y : Entry). y.pair) (get_or cs j []) _ ∙ ap (λ es. pairs_along es ++ (q ∷ [])) line_front
          ∙ sym (queued_none q front at_place.none) ∙ ap (queued q) (sym (waiting_front q.object p.before p.here at_place gone)))
