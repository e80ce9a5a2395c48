-- A grid of two rows, as a quorum system: column c has the members 2c and 2c + 1.
use Rattle.std.specs.Prelude.{◌≡◌, ℕ, zero, suc, ◌+◌, ◌*◌, ◌/◌, ◌^◌, ◌<◌, ◌≤◌, Bool, true, false, ◌&&◌, ◌||◌, ◌⊎◌, nat_lt, refl}
use Rattle.std.specs.List.{list_all, list_any, range_with_len}
use Rattle.std.proofs.Common.{sym, ap, ◌∙◌, inl, inr, pow-suc, arith, pow_pos}
use Rattle.std.proofs.Math.Pow.{ones_lt}
use Rattle.std.proofs.lemmas.Bool.{ltb-true, lt-ltb, and_parts, and_from}
use Rattle.quorum.specs.Sets.{has, Within, full}
use Rattle.quorum.specs.Systems.{System, Lawful, Family}
use Rattle.quorum.specs.Members.{has_half, has_low}

-- a set has a member of a column, or both of them
abbrev pub touches : ℕ → ℕ → Bool
touches s c = has s (2 * c) || has s (2 * c + 1)

abbrev pub fills : ℕ → ℕ → Bool
fills s c = has s (2 * c) && has s (2 * c + 1)

-- a set that touches every column reads, and one that fills a column writes
abbrev pub reads : ℕ → ℕ → Bool
reads columns s = nat_lt s (2 ^ (2 * columns)) && list_all (touches s) (range_with_len 0 columns)

abbrev pub writes : ℕ → ℕ → Bool
writes columns s = nat_lt s (2 ^ (2 * columns)) && list_any (fills s) (range_with_len 0 columns)

abbrev pub grid : ℕ → System
grid columns = record { count = 2 * columns; reads = reads columns; writes = writes columns }

-- ---- all members are in the full set

half_full : (n : ℕ) → full (suc n) / 2 ≡ full n
half_full n =
    let e = pow-suc 2 n in
    let p = pow_pos n in
    omega arith

full_has : (n i : ℕ) → i < n → has (full n) i ≡ true
full_has zero i l = absurd (omega arith)
full_has (suc n) zero l =
    let e = pow-suc 2 n in
    let p = pow_pos n in
    has_low (full (suc n)) ∙ grind arith
full_has (suc n) (suc i) l =
    sym (has_half (full (suc n)) i) ∙ ap (λ (s : ℕ). has s i) (half_full n) ∙ full_has n i (omega arith)

-- ---- tests of columns

or_left : (a b : Bool) → a ≡ true → (a || b) ≡ true
or_left a b e = ap (λ (x : Bool). x || b) e

or_right : (a b : Bool) → b ≡ true → (a || b) ≡ true
or_right true b e = refl
or_right false b e = e

or_parts : (a b : Bool) → (a || b) ≡ true → (a ≡ true) ⊎ (b ≡ true)
or_parts true b e = inl refl
or_parts false b e = inr e

-- what holds of each of the numbers from a on
all_from : (f : ℕ → Bool) (a n : ℕ) → ((c : ℕ) → c < a + n → f c ≡ true) → list_all f (range_with_len a n) ≡ true
all_from f a zero h = refl
all_from f a (suc n) h =
    and_from (f a) _ (h a (omega arith)) (all_from f (a + 1) n (λ c l. h c (omega arith)))

all_more : (f g : ℕ → Bool) (a n : ℕ) → ((c : ℕ) → f c ≡ true → g c ≡ true)
    → list_all f (range_with_len a n) ≡ true → list_all g (range_with_len a n) ≡ true
all_more f g a zero h e = refl
all_more f g a (suc n) h e =
    let p = and_parts (f a) (list_all f (range_with_len (a + 1) n)) e in
    and_from (g a) _ (h a p.0) (all_more f g (a + 1) n h p.1)

any_more : (f g : ℕ → Bool) (a n : ℕ) → ((c : ℕ) → f c ≡ true → g c ≡ true)
    → list_any f (range_with_len a n) ≡ true → list_any g (range_with_len a n) ≡ true
any_more f g a zero h e = e
any_more f g a (suc n) h e = go (or_parts (f a) (list_any f (range_with_len (a + 1) n)) e) (any_more f g (a + 1) n h)
  where
    go : (f a ≡ true) ⊎ (list_any f (range_with_len (a + 1) n) ≡ true)
        → (list_any f (range_with_len (a + 1) n) ≡ true → list_any g (range_with_len (a + 1) n) ≡ true)
        → list_any g (range_with_len a (suc n)) ≡ true
    go (inl p) rest = or_left (g a) _ (h a p)
    go (inr p) rest = or_right (g a) _ (rest p)

-- where one number passes f and all pass g, one passes both
both : (f g : ℕ → Bool) (a n : ℕ) → list_any f (range_with_len a n) ≡ true → list_all g (range_with_len a n) ≡ true
    → (c : ℕ) × (c < a + n) × (f c ≡ true) × (g c ≡ true)
both f g a zero e h = absurd (grind arith)
both f g a (suc n) e h =
    let p = and_parts (g a) (list_all g (range_with_len (a + 1) n)) h in
    go p.0 (or_parts (f a) (list_any f (range_with_len (a + 1) n)) e) (λ q. both f g (a + 1) n q p.1)
  where
    go : g a ≡ true → (f a ≡ true) ⊎ (list_any f (range_with_len (a + 1) n) ≡ true)
        → (list_any f (range_with_len (a + 1) n) ≡ true → (c : ℕ) × (c < (a + 1) + n) × (f c ≡ true) × (g c ≡ true))
        → (c : ℕ) × (c < a + suc n) × (f c ≡ true) × (g c ≡ true)
    go p (inl q) rest = (a, omega arith, q, p)
    go p (inr q) rest = let r = rest q in (r.0, omega arith, r.2, r.3)

-- ---- the laws

touches_more : (s t c : ℕ) → Within s t → touches s c ≡ true → touches t c ≡ true
touches_more s t c w e = go (or_parts (has s (2 * c)) (has s (2 * c + 1)) e)
  where
    go : (has s (2 * c) ≡ true) ⊎ (has s (2 * c + 1) ≡ true) → touches t c ≡ true
    go (inl p) = or_left (has t (2 * c)) _ (w (2 * c) p)
    go (inr p) = or_right (has t (2 * c)) _ (w (2 * c + 1) p)

fills_more : (s t c : ℕ) → Within s t → fills s c ≡ true → fills t c ≡ true
fills_more s t c w e =
    let p = and_parts (has s (2 * c)) (has s (2 * c + 1)) e in
    and_from (has t (2 * c)) _ (w (2 * c) p.0) (w (2 * c + 1) p.1)

inside : (n s : ℕ) (b : Bool) → (nat_lt s (2 ^ n) && b) ≡ true → s < 2 ^ n
inside n s b e = ltb-true s (2 ^ n) (and_parts (nat_lt s (2 ^ n)) b e).0

full_inside : (n : ℕ) → nat_lt (full n) (2 ^ n) ≡ true
full_inside n = lt-ltb (full n) (2 ^ n) (ones_lt n)

full_fills : (columns c : ℕ) → c < columns → fills (full (2 * columns)) c ≡ true
full_fills columns c l =
    and_from (has (full (2 * columns)) (2 * c)) _
    (full_has (2 * columns) (2 * c) (omega arith))
    (full_has (2 * columns) (2 * c + 1) (omega arith))

full_touches : (columns c : ℕ) → c < columns → touches (full (2 * columns)) c ≡ true
full_touches columns c l =
    or_left (has (full (2 * columns)) (2 * c)) _ (full_has (2 * columns) (2 * c) (omega arith))

read_family : (columns : ℕ) → Family (2 * columns) (reads columns)
read_family columns = record {
  all = and_from (nat_lt (full (2 * columns)) (2 ^ (2 * columns))) _ (full_inside (2 * columns))
      (all_from (touches (full (2 * columns))) 0 columns (λ c l. full_touches columns c (omega arith)));
  inside = λ s e. inside (2 * columns) s _ e;
  upward = λ s t e w b.
      let p = and_parts (nat_lt s (2 ^ (2 * columns))) (list_all (touches s) (range_with_len 0 columns)) e in
      and_from (nat_lt t (2 ^ (2 * columns))) _ (lt-ltb t (2 ^ (2 * columns)) b)
      (all_more (touches s) (touches t) 0 columns (λ c. touches_more s t c w) p.1);
}

some_full : (columns : ℕ) → 1 ≤ columns → list_any (fills (full (2 * columns))) (range_with_len 0 columns) ≡ true
some_full zero l = absurd (omega arith)
some_full (suc c) l = or_left (fills (full (2 * suc c)) 0) _ (full_fills (suc c) 0 (omega arith))

write_family : (columns : ℕ) → 1 ≤ columns → Family (2 * columns) (writes columns)
write_family columns l = record {
  all = and_from (nat_lt (full (2 * columns)) (2 ^ (2 * columns))) _ (full_inside (2 * columns)) (some_full columns l);
  inside = λ s e. inside (2 * columns) s _ e;
  upward = λ s t e w b.
      let p = and_parts (nat_lt s (2 ^ (2 * columns))) (list_any (fills s) (range_with_len 0 columns)) e in
      and_from (nat_lt t (2 ^ (2 * columns))) _ (lt-ltb t (2 ^ (2 * columns)) b)
      (any_more (fills s) (fills t) 0 columns (λ c. fills_more s t c w) p.1);
}

-- in the column that the write set fills, the read set has a member
meet : (columns s t : ℕ) → reads columns s ≡ true → writes columns t ≡ true
    → (i : ℕ) × (i < 2 * columns) × (has s i ≡ true) × (has t i ≡ true)
meet columns s t e f = go (both (fills t) (touches s) 0 columns q.1 p.1)
  where
    p : (nat_lt s (2 ^ (2 * columns)) ≡ true) × (list_all (touches s) (range_with_len 0 columns) ≡ true)
    p = and_parts (nat_lt s (2 ^ (2 * columns))) (list_all (touches s) (range_with_len 0 columns)) e

    q : (nat_lt t (2 ^ (2 * columns)) ≡ true) × (list_any (fills t) (range_with_len 0 columns) ≡ true)
    q = and_parts (nat_lt t (2 ^ (2 * columns))) (list_any (fills t) (range_with_len 0 columns)) f

    go : (c : ℕ) × (c < 0 + columns) × (fills t c ≡ true) × (touches s c ≡ true)
        → (i : ℕ) × (i < 2 * columns) × (has s i ≡ true) × (has t i ≡ true)
    go r = find (or_parts (has s (2 * r.0)) (has s (2 * r.0 + 1)) r.3)
      where
        both_in : (has t (2 * r.0) ≡ true) × (has t (2 * r.0 + 1) ≡ true)
        both_in = and_parts (has t (2 * r.0)) (has t (2 * r.0 + 1)) r.2

        find : (has s (2 * r.0) ≡ true) ⊎ (has s (2 * r.0 + 1) ≡ true)
            → (i : ℕ) × (i < 2 * columns) × (has s i ≡ true) × (has t i ≡ true)
        find (inl m) = (2 * r.0, omega arith, m, both_in.0)
        find (inr m) = (2 * r.0 + 1, omega arith, m, both_in.1)

pub grid_lawful : (columns : ℕ) → 1 ≤ columns → columns ≤ 32 → Lawful (grid columns)
grid_lawful columns p l = record {
  some = omega arith;
  few = omega arith;
  read_family = read_family columns;
  write_family = write_family columns p;
  meet = meet columns;
}
