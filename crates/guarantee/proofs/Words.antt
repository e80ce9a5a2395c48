-- Words for the proofs: a place of a function changed, a place of a list changed, something or everything in a list.
use Rattle.std.proofs.Common.{◌≡◌, ℕ, zero, suc, ◌<◌, ◌≤◌, cond, eqb, ◌⊎◌, List, [], ◌∷◌, ◌++◌, length, get_or, set, sym, refl, ap, ◌∙◌, subst, inl, inr, arith, length-append, get_or-set_other, get_or-set_same}
use Rattle.std.proofs.lemmas.Bool.{cases_eq, cases_lt, cond_both, eqb-true, eqb-false}
pub use Rattle.rules.proofs.Places.{set_beyond}
use Rattle.rules.specs.Lists.{each}

-- from two numbers that are equal and are not, anything
pub never : {A : Type 0} → ◌≡◌ {A = ℕ} 0 1 → A
never h = absurd (omega arith)

-- ---- a function changed at one place

abbrev pub at : {A : Type 0} → ℕ → A → (ℕ → A) → ℕ → A
at k a f n = cond (eqb k n) a (f n)

pub at_cases : {A : Type 0} (P : A → Type 0) (k n : ℕ) (a : A) (f : ℕ → A) → (k ≡ n → P a) → ((k ≡ n → ⊥) → P (f n)) → P (at k a f n)
at_cases P k n a f x y = cond_both (eqb k n) a (f n) P (λ e. x (eqb-true k n e)) (λ e. y (eqb-false k n e))

pub at_same : {A : Type 0} (k : ℕ) (a : A) (f : ℕ → A) → at k a f k ≡ a
at_same k a f = at_cases (λ x. x ≡ a) k k a f (λ _. refl) (λ n. absurd (n refl))

pub at_miss : {A : Type 0} (k n : ℕ) (a : A) (f : ℕ → A) → (k ≡ n → ⊥) → at k a f n ≡ f n
at_miss k n a f h = at_cases (λ x. x ≡ f n) k n a f (λ e. absurd (h e)) (λ _. refl)

pub at_hit : {A : Type 0} (k n : ℕ) (a : A) (f : ℕ → A) → k ≡ n → at k a f n ≡ a
at_hit k n a f h = at_cases (λ x. x ≡ a) k n a f (λ _. refl) (λ m. absurd (m h))

-- ---- a list changed at one place

pub set_at : {A : Type 0} (l : List A) (i n : ℕ) (x d : A) → i < length l → get_or (set l i x) n d ≡ at i x (λ k. get_or l k d) n
set_at l i n x d h = elim (cases_eq i n) [
  | inl e ↦ subst (λ (k : ℕ). get_or (set l i x) k d ≡ at i x (λ k. get_or l k d) k) e (get_or-set_same l i x d h ∙ sym (at_same i x (λ k. get_or l k d)))
  | inr e ↦ get_or-set_other l i n x d (λ f. e (sym f)) ∙ sym (at_miss i n x (λ k. get_or l k d) e)
]

-- each place of a changed list is as it was, or has the new element
pub set_from : {A : Type 0} (l : List A) (i n : ℕ) (x d : A) → (get_or (set l i x) n d ≡ get_or l n d) ⊎ ((i ≡ n) × (get_or (set l i x) n d ≡ x))
set_from {A = A} l i n x d = elim (cases_eq i n) [
  | inr e ↦ inl (get_or-set_other l i n x d (λ f. e (sym f)))
  | inl e ↦ elim (cases_lt i (length l)) [
    | inl h ↦ inr (e, subst (λ (k : ℕ). get_or (set l i x) k d ≡ x) e (get_or-set_same l i x d h))
    | inr h ↦ inl (ap (λ (k : List A). get_or k n d) (set_beyond l i x h))
  ]
]

-- a list that gets back what it has at a place is as it was
pub set_back : {A : Type 0} (l : List A) (i : ℕ) (d : A) → set l i (get_or l i d) ≡ l
set_back [] i d = refl
set_back (y ∷ l) zero d = refl
set_back (y ∷ l) (suc i) d = ap (λ r. y ∷ r) (set_back l i d)

-- ---- something in a list

abbrev pub Any : {A : Type 0} → (A → Type 0) → List A → Type 0
Any P [] = ⊥
Any P (x ∷ r) = P x ⊎ Any P r

abbrev pub In : {A : Type 0} → A → List A → Type 0
In m l = Any (λ x. m ≡ x) l

pub any_map : {A : Type 0} (P Q : A → Type 0) → ((x : A) → P x → Q x) → (l : List A) → Any P l → Any Q l
any_map P Q f [] h = absurd h
any_map P Q f (x ∷ r) (inl h) = inl (f x h)
any_map P Q f (x ∷ r) (inr h) = inr (any_map P Q f r h)

-- what the log said before, it says after more was logged
pub any_old : {A : Type 0} (P : A → Type 0) (a b : List A) → Any P a → Any P (a ++ b)
any_old P [] b h = absurd h
any_old P (x ∷ a) b (inl h) = inl h
any_old P (x ∷ a) b (inr h) = inr (any_old P a b h)

pub any_new : {A : Type 0} (P : A → Type 0) (a b : List A) → Any P b → Any P (a ++ b)
any_new P [] b h = h
any_new P (x ∷ a) b h = inr (any_new P a b h)

pub any_split : {A : Type 0} (P : A → Type 0) (a b : List A) → Any P (a ++ b) → Any P a ⊎ Any P b
any_split P [] b h = inr h
any_split P (x ∷ a) b (inl h) = inl (inl h)
any_split P (x ∷ a) b (inr h) = elim (any_split P a b h) [ inl k ↦ inl (inr k) | inr k ↦ inr k ]

pub in_any : {A : Type 0} (P : A → Type 0) (m : A) (l : List A) → In m l → P m → Any P l
in_any P m l h p = any_map (λ x. m ≡ x) P (λ x e. subst P e p) l h

pub any_in : {A : Type 0} (P : A → Type 0) (l : List A) → Any P l → (m : A) × In m l × P m
any_in P [] h = absurd h
any_in P (x ∷ r) (inl h) = (x, inl refl, h)
any_in P (x ∷ r) (inr h) = let y = any_in P r h in (y.0, inr y.1, y.2)

-- ---- everything in a list

abbrev pub All : {A : Type 0} → (A → Type 0) → List A → Type 0
All P [] = Unit {0}
All P (x ∷ r) = P x × All P r

pub all_map : {A : Type 0} (P Q : A → Type 0) → ((x : A) → P x → Q x) → (l : List A) → All P l → All Q l
all_map P Q f [] h = tt
all_map P Q f (x ∷ r) h = (f x h.0, all_map P Q f r h.1)

pub all-++ : {A : Type 0} (P : A → Type 0) (a b : List A) → All P a → All P b → All P (a ++ b)
all-++ P [] b h k = k
all-++ P (x ∷ a) b h k = (h.0, all-++ P a b h.1 k)

pub all_at : {A : Type 0} (P : A → Type 0) (m : A) (l : List A) → All P l → In m l → P m
all_at P m [] h k = absurd k
all_at P m (x ∷ r) h (inl e) = subst P (sym e) h.0
all_at P m (x ∷ r) h (inr k) = all_at P m r h.1 k

-- ---- what is gathered in rising order

pub each_all : {A : Type 0} (P : A → Type 0) (n : ℕ) (f : ℕ → List A) → ((i : ℕ) → i < n → All P (f i)) → All P (each n f)
each_all P zero f h = tt
each_all P (suc n) f h = all-++ P (each n f) (f n) (each_all P n f (λ i l. h i (omega arith))) (h n (omega arith))

pub each_any : {A : Type 0} (P : A → Type 0) (n : ℕ) (f : ℕ → List A) → Any P (each n f) → (i : ℕ) × (i < n) × Any P (f i)
each_any P zero f h = absurd h
each_any P (suc n) f h = elim (any_split P (each n f) (f n) h) [
  | inl a ↦ let r = each_any P n f a in (r.0, omega arith, r.2)
  | inr a ↦ (n, omega arith, a)
]

pub any_each : {A : Type 0} (P : A → Type 0) (n : ℕ) (f : ℕ → List A) (i : ℕ) → i < n → Any P (f i) → Any P (each n f)
any_each P zero f i l h = absurd (omega arith)
any_each P (suc n) f i l h = elim (cases_eq i n) [
  | inl e ↦ any_new P (each n f) (f n) (subst (λ (k : ℕ). Any P (f k)) e h)
  | inr e ↦ any_old P (each n f) (f n) (any_each P n f i (omega arith) h)
]

pub each_length : {A : Type 0} (n : ℕ) (f : ℕ → List A) → ((i : ℕ) → length (f i) ≤ 1) → length (each n f) ≤ n
each_length zero f h = omega arith
each_length (suc n) f h = let a = each_length n f h in let b = h n in rw (length-append (each n f) (f n)) (omega arith)

-- one for each of at most eight fits into nine places
pub each_nine : {A : Type 0} (n : ℕ) (f : ℕ → A) → n ≤ 8 → length (each n (λ i. f i ∷ [])) ≤ 9
each_nine n f l = let z = each_length n (λ i. f i ∷ []) (λ i. omega arith) in omega arith

-- a list made place by place
pub each_long : {A : Type 0} (n : ℕ) (f : ℕ → A) → length (each n (λ k. f k ∷ [])) ≡ n
each_long zero f = refl
each_long (suc n) f = length-append (each n (λ k. f k ∷ [])) (f n ∷ []) ∙ (let a = each_long n f in omega arith)

pub each_at : {A : Type 0} (n : ℕ) (f : ℕ → A) (i : ℕ) (d : A) → i < n → get_or (each n (λ k. f k ∷ [])) i d ≡ f i
each_at n f i d h = go n h
  where
    last : {B : Type 0} (l : List B) (x y : B) → get_or (l ++ (x ∷ [])) (length l) y ≡ x
    last [] x y = refl
    last (z ∷ l) x y = last l x y

    early : {B : Type 0} (l r : List B) (i : ℕ) (y : B) → i < length l → get_or (l ++ r) i y ≡ get_or l i y
    early [] r i y h = absurd (omega arith)
    early (z ∷ l) r zero y h = refl
    early (z ∷ l) r (suc i) y h = early l r i y (omega arith)

    go : (n : ℕ) → i < n → get_or (each n (λ k. f k ∷ [])) i d ≡ f i
    go zero h = absurd (omega arith)
    go (suc n) h = elim (cases_eq i n) [
      | inl e ↦ subst (λ (k : ℕ). get_or (each n (λ k. f k ∷ []) ++ (f n ∷ [])) k d ≡ f k) (sym e)
          (subst (λ (k : ℕ). get_or (each n (λ k. f k ∷ []) ++ (f n ∷ [])) k d ≡ f n) (each_long n f) (last (each n (λ k. f k ∷ [])) (f n) d))
      | inr e ↦ early (each n (λ k. f k ∷ [])) (f n ∷ []) i d (let a = each_long n f in omega arith) ∙ go n (omega arith)
    ]
