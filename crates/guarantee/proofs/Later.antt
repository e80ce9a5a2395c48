-- Servers of a side that are each some time later.
use Rattle.std.proofs.Common.{◌≡◌, ℕ, zero, suc, ◌<◌, ◌≤◌, Bool, cond, ltb, ◌⊎◌, List, length, get_or, sym, refl, ap, ◌∙◌, subst, inl, inr, arith, length-set}
use Rattle.std.proofs.lemmas.Bool.{cases_eq, cases_lt, lt-ltb, le-ltb}
use Rattle.rules.specs.Calls.{each_later}
use Rattle.guarantee.proofs.Words.{at, at_same, at_miss, set_at, set_from}

module _ {A : Type 0} (later : ℕ → A → A) (none : A) (x : ℕ → ℕ) (l : List A) where
  abbrev moved : ℕ → List A
  moved c = each_later later none x c l

  pub length_later : (c : ℕ) → length (moved c) ≡ length l
  length_later zero = refl
  length_later (suc c) = length-set (moved c) c _ ∙ length_later c

  -- each is as it was, or later by its increment
  pub later_from : (c i : ℕ) → (get_or (moved c) i none ≡ get_or l i none) ⊎ ((i < c) × (get_or (moved c) i none ≡ later (x i) (get_or l i none)))
  later_from zero i = inl refl
  later_from (suc c) i = elim (set_from (moved c) c i (later (x c) (get_or (moved c) c none)) none) [
    | inl e ↦ elim (later_from c i) [ inl d ↦ inl (e ∙ d) | inr d ↦ inr (omega (arith, d.0), e ∙ d.1) ]
    | inr e ↦ inr (
      omega (arith, e.0),
      e.1 ∙ subst (λ (k : ℕ). later (x c) (get_or (moved c) c none) ≡ later (x k) (get_or l k none)) e.0 (ap (later (x c)) (own c (later_from c c))),
    )
  ]
    where
      own : (k : ℕ) → (get_or (moved k) k none ≡ get_or l k none) ⊎ ((k < k) × (get_or (moved k) k none ≡ later (x k) (get_or l k none)))
          → get_or (moved k) k none ≡ get_or l k none
      own k (inl e) = e
      own k (inr e) = absurd (omega (arith, e.0))

  -- as one equation, where no time is no change
  module _ (rests : (a : A) → later 0 a ≡ a) where
    abbrev ThereAt : ℕ → Type 0
    ThereAt c = (i : ℕ) → get_or (moved c) i none ≡ later (cond (ltb i c) (x i) 0) (get_or l i none)

    one_more : (c : ℕ) → ThereAt c → (i : ℕ) → at c (later (x c) (get_or (moved c) c none)) (λ k. get_or (moved c) k none) i
        ≡ later (cond (ltb i (suc c)) (x i) 0) (get_or l i none)
    one_more c old i = elim (cases_eq c i) [
      | inl e ↦ subst (λ (k : ℕ). at c (later (x c) (g c)) g k ≡ later (cond (ltb k (suc c)) (x k) 0) (get_or l k none)) e
          (at_same c (later (x c) (g c)) g
          ∙ ap (later (x c)) (old c ∙ ap (λ (b : Bool). later (cond b (x c) 0) (get_or l c none)) (le-ltb c c (omega arith)) ∙ rests (get_or l c none))
          ∙ ap (λ (b : Bool). later (cond b (x c) 0) (get_or l c none)) (sym (lt-ltb c (suc c) (omega arith))))
      | inr e ↦ at_miss c i (later (x c) (g c)) g e ∙ old i ∙ ap (λ (b : Bool). later (cond b (x i) 0) (get_or l i none)) (same e)
    ]
      where
        g : ℕ → A
        g i = get_or (moved c) i none

        same : (c ≡ i → ⊥) → ltb i c ≡ ltb i (suc c)
        same e = elim (cases_lt i c) [
          | inl k ↦ lt-ltb i c k ∙ sym (lt-ltb i (suc c) (omega arith))
          | inr k ↦ le-ltb i c k ∙ sym (le-ltb i (suc c) (omega arith))
        ]

    pub later_at : (c : ℕ) → c ≤ length l → ThereAt c
    later_at zero h i =
        sym (ap (λ (b : Bool). later (cond b (x i) 0) (get_or l i none)) (le-ltb i 0 (omega arith)) ∙ rests (get_or l i none))
    later_at (suc c) h i =
        set_at (moved c) c i (later (x c) (get_or (moved c) c none)) none (let z = length_later c in omega arith)
        ∙ one_more c (later_at c (omega arith)) i
