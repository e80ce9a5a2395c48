-- Sets as numbers: which members a set has that was made from others.
use Rattle.std.proofs.Common.{◌≡◌, ℕ, zero, suc, ◌+◌, ◌*◌, ◌/◌, ◌%◌, ◌^◌, ◌<◌, ◌≤◌, max, Bool, true, false, cond, ◌&&◌, ◌||◌, eqb, ltb, ◌⊎◌, sym, refl, ap, ◌∙◌, inl, inr, pow-suc, arith}
use lib.Bits.{bit_or, or_step, or_shr, or_lt}
use lib.Pow.{pow-lt}
use Rattle.std.proofs.lemmas.Bool.Decides.{nat_tests}
use Rattle.std.proofs.lemmas.Bool.{cases_eq, and_parts, and_from, or_cases, ltb-true, lt-ltb, eqb-true, cond_both, cond-true}
use Rattle.quorum.specs.Sets.{has, set_of, all_below, joined}
use Rattle.quorum.specs.Members.{has_half, has_low}

-- the lowest place of two sets together
or_odd : (a b : ℕ) → eqb (bit_or a b % 2) 1 ≡ (eqb (a % 2) 1 || eqb (b % 2) 1)
or_odd a b = odd (bit_or a b) (bit_or (a / 2) (b / 2)) (a % 2) (b % 2) (or_step a b) (omega arith) (omega arith)
  where
    odd : (y x p q : ℕ) → y ≡ x * 2 + max p q → p < 2 → q < 2 → eqb (y % 2) 1 ≡ (eqb p 1 || eqb q 1)
    odd y x p q e h k = let z : y % 2 ≡ max p q = omega arith in grind (arith, nat_tests)

-- two sets together have the members of both
pub has_or : (a b i : ℕ) → has (bit_or a b) i ≡ (has a i || has b i)
has_or a b i = ap (λ (x : ℕ). eqb (x % 2) 1) (or_shr a b i) ∙ or_odd (a / 2 ^ i) (b / 2 ^ i)

-- the empty set
pub has_none : (i : ℕ) → has 0 i ≡ false
has_none zero = refl
has_none (suc i) = sym (has_half 0 i) ∙ has_none i

-- the set of one member
pub has_pow : (c i : ℕ) → has (2 ^ c) i ≡ eqb c i
has_pow zero zero = refl
has_pow zero (suc i) = sym (has_half 1 i) ∙ has_none i ∙ grind (arith, nat_tests)
has_pow (suc c) zero =
    let p = pow-suc 2 c in
    let z : (2 ^ suc c) % 2 ≡ 0 = omega arith in
    has_low (2 ^ suc c) ∙ grind (arith, nat_tests)
has_pow (suc c) (suc i) =
    let p = pow-suc 2 c in
    let z : (2 ^ suc c) / 2 ≡ 2 ^ c = omega arith in
    sym (has_half (2 ^ suc c) i) ∙ ap (λ (x : ℕ). has x i) z ∙ has_pow c i ∙ grind (arith, nat_tests)

-- the numbers below n that pass a test
pub has-set_of : (n : ℕ) (f : ℕ → Bool) (i : ℕ) → has (set_of n f) i ≡ (ltb i n && f i)
has-set_of zero f i = has_none i ∙ grind (arith, nat_tests)
has-set_of (suc n) f i = go (f n) refl (has-set_of n f i)
  where
    go : (t : Bool) → f n ≡ t → has (set_of n f) i ≡ (ltb i n && f i)
        → has (cond t (bit_or (set_of n f) (2 ^ n)) (set_of n f)) i ≡ (ltb i (suc n) && f i)
    go true e h = has_or (set_of n f) (2 ^ n) i ∙ joins (has (set_of n f) i) (has (2 ^ n) i) h (has_pow n i)
      where
        joins : (x y : Bool) → x ≡ (ltb i n && f i) → y ≡ eqb n i → (x || y) ≡ (ltb i (suc n) && f i)
        joins x y p q = elim (cases_eq i n) [
          | inl d ↦ let g : f i ≡ true = ap f d ∙ e in grind (arith, nat_tests)
          | inr d ↦ grind (arith, nat_tests)
        ]
    go false e h = h ∙ elim (cases_eq i n) [
      | inl d ↦ let g : f i ≡ false = ap f d ∙ e in grind (arith, nat_tests)
      | inr d ↦ grind (arith, nat_tests)
    ]

-- a set with one more member
pub has_joined : (s k i : ℕ) → k < 64 → has (joined s k) i ≡ (has s i || eqb k i)
has_joined s k i h = ap (λ (x : ℕ). has x i) (cond-true (ltb k 64) (bit_or s (2 ^ k)) s (lt-ltb k 64 h))
    ∙ has_or s (2 ^ k) i ∙ ap (λ (b : Bool). has s i || b) (has_pow k i)

pub of_set_of : (n : ℕ) (f : ℕ → Bool) (i : ℕ) → has (set_of n f) i ≡ true → (i < n) × (f i ≡ true)
of_set_of n f i h =
    let b = and_parts (ltb i n) (f i) (sym (has-set_of n f i) ∙ h) in
    (ltb-true i n b.0, b.1)

pub to_set_of : (n : ℕ) (f : ℕ → Bool) (i : ℕ) → i < n → f i ≡ true → has (set_of n f) i ≡ true
to_set_of n f i l h = has-set_of n f i ∙ and_from (ltb i n) (f i) (lt-ltb i n l) h

pub of_joined : (s k i : ℕ) → k < 64 → has (joined s k) i ≡ true → (has s i ≡ true) ⊎ (k ≡ i)
of_joined s k i l h = elim (or_cases (has s i) (eqb k i) (sym (has_joined s k i l) ∙ h)) [ inl a ↦ inl a | inr a ↦ inr (eqb-true k i a) ]

-- what is made of the numbers below n has no member from n on
pub set_of-within : (n : ℕ) (f : ℕ → Bool) → set_of n f < 2 ^ n
set_of-within zero f = omega arith
set_of-within (suc n) f =
    let r : set_of n f < 2 ^ n = set_of-within n f in
    let p : 2 ^ n < 2 ^ suc n = pow-lt (omega arith) in
    let q : set_of n f < 2 ^ suc n = omega arith in
    cond_both (f n) (bit_or (set_of n f) (2 ^ n)) (set_of n f) (λ (x : ℕ). x < 2 ^ suc n)
    (λ _. or_lt (suc n) (set_of n f) (2 ^ n) q p) (λ _. q)

pub joined_within : (n s k : ℕ) → k < n → n ≤ 64 → s < 2 ^ n → joined s k < 2 ^ n
joined_within n s k l m h = cond_both (ltb k 64) (bit_or s (2 ^ k)) s (λ (x : ℕ). x < 2 ^ n) (λ _. or_lt n s (2 ^ k) h (pow-lt l)) (λ _. h)

-- what every number below n passes
pub below_passes : (n : ℕ) (test : ℕ → Bool) (i : ℕ) → all_below n test ≡ true → i < n → test i ≡ true
below_passes zero test i h l = absurd (omega arith)
below_passes (suc n) test i h l =
    let b = and_parts (all_below n test) (test n) h in
    elim (cases_eq i n) [
      | inl e ↦ ap test e ∙ b.1
      | inr e ↦ below_passes n test i b.0 (omega arith)
    ]
