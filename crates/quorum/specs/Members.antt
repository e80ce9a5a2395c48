-- Members of sets: how many a set has, and that two large sets share one.
use Rattle.std.specs.Prelude.{◌≡◌, ℕ, zero, suc, ◌+◌, ◌/◌, ◌%◌, ◌^◌, ◌<◌, ◌≤◌, true, false, ◌⊎◌, ◌==◌, count_ones, nat_eq, nat_lt}
use Rattle.std.proofs.Common.{sym, ap, ◌∙◌, inl, inr, pow-suc, one-add, arith, pow_pos, pow_mono, shr-shr}
use Rattle.std.proofs.Math.Nat.{div-eq_of_lt}
use Rattle.std.specs.Int.Count.{ones_step}
use Rattle.std.proofs.lemmas.Nat.{ones-le}
use Rattle.std.proofs.lemmas.Bool.Decides.{nat_tests}
use Rattle.quorum.specs.Sets.{has, Within, full}

-- the members of s but the lowest, each one place down
pub has_half : (s i : ℕ) → has (s / 2) i ≡ has s (suc i)
has_half s i = ap (λ (x : ℕ). nat_eq (x % 2) 1) (shr-shr s 1 i ∙ ap (λ (x : ℕ). s / 2 ^ x) (one-add i))

-- the lowest member
pub has_low : (s : ℕ) → has s 0 ≡ (s % 2 == 1)
has_low s = let e : s / 2 ^ 0 ≡ s = omega arith in ap (λ (x : ℕ). nat_eq (x % 2) 1) e

half_lt : (k s : ℕ) → s < 2 ^ suc k → s / 2 < 2 ^ k
half_lt k s h = let e = pow-suc 2 k in omega arith

ones_zero : (s : ℕ) → s < 2 ^ 0 → count_ones s ≡ 0
ones_zero s h = let l : count_ones s ≤ 0 = ones-le 0 s h in omega arith

within_half : (s t : ℕ) → Within s t → Within (s / 2) (t / 2)
within_half s t w i b = has_half t i ∙ w (suc i) (sym (has_half s i) ∙ b)

within_low : (s t : ℕ) → (has s 0 ≡ true → has t 0 ≡ true) → s % 2 ≤ t % 2
within_low s t h =
    let a = has_low s in
    let b = has_low t in
    go (grind arith)
  where
    go : (s % 2 ≡ 0) ⊎ (s % 2 ≡ 1) → s % 2 ≤ t % 2
    go (inl e) = omega arith
    go (inr e) = low (has_low t) (h (has_low s ∙ grind (arith, nat_tests)))
      where
        low : has t 0 ≡ (t % 2 == 1) → has t 0 ≡ true → s % 2 ≤ t % 2
        low p q = let r : nat_eq (t % 2) 1 ≡ true = sym p ∙ q in grind (arith, nat_tests)

-- Two sets of k members that have more than k in all share one.
pub share : (k s t : ℕ) → s < 2 ^ k → t < 2 ^ k → k < count_ones s + count_ones t
    → (i : ℕ) × (i < k) × (has s i ≡ true) × (has t i ≡ true)
share zero s t hs ht h =
    let a = ones_zero s hs in
    let b = ones_zero t ht in
    absurd (omega arith)
share (suc k) s t hs ht h = go (share k (s / 2) (t / 2) (half_lt k s hs) (half_lt k t ht)) low
  where
    low : ((s % 2 ≡ 1) × (t % 2 ≡ 1)) ⊎ (s % 2 + t % 2 ≤ 1)
    low = grind arith

    odd : (x : ℕ) → x % 2 ≡ 1 → has x 0 ≡ true
    odd x e = has_low x ∙ grind (arith, nat_tests)

    go : (k < count_ones (s / 2) + count_ones (t / 2) → (i : ℕ) × (i < k) × (has (s / 2) i ≡ true) × (has (t / 2) i ≡ true))
        → ((s % 2 ≡ 1) × (t % 2 ≡ 1)) ⊎ (s % 2 + t % 2 ≤ 1)
        → (i : ℕ) × (i < suc k) × (has s i ≡ true) × (has t i ≡ true)
    go rest (inl e) = (zero, omega arith, odd s e.0, odd t e.1)
    go rest (inr l) =
        let a = ones_step s in
        let b = ones_step t in
        let r = rest (omega arith) in
        (suc r.0, omega arith, sym (has_half s r.0) ∙ r.2, sym (has_half t r.0) ∙ r.3)

-- a part has no more members
pub ones_within : (k s t : ℕ) → s < 2 ^ k → Within s t → count_ones s ≤ count_ones t
ones_within zero s t hs w = let a = ones_zero s hs in omega arith
ones_within (suc k) s t hs w =
    let r = ones_within k (s / 2) (t / 2) (half_lt k s hs) (within_half s t w) in
    let a = ones_step s in
    let b = ones_step t in
    let low = within_low s t (w 0) in
    omega arith

-- k members of k are all
pub ones_full : (k s : ℕ) → s < 2 ^ k → k ≤ count_ones s → s ≡ full k
ones_full zero s hs h = omega arith
ones_full (suc k) s hs h =
    let a = ones_step s in
    let small = ones-le k (s / 2) (half_lt k s hs) in
    let r : s / 2 ≡ full k = ones_full k (s / 2) (half_lt k s hs) (omega arith) in
    let e = pow-suc 2 k in
    let p = pow_pos k in
    omega arith

-- ---- a set is a number of 64 binary places

-- no number of 64 and up is a member
pub has_beyond : (s i : ℕ) → s < 2 ^ 64 → 64 ≤ i → has s i ≡ false
has_beyond s i b l =
    let m : 2 ^ 64 ≤ 2 ^ i = pow_mono l in
    let e : s / 2 ^ i ≡ 0 = div-eq_of_lt (omega arith) in
    ap (λ (x : ℕ). nat_eq (x % 2) 1) e

-- with 64 places and up every set is inside
pub inside_beyond : (s n : ℕ) → s < 2 ^ 64 → 64 ≤ n → nat_lt s (2 ^ n) ≡ true
inside_beyond s n b l = let m : 2 ^ 64 ≤ 2 ^ n = pow_mono l in grind (arith, nat_tests)

-- more than 64 members are in no set
pub full_beyond : (s n : ℕ) → s < 2 ^ 64 → 64 < n → (s == full n) ≡ false
full_beyond s n b l = let m : 2 ^ 65 ≤ 2 ^ n = pow_mono l in grind (arith, nat_tests)
