-- The laws of the systems, each from sizes alone.
use Rattle.std.specs.Prelude.{◌≡◌, ℕ, ◌+◌, ◌/◌, ◌^◌, ◌<◌, ◌≤◌, true, ◌==◌, count_ones, nat_eq}
use Rattle.std.proofs.Common.{ap, ◌∙◌, arith}
use Rattle.std.specs.Int.Count.{ones-ones}
use Rattle.std.proofs.Math.Pow.{ones_lt}
use Rattle.quorum.specs.Sets.{has, full}
use Rattle.quorum.specs.Systems.{Lawful, Family, at_least, majority, read_one_write_all}
use Rattle.quorum.specs.Members.{share, ones_within, ones_full}

pub record Large (k n s : ℕ) : Type 0 where
  pub inside : s < 2 ^ n
  pub many : k ≤ count_ones s

of_large : (k n s : ℕ) → at_least k n s ≡ true → Large k n s
of_large k n s e = grind arith

to_large : (k n s : ℕ) → Large k n s → at_least k n s ≡ true
to_large k n s m = grind arith

-- the sets of at least k of n members are a family
pub large_family : (k n : ℕ) → k ≤ n → Family n (at_least k n)
large_family k n l = record {
  all = let a = ones-ones n in to_large k n (full n) (record { inside = ones_lt n; many = omega arith });
  inside = λ s e. (of_large k n s e).inside;
  upward = λ s t e w b.
      let m = of_large k n s e in
      let u = ones_within n s t m.inside w in
      to_large k n t (record { inside = b; many = omega arith });
}

-- two such families meet where their sizes together pass the count
pub large_meet : (j k n s t : ℕ) → n < j + k → at_least j n s ≡ true → at_least k n t ≡ true
    → (i : ℕ) × (i < n) × (has s i ≡ true) × (has t i ≡ true)
large_meet j k n s t l es et =
    let a = of_large j n s es in
    let b = of_large k n t et in
    share n s t a.inside b.inside (omega arith)

pub majority_lawful : (n : ℕ) → 1 ≤ n → n ≤ 64 → Lawful (majority n)
majority_lawful n p l = record {
  some = p;
  few = l;
  read_family = large_family (n / 2 + 1) n (omega arith);
  write_family = large_family (n / 2 + 1) n (omega arith);
  meet = λ s t. large_meet (n / 2 + 1) (n / 2 + 1) n s t (omega arith);
}

-- the full set is the one set of at least n of n members
of_full : (n s : ℕ) → (s == full n) ≡ true → at_least n n s ≡ true
of_full n s e =
    let f : s ≡ full n = grind arith in
    let o = ap count_ones f ∙ ones-ones n in
    let b = ones_lt n in
    to_large n n s (record { inside = omega arith; many = omega arith })

to_full : (n s : ℕ) → at_least n n s ≡ true → (s == full n) ≡ true
to_full n s e =
    let m = of_large n n s e in
    let f = ones_full n s m.inside m.many in
    grind arith

full_family : (n : ℕ) → Family n (λ s. nat_eq s (full n))
full_family n = let f = large_family n n (omega arith) in record {
  all = to_full n (full n) f.all;
  inside = λ s e. f.inside s (of_full n s e);
  upward = λ s t e w b. to_full n t (f.upward s t (of_full n s e) w b);
}

pub read_one_write_all_lawful : (n : ℕ) → 1 ≤ n → n ≤ 64 → Lawful (read_one_write_all n)
read_one_write_all_lawful n p l = record {
  some = p;
  few = l;
  read_family = large_family 1 n p;
  write_family = full_family n;
  meet = λ s t es et. large_meet 1 n n s t (omega arith) es (of_full n t et);
}
