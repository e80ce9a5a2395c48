-- The lowest number of a range that passes is the lowest set that passes, as `first_set` gives it.
use Rattle.std.proofs.Common.{◌≡◌, ℕ, ◌^◌, ◌<◌, ◌≤◌, Bool, true, false, Option, Some, None, subst, sym, refl, ap, ◌∙◌, arith}
use lib.Count.{ones}
use Rattle.std.specs.Option.{MatchOption, unwrap_or}
use Rattle.quorum.specs.Sets.{full}
use Rattle.quorum.specs.Systems.{System, Lawful}
use Rattle.quorum.specs.declared.member_set.MemberSet.{MemberSet}
use Rattle.survey.specs.declared.losses.Family.{Family}
use Rattle.survey.specs.Losses.{sets_of, FirstToPass}
use Rattle.survey.specs.Smallest.{Smallest}
use Rattle.survey.proofs.Full.{full_smallest}

abbrev pub set : ℕ → MemberSet
set i = record { 0 = i }

pub first_to_pass : (passes : MemberSet → Bool → Type 0) (k n end : ℕ) (found : Option ℕ) (r : Option MemberSet) → end ≡ 2 ^ n
    → MatchOption found ((i : ℕ) → 0 ≤ i → i < end → ones i ≡ k → passes (set i) false) (λ i. (0 ≤ i) × (i < end) × ((ones i ≡ k) × passes (set i) true) × ((j : ℕ) → 0 ≤ j → j < i → ones j ≡ k → passes (set j) false))
    → MatchOption found (r ≡ None) (λ i. r ≡ Some (set i))
    → FirstToPass passes k n r
first_to_pass passes k n end None r e found is = subst (FirstToPass passes k n) (sym is) (λ s of. found s (omega arith) (omega arith) of.size)
first_to_pass passes k n end (Some i) r e found is =
    subst (FirstToPass passes k n) (sym is) (record { inside = omega arith; size = found.2.0 }, found.2.1, λ t low size. found.3 t (omega arith) low size)

-- where no set of fewer than i members passes, each set that passes has i members at least
at_least : (i n t : ℕ) (test : ℕ → Bool) → t < 2 ^ n → test t ≡ true
    → ((k : ℕ) → 0 ≤ k → k < i → FirstToPass (λ s b. b ≡ test s.0) k n None) → i ≤ ones t
at_least i n t test inside passes none =
    let fewer : ones t < i → 1 ≤ 0 = λ l. let no : false ≡ test t = none (ones t) (omega arith) l t (record { inside = inside; size = refl }) in absurd (cc) in grind arith

-- the smallest set of a family, from the first size below n at which a set of the family was found, and all n members where none was
pub found_smallest : (f : Family) (q : System) (n : ℕ) (found : Option MemberSet) (all r : MemberSet) → Lawful q → n ≡ q.count → all.0 ≡ full n
    → MatchOption found
    ((k : ℕ) → 0 ≤ k → k < n → FirstToPass (λ s b. b ≡ sets_of f q s.0) k n None)
    (λ s. (i : ℕ) × (0 ≤ i) × (i < n) × FirstToPass (λ s b. b ≡ sets_of f q s.0) i n (Some s) × ((k : ℕ) → 0 ≤ k → k < i → FirstToPass (λ s b. b ≡ sets_of f q s.0) k n None))
    → r ≡ unwrap_or found all
    → Smallest (sets_of f q) q.count r.0
found_smallest f q n None all r l c filled none is =
    let e : r.0 ≡ all.0 = ap (λ (s : MemberSet). s.0) is in
    full_smallest f q n r.0 l c (e ∙ filled) (λ t b p. at_least n n t (sets_of f q) b p none)
found_smallest f q n (Some s) all r l c filled some is =
    let e : r.0 ≡ s.0 = ap (λ (s : MemberSet). s.0) is in
    let in_q : 2 ^ q.count ≡ 2 ^ n = ap (λ (m : ℕ). 2 ^ m) (sym c) in
    let first = some.3 in
    subst (Smallest (sets_of f q) q.count) (sym e) (record {
      inside = sym first.1;
      fewest = λ t b p. let m = at_least some.0 n t (sets_of f q) (omega arith) p some.4 in omega (arith, first.0.size);
      lowest = λ t b p same. let lower : t < s.0 → 1 ≤ 0 = λ l. let no : false ≡ sets_of f q t = first.2 t l (omega (arith, first.0.size)) in absurd (cc) in grind arith;
    })
