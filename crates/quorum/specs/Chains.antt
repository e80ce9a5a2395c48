-- What a chain of iterators over the numbers below n gives, as the definitions over these numbers
-- have it.
use Rattle.std.specs.Prelude.{◌≡◌, ℕ, zero, suc, ◌+◌, ◌^◌, ◌<◌, ◌≤◌, Bool, true, false, if◌then◌else◌, ◌&&◌, List, [], ◌∷◌, ◌++◌, bit_or, filter, fold, refl}
use Rattle.std.proofs.Common.{ap, ◌∙◌, arith, lt-ltb}
use Rattle.std.specs.List.{list_all, range_with_len}
use Rattle.std.proofs.lemmas.List.Elements.{filter-append}
use Rattle.std.proofs.lemmas.List.Folds.{list_all-append}
use Rattle.std.proofs.lemmas.List.Sums.{fold-append}
use Rattle.quorum.specs.declared.member_set.MemberSet.{MemberSet}
use Rattle.quorum.specs.Sets.{joined, set_of, all_below}

-- the numbers below n and one more are those below n, and then n
range_more : (a n j : ℕ) → a + n ≡ j → range_with_len a (suc n) ≡ range_with_len a n ++ j ∷ []
range_more a zero j e = let f : a ≡ j = omega arith in ap (λ (k : ℕ). k ∷ []) f
range_more a (suc n) j e = ap (λ (l : List ℕ). a ∷ l) (range_more (a + 1) n j (omega arith))

and_true : (b : Bool) → (b && true) ≡ b
and_true true = refl
and_true false = refl

-- `all` over the numbers below n
pub all_by_chain : (n : ℕ) (test : ℕ → Bool) → list_all test (range_with_len 0 n) ≡ all_below n test
all_by_chain zero test = refl
all_by_chain (suc n) test =
    ap (list_all test) (range_more 0 n n (omega arith))
    ∙ list_all-append test (range_with_len 0 n) (n ∷ [])
    ∙ ap (λ (a : Bool). a && (test n && true)) (all_by_chain n test)
    ∙ ap (λ (b : Bool). all_below n test && b) (and_true (test n))

-- one member more
abbrev pub with_member : MemberSet → ℕ → MemberSet
with_member s i = record { 0 = joined s.0 i }

join_last : (n s : ℕ) (b : Bool) → n < 64
    → fold with_member (record { 0 = s }) (if b then n ∷ [] else []) ≡ record { 0 = if b then bit_or s (2 ^ n) else s }
join_last n s true l = ap (λ (c : Bool). record { 0 = if c then bit_or s (2 ^ n) else s }) (lt-ltb n 64 l)
join_last n s false l = refl

-- the members that pass, gathered one by one
pub set_by_chain : (n : ℕ) (test : ℕ → Bool) → n ≤ 64
    → fold with_member (record { 0 = 0 }) (filter test (range_with_len 0 n)) ≡ record { 0 = set_of n test }
set_by_chain zero test l = refl
set_by_chain (suc n) test l =
    ap (λ (xs : List ℕ). fold with_member (record { 0 = 0 }) (filter test xs)) (range_more 0 n n (omega arith))
    ∙ ap (fold with_member (record { 0 = 0 })) (filter-append test (range_with_len 0 n) (n ∷ []))
    ∙ fold-append with_member (record { 0 = 0 }) (filter test (range_with_len 0 n)) (filter test (n ∷ []))
    ∙ ap (λ (s : MemberSet). fold with_member s (filter test (n ∷ []))) (set_by_chain n test (omega arith))
    ∙ join_last n (set_of n test) (test n) (omega arith)
