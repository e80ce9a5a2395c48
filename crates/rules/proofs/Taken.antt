-- Reading the pairs of a message's list where they lie.
use Rattle.std.proofs.Common.{◌≡◌, ℕ, ◌+◌, ◌<◌, ◌≤◌, true, ltb, [], ◌∷◌, ◌++◌, length, get_or, take, Some, None, sym, ap, ◌∙◌, add-one, arith, length-take, take_all, get_or-take, take-suc}
use Rattle.std.proofs.lemmas.Bool.{lt-ltb, cond-true}
use Rattle.rules.specs.declared.pairs.Pair.{Pair}
use Rattle.rules.specs.declared.pairs.Pairs.{Pairs}
use Rattle.rules.specs.Lists.{no_pair, list_of, pair_at}

pub taken_few : (l : Pairs) → length l.items ≡ 8 → l.count < 8 → l.count ≡ length (list_of l)
taken_few l e h = let z = length-take l.count l.items in omega arith

pub taken_all : (l : Pairs) → length l.items ≡ 8 → 8 ≤ l.count → 8 ≡ length (list_of l)
taken_all l e h = let z = length-take l.count l.items in omega arith

pub pair_at_lem : (l : Pairs) (k n : ℕ) → n ≡ length (list_of l) → k < n → Some (get_or l.items k no_pair) ≡ pair_at k l
pair_at_lem l k n e h =
    let z = length-take l.count l.items in
    let b : k < l.count = omega arith in
    let p : ltb k (length (list_of l)) ≡ true = lt-ltb k (length (list_of l)) (omega arith) in
    ap (λ (x : Pair). Some x) (sym (get_or-take l.count l.items k no_pair b))
    ∙ sym (cond-true (ltb k (length (list_of l))) (Some (get_or (list_of l) k no_pair)) None p)

pub pair_below : (l : Pairs) (k n : ℕ) → length l.items ≡ 8 → n ≡ length (list_of l) → k < n → k < 8
pair_below l k n e f h = let z = length-take l.count l.items in omega arith

-- a loop over the pairs: the pair at its place is there, and is the next one
pub pair_there : (l : Pairs) (k : ℕ) → k < length (list_of l) → pair_at k l ≡ Some (get_or (list_of l) k no_pair)
pair_there l k h = cond-true (ltb k (length (list_of l))) (Some (get_or (list_of l) k no_pair)) None (lt-ltb k (length (list_of l)) h)

pub list_more : (l : Pairs) (k : ℕ) → k < length (list_of l) → take (k + 1) (list_of l) ≡ take k (list_of l) ++ (get_or (list_of l) k no_pair ∷ [])
list_more l k h = ap (λ (n : ℕ). take n (list_of l)) (add-one k) ∙ take-suc (list_of l) k no_pair h

pub list_whole : (l : Pairs) (k : ℕ) → length (list_of l) ≤ k → take k (list_of l) ≡ list_of l
list_whole l k h = take_all k (list_of l) h
