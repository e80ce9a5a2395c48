-- What the loops over the servers of a side come to.
use Rattle.std.proofs.Common.{◌≡◌, ℕ, zero, suc, ◌+◌, ◌<◌, ◌≤◌, Bool, true, false, ◌&&◌, leb, List, [], ◌∷◌, map, length, get_or, set, sym, refl, ap, ◌∙◌, add-one, arith}
use Rattle.std.proofs.lemmas.Bool.{and_parts}
use Rattle.std.proofs.lemmas.List.{map-set, get_or-map, get_or-set_other}
use Rattle.std.specs.List.{list_all, zip}
use Rattle.quorum.specs.Sets.{all_below}
use Rattle.numbers.specs.declared.time.Time.{Time}
use Rattle.numbers.specs.Numbers.{last_time}
use Rattle.field.specs.Servers.{all_stay, all_later}

-- ---- all of them stay

-- the first of them, and then the others
first_and_others : (n : ℕ) (test : ℕ → Bool) → (test 0 && all_below n (λ i. test (suc i))) ≡ all_below (suc n) test
first_and_others zero test = elim (test 0) as (λ b. (b && true) ≡ b) [ true ↦ refl | false ↦ refl ]
first_and_others (suc n) test =
    elim (test 0) as (λ b. (b && (all_below n (λ i. test (suc i)) && test (suc n))) ≡ ((b && all_below n (λ i. test (suc i))) && test (suc n)))
    [ true ↦ refl | false ↦ refl ]
    ∙ ap (λ (b : Bool). b && test (suc n)) (first_and_others n test)

-- a test of pairs, server by server
pub all_by_zip : {X A : Type 0} (view : X → A) (none : A) (test : A → ℕ → Bool) (xs : List X) (ys : List ℕ) → length ys ≤ length xs
    → list_all (λ p. test (view p.0) p.1) (zip xs ys) ≡ all_below (length ys) (λ i. test (get_or (map view xs) i none) (get_or ys i 0))
all_by_zip view none test [] [] h = refl
all_by_zip view none test (x ∷ xs) [] h = refl
all_by_zip view none test [] (y ∷ ys) h = absurd (omega arith)
all_by_zip view none test (x ∷ xs) (y ∷ ys) h =
    ap (λ (b : Bool). test (view x) y && b) (all_by_zip view none test xs ys (omega arith))
    ∙ first_and_others (length ys) (λ i. test (get_or (map view (x ∷ xs)) i none) (get_or (y ∷ ys) i 0))

-- what holds of all below n holds of each
pub all_below_at : (n : ℕ) (test : ℕ → Bool) (i : ℕ) → i < n → all_below n test ≡ true → test i ≡ true
all_below_at zero test i h e = absurd (omega arith)
all_below_at (suc n) test i h e =
    let p = and_parts (all_below n test) (test n) e in
    grind (arith, p.0, p.1, all_below_at n test i)

-- ---- each so much later

-- those whose turn has not come are as they were
pub later_waits : {A : Type 0} (later : ℕ → A → A) (none : A) (xs : List ℕ) (c k : ℕ) (us : List A) → c ≤ k
    → get_or (all_later later none xs c us) k none ≡ get_or us k none
later_waits later none xs zero k us h = refl
later_waits later none xs (suc c) k us h =
    get_or-set_other (all_later later none xs c us) c k _ none (omega arith) ∙ later_waits later none xs c k us (omega arith)

-- one turn more
pub later_more : {X A : Type 0} (view : X → A) (later : ℕ → A → A) (none : A) (xs : List ℕ) (c : ℕ) (ss : List X) (us : List A) (y : X) (z : A)
    → map view ss ≡ all_later later none xs c us → z ≡ get_or (map view ss) c none → view y ≡ later (get_or xs c 0) z
    → map view (set ss c y) ≡ all_later later none xs (c + 1) us
later_more view later none xs c ss us y z e f g =
    map-set view ss c y
    ∙ ap (set (map view ss) c) (g ∙ ap (later (get_or xs c 0)) f)
    ∙ ap (λ (l : List _). set l c (later (get_or xs c 0) (get_or l c none))) e
    ∙ sym (ap (λ (n : ℕ). all_later later none xs n us) (add-one c))

-- and the next clock can show its increment
pub may_pass : {X A : Type 0} (view : X → A) (shows : A → Time) (later : ℕ → A → A) (none : A) (xs : List ℕ) (c : ℕ) (ss : List X) (us : List A) (d : X)
    → map view ss ≡ all_later later none xs c us → c < length xs → c < length ss → all_stay shows none xs us ≡ true
    → leb ((shows (view (get_or ss c d))).0 + get_or xs c 0) last_time ≡ true
may_pass view shows later none xs c ss us d e h l stay =
    ap (λ (a : _). leb ((shows a).0 + get_or xs c 0) last_time)
    (sym (get_or-map view ss c d none l) ∙ ap (λ (s : List _). get_or s c none) e ∙ later_waits later none xs c c us (omega arith))
    ∙ all_below_at (length xs) (λ i. leb ((shows (get_or us i none)).0 + get_or xs i 0) last_time) c h stay
