-- The checker computes each line but those that speak of every set or of every time.
use Rattle.std.proofs.Common.{◌≡◌, ℕ, ◌<◌, ◌≤◌, true, false, ltb, refl, arith}
use lib.Count.{ones}
use Rattle.quorum.specs.Systems.{at_least}
use Rattle.rules.specs.Calls.{opening, advancing}
use Rattle.rules.specs.Input.{takes_write, queues_for, queues_all}
use Rattle.rules.specs.Output.{hears_all, after_answer}
use Rattle.guarantee.proofs.worked.worked_lines_hold.Goals as goal

too_few : (s : ℕ) → ones s ≡ 2 → at_least 3 5 s ≡ false
too_few s e = grind arith

enough : (s : ℕ) → s < 32 → ones s ≡ 3 → at_least 3 5 s ≡ true
enough s h e = grind arith

over : (time : ℕ) → 500 ≤ time → ltb time 500 ≡ false
over time h = grind arith

infixr 5 ◌next◌
◌next◌ : {A B : Type 0} → A → B → A × B
a next b = (a, b)

pub returns : goal.returns
unfolding ones opening advancing takes_write queues_for queues_all hears_all after_answer
returns c =
    (refl, refl)
    next (refl, refl)
    next (λ s h e. (too_few s e, too_few s e))
    next (λ s h e. (enough s h e, enough s h e))
    next (refl, refl)
    next (refl, refl)
    next (refl, refl)
    next (refl, refl)
    next (refl, refl)
    next (refl, refl)
    next (refl, refl)
    next (refl, refl)
    next (λ time h. (over time h, over time h))
    next (refl, refl)
    next (refl, refl)
    next (refl, refl, refl, refl, refl)
    next (refl, refl, refl, refl, refl)
    next tt
