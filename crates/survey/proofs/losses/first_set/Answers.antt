use Rattle.std.proofs.Common.{rules, ◌≡◌, true, false, tests}
use lib.Count.{ones}
use Rattle.std.proofs.lemmas.Iterator.{first_from_Range}
use Rattle.survey.proofs.Passing.{set, first_to_pass}
use Rattle.survey.proofs.losses.first_set.Goals as goal

pub returns : goal.returns
returns g c =
    first_to_pass (goal.F-post g c.args.passes) c.args.size c.args.count _ _ _ (search rules)
    (first_from_Range _ _ _ _
    (λ i. (ones i ≡ c.args.size) × goal.F-post g c.args.passes (set i) true)
    (λ i. ones i ≡ c.args.size → goal.F-post g c.args.passes (set i) false)
    c.find.ensures.ran
    (λ x q k. search (rules, tests))
    (λ x q k. (search rules, search (rules, tests))))
    (search rules)
