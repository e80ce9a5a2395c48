use Rattle.std.proofs.Common.{rules, ◌≡◌, Bool, Some, None}
use Rattle.quorum.specs.declared.member_set.MemberSet.{MemberSet}
use Rattle.survey.specs.Losses.{sets_of, FirstToPass}
use Rattle.survey.proofs.FindMap.{first_mapped}
use Rattle.survey.proofs.Passing.{found_smallest}
use Rattle.survey.proofs.losses.smallest_set.Goals as goal

pub returns : goal.returns
returns g c =
    let system = g.Q.QuorumSystem.meaning c.args.system.now in
    let count = c.in_ok-count.count in
    let passes : MemberSet → Bool → Type 0 = λ s b. b ≡ sets_of c.args.family system s.0 in
    let counted = c.in_ok-count.ensures in (
      counted.0,
      found_smallest c.args.family system count c.find_map-smaller.result _ _ (g.met.Q.QuorumSystem.lawful c.args.system.now) counted.1 (search rules)
          (first_mapped (λ a r f k. search rules) (record { start = 0; end = count }) _
          (λ size s. FirstToPass passes size count (Some s)) (λ size. FirstToPass passes size count None)
          c.find_map-smaller.ensures.runs (λ x k. search rules) (λ x y k. search rules))
          c.unwrap_or.ensures,
    )
