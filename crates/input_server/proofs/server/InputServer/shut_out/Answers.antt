use Rattle.std.proofs.Common.{rules, tests, ℕ, ap, ◌∙◌, refl, arith}
use Rattle.std.proofs.lemmas.Iterator.{YieldsList-from_range}
use Rattle.std.proofs.lemmas.Iterator.Consumers.{YieldsList-at, YieldsList-from_filter, fold_from_yields_List}
use Rattle.quorum.specs.declared.member_set.MemberSet.{MemberSet}
use Rattle.quorum.specs.Chains.{with_member, set_by_chain}
use Rattle.quorum.specs.Sets.{set_of}
use Rattle.rules.specs.Input.{is_shut_out}
use Rattle.input_server.specs.Views.{input_of}
use Rattle.input_server.proofs.server.InputServer.shut_out.Goals as goal

pub returns : goal.returns
returns c =
    let test = is_shut_out (input_of c.args.self.now) c.args.object.number in
    ap (λ (s : MemberSet). s.0)
    (fold_from_yields_List _ with_member _ _ c.fold.ensures.ran
    (YieldsList-from_filter _ test (YieldsList-at c.filter.ensures.source (YieldsList-from_range 0 c.get.result c.get.result refl (omega arith)))
    c.filter.ensures.closure (λ x b q k. search (rules, tests)))
    (λ a x b q k. search rules)
    ∙ set_by_chain c.get.result test (omega (arith, c.get.ensures.inside)))
    ∙ ap (λ (n : ℕ). set_of n test) c.get.ensures.is
