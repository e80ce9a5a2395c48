use Rattle.std.proofs.Common.{rules, tests, ℕ, Bool, ap, ◌∙◌, refl, arith, nat_le}
use Rattle.std.proofs.lemmas.Iterator.{YieldsList-from_range}
use Rattle.std.proofs.lemmas.Iterator.Search.{all_from_yields_List}
use Rattle.quorum.specs.Chains.{all_by_chain}
use Rattle.quorum.specs.Sets.{all_below}
use Rattle.rules.specs.Output.{copy_of, link, newest_of}
use Rattle.output_server.specs.Views.{output_of}
use Rattle.output_server.proofs.server.OutputServer.is_newest.Goals as goal

pub returns : goal.returns
returns c =
    let O = output_of c.args.self.now in
    let o = c.args.object.number in
    let test : ℕ → Bool = λ i. nat_le (copy_of (link O i) o).known.0 (newest_of O o).version.0 in
    all_from_yields_List test _ _ _ c.all.ensures.ran (YieldsList-from_range 0 c.index-2.result c.index-2.result refl (omega arith)) (λ x b q k. search (rules, tests))
    ∙ all_by_chain c.index-2.result test
    ∙ ap (λ (n : ℕ). all_below n test) c.index-2.ensures.is
