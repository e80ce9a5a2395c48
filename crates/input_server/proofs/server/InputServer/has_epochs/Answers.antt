use Rattle.std.proofs.Common.{rules, tests, ℕ, ap, ◌∙◌, refl, arith}
use Rattle.std.proofs.lemmas.Iterator.{YieldsList-from_range}
use Rattle.std.proofs.lemmas.Iterator.Search.{all_from_yields_List}
use Rattle.quorum.specs.Chains.{all_by_chain}
use Rattle.quorum.specs.Sets.{all_below}
use Rattle.input_server.specs.Epochs.{has_epoch}
use Rattle.input_server.proofs.server.InputServer.has_epochs.Goals as goal

pub returns : goal.returns
returns c =
    let test = has_epoch c.args.self.now.ledgers in
    all_from_yields_List test _ _ _ c.all.ensures.ran (YieldsList-from_range 0 c.index.result c.index.result refl (omega arith)) (λ x b q k. search (rules, tests))
    ∙ all_by_chain c.index.result test
    ∙ ap (λ (n : ℕ). all_below n test) c.index.ensures.is
