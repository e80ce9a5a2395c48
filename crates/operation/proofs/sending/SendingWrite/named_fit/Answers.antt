use Rattle.std.proofs.Common.{ℕ, ◌^◌, Bool, cond, eqb, ltb, refl, ◌∙◌, rules}
use Rattle.std.proofs.lemmas.Iterator.{YieldsList-from_range}
use Rattle.std.proofs.lemmas.Iterator.Search.{all_from_yields_List}
use Rattle.quorum.specs.Chains.{all_by_chain}
use Rattle.rules.specs.Operation.{named_by}
use Rattle.rules.specs.Ranges.{named_fit}
use Rattle.operation.proofs.sending.SendingWrite.named_fit.Goals as goal

pub returns : goal.returns
unfolding named_fit
returns c =
    let test : ℕ → Bool =
    λ i. cond (ltb i c.args.counts.inputs.number) (ltb (named_by c.args.self.now.named i) (2 ^ c.args.counts.outputs.number)) (eqb (named_by c.args.self.now.named i) 0) in
    all_from_yields_List test _ _ _ c.all.ensures.ran (YieldsList-from_range 0 8 8 refl refl) (λ x b q k. search rules) ∙ all_by_chain 8 test
