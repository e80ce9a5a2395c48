use Rattle.std.proofs.Common.{◌≡◌, length, refl, ap, ◌∙◌, arith}
use Rattle.std.proofs.lemmas.Iterator.Consumers.{YieldsList-from_first, count_from_yields_List}
use Rattle.std.proofs.lemmas.List.{length-map}
use Rattle.chain.specs.Records.{line}
use Rattle.chain.specs.Waiting.{waiting_for}
use Rattle.chain.proofs.chains.Chains.len.Goals as goal

pub returns : goal.returns
returns c =
    let shown = line c.waiting.result.records.now c.waiting.result.here in
    let counted : c.count.result ≡ length shown =
    count_from_yields_List _ _ c.count.ensures.ran (YieldsList-from_first (λ x. x) (λ s. line s.records.now s.here) _ refl) in
    let waits : length (waiting_for c.args.self.now c.args.output.number) ≡ length shown = ap length c.waiting.ensures.waits ∙ simp length-map in
    omega arith
