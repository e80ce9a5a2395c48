use Rattle.std.proofs.Common.{rules}
use Rattle.chain.specs.Records.{blank}
use Rattle.chain.proofs.Fresh.{fresh_chains}
use Rattle.chain.proofs.chains.Chains.new.Goals as goal

pub invariant_of-result : goal.invariant_of-result
invariant_of-result c =
    let made = c.from_fn.ensures.items in
    record { well_linked = (fresh_chains c.from_fn.result made.long (λ k h. let m = made.at k blank h in search rules)).0 }

pub returns : goal.returns
returns c =
    let made = c.from_fn.ensures.items in
    (fresh_chains c.from_fn.result made.long (λ k h. let m = made.at k blank h in search rules)).1
