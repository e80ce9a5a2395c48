use Rattle.std.proofs.Common.{◌<◌, arith}
use Rattle.std.proofs.lemmas.Bool.{or_left}
use Rattle.chain.proofs.Meanings.{named, renewed_queued}
use Rattle.chain.proofs.chains.Chains.queue.Goals as goal

pub invariant_of-self : goal.invariant_of-self
invariant_of-self c = record { well_linked = (renewed_queued c.args.self.now c.args.output.number c.args.output.inside c.args.pair _ c.find-place.ensures (omega arith)).0 }

pub returns-then-place-ne-END : goal.returns-then-place-ne-END
returns-then-place-ne-END c =
    let s = c.args.self.now in
    let some : 0 < c.find-place.result.here = omega arith in
    (or_left _ _ (named s c.args.output.number c.args.output.inside _ _ c.find-place.ensures some), (renewed_queued s c.args.output.number c.args.output.inside c.args.pair _ c.find-place.ensures some).1)
