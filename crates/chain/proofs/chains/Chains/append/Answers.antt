use Rattle.std.proofs.Common.{arith}
use Rattle.chain.proofs.Meanings.{free_within, some_free, appended}
use Rattle.chain.proofs.chains.Chains.append.Goals as goal

pub bounds-self-spare : goal.bounds-self-spare
bounds-self-spare c = omega (arith, free_within c.args.self.now c.args.output.number c.args.output.inside c.requires.spare)

pub invariant_of-self : goal.invariant_of-self
invariant_of-self c =
    let r = c.requires in
    record { well_linked = rw (c.link.ensures.rows, c.link.ensures.tops) (appended c.args.self.now c.args.output.number c.args.output.inside c.args.pair _ r.found r.behind r.spare).0 }

pub returns : goal.returns
returns c =
    let r = c.requires in record {
      room = some_free c.args.self.now c.args.output.number c.args.output.inside r.spare;
      after = rw (c.link.ensures.rows, c.link.ensures.tops) (appended c.args.self.now c.args.output.number c.args.output.inside c.args.pair _ r.found r.behind r.spare).1;
    }
