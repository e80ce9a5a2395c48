use Rattle.chain.proofs.Meanings.{none_free}
use Rattle.chain.proofs.chains.Chains.release.Goals as goal

pub returns-clause-full : goal.returns-clause-full
returns-clause-full c = none_free c.args.self.now c.args.output.number c.args.output.inside c.requires
