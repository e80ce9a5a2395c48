use Rattle.quorum.specs.Sets.{has}
use Rattle.rules.specs.Operation.{named_by}
use Rattle.operation.proofs.Gathered.{writes_gathered}
use Rattle.operation.proofs.sending.SendingWrite.is_counted.Goals as goal

pub returns : goal.returns
returns g c =
    writes_gathered (g.I.QuorumSystem.meaning c.args.inputs.now) (λ i. has (named_by c.args.self.now.named i) c.args.output) _ _ _
    (g.met.I.QuorumSystem.lawful c.args.inputs.now) c.count.ensures c.namers.ensures c.is_write_set.ensures
