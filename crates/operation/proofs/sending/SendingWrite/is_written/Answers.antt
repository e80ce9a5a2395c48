use Rattle.rules.specs.Operation.{counts}
use Rattle.operation.proofs.Gathered.{writes_gathered}
use Rattle.operation.proofs.sending.SendingWrite.is_written.Goals as goal

pub returns : goal.returns
returns g c =
    let inputs = g.I.QuorumSystem.meaning c.args.systems.now.inputs in
    writes_gathered (g.O.QuorumSystem.meaning c.args.systems.now.outputs) (counts inputs inputs.count c.args.self.now.named) _ _ _
    (g.met.O.QuorumSystem.lawful c.args.systems.now.outputs) c.count.ensures c.counted.ensures c.is_write_set.ensures
