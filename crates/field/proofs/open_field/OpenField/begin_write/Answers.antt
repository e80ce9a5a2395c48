use Rattle.std.proofs.Common.{refl, ap, arith}
use Rattle.rules.specs.Operation.{asking}
use Rattle.rules.specs.State.{State}
use Rattle.field.specs.Views.{state_of}
use Rattle.field.proofs.Begins.{beginnable, write_begun}
use Rattle.field.proofs.open_field.OpenField.begin_write.Goals as goal

pub log_all-requires : goal.log_all-requires
log_all-requires g c =
    let i = g.I.QuorumSystem.meaning c.args.systems.now.inputs in
    let o = g.O.QuorumSystem.meaning c.args.systems.now.outputs in
    let p = beginnable i o c.args.self.now c.args.log.now c.args.table.now c.args.object c.requires c.in_ok-check_beginning.ensures in
    omega (arith, p.room, ap (λ (s : State). s.made) (c.enter.ensures c.args.log.now))

pub returns-clause-does : goal.returns-clause-does
returns-clause-does g c =
    write_begun (g.I.QuorumSystem.meaning c.args.systems.now.inputs) (g.O.QuorumSystem.meaning c.args.systems.now.outputs) c.args.object c.args.value
    c.enter.new.self.counts.inputs.number (state_of c.args.self.now c.args.log.now c.args.table.now)
    (state_of c.enter.new.self c.args.log.now c.enter.new.table) _ _
    c.in_ok-check_beginning.ensures (c.enter.ensures c.args.log.now) (ap asking c.new-write.ensures) refl (c.log_all.ensures c.enter.new.table)
