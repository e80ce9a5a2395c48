use Rattle.field.specs.Views.{state_of}
use Rattle.field.proofs.Calling.{delivery_done, delivery_passed, deliverable}
use Rattle.field.proofs.open_field.OpenField.deliver.Goals as goal

pub hand_over-requires : goal.hand_over-requires
hand_over-requires g c =
    let i = g.I.QuorumSystem.meaning c.args.systems.now.inputs in
    let o = g.O.QuorumSystem.meaning c.args.systems.now.outputs in
    deliverable i o c.args.self.now c.args.log.now c.args.table.now c.args.number
    (delivery_passed i o c.args.self.now c.args.log.now c.args.table.now c.args.number c.requires c.in_ok-check_message.ensures)

pub returns-clause-does : goal.returns-clause-does
returns-clause-does g c =
    delivery_done (g.I.QuorumSystem.meaning c.args.systems.now.inputs) (g.O.QuorumSystem.meaning c.args.systems.now.outputs) c.args.number
    (state_of c.args.self.now c.args.log.now c.args.table.now) _ c.in_ok-check_message.ensures c.hand_over.ensures.does
