use Rattle.std.proofs.Common.{Some, sym, ◌∙◌}
use Rattle.std.proofs.lemmas.Result.{err_from_is_err_and}
use Rattle.guarantee.specs.Story.{to_open, outcome_of}
use Rattle.rules.specs.Said.{accepted, refused}
use Rattle.field.specs.Views.{field_of}
use Rattle.field.proofs.Continued.{guaranteed}
use Rattle.field.proofs.Opens.{open_again, open_refuses, opens}
use Rattle.field.proofs.Invariant.{in_bounds_after}
use Rattle.field.proofs.field.Field.open.Goals as goal

pub returns-then-is_some-clause-does : goal.returns-then-is_some-clause-does
returns-then-is_some-clause-does g c =
    open_again (g.I.QuorumSystem.meaning c.args.systems.now.inputs) (g.O.QuorumSystem.meaning c.args.systems.now.outputs) _ _ _ _
    c.args.self.now.inside c.args.log.now c.args.table.now (sym c.is_some.ensures ∙ c.if-is_some.true)

pub returns-then-is_some-clause-guaranteed : goal.returns-then-is_some-clause-guaranteed
unfolding outcome_of
returns-then-is_some-clause-guaranteed g c =
    let i = g.I.QuorumSystem.meaning c.args.systems.now.inputs in
    let o = g.O.QuorumSystem.meaning c.args.systems.now.outputs in
    let s = field_of c.args.self.now.inside c.args.log.now c.args.table.now in
    guaranteed i o (g.met.I.QuorumSystem.lawful c.args.systems.now.inputs) (g.met.O.QuorumSystem.lawful c.args.systems.now.outputs)
    (to_open c.args.opening.objects c.args.opening.lease c.args.opening.drift c.args.clocks.now) s s (refused 1)
    (open_again i o _ _ _ _ c.args.self.now.inside c.args.log.now c.args.table.now (sym c.is_some.ensures ∙ c.if-is_some.true))

pub returns-in_err-check_opening-clause-does : goal.returns-in_err-check_opening-clause-does
returns-in_err-check_opening-clause-does g c =
    let i = g.I.QuorumSystem.meaning c.args.systems.now.inputs in
    let o = g.O.QuorumSystem.meaning c.args.systems.now.outputs in
    let p = err_from_is_err_and c.from_residual.result c.from_residual.ensures.1 in
    rw (p.1, p.2)
    (open_refuses i o c.args.opening.objects c.args.opening.lease c.args.opening.drift c.args.clocks.now c.args.self.now.inside c.args.log.now c.args.table.now _ _ _
    (sym c.is_some.ensures ∙ c.if-is_some.false) c.count-n.ensures c.count-m.ensures c.in_err-check_opening.ensures)

pub returns-in_err-check_opening-clause-guaranteed : goal.returns-in_err-check_opening-clause-guaranteed
unfolding outcome_of
returns-in_err-check_opening-clause-guaranteed g c =
    let i = g.I.QuorumSystem.meaning c.args.systems.now.inputs in
    let o = g.O.QuorumSystem.meaning c.args.systems.now.outputs in
    let s = field_of c.args.self.now.inside c.args.log.now c.args.table.now in
    let p = err_from_is_err_and c.from_residual.result c.from_residual.ensures.1 in
    rw (p.1, p.2)
    (guaranteed i o (g.met.I.QuorumSystem.lawful c.args.systems.now.inputs) (g.met.O.QuorumSystem.lawful c.args.systems.now.outputs)
    (to_open c.args.opening.objects c.args.opening.lease c.args.opening.drift c.args.clocks.now) s s _
    (open_refuses i o c.args.opening.objects c.args.opening.lease c.args.opening.drift c.args.clocks.now c.args.self.now.inside c.args.log.now c.args.table.now _ _ _
    (sym c.is_some.ensures ∙ c.if-is_some.false) c.count-n.ensures c.count-m.ensures c.in_err-check_opening.ensures))

pub invariant_of-self : goal.invariant_of-self
unfolding outcome_of
invariant_of-self g c =
    let i = g.I.QuorumSystem.meaning c.args.systems.now.inputs in
    let o = g.O.QuorumSystem.meaning c.args.systems.now.outputs in
    record {
      in_bounds =
          in_bounds_after i o (g.met.I.QuorumSystem.lawful c.args.systems.now.inputs) (g.met.O.QuorumSystem.lawful c.args.systems.now.outputs)
          (to_open c.args.opening.objects c.args.opening.lease c.args.opening.drift c.args.clocks.now) c.args.self.now.inside (Some c.new-inside.result)
          c.args.log.now c.args.log.now c.args.table.now c.args.table.now accepted c.args.self.now.in_bounds
          (opens i o c.args.opening.objects c.args.opening.lease c.args.opening.drift c.args.clocks.now c.args.self.now.inside c.args.log.now c.args.table.now
          c.new-inside.result c.count-n.result c.count-m.result (sym c.is_some.ensures ∙ c.if-is_some.false) c.count-n.ensures c.count-m.ensures
          c.in_ok-check_opening.ensures c.new-inside.ensures.frame c.new-inside.ensures.counters c.new-inside.ensures.inputs c.new-inside.ensures.outputs);
    }

pub returns-clause-does : goal.returns-clause-does
returns-clause-does g c =
    let i = g.I.QuorumSystem.meaning c.args.systems.now.inputs in
    let o = g.O.QuorumSystem.meaning c.args.systems.now.outputs in
    opens i o c.args.opening.objects c.args.opening.lease c.args.opening.drift c.args.clocks.now c.args.self.now.inside c.args.log.now c.args.table.now
    c.new-inside.result c.count-n.result c.count-m.result (sym c.is_some.ensures ∙ c.if-is_some.false) c.count-n.ensures c.count-m.ensures
    c.in_ok-check_opening.ensures c.new-inside.ensures.frame c.new-inside.ensures.counters c.new-inside.ensures.inputs c.new-inside.ensures.outputs

pub returns-clause-guaranteed : goal.returns-clause-guaranteed
unfolding outcome_of
returns-clause-guaranteed g c =
    let i = g.I.QuorumSystem.meaning c.args.systems.now.inputs in
    let o = g.O.QuorumSystem.meaning c.args.systems.now.outputs in
    guaranteed i o (g.met.I.QuorumSystem.lawful c.args.systems.now.inputs) (g.met.O.QuorumSystem.lawful c.args.systems.now.outputs)
    (to_open c.args.opening.objects c.args.opening.lease c.args.opening.drift c.args.clocks.now) (field_of c.args.self.now.inside c.args.log.now c.args.table.now)
    (field_of (Some c.new-inside.result) c.args.log.now c.args.table.now) accepted
    (opens i o c.args.opening.objects c.args.opening.lease c.args.opening.drift c.args.clocks.now c.args.self.now.inside c.args.log.now c.args.table.now
    c.new-inside.result c.count-n.result c.count-m.result (sym c.is_some.ensures ∙ c.if-is_some.false) c.count-n.ensures c.count-m.ensures
    c.in_ok-check_opening.ensures c.new-inside.ensures.frame c.new-inside.ensures.counters c.new-inside.ensures.inputs c.new-inside.ensures.outputs)
