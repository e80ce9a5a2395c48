use Rattle.std.proofs.Common.{◌≡◌, Some, None, Option, ap, ◌∙◌, rules}
use Rattle.guarantee.specs.Story.{to_advance, outcome_of}
use Rattle.rules.specs.Answers.{acceptance}
use Rattle.rules.specs.Calls.{advancing}
use Rattle.field.specs.declared.open_field.OpenField.{OpenField}
use Rattle.field.specs.Views.{field_of}
use Rattle.field.proofs.Closed.{advance_closed}
use Rattle.field.proofs.Continued.{guaranteed}
use Rattle.field.proofs.Invariant.{in_bounds_after}
use Rattle.field.proofs.field.Field.advance.Goals as goal

pub returns-in_err-inside-clause-guaranteed : goal.returns-in_err-inside-clause-guaranteed
unfolding outcome_of
returns-in_err-inside-clause-guaranteed g c =
    let i = g.I.QuorumSystem.meaning c.args.systems.now.inputs in
    let o = g.O.QuorumSystem.meaning c.args.systems.now.outputs in
    let closed : c.args.self.now.inside ≡ None = search rules in
    guaranteed i o (g.met.I.QuorumSystem.lawful c.args.systems.now.inputs) (g.met.O.QuorumSystem.lawful c.args.systems.now.outputs) (to_advance c.args.increments.now) _ _ (acceptance c.from_residual.result)
    (advance_closed i o c.args.self.now.inside c.args.log.now c.args.table.now closed c.args.increments.now ∙ (search rules))

pub invariant_of-self-2 : goal.invariant_of-self-2
unfolding outcome_of
invariant_of-self-2 g c =
    let i = g.I.QuorumSystem.meaning c.args.systems.now.inputs in
    let o = g.O.QuorumSystem.meaning c.args.systems.now.outputs in
    let opened : c.args.self.now.inside ≡ Some c.in_ok-inside.inside.now = search rules in
    let does = ap (λ (f : Option OpenField). advancing i o c.args.increments.now (field_of f c.args.log.now c.args.table.now)) opened ∙ c.advance.ensures.does in
    record {
      in_bounds =
          in_bounds_after i o (g.met.I.QuorumSystem.lawful c.args.systems.now.inputs) (g.met.O.QuorumSystem.lawful c.args.systems.now.outputs) (to_advance c.args.increments.now)
          c.args.self.now.inside (Some c.advance.new.self) c.args.log.now c.args.log.now c.args.table.now c.args.table.now (acceptance c.advance.result) c.args.self.now.in_bounds does;
    }

pub returns-clause-guaranteed : goal.returns-clause-guaranteed
unfolding outcome_of
returns-clause-guaranteed g c =
    let i = g.I.QuorumSystem.meaning c.args.systems.now.inputs in
    let o = g.O.QuorumSystem.meaning c.args.systems.now.outputs in
    let opened : c.args.self.now.inside ≡ Some c.in_ok-inside.inside.now = search rules in
    guaranteed i o (g.met.I.QuorumSystem.lawful c.args.systems.now.inputs) (g.met.O.QuorumSystem.lawful c.args.systems.now.outputs) (to_advance c.args.increments.now) _
    (field_of (Some c.advance.new.self) c.args.log.now c.args.table.now) (acceptance c.advance.result)
    (ap (λ (f : Option OpenField). advancing i o c.args.increments.now (field_of f c.args.log.now c.args.table.now)) opened ∙ c.advance.ensures.does)
