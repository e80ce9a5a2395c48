use Rattle.std.proofs.Common.{◌≡◌, Some, None, Option, ap, ◌∙◌, rules}
use Rattle.guarantee.specs.Story.{to_read, outcome_of}
use Rattle.rules.specs.Answers.{beginning_says}
use Rattle.rules.specs.Calls.{beginning_read}
use Rattle.field.specs.declared.open_field.OpenField.{OpenField}
use Rattle.field.specs.Views.{field_of}
use Rattle.field.proofs.Closed.{read_closed}
use Rattle.field.proofs.Continued.{guaranteed}
use Rattle.field.proofs.Invariant.{in_bounds_after}
use Rattle.field.proofs.field.Field.begin_read.Goals as goal

pub returns-in_err-inside-clause-guaranteed : goal.returns-in_err-inside-clause-guaranteed
unfolding outcome_of
returns-in_err-inside-clause-guaranteed g c =
    let i = g.I.QuorumSystem.meaning c.args.systems.now.inputs in
    let o = g.O.QuorumSystem.meaning c.args.systems.now.outputs in
    let closed : c.args.self.now.inside ≡ None = search rules in
    guaranteed i o (g.met.I.QuorumSystem.lawful c.args.systems.now.inputs) (g.met.O.QuorumSystem.lawful c.args.systems.now.outputs) (to_read c.args.object) _ _ (beginning_says c.from_residual.result)
    (read_closed i o c.args.self.now.inside c.args.log.now c.args.table.now closed c.args.object ∙ (search rules))

pub invariant_of-self-2 : goal.invariant_of-self-2
unfolding outcome_of
invariant_of-self-2 g c =
    let i = g.I.QuorumSystem.meaning c.args.systems.now.inputs in
    let o = g.O.QuorumSystem.meaning c.args.systems.now.outputs in
    let opened : c.args.self.now.inside ≡ Some c.in_ok-inside.inside.now = search rules in
    let does = ap (λ (f : Option OpenField). beginning_read i o c.args.object (field_of f c.args.log.now c.args.table.now)) opened ∙ c.begin_read.ensures.does in
    record {
      in_bounds =
          in_bounds_after i o (g.met.I.QuorumSystem.lawful c.args.systems.now.inputs) (g.met.O.QuorumSystem.lawful c.args.systems.now.outputs) (to_read c.args.object)
          c.args.self.now.inside (Some c.begin_read.new.self) c.args.log.now c.begin_read.new.log c.args.table.now c.begin_read.new.table (beginning_says c.begin_read.result) c.args.self.now.in_bounds does;
    }

pub returns-clause-guaranteed : goal.returns-clause-guaranteed
unfolding outcome_of
returns-clause-guaranteed g c =
    let i = g.I.QuorumSystem.meaning c.args.systems.now.inputs in
    let o = g.O.QuorumSystem.meaning c.args.systems.now.outputs in
    let opened : c.args.self.now.inside ≡ Some c.in_ok-inside.inside.now = search rules in
    guaranteed i o (g.met.I.QuorumSystem.lawful c.args.systems.now.inputs) (g.met.O.QuorumSystem.lawful c.args.systems.now.outputs) (to_read c.args.object) _
    (field_of (Some c.begin_read.new.self) c.begin_read.new.log c.begin_read.new.table) (beginning_says c.begin_read.result)
    (ap (λ (f : Option OpenField). beginning_read i o c.args.object (field_of f c.args.log.now c.args.table.now)) opened ∙ c.begin_read.ensures.does)
