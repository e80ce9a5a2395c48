use Rattle.std.proofs.Common.{refl, sym, ◌∙◌}
use Rattle.field.specs.Delivered.{numbered}
use Rattle.field.specs.Views.{state_of}
use Rattle.field.proofs.Delivers.{reached, delivered}
use Rattle.field.proofs.Handing.{handed}
use Rattle.field.proofs.open_field.OpenField.hear.Goals as goal

pub react-requires-clause-reached : goal.react-requires-clause-reached
react-requires-clause-reached g c =
    let fits = sym (c.is_in_range.ensures c.args.log.now) ∙ c.if-not-is_in_range.false in
    reached _ _ c.args.self.now c.args.log.now c.args.table.now c.args.number c.requires.deliverable fits _ _ c.requires.answers refl

pub returns-clause-does : goal.returns-clause-does
returns-clause-does g c =
    let i = g.I.QuorumSystem.meaning c.args.systems.now.inputs in
    let o = g.O.QuorumSystem.meaning c.args.systems.now.outputs in
    let fits = sym (c.is_in_range.ensures c.args.log.now) ∙ c.if-not-is_in_range.false in
    handed i o (numbered c.args.log.now c.args.number) (state_of c.args.self.now c.args.log.now c.args.table.now) _ fits
    (delivered i o c.args.self.now c.args.log.now c.args.table.now c.args.number c.requires.deliverable fits _ _ c.requires.answers refl ∙ c.react.ensures)
