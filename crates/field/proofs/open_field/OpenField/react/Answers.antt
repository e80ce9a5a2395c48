use Rattle.std.proofs.Common.{◌≡◌, refl, ap, ◌∙◌, subst}
use Rattle.operation.specs.Says.{place_step}
use Rattle.operation.specs.States.{operation_of}
use Rattle.field.specs.Delivered.{numbered}
use Rattle.rules.specs.Reaction.{reacts, goes_on}
use Rattle.field.proofs.Places.{place_read, heard, untouched}
use Rattle.field.proofs.open_field.OpenField.react.Goals as goal

pub returns : goal.returns
returns g c =
    let i = g.I.QuorumSystem.meaning c.args.systems.now.inputs in
    let o = g.O.QuorumSystem.meaning c.args.systems.now.outputs in
    let at = c.requires.reached in
    heard i o (numbered c.args.log.now c.args.number) c.args.operation (place_step i c.in-Ok.reaction) c.args.self.now c.follow-after.new.self
    c.args.log.now c.follow-after.new.log c.args.table.now _ c.replace-before.result c.follow-after.result.0 c.follow-after.result.1 at.accepts
    (ap operation_of c.replace-before.ensures.value ∙ place_read c.args.table.now c.args.operation _ at.begun.0 at.begun.1) c.in-Ok.ensures.does
    (c.follow-after.ensures.place i) (c.follow-after.ensures.says i) (λ t. c.follow-after.ensures.sends i t c.requires.deliverable.inputs_as)

pub returns-then-not-waits_for : goal.returns-then-not-waits_for
returns-then-not-waits_for g c =
    let i = g.I.QuorumSystem.meaning c.args.systems.now.inputs in
    let o = g.O.QuorumSystem.meaning c.args.systems.now.outputs in
    let m = numbered c.args.log.now c.args.number in
    let at = c.requires.reached in
    untouched i o m c.args.operation c.args.self.now c.args.log.now c.args.table.now
    (subst (λ x. reacts i o m x ≡ goes_on x) (place_read c.args.table.now c.args.operation _ at.begun.0 at.begun.1) (c.if-not-waits_for.ensures refl i o))
