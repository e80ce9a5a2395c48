use Rattle.std.proofs.Common.{◌≡◌, ◌<◌, [], length, sym, refl, ap, ◌∙◌, rules}
use Rattle.output_server.specs.Steps.{invalidation_step}
use Rattle.output_server.specs.Views.{output_of}
use Rattle.rules.specs.declared.message.Message.TheVariants.{Invalidation}
use Rattle.rules.specs.Calls.{receives}
use Rattle.rules.specs.Output.{answers_invalidation}
use Rattle.rules.specs.State.{no_output, output_at}
use Rattle.field.specs.Views.{state_of}
use Rattle.field.proofs.Handing.{both, handed}
use Rattle.field.proofs.Received.{invalidation_step_lem, passed, picked, output_changed}
use Rattle.field.proofs.open_field.OpenField.take_invalidation.Goals as goal

pub returns-clause-does : goal.returns-clause-does
unfolding receives
returns-clause-does c =
    let f = c.args.self.now in
    let i = c.args.input in
    let j = c.args.output in
    let x = c.args.pair in
    let Q = output_at (state_of f c.args.log.now []) j in
    let is = c.in_ok-between.ensures.1 in
    let at : c.index.result ≡ j = c.index.ensures.is ∙ ap (λ t. t.1) is in
    let inside : j < length f.outputs = search rules in
    let here = picked output_of f.outputs j c.index.result c.index-self-index.result no_output at inside in
    let step = sym (λ z. invalidation_step (is z).1 (is z).0 (is z).2.object (is z).2.version (here z) (c.new-log.ensures.made z)
    (c.new-log.ensures.messages z)) ∙ c.take_invalidation.ensures.does in
    λ p o t. handed p o (Invalidation i j x.object x.version) (state_of f c.args.log.now t) _ (both c.in_ok-between.ensures.0 refl)
    (output_changed f c.args.log.now t (answers_invalidation j i x.object x.version) c.take_invalidation.result c.take_invalidation.new.log _ _
    c.made-self.ensures (search rules) j c.index.result c.take_invalidation.new.self _ at
    (passed _ _ _ _ _ _ _ _ (invalidation_step_lem j i x.object x.version Q f.made c.args.log.now c.requires.ready.room) step))
