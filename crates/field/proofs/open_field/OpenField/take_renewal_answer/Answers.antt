use Rattle.std.proofs.Common.{◌≡◌, ◌<◌, [], length, sym, refl, ap, ◌∙◌, rules}
use Rattle.output_server.specs.Steps.{answer_step}
use Rattle.output_server.specs.Views.{output_of}
use Rattle.rules.specs.declared.message.Message.TheVariants.{RenewalAnswer}
use Rattle.rules.specs.Calls.{receives}
use Rattle.rules.specs.Output.{acknowledgement}
use Rattle.rules.specs.State.{no_output, output_at}
use Rattle.field.specs.Views.{state_of}
use Rattle.field.proofs.Handing.{both, handed}
use Rattle.field.proofs.Received.{answer_step_lem, passed, picked, output_changed}
use Rattle.field.proofs.open_field.OpenField.take_renewal_answer.Goals as goal

pub returns-clause-does : goal.returns-clause-does
unfolding receives
returns-clause-does c =
    let f = c.args.self.now in
    let i = c.args.input in
    let j = c.args.output in
    let y = c.args.renewed in
    let drift = f.drift.thousandths in
    let Q = output_at (state_of f c.args.log.now []) j in
    let is = c.in_ok-between.ensures.1 in
    let at : c.index.result ≡ j = c.index.ensures.is ∙ ap (λ t. t.1) is in
    let inside : j < length f.outputs = search rules in
    let here = picked output_of f.outputs j c.index.result c.index-self-index.result no_output at inside in
    let step = sym (λ z. answer_step drift (is z).1 (is z).0 (is z).2 (here z) (c.new-log.ensures.made z) (c.new-log.ensures.messages z))
    ∙ c.take_renewal.ensures.does in
    λ p o t. handed p o (RenewalAnswer i j y) (state_of f c.args.log.now t) _ (both c.in_ok-between.ensures.0 refl)
    (output_changed f c.args.log.now t (acknowledgement j i y.list) c.take_renewal.result c.take_renewal.new.log _ _
    c.made-self.ensures (search rules) j c.index.result c.take_renewal.new.self _ at
    (passed _ _ _ _ _ _ _ _ (answer_step_lem drift j i y Q f.made c.args.log.now c.requires.ready.room) step))
