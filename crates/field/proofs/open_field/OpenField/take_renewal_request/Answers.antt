use Rattle.std.proofs.Common.{◌≡◌, ◌<◌, [], length, sym, refl, ap, ◌∙◌, rules}
use Rattle.input_server.specs.Steps.{renewal_step}
use Rattle.input_server.specs.Views.{input_of}
use Rattle.rules.specs.declared.message.Message.TheVariants.{RenewalRequest}
use Rattle.rules.specs.Calls.{receives}
use Rattle.rules.specs.Input.{answers_renewal}
use Rattle.rules.specs.State.{no_input, input_at}
use Rattle.field.specs.Views.{state_of}
use Rattle.field.proofs.Handing.{both, handed}
use Rattle.field.proofs.Received.{renewal_step_lem, passed, picked, input_changed}
use Rattle.field.proofs.open_field.OpenField.take_renewal_request.Goals as goal

pub returns-clause-does : goal.returns-clause-does
unfolding receives
returns-clause-does c =
    let f = c.args.self.now in
    let i = c.args.input in
    let j = c.args.output in
    let r = c.args.renewal in
    let J = input_at (state_of f c.args.log.now []) i in
    let is = c.in_ok-between.ensures.1 in
    let at : c.index.result ≡ i = c.index.ensures.is ∙ ap (λ t. t.0) is in
    let inside : i < length f.inputs = search rules in
    let here = picked input_of f.inputs i c.index.result c.index-self-index.result no_input at inside in
    let step = sym (λ z. renewal_step (is z).0 f.lease.micros (is z).1 (is z).2 (here z) (c.new-log.ensures.made z) (c.new-log.ensures.messages z))
    ∙ c.answer_renewal.ensures.does in
    λ p o t. handed p o (RenewalRequest j i r) (state_of f c.args.log.now t) _ (both c.in_ok-between.ensures.0 refl)
    (input_changed f c.args.log.now t (answers_renewal i f.lease.micros j r J) c.answer_renewal.result c.answer_renewal.new.log _ _
    c.made-self.ensures (search rules) i c.index.result c.answer_renewal.new.self _ at
    (passed _ _ _ _ _ _ _ _ (renewal_step_lem i f.lease.micros j r J f.made c.args.log.now c.requires.ready.room) step))
