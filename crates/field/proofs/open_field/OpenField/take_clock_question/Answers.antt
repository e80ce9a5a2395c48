use Rattle.std.proofs.Common.{◌≡◌, ◌<◌, [], length, sym, ◌∙◌, rules}
use Rattle.input_server.specs.Steps.{clock_step}
use Rattle.input_server.specs.Views.{input_of}
use Rattle.rules.specs.declared.message.Message.TheVariants.{ClockQuestion}
use Rattle.rules.specs.Calls.{receives}
use Rattle.rules.specs.Input.{answers_clock}
use Rattle.rules.specs.State.{no_input, input_at}
use Rattle.field.specs.Views.{state_of}
use Rattle.field.proofs.Handing.{both, handed}
use Rattle.field.proofs.Received.{clock_step_lem, passed, picked, logged}
use Rattle.field.proofs.open_field.OpenField.take_clock_question.Goals as goal

pub returns-clause-does : goal.returns-clause-does
unfolding receives
returns-clause-does c =
    let f = c.args.self.now in
    let i = c.args.input in
    let q = c.args.operation in
    let J = input_at (state_of f c.args.log.now []) i in
    let own = c.in_ok-me.ensures.1 in
    let at : c.index.result ≡ i = c.index.ensures.is ∙ own in
    let inside : i < length f.inputs = search rules in
    let here = picked input_of f.inputs i c.index.result c.index-self-index.result no_input at inside in
    let step = sym (λ z. clock_step (own z) (c.in_ok-operation.ensures.1 z) (here z) (c.new-log.ensures.made z) (c.new-log.ensures.messages z))
    ∙ c.answer_clock.ensures.does in
    λ p o. handed p o (ClockQuestion q i) (state_of f c.args.log.now c.args.table.now) _ (both c.in_ok-me.ensures.0 c.in_ok-operation.ensures.0)
    (logged f c.args.log.now c.args.table.now (answers_clock i q J) c.answer_clock.result c.answer_clock.new.log _ _ c.made-self.ensures (search rules) _ _
    (passed _ _ _ _ _ _ _ _ (clock_step_lem i q J f.made c.args.log.now c.requires.ready.room) step))
