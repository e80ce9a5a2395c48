use Rattle.std.proofs.Common.{◌≡◌, ◌<◌, length, refl, ap, ◌∙◌, rules}
use Rattle.input_server.specs.Views.{input_of}
use Rattle.rules.specs.declared.message.Message.TheVariants.{InvalidationAnswer}
use Rattle.rules.specs.Calls.{quiet, receives}
use Rattle.rules.specs.Input.{acknowledges_all}
use Rattle.rules.specs.Lists.{list_of}
use Rattle.rules.specs.State.{no_input}
use Rattle.field.specs.Views.{state_of}
use Rattle.field.proofs.Handing.{both, handed}
use Rattle.field.proofs.Received.{picked, input_taken}
use Rattle.field.proofs.open_field.OpenField.take_invalidation_answer.Goals as goal

pub returns-clause-does : goal.returns-clause-does
unfolding receives
returns-clause-does c =
    let f = c.args.self.now in
    let i = c.args.input in
    let is = c.in_ok-between.ensures.1 in
    let at : c.index.result ≡ i = c.index.ensures.is ∙ ap (λ t. t.0) is in
    let inside : i < length f.inputs = search rules in
    let here = picked input_of f.inputs i c.index.result c.index-self-index.result no_input at inside in
    let does = c.take_acknowledgement.ensures.does ∙ (λ z. acknowledges_all (is z).1 (list_of (is z).2) (here z)) in
    λ p o log t. handed p o (InvalidationAnswer c.args.output i c.args.list) (state_of f log t) _ (both c.in_ok-between.ensures.0 refl)
    (ap quiet (input_taken f log t i c.index.result c.take_acknowledgement.new.self _ at does))
