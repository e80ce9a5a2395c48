use Rattle.std.proofs.Common.{◌<◌, length, sym, ◌∙◌, rules}
use Rattle.input_server.specs.Steps.{write_step}
use Rattle.input_server.specs.Views.{input_of}
use Rattle.rules.specs.declared.message.Message.TheVariants.{WriteRequest}
use Rattle.rules.specs.Calls.{receives}
use Rattle.rules.specs.State.{no_input}
use Rattle.field.specs.Views.{state_of}
use Rattle.field.proofs.Handing.{both, handed}
use Rattle.field.proofs.Received.{write_passed, picked, input_changed}
use Rattle.field.proofs.open_field.OpenField.take_write_request.Goals as goal

pub unwrap-requires : goal.unwrap-requires
unwrap-requires c =
    let f = c.args.self.now in
    let i = c.args.input in
    let own = c.in_ok-me.ensures.1 in
    let few : i < 8 = search rules in
    let inside : i < length f.inputs = search rules in
    let here = picked input_of f.inputs i c.index.result c.index-self-index.result no_input (c.index.ensures.is ∙ own) inside in
    let step = sym (λ z. write_step (own z) (c.in_ok-known.ensures.1 z) f.counts.outputs.number (c.in_ok-new.ensures.1 z).object (c.in_ok-new.ensures.1 z).version
    c.args.value (here z) (c.new-log.ensures.made z) (c.new-log.ensures.messages z)) ∙ c.take_write.ensures.does in
    (write_passed f c.args.log.now i c.args.operation c.args.pair c.args.value c.take_write.result _ c.take_write.new.log c.requires.ready few step).ok

pub returns-clause-does : goal.returns-clause-does
unfolding receives
returns-clause-does c =
    let f = c.args.self.now in
    let i = c.args.input in
    let x = c.args.pair in
    let own = c.in_ok-me.ensures.1 in
    let few : i < 8 = search rules in
    let inside : i < length f.inputs = search rules in
    let at = c.index.ensures.is ∙ own in
    let here = picked input_of f.inputs i c.index.result c.index-self-index.result no_input at inside in
    let step = sym (λ z. write_step (own z) (c.in_ok-known.ensures.1 z) f.counts.outputs.number (c.in_ok-new.ensures.1 z).object (c.in_ok-new.ensures.1 z).version
    c.args.value (here z) (c.new-log.ensures.made z) (c.new-log.ensures.messages z)) ∙ c.take_write.ensures.does in
    λ p o. handed p o (WriteRequest c.args.operation i x.object x.version c.args.value) (state_of f c.args.log.now c.args.table.now) _
    (both (both c.in_ok-me.ensures.0 c.in_ok-new.ensures.0) c.in_ok-known.ensures.0)
    (input_changed f c.args.log.now c.args.table.now _ c.take_write.result c.take_write.new.log _ _ c.made-self.ensures (search rules)
    i c.index.result c.take_write.new.self _ at
    (write_passed f c.args.log.now i c.args.operation x c.args.value c.take_write.result _ c.take_write.new.log c.requires.ready few step))
