use Rattle.std.proofs.Common.{◌≡◌, ℕ, ◌<◌, ◌≤◌, [], length, sym, ap, ◌∙◌, arith, rules}
use Rattle.output_server.specs.Steps.{read_step}
use Rattle.output_server.specs.Views.{output_of}
use Rattle.rules.specs.declared.message.Message.TheVariants.{ReadRequest}
use Rattle.rules.specs.Calls.{quiet, receives}
use Rattle.rules.specs.Output.{answers_read}
use Rattle.rules.specs.State.{no_output, output_at, post}
use Rattle.field.specs.Views.{state_of}
use Rattle.field.proofs.Handing.{both, handed}
use Rattle.field.proofs.Received.{read_step_lem, passed, picked, logged}
use Rattle.field.proofs.open_field.OpenField.take_read_request.Goals as goal

pub returns-clause-does : goal.returns-clause-does
unfolding receives
returns-clause-does g c =
    let f = c.args.self.now in
    let t = c.args.table.now in
    let q = g.I.QuorumSystem.meaning c.args.inputs.now in
    let j = c.args.output in
    let p = c.args.operation in
    let o = c.args.object in
    let Q = output_at (state_of f c.args.log.now []) j in
    let few : q.count ≤ 8 = omega (arith, c.requires.counted, f.counts.inputs.inside) in
    let own = c.in_ok-me.ensures.1 in
    let at : c.index.result ≡ j = c.index.ensures.is ∙ own in
    let inside : j < length f.outputs = search rules in
    let here = picked output_of f.outputs j c.index.result c.index-self-index.result no_output at inside in
    let step = sym (λ z. read_step q (own z) (c.in_ok-operation.ensures.1 z) (c.in_ok-object.ensures.1 z) (here z) (c.new-log.ensures.made z) (c.new-log.ensures.messages z))
    ∙ c.answer_read.ensures.does in
    λ i. handed q i (ReadRequest p j o) (state_of f c.args.log.now t) _
    (both (both c.in_ok-me.ensures.0 c.in_ok-object.ensures.0) c.in_ok-operation.ensures.0)
    (ap (λ (n : ℕ). quiet (post (answers_read q j p n o Q) (state_of f c.args.log.now t))) (sym c.requires.counted)
    ∙ logged f c.args.log.now t (answers_read q j p q.count o Q) c.answer_read.result c.answer_read.new.log _ _ c.made-self.ensures (search rules) _ _
    (passed _ _ _ _ _ _ _ _ (read_step_lem q j p o Q f.made c.args.log.now few c.requires.ready.room) step))
