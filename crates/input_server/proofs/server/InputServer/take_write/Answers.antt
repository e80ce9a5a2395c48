use Rattle.std.proofs.Common.{◌≡◌, ℕ, List, [], ◌∷◌, sym, ap, subst, ◌∙◌, arith, rules, ◌+◌, ◌≤◌, length, Ok}
use Rattle.rules.proofs.Logging.{logs_length}
use Rattle.rules.specs.declared.kept.Ledger.{Ledger}
use Rattle.rules.specs.declared.message.Message.TheVariants.{WriteAnswer}
use Rattle.rules.specs.Input.{Input, takes_write}
use Rattle.rules.specs.Steps.{Logs, step}
use Rattle.input_server.proofs.StepsTaken.{write_answered, told_few}
use Rattle.input_server.proofs.Waits.{write_ledgers}
use Rattle.input_server.specs.Epochs.{have_epochs}
use Rattle.input_server.specs.Steps.{write_step}
use Rattle.input_server.specs.Views.{input_of}
use Rattle.input_server.proofs.server.InputServer.take_write.Goals as goal

pub queue_all-requires : goal.queue_all-requires
queue_all-requires c =
    let r = c.args.request.now in
    ap (λ (J : Input). have_epochs J.ledgers r.outputs.number) c.take_version.ensures
    ∙ ap (λ (ls : List Ledger). have_epochs ls r.outputs.number)
    (write_ledgers r.pair.value.object r.pair.value.version r.value (input_of c.args.self.now))
    ∙ sym c.has_epochs.ensures ∙ c.if-not-has_epochs.false

pub returns-clause-does : goal.returns-clause-does
returns-clause-does c =
    let r = c.args.request.now in
    let o = c.object-object.result.number in
    let has : c.args.log.now.made + 9 ≤ length c.args.log.now.messages.now = search rules in
    let few = told_few c.args.me.number r.outputs.number o (input_of c.queue_all.new.self) r.outputs.inside in
    let long = logs_length _ _ _ c.tell_all.ensures in
    subst (λ (p : ℕ). write_step c.args.me.number r.operation.number r.outputs.number p r.pair.value.version r.value (input_of c.args.self.now)
    c.args.log.now.made c.args.log.now.messages.now ≡ step (Ok tt) (input_of c.queue_all.new.self) c.push.new.self) c.object-object.ensures
    (write_answered c.args.me.number r.operation.number r.outputs.number o r.pair.value.version r.value
    (input_of c.args.self.now) (input_of c.take_version.new.self) (input_of c.queue_all.new.self)
    c.args.log.now c.tell_all.new.log c.push.new.self c.get.result c.shut_out.result
    (sym c.has_room.ensures ∙ c.if-not-has_room.false) (sym c.has_epochs.ensures ∙ c.if-not-has_epochs.false)
    (c.take_version.ensures ∙ ap (λ (p : ℕ). takes_write p r.pair.value.version r.value (input_of c.args.self.now)) (sym c.object-object.ensures))
    c.queue_all.ensures c.tell_all.ensures
    (subst (λ (p : ℕ). Logs c.tell_all.new.log c.push.new.self (WriteAnswer c.get.result p c.shut_out.result ∷ [])) c.get-2.ensures.is
    (c.push.ensures.logged (omega (arith, long, has, c.tell_all.ensures.made, few))))
    c.get.ensures.is c.shut_out.ensures)
