use Rattle.std.proofs.Common.{ℕ, sym, ap, ◌∙◌, rules, ◌≡◌}
use Rattle.rules.specs.Input.{owed}
use Rattle.input_server.proofs.Waits.{queues_not}
use Rattle.input_server.specs.Views.{input_of}
use Rattle.input_server.proofs.server.InputServer.queue_for.Goals as goal

pub returns-else-is_owed : goal.returns-else-is_owed
returns-else-is_owed c =
    let same : c.args.number ≡ c.unwrap-output.result.number = search rules in
    queues_not c.args.object.number c.args.number (input_of c.args.self.now)
    (ap (λ (j : ℕ). owed (input_of c.args.self.now) c.args.object.number j) same ∙ sym c.if-is_owed.ensures)
