use Rattle.chain.specs.Waiting.{waiting_of}
use Rattle.rules.specs.Input.{held}
use Rattle.input_server.proofs.Waits.{waits_at, queues_waits, queues_freed}
use Rattle.input_server.specs.Views.{input_of}
use Rattle.input_server.proofs.server.InputServer.queue.Goals as goal

pub returns-in-Waits : goal.returns-in-Waits
returns-in-Waits c =
    queues_waits c.args.object.number c.args.output.number (input_of c.args.self.now)
    (record { object = c.get.result; version = (held (input_of c.args.self.now) c.index.result).version }) (waiting_of c.queue.new.self)
    (waits_at (input_of c.args.self.now) c.args.object.number c.get.result c.index.result c.get.ensures.is c.index.ensures.is)
    c.requires.owes c.in-Waits.ensures.0 c.in-Waits.ensures.1

pub returns-in-Freed : goal.returns-in-Freed
returns-in-Freed c =
    queues_freed c.args.object.number c.args.output.number (input_of c.args.self.now) (input_of c.begin_epoch.new.self)
    (record { object = c.get.result; version = (held (input_of c.args.self.now) c.index.result).version }) (waiting_of c.queue.new.self)
    (waits_at (input_of c.args.self.now) c.args.object.number c.get.result c.index.result c.get.ensures.is c.index.ensures.is)
    c.requires.owes c.in-Freed.ensures.0 c.in-Freed.ensures.1 c.begin_epoch.ensures
