use Rattle.std.proofs.Common.{ℕ, ap, ◌∙◌, arith}
use Rattle.rules.proofs.Rising.{at_end}
use Rattle.rules.specs.Input.{queues_all}
use Rattle.input_server.proofs.Waits.{queues_so_far, queues_more, epoch_left}
use Rattle.input_server.specs.Views.{input_of}
use Rattle.input_server.proofs.server.InputServer.queue_all.Goals as goal

pub queue_for-requires : goal.queue_for-requires
queue_for-requires c =
    let so_far = queues_so_far c.args.object.number c.loop-number.number (input_of c.args.self.now) (input_of c.loop-number.self) c.loop-number.invariant.0 c.loop-number.invariant.1 in
    record {
      inside = omega (arith, c.loop-number-test.true, c.get-number-end.ensures.inside);
      spare = epoch_left c.args.object.number c.args.outputs.number c.loop-number.number (input_of c.args.self.now) (input_of c.loop-number.self)
          (omega (arith, c.loop-number-test.true, c.get-number-end.ensures.is)) c.requires so_far;
    }

pub loop-number-preserved : goal.loop-number-preserved
loop-number-preserved c =
    let so_far = queues_so_far c.args.object.number c.loop-number.number (input_of c.args.self.now) (input_of c.loop-number.self) c.loop-number.invariant.0 c.loop-number.invariant.1 in (
      λ z. absurd (omega (arith, z)),
      λ _. queues_more c.args.object.number c.loop-number.number (input_of c.args.self.now) (input_of c.loop-number.self) (input_of c.queue_for.new.self)
          so_far c.queue_for.ensures,
      omega (arith, c.loop-number-test.true),
    )

pub returns : goal.returns
returns c =
    queues_so_far c.args.object.number c.loop-number.number (input_of c.args.self.now) (input_of c.loop-number.self) c.loop-number.invariant.0 c.loop-number.invariant.1
    ∙ ap (λ (n : ℕ). queues_all c.args.object.number n (input_of c.args.self.now))
    (at_end c.loop-number.number c.get-number-end.result c.args.outputs.number c.loop-number-test.false c.loop-number.invariant.2 c.get-number-end.ensures.is)
