use Rattle.std.proofs.Common.{ℕ, arith, subst}
use Rattle.rules.proofs.Logging.{logs_more, logs_length, logs_none}
use Rattle.rules.proofs.Rising.{at_end}
use Rattle.rules.specs.Input.{invalidation, invalidations}
use Rattle.rules.specs.Steps.{Logs}
use Rattle.input_server.specs.Views.{input_of}
use Rattle.input_server.proofs.StepsTaken.{telling_one}
use Rattle.input_server.proofs.server.InputServer.tell_all.Goals as goal

pub loop-output-init : goal.loop-output-init
loop-output-init c = (logs_none c.args.log.now, omega arith, omega arith)

pub tell-requires : goal.tell-requires
tell-requires c =
    let long = logs_length _ _ _ c.loop-output.invariant.0 in (
      omega (arith, c.loop-output-test.true, c.get-output-end.ensures.inside),
      omega (arith, long, c.requires, c.loop-output.invariant.1, c.loop-output-test.true, c.get-output-end.ensures.inside),
    )

pub loop-output-preserved : goal.loop-output-preserved
loop-output-preserved c =
    let told = invalidation c.args.me.number c.args.object.number (input_of c.args.self.now) in (
      logs_more told c.loop-output.output _ _ _ c.loop-output.invariant.0 c.tell.ensures,
      omega (
        arith,
        telling_one c.args.me.number c.args.object.number (input_of c.args.self.now) c.loop-output.output,
        c.tell.ensures.made,
        c.loop-output.invariant.1,
      ),
      omega (arith, c.loop-output-test.true),
    )

pub returns : goal.returns
returns c =
    subst (λ (n : ℕ). Logs c.args.log.now c.loop-output.log (invalidations c.args.me.number n c.args.object.number (input_of c.args.self.now)))
    (at_end c.loop-output.output c.get-output-end.result c.args.outputs.number c.loop-output-test.false c.loop-output.invariant.2 c.get-output-end.ensures.is)
    c.loop-output.invariant.0
