use Rattle.std.proofs.Common.{ℕ, arith, subst}
use Rattle.rules.proofs.Logging.{logs_more, logs_length, logs_none}
use Rattle.rules.proofs.Rising.{at_end}
use Rattle.rules.specs.Output.{asks, asks_all}
use Rattle.rules.specs.Steps.{Logs}
use Rattle.output_server.specs.Views.{output_of}
use Rattle.output_server.proofs.Renewing.{asks_one}
use Rattle.output_server.proofs.server.OutputServer.ask_renewals.Goals as goal

pub loop-input-init : goal.loop-input-init
loop-input-init c = (logs_none c.args.log.now, omega arith, omega arith)

pub ask_renewal-requires : goal.ask_renewal-requires
ask_renewal-requires c =
    let long = logs_length _ _ _ c.loop-input.invariant.0 in (
      omega (arith, c.loop-input-test.true, c.get-input-end.ensures.inside),
      omega (arith, long, c.requires, c.loop-input.invariant.1, c.loop-input-test.true, c.get-input-end.ensures.inside),
    )

pub loop-input-preserved : goal.loop-input-preserved
loop-input-preserved c =
    let asked = asks c.args.me.number c.args.object.number (output_of c.args.self.now) in (
      logs_more asked c.loop-input.input _ _ _ c.loop-input.invariant.0 c.ask_renewal.ensures,
      omega (
        arith,
        asks_one c.args.me.number c.args.object.number (output_of c.args.self.now) c.loop-input.input,
        c.ask_renewal.ensures.made,
        c.loop-input.invariant.1,
      ),
      omega (arith, c.loop-input-test.true),
    )

pub returns : goal.returns
returns c =
    subst (λ (n : ℕ). Logs c.args.log.now c.loop-input.log (asks_all c.args.me.number n c.args.object.number (output_of c.args.self.now)))
    (at_end c.loop-input.input c.get-input-end.result c.args.count.number c.loop-input-test.false c.loop-input.invariant.2 c.get-input-end.ensures.is)
    c.loop-input.invariant.0
