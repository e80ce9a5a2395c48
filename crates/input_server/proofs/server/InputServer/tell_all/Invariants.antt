use Rattle.std.proofs.Common.{◌+◌, ◌≤◌}
use Rattle.rules.specs.Input.{invalidations}
use Rattle.rules.specs.Steps.{Logs}
use Rattle.input_server.specs.Views.{input_of}
use Rattle.input_server.proofs.server.InputServer.tell_all.Given as goal

abbrev pub invariant-loop-output : goal.invariant-loop-output
invariant-loop-output l =
    Logs l.initial.log l.log (invalidations l.me.number l.output l.object.number (input_of l.self))
    × (l.log.made ≤ l.initial.log.made + l.output)
    × (l.output ≤ l.output-end)
