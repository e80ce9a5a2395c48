use Rattle.std.proofs.Common.{◌+◌, ◌≤◌}
use Rattle.rules.specs.Output.{asks_all}
use Rattle.rules.specs.Steps.{Logs}
use Rattle.output_server.specs.Views.{output_of}
use Rattle.output_server.proofs.server.OutputServer.ask_renewals.Given as goal

abbrev pub invariant-loop-input : goal.invariant-loop-input
invariant-loop-input l =
    Logs l.initial.log l.log (asks_all l.me.number l.input l.object.number (output_of l.self))
    × (l.log.made ≤ l.initial.log.made + l.input)
    × (l.input ≤ l.input-end)
