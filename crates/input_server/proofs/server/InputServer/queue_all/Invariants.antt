use Rattle.std.proofs.Common.{◌≡◌, ◌<◌, ◌≤◌}
use Rattle.rules.specs.Input.{queues_all}
use Rattle.input_server.specs.Views.{input_of}
use Rattle.input_server.proofs.server.InputServer.queue_all.Given as goal

abbrev pub invariant-loop-number : goal.invariant-loop-number
invariant-loop-number l =
    (l.number ≡ 0 → input_of l.self ≡ input_of l.initial.self)
    × (0 < l.number → input_of l.self ≡ queues_all l.object.number l.number (input_of l.initial.self))
    × (l.number ≤ l.number-end)
