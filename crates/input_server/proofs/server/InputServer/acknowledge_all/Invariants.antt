use Rattle.std.proofs.Common.{◌≡◌, [], drop}
use Rattle.rules.specs.Input.{acknowledges_all}
use Rattle.input_server.specs.Views.{input_of}
use Rattle.input_server.proofs.server.InputServer.acknowledge_all.Given as goal

-- what is left to acknowledge leads to where the whole list leads
abbrev pub invariant-loop-pair : goal.invariant-loop-pair
invariant-loop-pair l =
    (acknowledges_all l.output.number (drop l.pair-index l.pairs) (input_of l.self) ≡ acknowledges_all l.output.number l.pairs (input_of l.initial.self))
    × (l.pairs ≡ [] → l.self ≡ l.initial.self)
