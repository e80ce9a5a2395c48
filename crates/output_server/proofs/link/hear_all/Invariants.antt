use Rattle.std.proofs.Common.{◌≡◌, drop}
use Rattle.rules.specs.Output.{hears_all}
use Rattle.output_server.proofs.link.hear_all.Given as goal

-- what is left to hear leads to where the whole list leads
abbrev pub invariant-loop-pair : goal.invariant-loop-pair
invariant-loop-pair l = hears_all (drop l.pair-index l.list) l.link ≡ hears_all l.list l.initial.link
