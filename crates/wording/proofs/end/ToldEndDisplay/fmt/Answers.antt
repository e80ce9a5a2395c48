use Rattle.std.proofs.Common.{arith}
use Rattle.std.proofs.lemmas.Grind.{common_steps}
use Rattle.wording.proofs.end.ToldEndDisplay.fmt.Goals as goal

pub returns-in_ok-write-in-WriteEnded-clause-writes :
    goal.returns-in_ok-write-in-WriteEnded-clause-writes
returns-in_ok-write-in-WriteEnded-clause-writes g c = rw c.in-WriteEnded.is (grind (arith, common_steps))
