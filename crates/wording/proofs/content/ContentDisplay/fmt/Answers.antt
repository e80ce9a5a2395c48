use Rattle.std.proofs.Common.{arith}
use Rattle.std.proofs.lemmas.Grind.{common_steps}
use Rattle.wording.proofs.content.ContentDisplay.fmt.Goals as goal

pub returns-in-ReadAnswer-clause-writes : goal.returns-in-ReadAnswer-clause-writes
returns-in-ReadAnswer-clause-writes g c = rw c.in-ReadAnswer.is (grind (arith, common_steps))
