use Rattle.guarantee.proofs.Endings.{operations_end_when_complete}
use Rattle.guarantee.proofs.guaranteed.operations_end_when_complete.Goals as goal

pub returns : goal.returns
returns c = operations_end_when_complete
