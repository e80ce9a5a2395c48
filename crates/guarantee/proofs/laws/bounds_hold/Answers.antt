use Rattle.guarantee.proofs.Bounds.{bounds_kept, epochs_fit}
use Rattle.guarantee.proofs.laws.bounds_hold.Goals as goal

pub returns : goal.returns
returns c = record { kept = bounds_kept; epochs = epochs_fit }
