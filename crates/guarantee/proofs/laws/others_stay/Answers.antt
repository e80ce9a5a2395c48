use Rattle.guarantee.proofs.CallLaws.{queueing_leaves_others, acknowledging_leaves_others}
use Rattle.guarantee.proofs.laws.others_stay.Goals as goal

pub returns : goal.returns
returns c = record { queueing = queueing_leaves_others; acknowledging = acknowledging_leaves_others }
