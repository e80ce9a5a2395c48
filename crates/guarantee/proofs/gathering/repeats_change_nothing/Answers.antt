use Rattle.guarantee.proofs.Gathered.{clock_twice, named_twice, pair_twice}
use Rattle.guarantee.proofs.gathering.repeats_change_nothing.Goals as goal

pub returns : goal.returns
returns c = record { clock = clock_twice; named = named_twice; pair = pair_twice }
