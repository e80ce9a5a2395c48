use Rattle.guarantee.proofs.Gathered.{version_is_next, version_above_clocks, version_above_versions}
use Rattle.guarantee.proofs.gathering.versions_are_above.Goals as goal

pub returns : goal.returns
returns c = record { next = version_is_next; clocks = version_above_clocks; versions = version_above_versions }
