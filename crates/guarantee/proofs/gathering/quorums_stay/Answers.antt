use Rattle.guarantee.proofs.Gathered.{clock_stays_known, written_stays_written, read_stays_read}
use Rattle.guarantee.proofs.gathering.quorums_stay.Goals as goal

pub returns : goal.returns
returns c = record { clock = clock_stays_known; written = written_stays_written; read = read_stays_read }
