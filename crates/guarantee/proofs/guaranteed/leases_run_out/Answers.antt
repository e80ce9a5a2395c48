use Rattle.guarantee.proofs.LeaseLaw.{leases_run_out}
use Rattle.guarantee.proofs.guaranteed.leases_run_out.Goals as goal

pub returns : goal.returns
returns c = leases_run_out
