use Rattle.guarantee.proofs.CallLaws.{refusals_alter_nothing, ended_stays_ended, logged_stays_logged, nothing_falls, leases_stand}
use Rattle.guarantee.proofs.laws.calls_keep.Goals as goal

pub returns : goal.returns
returns c = record {
  refusals = refusals_alter_nothing;
  operations = ended_stays_ended;
  messages = logged_stays_logged;
  servers = nothing_falls;
  leases = leases_stand;
}
