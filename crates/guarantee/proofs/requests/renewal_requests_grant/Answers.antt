use Rattle.guarantee.proofs.RenewalLaws.{renewal_is_answered, most_stays_in_renewal, last_read_is_given, lease_end_is_granted, renewals_alter_one}
use Rattle.guarantee.proofs.requests.renewal_requests_grant.Goals as goal

pub returns : goal.returns
returns c = record {
  answered = renewal_is_answered;
  stays = most_stays_in_renewal;
  last_read = last_read_is_given;
  lease_end = lease_end_is_granted;
  others = renewals_alter_one;
}
