use Rattle.guarantee.proofs.ReadLaws.{answers_if_it_may, answers_once, only_others_are_asked, all_others_are_asked, asked_in_rising_order, someone_is_asked, got_is_always_covered, read_requests_alter_nothing}
use Rattle.guarantee.proofs.requests.read_requests_ask.Goals as goal

pub returns : goal.returns
returns c = record {
  when = answers_if_it_may;
  answer = answers_once;
  only = only_others_are_asked;
  all = all_others_are_asked;
  rising = asked_in_rising_order;
  someone = someone_is_asked;
  covered = got_is_always_covered;
  nothing_altered = read_requests_alter_nothing;
}
