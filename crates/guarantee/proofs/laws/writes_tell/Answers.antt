use Rattle.guarantee.proofs.CallLaws.{only_others_are_told, all_others_are_told, write_is_answered, answer_names_shut_out, named_is_shut_out}
use Rattle.guarantee.proofs.laws.writes_tell.Goals as goal

pub returns : goal.returns
returns c = record {
  only = only_others_are_told;
  all = all_others_are_told;
  answered = write_is_answered;
  named = answer_names_shut_out;
  members = named_is_shut_out;
}
