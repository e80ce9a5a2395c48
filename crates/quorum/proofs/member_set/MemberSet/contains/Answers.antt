use Rattle.std.proofs.Common.{sym, ◌∙◌, rules}
use Rattle.std.proofs.lemmas.Bool.{le-ltb}
use Rattle.quorum.specs.Members.{has_beyond}
use Rattle.quorum.proofs.member_set.MemberSet.contains.Goals as goal

pub returns-else-member-lt64 : goal.returns-else-member-lt64
returns-else-member-lt64 c =
    le-ltb c.args.member 64 (search rules) ∙ sym (has_beyond c.args.self.0 c.args.member (search rules) (search rules))
