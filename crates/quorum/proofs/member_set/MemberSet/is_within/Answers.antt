use Rattle.std.proofs.Common.{sym, ◌∙◌, rules}
use Rattle.std.proofs.lemmas.Bool.{le-leb}
use Rattle.quorum.specs.Members.{inside_beyond}
use Rattle.quorum.proofs.member_set.MemberSet.is_within.Goals as goal

pub returns-then-count-ge64 : goal.returns-then-count-ge64
returns-then-count-ge64 c =
    le-leb 64 c.args.count (search rules) ∙ sym (inside_beyond c.args.self.0 c.args.count (search rules) (search rules))
