use Rattle.std.proofs.Common.{sym, ◌∙◌, rules}
use Rattle.std.proofs.lemmas.Bool.{lt-leb}
use Rattle.quorum.specs.Members.{full_beyond}
use Rattle.quorum.proofs.member_set.MemberSet.is_full.Goals as goal

pub returns-else-count-le64 : goal.returns-else-count-le64
returns-else-count-le64 c =
    lt-leb c.args.count 64 (search rules) ∙ sym (full_beyond c.args.self.0 c.args.count (search rules) (search rules))
