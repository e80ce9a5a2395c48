use Rattle.std.proofs.Common.{rules, tests, refl}
use Rattle.std.proofs.lemmas.Iterator.{YieldsList-from_range}
use Rattle.std.proofs.lemmas.Iterator.Consumers.{YieldsList-from_filter}
use Rattle.quorum.specs.Sets.{has}
use Rattle.quorum.specs.Words.{set_text, numbers_in}
use Rattle.quorum.proofs.listing.MemberSetDisplay.fmt.Goals as goal

pub returns-clause-writes : goal.returns-clause-writes
unfolding set_text numbers_in
returns-clause-writes g c = c.tell_numbers.ensures _ (YieldsList-from_filter _ (has c.args.self.now.0) (YieldsList-from_range 0 64 64 c.filter.ensures.source refl) c.filter.ensures.closure (λ x r q k. search (rules, tests))).runs
