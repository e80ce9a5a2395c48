use Rattle.std.proofs.Common.{◌≡◌, ◌+◌, length}
use Rattle.numbers.specs.Numbers.{shown}
use Rattle.rules.specs.Lists.{pairs}
use Rattle.chain.specs.Waiting.{pairs_along}
use Rattle.chain.proofs.chains.Chains.first.Given as goal

abbrev pub invariant-loop-entry : goal.invariant-loop-entry
invariant-loop-entry l = record { shows : l.list ≡ pairs (pairs_along l.yielded); left : length l.yielded + l.entry-iterator.n ≡ shown }
