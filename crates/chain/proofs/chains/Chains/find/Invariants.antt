use Rattle.std.proofs.Common.{◌≡◌, ◌++◌, get_or}
use Rattle.chain.specs.Records.{line, naming, Ends}
use Rattle.chain.proofs.chains.Chains.find.Given as goal

abbrev pub invariant-loop-entry : goal.invariant-loop-entry
invariant-loop-entry l = record {
  whole : line l.self.records (get_or l.self.heads l.fn.output.number 0) ≡ l.yielded ++ line l.entry-iterator.records.now l.entry-iterator.here;
  last : Ends l.yielded l.before;
  none : naming l.object l.yielded ≡ 0;
}
