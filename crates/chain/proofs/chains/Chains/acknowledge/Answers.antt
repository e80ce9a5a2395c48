use Rattle.std.proofs.Common.{sym, arith}
use Rattle.std.proofs.lemmas.Bool.{leb-true, leb-false}
use Rattle.chain.proofs.Meanings.{nothing_freed, above_stays, unlinked}
use Rattle.chain.proofs.chains.Chains.acknowledge.Goals as goal

pub returns-then-place-eq-END : goal.returns-then-place-eq-END
returns-then-place-eq-END c =
    nothing_freed c.args.self.now c.args.output.number c.args.output.inside _ _ c.find-place.ensures c.if-place-eq-END.true c.args.version

pub returns-then-not-is_covered : goal.returns-then-not-is_covered
returns-then-not-is_covered c =
    above_stays c.args.self.now c.args.output.number c.args.output.inside _ _ c.find-place.ensures (omega arith) c.args.version (leb-false _ _ (sym c.if-not-is_covered.ensures))

pub invariant_of-self : goal.invariant_of-self
invariant_of-self c = record {
  well_linked =
      rw (c.link.ensures.rows, c.link.ensures.tops)
      (unlinked c.args.self.now c.args.output.number c.args.output.inside _ _ c.find-place.ensures (omega arith) c.args.version (leb-true _ _ (sym c.if-not-is_covered.ensures))).0;
}

pub returns : goal.returns
returns c =
    rw (c.link.ensures.rows, c.link.ensures.tops)
    (unlinked c.args.self.now c.args.output.number c.args.output.inside _ _ c.find-place.ensures (omega arith) c.args.version (leb-true _ _ (sym c.if-not-is_covered.ensures))).1
