use Rattle.guarantee.proofs.Gathered.{clocks_in_any_order, named_in_any_order, pairs_in_any_order, unequal_pairs_in_any_order}
use Rattle.guarantee.proofs.gathering.order_does_not_matter.Goals as goal

pub returns : goal.returns
returns c = record {
  clocks = clocks_in_any_order;
  named = named_in_any_order;
  pairs = pairs_in_any_order;
  unequal = unequal_pairs_in_any_order;
}
