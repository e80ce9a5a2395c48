use Rattle.std.proofs.Common.{rules, tests, ◌≡◌, ◌^◌, ◌*◌, Bool, true, ◌&&◌, nat_lt, ap, ◌∙◌, sym, refl, arith}
use Rattle.std.specs.List.{list_all, range_with_len}
use Rattle.std.proofs.lemmas.Iterator.{YieldsList-from_range}
use Rattle.std.proofs.lemmas.Iterator.Search.{all_from_yields_List}
use Rattle.field_bench.specs.Grids.{touches}
use Rattle.field_bench.proofs.grid.GridQuorumSystem.is_read_set.Goals as goal

pub returns-then-is_within : goal.returns-then-is_within
returns-then-is_within c =
    let columns = c.args.self.now.columns in
    let set = c.args.set.0 in
    let inside : nat_lt set (2 ^ (2 * columns)) ≡ true = search (rules, tests) in
    all_from_yields_List (touches set) _ _ _ c.all.ensures.ran (YieldsList-from_range 0 columns columns refl (omega arith)) (λ x b q k. search (rules, tests))
    ∙ sym (ap (λ (b : Bool). b && list_all (touches set) (range_with_len 0 columns)) inside)
