use Rattle.std.proofs.Common.{rules, tests, ◌≡◌, ◌^◌, ◌*◌, Bool, true, ◌&&◌, nat_lt, ap, ◌∙◌, sym, refl, arith}
use Rattle.std.specs.List.{list_any, range_with_len}
use Rattle.std.proofs.lemmas.Iterator.{YieldsList-from_range}
use Rattle.std.proofs.lemmas.Iterator.Search.{any_from_yields_List}
use Rattle.field_bench.specs.Grids.{fills}
use Rattle.field_bench.proofs.grid.GridQuorumSystem.is_write_set.Goals as goal

pub returns-then-is_within : goal.returns-then-is_within
returns-then-is_within c =
    let columns = c.args.self.now.columns in
    let set = c.args.set.0 in
    let inside : nat_lt set (2 ^ (2 * columns)) ≡ true = search (rules, tests) in
    any_from_yields_List (fills set) _ _ _ c.any.ensures.ran (YieldsList-from_range 0 columns columns refl (omega arith)) (λ x b q k. search (rules, tests))
    ∙ sym (ap (λ (b : Bool). b && list_any (fills set) (range_with_len 0 columns)) inside)
