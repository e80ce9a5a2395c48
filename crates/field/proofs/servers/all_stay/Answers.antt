use Rattle.std.proofs.Common.{rules, tests, ℕ, ◌+◌, ◌∙◌, leb}
use Rattle.std.specs.Iterator.Adapters.{zip_first, zip_second}
use Rattle.std.proofs.lemmas.Iterator.{YieldsList-from_slice, YieldsList-from_zip}
use Rattle.std.proofs.lemmas.Iterator.Search.{all_from_yields_List}
use Rattle.numbers.specs.Numbers.{last_time}
use Rattle.field.proofs.EachServer.{all_by_zip}
use Rattle.field.proofs.servers.all_stay.Goals as goal

pub returns : goal.returns
returns g c =
    let keeps = λ (a : g.S.Server.Kept) (x : ℕ). leb ((g.S.Server.shows a).0 + x) last_time in
    all_from_yields_List (λ p. keeps (g.S.Server.kept p.0) p.1) c.all.new.self _ _ c.all.ensures.ran
    (YieldsList-from_zip (YieldsList-from_slice {s = zip_first c.zip.result} c.args.servers.now (search rules)) (YieldsList-from_slice {s = zip_second c.zip.result} c.args.increments.now (search rules)))
    (λ x b q k. search (rules, tests))
    ∙ all_by_zip g.S.Server.kept (g.S.Server.first (record { 0 = 0 })) keeps c.args.servers.now c.args.increments.now (search rules)
