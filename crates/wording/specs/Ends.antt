-- What is told of the end of an operation.
use Rattle.std.specs.Prelude.{ℕ, List, ◌++◌, codes, decimal}
use Rattle.numbers.specs.declared.version.Version.{Version}
use Rattle.rules.specs.declared.delivery.Delivery.{Delivery}
use Rattle.rules.specs.declared.delivery.Delivery.TheVariants.{NothingEnded, WriteEnded, ReadEnded}
use Rattle.wording.specs.Words.{write_name, read_name}

unfoldable pub pair_text : Version → ℕ → List ℕ
pair_text v x = codes " with version " ++ decimal v.0 ++ codes ", value " ++ decimal x

abbrev pub end_text : Delivery → List ℕ
end_text NothingEnded = codes "nothing ended"
end_text (WriteEnded p v x) = write_name p ++ codes " ended" ++ pair_text v x
end_text (ReadEnded p v x) = read_name p ++ codes " ended" ++ pair_text v x
