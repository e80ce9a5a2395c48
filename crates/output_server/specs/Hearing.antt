-- One pair that an input server tells of.
use Rattle.std.specs.Prelude.{List, slice_index_or, slice_set}
use Rattle.numbers.specs.Numbers.{raised}
use Rattle.rules.specs.declared.kept.Copied.{Copied}
use Rattle.rules.specs.declared.pairs.Pair.{Pair}
use Rattle.rules.specs.Output.{no_copy}

-- known raised, where the object has a place
abbrev pub known_raised : Pair → List Copied → List Copied
known_raised p cs =
    let c : Copied = slice_index_or cs p.object no_copy in
    slice_set cs p.object (record c { known = raised c.known p.version })
