-- The parts of a renewal.
use Rattle.std.specs.Prelude.{Bool, true, false}
use Rattle.rules.specs.declared.parts.Parts.{Parts}
use Rattle.rules.specs.declared.parts.Parts.TheVariants.{Object, Volume, Both}

abbrev pub asks_object : Parts → Bool
asks_object Object = true
asks_object Volume = false
asks_object Both = true

abbrev pub asks_volume : Parts → Bool
asks_volume Object = false
asks_volume Volume = true
asks_volume Both = true

-- the parts that are wanted; one at least is
abbrev pub parts_of : Bool → Bool → Parts
parts_of true true = Both
parts_of true false = Object
parts_of false v = Volume
