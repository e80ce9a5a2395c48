-- The words for both ends of a message, and for what it carries.
use Rattle.std.specs.Prelude.{ℕ, if◌then◌else◌, List, [], ◌∷◌, ◌++◌, length, ◌==◌, codes, decimal, flat_map}
use Rattle.rules.specs.declared.pairs.Pair.{Pair}
use Rattle.rules.specs.declared.pairs.Pairs.{Pairs}
use Rattle.rules.specs.declared.parts.Parts.{Parts}
use Rattle.rules.specs.declared.parts.Parts.TheVariants.{Object, Volume, Both}
use Rattle.rules.specs.declared.renewal.Renewal.{Renewal}
use Rattle.rules.specs.declared.renewal.Renewed.{Renewed}
use Rattle.rules.specs.Lists.{list_of}
use Rattle.rules.specs.Renewals.{asks_object, asks_volume}

abbrev pub write_name : ℕ → List ℕ
write_name p = codes "write " ++ decimal p

abbrev pub read_name : ℕ → List ℕ
read_name p = codes "read " ++ decimal p

abbrev pub input_name : ℕ → List ℕ
input_name i = codes "input server " ++ decimal i

abbrev pub output_name : ℕ → List ℕ
output_name j = codes "output server " ++ decimal j

unfoldable pub version_text : Pair → List ℕ
version_text p = codes "version " ++ decimal p.version.0 ++ codes " of object " ++ decimal p.object

abbrev pub next_version_text : Pair → List ℕ
next_version_text p = codes ", " ++ version_text p

abbrev pub all_versions_text : List Pair → List ℕ
all_versions_text [] = codes "nothing"
all_versions_text (p ∷ ps) = version_text p ++ flat_map next_version_text ps

unfoldable pub versions_text : Pairs → List ℕ
versions_text l = all_versions_text (list_of l)

abbrev pub wanted_of : Parts → ℕ → List ℕ
wanted_of Object o = codes "object " ++ decimal o
wanted_of Volume o = codes "a lease"
wanted_of Both o = codes "object " ++ decimal o ++ codes " and a lease"

abbrev pub wanted_text : Renewal → List ℕ
wanted_text r = wanted_of r.parts r.object

abbrev pub copy_text : Renewed → List ℕ
copy_text y =
    let p : Pair = record { object = y.renewal.object; version = y.version } in
    if asks_object y.renewal.parts
    then codes ", " ++ version_text p ++ codes " with value " ++ decimal y.value
    else []

abbrev pub lease_text : Renewed → List ℕ
lease_text y =
    if asks_volume y.renewal.parts
    then codes ", a lease of " ++ decimal y.length ++ codes " from " ++ decimal y.renewal.stamp.0
    else []

abbrev pub news_text : Pairs → List ℕ
news_text l = if length (list_of l) == 0 then [] else codes ", news of " ++ versions_text l

unfoldable pub brought_text : Renewed → List ℕ
brought_text y =
    codes "epoch " ++ decimal y.epoch.0 ++ copy_text y ++ lease_text y ++ news_text y.list
