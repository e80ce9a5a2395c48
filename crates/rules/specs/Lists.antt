-- A message's list of pairs, and what goes through numbers in rising order.
use Rattle.std.specs.Prelude.{ℕ, zero, suc, if◌then◌else◌, List, [], ◌++◌, length, take, replicate, Some, None, Option, nat_lt, slice_index_or}
use Rattle.std.proofs.lemmas.List.Edits.{sets}
use Rattle.rules.specs.declared.pairs.Pair.{Pair}
use Rattle.rules.specs.declared.pairs.Pairs.{Pairs}

abbrev pub no_pair : Pair
no_pair = record { object = 0; version = record { 0 = 0 } }

-- the pairs of a list
abbrev pub list_of : Pairs → List Pair
list_of l = take l.count l.items

-- the pair at a place from 0 on, where there is one
abbrev pub pair_at : ℕ → Pairs → Option Pair
pair_at k l =
    if nat_lt k (length (list_of l)) then Some (slice_index_or (list_of l) k no_pair) else None

-- the list of at most 8 pairs
abbrev pub pairs : List Pair → Pairs
pairs ps = record { count = length ps; items = sets (replicate 8 no_pair) 0 ps }

-- f 0, f 1, .. up to f (n - 1), one after the other
abbrev pub each : {A : Type 0} → ℕ → (ℕ → List A) → List A
each zero f = []
each (suc n) f = each n f ++ f n
