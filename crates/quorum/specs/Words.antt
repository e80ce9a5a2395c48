-- A set in words.
use Rattle.std.specs.Prelude.{ℕ, List, [], ◌∷◌, ◌++◌, codes, decimal, filter, flat_map}
use Rattle.std.specs.List.{range_with_len}
use Rattle.quorum.specs.Sets.{has}

-- the numbers in a set, rising
unfoldable pub numbers_in : ℕ → List ℕ
numbers_in s = filter (has s) (range_with_len 0 64)

abbrev pub next_number_text : ℕ → List ℕ
next_number_text n = codes ", " ++ decimal n

abbrev pub all_numbers_text : List ℕ → List ℕ
all_numbers_text [] = codes "nobody"
all_numbers_text (n ∷ ns) = decimal n ++ flat_map next_number_text ns

unfoldable pub set_text : ℕ → List ℕ
set_text s = all_numbers_text (numbers_in s)
