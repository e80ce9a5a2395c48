-- Records that lie in one array and lead from one to the next by their numbers. Numbers count from
-- 1, and 0 ends a line of records. Each chain of waiting invalidations is such a line, and the free
-- records are one more.
use Rattle.std.specs.Prelude.{◌≡◌, ℕ, zero, suc, ◌+◌, ◌-◌, ◌<◌, ◌≤◌, if◌then◌else◌, ◌⊎◌, List, [], ◌∷◌, ◌++◌, map, length, ◌==◌, slice_index_or, slice_set}
use Rattle.numbers.specs.Numbers.{none, records}
use Rattle.rules.specs.declared.pairs.Pair.{Pair}
use Rattle.chain.specs.declared.record.Entry.{Entry}
use Rattle.chain.specs.declared.record.Record.{Record}

abbrev pub blank : Record
blank = record { version = none; object = 0; next = 0 }

-- record number i
abbrev pub at : List Record → ℕ → Record
at rs i = slice_index_or rs (i - 1) blank

-- the pair in a record
abbrev pub pair_in : Record → Pair
pair_in r = record { object = r.object; version = r.version }

-- record number i now leads to number n
abbrev pub relinked : List Record → ℕ → ℕ → List Record
relinked rs i n = slice_set rs (i - 1) (record (at rs i) { next = n })

-- number n now comes after number b, or first in chain j if b is 0
abbrev pub linked_records : List Record → ℕ → ℕ → List Record
linked_records rs b n = if b == 0 then rs else relinked rs b n

abbrev pub linked_heads : List ℕ → ℕ → ℕ → ℕ → List ℕ
linked_heads hs j b n = if b == 0 then slice_set hs j n else hs

abbrev pub entry : List Record → ℕ → Entry
entry rs i = record { slot = i; pair = pair_in (at rs i) }

-- the records met from number i on, at most n of them
unfoldable pub walk : List Record → ℕ → ℕ → List Entry
walk rs zero i = []
walk rs (suc n) i = if i == 0 then [] else entry rs i ∷ walk rs n (at rs i).next

-- the line that begins at number h
unfoldable pub line : List Record → ℕ → List Entry
line rs h = walk rs records h

-- number i is that of entry x, and its record holds the pair of x
pub record Hop (rs : List Record) (i : ℕ) (x : Entry) : Type 0 where
  pub number : i ≡ x.slot
  pub some : 0 < i
  pub within : i ≤ records
  pub holds : pair_in (at rs i) ≡ x.pair

-- from number i the records go through the entries, in their order, and then to number e
unfoldable pub Leads : List Record → ℕ → List Entry → ℕ → Type 0
Leads rs i [] e = i ≡ e
Leads rs i (x ∷ xs) e = Hop rs i x × Leads rs (at rs i).next xs e

-- number x stands on a line that ends, or is 0
abbrev pub On : List Record → ℕ → Type 0
On rs x = Leads rs x (line rs x) 0

-- how often number i stands in a line; how often it stands in several
unfoldable pub count : ℕ → List Entry → ℕ
count i [] = 0
count i (x ∷ xs) = (if x.slot == i then 1 else 0) + count i xs

unfoldable pub tally : ℕ → List (List Entry) → ℕ
tally i [] = 0
tally i (c ∷ cs) = count i c + tally i cs

-- how often a line names object o
unfoldable pub naming : ℕ → List Entry → ℕ
naming o [] = 0
naming o (x ∷ xs) = (if x.pair.object == o then 1 else 0) + naming o xs

-- how many records several lines have
unfoldable pub total : List (List Entry) → ℕ
total [] = 0
total (c ∷ cs) = length c + total cs

-- each line begins at its head, ends, and names no object twice
unfoldable pub Lines : List Record → List ℕ → List (List Entry) → Type 0
Lines rs [] [] = Unit {0}
Lines rs [] (c ∷ cs) = ⊥
Lines rs (h ∷ hs) [] = ⊥
Lines rs (h ∷ hs) (c ∷ cs) = Leads rs h c 0 × (((o : ℕ) → naming o c ≤ 1) × Lines rs hs cs)

-- The lines cs begin at the heads hs, and the free one, fs, at f. Each ends. No record stands in
-- two of them, or twice in one, and together they have all records.
pub record View (rs : List Record) (hs : List ℕ) (f : ℕ) (cs : List (List Entry)) (fs : List Entry)
    : Type 0 where
  pub lines : Lines rs hs cs
  pub spare : Leads rs f fs 0
  pub once : (i : ℕ) → tally i cs + count i fs ≤ 1
  pub all : total cs + length fs ≡ records
  pub rows : length rs ≡ records
  pub tops : length hs ≡ 8

-- what the heads and the first free number say of the records
abbrev pub WellLinked : List Record → List ℕ → ℕ → Type 0
WellLinked rs hs f = ∥ View rs hs f (map (line rs) hs) (line rs f) ∥₁

-- b is the number of the last entry, or 0 where there is none
abbrev pub Ends : List Entry → ℕ → Type 0
Ends es b =
    ((es ≡ []) × (b ≡ 0))
    ⊎ ((ys : List Entry) × (y : Entry) × (es ≡ ys ++ (y ∷ [])) × (y.slot ≡ b))

-- on the line that begins at h, number x stands after number b (each may be 0), and nothing before
-- x names object o
pub record Stands (rs : List Record) (h o b x : ℕ) : Type 0 where
  pub front : List Entry
  pub back : List Entry
  pub whole : line rs h ≡ front ++ back
  pub before : Leads rs h front x
  pub after : Leads rs x back 0
  pub last : Ends front b
  pub none : naming o front ≡ 0
