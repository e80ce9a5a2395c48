-- What the records mean: for each output server the pairs that wait for it, in order.
use Rattle.std.specs.Prelude.{◌≡◌, ℕ, ◌<◌, ◌≤◌, Bool, true, false, List, [], map, nat_lt, slice_index, slice_index_or, slice_set}
use Rattle.numbers.specs.Numbers.{records}
use Rattle.rules.specs.declared.pairs.Pair.{Pair}
use Rattle.rules.specs.Input.{names, queued, used, fits}
use Rattle.chain.specs.declared.record.Entry.{Entry}
use Rattle.chain.specs.Records.{at, line, Stands}
use Rattle.chain.specs.declared.chains.Chains.{Chains}
use Rattle.chain.specs.declared.chains.walk.Place.{Place}
use Rattle.chain.specs.declared.queued.Queued.{Queued}
use Rattle.chain.specs.declared.queued.Queued.TheVariants.{Waits, Freed}
use Rattle.chain.specs.declared.record.Record.{Record}

-- the pairs along a line
abbrev pub pairs_along : List Entry → List Pair
pairs_along es = map (λ (x : Entry). x.pair) es

-- the pairs that wait, from the records and the heads
unfoldable pub waiting_in : List Record → List ℕ → List (List Pair)
waiting_in rs hs = map pairs_along (map (line rs) hs)

-- for each output server the pairs that wait for it
abbrev pub waiting_of : Chains → List (List Pair)
waiting_of c = waiting_in c.records c.heads

-- the pairs that wait for output server j
abbrev pub waiting_for : Chains → ℕ → List Pair
waiting_for c j = slice_index_or (waiting_of c) j []

-- a record is free
abbrev pub has_free : List (List Pair) → Bool
has_free cs = nat_lt (used cs) records

-- the place of the record that names object o in the chain of output server j, or the place behind
-- the last record if none does
pub record Found (c : Chains) (j o : ℕ) (p : Place) : Type 0 where
  pub stands : Stands c.records (slice_index c.heads j) o p.before p.here
  pub before_fits : p.before ≤ records
  pub here_fits : p.here ≤ records
  pub own : 0 < p.here → (at c.records p.here).object ≡ o
  pub absent : p.here ≡ 0 → names o (waiting_for c j) ≡ false

-- queueing pair x for output server j turned the lists cs into ds, and said this
abbrev pub Queues : Queued → Pair → ℕ → List (List Pair) → List (List Pair) → Type 0
Queues Waits x j cs ds =
    (fits x j cs ≡ true) × (ds ≡ slice_set cs j (queued x (slice_index_or cs j [])))
Queues Freed x j cs ds = (fits x j cs ≡ false) × (ds ≡ slice_set cs j [])
