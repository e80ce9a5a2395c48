-- The servers of one side of a field, be they input servers or output servers.
use Rattle.std.specs.Prelude.{ℕ, zero, suc, ◌+◌, Bool, if◌then◌else◌, List, [], ◌∷◌, length, nat_le, slice_index, slice_index_or, slice_set}
use Rattle.numbers.specs.declared.time.Time.{Time}
use Rattle.numbers.specs.Numbers.{last_time}
use Rattle.quorum.specs.Sets.{all_below}
use Rattle.rules.specs.Input.{Input, first_input}
use Rattle.rules.specs.Lists.{each}
use Rattle.rules.specs.Output.{Output, first_output}

-- ---- the first state

-- what a clock shows that is set to t; one that cannot show it starts at 0
abbrev pub shown_as : Time → Time
shown_as t = if nat_le t.0 last_time then t else record { 0 = 0 }

-- server i starts with the clock at place i, and with 0 where there is none
abbrev pub starts_at : List Time → ℕ → Time
starts_at clocks i = shown_as (slice_index_or clocks i (record { 0 = 0 }))

abbrev pub first_inputs : List Time → List Input
first_inputs clocks = each 8 (λ i. first_input (starts_at clocks i) ∷ [])

abbrev pub first_outputs : List Time → List Output
first_outputs clocks = each 8 (λ j. first_output (starts_at clocks j) ∷ [])

-- ---- time

-- the clock of server i can move by increment i, for each increment; none stands for a server
-- that is not there
abbrev pub all_stay : {A : Type 0} → (A → Time) → A → List ℕ → List A → Bool
all_stay shows none increments servers =
    all_below (length increments) (λ i. nat_le ((shows (slice_index_or servers i none)).0 + slice_index increments i) last_time)

-- the first c servers, each so much later
abbrev pub all_later : {A : Type 0} → (ℕ → A → A) → A → List ℕ → ℕ → List A → List A
all_later later none increments zero servers = servers
all_later later none increments (suc c) servers =
    slice_set (all_later later none increments c servers) c
    (later (slice_index increments c) (slice_index_or (all_later later none increments c servers) c none))
