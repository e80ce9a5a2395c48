-- A state of an operation that is handed one message, with both systems and no field around it.
use Rattle.std.specs.Prelude.{ℕ, Bool, true, false, if◌then◌else◌, ◌&&◌, ◌||◌, Some, None, Option, ◌==◌, nat_lt}
use Rattle.quorum.specs.Systems.{System}
use Rattle.numbers.specs.Numbers.{between}
use Rattle.rules.specs.declared.message.Message.{Message}
use Rattle.rules.specs.Operation.{Operation, unused, asking, sending, reading, ended}
use Rattle.rules.specs.Ranges.{Counts, numbers_fit, operation_fits, state_fits, has_next_clock}
use Rattle.rules.specs.Reaction.{Reaction, reacts}

-- the widest ranges that a field has: as many servers as the systems have members, 16 objects,
-- 1,024 operations
abbrev pub widest : System → System → Counts
widest inputs outputs = record { n = inputs.count; m = outputs.count; k = 16 }

abbrev pub too_many : System → System → Bool
too_many inputs outputs = nat_lt 8 inputs.count || nat_lt 8 outputs.count

-- the number of the refusal, 0 where there is none: the state's own operation is the only one that
-- is begun
abbrev pub refusal_with : System → System → ℕ → Bool → Bool → Message → ℕ
refusal_with inputs outputs own fits room m =
    if too_many inputs outputs then 2
    else if numbers_fit (widest inputs outputs) m
    && operation_fits (λ p. (p == own) && (between 1 1024 own && fits)) (λ _. room) m then 0
    else 33

-- the number of the operation whose state it is
abbrev pub own_number : Operation → ℕ
own_number (asking a) = a.operation
own_number (sending w) = w.operation
own_number (reading r) = r.operation
own_number x = 0

-- the number of the operation at a place of a table, where there is one that has not ended
abbrev pub number_at : Operation → Option ℕ
number_at (asking a) = Some a.operation
number_at (sending w) = Some w.operation
number_at (reading r) = Some r.operation
number_at x = None

abbrev pub is_a_write : Operation → Bool
is_a_write (asking a) = true
is_a_write (sending w) = true
is_a_write x = false

abbrev pub is_a_read : Operation → Bool
is_a_read (reading r) = true
is_a_read x = false

abbrev pub refusal_alone : System → System → Operation → Message → ℕ
refusal_alone inputs outputs x m =
    let fits : Bool = state_fits (widest inputs outputs) (own_number x) x in
    refusal_with inputs outputs (own_number x) fits (has_next_clock x) m

-- the same at a place of a table: one that is unused, or whose operation ended, takes every message
abbrev pub refusal_at : System → System → Operation → Message → ℕ
refusal_at inputs outputs unused m = 0
refusal_at inputs outputs ended m = 0
refusal_at inputs outputs x m = refusal_alone inputs outputs x m

-- what becomes of a state that is handed a message: it takes it, or is handed back with the number
-- of the refusal
pub data Handed : Type 0 where
  handed_back : ℕ → Operation → Handed
  taken : Reaction → Handed

abbrev pub alone : System → System → Message → Operation → Handed
alone inputs outputs m x =
    if refusal_at inputs outputs x m == 0 then taken (reacts inputs outputs m x)
    else handed_back (refusal_at inputs outputs x m) x
