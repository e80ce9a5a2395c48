-- The four calls: what each says, and the field, log and table that it leaves.
use Rattle.std.specs.Prelude.{ℕ, zero, suc, ◌+◌, ◌-◌, Bool, true, if◌then◌else◌, not, ◌&&◌, ◌||◌, List, [], ◌∷◌, length, Some, None, Option, ◌==◌, nat_le, nat_lt, slice_index, slice_index_or, slice_set}
use Rattle.std.specs.List.{list_all}
use Rattle.quorum.specs.Sets.{all_below}
use Rattle.quorum.specs.Systems.{System}
use Rattle.rules.specs.declared.message.Message.{Message}
use Rattle.rules.specs.declared.message.Message.TheVariants.{ClockQuestion, ClockAnswer, WriteRequest, WriteAnswer, ReadRequest, ReadAnswer, RenewalRequest, RenewalAnswer, Invalidation, InvalidationAnswer}
use Rattle.numbers.specs.declared.time.Time.{Time}
use Rattle.rules.specs.Input.{answers_clock, after_write, answers_write, after_renewal, answers_renewal, acknowledges_all, first_input, later_input}
use Rattle.rules.specs.Lists.{list_of, each}
use Rattle.numbers.specs.Numbers.{between, highest_drift, keeps_pair, last_operation, last_time, longest}
use Rattle.rules.specs.Operation.{Operation, unused, asking, reading, first_asking, first_reading, clock_questions, read_requests}
use Rattle.rules.specs.Output.{answers_read, after_answer, acknowledgement, after_invalidation, answers_invalidation, first_output, later_output}
use Rattle.rules.specs.Ranges.{numbers_fit, operation_fits, state_fits, has_next_clock}
use Rattle.rules.specs.Reaction.{Reaction, reacts}
use Rattle.rules.specs.Said.{accepted, began, nothing_ended}
use Rattle.rules.specs.State.{State, Outcome, outcome, refuse, no_input, no_output, input_at, output_at, post, with_input, with_output}
use Rattle.rules.specs.Steps.{has_room}

-- a call refuses by the first number of its row whose condition holds, and does what it is for
-- where none does
abbrev pub unless : Option ℕ → State → Outcome → Outcome
unless None s x = x
unless (Some number) s x = refuse number s

-- ---- opening

-- every server in its first state, with its start clock; the places beyond the counts stay at 0
abbrev pub start_clock : List Time → ℕ → ℕ → ℕ → Time
start_clock clocks from count i =
    if nat_lt i count then slice_index_or clocks (from + i) (record { 0 = 0 }) else record { 0 = 0 }

abbrev pub opened : ℕ → ℕ → ℕ → ℕ → ℕ → List Time → State → State
opened n m k lease drift clocks s = record {
  frame = record {
    is_open = true;
    counts = record { n = n; m = m; k = k };
    lease = lease;
    drift = drift;
    log_length = length s.log;
    table_length = length s.table;
  };
  made = 0;
  begun = 0;
  inputs = each 8 (λ i. first_input (start_clock clocks 0 n i) ∷ []);
  outputs = each 8 (λ j. first_output (start_clock clocks n m j) ∷ []);
  log = s.log;
  table = s.table;
}

abbrev pub clocks_fit : List Time → Bool
clocks_fit ts = list_all (λ t. nat_le t.0 last_time) ts

-- what an opening refuses first, of systems with n and m members and of a log and a table of
-- these lengths
abbrev pub opening_refusal : Bool → ℕ → ℕ → ℕ → ℕ → ℕ → List Time → ℕ → ℕ → Option ℕ
opening_refusal is_open n m k lease drift clocks log_length table_length =
    if is_open then Some 1
    else if nat_lt 8 n || nat_lt 8 m then Some 2
    else if not (between 1 16 k) then Some 3
    else if not (between 1 longest lease) then Some 4
    else if nat_lt highest_drift drift then Some 5
    else if not (length clocks == n + m && clocks_fit clocks) then Some 6
    else if not (between 9 65535 log_length && between 1 last_operation table_length) then Some 7
    else None

unfoldable pub opening : System → System → ℕ → ℕ → ℕ → List Time → State → Outcome
opening inputs outputs k lease drift clocks s =
    unless (opening_refusal s.frame.is_open inputs.count outputs.count k lease drift clocks (length s.log) (length s.table)) s
    (outcome accepted (opened inputs.count outputs.count k lease drift clocks s))

-- ---- what every later call asks first

-- lengths and counts are those of the opening
abbrev pub as_opened : System → System → State → Bool
as_opened inputs outputs s =
    (length s.log == s.frame.log_length)
    && (length s.table == s.frame.table_length
    && (inputs.count == s.frame.counts.n
    && outputs.count == s.frame.counts.m))

-- what it refuses before anything of its own
abbrev pub later_refusal : System → System → State → Option ℕ → Option ℕ
later_refusal inputs outputs s own =
    if not s.frame.is_open then Some 8
    else if not (as_opened inputs outputs s) then Some 9
    else own

-- ---- advancing

-- no clock of the first c input servers would pass the last time
abbrev pub inputs_stay : List ℕ → ℕ → State → Bool
inputs_stay increments c s = all_below c (λ i. nat_le ((input_at s i).clock.0 + slice_index increments i) last_time)

abbrev pub outputs_stay : List ℕ → ℕ → State → Bool
outputs_stay increments c s =
    all_below c (λ j. nat_le ((output_at s j).clock.0 + slice_index increments (s.frame.counts.n + j)) last_time)

-- x keeps up with each of the increments
abbrev pub keeps_with : ℕ → ℕ → List ℕ → Bool
keeps_with drift x ys = list_all (keeps_pair drift x) ys

-- each of the first list keeps up with each of the second
abbrev pub keep_each : ℕ → List ℕ → List ℕ → Bool
keep_each drift xs ys = list_all (λ x. keeps_with drift x ys) xs

abbrev pub keeps_drift : ℕ → List ℕ → Bool
keeps_drift drift xs = keep_each drift xs xs

-- the first c servers of a side, server i later by x i; `none` is one that is not there
abbrev pub each_later : {A : Type 0} → (ℕ → A → A) → A → (ℕ → ℕ) → ℕ → List A → List A
each_later later none x zero servers = servers
each_later later none x (suc c) servers =
    slice_set (each_later later none x c servers) c
    (later (x c) (slice_index_or (each_later later none x c servers) c none))

-- the increments of the input servers come first
abbrev pub advanced : List ℕ → State → State
advanced increments s = record s {
  inputs = each_later later_input no_input (λ i. slice_index increments i)
      s.frame.counts.n s.inputs;
  outputs = each_later later_output no_output (λ j. slice_index increments (s.frame.counts.n + j))
      s.frame.counts.m s.outputs;
}

abbrev pub advancing_refusal : System → System → List ℕ → State → Option ℕ
advancing_refusal inputs outputs increments s = later_refusal inputs outputs s
    (if not (length increments == s.frame.counts.n + s.frame.counts.m) then Some 11
    else if not (inputs_stay increments s.frame.counts.n s && outputs_stay increments s.frame.counts.m s) then Some 12
    else if not (keeps_drift s.frame.drift increments) then Some 13
    else None)

unfoldable pub advancing : System → System → List ℕ → State → Outcome
advancing inputs outputs increments s =
    unless (advancing_refusal inputs outputs increments s) s (outcome accepted (advanced increments s))

-- ---- beginning

-- the next operation stands in the table
abbrev pub enter : Operation → State → State
enter x s = record s { begun = s.begun + 1; table = slice_set s.table s.begun x }

-- with the object o
abbrev pub beginning_refusal : System → System → ℕ → State → Option ℕ
beginning_refusal inputs outputs o s = later_refusal inputs outputs s
    (if nat_le s.frame.counts.k o then Some 21
    else if nat_le (length s.table) s.begun then Some 22
    else if not (has_room s.made s.log) then Some 23
    else None)

abbrev pub beginning : System → System → ℕ → Operation → List Message → State → Outcome
beginning inputs outputs o x requests s =
    unless (beginning_refusal inputs outputs o s) s (outcome (began (s.begun + 1)) (post requests (enter x s)))

unfoldable pub beginning_write : System → System → ℕ → ℕ → State → Outcome
beginning_write inputs outputs o x s =
    beginning inputs outputs o (asking (first_asking (s.begun + 1) o x)) (clock_questions (s.begun + 1) s.frame.counts.n) s

unfoldable pub beginning_read : System → System → ℕ → State → Outcome
beginning_read inputs outputs o s =
    beginning inputs outputs o (reading (first_reading (s.begun + 1) o)) (read_requests (s.begun + 1) o s.frame.counts.m) s

-- ---- delivering

-- the state of operation p
abbrev pub operation_at : State → ℕ → Operation
operation_at s p = slice_index_or s.table (p - 1) unused

abbrev pub with_operation : ℕ → Operation → State → State
with_operation p x s = record s { table = slice_set s.table (p - 1) x }

-- operation p is begun, and its state is in range
abbrev pub is_known : State → ℕ → Bool
is_known s p = between 1 s.begun p && state_fits s.frame.counts p (operation_at s p)

abbrev pub in_range : Message → State → Bool
in_range x s = numbers_fit s.frame.counts x && operation_fits (is_known s) (λ p. has_next_clock (operation_at s p)) x

abbrev pub quiet : State → Outcome
quiet s = outcome nothing_ended s

-- what becomes of a field where operation p reacts so: its next state stands in the table, and
-- what it sends is logged
abbrev pub reacted : ℕ → Reaction → State → Outcome
reacted p r s = outcome r.said (post r.sends (with_operation p r.next s))

-- operation p is handed a message
abbrev pub handed_to : System → System → Message → ℕ → State → Outcome
handed_to inputs outputs m p s = reacted p (reacts inputs outputs m (operation_at s p)) s

-- what a message in range does
unfoldable pub receives : System → System → Message → State → Outcome
receives inputs outputs (ClockQuestion p i) s = quiet (post (answers_clock i p (input_at s i)) s)
receives inputs outputs (ClockAnswer i p c) s = handed_to inputs outputs (ClockAnswer i p c) p s
receives inputs outputs (WriteRequest p i o v x) s =
    quiet (post (answers_write i p s.frame.counts.m o (after_write s.frame.counts.m o v x (input_at s i)))
    (with_input i (after_write s.frame.counts.m o v x (input_at s i)) s))
receives inputs outputs (WriteAnswer i p t) s = handed_to inputs outputs (WriteAnswer i p t) p s
receives inputs outputs (ReadRequest p j o) s =
    quiet (post (answers_read inputs j p s.frame.counts.n o (output_at s j)) s)
receives inputs outputs (ReadAnswer j p v x) s = handed_to inputs outputs (ReadAnswer j p v x) p s
receives inputs outputs (RenewalRequest j i r) s =
    quiet (post (answers_renewal i s.frame.lease j r (input_at s i))
    (with_input i (after_renewal s.frame.lease j r (input_at s i)) s))
receives inputs outputs (RenewalAnswer i j y) s =
    quiet (post (acknowledgement j i y.list)
    (with_output j (after_answer s.frame.drift i y (output_at s j)) s))
receives inputs outputs (Invalidation i j o v) s =
    quiet (post (answers_invalidation j i o v) (with_output j (after_invalidation i o v (output_at s j)) s))
receives inputs outputs (InvalidationAnswer j i l) s =
    quiet (with_input i (acknowledges_all j (list_of l) (input_at s i)) s)

-- a message is handed over if all its numbers are in range, and those of the operation that it
-- names
abbrev pub hands_over : System → System → Message → State → Outcome
hands_over inputs outputs m s = if in_range m s then receives inputs outputs m s else refuse 33 s

-- places past the end of a log hold this
abbrev pub no_message : Message
no_message = ClockQuestion 0 0

abbrev pub message_at : State → ℕ → Message
message_at s number = slice_index_or s.log (number - 1) no_message

-- before it looks at the message
abbrev pub delivering_refusal : System → System → ℕ → State → Option ℕ
delivering_refusal inputs outputs number s = later_refusal inputs outputs s
    (if number == 0 || nat_lt s.made number then Some 31
    else if not (has_room s.made s.log) then Some 32
    else None)

unfoldable pub delivering : System → System → ℕ → State → Outcome
delivering inputs outputs number s =
    unless (delivering_refusal inputs outputs number s) s (hands_over inputs outputs (message_at s number) s)
