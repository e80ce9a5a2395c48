-- The worked examples of the rules, as one theorem over a list of lines.
use Rattle.std.specs.Prelude.{◌≡◌, ℕ, zero, suc, ◌+◌, ◌^◌, ◌<◌, ◌≤◌, Bool, true, false, List, [], ◌∷◌, length, count_ones, nat_lt}
use Rattle.quorum.specs.Sets.{set_of}
use Rattle.quorum.specs.Systems.{System, majority, read_one_write_all}
use Rattle.rules.specs.declared.message.Message.{Message}
use Rattle.rules.specs.declared.message.Message.TheVariants.{RenewalAnswer}
use Rattle.rules.specs.declared.parts.Parts.TheVariants.{Both}
use Rattle.rules.specs.declared.pairs.Pair.{Pair}
use Rattle.rules.specs.Calls.{opening, advancing}
use Rattle.rules.specs.Input.{Input, ledger, chain, after_write, grants, answers_renewal, after_renewal, first_input, later_input}
use Rattle.rules.specs.Lists.{each, pairs}
use Rattle.numbers.specs.Numbers.{version_of, live, lease_end}
use Rattle.rules.specs.Operation.{Sending, first_asking, hears_clock, gets_version, hears_named, counts, is_written}
use Rattle.rules.specs.Output.{Output, link, leased, after_answer, first_output}
use Rattle.rules.specs.Said.{Said, accepted, refused}
use Rattle.rules.specs.State.{Outcome}
use Rattle.guarantee.specs.Alive.{unopened, zeros, pair, asked_for, leased as lease_of}

-- an input server names a set of output servers as shut out
pub data Named : Type 0 where
  names : ℕ → ℕ → Named

pub data Line : Type 0 where
  -- system, set: the set is a read set and a write set, or it is neither
  set_is_enough : System → ℕ → Bool → Line
  -- system, count: so is every set of that many members
  members_are_enough : System → ℕ → Bool → Line
  -- drift, increments of one input server and one output server: what the call says
  advance_is_answered : ℕ → List ℕ → Said → Line
  -- stamp, length, drift: where the lease ends
  lease_ends_at : ℕ → ℕ → ℕ → ℕ → Line
  -- stamp, length, drift, time: whether the lease is live then
  lease_is_live : ℕ → ℕ → ℕ → ℕ → Bool → Line
  -- stamp, length, drift: it is live at no time from the stamp on
  lease_is_never_live : ℕ → ℕ → ℕ → Line
  -- systems of input and output servers, what a write heard, in that order: the set of the output
  -- servers that count then, and whether the write has ended
  write_has_ended : System → System → List Named → ℕ → Bool → Line
  -- of an input server at 400, where that many invalidations wait for output server 0, whose
  -- lease ends at 1,000 and which asks to renew both parts: how many pairs and what length the
  -- answer has, and where the lease ends then
  renewal_is_answered : ℕ → ℕ → ℕ → ℕ → Line

-- ---- advances

-- the field, opened with one object and a lease of 1,000 microseconds, all clocks at 0
abbrev pub opens : ℕ → Outcome
opens drift = opening (majority 1) (read_one_write_all 1) 1 1000 drift (zeros 2) (unopened 9 1)

-- ---- leases

-- an output server whose clock shows that time, and which took one renewal answer of the volume
-- with that stamp and length
abbrev pub renewed : ℕ → ℕ → ℕ → ℕ → Output
renewed stamp micros drift time =
    after_answer drift 0 (lease_of stamp 1 micros []) (first_output (record { 0 = time }))

-- ---- writes

-- a write that has its version and has heard of nobody who is shut out
abbrev pub sent : Sending
sent = gets_version (hears_clock 0 1 (first_asking 1 0 7))

-- it hears that, one after the other
abbrev pub hears_each : List Named → Sending → Sending
hears_each [] w = w
hears_each (names i s ∷ rest) w = hears_each rest (hears_named i (record { 0 = s }) w)

-- ---- renewals

-- an input server at clock 0 that, of one object after the other, gave output server 0 a copy and
-- a lease and then took a write, with the version of clock 2 and operation o + 1 for object o
abbrev pub wrote : ℕ → Input
wrote zero = first_input (record { 0 = 0 })
wrote (suc o) = after_write 1 o (version_of 2 (o + 1)) 7 (after_renewal 1000 0 (record { parts = Both; object = o; stamp = record { 0 = 0 } }) (wrote o))

-- then its clock came to 400
abbrev pub waits : ℕ → Input
waits count = later_input 400 (wrote count)

-- the first of the pairs that wait then
abbrev pub first_pairs : ℕ → List Pair
first_pairs count = each count (λ o. pair o (version_of 2 (o + 1)).0 ∷ [])

-- and an answer to output server 0, stamped 500, of object 0, with that length and so many of the
-- pairs
abbrev pub answer_with : ℕ → ℕ → Message
answer_with micros count = RenewalAnswer 0 0 (record {
  renewal = asked_for Both 500;
  version = version_of 2 1;
  value = 7;
  epoch = record { 0 = 1 };
  length = micros;
  list = pairs (first_pairs count);
})

-- ---- what the lines say

abbrev pub Holds : Line → Type 0
Holds (set_is_enough system s answer) = (system.reads s ≡ answer) × (system.writes s ≡ answer)
Holds (members_are_enough system count answer) =
    (s : ℕ) → s < 2 ^ system.count → count_ones s ≡ count → (system.reads s ≡ answer) × (system.writes s ≡ answer)
Holds (advance_is_answered drift increments says) =
    ((opens drift).said ≡ accepted)
    × ((advancing (majority 1) (read_one_write_all 1) increments (opens drift).after).said ≡ says)
Holds (lease_ends_at stamp micros drift end) =
    ((lease_end stamp micros drift).0 ≡ end)
    × ((link (renewed stamp micros drift stamp) 0).lease_end.0 ≡ end)
Holds (lease_is_live stamp micros drift time answer) =
    (live (record { 0 = time }) (lease_end stamp micros drift) ≡ answer)
    × (leased (renewed stamp micros drift time) 0 ≡ answer)
Holds (lease_is_never_live stamp micros drift) =
    (time : ℕ) → stamp ≤ time
    → (live (record { 0 = time }) (lease_end stamp micros drift) ≡ false)
    × (leased (renewed stamp micros drift time) 0 ≡ false)
Holds (write_has_ended inputs outputs heard counting answer) =
    (set_of outputs.count (counts inputs inputs.count (hears_each heard sent).named) ≡ counting)
    × (is_written inputs outputs (hears_each heard sent) ≡ answer)
Holds (renewal_is_answered count shown granted end) =
    (length (chain (waits count) 0) ≡ count)
    × ((ledger (waits count) 0).lease_end.0 ≡ 1000)
    × (answers_renewal 0 1000 0 (asked_for Both 500) (waits count) ≡ answer_with granted shown ∷ [])
    × (grants Both 0 (waits count) ≡ nat_lt 0 granted)
    × ((ledger (after_renewal 1000 0 (asked_for Both 500) (waits count)) 0).lease_end.0 ≡ end)

abbrev pub Each : List Line → Type 0
Each [] = Unit {0}
Each (l ∷ ls) = Holds l × Each ls

-- ---- the lines

abbrev pub lines : List Line
lines =
    -- of five members, two are not enough and three are
    set_is_enough (majority 5) 0b00011 false
    ∷ set_is_enough (majority 5) 0b00111 true
    ∷ members_are_enough (majority 5) 2 false
    ∷ members_are_enough (majority 5) 3 true
    -- of one, the empty set is not enough and the full set is
    ∷ set_is_enough (majority 1) 0 false
    ∷ set_is_enough (majority 1) 1 true
    -- a drift of 10 thousandths
    ∷ advance_is_answered 10 (990 ∷ 1000 ∷ []) accepted
    ∷ advance_is_answered 10 (989 ∷ 1000 ∷ []) (refused 13)
    -- stamp 500, length 1,000, drift 10
    ∷ lease_ends_at 500 1000 10 1490
    ∷ lease_is_live 500 1000 10 1489 true
    ∷ lease_is_live 500 1000 10 1490 false
    -- length 1
    ∷ lease_ends_at 500 1 10 500
    ∷ lease_is_never_live 500 1 10
    -- three input servers by majority, two output servers by read-one write-all
    ∷ write_has_ended (majority 3) (read_one_write_all 2) (names 0 0b01 ∷ names 1 0b11 ∷ []) 0b01 false
    ∷ write_has_ended (majority 3) (read_one_write_all 2) (names 0 0b01 ∷ names 1 0b11 ∷ names 2 0b10 ∷ []) 0b11 true
    -- eight waiting pairs fit into one list, and the lease is granted; nine do not, and it is not
    ∷ renewal_is_answered 8 8 1000 1400
    ∷ renewal_is_answered 9 8 0 1000
    ∷ []
