-- Which messages and which states of operations are in range.
use Rattle.std.specs.Prelude.{◌≡◌, ℕ, ◌^◌, Bool, true, false, if◌then◌else◌, not, ◌&&◌, ◌||◌, List, Some, None, Option, Ok, Err, Result, ◌==◌, nat_le, nat_lt}
use Rattle.std.specs.List.{list_all}
use Rattle.std.specs.Option.{option_map_or}
use Rattle.quorum.specs.declared.member_set.MemberSet.{MemberSet}
use Rattle.quorum.specs.declared.refusal.Refusal.{Refusal}
use Rattle.quorum.specs.Refusals.{number_of}
use Rattle.quorum.specs.Sets.{all_below}
use Rattle.rules.specs.declared.message.Message.{Message}
use Rattle.rules.specs.declared.message.Message.TheVariants.{ClockQuestion, ClockAnswer, WriteRequest, WriteAnswer, ReadRequest, ReadAnswer, RenewalRequest, RenewalAnswer, Invalidation, InvalidationAnswer}
use Rattle.rules.specs.declared.pairs.Pair.{Pair}
use Rattle.rules.specs.declared.pairs.Pairs.{Pairs}
use Rattle.rules.specs.declared.renewal.Renewal.{Renewal}
use Rattle.rules.specs.declared.renewal.Renewed.{Renewed}
use Rattle.rules.specs.Lists.{list_of}
use Rattle.numbers.specs.Numbers.{between, is_epoch, is_version, shown, last_time, longest}
use Rattle.rules.specs.Operation.{Operation, asking, sending, reading, Asking, Sending, Reading, named_by}
use Rattle.rules.specs.Renewals.{asks_object, asks_volume}

-- the counts that numbers are held to: input servers, output servers, objects
pub record Counts : Type 0 where
  pub n : ℕ
  pub m : ℕ
  pub k : ℕ

-- ---- messages

-- What testing a number or a value gives: what stands for the same there, just where it is in
-- range, and the refusal 33 otherwise.
abbrev pub TestsRange : {A B : Type 0} → (A → B) → Bool → B → Result A Refusal → Type 0
TestsRange of fits x (Ok a) = (fits ≡ true) × (of a ≡ x)
TestsRange of fits x (Err e) = (fits ≡ false) × (number_of e ≡ 33)

-- of a field with k objects
abbrev pub pair_fits : ℕ → Pair → Bool
pair_fits k p = nat_lt p.object k && is_version p.version

abbrev pub pairs_fit : ℕ → List Pair → Bool
pairs_fit k ps = list_all (pair_fits k) ps

abbrev pub list_fits : ℕ → Pairs → Bool
list_fits k l = nat_le l.count shown && pairs_fit k (list_of l)

abbrev pub renewal_fits : ℕ → Renewal → Bool
renewal_fits k r = nat_lt r.object k && nat_le r.stamp.0 last_time

-- version and value of an object part
abbrev pub copy_fits : Renewed → Bool
copy_fits y =
    if asks_object y.renewal.parts then is_version y.version else (y.version.0 == 0) && y.value == 0

-- length and list of a volume part
abbrev pub lease_fits : ℕ → Renewed → Bool
lease_fits k y =
    if asks_volume y.renewal.parts
    then nat_le y.length longest && list_fits k y.list
    else (y.length == 0) && y.list.count == 0

abbrev pub renewed_fits : ℕ → Renewed → Bool
renewed_fits k y = renewal_fits k y.renewal && (is_epoch y.epoch && (copy_fits y && lease_fits k y))

abbrev pub ends : Counts → ℕ → ℕ → Bool
ends c i j = nat_lt i c.n && nat_lt j c.m

-- the numbers of a message, but for the operation that it names
abbrev pub numbers_fit : Counts → Message → Bool
numbers_fit c (ClockQuestion p i) = nat_lt i c.n
numbers_fit c (ClockAnswer i p clock) = nat_lt i c.n && between 1 65534 clock
numbers_fit c (WriteRequest p i o v x) = nat_lt i c.n && (nat_lt o c.k && is_version v)
numbers_fit c (WriteAnswer i p s) = nat_lt i c.n && nat_lt s.0 (2 ^ c.m)
numbers_fit c (ReadRequest p j o) = nat_lt j c.m && nat_lt o c.k
numbers_fit c (ReadAnswer j p v x) = nat_lt j c.m && is_version v
numbers_fit c (RenewalRequest j i r) = ends c i j && renewal_fits c.k r
numbers_fit c (RenewalAnswer i j y) = ends c i j && renewed_fits c.k y
numbers_fit c (Invalidation i j o v) = ends c i j && (nat_lt o c.k && is_version v)
numbers_fit c (InvalidationAnswer j i l) = ends c i j && list_fits c.k l

-- the number of the operation that a message names; a message between two servers names none
abbrev pub named_in : Message → Option ℕ
named_in (ClockQuestion p i) = Some p
named_in (ClockAnswer i p clock) = Some p
named_in (WriteRequest p i o v x) = Some p
named_in (WriteAnswer i p s) = Some p
named_in (ReadRequest p j o) = Some p
named_in (ReadAnswer j p v x) = Some p
named_in m = None

-- the operation that a message names: it is known, begun and in range, and a clock answer leaves it
-- room for a version
abbrev pub operation_fits : (ℕ → Bool) → (ℕ → Bool) → Message → Bool
operation_fits known room (ClockAnswer i p clock) = known p && room p
operation_fits known room m = option_map_or known (named_in m) true

-- ---- states of operations

-- output servers below m for the input servers below n, and nothing for the others
unfoldable pub named_fit : Counts → ℕ → List MemberSet → Bool
named_fit c n named =
    all_below n (λ i.
    if nat_lt i c.n then nat_lt (named_by named i) (2 ^ c.m) else (named_by named i == 0))

abbrev pub asking_fits : Counts → ℕ → Asking → Bool
asking_fits c p a =
    a.operation == p
    && (nat_lt a.object c.k
    && (nat_lt a.senders (2 ^ c.n)
    && nat_le a.clock 65535))

abbrev pub sending_fits : Counts → ℕ → Sending → Bool
sending_fits c p w =
    w.operation == p
    && (nat_lt w.object c.k
    && (is_version w.version
    && named_fit c 8 w.named))

abbrev pub reading_fits : Counts → ℕ → Reading → Bool
reading_fits c p r =
    (r.operation == p)
    && (nat_lt r.object c.k
    && (nat_lt r.senders (2 ^ c.m)
    && (r.version.0 == 0 || is_version r.version)))

-- the state of operation p
abbrev pub state_fits : Counts → ℕ → Operation → Bool
state_fits c p (asking a) = asking_fits c p a
state_fits c p (sending w) = sending_fits c p w
state_fits c p (reading r) = reading_fits c p r
state_fits c p x = true

-- there is a clock above the one that an asking write gathered
abbrev pub has_next_clock : Operation → Bool
has_next_clock (asking a) = not (a.clock == 65535)
has_next_clock x = true
