-- An output server: what it keeps, when it may answer a read, and what it does with each kind of
-- message.
use Rattle.std.specs.Prelude.{ℕ, ◌+◌, Bool, if◌then◌else◌, not, ◌&&◌, List, [], ◌∷◌, replicate, ◌==◌, nat_le, nat_lt, slice_index_or, slice_set}
use Rattle.quorum.specs.Sets.{set_of, all_below}
use Rattle.quorum.specs.Systems.{System}
use Rattle.numbers.specs.declared.epoch.Epoch.{Epoch}
use Rattle.rules.specs.declared.kept.Copied.{Copied}
use Rattle.rules.specs.declared.kept.Link.{Link}
use Rattle.rules.specs.declared.kept.Newest.{Newest}
use Rattle.rules.specs.declared.message.Message.{Message}
use Rattle.rules.specs.declared.message.Message.TheVariants.{ReadAnswer, RenewalRequest, InvalidationAnswer}
use Rattle.rules.specs.declared.renewal.Renewal.{Renewal}
use Rattle.rules.specs.declared.renewal.Renewed.{Renewed}
use Rattle.rules.specs.declared.pairs.Pair.{Pair}
use Rattle.rules.specs.declared.pairs.Pairs.{Pairs}
use Rattle.numbers.specs.declared.time.Time.{Time}
use Rattle.numbers.specs.declared.version.Version.{Version}
use Rattle.rules.specs.Lists.{list_of, pairs, each}
use Rattle.numbers.specs.Numbers.{none, raised, later, longer, live, lease_end}
use Rattle.rules.specs.Renewals.{asks_object, asks_volume, parts_of}

pub record Output : Type 0 where
  pub clock : Time
  -- for each object the newest version and value
  pub newest : List Newest
  -- for each input server: its copies, its lease's epoch and end
  pub links : List Link

abbrev pub no_newest : Newest
no_newest = record { version = none; value = 0 }

abbrev pub no_copy : Copied
no_copy = record { got = none; known = none; epoch = record { 0 = 0 } }

abbrev pub no_link : Link
no_link = record { copies = []; epoch = record { 0 = 0 }; lease_end = record { 0 = 0 } }

-- ---- words

abbrev pub newest_of : Output → ℕ → Newest
newest_of O o = slice_index_or O.newest o no_newest

abbrev pub link : Output → ℕ → Link
link O i = slice_index_or O.links i no_link

abbrev pub copy_of : Link → ℕ → Copied
copy_of l o = slice_index_or l.copies o no_copy

-- something was got, nothing newer is known, and it belongs to the lease's epoch or a later one
abbrev pub sound_copy : Epoch → Copied → Bool
sound_copy e c = not (c.got.0 == 0) && (nat_le c.known.0 c.got.0 && nat_le e.0 c.epoch.0)

abbrev pub sound : Output → ℕ → ℕ → Bool
sound O o i = sound_copy (link O i).epoch (copy_of (link O i) o)

abbrev pub leased : Output → ℕ → Bool
leased O i = live O.clock (link O i).lease_end

-- input server i is good for o
abbrev pub good : Output → ℕ → ℕ → Bool
good O o i = sound O o i && leased O i

-- the newest version is at least what every input server below n told of
abbrev pub covers : Output → ℕ → ℕ → Bool
covers O o n = all_below n (λ i. nat_le (copy_of (link O i) o).known.0 (newest_of O o).version.0)

-- the validity condition
abbrev pub valid : System → ℕ → ℕ → Output → Bool
valid inputs n o O = covers O o n && inputs.reads (set_of n (good O o))

-- ---- read request

-- what is asked of input server i: the object if the copy is not sound, a lease if none is live
abbrev pub asked : ℕ → Output → ℕ → Renewal
asked o O i = record {
  parts = parts_of (not (sound O o i)) (not (leased O i));
  object = o;
  stamp = O.clock;
}

-- a renewal request to input server i, unless it is good
abbrev pub asks : ℕ → ℕ → Output → ℕ → List Message
asks j o O i = if good O o i then [] else RenewalRequest j i (asked o O i) ∷ []

-- the same to each input server below n
abbrev pub asks_all : ℕ → ℕ → ℕ → Output → List Message
asks_all j n o O = each n (asks j o O)

abbrev pub answers_read : System → ℕ → ℕ → ℕ → ℕ → Output → List Message
answers_read inputs j p n o O =
    if valid inputs n o O
    then ReadAnswer j p (newest_of O o).version (newest_of O o).value ∷ []
    else asks_all j n o O

-- ---- what an input server tells

abbrev pub with_copy : ℕ → Copied → Link → Link
with_copy o c l = record l { copies = slice_set l.copies o c }

-- raise known
abbrev pub hears : Pair → Link → Link
hears x l =
    let c : Copied = copy_of l x.object in
    with_copy x.object (record c { known = raised c.known x.version }) l

unfoldable pub hears_all : List Pair → Link → Link
hears_all [] l = l
hears_all (x ∷ xs) l = hears_all xs (hears x l)

-- an object part is accepted if nothing newer is known
abbrev pub accepts : Renewed → Link → Bool
accepts y l = asks_object y.renewal.parts && nat_le (copy_of l y.renewal.object).known.0 y.version.0

abbrev pub takes_copy : Renewed → Link → Link
takes_copy y l =
    let o : ℕ = y.renewal.object in
    let epoch : Epoch = later (copy_of l o).epoch y.epoch in
    if accepts y l
    then with_copy o (record { got = y.version; known = y.version; epoch = epoch }) l
    else l

abbrev pub takes_lease : ℕ → Renewed → Link → Link
takes_lease drift y l =
    let end : Time = lease_end y.renewal.stamp.0 y.length drift in
    if asks_volume y.renewal.parts
    then record l {
      epoch = later l.epoch y.epoch;
      lease_end = if nat_lt 0 y.length then longer l.lease_end end else l.lease_end;
    }
    else l

-- a copy that was accepted is the newest, if its version is above the newest
abbrev pub takes_newest : Bool → Renewed → List Newest → List Newest
takes_newest accepted y ns =
    let o : ℕ = y.renewal.object in
    if accepted && nat_lt (slice_index_or ns o no_newest).version.0 y.version.0
    then slice_set ns o (record { version = y.version; value = y.value })
    else ns

-- ---- renewal answer from input server i

unfoldable pub after_answer : ℕ → ℕ → Renewed → Output → Output
after_answer drift i y O =
    let heard : Link = hears_all (list_of y.list) (link O i) in
    record O {
      newest = takes_newest (accepts y heard) y O.newest;
      links = slice_set O.links i (takes_lease drift y (takes_copy y heard));
    }

-- the same list, unless it is empty
abbrev pub acknowledgement : ℕ → ℕ → Pairs → List Message
acknowledgement j i l = if l.count == 0 then [] else InvalidationAnswer j i l ∷ []

-- ---- invalidation from input server i

unfoldable pub after_invalidation : ℕ → ℕ → Version → Output → Output
after_invalidation i o v O =
    record O { links = slice_set O.links i (hears (record { object = o; version = v }) (link O i)) }

abbrev pub answers_invalidation : ℕ → ℕ → ℕ → Version → List Message
answers_invalidation j i o v =
    InvalidationAnswer j i (pairs (record { object = o; version = v } ∷ [])) ∷ []

-- ---- the first state

abbrev pub first_output : Time → Output
first_output clock = record {
  clock = clock;
  newest = replicate 16 no_newest;
  links = replicate 8 (record {
    copies = replicate 16 no_copy;
    epoch = record { 0 = 0 };
    lease_end = record { 0 = 0 };
  });
}

abbrev pub later_output : ℕ → Output → Output
later_output increment O = record O { clock = record { 0 = O.clock.0 + increment } }
