-- The ways that an operation can react to a message. What holds of each of these holds of every reaction.
use Rattle.std.proofs.Common.{◌≡◌, ℕ, true, false, refl}
use Rattle.std.proofs.lemmas.Bool.{cond_both}
use Rattle.quorum.specs.declared.member_set.MemberSet.{MemberSet}
use Rattle.quorum.specs.Systems.{System}
use Rattle.numbers.specs.declared.version.Version.{Version}
use Rattle.rules.specs.declared.message.Message.{Message}
use Rattle.rules.specs.declared.message.Message.TheVariants.{ClockAnswer, WriteAnswer, ReadAnswer}
use Rattle.rules.specs.Operation.{Operation, asking, sending, reading, Asking, Sending, Reading, hears_clock, knows_clock, gets_version, hears_named, is_written, hears_pair, is_read}
use Rattle.rules.specs.Reaction.{Reaction, goes_on, sends_version, ends_with, reacts}
use Rattle.rules.specs.Said.{write_ended, read_ended}

-- the message is an answer that an operation in that state waits for
abbrev pub IsAwaited : Message → Operation → Type 0
IsAwaited (ClockAnswer i p c) (asking a) = Unit {0}
IsAwaited (WriteAnswer i p t) (sending w) = Unit {0}
IsAwaited (ReadAnswer j p v x) (reading r) = Unit {0}
IsAwaited m x = ⊥

pub record Reactions (inputs outputs : System) (X : Message → Operation → Reaction → Type 0) : Type 0 where
  -- any other message
  pub stays : (m : Message) (x : Operation) → (IsAwaited m x → ⊥) → X m x (goes_on x)
  -- a clock answer, and a read set has answered or not
  pub asks : (i p c : ℕ) (a : Asking) → knows_clock inputs (hears_clock i c a) ≡ false
      → X (ClockAnswer i p c) (asking a) (goes_on (asking (hears_clock i c a)))
  pub gets : (i p c : ℕ) (a : Asking) → knows_clock inputs (hears_clock i c a) ≡ true
      → X (ClockAnswer i p c) (asking a) (sends_version inputs (gets_version (hears_clock i c a)))
  -- a write answer, and enough output servers count or not
  pub sends : (i p : ℕ) (t : MemberSet) (w : Sending) → is_written inputs outputs (hears_named i t w) ≡ false
      → X (WriteAnswer i p t) (sending w) (goes_on (sending (hears_named i t w)))
  pub writes : (i p : ℕ) (t : MemberSet) (w : Sending) → is_written inputs outputs (hears_named i t w) ≡ true
      → X (WriteAnswer i p t) (sending w) (ends_with (write_ended p w.version.0 w.value))
  -- a read answer, and a read set has answered or not
  pub gathers : (j p : ℕ) (v : Version) (x : ℕ) (r : Reading) → is_read outputs (hears_pair j v x r) ≡ false
      → X (ReadAnswer j p v x) (reading r) (goes_on (reading (hears_pair j v x r)))
  pub reads : (j p : ℕ) (v : Version) (x : ℕ) (r : Reading) → is_read outputs (hears_pair j v x r) ≡ true
      → X (ReadAnswer j p v x) (reading r) (ends_with (read_ended p (hears_pair j v x r).version.0 (hears_pair j v x r).value))

pub every_reaction : (inputs outputs : System) (X : Message → Operation → Reaction → Type 0) → Reactions inputs outputs X
    → (m : Message) (x : Operation) → X m x (reacts inputs outputs m x)
every_reaction inputs outputs X h (ClockAnswer i p c) (asking a) = cond_both (knows_clock inputs (hears_clock i c a)) _ _
    (X (ClockAnswer i p c) (asking a)) (h.gets i p c a) (h.asks i p c a)
every_reaction inputs outputs X h (WriteAnswer i p t) (sending w) = cond_both (is_written inputs outputs (hears_named i t w)) _ _
    (X (WriteAnswer i p t) (sending w)) (h.writes i p t w) (h.sends i p t w)
every_reaction inputs outputs X h (ReadAnswer j p v x) (reading r) = cond_both (is_read outputs (hears_pair j v x r)) _ _
    (X (ReadAnswer j p v x) (reading r)) (h.reads j p v x r) (h.gathers j p v x r)
every_reaction inputs outputs X h m x = h.stays m x (λ n. n)

-- any message that is not awaited leaves the operation as it was
pub reacts_stays : (inputs outputs : System) (m : Message) (x : Operation) → (IsAwaited m x → ⊥)
    → reacts inputs outputs m x ≡ goes_on x
reacts_stays inputs outputs (ClockAnswer i p c) (asking a) n = absurd (n tt)
reacts_stays inputs outputs (WriteAnswer i p t) (sending w) n = absurd (n tt)
reacts_stays inputs outputs (ReadAnswer j p v x) (reading r) n = absurd (n tt)
reacts_stays inputs outputs m x n = refl
