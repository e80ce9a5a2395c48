-- What a step of one server leaves: the server, the log, and how many messages are made then. A
-- step that refuses leaves server and log as they were.
use Rattle.std.specs.Prelude.{◌≡◌, ℕ, ◌+◌, Bool, if◌then◌else◌, List, length, Ok, Err, Result, nat_le}
use Rattle.std.proofs.lemmas.List.Edits.{sets}
use Rattle.quorum.specs.declared.refusal.Refusal.{Refusal}
use Rattle.quorum.specs.Refusals.{number_of}
use Rattle.rules.specs.declared.log.Log.{Log}
use Rattle.rules.specs.declared.message.Message.{Message}

pub data StepSaid : Type 0 where
  -- so many messages are made now
  made_now : ℕ → StepSaid
  refused : ℕ → StepSaid

pub record ServerStep (A : Type 0) : Type 0 where
  pub said : StepSaid
  pub server : A
  pub log : List Message

-- what the answer of the code says, where so many messages are made after it
abbrev pub step_says : ℕ → Result (Unit {0}) Refusal → StepSaid
step_says made (Ok u) = made_now made
step_says made (Err e) = refused (number_of e)

-- what the code leaves
abbrev pub step : {A : Type 0} → Result (Unit {0}) Refusal → A → Log → ServerStep A
step r a log = record { said = step_says log.made r; server = a; log = log.messages.now }

-- the step is taken: the server becomes b, and messages are logged after those made before
abbrev pub steps : {A : Type 0} → A → List Message → ℕ → List Message → ServerStep A
steps b new made log = record {
  said = made_now (made + length new);
  server = b;
  log = sets log made new;
}

abbrev pub stays : {A : Type 0} → ℕ → A → List Message → ServerStep A
stays number a log = record { said = refused number; server = a; log = log }

-- a step that logs asks for nine free places, as a delivery does
abbrev pub has_room : ℕ → List Message → Bool
has_room made log = nat_le (made + 9) (length log)

abbrev pub with_room : {A : Type 0} → A → ℕ → List Message → ServerStep A → ServerStep A
with_room a made log x = if has_room made log then x else stays 32 a log

-- ---- a log that is lent

-- these messages are logged, after those made before; the log is still the same loan
pub record Logs (before after : Log) (new : List Message) : Type 0 where
  pub made : after.made ≡ before.made + length new
  pub messages : after.messages.now ≡ sets before.messages.now before.made new
  pub loan : after.messages.ghost_name ≡ before.messages.ghost_name
