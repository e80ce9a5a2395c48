-- The steps of an input server alone: what each says and leaves. A step that refuses leaves server
-- and log as they were.
use Rattle.std.specs.Prelude.{ℕ, ◌+◌, if◌then◌else◌, List, nat_le}
use Rattle.numbers.specs.declared.version.Version.{Version}
use Rattle.numbers.specs.Numbers.{last_time}
use Rattle.rules.specs.declared.message.Message.{Message}
use Rattle.rules.specs.declared.renewal.Renewal.{Renewal}
use Rattle.rules.specs.Input.{Input, later_input, answers_clock, after_write, answers_write, after_renewal, answers_renewal}
use Rattle.rules.specs.Said.{Said, accepted, refused}
use Rattle.rules.specs.Steps.{ServerStep, steps, stays, with_room}
use Rattle.input_server.specs.Epochs.{have_epochs}

-- time passes; a clock does not pass the last time
abbrev pub ticking : ℕ → Input → Said × Input
ticking increment I =
    if nat_le (I.clock.0 + increment) last_time
    then (accepted, later_input increment I)
    else (refused 12, I)

-- clock question of operation p at input server i
abbrev pub clock_step : ℕ → ℕ → Input → ℕ → List Message → ServerStep Input
clock_step i p I made log = with_room I made log (steps I (answers_clock i p I) made log)

-- write request of operation p, with m output servers
abbrev pub write_step : ℕ → ℕ → ℕ → ℕ → Version → ℕ → Input → ℕ → List Message → ServerStep Input
write_step i p m o v x I made log =
    with_room I made log
    (if have_epochs I.ledgers m
    then steps (after_write m o v x I) (answers_write i p m o (after_write m o v x I)) made log
    else stays 33 I log)

-- renewal request from output server j
abbrev pub renewal_step : ℕ → ℕ → ℕ → Renewal → Input → ℕ → List Message → ServerStep Input
renewal_step i lease j r I made log =
    with_room I made log
    (steps (after_renewal lease j r I) (answers_renewal i lease j r I) made log)
