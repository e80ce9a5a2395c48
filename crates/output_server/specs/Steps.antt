-- The steps of an output server alone: what each says and leaves. A step that refuses leaves server
-- and log as they were.
use Rattle.std.specs.Prelude.{ℕ, ◌+◌, if◌then◌else◌, List, nat_le, nat_lt}
use Rattle.quorum.specs.Systems.{System}
use Rattle.numbers.specs.declared.version.Version.{Version}
use Rattle.numbers.specs.Numbers.{last_time}
use Rattle.rules.specs.declared.message.Message.{Message}
use Rattle.rules.specs.declared.renewal.Renewed.{Renewed}
use Rattle.rules.specs.Output.{Output, later_output, answers_read, after_answer, acknowledgement, after_invalidation, answers_invalidation}
use Rattle.rules.specs.Said.{Said, accepted, refused}
use Rattle.rules.specs.Steps.{ServerStep, steps, stays, with_room}

-- time passes; a clock does not pass the last time
abbrev pub ticking : ℕ → Output → Said × Output
ticking increment O =
    if nat_le (O.clock.0 + increment) last_time
    then (accepted, later_output increment O)
    else (refused 12, O)

-- read request of operation p at output server j
abbrev pub read_step : System → ℕ → ℕ → ℕ → Output → ℕ → List Message → ServerStep Output
read_step inputs j p o O made log =
    if nat_lt 8 inputs.count
    then stays 2 O log
    else with_room O made log (steps O (answers_read inputs j p inputs.count o O) made log)

-- renewal answer from input server i
abbrev pub answer_step : ℕ → ℕ → ℕ → Renewed → Output → ℕ → List Message → ServerStep Output
answer_step drift j i y O made log =
    with_room O made log (steps (after_answer drift i y O) (acknowledgement j i y.list) made log)

-- invalidation from input server i
abbrev pub invalidation_step : ℕ → ℕ → ℕ → Version → Output → ℕ → List Message → ServerStep Output
invalidation_step j i o v O made log =
    with_room O made log
    (steps (after_invalidation i o v O) (answers_invalidation j i o v) made log)
