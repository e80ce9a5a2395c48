-- Versions, epochs and times, and the ranges of the subject's numbers.
use Rattle.std.specs.Prelude.{ℕ, ◌+◌, ◌-◌, ◌*◌, ◌/◌, ◌^◌, Bool, if◌then◌else◌, ◌&&◌, Some, None, Option, ◌==◌, nat_le, nat_lt}
use Rattle.numbers.specs.declared.epoch.Epoch.{Epoch}
use Rattle.numbers.specs.declared.time.Time.{Time}
use Rattle.numbers.specs.declared.version.Version.{Version}

-- ---- ranges

-- low ≤ x ≤ high
abbrev pub between : ℕ → ℕ → ℕ → Bool
between low high x = nat_le low x && nat_le x high

-- the records that the chains of one input server share
abbrev pub records : ℕ
records = 64

-- the most pairs that a message's list shows
abbrev pub shown : ℕ
shown = 8

-- the last time that a clock can show
abbrev pub last_time : ℕ
last_time = 2 ^ 40

-- the longest lease
abbrev pub longest : ℕ
longest = 1000000000

-- the last operation's number; the first is 1
abbrev pub last_operation : ℕ
last_operation = 1024

-- the highest drift, in thousandths
abbrev pub highest_drift : ℕ
highest_drift = 999

-- ---- versions

abbrev pub none : Version
none = record { 0 = 0 }

abbrev pub starting : Version
starting = record { 0 = 65536 }

abbrev pub is_version : Version → Bool
is_version v = between 65536 4294967295 v.0

abbrev pub version_of : ℕ → ℕ → Version
version_of clock operation = record { 0 = clock * 65536 + operation }

abbrev pub clock_of : Version → ℕ
clock_of v = v.0 / 65536

-- a write's version has the highest clock that it found, plus 1
abbrev pub next_version : ℕ → ℕ → Option Version
next_version highest operation = if highest == 65535 then None else Some (version_of (highest + 1) operation)

abbrev pub raised : Version → Version → Version
raised v to = if nat_lt v.0 to.0 then to else v

-- ---- epochs and times

-- no epoch follows it
abbrev pub last_epoch : ℕ
last_epoch = 65536

abbrev pub is_epoch : Epoch → Bool
is_epoch e = between 1 last_epoch e.0

abbrev pub later : Epoch → Epoch → Epoch
later e to = if nat_lt e.0 to.0 then to else e

abbrev pub longer : Time → Time → Time
longer t to = if nat_lt t.0 to.0 then to else t

-- a lease with that end is live at that time of the same clock
abbrev pub live : Time → Time → Bool
live clock end = nat_lt clock.0 end.0

-- where a lease that lasts so many microseconds ends at the output server that asked for it at
-- `stamp`
abbrev pub lease_end : ℕ → ℕ → ℕ → Time
lease_end stamp micros drift = record { 0 = stamp + micros * (1000 - drift) / 1000 }

-- a clock that moved by x kept up with one that moved by y
abbrev pub keeps_pair : ℕ → ℕ → ℕ → Bool
keeps_pair drift x y = nat_le ((1000 - drift) * y) (1000 * x)
