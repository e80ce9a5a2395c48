-- The law of leases: why an input server that has waited a lease out need not ask.
use Rattle.std.specs.Prelude.{◌≡◌, ℕ, ◌<◌, ◌≤◌, true, false, length, take}
use Rattle.quorum.specs.Systems.{Lawful}
use Rattle.rules.specs.declared.message.Message.TheVariants.{RenewalAnswer}
use Rattle.rules.specs.declared.renewal.Renewed.{Renewed}
use Rattle.rules.specs.Input.{ledger}
use Rattle.numbers.specs.Numbers.{lease_end}
use Rattle.rules.specs.Renewals.{asks_volume}
use Rattle.rules.specs.State.{State, input_at, output_at}
use Rattle.guarantee.specs.Story.{Story, before, Has}

-- Every lease that input server i ever granted output server j is over on the clock of j,
-- delivered or not.
abbrev pub AllOver : State → ℕ → ℕ → Type 0
AllOver s i j =
    (y : Renewed) → asks_volume y.renewal.parts ≡ true → 1 ≤ y.length → Has (take s.made s.log) (RenewalAnswer i j y)
    → (lease_end y.renewal.stamp.0 y.length s.frame.drift).0 ≤ (output_at s j).clock.0

-- Whenever, in any story, the clock of an input server has reached its lease end for an output
-- server, it is so.
abbrev pub LeasesRunOut : Type 0
LeasesRunOut =
    (S : Story) → Lawful S.inputs → Lawful S.outputs → S.start.frame.is_open ≡ false
    → (t : ℕ) → t ≤ length S.calls → (before S t).frame.is_open ≡ true
    → (i j : ℕ) → i < (before S t).frame.counts.n → j < (before S t).frame.counts.m
    → (ledger (input_at (before S t) i) j).lease_end.0 ≤ (input_at (before S t) i).clock.0
    → AllOver (before S t) i j
