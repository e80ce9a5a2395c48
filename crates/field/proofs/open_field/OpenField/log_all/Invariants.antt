use Rattle.std.proofs.Common.{[], ◌∷◌}
use Rattle.rules.specs.Lists.{each}
use Rattle.rules.specs.Steps.{Logs}
use Rattle.field.proofs.open_field.OpenField.log_all.Given as goal

abbrev pub invariant-loop-number : goal.invariant-loop-number
invariant-loop-number g l = Logs l.initial.log l.log (each l.number (λ i. g.R.Requests.message l.requests i ∷ []))
