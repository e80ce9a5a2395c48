use Rattle.std.proofs.Common.{ap, ◌∙◌}
use Rattle.rules.specs.Ranges.{has_next_clock}
use Rattle.field.proofs.Places.{place_read}
use Rattle.field.proofs.message_checks.leaves_next_clock.Goals as goal

pub returns : goal.returns
returns c = c.has_next_clock.ensures ∙ ap has_next_clock (place_read c.args.table.now c.args.operation _ c.requires.0 c.requires.1)
