use Rattle.std.proofs.Common.{ap, ◌∙◌}
use Rattle.rules.specs.Counts.{counts_of}
use Rattle.rules.specs.Ranges.{state_fits}
use Rattle.field.proofs.Places.{place_read}
use Rattle.field.proofs.message_checks.state_fits.Goals as goal

pub returns : goal.returns
returns c = c.fits.ensures ∙ ap (state_fits (counts_of c.args.counts) c.args.operation) (place_read c.args.table.now c.args.operation _ c.requires.0 c.requires.1)
