-- The counts that numbers are held to, as the rules speak of them.
use Rattle.rules.specs.Ranges as Rules
use Rattle.rules.specs.declared.counts.Counts.{Counts}

abbrev pub counts_of : Counts → Rules.Counts
counts_of c = record { n = c.inputs.number; m = c.outputs.number; k = c.objects.number }
