-- An output server as the rules speak of it.
use Rattle.std.specs.Prelude.{ℕ, true, slice_set}
use Rattle.rules.specs.declared.kept.Link.{Link}
use Rattle.rules.specs.declared.renewal.Renewed.{Renewed}
use Rattle.rules.specs.Output.{Output, takes_newest}
use Rattle.output_server.specs.declared.server.OutputServer.{OutputServer}

abbrev pub output_of : OutputServer → Output
output_of s = record { clock = record { 0 = s.clock.micros }; newest = s.newest; links = s.links }

-- the server with what an accepted copy makes of its newest pair
abbrev pub with_newest : Renewed → Output → Output
with_newest y O = record O { newest = takes_newest true y O.newest }

-- the server with another link to input server i
abbrev pub with_link : ℕ → Link → Output → Output
with_link i l O = record O { links = slice_set O.links i l }
