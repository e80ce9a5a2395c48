-- A renewal answer, at the link to its sender.
use Rattle.std.specs.Prelude.{ℕ, Bool}
use Rattle.rules.specs.declared.kept.Link.{Link}
use Rattle.rules.specs.declared.renewal.Renewed.{Renewed}
use Rattle.rules.specs.Lists.{list_of}
use Rattle.rules.specs.Output.{hears_all, accepts, takes_copy, takes_lease}

-- what its list tells of, then its copy, then its lease
abbrev pub renewed : ℕ → Renewed → Link → Link
renewed drift y l = takes_lease drift y (takes_copy y (hears_all (list_of y.list) l))

-- the copy is accepted, once the list has been heard
abbrev pub accepts_after : Renewed → Link → Bool
accepts_after y l = accepts y (hears_all (list_of y.list) l)
