use Rattle.std.proofs.Common.{◌≡◌, map}
use Rattle.field.specs.Servers.{all_later}
use Rattle.field.proofs.servers.tick_all.Given as goal

abbrev pub invariant-loop-place : goal.invariant-loop-place
invariant-loop-place g l =
    map g.S.Server.kept l.servers
    ≡ all_later g.S.Server.later (g.S.Server.first (record { 0 = 0 })) l.increments l.place (map g.S.Server.kept l.initial.servers)
