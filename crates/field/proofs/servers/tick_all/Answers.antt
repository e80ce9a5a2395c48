use Rattle.std.proofs.Common.{◌<◌, length, map, rules, sym}
use Rattle.std.proofs.lemmas.List.{get_or-map}
use Rattle.field.proofs.EachServer.{may_pass, later_more}
use Rattle.field.proofs.servers.tick_all.Goals as goal

pub pass-requires : goal.pass-requires
pass-requires g c =
    let l : c.loop-place.place < length c.loop-place.servers = search rules in
    may_pass g.S.Server.kept g.S.Server.shows g.S.Server.later (g.S.Server.first (record { 0 = 0 })) c.args.increments.now c.loop-place.place
    c.loop-place.servers (map g.S.Server.kept c.args.servers.now) c.index-servers-place.result c.loop-place.invariant c.loop-place-test.true l c.requires.stay

pub loop-place-preserved : goal.loop-place-preserved
loop-place-preserved g c =
    let l : c.loop-place.place < length c.loop-place.servers = search rules in
    later_more g.S.Server.kept g.S.Server.later (g.S.Server.first (record { 0 = 0 })) c.args.increments.now c.loop-place.place
    c.loop-place.servers (map g.S.Server.kept c.args.servers.now) c.pass.new.self _ c.loop-place.invariant
    (sym (get_or-map g.S.Server.kept c.loop-place.servers c.loop-place.place c.index-servers-place.result (g.S.Server.first (record { 0 = 0 })) l)) c.pass.ensures
