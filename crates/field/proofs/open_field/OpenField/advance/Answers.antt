use Rattle.std.proofs.Common.{ℕ, take, drop, ap, ◌∙◌, arith, rules}
use Rattle.std.proofs.lemmas.Result.{err_from_is_err_and}
use Rattle.field.specs.Views.{state_of}
use Rattle.field.proofs.Advances.{front_may, all_moved, moves_of, advance_refuses, advance_done}
use Rattle.field.proofs.open_field.OpenField.advance.Goals as goal

pub returns-in_err-check_advance-clause-does : goal.returns-in_err-check_advance-clause-does
returns-in_err-check_advance-clause-does g c =
    let p = err_from_is_err_and c.from_residual.result c.from_residual.ensures.1 in
    rw (p.1, p.2)
    (advance_refuses (g.I.QuorumSystem.meaning c.args.systems.now.inputs) (g.O.QuorumSystem.meaning c.args.systems.now.outputs) c.args.increments.now
    (state_of c.args.self.now c.args.log.now c.args.table.now) _ c.in_err-check_advance.ensures)

pub returns-clause-does : goal.returns-clause-does
returns-clause-does g c =
    let i = g.I.QuorumSystem.meaning c.args.systems.now.inputs in
    let o = g.O.QuorumSystem.meaning c.args.systems.now.outputs in
    let xs = c.args.increments.now in
    let s = state_of c.args.self.now c.args.log.now c.args.table.now in
    let m = moves_of i o xs s c.in_ok-check_advance.ensures in
    let a = c.split_at.ensures.front ∙ ap (λ (k : ℕ). take k xs) c.index.ensures.is in
    let b = c.split_at.ensures.back ∙ ap (λ (k : ℕ). drop k xs) c.index.ensures.is in
    advance_done i o xs s _ c.in_ok-check_advance.ensures
    (all_moved xs _ _ s m.counted a b _ _ c.tick_all.ensures c.tick_all-2.ensures)

pub tick_all-requires : goal.tick_all-requires
tick_all-requires g c =
    let i = g.I.QuorumSystem.meaning c.args.systems.now.inputs in
    let o = g.O.QuorumSystem.meaning c.args.systems.now.outputs in
    let xs = c.args.increments.now in
    let s = state_of c.args.self.now c.args.log.now c.args.table.now in
    let m = moves_of i o xs s c.in_ok-check_advance.ensures in
    let a = c.split_at.ensures.front ∙ ap (λ (k : ℕ). take k xs) c.index.ensures.is in
    let b = c.split_at.ensures.back ∙ ap (λ (k : ℕ). drop k xs) c.index.ensures.is in
    (omega arith, (search rules, front_may xs _ _ s m.counted a b ∙ m.inputs))
