use Rattle.std.proofs.Common.{[], Bool, ℕ, ◌&&◌, take, drop, sym, ap, ◌∙◌}
use Rattle.rules.specs.Calls.{outputs_stay}
use Rattle.field.specs.Views.{state_of}
use Rattle.field.proofs.Advances.{front_may, back_may}
use Rattle.field.proofs.open_field.OpenField.clocks_stay.Goals as goal

pub returns-then-all_stay : goal.returns-then-all_stay
returns-then-all_stay c =
    let xs = c.args.increments.now in
    let s = state_of c.args.self.now [] [] in
    let a = c.split_at.ensures.front ∙ ap (λ (k : ℕ). take k xs) c.index.ensures.is in
    let b = c.split_at.ensures.back ∙ ap (λ (k : ℕ). drop k xs) c.index.ensures.is in
    c.all_stay-then-all_stay.ensures ∙ back_may xs _ _ s c.requires a b
    ∙ ap (λ (t : Bool). t && outputs_stay xs s.frame.counts.m s) (sym c.if-all_stay.true ∙ c.all_stay.ensures ∙ front_may xs _ _ s c.requires a b)

pub returns-else-all_stay : goal.returns-else-all_stay
returns-else-all_stay c =
    let xs = c.args.increments.now in
    let s = state_of c.args.self.now [] [] in
    let a = c.split_at.ensures.front ∙ ap (λ (k : ℕ). take k xs) c.index.ensures.is in
    let b = c.split_at.ensures.back ∙ ap (λ (k : ℕ). drop k xs) c.index.ensures.is in
    c.if-all_stay.false
    ∙ ap (λ (t : Bool). t && outputs_stay xs s.frame.counts.m s) (sym c.if-all_stay.false ∙ c.all_stay.ensures ∙ front_may xs _ _ s c.requires a b)
