-- What the invariant of a field says, and that every call keeps it.
use Rattle.std.proofs.Common.{◌≡◌, ℕ, ◌+◌, ◌<◌, ◌≤◌, true, List, [], length, get_or, Some, None, Option, sym, refl, subst, arith}
use mathlib.Core.Logic.{∥∥₁_elim, ∥∥₁_map}
use mathlib.Core.HLevel.{Π_prop}
use native.Mathlib.Bridge.{le_prop}
use Rattle.quorum.specs.Systems.{System, Lawful}
use Rattle.rules.specs.declared.message.Message.{Message}
use Rattle.rules.specs.Input.{ledger}
use Rattle.rules.specs.Said.{Said}
use Rattle.rules.specs.State.{Outcome, outcome, no_input}
use Rattle.guarantee.specs.Bounds.{Bounded}
use Rattle.guarantee.specs.Story.{Call, outcome_of}
use Rattle.guarantee.proofs.Bounds.{bounds_kept}
use Rattle.operation.specs.declared.table.Operation.{Operation}
use Rattle.field.specs.declared.open_field.OpenField.{OpenField}
use Rattle.field.specs.Ready.{Ready}
use Rattle.field.specs.Invariant.{BoundsHold, InBounds}
use Rattle.field.specs.Views.{inputs_of, state_of, field_of}
use Rattle.field.proofs.Refusing.{not_refused}

-- ---- its numbers

pub record Numbers (f : OpenField) : Type 0 where
  pub log_most : f.log_len ≤ 65535
  pub table_most : f.table_len ≤ 1024
  pub begun : f.begun ≤ f.table_len
  pub epochs : (i j : ℕ) → i < 8 → j < 8 → (ledger (get_or (inputs_of f.inputs) i no_input) j).epoch.0 ≤ f.made + 1

numbers_prop : (f : OpenField) → IsProp (Numbers f)
numbers_prop f a b = λ k. record {
  log_most = le_prop a.log_most b.log_most k;
  table_most = le_prop a.table_most b.table_most k;
  begun = le_prop a.begun b.begun k;
  epochs = Π_prop (λ i. Π_prop (λ j. Π_prop (λ _. Π_prop (λ _. le_prop)))) a.epochs b.epochs k;
}

pub numbers_of : (f : OpenField) → InBounds (Some f) → Numbers f
numbers_of f s = ∥∥₁_elim s (numbers_prop f) (λ d.
    record {
      log_most = d.log_length.1;
      table_most = d.table_length.1;
      begun = d.begun;
      epochs = λ i j h l. ((d.each_input i h).epoch j l).1;
    })

pub ready_of : (f : OpenField) (log : List Message) → Numbers f → length log ≡ f.log_len → f.made + 9 ≤ length log → Ready f log
ready_of f log n e h = record {
  few = omega (arith, n.begun, n.table_most);
  room = h;
  epochs = λ i j a b. let z = n.epochs i j a b in let y = n.log_most in omega arith;
}

-- ---- log and table do not matter to it

rebase : (f : OpenField) (a b : List Message) (t u : List Operation) → Bounded (state_of f a t) → Bounded (state_of f b u)
rebase f a b t u d = record {
  n = d.n;
  m = d.m;
  k = d.k;
  lease = d.lease;
  drift = d.drift;
  log_length = d.log_length;
  table_length = d.table_length;
  made = d.made;
  begun = d.begun;
  inputs = d.inputs;
  outputs = d.outputs;
  each_input = d.each_input;
  each_output = d.each_output;
}

-- ---- every call keeps it

-- the bounds of a field that is open, from its invariant and back
bounded_of : (f : Option OpenField) (log : List Message) (table : List Operation) → BoundsHold f
    → (field_of f log table).frame.is_open ≡ true → Bounded (field_of f log table)
bounded_of None log table b e = not_refused (sym e)
bounded_of (Some f) log table b e = rebase f [] log [] table b

in_bounds : (f : Option OpenField) (log : List Message) (table : List Operation)
    → ((field_of f log table).frame.is_open ≡ true → Bounded (field_of f log table)) → BoundsHold f
in_bounds None log table h = tt
in_bounds (Some f) log table h = rebase f log [] table [] (h refl)

pub in_bounds_after : (i o : System) → Lawful i → Lawful o → (c : Call) (f g : Option OpenField) (log log' : List Message) (table table' : List Operation) (r : Said)
    → InBounds f → outcome_of i o c (field_of f log table) ≡ outcome r (field_of g log' table') → InBounds g
in_bounds_after i o li lo c f g log log' table table' r s e = ∥∥₁_map s (λ b.
    in_bounds g log' table'
    (subst (λ (x : Outcome). x.after.frame.is_open ≡ true → Bounded x.after) e
    (bounds_kept i o li lo c (field_of f log table) (bounded_of f log table b))))
