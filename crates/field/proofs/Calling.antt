-- The calls of an open field: what their tests say of the rules' own calls, and what is known where the tests pass.
use Rattle.std.proofs.Common.{◌≡◌, ℕ, ◌+◌, ◌≤◌, true, not, ◌||◌, eqb, ltb, List, map, length, Some, None, sym, ◌∙◌, arith}
use Rattle.std.proofs.lemmas.List.{length-map}
use Rattle.std.proofs.lemmas.Bool.{and_parts, or_parts, not-false, eqb-true, eqb-false, ltb-false, leb-true}
use Rattle.quorum.specs.declared.refusal.Refusal.{Refusal}
use Rattle.quorum.specs.Refusals.{number_of}
use Rattle.quorum.specs.Systems.{System}
use Rattle.rules.specs.declared.message.Message.{Message}
use Rattle.rules.specs.Calls.{as_opened, message_at, hands_over, delivering, delivering_refusal}
use Rattle.rules.specs.Steps.{has_room}
use Rattle.rules.specs.State.{State, Outcome, refuse}
use Rattle.operation.specs.declared.table.Operation.{Operation}
use Rattle.operation.specs.States.{operation_of}
use Rattle.field.specs.declared.open_field.OpenField.{OpenField}
use Rattle.field.specs.Delivered.{Deliverable}
use Rattle.field.specs.Invariant.{InBounds}
use Rattle.field.specs.Views.{state_of}
use Rattle.field.proofs.Refusing.{passes, later_passes, call_refuses, call_passes}
use Rattle.field.proofs.Invariant.{Numbers, numbers_of, ready_of}

-- ---- what is lent

-- what every call but opening has found
pub record Lent (i o : System) (f : OpenField) (log : List Message) (table : List Operation) : Type 0 where
  pub log_as : length log ≡ f.log_len
  pub table_as : length table ≡ f.table_len
  pub inputs_as : i.count ≡ f.counts.inputs.number
  pub outputs_as : o.count ≡ f.counts.outputs.number

pub lent_of : (i o : System) (f : OpenField) (log : List Message) (table : List Operation) → as_opened i o (state_of f log table) ≡ true
    → Lent i o f log table
lent_of i o f log table b =
    let p = and_parts (eqb (length log) f.log_len) _ b in
    let q = and_parts (eqb (length (map operation_of table)) f.table_len) _ p.1 in
    let r = and_parts (eqb i.count f.counts.inputs.number) (eqb o.count f.counts.outputs.number) q.1 in
    record {
      log_as = eqb-true (length log) f.log_len p.0;
      table_as = sym (length-map table operation_of) ∙ eqb-true (length (map operation_of table)) f.table_len q.0;
      inputs_as = eqb-true i.count f.counts.inputs.number r.0;
      outputs_as = eqb-true o.count f.counts.outputs.number r.1;
    }

-- ---- delivering

pub delivery_refuses : (i o : System) (number : ℕ) (s : State) (e : Refusal) → Some (number_of e) ≡ delivering_refusal i o number s
    → delivering i o number s ≡ refuse (number_of e) s
unfolding delivering
delivery_refuses i o number s e r = call_refuses e _ (hands_over i o (message_at s number) s) s r

pub delivery_done : (i o : System) (number : ℕ) (s : State) (x : Outcome) → None ≡ delivering_refusal i o number s
    → hands_over i o (message_at s number) s ≡ x → delivering i o number s ≡ x
unfolding delivering
delivery_done i o number s x r e = call_passes _ (hands_over i o (message_at s number) s) s r ∙ e

-- what is known then
pub record Passed (i o : System) (f : OpenField) (log : List Message) (table : List Operation) (number : ℕ) : Type 0 where
  pub lent : Lent i o f log table
  pub numbers : Numbers f
  pub low : 1 ≤ number
  pub made : number ≤ f.made
  pub room : f.made + 9 ≤ length log

pub delivery_passed : (i o : System) (f : OpenField) (log : List Message) (table : List Operation) (number : ℕ) → InBounds (Some f)
    → None ≡ delivering_refusal i o number (state_of f log table) → Passed i o f log table number
delivery_passed i o f log table number in_bounds r =
    let s = state_of f log table in
    let p = later_passes i o s _ (sym r) in
    let q = passes (eqb number 0 || ltb f.made number) 31 _ p.2 in
    let t = passes (not (has_room s.made s.log)) 32 None q.1 in
    let u = or_parts (eqb number 0) (ltb f.made number) q.0 in
    let some : number ≡ 0 → ⊥ = eqb-false number 0 u.0 in
    record {
      lent = lent_of i o f log table p.1;
      numbers = numbers_of f in_bounds;
      low = grind arith;
      made = ltb-false f.made number u.1;
      room = leb-true (f.made + 9) (length log) (not-false (has_room s.made s.log) t.0);
    }

pub begun_in_table : (i o : System) (f : OpenField) (log : List Message) (table : List Operation) (number : ℕ) → Passed i o f log table number → f.begun ≤ length table
begun_in_table i o f log table number p = let a = p.numbers.begun in let b = p.lent.table_as in omega arith

pub deliverable : (i o : System) (f : OpenField) (log : List Message) (table : List Operation) (number : ℕ) → Passed i o f log table number
    → Deliverable i o f log table number
deliverable i o f log table number p = record {
  ready = ready_of f log p.numbers p.lent.log_as p.room;
  inputs_as = p.lent.inputs_as;
  outputs_as = p.lent.outputs_as;
  begun = begun_in_table i o f log table number p;
  low = p.low;
  high = omega (arith, p.made, p.room);
}
