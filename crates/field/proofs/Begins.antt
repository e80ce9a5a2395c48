-- Beginning: what its tests say, and what it leaves.
use Rattle.std.proofs.Common.{◌≡◌, ℕ, Some, None, ◌+◌, ◌<◌, ◌≤◌, not, leb, List, [], ◌∷◌, map, length, set, sym, ap, ◌∙◌, arith}
use Rattle.std.proofs.lemmas.List.{length-map, map-set}
use Rattle.std.proofs.lemmas.Bool.{not-false, leb-false, leb-true}
use Rattle.quorum.specs.declared.refusal.Refusal.{Refusal}
use Rattle.quorum.specs.Refusals.{number_of}
use Rattle.quorum.specs.Systems.{System}
use Rattle.rules.specs.declared.message.Message.{Message}
use Rattle.rules.specs.declared.message.Message.TheVariants.{ClockQuestion, ReadRequest}
use Rattle.rules.specs.Calls.{enter, beginning_refusal, beginning_write, beginning_read}
use Rattle.rules.specs.Steps.{has_room}
use Rattle.rules.specs.Lists.{each}
use Rattle.rules.specs.Operation as Rules
use Rattle.rules.specs.Operation.{asking, reading, first_asking, first_reading, clock_questions, read_requests}
use Rattle.rules.specs.Said.{began}
use Rattle.rules.specs.State.{State, outcome, refuse, post}
use Rattle.operation.specs.declared.table.Operation.{Operation}
use Rattle.operation.specs.States.{operation_of}
use Rattle.field.specs.declared.open_field.OpenField.{OpenField}
use Rattle.field.specs.Invariant.{InBounds}
use Rattle.field.specs.Views.{inputs_of, outputs_of, frame_of, state_of}
use Rattle.field.proofs.Calling.{lent_of}
use Rattle.field.proofs.Refusing.{passes, later_passes, call_refuses, call_passes}
use Rattle.field.proofs.Invariant.{numbers_of}

-- ---- the tests

pub write_refuses : (i o : System) (b v : ℕ) (s : State) (e : Refusal) → Some (number_of e) ≡ beginning_refusal i o b s → beginning_write i o b v s ≡ refuse (number_of e) s
unfolding beginning_write
write_refuses i o b v s e r = call_refuses e _ _ s r

pub read_refuses : (i o : System) (b : ℕ) (s : State) (e : Refusal) → Some (number_of e) ≡ beginning_refusal i o b s → beginning_read i o b s ≡ refuse (number_of e) s
unfolding beginning_read
read_refuses i o b s e r = call_refuses e _ _ s r

-- what is known where they pass
pub record Beginnable (i o : System) (f : OpenField) (log : List Message) (table : List Operation) (b : ℕ) : Type 0 where
  pub object : b < 16
  pub free : f.begun < length table
  pub few : f.begun < 1024
  pub room : f.made + 9 ≤ length log

pub beginnable : (i o : System) (f : OpenField) (log : List Message) (table : List Operation) (b : ℕ) → InBounds (Some f)
    → None ≡ beginning_refusal i o b (state_of f log table) → Beginnable i o f log table b
beginnable i o f log table b in_bounds r =
    let s = state_of f log table in
    let p = later_passes i o s _ (sym r) in
    let q = passes (leb f.counts.objects.number b) 21 _ p.2 in
    let t = passes (leb (length s.table) f.begun) 22 _ q.1 in
    let u = passes (not (has_room s.made s.log)) 23 None t.1 in
    let lent = lent_of i o f log table p.1 in
    let numbers = numbers_of f in_bounds in
    let object = leb-false f.counts.objects.number b q.0 in
    let free = leb-false (length s.table) f.begun t.0 in
    let few = f.counts.objects.inside in
    let most = numbers.table_most in
    let same = lent.table_as in
    let len = length-map table operation_of in
    record {
      object = omega arith;
      free = omega arith;
      few = omega arith;
      room = leb-true (f.made + 9) (length log) (not-false (has_room s.made s.log) u.0);
    }

-- ---- what is left

pub entered : (f : OpenField) (log : List Message) (table : List Operation) (x : Operation)
    → ◌≡◌ {A = State} (record {
      frame = frame_of f;
      made = f.made;
      begun = f.begun + 1;
      inputs = inputs_of f.inputs;
      outputs = outputs_of f.outputs;
      log = log;
      table = map operation_of (set table f.begun x);
    }) (enter (operation_of x) (state_of f log table))
entered f log table x = λ t. record {
  frame = frame_of f;
  made = f.made;
  begun = f.begun + 1;
  inputs = inputs_of f.inputs;
  outputs = outputs_of f.outputs;
  log = log;
  table = map-set operation_of table f.begun x t;
}

pub write_begun : (i o : System) (b v n : ℕ) (s s1 s2 : State) (x : Rules.Operation) → None ≡ beginning_refusal i o b s
    → s1 ≡ enter x s → x ≡ asking (first_asking (s.begun + 1) b v) → n ≡ s1.frame.counts.n
    → s2 ≡ post (each n (λ k. ClockQuestion (s.begun + 1) k ∷ [])) s1
    → beginning_write i o b v s ≡ outcome (began (s.begun + 1)) s2
unfolding beginning_write
write_begun i o b v n s s1 s2 x r e y m l =
    let N = m ∙ ap (λ (z : State). z.frame.counts.n) e in
    call_passes _ _ s r
    ∙ ap (λ (z : Rules.Operation). outcome (began (s.begun + 1)) (post (clock_questions (s.begun + 1) s.frame.counts.n) (enter z s))) (sym y)
    ∙ ap (λ (k : ℕ). outcome (began (s.begun + 1)) (post (clock_questions (s.begun + 1) k) (enter x s))) (sym N)
    ∙ ap (λ (z : State). outcome (began (s.begun + 1)) (post (clock_questions (s.begun + 1) n) z)) (sym e)
    ∙ ap (outcome (began (s.begun + 1))) (sym l)

pub read_begun : (i o : System) (b n : ℕ) (s s1 s2 : State) (x : Rules.Operation) → None ≡ beginning_refusal i o b s
    → s1 ≡ enter x s → x ≡ reading (first_reading (s.begun + 1) b) → n ≡ s1.frame.counts.m
    → s2 ≡ post (each n (λ k. ReadRequest (s.begun + 1) k b ∷ [])) s1
    → beginning_read i o b s ≡ outcome (began (s.begun + 1)) s2
unfolding beginning_read
read_begun i o b n s s1 s2 x r e y m l =
    let N = m ∙ ap (λ (z : State). z.frame.counts.m) e in
    call_passes _ _ s r
    ∙ ap (λ (z : Rules.Operation). outcome (began (s.begun + 1)) (post (read_requests (s.begun + 1) b s.frame.counts.m) (enter z s))) (sym y)
    ∙ ap (λ (k : ℕ). outcome (began (s.begun + 1)) (post (read_requests (s.begun + 1) b k) (enter x s))) (sym N)
    ∙ ap (λ (z : State). outcome (began (s.begun + 1)) (post (read_requests (s.begun + 1) b n) z)) (sym e)
    ∙ ap (outcome (began (s.begun + 1))) (sym l)
