-- What the steps of single servers come to in a field that is ready for them.
use Rattle.std.proofs.Common.{◌≡◌, ℕ, zero, suc, ◌+◌, ◌<◌, ◌≤◌, Bool, true, ◌&&◌, ltb, List, map, length, get_or, set, Ok, Err, Result, IsOk, sym, refl, ap, ◌∙◌, arith}
use Rattle.std.proofs.lemmas.List.{map-set, get_or-map}
use Rattle.std.proofs.lemmas.Bool.{cond-true, cond-false, le-leb, le-ltb, lt-ltb}
use Rattle.quorum.specs.declared.refusal.Refusal.{Refusal}
use Rattle.quorum.specs.Systems.{System}
use Rattle.numbers.specs.Numbers.{last_epoch}
use Rattle.numbers.specs.declared.version.Version.{Version}
use Rattle.rules.specs.declared.kept.Ledger.{Ledger}
use Rattle.rules.specs.declared.log.Log.{Log}
use Rattle.rules.specs.declared.message.Message.{Message}
use Rattle.rules.specs.declared.pairs.Pair.{Pair}
use Rattle.rules.specs.declared.renewal.Renewal.{Renewal}
use Rattle.rules.specs.declared.renewal.Renewed.{Renewed}
use Rattle.rules.specs.Calls.{quiet}
use Rattle.rules.specs.Input.{Input, no_ledger, answers_clock, after_write, answers_write, after_renewal, answers_renewal}
use Rattle.rules.specs.Output.{Output, answers_read, after_answer, acknowledgement, after_invalidation, answers_invalidation}
use Rattle.rules.specs.State.{no_input, post, with_input, with_output}
use Rattle.rules.specs.Steps.{StepSaid, made_now, refused, ServerStep, step_says, step, steps, stays, has_room, with_room}
use Rattle.input_server.specs.declared.server.InputServer.{InputServer}
use Rattle.input_server.specs.Epochs.{has_epoch, have_epochs}
use Rattle.input_server.specs.Steps.{clock_step, write_step, renewal_step}
use Rattle.input_server.specs.Views.{input_of}
use Rattle.operation.specs.declared.table.Operation.{Operation}
use Rattle.operation.specs.States.{operation_of}
use Rattle.output_server.specs.declared.server.OutputServer.{OutputServer}
use Rattle.output_server.specs.Steps.{read_step, answer_step, invalidation_step}
use Rattle.output_server.specs.Views.{output_of}
use Rattle.field.specs.declared.open_field.OpenField.{OpenField}
use Rattle.field.specs.Ready.{Ready}
use Rattle.field.specs.Views.{inputs_of, outputs_of, frame_of, state_of}
use lib.Seq.{sets}

-- ---- steps that do not refuse

with_room_lem : {A : Type 0} (a : A) (made : ℕ) (log : List Message) (x : ServerStep A) → made + 9 ≤ length log → with_room a made log x ≡ x
with_room_lem a made log x h = cond-true (has_room made log) x (stays 32 a log) (le-leb (made + 9) (length log) h)

pub clock_step_lem : (i p : ℕ) (I : Input) (made : ℕ) (log : List Message) → made + 9 ≤ length log
    → clock_step i p I made log ≡ steps I (answers_clock i p I) made log
clock_step_lem i p I made log h = with_room_lem I made log _ h

have_epochs_lem : (ls : List Ledger) (m : ℕ) → ((j : ℕ) → j < m → (get_or ls j no_ledger).epoch.0 < last_epoch) → have_epochs ls m ≡ true
have_epochs_lem ls zero h = refl
have_epochs_lem ls (suc m) h =
    ap (λ (b : Bool). b && has_epoch ls m) (have_epochs_lem ls m (λ j l. h j (omega arith))) ∙ lt-ltb _ last_epoch (h m (omega arith))

pub write_step_lem : (i p m o : ℕ) (v : Version) (x : ℕ) (I : Input) (made : ℕ) (log : List Message) → made + 9 ≤ length log
    → ((j : ℕ) → j < m → (get_or I.ledgers j no_ledger).epoch.0 < last_epoch)
    → write_step i p m o v x I made log ≡ steps (after_write m o v x I) (answers_write i p m o (after_write m o v x I)) made log
write_step_lem i p m o v x I made log h e =
    with_room_lem I made log _ h ∙ cond-true (have_epochs I.ledgers m) _ _ (have_epochs_lem I.ledgers m e)

pub renewal_step_lem : (i lease j : ℕ) (r : Renewal) (I : Input) (made : ℕ) (log : List Message) → made + 9 ≤ length log
    → renewal_step i lease j r I made log ≡ steps (after_renewal lease j r I) (answers_renewal i lease j r I) made log
renewal_step_lem i lease j r I made log h = with_room_lem I made log _ h

pub read_step_lem : (q : System) (j p o : ℕ) (O : Output) (made : ℕ) (log : List Message) → q.count ≤ 8 → made + 9 ≤ length log
    → read_step q j p o O made log ≡ steps O (answers_read q j p q.count o O) made log
read_step_lem q j p o O made log few h = cond-false (ltb 8 q.count) _ _ (le-ltb 8 q.count few) ∙ with_room_lem O made log _ h

pub answer_step_lem : (drift j i : ℕ) (y : Renewed) (O : Output) (made : ℕ) (log : List Message) → made + 9 ≤ length log
    → answer_step drift j i y O made log ≡ steps (after_answer drift i y O) (acknowledgement j i y.list) made log
answer_step_lem drift j i y O made log h = with_room_lem O made log _ h

pub invalidation_step_lem : (j i o : ℕ) (v : Version) (O : Output) (made : ℕ) (log : List Message) → made + 9 ≤ length log
    → invalidation_step j i o v O made log ≡ steps (after_invalidation i o v O) (answers_invalidation j i o v) made log
invalidation_step_lem j i o v O made log h = with_room_lem O made log _ h

-- ---- what they leave

-- a step of the code that comes to this: the server becomes b, and these messages are logged
pub record Passed {A : Type 0} (b : A) (new : List Message) (made : ℕ) (log : List Message) (r : Result (Unit {0}) Refusal) (a : A) (after : Log) : Type 0 where
  pub ok : IsOk r
  pub server : a ≡ b
  pub made_then : after.made ≡ made + length new
  pub log_then : after.messages.now ≡ sets log made new

abbrev made_by : StepSaid → ℕ
made_by (made_now k) = k
made_by (refused k) = 0

said_ok : (r : Result (Unit {0}) Refusal) (k made : ℕ) → step_says k r ≡ made_now made → IsOk r
said_ok (Ok u) k made e = refl
said_ok (Err x) k made e = let z : ◌≡◌ {A = ℕ} 0 1 = cc in absurd (omega arith)

said_made : (r : Result (Unit {0}) Refusal) (k made : ℕ) → step_says k r ≡ made_now made → k ≡ made
said_made (Ok u) k made e = ap made_by e
said_made (Err x) k made e = let z : ◌≡◌ {A = ℕ} 0 1 = cc in absurd (omega arith)

pub passed : {A : Type 0} (x : ServerStep A) (b : A) (new : List Message) (made : ℕ) (log : List Message) (r : Result (Unit {0}) Refusal) (a : A) (after : Log)
    → x ≡ steps b new made log → x ≡ step r a after → Passed b new made log r a after
passed x b new made log r a after e d =
    let f : step r a after ≡ steps b new made log = sym d ∙ e in
    let says = ap (λ (y : ServerStep _). y.said) f in
    record {
      ok = said_ok r after.made _ says;
      server = ap (λ (y : ServerStep _). y.server) f;
      made_then = said_made r after.made _ says;
      log_then = ap (λ (y : ServerStep _). y.log) f;
    }

-- the server at a place, as the rules speak of it
pub picked : {X Y : Type 0} (f : X → Y) (xs : List X) (i j : ℕ) (d : X) (e : Y) → j ≡ i → i < length xs → f (get_or xs j d) ≡ get_or (map f xs) i e
picked f xs i j d e p h = ap (λ (k : ℕ). f (get_or xs k d)) p ∙ sym (get_or-map f xs i d e h)

-- the servers with another one at that place
replaced : {X Y : Type 0} (f : X → Y) (xs : List X) (i j : ℕ) (x : X) (y : Y) → j ≡ i → f x ≡ y → map f (set xs j x) ≡ set (map f xs) i y
replaced f xs i j x y p e = map-set f xs j x ∙ ap (λ (k : ℕ). set (map f xs) k (f x)) p ∙ ap (set (map f xs) i) e

-- a server has changed, and nothing is logged
pub input_taken : (f : OpenField) (log : List Message) (t : List Operation) (i j : ℕ) (y : InputServer) (b : Input) → j ≡ i → input_of y ≡ b
    → with_input i b (state_of f log t) ≡ record {
      frame = frame_of f;
      made = f.made;
      begun = f.begun;
      inputs = inputs_of (set f.inputs j y);
      outputs = outputs_of f.outputs;
      log = log;
      table = map operation_of t;
    }
input_taken f log t i j y b e is = λ z. record {
  frame = frame_of f;
  made = f.made;
  begun = f.begun;
  inputs = sym (replaced input_of f.inputs i j y b e is) z;
  outputs = outputs_of f.outputs;
  log = log;
  table = map operation_of t;
}

-- a write request: no epoch is the last one, so it is taken
pub write_passed : (f : OpenField) (log : List Message) (i p : ℕ) (x : Pair) (value : ℕ) (r : Result (Unit {0}) Refusal) (y : Input) (after : Log)
    → Ready f log → i < 8
    → write_step i p f.counts.outputs.number x.object x.version value (get_or (inputs_of f.inputs) i no_input) f.made log ≡ step r y after
    → Passed (after_write f.counts.outputs.number x.object x.version value (get_or (inputs_of f.inputs) i no_input))
    (answers_write i p f.counts.outputs.number x.object
    (after_write f.counts.outputs.number x.object x.version value (get_or (inputs_of f.inputs) i no_input))) f.made log r y after
write_passed f log i p x value r y after ready few does =
    let m = f.counts.outputs.number in
    passed _ _ _ _ _ _ _ _
    (write_step_lem i p m x.object x.version value (get_or (inputs_of f.inputs) i no_input) f.made log ready.room
    (λ k h. ready.epochs i k few (omega (arith, f.counts.outputs.inside)))) does

module _ (f : OpenField) (log : List Message) (t : List Operation) (new : List Message) (r : Result (Unit {0}) Refusal) (after : Log)
    (made : ℕ) (l : List Message) (made_is : made ≡ after.made) (log_is : l ≡ after.messages.now) where
  -- the field, where its log alone has changed
  pub logged : {A : Type 0} (a b : A) → Passed b new f.made log r a after
      → quiet (post new (state_of f log t)) ≡ quiet (record {
        frame = frame_of f;
        made = made;
        begun = f.begun;
        inputs = inputs_of f.inputs;
        outputs = outputs_of f.outputs;
        log = l;
        table = map operation_of t;
      })
  logged a b p = λ z. quiet (record {
    frame = frame_of f;
    made = sym (made_is ∙ p.made_then) z;
    begun = f.begun;
    inputs = inputs_of f.inputs;
    outputs = outputs_of f.outputs;
    log = sym (log_is ∙ p.log_then) z;
    table = map operation_of t;
  })

  -- where a server has changed, too
  pub input_changed : (i j : ℕ) (y : InputServer) (b : Input) → j ≡ i → Passed b new f.made log r (input_of y) after
      → quiet (post new (with_input i b (state_of f log t))) ≡ quiet (record {
        frame = frame_of f;
        made = made;
        begun = f.begun;
        inputs = inputs_of (set f.inputs j y);
        outputs = outputs_of f.outputs;
        log = l;
        table = map operation_of t;
      })
  input_changed i j y b e p = λ z. quiet (record {
    frame = frame_of f;
    made = sym (made_is ∙ p.made_then) z;
    begun = f.begun;
    inputs = sym (replaced input_of f.inputs i j y b e p.server) z;
    outputs = outputs_of f.outputs;
    log = sym (log_is ∙ p.log_then) z;
    table = map operation_of t;
  })

  pub output_changed : (i j : ℕ) (y : OutputServer) (b : Output) → j ≡ i → Passed b new f.made log r (output_of y) after
      → quiet (post new (with_output i b (state_of f log t))) ≡ quiet (record {
        frame = frame_of f;
        made = made;
        begun = f.begun;
        inputs = inputs_of f.inputs;
        outputs = outputs_of (set f.outputs j y);
        log = l;
        table = map operation_of t;
      })
  output_changed i j y b e p = λ z. quiet (record {
    frame = frame_of f;
    made = sym (made_is ∙ p.made_then) z;
    begun = f.begun;
    inputs = inputs_of f.inputs;
    outputs = sym (replaced output_of f.outputs i j y b e p.server) z;
    log = sym (log_is ∙ p.log_then) z;
    table = map operation_of t;
  })
