-- Advancing: what its tests say, and what it leaves.
use Rattle.std.proofs.Common.{◌≡◌, ℕ, zero, suc, ◌+◌, ◌<◌, ◌≤◌, Bool, true, not, ◌&&◌, eqb, leb, List, length, take, drop, set, get_or, Some, None, sym, refl, ap, ◌∙◌, arith}
use Rattle.std.proofs.lemmas.List.{get_or-take, get_or-drop, length-take-le, length-drop}
use Rattle.std.proofs.lemmas.Bool.{and_parts, not-false, eqb-true}
use Rattle.quorum.specs.declared.refusal.Refusal.{Refusal}
use Rattle.quorum.specs.Refusals.{number_of}
use Rattle.quorum.specs.Sets.{all_below}
use Rattle.quorum.specs.Systems.{System}
use Rattle.numbers.specs.Numbers.{last_time}
use Rattle.rules.specs.Calls.{inputs_stay, outputs_stay, advancing_refusal, each_later, advanced, advancing}
use Rattle.rules.specs.Input.{Input, later_input}
use Rattle.rules.specs.Output.{Output, later_output}
use Rattle.rules.specs.Said.{accepted}
use Rattle.rules.specs.State.{State, outcome, refuse, no_input, no_output, input_at, output_at}
use Rattle.field.specs.Servers.{all_stay, all_later}
use Rattle.field.proofs.Refusing.{passes, later_passes, call_refuses, call_passes}

-- ---- the clocks that would move

-- two tests that agree below n
all_below_as : (n : ℕ) (f g : ℕ → Bool) → ((i : ℕ) → i < n → f i ≡ g i) → all_below n f ≡ all_below n g
all_below_as zero f g h = refl
all_below_as (suc n) f g h =
    ap (λ (b : Bool). b && f n) (all_below_as n f g (λ i l. h i (omega arith))) ∙ ap (λ (b : Bool). all_below n g && b) (h n (omega arith))

-- the increments of the input servers come first
inputs_may : (xs : List ℕ) (n : ℕ) (s : State) → n ≤ length xs
    → all_stay (λ (I : Input). I.clock) no_input (take n xs) s.inputs ≡ inputs_stay xs n s
inputs_may xs n s h =
    let may = λ (ys : List ℕ) (i : ℕ). leb ((input_at s i).clock.0 + get_or ys i 0) last_time in
    ap (λ (k : ℕ). all_below k (may (take n xs))) (length-take-le n xs h)
    ∙ all_below_as n (may (take n xs)) (may xs) (λ i l. ap (λ (x : ℕ). leb ((input_at s i).clock.0 + x) last_time) (get_or-take n xs i 0 l))

-- those of the output servers come after them
outputs_may : (xs : List ℕ) (s : State) → length xs ≡ s.frame.counts.n + s.frame.counts.m
    → all_stay (λ (O : Output). O.clock) no_output (drop s.frame.counts.n xs) s.outputs ≡ outputs_stay xs s.frame.counts.m s
outputs_may xs s h =
    let n = s.frame.counts.n in
    let may = λ (j x : ℕ). leb ((output_at s j).clock.0 + x) last_time in
    let l : length (drop n xs) ≡ s.frame.counts.m = omega (arith, length-drop n xs, h) in
    ap (λ (k : ℕ). all_below k (λ j. may j (get_or (drop n xs) j 0))) l
    ∙ all_below_as s.frame.counts.m (λ j. may j (get_or (drop n xs) j 0)) (λ j. may j (get_or xs (n + j) 0)) (λ j _. ap (may j) (get_or-drop n xs j 0))

-- ---- the clocks that have moved

abbrev with_inputs : List Input → State → State
with_inputs ins s = record s { inputs = ins }

abbrev with_outputs : List Output → State → State
with_outputs outs s = record s { outputs = outs }

-- by a list of increments, and by their numbers
moved_by : {A : Type 0} (later : ℕ → A → A) (none : A) (ys : List ℕ) (x : ℕ → ℕ) (c : ℕ) (servers : List A) → ((i : ℕ) → i < c → get_or ys i 0 ≡ x i)
    → all_later later none ys c servers ≡ each_later later none x c servers
moved_by later none ys x zero servers h = refl
moved_by {A} later none ys x (suc c) servers h =
    ap (λ (l : List A). set l c (later (get_or ys c 0) (get_or l c none))) (moved_by later none ys x c servers (λ i l. h i (omega arith)))
    ∙ ap (λ (y : ℕ). set (each_later later none x c servers) c (later y (get_or (each_later later none x c servers) c none))) (h c (omega arith))

-- ---- both sides, with the increments as they are cut

module _ (xs front back : List ℕ) (s : State) (h : length xs ≡ s.frame.counts.n + s.frame.counts.m)
    (a : front ≡ take s.frame.counts.n xs) (b : back ≡ drop s.frame.counts.n xs) where
  pub front_may : all_stay (λ (I : Input). I.clock) no_input front s.inputs ≡ inputs_stay xs s.frame.counts.n s
  front_may = ap (λ (l : List ℕ). all_stay (λ (I : Input). I.clock) no_input l s.inputs) a ∙ inputs_may xs s.frame.counts.n s (omega (arith, h))

  pub back_may : all_stay (λ (O : Output). O.clock) no_output back s.outputs ≡ outputs_stay xs s.frame.counts.m s
  back_may = ap (λ (l : List ℕ). all_stay (λ (O : Output). O.clock) no_output l s.outputs) b ∙ outputs_may xs s h

  pub all_moved : (ins : List Input) (outs : List Output)
      → ins ≡ all_later later_input no_input front (length front) s.inputs → outs ≡ all_later later_output no_output back (length back) s.outputs
      → with_outputs outs (with_inputs ins s) ≡ advanced xs s
  all_moved ins outs e f =
      let n = s.frame.counts.n in
      let m = s.frame.counts.m in
      let c : length (take n xs) ≡ n = length-take-le n xs (omega (arith, h)) in
      let d : length (drop n xs) ≡ m = omega (arith, length-drop n xs, h) in
      let p = e ∙ ap (λ (l : List ℕ). all_later later_input no_input l (length l) s.inputs) a
      ∙ ap (λ (k : ℕ). all_later later_input no_input (take n xs) k s.inputs) c
      ∙ moved_by later_input no_input (take n xs) (λ i. get_or xs i 0) n s.inputs (λ i l. get_or-take n xs i 0 l) in
      let q = f ∙ ap (λ (l : List ℕ). all_later later_output no_output l (length l) s.outputs) b
      ∙ ap (λ (k : ℕ). all_later later_output no_output (drop n xs) k s.outputs) d
      ∙ moved_by later_output no_output (drop n xs) (λ j. get_or xs (n + j) 0) m s.outputs (λ j _. get_or-drop n xs j 0) in
      λ z. record s { inputs = p z; outputs = q z }

-- ---- the call

pub advance_refuses : (i o : System) (xs : List ℕ) (s : State) (e : Refusal) → Some (number_of e) ≡ advancing_refusal i o xs s → advancing i o xs s ≡ refuse (number_of e) s
unfolding advancing
advance_refuses i o xs s e r = call_refuses e _ _ s r

-- what is known where they pass
pub record Moves (xs : List ℕ) (s : State) : Type 0 where
  pub counted : length xs ≡ s.frame.counts.n + s.frame.counts.m
  pub inputs : inputs_stay xs s.frame.counts.n s ≡ true
  pub outputs : outputs_stay xs s.frame.counts.m s ≡ true

pub moves_of : (i o : System) (xs : List ℕ) (s : State) → None ≡ advancing_refusal i o xs s → Moves xs s
moves_of i o xs s r =
    let p = later_passes i o s _ (sym r) in
    let q = passes (not (eqb (length xs) (s.frame.counts.n + s.frame.counts.m))) 11 _ p.2 in
    let t = passes (not (inputs_stay xs s.frame.counts.n s && outputs_stay xs s.frame.counts.m s)) 12 _ q.1 in
    let u = and_parts (inputs_stay xs s.frame.counts.n s) (outputs_stay xs s.frame.counts.m s) (not-false _ t.0) in
    record { counted = eqb-true (length xs) (s.frame.counts.n + s.frame.counts.m) (not-false _ q.0); inputs = u.0; outputs = u.1 }

pub advance_done : (i o : System) (xs : List ℕ) (s t : State) → None ≡ advancing_refusal i o xs s → t ≡ advanced xs s → advancing i o xs s ≡ outcome accepted t
unfolding advancing
advance_done i o xs s t r e = call_passes _ _ s r ∙ ap (outcome accepted) (sym e)
