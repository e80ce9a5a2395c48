-- Opening: what its tests say, and what it leaves.
use Rattle.std.proofs.Common.{◌≡◌, ℕ, zero, suc, ◌+◌, ◌<◌, ◌≤◌, Bool, true, false, not, ◌&&◌, ◌||◌, eqb, ltb, leb, List, [], ◌∷◌, map, length, get_or, take, drop, Some, None, Option, is_some, sym, refl, ap, ◌∙◌, zero-add, arith}
use Rattle.std.proofs.lemmas.List.{get_or-take, get_or-drop, get_or_past, length-take-le, length-map}
use Rattle.std.proofs.lemmas.Bool.{cond_both, cond-true, and_parts, or_parts, not-false, eqb-true, ltb-false, leb-true, ltb-true}
use Rattle.quorum.specs.declared.refusal.Refusal.{Refusal}
use Rattle.quorum.specs.Refusals.{number_of}
use Rattle.quorum.specs.Systems.{System}
use Rattle.numbers.specs.declared.time.Time.{Time}
use Rattle.numbers.specs.Numbers.{between, last_time, longest}
use Rattle.rules.specs.Calls.{unless, start_clock, opened, clocks_fit, opening, opening_refusal}
use Rattle.rules.specs.Input.{first_input}
use Rattle.rules.specs.Lists.{each}
use Rattle.rules.specs.Output.{first_output}
use Rattle.rules.specs.Said.{accepted}
use Rattle.rules.specs.State.{State, Outcome, outcome, refuse}
use Rattle.operation.specs.declared.table.Operation.{Operation}
use Rattle.operation.specs.States.{operation_of}
use Rattle.rules.specs.declared.message.Message.{Message}
use Rattle.field.specs.Servers.{shown_as, starts_at, first_inputs, first_outputs}
use Rattle.field.specs.declared.open_field.OpenField.{OpenField}
use Rattle.field.specs.Opened.{OpeningFits, opened_frame}
use Rattle.field.specs.Unopened.{unopened}
use Rattle.field.specs.Views.{inputs_of, outputs_of, frame_of, state_of, field_of}
use Rattle.field.proofs.Refusing.{passes, call_refuses, call_passes}

-- ---- the tests

pub opening_fits : (is_open : Bool) (n m k lease drift : ℕ) (clocks : List Time) (a b : ℕ)
    → opening_refusal is_open n m k lease drift clocks a b ≡ None → OpeningFits n m k lease drift clocks
opening_fits is_open n m k lease drift clocks a b e =
    let p1 = passes is_open 1 _ e in
    let p2 = passes (ltb 8 n || ltb 8 m) 2 _ p1.1 in
    let p3 = passes (not (between 1 16 k)) 3 _ p2.1 in
    let p4 = passes (not (between 1 longest lease)) 4 _ p3.1 in
    let p5 = passes (ltb 999 drift) 5 _ p4.1 in
    let p6 = passes (not (eqb (length clocks) (n + m) && clocks_fit clocks)) 6 _ p5.1 in
    let few = or_parts (ltb 8 n) (ltb 8 m) p2.0 in
    let objects = and_parts (leb 1 k) (leb k 16) (not-false _ p3.0) in
    let long = and_parts (leb 1 lease) (leb lease longest) (not-false _ p4.0) in
    let started = and_parts (eqb (length clocks) (n + m)) (clocks_fit clocks) (not-false _ p6.0) in
    record {
      n_most = ltb-false 8 n few.0;
      m_most = ltb-false 8 m few.1;
      k_most = leb-true k 16 objects.1;
      short = leb-true lease longest long.1;
      slow = ltb-false 999 drift p5.0;
      count = eqb-true (length clocks) (n + m) started.0;
      shown = started.1;
    }

-- ---- the start clocks

fits_at_lem : (ts : List Time) (i : ℕ) → clocks_fit ts ≡ true → leb (get_or ts i (record { 0 = 0 })).0 last_time ≡ true
fits_at_lem [] i e = refl
fits_at_lem (t ∷ ts) zero e = (and_parts (leb t.0 last_time) (clocks_fit ts) e).0
fits_at_lem (t ∷ ts) (suc i) e = fits_at_lem ts i (and_parts (leb t.0 last_time) (clocks_fit ts) e).1

shown_at : (ts : List Time) (i : ℕ) → clocks_fit ts ≡ true → shown_as (get_or ts i (record { 0 = 0 })) ≡ get_or ts i (record { 0 = 0 })
shown_at ts i e = cond-true (leb (get_or ts i (record { 0 = 0 })).0 last_time) _ _ (fits_at_lem ts i e)

inputs_start : (ts : List Time) (n m i : ℕ) → length ts ≡ n + m → clocks_fit ts ≡ true → starts_at (take n ts) i ≡ start_clock ts 0 n i
inputs_start ts n m i l e =
    cond_both (ltb i n) (get_or ts (0 + i) (record { 0 = 0 })) (record { 0 = 0 }) (λ (t : Time). starts_at (take n ts) i ≡ t)
    (λ a. let h : i < n = ltb-true i n a in
    ap shown_as (get_or-take n ts i (record { 0 = 0 }) h) ∙ shown_at ts i e ∙ ap (λ (k : ℕ). get_or ts k (record { 0 = 0 })) (sym (zero-add i)))
    (λ b. let z : length (take n ts) ≤ i = let y = length-take-le n ts (omega arith) in let h = ltb-false i n b in omega arith in
    ap shown_as (get_or_past (take n ts) i (record { 0 = 0 }) z))

outputs_start : (ts : List Time) (n m j : ℕ) → length ts ≡ n + m → clocks_fit ts ≡ true → starts_at (drop n ts) j ≡ start_clock ts n m j
outputs_start ts n m j l e =
    ap shown_as (get_or-drop n ts j (record { 0 = 0 })) ∙ shown_at ts (n + j) e
    ∙ cond_both (ltb j m) (get_or ts (n + j) (record { 0 = 0 })) (record { 0 = 0 }) (λ (t : Time). get_or ts (n + j) (record { 0 = 0 }) ≡ t)
    (λ a. refl)
    (λ b. let h = ltb-false j m b in get_or_past ts (n + j) (record { 0 = 0 }) (omega arith))

pub starts_inputs : (ts : List Time) (n m : ℕ) → length ts ≡ n + m → clocks_fit ts ≡ true
    → first_inputs (take n ts) ≡ each 8 (λ i. first_input (start_clock ts 0 n i) ∷ [])
starts_inputs ts n m l e = ap (each 8) (λ k i. first_input (inputs_start ts n m i l e k) ∷ [])

pub starts_outputs : (ts : List Time) (n m : ℕ) → length ts ≡ n + m → clocks_fit ts ≡ true
    → first_outputs (drop n ts) ≡ each 8 (λ j. first_output (start_clock ts n m j) ∷ [])
starts_outputs ts n m l e = ap (each 8) (λ k j. first_output (outputs_start ts n m j l e k) ∷ [])

-- ---- what is left

opened_is : (log : List Message) (table : List Operation) (g : OpenField) (n m k lease drift : ℕ) (clocks : List Time)
    → OpeningFits n m k lease drift clocks
    → frame_of g ≡ opened_frame n m k lease drift (length log) (length table)
    → (g.made ≡ 0) × (g.begun ≡ 0)
    → inputs_of g.inputs ≡ first_inputs (take n clocks) → outputs_of g.outputs ≡ first_outputs (drop n clocks)
    → outcome accepted (opened n m k lease drift clocks (unopened log (map operation_of table))) ≡ outcome accepted (state_of g log table)
opened_is log table g n m k lease drift clocks fits frame zeros ins outs =
    let a = starts_inputs clocks n m fits.count fits.shown in
    let b = starts_outputs clocks n m fits.count fits.shown in
    let c : opened_frame n m k lease drift (length log) (length (map operation_of table)) ≡ frame_of g =
    ap (opened_frame n m k lease drift (length log)) (length-map table operation_of) ∙ sym frame in
    λ t. outcome accepted (record {
      frame = c t;
      made = sym zeros.0 t;
      begun = sym zeros.1 t;
      inputs = (sym a ∙ sym ins) t;
      outputs = (sym b ∙ sym outs) t;
      log = log;
      table = map operation_of table;
    })

-- ---- the call

-- its tests, over the log and the table themselves
tests : (i o : System) (k lease drift : ℕ) (clocks : List Time) (f : Option OpenField) (log : List Message) (table : List Operation)
    → opening i o k lease drift clocks (field_of f log table)
    ≡ unless (opening_refusal (is_some f) i.count o.count k lease drift clocks (length log) (length table)) (field_of f log table)
    (outcome accepted (opened i.count o.count k lease drift clocks (unopened log (map operation_of table))))
unfolding opening
tests i o k lease drift clocks f log table = over f
  where
    places : (b : Bool) (Y : Outcome) (s : State)
        → unless (opening_refusal b i.count o.count k lease drift clocks (length log) (length (map operation_of table))) s Y
        ≡ unless (opening_refusal b i.count o.count k lease drift clocks (length log) (length table)) s Y
    places b Y s = ap (λ (l : ℕ). unless (opening_refusal b i.count o.count k lease drift clocks (length log) l) s Y) (length-map table operation_of)

    over : (f : Option OpenField)
        → opening i o k lease drift clocks (field_of f log table)
        ≡ unless (opening_refusal (is_some f) i.count o.count k lease drift clocks (length log) (length table)) (field_of f log table)
        (outcome accepted (opened i.count o.count k lease drift clocks (unopened log (map operation_of table))))
    over None = places false (outcome accepted (opened i.count o.count k lease drift clocks (unopened log (map operation_of table)))) (field_of None log table)
    over (Some f) = refl

-- a field that is open is not opened again
pub open_again : (i o : System) (k lease drift : ℕ) (clocks : List Time) (f : Option OpenField) (log : List Message) (table : List Operation)
    → is_some f ≡ true → opening i o k lease drift clocks (field_of f log table) ≡ refuse 1 (field_of f log table)
open_again i o k lease drift clocks f log table e =
    tests i o k lease drift clocks f log table
    ∙ ap (λ (b : Bool). unless (opening_refusal b i.count o.count k lease drift clocks (length log) (length table)) (field_of f log table)
    (outcome accepted (opened i.count o.count k lease drift clocks (unopened log (map operation_of table))))) e

pub open_refuses : (i o : System) (k lease drift : ℕ) (clocks : List Time) (f : Option OpenField) (log : List Message) (table : List Operation) (n m : ℕ) (e : Refusal)
    → is_some f ≡ false → n ≡ i.count → m ≡ o.count
    → Some (number_of e) ≡ opening_refusal false n m k lease drift clocks (length log) (length table)
    → opening i o k lease drift clocks (field_of f log table) ≡ refuse (number_of e) (field_of f log table)
open_refuses i o k lease drift clocks f log table n m e closed p q r =
    let R = λ (a b : ℕ). opening_refusal (is_some f) a b k lease drift clocks (length log) (length table) in
    let closing = sym (ap (λ (b : Bool). opening_refusal b n m k lease drift clocks (length log) (length table)) closed) in
    tests i o k lease drift clocks f log table
    ∙ call_refuses e _ _ (field_of f log table) (r ∙ closing ∙ ap (λ (a : ℕ). R a m) p ∙ ap (R i.count) q)

pub opens : (i o : System) (k lease drift : ℕ) (clocks : List Time) (f : Option OpenField) (log : List Message) (table : List Operation) (g : OpenField) (n m : ℕ)
    → is_some f ≡ false → n ≡ i.count → m ≡ o.count
    → None ≡ opening_refusal false n m k lease drift clocks (length log) (length table)
    → frame_of g ≡ opened_frame n m k lease drift (length log) (length table)
    → (g.made ≡ 0) × (g.begun ≡ 0)
    → inputs_of g.inputs ≡ first_inputs (take n clocks) → outputs_of g.outputs ≡ first_outputs (drop n clocks)
    → opening i o k lease drift clocks (field_of f log table) ≡ outcome accepted (state_of g log table)
opens i o k lease drift clocks f log table g n m closed p q r frame zeros ins outs =
    let s = unopened log (map operation_of table) in
    let R = λ (a b : ℕ). opening_refusal (is_some f) a b k lease drift clocks (length log) (length table) in
    let closing = sym (ap (λ (b : Bool). opening_refusal b n m k lease drift clocks (length log) (length table)) closed) in
    let fits = opening_fits false n m k lease drift clocks (length log) (length table) (sym r) in
    tests i o k lease drift clocks f log table ∙ call_passes _ _ (field_of f log table) (r ∙ closing ∙ ap (λ (a : ℕ). R a m) p ∙ ap (R i.count) q)
    ∙ ap (λ (a : ℕ). outcome accepted (opened a o.count k lease drift clocks s)) (sym p)
    ∙ ap (λ (b : ℕ). outcome accepted (opened n b k lease drift clocks s)) (sym q)
    ∙ opened_is log table g n m k lease drift clocks fits frame zeros ins outs
