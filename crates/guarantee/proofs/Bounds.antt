-- Every call keeps the bounds of the field's numbers.
use Rattle.std.proofs.Common.{◌≡◌, ℕ, zero, suc, ◌+◌, ◌<◌, ◌≤◌, true, ltb, leb, List, [], ◌∷◌, length, get_or, set, replicate, sym, refl, ap, ◌∙◌, subst, inl, inr, arith, length-set}
use Rattle.std.proofs.lemmas.Bool.{cond_both, and_parts, leb-true}
use Rattle.quorum.specs.Systems.{System, Lawful}
use Rattle.rules.specs.declared.kept.Held.{Held}
use Rattle.rules.specs.declared.kept.Ledger.{Ledger}
use Rattle.rules.specs.declared.kept.Link.{Link}
use Rattle.rules.specs.declared.message.Message.{Message}
use Rattle.numbers.specs.declared.time.Time.{Time}
use Rattle.rules.specs.Calls.{start_clock, opened, clocks_fit, enter, reacted, advanced}
use Rattle.rules.specs.Input.{Input, no_held, no_ledger, first_input}
use Rattle.numbers.specs.Numbers.{none, starting, last_time, longest}
use Rattle.rules.specs.Operation.{Operation}
use Rattle.rules.specs.Output.{Output, no_link, first_output}
use Rattle.rules.specs.State.{Frame, State, no_input, no_output, input_at, output_at, post, with_input, with_output}
use Rattle.guarantee.specs.Bounds.{IsBetween, IsVersion, ArePairs, NamesOnce, InputBounds, OutputBounds, Bounded, BoundsKept, EpochsFit}
use Rattle.guarantee.proofs.ServerSteps.{more_made, later_bounds, later_output_bounds}
use Rattle.guarantee.proofs.CallCases.{Opens, Found, Nine, Short, Stays, Deliveries, Advanced, advances, call_ways}
use Rattle.guarantee.proofs.Words.{set_from, each_long, each_at}

-- ---- the first state

pub same_at : {A : Type 0} (n j : ℕ) (x d : A) → j < n → get_or (replicate n x) j d ≡ x
same_at zero j x d h = absurd (omega arith)
same_at (suc n) zero x d h = refl
same_at (suc n) (suc j) x d h = same_at n j x d (omega arith)

pub same_from : {A : Type 0} (P : A → Type 0) (n j : ℕ) (x d : A) → P x → P d → P (get_or (replicate n x) j d)
same_from P zero j x d a b = b
same_from P (suc n) zero x d a b = a
same_from P (suc n) (suc j) x d a b = same_from P n j x d a b

pub first_bounds : (lease made : ℕ) (t : Time) → t.0 ≤ last_time → InputBounds lease made (first_input t)
first_bounds lease made t h = record {
  objects = refl;
  ledgers = refl;
  last_acknowledged = λ j l. ap (λ (k : Ledger). length k.last_acknowledged) (same_at 8 j _ no_ledger l);
  clock = h;
  highest = (omega arith, omega arith);
  version = λ o l. subst (λ (k : Held). IsVersion k.version) (sym (same_at 16 o (record { version = starting; value = 0; last_read = none }) no_held l)) (omega arith, omega arith);
  epoch = λ j l. subst (λ (k : Ledger). IsBetween 1 (made + 1) k.epoch.0)
      (sym (same_at 8 j (record { last_acknowledged = replicate 16 none; epoch = record { 0 = 1 }; lease_end = record { 0 = 0 } }) no_ledger l)) (omega arith, omega arith);
  lease_end = λ j. same_from (λ (k : Ledger). k.lease_end.0 ≤ t.0 + lease) 8 j _ no_ledger (omega arith) (omega arith);
  chains = record {
    places = refl;
    room = omega arith;
    once = λ j. same_from NamesOnce 8 j [] [] tt tt;
    pairs = λ j. same_from ArePairs 8 j [] [] tt tt;
  };
}

pub first_output_bounds : (t : Time) → t.0 ≤ last_time → OutputBounds (first_output t)
first_output_bounds t h = record {
  newest = refl;
  links = refl;
  copies = λ i l. ap (λ (k : Link). length k.copies) (same_at 8 i _ no_link l);
  clock = h;
  lease_end = λ i. same_from (λ (k : Link). k.lease_end.0 ≤ last_time + longest) 8 i _ no_link (omega arith) (omega arith);
}

clock_fits : (ts : List Time) → clocks_fit ts ≡ true → (i : ℕ) → (get_or ts i (record { 0 = 0 })).0 ≤ last_time
clock_fits [] h i = omega arith
clock_fits (t ∷ ts) h zero = leb-true t.0 last_time (and_parts (leb t.0 last_time) (clocks_fit ts) h).0
clock_fits (t ∷ ts) h (suc i) = clock_fits ts (and_parts (leb t.0 last_time) (clocks_fit ts) h).1 i

start_fits : (ts : List Time) → clocks_fit ts ≡ true → (from count i : ℕ) → (start_clock ts from count i).0 ≤ last_time
start_fits ts h from count i = cond_both (ltb i count) (get_or ts (from + i) (record { 0 = 0 })) (record { 0 = 0 }) (λ (t : Time). t.0 ≤ last_time)
    (λ _. clock_fits ts h (from + i)) (λ _. omega arith)

pub opens_bounded : (inputs outputs : System) → Lawful inputs → Lawful outputs → (k lease drift : ℕ) (clocks : List Time) (s : State)
    → Opens inputs outputs k lease drift clocks s → Bounded (opened inputs.count outputs.count k lease drift clocks s)
opens_bounded inputs outputs x y k lease drift clocks s h = record {
  n = (x.some, h.n_most);
  m = (y.some, h.m_most);
  k = h.objects;
  lease = h.long;
  drift = h.slow;
  log_length = h.log;
  table_length = h.table;
  made = omega arith;
  begun = omega arith;
  inputs = each_long 8 (λ i. first_input (start_clock clocks 0 inputs.count i));
  outputs = each_long 8 (λ j. first_output (start_clock clocks inputs.count outputs.count j));
  each_input = λ i l. subst (λ (I : Input). InputBounds lease 0 I) (sym (each_at 8 (λ i. first_input (start_clock clocks 0 inputs.count i)) i no_input l))
      (first_bounds lease 0 (start_clock clocks 0 inputs.count i) (start_fits clocks h.started 0 inputs.count i));
  each_output = λ j l. subst (λ (O : Output). OutputBounds O) (sym (each_at 8 (λ j. first_output (start_clock clocks inputs.count outputs.count j)) j no_output l))
      (first_output_bounds (start_clock clocks inputs.count outputs.count j) (start_fits clocks h.started inputs.count outputs.count j));
}

-- ---- the next state

module _ (s : State) (b : Bounded s) where
  -- what is to show of it
  next : (t : State) → t.frame ≡ s.frame → t.made ≤ s.frame.log_length → t.begun ≤ s.frame.table_length
      → length t.inputs ≡ 8 → length t.outputs ≡ 8
      → ((i : ℕ) → i < 8 → InputBounds s.frame.lease t.made (input_at t i))
      → ((j : ℕ) → j < 8 → OutputBounds (output_at t j)) → Bounded t
  next t e made begun inputs outputs each_input each_output = record {
    n = subst (λ (f : Frame). IsBetween 1 8 f.counts.n) (sym e) b.n;
    m = subst (λ (f : Frame). IsBetween 1 8 f.counts.m) (sym e) b.m;
    k = subst (λ (f : Frame). IsBetween 1 16 f.counts.k) (sym e) b.k;
    lease = subst (λ (f : Frame). IsBetween 1 longest f.lease) (sym e) b.lease;
    drift = subst (λ (f : Frame). f.drift ≤ 999) (sym e) b.drift;
    log_length = subst (λ (f : Frame). IsBetween 9 65535 f.log_length) (sym e) b.log_length;
    table_length = subst (λ (f : Frame). IsBetween 1 1024 f.table_length) (sym e) b.table_length;
    made = subst (λ (f : Frame). t.made ≤ f.log_length) (sym e) made;
    begun = subst (λ (f : Frame). t.begun ≤ f.table_length) (sym e) begun;
    inputs = inputs;
    outputs = outputs;
    each_input = λ i l. subst (λ (f : Frame). InputBounds f.lease t.made (input_at t i)) (sym e) (each_input i l);
    each_output = each_output;
  }

  -- the input servers as they were, with more messages made
  inputs_stay_lem : (more : ℕ) → s.made ≤ more → (i : ℕ) → i < 8 → InputBounds s.frame.lease more (input_at s i)
  inputs_stay_lem more h i l = more_made s.frame.lease s.made more (input_at s i) h (b.each_input i l)

  -- one of them changed
  input_changes : (a : ℕ) (J : Input) (more : ℕ) → s.made ≤ more → InputBounds s.frame.lease more J
      → (i : ℕ) → i < 8 → InputBounds s.frame.lease more (get_or (set s.inputs a J) i no_input)
  input_changes a J more h new i l = elim (set_from s.inputs a i J no_input) [
    | inl e ↦ subst (λ (I : Input). InputBounds s.frame.lease more I) (sym e) (inputs_stay_lem more h i l)
    | inr e ↦ subst (λ (I : Input). InputBounds s.frame.lease more I) (sym e.1) new
  ]

  output_changes : (a : ℕ) (Q : Output) → OutputBounds Q → (j : ℕ) → j < 8 → OutputBounds (get_or (set s.outputs a Q) j no_output)
  output_changes a Q new j l = elim (set_from s.outputs a j Q no_output) [
    | inl e ↦ subst OutputBounds (sym e) (b.each_output j l)
    | inr e ↦ subst OutputBounds (sym e.1) new
  ]

  module _ (inputs outputs : System) (found : Found inputs outputs s) where
    -- the messages of a call find their places
    made_fits : Nine s → (new : List Message) → Short s new → s.made + length new ≤ s.frame.log_length
    made_fits nine new short = let z = short b.n.1 b.m.1 in let y = found.log in omega arith

    begins_bounded : (x : Operation) (new : List Message) → s.begun < length s.table → Nine s → Short s new → Bounded (post new (enter x s))
    begins_bounded x new room nine short = next (post new (enter x s)) refl (made_fits nine new short)
        (let y = found.table in omega arith) b.inputs b.outputs (inputs_stay_lem (s.made + length new) (omega arith)) b.each_output

    advances_bounded : (increments : List ℕ) → Stays increments s → Bounded (advanced increments s)
    advances_bounded increments stays = go (advanced increments s) (advances increments s)
      where
        go : (t : State) → Advanced increments s t → Bounded t
        go t r = next t r.frame (let y = r.made in let z = b.made in omega arith) (let y = r.begun in let z = b.begun in omega arith)
            (r.inputs ∙ b.inputs) (r.outputs ∙ b.outputs)
            (λ i l. let old = inputs_stay_lem t.made (let y = r.made in omega arith) i l in elim (r.input i) [
              | inl e ↦ subst (λ (I : Input). InputBounds s.frame.lease t.made I) (sym e) old
              | inr e ↦ subst (λ (I : Input). InputBounds s.frame.lease t.made I) (sym e.1)
                  (later_bounds s.frame.lease t.made (get_or increments i 0) (input_at s i) old (stays.inputs i e.0))
            ])
            (λ j l. elim (r.output j) [
              | inl e ↦ subst OutputBounds (sym e) (b.each_output j l)
              | inr e ↦ subst OutputBounds (sym e.1)
                  (later_output_bounds (get_or increments (s.frame.counts.n + j) 0) (output_at s j) (b.each_output j l) (stays.outputs j e.0))
            ])

    input_below : (i : ℕ) → i < s.frame.counts.n → i < 8
    input_below i h = let z = b.n.1 in omega arith

    output_below : (j : ℕ) → j < s.frame.counts.m → j < 8
    output_below j h = let z = b.m.1 in omega arith

    deliveries : Nine s → Deliveries s (λ r. Bounded r.after)
    deliveries nine = record {
      logs = λ new short. next (post new s) refl (made_fits nine new short) b.begun b.inputs b.outputs
          (inputs_stay_lem (s.made + length new) (omega arith)) b.each_output;
      reacts = λ p r how. next (reacted p r s).after refl (made_fits nine r.sends how.short) b.begun b.inputs b.outputs
          (inputs_stay_lem (s.made + length r.sends) (omega arith)) b.each_output;
      keeps = λ i J h. next (with_input i J s) refl b.made b.begun (length-set s.inputs i J ∙ b.inputs) b.outputs
          (input_changes i J s.made (omega arith) (h.bounds b.k.1 (b.each_input i (input_below i h.inside)) s.made (omega arith)))
          b.each_output;
      takes = λ i J new h short. next (post new (with_input i J s)) refl (made_fits nine new short) b.begun
          (length-set s.inputs i J ∙ b.inputs) b.outputs
          (input_changes i J (s.made + length new) (omega arith)
          (h.bounds b.k.1 (b.each_input i (input_below i h.inside)) (s.made + length new) (omega arith)))
          b.each_output;
      hears = λ j Q new h short. next (post new (with_output j Q s)) refl (made_fits nine new short) b.begun b.inputs
          (length-set s.outputs j Q ∙ b.outputs) (inputs_stay_lem (s.made + length new) (omega arith))
          (output_changes j Q (h.bounds (b.each_output j (output_below j h.inside))));
    }

-- ---- every call

pub bounds_kept : BoundsKept
bounds_kept inputs outputs x y c s bounded = call_ways inputs outputs s (λ r. r.after.frame.is_open ≡ true → Bounded r.after)
    (record {
      refuses = λ number. bounded;
      opens = λ k lease drift clocks h _. opens_bounded inputs outputs x y k lease drift clocks s h;
      advances = λ increments found stays _. advances_bounded s (bounded found.is_open) inputs outputs found increments stays;
      begins = λ o new found room nine short _. begins_bounded s (bounded found.is_open) inputs outputs found o new room nine short;
      delivers = λ found nine. opened_only (deliveries s (bounded found.is_open) inputs outputs found nine);
    }) c
  where
    opened_only : Deliveries s (λ r. Bounded r.after) → Deliveries s (λ r. r.after.frame.is_open ≡ true → Bounded r.after)
    opened_only d = record {
      logs = λ new short _. d.logs new short;
      reacts = λ p r how _. d.reacts p r how;
      keeps = λ i J h _. d.keeps i J h;
      takes = λ i J new h short _. d.takes i J new h short;
      hears = λ j Q new h short _. d.hears j Q new h short;
    }

pub epochs_fit : EpochsFit
epochs_fit s b i j h l = let z = ((b.each_input i h).epoch j l).1 in omega (arith, b.made, b.log_length.1)
