-- What a delivery that is not refused knows of the operation that its message names.
use Rattle.std.proofs.Common.{◌≡◌, ℕ, ◌≤◌, true, leb, List, length, sym, ap, subst, arith}
use Rattle.std.proofs.lemmas.Bool.{and_parts, leb-true}
use Rattle.quorum.specs.Systems.{System}
use Rattle.numbers.specs.Numbers.{between}
use Rattle.rules.specs.declared.message.Message.{Message}
use Rattle.rules.specs.declared.message.Message.TheVariants.{ClockAnswer, WriteAnswer, ReadAnswer}
use Rattle.rules.specs.Calls.{in_range, handed_to, receives}
use Rattle.rules.specs.Ranges.{numbers_fit, operation_fits, state_fits, has_next_clock}
use Rattle.operation.specs.declared.table.Operation.{Operation}
use Rattle.field.specs.declared.open_field.OpenField.{OpenField}
use Rattle.field.specs.Delivered.{numbered, IsAnswerTo, Deliverable, Reached}
use Rattle.field.specs.MessageChecks.{place_of, known_in}
use Rattle.field.specs.Views.{frame_of, state_of}
use Rattle.field.proofs.Accepting.{accepted}

module _ (i o : System) (f : OpenField) (log : List Message) (table : List Operation) (number : ℕ) (d : Deliverable i o f log table number)
    (fits : in_range (numbered log number) (state_of f log table) ≡ true) where
  -- both tests, of the message itself
  tests : (m : Message) → numbered log number ≡ m
      → (numbers_fit (frame_of f).counts m ≡ true) × (operation_fits (known_in (frame_of f).counts f.begun table) (λ p. has_next_clock (place_of table p)) m ≡ true)
  tests m e = and_parts (numbers_fit (frame_of f).counts m) _ (subst (λ (x : Message). in_range x (state_of f log table) ≡ true) e fits)

  inside : (p : ℕ) → between 1 f.begun p ≡ true → (1 ≤ p) × (p ≤ length table)
  inside p h =
      let q = and_parts (leb 1 p) (leb p f.begun) h in
      let low = leb-true 1 p q.0 in
      let high = leb-true p f.begun q.1 in
      let z = d.begun in
      (low, omega arith)

  -- the operation that an answer names is known
  known : (p : ℕ) (m : Message) → IsAnswerTo p m → operation_fits (known_in (frame_of f).counts f.begun table) (λ p. has_next_clock (place_of table p)) m ≡ true
      → known_in (frame_of f).counts f.begun table p ≡ true
  known p (ClockAnswer k q clock) t h =
      subst (λ (n : ℕ). known_in (frame_of f).counts f.begun table n ≡ true) t (and_parts (known_in (frame_of f).counts f.begun table q) (has_next_clock (place_of table q)) h).0
  known p (WriteAnswer k q s) t h = subst (λ (n : ℕ). known_in (frame_of f).counts f.begun table n ≡ true) t h
  known p (ReadAnswer j q v x) t h = subst (λ (n : ℕ). known_in (frame_of f).counts f.begun table n ≡ true) t h
  known p m t h = absurd t

  -- an answer reaches it
  pub reached : (p : ℕ) (m : Message) → IsAnswerTo p m → numbered log number ≡ m → Reached i o table p (numbered log number)
  reached p m t e = subst (Reached i o table p) (sym e) (
      let both = tests m e in
      let is_known = known p m t both.1 in
      record {
        begun = inside p (and_parts (between 1 f.begun p) (state_fits (frame_of f).counts p (place_of table p)) is_known).0;
        accepts = accepted i o (frame_of f).counts d.inputs_as d.outputs_as (omega (arith, f.counts.inputs.inside)) (omega (arith, f.counts.outputs.inside)) (omega (arith, f.counts.objects.inside))
            f.begun d.ready.few p m (place_of table) t both.0 both.1 is_known;
      })

  -- and is handed to it
  pub delivered : (p : ℕ) (m : Message) → IsAnswerTo p m → numbered log number ≡ m
      → receives i o (numbered log number) (state_of f log table) ≡ handed_to i o (numbered log number) p (state_of f log table)
  unfolding receives
  delivered p m t e = subst (λ (x : Message). receives i o x (state_of f log table) ≡ handed_to i o x p (state_of f log table)) (sym e) (go m t)
    where
      go : (m : Message) → IsAnswerTo p m → receives i o m (state_of f log table) ≡ handed_to i o m p (state_of f log table)
      go (ClockAnswer k q c) t = ap (λ (n : ℕ). handed_to i o (ClockAnswer k q c) n (state_of f log table)) t
      go (WriteAnswer k q s) t = ap (λ (n : ℕ). handed_to i o (WriteAnswer k q s) n (state_of f log table)) t
      go (ReadAnswer j q v x) t = ap (λ (n : ℕ). handed_to i o (ReadAnswer j q v x) n (state_of f log table)) t
      go m t = absurd t
