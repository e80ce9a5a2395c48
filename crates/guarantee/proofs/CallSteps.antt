-- Each of the calls on an open field: it refuses and leaves the state as it was, or it is accepted.
use Rattle.std.proofs.Common.{◌≡◌, ℕ, Option, zero, suc, ◌+◌, ◌-◌, ◌*◌, ◌<◌, ◌≤◌, Bool, true, false, cond, not, ◌&&◌, ◌||◌, eqb, ltb, leb, ◌⊎◌, List, [], ◌∷◌, length, get_or, sym, refl, ap, ◌∙◌, subst, inl, inr, add-zero, arith, length-set}
use mathlib.Core.Path.{fun_ext}
use lib.Seq.{length-sets}
use Rattle.std.proofs.lemmas.Bool.{cases_lt, cond_both, and_parts, or_parts, leb-true, leb-false, ltb-false, eqb-true, eqb-false, not-false, lt-ltb}
use Rattle.quorum.specs.Systems.{System}
use Rattle.rules.specs.declared.message.Message.{Message}
use Rattle.rules.specs.declared.message.Message.TheVariants.{ClockQuestion, ReadRequest}
use Rattle.rules.specs.Calls.{opening, advancing, beginning, beginning_write, beginning_read, delivering, unless, later_refusal, inputs_stay, outputs_stay, keeps_with, keep_each, keeps_drift, advanced, enter, operation_at, is_known, in_range, receives, message_at, no_message}
use Rattle.rules.specs.Input.{Input, later_input}
use Rattle.numbers.specs.Numbers.{keeps_pair}
use Rattle.rules.specs.Operation.{Operation, asking, reading, first_asking, first_reading, clock_questions, read_requests}
use Rattle.rules.specs.Output.{Output, later_output}
use Rattle.rules.specs.Steps.{has_room}
use Rattle.rules.specs.Ranges.{numbers_fit, operation_fits, has_next_clock}
use Rattle.rules.specs.Said.{accepted, began}
use Rattle.rules.specs.State.{State, Outcome, outcome, refuse, no_input, no_output, post}
use Rattle.guarantee.specs.Story.{Call, to_open, to_advance, to_write, to_read, to_deliver, outcome_of}
use Rattle.guarantee.proofs.CallEffects.{params_of, act_of, says_of, news_of, Framed, Accepted, logged, none_logged, in_sent, receives_accepted}
use Rattle.guarantee.proofs.Kept.{Small, May}
use Rattle.guarantee.proofs.Later.{length_later, later_at}
use Rattle.guarantee.proofs.Rows.{row, later_row, first_refuses}
use Rattle.guarantee.proofs.Words.{each_nine}
use Rattle.guarantee.proofs.PlainState.{Params, Act, writes, reads, run, begins, plain_of, plain_path, sent_post, op_enter}

-- a refusal leaves the state as it was
abbrev pub Refuses : State → Outcome → Type 0
Refuses s x = (number : ℕ) × (x ≡ refuse number s)

abbrev pub Stepped : Params → State → Act → Outcome → Type 0
Stepped P s a x = Refuses s x ⊎ Accepted P s a x

no : (P : Params) (s : State) (a : Act) (number : ℕ) → Stepped P s a (refuse number s)
no P s a number = inl (number, refl)

-- ---- time passes

-- a clock that does not move
input_rests : (I : Input) → later_input 0 I ≡ I
input_rests I = ap (λ (t : ℕ). record { clock = record { 0 = t }; lc = I.lc; objects = I.objects; ledgers = I.ledgers; waiting = I.waiting }) (add-zero I.clock.0)

output_rests : (O : Output) → later_output 0 O ≡ O
output_rests O = ap (λ (t : ℕ). record { clock = record { 0 = t }; newest = O.newest; links = O.links }) (add-zero O.clock.0)

-- what the pairwise test says of two increments
keeps_with_lem : (d x : ℕ) (ys : List ℕ) → keeps_with d x ys ≡ true → (b : ℕ) → b < length ys → (1000 - d) * get_or ys b 0 ≤ 1000 * x
keeps_with_lem d x [] h b l = absurd (omega arith)
keeps_with_lem d x (y ∷ ys) h zero l = leb-true ((1000 - d) * y) (1000 * x) (and_parts (keeps_pair d x y) (keeps_with d x ys) h).0
keeps_with_lem d x (y ∷ ys) h (suc b) l = keeps_with_lem d x ys (and_parts (keeps_pair d x y) (keeps_with d x ys) h).1 b (omega arith)

pub keep_each_lem : (d : ℕ) (xs ys : List ℕ) → keep_each d xs ys ≡ true → (a b : ℕ) → a < length xs → b < length ys → (1000 - d) * get_or ys b 0 ≤ 1000 * get_or xs a 0
keep_each_lem d [] ys h a b l m = absurd (omega arith)
keep_each_lem d (x ∷ xs) ys h zero b l m = keeps_with_lem d x ys (and_parts (keeps_with d x ys) (keep_each d xs ys) h).0 b m
keep_each_lem d (x ∷ xs) ys h (suc a) b l m = keep_each_lem d xs ys (and_parts (keeps_with d x ys) (keep_each d xs ys) h).1 a b (omega arith) m

-- ---- the calls

module _ (inputs outputs : System) (s : State) (f : Framed s) (small : Small (params_of inputs outputs s)) where
  abbrev P : Params
  P = params_of inputs outputs s

  later_step : (a : Act) (own : Option ℕ) (x : Outcome) → Stepped P s a (unless own s x) → Stepped P s a (unless (later_refusal inputs outputs s own) s x)
  later_step a own x h = later_row inputs outputs own s x (λ (z : Outcome). Stepped P s a z) (no P s a) (λ _ _. h)

  room : has_room s.made s.log ≡ true → s.made + 9 ≤ length s.log
  room h = leb-true (s.made + 9) (length s.log) h

  deliver_step : (number : ℕ) → Stepped P s (act_of s (to_deliver number)) (delivering inputs outputs number s)
  unfolding delivering
  deliver_step number = later_step a _ _
      (row (eqb number 0 || ltb s.made number) 31 _ s _ (λ (z : Outcome). Stepped P s a z) (λ _. no P s a 31)
      (λ h1. row (not (has_room s.made s.log)) 32 _ s _ (λ (z : Outcome). Stepped P s a z) (λ _. no P s a 32)
      (λ h2. cond_both (in_range (message_at s number) s) (receives inputs outputs (message_at s number) s) (refuse 33 s) (λ (z : Outcome). Stepped P s a z)
      (λ h3. inr (ok h1 (not-false _ h2) h3)) (λ _. no P s a 33))))
    where
      a : Act
      a = act_of s (to_deliver number)

      ok : (eqb number 0 || ltb s.made number) ≡ false → has_room s.made s.log ≡ true → in_range (message_at s number) s ≡ true
          → Accepted P s a (receives inputs outputs (message_at s number) s)
      ok h1 h2 h3 =
          let p = or_parts (eqb number 0) (ltb s.made number) h1 in
          let n : number ≡ 0 → ⊥ = eqb-false number 0 p.0 in
          let m = ltb-false s.made number p.1 in
          let q = and_parts (numbers_fit s.frame.counts (message_at s number)) (operation_fits (is_known s) (λ p. has_next_clock (operation_at s p)) (message_at s number)) h3 in
          receives_accepted inputs outputs s f (room h2) small (message_at s number)
          (in_sent s.log (number - 1) s.made no_message (low number n m) f.made) q.0 q.1
        where
          low : (number : ℕ) → (number ≡ 0 → ⊥) → number ≤ s.made → number - 1 < s.made
          low number n m = elim (cases_lt 0 number) [ inl l ↦ omega arith | inr l ↦ absurd (n (omega arith)) ]

  begin_step : (a : Act) (o : ℕ) (y : Operation) (new : List Message) → May P a (plain_of s) → length new ≤ 9
      → run P a (plain_of s) ≡ begins y new (plain_of s) → says_of P a (plain_of s) ≡ began (s.begun + 1) → news_of P a (plain_of s) ≡ new
      → Stepped P s a (beginning inputs outputs o y new s)
  begin_step a o y new may l r sy nw = later_step a _ _
      (row (leb s.frame.counts.k o) 21 _ s _ (λ (z : Outcome). Stepped P s a z) (λ _. no P s a 21)
      (λ h1. row (leb (length s.table) s.begun) 22 _ s _ (λ (z : Outcome). Stepped P s a z) (λ _. no P s a 22)
      (λ h2. row (not (has_room s.made s.log)) 23 _ s _ (λ (z : Outcome). Stepped P s a z) (λ _. no P s a 23)
      (λ h3. inr (ok (leb-false (length s.table) s.begun h2) (room (not-false _ h3)))))))
    where
      ok : s.begun < length s.table → s.made + 9 ≤ length s.log → Accepted P s a (outcome (began (s.begun + 1)) (post new (enter y s)))
      ok h2 h3 = record {
        may = may;
        world = plain_path refl refl (op_enter y s h2) refl (sent_post new (enter y s) (omega arith)) ∙ sym r;
        said = sym sy;
        news = logged new (enter y s) (omega arith) ∙ sym nw;
        frame = refl;
        framed = record {
          log = f.log ∙ sym (length-sets s.log s.made new);
          table = f.table ∙ sym (length-set s.table s.begun y);
          made = let z = length-sets s.log s.made new in omega arith;
          begun = let z = length-set s.table s.begun y in omega arith;
          inputs = f.inputs;
          outputs = f.outputs;
        };
      }

  advance_step : (xs : List ℕ) → Stepped P s (act_of s (to_advance xs)) (advancing inputs outputs xs s)
  unfolding advancing
  advance_step xs = later_step a _ _
      (row (not (eqb (length xs) (s.frame.counts.n + s.frame.counts.m))) 11 _ s _ (λ (z : Outcome). Stepped P s a z) (λ _. no P s a 11)
      (λ h1. row (not (inputs_stay xs s.frame.counts.n s && outputs_stay xs s.frame.counts.m s)) 12 _ s _ (λ (z : Outcome). Stepped P s a z) (λ _. no P s a 12)
      (λ h2. row (not (keeps_drift s.frame.drift xs)) 13 _ s _ (λ (z : Outcome). Stepped P s a z) (λ _. no P s a 13)
      (λ h3. inr (ok (eqb-true (length xs) (s.frame.counts.n + s.frame.counts.m) (not-false _ h1)) (not-false _ h3))))))
    where
      a : Act
      a = act_of s (to_advance xs)

      ok : length xs ≡ s.frame.counts.n + s.frame.counts.m → keeps_drift s.frame.drift xs ≡ true → Accepted P s a (outcome accepted (advanced xs s))
      ok h1 h3 = record {
        may = λ x y l m. subst (λ (b : ℕ). (1000 - s.frame.drift) * b ≤ 1000 * cond (ltb y s.frame.counts.m) (get_or xs (s.frame.counts.n + y) 0) 0)
            (sym (ap (λ (b : Bool). cond b (get_or xs x 0) 0) (lt-ltb x s.frame.counts.n l)))
            (subst (λ (b : ℕ). (1000 - s.frame.drift) * get_or xs x 0 ≤ 1000 * b) (sym (ap (λ (b : Bool). cond b (get_or xs (s.frame.counts.n + y) 0) 0) (lt-ltb y s.frame.counts.m m)))
            (keep_each_lem s.frame.drift xs xs h3 (s.frame.counts.n + y) x (omega arith) (omega arith)));
        world = plain_path
            (fun_ext (later_at later_input no_input (λ i. get_or xs i 0) s.inputs input_rests s.frame.counts.n (let z = f.inputs in let y = small.n_most in omega arith)))
            (fun_ext (later_at later_output no_output (λ j. get_or xs (s.frame.counts.n + j) 0) s.outputs output_rests s.frame.counts.m
            (let z = f.outputs in let y = small.m_most in omega arith)))
            refl refl refl;
        said = refl;
        news = none_logged s.made s.log;
        frame = refl;
        framed = record {
          log = f.log;
          table = f.table;
          made = f.made;
          begun = f.begun;
          inputs = length_later later_input no_input (λ i. get_or xs i 0) s.inputs s.frame.counts.n ∙ f.inputs;
          outputs = length_later later_output no_output (λ j. get_or xs (s.frame.counts.n + j) 0) s.outputs s.frame.counts.m ∙ f.outputs;
        };
      }

  pub call_step : s.frame.is_open ≡ true → (c : Call) → Stepped P s (act_of s c) (outcome_of inputs outputs c s)
  unfolding outcome_of opening beginning_write beginning_read
  call_step h (to_open k lease drift clocks) =
      subst (λ (z : Outcome). Stepped P s (act_of s (to_open k lease drift clocks)) z) (sym (first_refuses s.frame.is_open 1 _ s _ h)) (no P s (act_of s (to_open k lease drift clocks)) 1)
  call_step h (to_advance xs) = advance_step xs
  call_step h (to_write o x) = begin_step (writes o x) o (asking (first_asking (s.begun + 1) o x)) (clock_questions (s.begun + 1) s.frame.counts.n) tt
      (each_nine s.frame.counts.n (λ i. ClockQuestion (s.begun + 1) i) small.n_most) refl refl refl
  call_step h (to_read o) = begin_step (reads o) o (reading (first_reading (s.begun + 1) o)) (read_requests (s.begun + 1) o s.frame.counts.m) tt
      (each_nine s.frame.counts.m (λ j. ReadRequest (s.begun + 1) j o) small.m_most) refl refl refl
  call_step h (to_deliver number) = deliver_step number
