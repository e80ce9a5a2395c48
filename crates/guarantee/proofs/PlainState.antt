-- The field as the proofs see it: servers and operations as functions of their numbers, and the messages made so far.
-- What each accepted call does to it, by the rules' own handlers.
use Rattle.std.proofs.Common.{◌≡◌, ℕ, zero, suc, ◌+◌, ◌-◌, ◌<◌, ◌≤◌, Bool, false, cond, eqb, List, [], ◌++◌, length, get_or, take, drop, set, sym, refl, ap, ◌∙◌, inl, inr, arith, length-append, length-take, take_all}
use mathlib.Core.Path.{fun_ext}
use lib.Seq.{sets-eq, take-append-le}
use Rattle.std.proofs.lemmas.Bool.{cases_eq, eq-eqb, ne_eqb}
use Rattle.quorum.specs.Systems.{System}
use Rattle.rules.specs.declared.message.Message.{Message}
use Rattle.rules.specs.declared.message.Message.TheVariants.{ClockQuestion, ClockAnswer, WriteRequest, WriteAnswer, ReadRequest, ReadAnswer, RenewalRequest, RenewalAnswer, Invalidation, InvalidationAnswer}
use Rattle.rules.specs.Calls.{operation_at, with_operation, enter}
use Rattle.rules.specs.Input.{Input, answers_clock, after_write, answers_write, after_renewal, answers_renewal, acknowledges_all, later_input}
use Rattle.rules.specs.Lists.{list_of}
use Rattle.rules.specs.Operation.{Operation, unused, asking, reading, first_asking, first_reading, clock_questions, read_requests}
use Rattle.rules.specs.Output.{Output, answers_read, after_answer, acknowledgement, after_invalidation, answers_invalidation, later_output}
use Rattle.rules.specs.Ranges.{Counts}
use Rattle.rules.specs.Reaction.{Reaction, reacts}
use Rattle.rules.specs.State.{State, input_at, output_at, post, with_input, with_output}
use Rattle.guarantee.proofs.Words.{at, at_cases, at_miss, set_at}

-- what opening fixes, with the two systems
pub record Params : Type 0 where
  pub inputs : System
  pub outputs : System
  pub counts : Counts
  pub lease : ℕ
  pub drift : ℕ

pub record PlainState : Type 0 where
  pub inp : ℕ → Input
  pub out : ℕ → Output
  pub op : ℕ → Operation
  pub begun : ℕ
  pub sent : List Message

-- the messages made so far
abbrev pub sent_of : State → List Message
sent_of s = take s.made s.log

-- operations are numbered from 1
abbrev pub op_of : State → ℕ → Operation
op_of s p = cond (eqb p 0) unused (operation_at s p)

abbrev pub plain_of : State → PlainState
plain_of s = record { inp = input_at s; out = output_at s; op = op_of s; begun = s.begun; sent = sent_of s }

-- ---- changes of a world

abbrev pub at_input : ℕ → Input → List Message → PlainState → PlainState
at_input i I new W = record { inp = at i I W.inp; out = W.out; op = W.op; begun = W.begun; sent = W.sent ++ new }

abbrev pub at_output : ℕ → Output → List Message → PlainState → PlainState
at_output j O new W = record { inp = W.inp; out = at j O W.out; op = W.op; begun = W.begun; sent = W.sent ++ new }

abbrev pub at_op : ℕ → Operation → List Message → PlainState → PlainState
at_op p x new W = record { inp = W.inp; out = W.out; op = at p x W.op; begun = W.begun; sent = W.sent ++ new }

abbrev pub begins : Operation → List Message → PlainState → PlainState
begins x new W = record {
  inp = W.inp;
  out = W.out;
  op = at (W.begun + 1) x W.op;
  begun = W.begun + 1;
  sent = W.sent ++ new;
}

-- ---- what an operation makes of a message

abbrev pub reaction : Params → Message → Operation → Reaction
reaction P m x = reacts P.inputs P.outputs m x

-- the operation that an answer is for
abbrev pub answers_to : Message → ℕ
answers_to (ClockAnswer i p c) = p
answers_to (WriteAnswer i p t) = p
answers_to (ReadAnswer j p v x) = p
answers_to m = 0

abbrev pub at_reaction : ℕ → Reaction → PlainState → PlainState
at_reaction p r W = at_op p r.next r.sends W

-- ---- what an accepted call does

pub data Act : Type 0 where
  -- how far the clock of each input server and of each output server moves
  ticks : (ℕ → ℕ) → (ℕ → ℕ) → Act
  -- the next operation is a write: object, value
  writes : ℕ → ℕ → Act
  -- the next operation is a read: object
  reads : ℕ → Act
  hears : Message → Act

abbrev pub run : Params → Act → PlainState → PlainState
run P (ticks x y) W = record {
  inp = λ i. later_input (x i) (W.inp i);
  out = λ j. later_output (y j) (W.out j);
  op = W.op;
  begun = W.begun;
  sent = W.sent;
}
run P (writes o x) W =
    begins (asking (first_asking (W.begun + 1) o x)) (clock_questions (W.begun + 1) P.counts.n) W
run P (reads o) W =
    begins (reading (first_reading (W.begun + 1) o)) (read_requests (W.begun + 1) o P.counts.m) W
run P (hears (ClockQuestion p i)) W = at_input i (W.inp i) (answers_clock i p (W.inp i)) W
run P (hears (ClockAnswer i p c)) W = at_reaction p (reaction P (ClockAnswer i p c) (W.op p)) W
run P (hears (WriteRequest p i o v x)) W =
    at_input i (after_write P.counts.m o v x (W.inp i))
    (answers_write i p P.counts.m o (after_write P.counts.m o v x (W.inp i))) W
run P (hears (WriteAnswer i p t)) W = at_reaction p (reaction P (WriteAnswer i p t) (W.op p)) W
run P (hears (ReadRequest p j o)) W = at_output j (W.out j) (answers_read P.inputs j p P.counts.n o (W.out j)) W
run P (hears (ReadAnswer j p v x)) W = at_reaction p (reaction P (ReadAnswer j p v x) (W.op p)) W
run P (hears (RenewalRequest j i r)) W =
    at_input i (after_renewal P.lease j r (W.inp i)) (answers_renewal i P.lease j r (W.inp i)) W
run P (hears (RenewalAnswer i j y)) W = at_output j (after_answer P.drift i y (W.out j)) (acknowledgement j i y.list) W
run P (hears (Invalidation i j o v)) W = at_output j (after_invalidation i o v (W.out j)) (answers_invalidation j i o v) W
run P (hears (InvalidationAnswer j i l)) W = at_input i (acknowledges_all j (list_of l) (W.inp i)) [] W

-- ---- a state's changes, as changes of its world

pub plain_path : {W V : PlainState} → W.inp ≡ V.inp → W.out ≡ V.out → W.op ≡ V.op → W.begun ≡ V.begun → W.sent ≡ V.sent → W ≡ V
plain_path {W} {V} a b c d e =
    ap (λ (f : ℕ → Input). record { inp = f; out = W.out; op = W.op; begun = W.begun; sent = W.sent }) a
    ∙ ap (λ (f : ℕ → Output). record { inp = V.inp; out = f; op = W.op; begun = W.begun; sent = W.sent }) b
    ∙ ap (λ (f : ℕ → Operation). record { inp = V.inp; out = V.out; op = f; begun = W.begun; sent = W.sent }) c
    ∙ ap (λ (f : ℕ). record { inp = V.inp; out = V.out; op = V.op; begun = f; sent = W.sent }) d
    ∙ ap (λ (f : List Message). record { inp = V.inp; out = V.out; op = V.op; begun = V.begun; sent = f }) e

-- what is logged joins what was sent
pub sent_post : (new : List Message) (s : State) → s.made + length new ≤ length s.log → sent_of (post new s) ≡ sent_of s ++ new
sent_post new s h =
    let e = sets-eq new s.log s.made h in
    let n : length (take s.made s.log) ≡ s.made = simp length-take (omega arith) in
    let m : length (take s.made s.log ++ new) ≡ s.made + length new = simp length-append (omega arith) in
    ap (λ (l : List Message). take (s.made + length new) l) e
    ∙ take-append-le (s.made + length new) (take s.made s.log ++ new) (drop (s.made + length new) s.log) (omega arith)
    ∙ take_all (s.made + length new) (take s.made s.log ++ new) (omega arith)

pub inp_with : (i : ℕ) (I : Input) (s : State) → i < length s.inputs → input_at (with_input i I s) ≡ at i I (input_at s)
inp_with i I s h = fun_ext (λ n. set_at s.inputs i n I _ h)

pub out_with : (j : ℕ) (O : Output) (s : State) → j < length s.outputs → output_at (with_output j O s) ≡ at j O (output_at s)
out_with j O s h = fun_ext (λ n. set_at s.outputs j n O _ h)

-- a place given back what it has
pub at_back : {A : Type 0} (k : ℕ) (f : ℕ → A) → at k (f k) f ≡ f
at_back k f = fun_ext (λ n. at_cases (λ x. x ≡ f n) k n (f k) f (λ e. ap f e) (λ _. refl))

op_changed : (l : List Operation) (p : ℕ) (x : Operation) → 1 ≤ p → p ≤ length l → (q : ℕ) →
    cond (eqb q 0) unused (get_or (set l (p - 1) x) (q - 1) unused) ≡ at p x (λ (q : ℕ). cond (eqb q 0) unused (get_or l (q - 1) unused)) q
op_changed l p x h k zero = sym (at_miss p 0 x (λ (q : ℕ). cond (eqb q 0) unused (get_or l (q - 1) unused)) (λ e. omega arith))
op_changed l p x h k (suc q) =
    let z : eqb (suc q) 0 ≡ false = ne_eqb (suc q) 0 (λ e. omega arith) in
    let f : ℕ → Operation = λ (q : ℕ). cond (eqb q 0) unused (get_or l (q - 1) unused) in
    let b : (suc q) - 1 ≡ q = omega arith in
    ap (λ (t : Bool). cond t unused (get_or (set l (p - 1) x) (suc q - 1) unused)) z
    ∙ ap (λ (n : ℕ). get_or (set l (p - 1) x) n unused) b
    ∙ set_at l (p - 1) q x unused (omega arith)
    ∙ elim (cases_eq p (suc q)) [
      | inl e ↦ ap (λ (t : Bool). cond t x (get_or l q unused)) (eq-eqb (p - 1) q (omega arith)) ∙ sym (ap (λ (t : Bool). cond t x (f (suc q))) (eq-eqb p (suc q) e))
      | inr e ↦ ap (λ (t : Bool). cond t x (get_or l q unused)) (ne_eqb (p - 1) q (λ g. e (omega arith)))
          ∙ (sym (ap (λ (t : Bool). cond t x (f (suc q))) (ne_eqb p (suc q) e)
          ∙ ap (λ (t : Bool). cond t unused (get_or l (suc q - 1) unused)) z ∙ ap (λ (n : ℕ). get_or l n unused) b))
    ]

pub op_with : (p : ℕ) (x : Operation) (s : State) → 1 ≤ p → p ≤ length s.table → op_of (with_operation p x s) ≡ at p x (op_of s)
op_with p x s h k = fun_ext (λ q. op_changed s.table p x h k q)

pub op_enter : (x : Operation) (s : State) → s.begun < length s.table → op_of (enter x s) ≡ at (s.begun + 1) x (op_of s)
op_enter x s h =
    fun_ext (λ q. ap (λ (n : ℕ). cond (eqb q 0) unused (get_or (set s.table n x) (q - 1) unused)) (omega arith)
    ∙ op_changed s.table (s.begun + 1) x (omega arith) (omega arith) q)
