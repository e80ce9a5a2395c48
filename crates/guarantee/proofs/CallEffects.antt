-- Every call on an open field either refuses and leaves the state as it was, or does to the state's world what the act of the call does.
use Rattle.std.proofs.Common.{subst, ◌≡◌, ℕ, zero, suc, ◌+◌, ◌-◌, ◌<◌, ◌≤◌, true, cond, eqb, ltb, List, [], ◌∷◌, ◌++◌, length, get_or, take, drop, sym, refl, ap, ◌∙◌, inl, inr, append-nil, arith, length-set, length-take, take_at, drop_at}
use lib.Seq.{sets, sets-eq, length-sets}
use Rattle.std.proofs.lemmas.Bool.{cond-false, and_parts, ne_eqb}
use Rattle.quorum.specs.Systems.{System}
use Rattle.rules.specs.declared.message.Message.{Message}
use Rattle.rules.specs.declared.message.Message.TheVariants.{ClockQuestion, ClockAnswer, WriteRequest, WriteAnswer, ReadRequest, ReadAnswer, RenewalRequest, RenewalAnswer, Invalidation, InvalidationAnswer}
use Rattle.rules.specs.Calls.{operation_at, with_operation, is_known, reacted, handed_to, quiet, receives, message_at}
use Rattle.rules.specs.Input.{Input, answers_clock, after_write, answers_write, after_renewal, answers_renewal, acknowledges_all}
use Rattle.rules.specs.Lists.{list_of}
use Rattle.numbers.specs.Numbers.{between}
use Rattle.rules.specs.Operation.{Operation, unused, clock_questions, read_requests}
use Rattle.rules.specs.Output.{Output, answers_read, after_answer, acknowledgement, after_invalidation, answers_invalidation}
use Rattle.rules.specs.Ranges.{numbers_fit, operation_fits, state_fits, has_next_clock}
use Rattle.rules.specs.Reaction.{Reaction}
use Rattle.rules.specs.Said.{Said, accepted, began, nothing_ended}
use Rattle.rules.specs.State.{Frame, State, Outcome, input_at, output_at, post, with_input, with_output}
use Rattle.guarantee.specs.Story.{Call, to_open, to_advance, to_write, to_read, to_deliver, part}
use Rattle.guarantee.proofs.RangeFacts.{fits_request, fits_renewal, fits_renewed, fits_invalidation, fits_ack, within_range}
use Rattle.guarantee.proofs.WriteMoves as Writes
use Rattle.guarantee.proofs.Kept.{Small, May}
use Rattle.guarantee.proofs.OutputMoves as Outs
use Rattle.guarantee.proofs.Reacting.{sends_nine}
use Rattle.guarantee.proofs.Words.{In}
use Rattle.guarantee.proofs.PlainState.{Params, PlainState, Act, ticks, writes, reads, hears, run, plain_of, sent_of, op_of, at_input, at_output, reaction, at_reaction, plain_path, sent_post, inp_with, out_with, op_with, at_back}

abbrev pub params_of : System → System → State → Params
params_of inputs outputs s = record {
  inputs = inputs;
  outputs = outputs;
  counts = s.frame.counts;
  lease = s.frame.lease;
  drift = s.frame.drift;
}

-- what a call does where it is accepted
abbrev pub act_of : State → Call → Act
act_of s (to_open k lease drift clocks) = ticks (λ _. 0) (λ _. 0)
act_of s (to_advance increments) = ticks
    (λ i. cond (ltb i s.frame.counts.n) (get_or increments i 0) 0)
    (λ j. cond (ltb j s.frame.counts.m) (get_or increments (s.frame.counts.n + j) 0) 0)
act_of s (to_write o x) = writes o x
act_of s (to_read o) = reads o
act_of s (to_deliver number) = hears (message_at s number)

-- what it says
abbrev pub says_of : Params → Act → PlainState → Said
says_of P (ticks x y) W = accepted
says_of P (writes o x) W = began (W.begun + 1)
says_of P (reads o) W = began (W.begun + 1)
says_of P (hears (ClockAnswer i p c)) W = (reaction P (ClockAnswer i p c) (W.op p)).said
says_of P (hears (WriteAnswer i p t)) W = (reaction P (WriteAnswer i p t) (W.op p)).said
says_of P (hears (ReadAnswer j p v x)) W = (reaction P (ReadAnswer j p v x) (W.op p)).said
says_of P a W = nothing_ended

-- what it logs
abbrev pub news_of : Params → Act → PlainState → List Message
news_of P (ticks x y) W = []
news_of P (writes o x) W = clock_questions (W.begun + 1) P.counts.n
news_of P (reads o) W = read_requests (W.begun + 1) o P.counts.m
news_of P (hears (ClockQuestion p i)) W = answers_clock i p (W.inp i)
news_of P (hears (ClockAnswer i p c)) W = (reaction P (ClockAnswer i p c) (W.op p)).sends
news_of P (hears (WriteRequest p i o v x)) W = answers_write i p P.counts.m o (after_write P.counts.m o v x (W.inp i))
news_of P (hears (WriteAnswer i p t)) W = (reaction P (WriteAnswer i p t) (W.op p)).sends
news_of P (hears (ReadRequest p j o)) W = answers_read P.inputs j p P.counts.n o (W.out j)
news_of P (hears (ReadAnswer j p v x)) W = (reaction P (ReadAnswer j p v x) (W.op p)).sends
news_of P (hears (RenewalRequest j i r)) W = answers_renewal i P.lease j r (W.inp i)
news_of P (hears (RenewalAnswer i j y)) W = acknowledgement j i y.list
news_of P (hears (Invalidation i j o v)) W = answers_invalidation j i o v
news_of P (hears (InvalidationAnswer j i l)) W = []

-- lengths of a state
pub record Framed (s : State) : Type 0 where
  pub log : s.frame.log_length ≡ length s.log
  pub table : s.frame.table_length ≡ length s.table
  pub made : s.made ≤ length s.log
  pub begun : s.begun ≤ length s.table
  pub inputs : length s.inputs ≡ 8
  pub outputs : length s.outputs ≡ 8

-- a call that is accepted
pub record Accepted (P : Params) (s : State) (a : Act) (x : Outcome) : Type 0 where
  pub may : May P a (plain_of s)
  pub world : plain_of x.after ≡ run P a (plain_of s)
  pub said : x.said ≡ says_of P a (plain_of s)
  pub news : part s.made x.after.made x.after.log ≡ news_of P a (plain_of s)
  pub frame : x.after.frame ≡ s.frame
  pub framed : Framed x.after

-- what is logged is what stands in the log after
pub logged : (new : List Message) (s : State) → s.made + length new ≤ length s.log
    → part s.made (s.made + length new) (sets s.log s.made new) ≡ new
logged new s h =
    let e = sets-eq new s.log s.made h in
    let n : length (take s.made s.log) ≡ s.made = simp length-take (omega arith) in
    let d : (s.made + length new) - s.made ≡ length new = omega arith in
    ap (λ (l : List Message). take ((s.made + length new) - s.made) (drop s.made l)) e
    ∙ ap (λ (k : ℕ). take k (drop s.made (take s.made s.log ++ new ++ drop (s.made + length new) s.log))) d
    ∙ ap (take (length new)) (assoc (take s.made s.log) new (drop (s.made + length new) s.log) n)
    ∙ take_at new (drop (s.made + length new) s.log) (length new) refl
  where
    assoc : (a b c : List Message) → length a ≡ s.made → drop s.made (a ++ b ++ c) ≡ b ++ c
    assoc a b c n = ap (drop s.made) (mathlib.Core.List.append_assoc a b c) ∙ drop_at a (b ++ c) s.made n

pub none_logged : (a : ℕ) (l : List Message) → part a a l ≡ []
none_logged a l = let z : a - a ≡ 0 = omega arith in ap (λ (k : ℕ). take k (drop a l)) z

-- a message that was made is in the log
pub in_sent : (l : List Message) (k made : ℕ) (d : Message) → k < made → made ≤ length l → In (get_or l k d) (take made l)
in_sent [] k made d h m = absurd (omega arith)
in_sent (y ∷ l) k zero d h m = absurd (omega arith)
in_sent (y ∷ l) zero (suc made) d h m = inl refl
in_sent (y ∷ l) (suc k) (suc made) d h m = inr (in_sent l k made d (omega arith) (omega arith))

-- ---- the three kinds of delivery

module _ (inputs outputs : System) (s : State) (f : Framed s) (room : s.made + 9 ≤ length s.log) where
  abbrev P : Params
  P = params_of inputs outputs s

  abbrev W : PlainState
  W = plain_of s

  -- lengths after messages were logged
  framed_post : (new : List Message) → length new ≤ 9 → (t : State) → t.frame ≡ s.frame → t.made ≡ s.made → t.begun ≡ s.begun → t.log ≡ s.log
      → length t.table ≡ length s.table → length t.inputs ≡ length s.inputs → length t.outputs ≡ length s.outputs → Framed (post new t)
  framed_post new l t e1 e2 e3 e4 e5 e6 e7 =
      let a = length-sets t.log t.made new in
      let b = ap (λ (z : List Message). length z) e4 in
      let c = ap (λ (z : Frame). z.log_length) e1 in
      let d = ap (λ (z : Frame). z.table_length) e1 in
      record {
        log = c ∙ f.log ∙ sym (a ∙ b);
        table = d ∙ f.table ∙ sym e5;
        made = omega (arith, a, b, e2);
        begun = omega (arith, e3, e5, f.begun);
        inputs = e6 ∙ f.inputs;
        outputs = e7 ∙ f.outputs;
      }

  fits : (new : List Message) → length new ≤ 9 → s.made + length new ≤ length s.log
  fits new l = omega arith

  pub input_accepted : (a : Act) (i : ℕ) (I : Input) (new : List Message) → May P a W → i < 8 → length new ≤ 9
      → run P a W ≡ at_input i I new W → says_of P a W ≡ nothing_ended → news_of P a W ≡ new
      → Accepted P s a (quiet (post new (with_input i I s)))
  input_accepted a i I new may i<8 l r sy nw = record {
    may = may;
    world = plain_path (inp_with i I s (let z = f.inputs in omega arith)) refl refl refl (sent_post new s (fits new l)) ∙ sym r;
    said = sym sy;
    news = logged new s (fits new l) ∙ sym nw;
    frame = refl;
    framed = framed_post new l (with_input i I s) refl refl refl refl refl (length-set s.inputs i I) refl;
  }

  pub output_accepted : (a : Act) (j : ℕ) (O : Output) (new : List Message) → May P a W → j < 8 → length new ≤ 9
      → run P a W ≡ at_output j O new W → says_of P a W ≡ nothing_ended → news_of P a W ≡ new
      → Accepted P s a (quiet (post new (with_output j O s)))
  output_accepted a j O new may j<8 l r sy nw = record {
    may = may;
    world = plain_path refl (out_with j O s (let z = f.outputs in omega arith)) refl refl (sent_post new s (fits new l)) ∙ sym r;
    said = sym sy;
    news = logged new s (fits new l) ∙ sym nw;
    frame = refl;
    framed = framed_post new l (with_output j O s) refl refl refl refl refl refl (length-set s.outputs j O);
  }

  -- messages alone
  pub posted : (a : Act) (new : List Message) (V : PlainState) → May P a W → length new ≤ 9
      → V ≡ run P a W → V.inp ≡ W.inp → V.out ≡ W.out → V.op ≡ W.op → V.begun ≡ W.begun → V.sent ≡ W.sent ++ new
      → says_of P a W ≡ nothing_ended → news_of P a W ≡ new → Accepted P s a (quiet (post new s))
  posted a new V may l r e1 e2 e3 e4 e5 sy nw = record {
    may = may;
    world = plain_path (sym e1) (sym e2) (sym e3) (sym e4) (sent_post new s (fits new l) ∙ sym e5) ∙ r;
    said = sym sy;
    news = logged new s (fits new l) ∙ sym nw;
    frame = refl;
    framed = framed_post new l s refl refl refl refl refl refl refl;
  }

  -- an operation that reacts
  pub op_accepted : (a : Act) (p : ℕ) (r : Reaction) → May P a W → 1 ≤ p → p ≤ s.begun → length r.sends ≤ 9
      → run P a W ≡ at_reaction p r W → says_of P a W ≡ r.said → news_of P a W ≡ r.sends
      → Accepted P s a (reacted p r s)
  op_accepted a p r may low high l e sy nw = record {
    may = may;
    world = plain_path refl refl (op_with p r.next s low (let z = f.begun in omega arith)) refl (sent_post r.sends s (fits r.sends l)) ∙ sym e;
    said = sym sy;
    news = logged r.sends s (fits r.sends l) ∙ sym nw;
    frame = refl;
    framed = framed_post r.sends l (with_operation p r.next s) refl refl refl refl (length-set s.table (p - 1) r.next) refl refl;
  }

  -- ---- each kind of message

  module _ (small : Small P) where
    -- an operation that is known is begun, and its place in the table is its state in the world
    known_op : (p : ℕ) → is_known s p ≡ true → (1 ≤ p) × (p ≤ s.begun) × (op_of s p ≡ operation_at s p)
    known_op p h =
        let a = and_parts (between 1 s.begun p) (state_fits s.frame.counts p (operation_at s p)) h in
        let b = within_range 1 s.begun p a.0 in
        (b.0, b.1, cond-false (eqb p 0) unused (operation_at s p) (ne_eqb p 0 (λ e. let z = b.0 in omega arith)))

    -- what the operation at that place makes of a message
    reacts_accepted : (m : Message) (p : ℕ) → May P (hears m) W → is_known s p ≡ true
        → run P (hears m) W ≡ at_reaction p (reaction P m (op_of s p)) W → says_of P (hears m) W ≡ (reaction P m (op_of s p)).said
        → news_of P (hears m) W ≡ (reaction P m (op_of s p)).sends
        → Accepted P s (hears m) (handed_to inputs outputs m p s)
    reacts_accepted m p may known r sy nw =
        let b = known_op p known in
        subst (λ (x : Operation). Accepted P s (hears m) (reacted p (reaction P m x) s)) b.2
        (op_accepted (hears m) p (reaction P m (op_of s p)) may b.0 b.1
        (sends_nine inputs outputs m (op_of s p) (let z = small.n_is in let y = small.n_most in omega arith)) r sy nw)

    in8 : (i : ℕ) → i < s.frame.counts.n → i < 8
    in8 i l = let z = small.n_most in omega arith

    out8 : (j : ℕ) → j < s.frame.counts.m → j < 8
    out8 j l = let z = small.m_most in omega arith

    -- a message in range, among those made
    pub receives_accepted : (m : Message) → In m (sent_of s) → numbers_fit s.frame.counts m ≡ true
        → operation_fits (is_known s) (λ p. has_next_clock (operation_at s p)) m ≡ true
        → Accepted P s (hears m) (receives inputs outputs m s)
    unfolding receives
    receives_accepted (ClockQuestion p i) h n o =
        posted (hears (ClockQuestion p i)) (answers_clock i p (input_at s i)) (run P (hears (ClockQuestion p i)) W) (h, n) (omega arith) refl
        (at_back i (input_at s)) refl refl refl refl refl refl
    receives_accepted (ClockAnswer i p c) h n o =
        reacts_accepted (ClockAnswer i p c) p (h, n) (and_parts (is_known s p) (has_next_clock (operation_at s p)) o).0 refl refl refl
    receives_accepted (WriteRequest p i o v x) h n k = input_accepted (hears (WriteRequest p i o v x)) i J new (h, n)
        (in8 i (fits_request s.frame.counts p i o v x n).receiver)
        (let z = Writes.length_write i p s.frame.counts.m o J in let y = small.m_most in omega arith) refl refl refl
      where
        J : Input
        J = after_write s.frame.counts.m o v x (input_at s i)

        new : List Message
        new = answers_write i p s.frame.counts.m o J
    receives_accepted (WriteAnswer i p t) h n o = reacts_accepted (WriteAnswer i p t) p (h, n) o refl refl refl
    receives_accepted (ReadRequest p j o) h n k =
        posted (hears (ReadRequest p j o)) (answers_read inputs j p s.frame.counts.n o (output_at s j)) (run P (hears (ReadRequest p j o)) W) (h, n)
        (let z = Outs.read_length inputs j p s.frame.counts.n o (output_at s j) small.n_pos in let y = small.n_most in omega arith) refl
        refl (at_back j (output_at s)) refl refl refl refl refl
    receives_accepted (ReadAnswer j p v x) h n o = reacts_accepted (ReadAnswer j p v x) p (h, n) o refl refl refl
    receives_accepted (RenewalRequest j i r) h n k = input_accepted (hears (RenewalRequest j i r)) i
        (after_renewal s.frame.lease j r (input_at s i)) (answers_renewal i s.frame.lease j r (input_at s i)) (h, n)
        (in8 i (fits_renewal s.frame.counts j i r n).input) (omega arith) refl refl refl
    receives_accepted (RenewalAnswer i j y) h n k = output_accepted (hears (RenewalAnswer i j y)) j
        (after_answer s.frame.drift i y (output_at s j)) (acknowledgement j i y.list) (h, n)
        (out8 j (fits_renewed s.frame.counts i j y n).output) (let z = Outs.ack_length j i y.list in omega arith) refl refl refl
    receives_accepted (Invalidation i j o v) h n k = output_accepted (hears (Invalidation i j o v)) j
        (after_invalidation i o v (output_at s j)) (answers_invalidation j i o v) (h, n)
        (out8 j (fits_invalidation s.frame.counts i j o v n).output) (omega arith) refl refl refl
    receives_accepted (InvalidationAnswer j i l) h n k =
        record {
          may = (h, n);
          world = plain_path (inp_with i J s (let z = f.inputs in let y = in8 i (fits_ack s.frame.counts j i l n).input in omega arith)) refl refl refl
              (sym (append-nil (sent_of s)));
          said = refl;
          news = none_logged s.made s.log;
          frame = refl;
          framed = record {
            log = f.log;
            table = f.table;
            made = f.made;
            begun = f.begun;
            inputs = length-set s.inputs i J ∙ f.inputs;
            outputs = f.outputs;
          };
        }
      where
        J : Input
        J = acknowledges_all j (list_of l) (input_at s i)
