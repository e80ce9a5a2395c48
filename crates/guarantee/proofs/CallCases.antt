-- The ways that a call can go. It refuses and alters nothing, or it has passed its tests and then does one of a few things.
-- What holds of each of these holds of every call.
use Rattle.std.proofs.Common.{◌≡◌, ℕ, Option, ◌+◌, ◌<◌, ◌≤◌, true, false, not, ◌&&◌, ◌||◌, eqb, ltb, leb, ◌⊎◌, List, [], ◌∷◌, length, get_or, refl, ap, ◌∙◌, inl, inr, arith, length-append}
use Rattle.std.proofs.lemmas.Bool.{cond_both, and_parts, or_parts, not-false, eqb-true, ltb-false, leb-true, leb-false}
use Rattle.quorum.specs.Sets.{set_of}
use Rattle.quorum.specs.Systems.{System}
use Rattle.rules.specs.declared.message.Message.{Message}
use Rattle.rules.specs.declared.message.Message.TheVariants.{ClockQuestion, ClockAnswer, WriteRequest, WriteAnswer, ReadRequest, ReadAnswer, RenewalRequest, RenewalAnswer, Invalidation, InvalidationAnswer}
use Rattle.numbers.specs.declared.time.Time.{Time}
use Rattle.numbers.specs.declared.version.Version.{Version}
use Rattle.rules.specs.Calls.{opened, clocks_fit, opening, as_opened, unless, later_refusal, inputs_stay, outputs_stay, keeps_drift, advanced, advancing}
use Rattle.rules.specs.Calls.{enter, beginning, beginning_write, beginning_read, operation_at, is_known, in_range, reacted, handed_to, quiet, receives, message_at, delivering}
use Rattle.rules.specs.Input.{Input, ledger, is_shut_out, invalidations, answers_clock, after_write, answers_write, after_renewal, answers_renewal, acknowledges_all, later_input}
use Rattle.rules.specs.Lists.{list_of}
use Rattle.numbers.specs.Numbers.{between, is_version, last_time, longest}
use Rattle.rules.specs.Operation.{Operation, asking, reading, ended, first_asking, first_reading, clock_questions, read_requests}
use Rattle.rules.specs.Output.{Output, good, valid, asks_all, answers_read, after_answer, acknowledgement, after_invalidation, answers_invalidation, later_output}
use Rattle.rules.specs.Steps.{has_room}
use Rattle.rules.specs.Ranges.{numbers_fit, state_fits, has_next_clock}
use Rattle.rules.specs.Reaction.{Reaction, reacts}
use Rattle.rules.specs.Said.{Said, refused, accepted, began}
use Rattle.rules.specs.State.{State, Outcome, outcome, refuse, no_input, no_output, input_at, output_at, post, with_input, with_output}
use Rattle.guarantee.specs.Bounds.{IsVersion, InputBounds, OutputBounds}
use Rattle.guarantee.specs.Laws.{InputRises, OutputRises}
use Rattle.guarantee.specs.Story.{Call, to_open, to_advance, to_write, to_read, to_deliver, outcome_of}
use Rattle.guarantee.proofs.Rows.{row, later_row}
use Rattle.guarantee.proofs.RangeFacts.{within_range, RequestFits, RenewalFits, RenewedFits, fits_request, fits_renewal, fits_renewed, fits_invalidation, fits_ack}
use Rattle.guarantee.proofs.WriteMoves.{length_write, lease_end_write}
use Rattle.guarantee.proofs.RenewalMoves.{lease_end_renewal}
use Rattle.guarantee.proofs.AcknowledgementMoves.{keeps_acknowledgement}
use Rattle.guarantee.proofs.OutputMoves.{ack_length}
use Rattle.guarantee.proofs.Later.{length_later, later_from}
use Rattle.guarantee.proofs.Reacting.{sends_nine, ended_stays, refuses_none}
use Rattle.guarantee.proofs.Sets.{below_passes}
use Rattle.guarantee.proofs.ServerSteps.{more_made, write_bounds, renewal_bounds, ack_bounds, write_rises, renewal_rises, ack_rises, answer_bounds, told_bounds, answer_rises, told_rises}
use Rattle.guarantee.proofs.Words.{each_length}

-- ---- what a call has found

-- an opening that is accepted
pub record Opens (inputs outputs : System) (k lease drift : ℕ) (clocks : List Time) (s : State) : Type 0 where
  pub closed : s.frame.is_open ≡ false
  pub n_most : inputs.count ≤ 8
  pub m_most : outputs.count ≤ 8
  pub objects : (1 ≤ k) × (k ≤ 16)
  pub long : (1 ≤ lease) × (lease ≤ longest)
  pub slow : drift ≤ 999
  pub started : clocks_fit clocks ≡ true
  pub log : (9 ≤ length s.log) × (length s.log ≤ 65535)
  pub table : (1 ≤ length s.table) × (length s.table ≤ 1024)

-- what every later call has found
pub record Found (inputs outputs : System) (s : State) : Type 0 where
  pub is_open : s.frame.is_open ≡ true
  pub log : length s.log ≡ s.frame.log_length
  pub table : length s.table ≡ s.frame.table_length
  pub n : inputs.count ≡ s.frame.counts.n
  pub m : outputs.count ≡ s.frame.counts.m

-- room for the messages of a call
abbrev pub Nine : State → Type 0
Nine s = s.made + 9 ≤ length s.log

abbrev pub Short : State → List Message → Type 0
Short s new = s.frame.counts.n ≤ 8 → s.frame.counts.m ≤ 8 → length new ≤ 9

-- the clocks that move
pub record Stays (increments : List ℕ) (s : State) : Type 0 where
  pub inputs : (i : ℕ) → i < s.frame.counts.n → (input_at s i).clock.0 + get_or increments i 0 ≤ last_time
  pub outputs : (j : ℕ) → j < s.frame.counts.m → (output_at s j).clock.0 + get_or increments (s.frame.counts.n + j) 0 ≤ last_time

-- ---- what a delivery does at a server

-- input server i becomes J, and so many messages are logged
pub record InputStep (s : State) (i : ℕ) (J : Input) (count : ℕ) : Type 0 where
  pub inside : i < s.frame.counts.n
  pub rises : InputRises (input_at s i) J
  pub bounds : s.frame.counts.k ≤ 16 → InputBounds s.frame.lease s.made (input_at s i)
      → (more : ℕ) → s.made + count ≤ more → InputBounds s.frame.lease more J
  pub leases : InputBounds s.frame.lease s.made (input_at s i) → (j : ℕ) → (ledger (input_at s i) j).lease_end.0 ≤ (ledger J j).lease_end.0

-- output server j becomes Q
pub record OutputStep (s : State) (j : ℕ) (Q : Output) : Type 0 where
  pub inside : j < s.frame.counts.m
  pub rises : OutputRises (output_at s j) Q
  pub bounds : OutputBounds (output_at s j) → OutputBounds Q

abbrev pub NotRefused : Said → Type 0
NotRefused r = (number : ℕ) → r ≡ refused number → ⊥

-- ---- what it does at an operation

-- operation p is begun, and reacts so
pub record Reacts (s : State) (p : ℕ) (r : Reaction) : Type 0 where
  pub low : 1 ≤ p
  pub stays_ended : operation_at s p ≡ ended → r.next ≡ ended
  pub short : Short s r.sends
  pub says : NotRefused r.said

-- ---- the ways

pub record Deliveries (s : State) (P : Outcome → Type 0) : Type 0 where
  pub logs : (new : List Message) → Short s new → P (quiet (post new s))
  pub reacts : (p : ℕ) (r : Reaction) → Reacts s p r → P (reacted p r s)
  pub keeps : (i : ℕ) (J : Input) → InputStep s i J 0 → P (quiet (with_input i J s))
  pub takes : (i : ℕ) (J : Input) (new : List Message) → InputStep s i J (length new) → Short s new → P (quiet (post new (with_input i J s)))
  pub hears : (j : ℕ) (Q : Output) (new : List Message) → OutputStep s j Q → Short s new → P (quiet (post new (with_output j Q s)))

pub record Ways (inputs outputs : System) (s : State) (P : Outcome → Type 0) : Type 0 where
  pub refuses : (number : ℕ) → P (refuse number s)
  pub opens : (k lease drift : ℕ) (clocks : List Time) → Opens inputs outputs k lease drift clocks s
      → P (outcome accepted (opened inputs.count outputs.count k lease drift clocks s))
  pub advances : (increments : List ℕ) → Found inputs outputs s → Stays increments s → P (outcome accepted (advanced increments s))
  pub begins : (x : Operation) (new : List Message) → Found inputs outputs s → s.begun < length s.table → Nine s → Short s new
      → P (outcome (began (s.begun + 1)) (post new (enter x s)))
  pub delivers : Found inputs outputs s → Nine s → Deliveries s P

-- ---- opening

pub opening_ways : (inputs outputs : System) (k lease drift : ℕ) (clocks : List Time) (s : State) (P : Outcome → Type 0)
    → ((number : ℕ) → P (refuse number s))
    → (Opens inputs outputs k lease drift clocks s → P (outcome accepted (opened inputs.count outputs.count k lease drift clocks s)))
    → P (opening inputs outputs k lease drift clocks s)
unfolding opening
opening_ways inputs outputs k lease drift clocks s P stop go =
    row s.frame.is_open 1 _ s _ P (λ _. stop 1) (λ a.
    row (ltb 8 inputs.count || ltb 8 outputs.count) 2 _ s _ P (λ _. stop 2) (λ b.
    row (not (between 1 16 k)) 3 _ s _ P (λ _. stop 3) (λ c.
    row (not (between 1 longest lease)) 4 _ s _ P (λ _. stop 4) (λ d.
    row (ltb 999 drift) 5 _ s _ P (λ _. stop 5) (λ e.
    row (not (eqb (length clocks) (inputs.count + outputs.count) && clocks_fit clocks)) 6 _ s _ P (λ _. stop 6) (λ f.
    row (not (between 9 65535 (length s.log) && between 1 1024 (length s.table))) 7 _ s _ P (λ _. stop 7) (λ g.
    let counts = or_parts (ltb 8 inputs.count) (ltb 8 outputs.count) b in
    let started = and_parts (eqb (length clocks) (inputs.count + outputs.count)) (clocks_fit clocks) (not-false _ f) in
    let lengths = and_parts (between 9 65535 (length s.log)) (between 1 1024 (length s.table)) (not-false _ g) in
    go (record {
      closed = a;
      n_most = ltb-false 8 inputs.count counts.0;
      m_most = ltb-false 8 outputs.count counts.1;
      objects = within_range 1 16 k (not-false (between 1 16 k) c);
      long = within_range 1 longest lease (not-false (between 1 longest lease) d);
      slow = ltb-false 999 drift e;
      started = started.1;
      log = within_range 9 65535 (length s.log) lengths.0;
      table = within_range 1 1024 (length s.table) lengths.1;
    }))))))))

-- ---- what every later call asks first

pub later_ways : (inputs outputs : System) (own : Option ℕ) (s : State) (x : Outcome) (P : Outcome → Type 0) → ((number : ℕ) → P (refuse number s))
    → (Found inputs outputs s → P (unless own s x)) → P (unless (later_refusal inputs outputs s own) s x)
later_ways inputs outputs own s x P stop go = later_row inputs outputs own s x P stop (λ a b. go (found a b))
  where
    found : s.frame.is_open ≡ true → as_opened inputs outputs s ≡ true → Found inputs outputs s
    found a b =
        let c = and_parts (eqb (length s.log) s.frame.log_length) _ b in
        let d = and_parts (eqb (length s.table) s.frame.table_length) _ c.1 in
        let e = and_parts (eqb inputs.count s.frame.counts.n) _ d.1 in
        record {
          is_open = a;
          log = eqb-true (length s.log) s.frame.log_length c.0;
          table = eqb-true (length s.table) s.frame.table_length d.0;
          n = eqb-true inputs.count s.frame.counts.n e.0;
          m = eqb-true outputs.count s.frame.counts.m e.1;
        }

-- ---- advancing

pub advancing_ways : (inputs outputs : System) (increments : List ℕ) (s : State) (P : Outcome → Type 0) → ((number : ℕ) → P (refuse number s))
    → (Found inputs outputs s → Stays increments s → P (outcome accepted (advanced increments s)))
    → P (advancing inputs outputs increments s)
unfolding advancing
advancing_ways inputs outputs increments s P stop go = later_ways inputs outputs _ s _ P stop (λ found.
    row (not (eqb (length increments) (s.frame.counts.n + s.frame.counts.m))) 11 _ s _ P (λ _. stop 11) (λ a.
    row (not (inputs_stay increments s.frame.counts.n s && outputs_stay increments s.frame.counts.m s)) 12 _ s _ P (λ _. stop 12) (λ b.
    row (not (keeps_drift s.frame.drift increments)) 13 _ s _ P (λ _. stop 13) (λ c.
    let stay = and_parts (inputs_stay increments s.frame.counts.n s) (outputs_stay increments s.frame.counts.m s) (not-false _ b) in
    go found (record {
      inputs = λ i l. leb-true _ last_time (below_passes s.frame.counts.n _ i stay.0 l);
      outputs = λ j l. leb-true _ last_time (below_passes s.frame.counts.m _ j stay.1 l);
    })))))

-- what moving the clocks leaves
pub record Advanced (increments : List ℕ) (s t : State) : Type 0 where
  pub frame : t.frame ≡ s.frame
  pub made : t.made ≡ s.made
  pub begun : t.begun ≡ s.begun
  pub log : t.log ≡ s.log
  pub table : t.table ≡ s.table
  pub inputs : length t.inputs ≡ length s.inputs
  pub outputs : length t.outputs ≡ length s.outputs
  pub input : (i : ℕ) → (input_at t i ≡ input_at s i)
      ⊎ ((i < s.frame.counts.n) × (input_at t i ≡ later_input (get_or increments i 0) (input_at s i)))
  pub output : (j : ℕ) → (output_at t j ≡ output_at s j)
      ⊎ ((j < s.frame.counts.m) × (output_at t j ≡ later_output (get_or increments (s.frame.counts.n + j) 0) (output_at s j)))

pub advances : (increments : List ℕ) (s : State) → Advanced increments s (advanced increments s)
advances increments s = record {
  frame = refl;
  made = refl;
  begun = refl;
  log = refl;
  table = refl;
  inputs = length_later later_input no_input (λ i. get_or increments i 0) s.inputs s.frame.counts.n;
  outputs = length_later later_output no_output (λ j. get_or increments (s.frame.counts.n + j) 0) s.outputs s.frame.counts.m;
  input = later_from later_input no_input (λ i. get_or increments i 0) s.inputs s.frame.counts.n;
  output = later_from later_output no_output (λ j. get_or increments (s.frame.counts.n + j) 0) s.outputs s.frame.counts.m;
}

-- ---- beginning

pub beginning_ways : (inputs outputs : System) (o : ℕ) (x : Operation) (requests : List Message) (s : State) (P : Outcome → Type 0)
    → ((number : ℕ) → P (refuse number s))
    → (Found inputs outputs s → s.begun < length s.table → Nine s → P (outcome (began (s.begun + 1)) (post requests (enter x s))))
    → P (beginning inputs outputs o x requests s)
beginning_ways inputs outputs o x requests s P stop go = later_ways inputs outputs _ s _ P stop (λ found.
    row (leb s.frame.counts.k o) 21 _ s _ P (λ _. stop 21) (λ a.
    row (leb (length s.table) s.begun) 22 _ s _ P (λ _. stop 22) (λ b.
    row (not (has_room s.made s.log)) 23 _ s _ P (λ _. stop 23) (λ c.
    go found (leb-false (length s.table) s.begun b) (leb-true (s.made + 9) (length s.log) (not-false (has_room s.made s.log) c))))))

-- ---- delivering

version_range : (v : Version) → is_version v ≡ true → IsVersion v
version_range v h = within_range 65536 4294967295 v.0 h

module _ (inputs outputs : System) (s : State) (P : Outcome → Type 0) (n_is : inputs.count ≡ s.frame.counts.n) (d : Deliveries s P) where
  reaction_ways : (m : Message) (p : ℕ) → 1 ≤ p → P (handed_to inputs outputs m p s)
  reaction_ways m p low = d.reacts p (reacts inputs outputs m (operation_at s p)) (record {
    low = low;
    stays_ended = λ e. ap (λ (x : Operation). (reacts inputs outputs m x).next) e ∙ ended_stays inputs outputs m;
    short = λ g h. sends_nine inputs outputs m (operation_at s p) (omega arith);
    says = λ number. refuses_none inputs outputs number m (operation_at s p);
  })

  known_low : (p : ℕ) → is_known s p ≡ true → 1 ≤ p
  known_low p h = (within_range 1 s.begun p (and_parts (between 1 s.begun p) (state_fits s.frame.counts p (operation_at s p)) h).0).0

  read_short : (j p o : ℕ) (O : Output) → Short s (answers_read inputs j p s.frame.counts.n o O)
  read_short j p o O g h = cond_both (valid inputs s.frame.counts.n o O) _ (asks_all j s.frame.counts.n o O)
      (λ (new : List Message). length new ≤ 9) (λ _. omega arith)
      (λ _. let z : length (asks_all j s.frame.counts.n o O) ≤ s.frame.counts.n = each_length s.frame.counts.n _
      (λ k. cond_both (good O o k) [] _ (λ (new : List Message). length new ≤ 1) (λ _. omega arith) (λ _. omega arith)) in omega arith)

  pub receives_ways : (m : Message) → in_range m s ≡ true → P (receives inputs outputs m s)
  unfolding receives
  receives_ways (ClockQuestion p i) h = d.logs (answers_clock i p (input_at s i)) (λ _ _. omega arith)
  receives_ways (ClockAnswer i p c) h =
      let a = and_parts (numbers_fit s.frame.counts (ClockAnswer i p c)) (is_known s p && has_next_clock (operation_at s p)) h in
      reaction_ways (ClockAnswer i p c) p (known_low p (and_parts (is_known s p) (has_next_clock (operation_at s p)) a.1).0)
  receives_ways (WriteRequest p i o v x) h = d.takes i J new
      (record {
        inside = f.receiver;
        rises = write_rises s.frame.counts.m o v x (input_at s i);
        bounds = λ few b more l. more_made s.frame.lease (s.made + length new) more J l
            (write_bounds s.frame.lease s.made (length new) s.frame.counts.m o v x (input_at s i) b
            (let z = f.object in omega arith) version some);
        leases = λ _ j. let u = ap (λ (t : Time). t.0) (lease_end_write s.frame.counts.m o v x (input_at s i) j) in omega arith;
      })
      (λ g h. let z = length_write i p s.frame.counts.m o J in omega arith)
    where
      J : Input
      J = after_write s.frame.counts.m o v x (input_at s i)

      new : List Message
      new = answers_write i p s.frame.counts.m o J

      a : (numbers_fit s.frame.counts (WriteRequest p i o v x) ≡ true) × (is_known s p ≡ true)
      a = and_parts (numbers_fit s.frame.counts (WriteRequest p i o v x)) (is_known s p) h

      f : RequestFits s.frame.counts i o v
      f = fits_request s.frame.counts p i o v x a.0

      version : IsVersion v
      version = version_range v (and_parts (ltb o s.frame.counts.k) (is_version v)
          (and_parts (ltb i s.frame.counts.n) (ltb o s.frame.counts.k && is_version v) a.0).1).1

      some : 1 ≤ length new
      some = let z = length-append (invalidations i s.frame.counts.m o J) (WriteAnswer i p (record { 0 = set_of s.frame.counts.m (is_shut_out J o) }) ∷ []) in omega arith
  receives_ways (WriteAnswer i p t) h =
      let a = and_parts (numbers_fit s.frame.counts (WriteAnswer i p t)) (is_known s p) h in
      reaction_ways (WriteAnswer i p t) p (known_low p a.1)
  receives_ways (ReadRequest p j o) h = d.logs (answers_read inputs j p s.frame.counts.n o (output_at s j)) (read_short j p o (output_at s j))
  receives_ways (ReadAnswer j p v x) h =
      let a = and_parts (numbers_fit s.frame.counts (ReadAnswer j p v x)) (is_known s p) h in
      reaction_ways (ReadAnswer j p v x) p (known_low p a.1)
  receives_ways (RenewalRequest j i r) h = d.takes i (after_renewal s.frame.lease j r (input_at s i))
      (answers_renewal i s.frame.lease j r (input_at s i))
      (record {
        inside = f.input;
        rises = renewal_rises s.frame.lease j r (input_at s i);
        bounds = λ few b more l. more_made s.frame.lease s.made more (after_renewal s.frame.lease j r (input_at s i)) (omega arith)
            (renewal_bounds s.frame.lease s.made j r (input_at s i) b);
        leases = λ b k. elim (lease_end_renewal s.frame.lease j r (input_at s i) k) [
          | inl e ↦ let u = ap (λ (t : Time). t.0) e in omega arith
          | inr e ↦ omega (arith, b.lease_end k, e)
        ];
      })
      (λ _ _. omega arith)
    where
      f : RenewalFits s.frame.counts i j r
      f = fits_renewal s.frame.counts j i r (and_parts (numbers_fit s.frame.counts (RenewalRequest j i r)) true h).0
  receives_ways (RenewalAnswer i j y) h = d.hears j
      (after_answer s.frame.drift i y (output_at s j)) (acknowledgement j i y.list)
      (record {
        inside = f.output;
        rises = answer_rises s.frame.drift i y (output_at s j);
        bounds = λ b. answer_bounds s.frame.drift i y (output_at s j) b f.stamped f.short;
      })
      (λ _ _. let z = ack_length j i y.list in omega arith)
    where
      f : RenewedFits s.frame.counts i j y
      f = fits_renewed s.frame.counts i j y
          (and_parts (numbers_fit s.frame.counts (RenewalAnswer i j y)) true h).0
  receives_ways (Invalidation i j o v) h = d.hears j (after_invalidation i o v (output_at s j)) (answers_invalidation j i o v)
      (record {
        inside = (fits_invalidation s.frame.counts i j o v (and_parts (numbers_fit s.frame.counts (Invalidation i j o v)) true h).0).output;
        rises = told_rises i o v (output_at s j);
        bounds = told_bounds i o v (output_at s j);
      })
      (λ _ _. omega arith)
  receives_ways (InvalidationAnswer j i l) h = d.keeps i (acknowledges_all j (list_of l) (input_at s i))
      (record {
        inside = (fits_ack s.frame.counts j i l (and_parts (numbers_fit s.frame.counts (InvalidationAnswer j i l)) true h).0).input;
        rises = ack_rises j (list_of l) (input_at s i);
        bounds = λ few b more m. more_made s.frame.lease s.made more (acknowledges_all j (list_of l) (input_at s i)) (omega arith)
            (ack_bounds s.frame.lease s.made j (list_of l) (input_at s i) b);
        leases = λ b k. let u = ap (λ (t : Time). t.0) ((keeps_acknowledgement j (list_of l) (input_at s i)).lease_end k) in omega arith;
      })

-- ---- every call

pub call_ways : (inputs outputs : System) (s : State) (P : Outcome → Type 0) → Ways inputs outputs s P → (c : Call) → P (outcome_of inputs outputs c s)
unfolding outcome_of beginning_write beginning_read delivering
call_ways inputs outputs s P w (to_open k lease drift clocks) =
    opening_ways inputs outputs k lease drift clocks s P w.refuses (w.opens k lease drift clocks)
call_ways inputs outputs s P w (to_advance increments) = advancing_ways inputs outputs increments s P w.refuses (w.advances increments)
call_ways inputs outputs s P w (to_write o x) =
    beginning_ways inputs outputs o (asking (first_asking (s.begun + 1) o x)) (clock_questions (s.begun + 1) s.frame.counts.n) s P w.refuses
    (λ found room nine. w.begins (asking (first_asking (s.begun + 1) o x)) (clock_questions (s.begun + 1) s.frame.counts.n) found room nine
    (λ g h. let z = each_length s.frame.counts.n (λ (k : ℕ). ClockQuestion (s.begun + 1) k ∷ []) (λ k. omega arith) in omega arith))
call_ways inputs outputs s P w (to_read o) =
    beginning_ways inputs outputs o (reading (first_reading (s.begun + 1) o)) (read_requests (s.begun + 1) o s.frame.counts.m) s P w.refuses
    (λ found room nine. w.begins (reading (first_reading (s.begun + 1) o)) (read_requests (s.begun + 1) o s.frame.counts.m) found room nine
    (λ g h. let z = each_length s.frame.counts.m (λ (k : ℕ). ReadRequest (s.begun + 1) k o ∷ []) (λ k. omega arith) in omega arith))
call_ways inputs outputs s P w (to_deliver number) = later_ways inputs outputs _ s _ P w.refuses (λ found.
    row (eqb number 0 || ltb s.made number) 31 _ s _ P (λ _. w.refuses 31) (λ a.
    row (not (has_room s.made s.log)) 32 _ s _ P (λ _. w.refuses 32) (λ b.
    cond_both (in_range (message_at s number) s) (receives inputs outputs (message_at s number) s) (refuse 33 s) P
    (receives_ways inputs outputs s P found.n (w.delivers found (leb-true (s.made + 9) (length s.log) (not-false (has_room s.made s.log) b))) (message_at s number))
    (λ _. w.refuses 33))))
