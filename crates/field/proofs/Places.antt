-- One place of the table: what is there, and what an answer leaves there.
use Rattle.std.proofs.Common.{◌≡◌, ℕ, ◌+◌, ◌-◌, ◌≤◌, true, [], eqb, List, map, length, get_or, set, sym, ap, ◌∙◌, arith}
use Rattle.std.proofs.lemmas.List.{get_or-map, map-set, set-get_or, set-set}
use Rattle.std.proofs.lemmas.Bool.{cond-true, and_parts, eq-eqb, eqb-true}
use Rattle.quorum.specs.Systems.{System}
use Rattle.rules.specs.declared.delivery.Delivery.{Delivery}
use Rattle.rules.specs.declared.message.Message.{Message}
use Rattle.rules.specs.Answers.{end_of}
use Rattle.rules.specs.Calls.{with_operation, handed_to}
use Rattle.rules.specs.Operation.{Operation, unused, asking, sending, reading, ended}
use Rattle.rules.specs.Ranges.{Counts, state_fits}
use Rattle.rules.specs.Reaction.{Reaction, reacts, goes_on}
use Rattle.rules.specs.Said.{nothing_ended}
use Rattle.rules.specs.State.{State, outcome, post}
use Rattle.operation.specs.declared.table.Operation as Code
use Rattle.operation.specs.Alone.{refusal_at, taken, alone}
use Rattle.operation.specs.States.{operation_of}
use Rattle.field.specs.declared.open_field.OpenField.{OpenField}
use Rattle.field.specs.MessageChecks.{place_of}
use Rattle.field.specs.Views.{state_of}

pub place_read : (table : List Code.Operation) (p : ℕ) (d : Code.Operation) → 1 ≤ p → p ≤ length table → operation_of (get_or table (p - 1) d) ≡ place_of table p
place_read table p d a b = sym (get_or-map operation_of table (p - 1) d unused (omega arith))

pub place_stored : (table : List Code.Operation) (p : ℕ) (u x : Code.Operation) → map operation_of (set (set table (p - 1) u) (p - 1) x) ≡ set (map operation_of table) (p - 1) (operation_of x)
place_stored table p u x = ap (map operation_of) (set-set table (p - 1) u x) ∙ map-set operation_of table (p - 1) x

-- the state is that of operation p, where it names one
abbrev pub IsOf : ℕ → Operation → Type 0
IsOf p unused = Unit {0}
IsOf p (asking a) = a.operation ≡ p
IsOf p (sending w) = w.operation ≡ p
IsOf p (reading r) = r.operation ≡ p
IsOf p ended = Unit {0}

pub fits_is_of : (c : Counts) (p : ℕ) (x : Operation) → state_fits c p x ≡ true → IsOf p x
fits_is_of c p unused h = tt
fits_is_of c p (asking a) h = eqb-true a.operation p (and_parts (eqb a.operation p) _ h).0
fits_is_of c p (sending w) h = eqb-true w.operation p (and_parts (eqb w.operation p) _ h).0
fits_is_of c p (reading r) h = eqb-true r.operation p (and_parts (eqb r.operation p) _ h).0
fits_is_of c p ended h = tt

-- ---- an operation that is handed a message

-- where it is not refused, the code's reaction is that of the rules
reaction_is : (i o : System) (m : Message) (x : Operation) (r : Reaction) → refusal_at i o x m ≡ 0 → alone i o m x ≡ taken r → reacts i o m x ≡ r
reaction_is i o m x r e d =
    let here : alone i o m x ≡ taken (reacts i o m x) = cond-true (eqb (refusal_at i o x m) 0) _ _ (eq-eqb (refusal_at i o x m) 0 e) in
    let both : taken (reacts i o m x) ≡ taken r = sym here ∙ d in
    cc

pub heard : (i o : System) (m : Message) (p : ℕ) (r : Reaction) (f g : OpenField) (log log' : List Message) (table : List Code.Operation) (u before after : Code.Operation) (d : Delivery)
    → refusal_at i o (place_of table p) m ≡ 0 → operation_of before ≡ place_of table p → alone i o m (operation_of before) ≡ taken r
    → operation_of after ≡ r.next → end_of d ≡ r.said → ((t : List Code.Operation) → state_of g log' t ≡ post r.sends (state_of f log t))
    → handed_to i o m p (state_of f log table) ≡ outcome (end_of d) (state_of g log' (set (set table (p - 1) u) (p - 1) after))
heard i o m p r f g log log' table u before after d accepts was does place says sends =
    let s = state_of f log table in
    let e = reaction_is i o m (place_of table p) r accepts (ap (alone i o m) (sym was) ∙ does) in
    ap (λ (z : Reaction). outcome z.said (post z.sends (with_operation p z.next s))) e
    ∙ (λ z. outcome (sym says z) (post r.sends (record s { table = (ap (set (map operation_of table) (p - 1)) (sym place) ∙ sym (place_stored table p u after)) z })))
    ∙ ap (outcome (end_of d)) (sym (sends (set (set table (p - 1) u) (p - 1) after)))

post_none : (s : State) → post [] s ≡ s
post_none s = let z : s.made + 0 ≡ s.made = omega arith in ap (λ (n : ℕ). record s { made = n }) z

-- a message that it does not wait for changes nothing
pub untouched : (i o : System) (m : Message) (p : ℕ) (f : OpenField) (log : List Message) (table : List Code.Operation)
    → reacts i o m (place_of table p) ≡ goes_on (place_of table p) → handed_to i o m p (state_of f log table) ≡ outcome nothing_ended (state_of f log table)
untouched i o m p f log table e =
    let s = state_of f log table in
    ap (λ (z : Reaction). outcome z.said (post z.sends (with_operation p z.next s))) e
    ∙ ap (λ (t : List Operation). outcome nothing_ended (post [] (record s { table = t }))) (set-get_or s.table (p - 1) unused)
    ∙ ap (outcome nothing_ended) (post_none s)
