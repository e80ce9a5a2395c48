-- What an operation sends and says as it reacts, whatever the message and the operation are.
use Rattle.std.proofs.Common.{◌≡◌, ℕ, ◌≤◌, true, [], ◌∷◌, length, ap, arith}
use Rattle.std.proofs.lemmas.Bool.{cond-true}
use Rattle.quorum.specs.Systems.{System}
use Rattle.numbers.specs.declared.version.Version.{Version}
use Rattle.rules.specs.declared.message.Message.{Message}
use Rattle.rules.specs.declared.message.Message.TheVariants.{ClockAnswer, WriteRequest, WriteAnswer, ReadAnswer}
use Rattle.rules.specs.Operation.{Operation, asking, ended, Asking, gets_version, hears_clock, knows_clock}
use Rattle.rules.specs.Reaction.{Reaction, sends_version, reacts}
use Rattle.rules.specs.Said.{refused}
use Rattle.rules.proofs.Reactions.{IsAwaited, every_reaction, reacts_stays}
use Rattle.guarantee.proofs.Words.{never, All, each_all, each_nine}

-- no answer is awaited by an operation that ended
ended_awaits_none : (m : Message) → IsAwaited m ended → ⊥
ended_awaits_none (ClockAnswer i p c) h = h
ended_awaits_none (WriteAnswer i p t) h = h
ended_awaits_none (ReadAnswer j p v x) h = h
ended_awaits_none m h = h

module _ (inputs outputs : System) where
  -- it sends write requests and nothing else
  pub sends_requests : (X : Message → Type 0) → ((p i o : ℕ) (v : Version) (x : ℕ) → X (WriteRequest p i o v x))
      → (m : Message) (y : Operation) → All X (reacts inputs outputs m y).sends
  sends_requests X h = every_reaction inputs outputs (λ m y r. All X r.sends) (record {
    stays = λ m y n. tt;
    asks = λ i p c a e. tt;
    gets = λ i p c a e. let w = gets_version (hears_clock i c a) in
        each_all X inputs.count (λ k. WriteRequest w.operation k w.object w.version w.value ∷ [])
        (λ k l. (h w.operation k w.object w.version w.value, tt));
    sends = λ i p t w e. tt;
    writes = λ i p t w e. tt;
    gathers = λ j p v x r e. tt;
    reads = λ j p v x r e. tt;
  })

  -- one for each input server
  pub sends_nine : (m : Message) (y : Operation) → inputs.count ≤ 8 → length (reacts inputs outputs m y).sends ≤ 9
  sends_nine m y few = every_reaction inputs outputs (λ m y r. length r.sends ≤ 9) (record {
    stays = λ m y n. omega arith;
    asks = λ i p c a e. omega arith;
    gets = λ i p c a e. let w = gets_version (hears_clock i c a) in
        each_nine inputs.count (λ k. WriteRequest w.operation k w.object w.version w.value) few;
    sends = λ i p t w e. omega arith;
    writes = λ i p t w e. omega arith;
    gathers = λ j p v x r e. omega arith;
    reads = λ j p v x r e. omega arith;
  }) m y

  -- a write whose read set of clock answers is complete gets its version
  pub reacts_gets : (i p c : ℕ) (a : Asking) → knows_clock inputs (hears_clock i c a) ≡ true
      → reacts inputs outputs (ClockAnswer i p c) (asking a) ≡ sends_version inputs (gets_version (hears_clock i c a))
  reacts_gets i p c a e = cond-true (knows_clock inputs (hears_clock i c a)) _ _ e

  -- an operation that ended stays so
  pub ended_stays : (m : Message) → (reacts inputs outputs m ended).next ≡ ended
  ended_stays m = ap (λ (r : Reaction). r.next) (reacts_stays inputs outputs m ended (ended_awaits_none m))

  -- it says no refusal
  pub refuses_none : (number : ℕ) (m : Message) (y : Operation) → (reacts inputs outputs m y).said ≡ refused number → ⊥
  refuses_none number = every_reaction inputs outputs (λ m y r. r.said ≡ refused number → ⊥) (record {
    stays = λ m y n h. never (cc);
    asks = λ i p c a e h. never (cc);
    gets = λ i p c a e h. never (cc);
    sends = λ i p t w e h. never (cc);
    writes = λ i p t w e h. never (cc);
    gathers = λ j p v x r e h. never (cc);
    reads = λ j p v x r e h. never (cc);
  })
