-- A message that is handed over: all its numbers are in range, or the call refuses.
use Rattle.std.proofs.Common.{◌≡◌, Bool, true, ◌&&◌, ap, ◌∙◌}
use Rattle.std.proofs.lemmas.Bool.{cond-true}
use Rattle.quorum.specs.Systems.{System}
use Rattle.rules.specs.declared.message.Message.{Message}
use Rattle.rules.specs.Calls.{in_range, hands_over, receives}
use Rattle.rules.specs.State.{State, Outcome}

pub both : {a b : Bool} → a ≡ true → b ≡ true → (a && b) ≡ true
both {b = b} p q = ap (λ (x : Bool). x && b) p ∙ q

-- it does what the rules have it do
pub handed : (i o : System) (m : Message) (s : State) (x : Outcome) → in_range m s ≡ true → receives i o m s ≡ x → hands_over i o m s ≡ x
handed i o m s x h e = cond-true (in_range m s) _ _ h ∙ e
