-- What a call of the field means for every story that led to it.
use Rattle.std.specs.Prelude.{◌≡◌, ℕ, false, [], ◌∷◌, ◌++◌, length}
use Rattle.quorum.specs.Systems.{System}
use Rattle.rules.specs.Said.{Said}
use Rattle.rules.specs.State.{State}
use Rattle.guarantee.specs.Endings.{EndsWhenComplete}
use Rattle.guarantee.specs.Guarantee.{Guarantee}
use Rattle.guarantee.specs.Story.{Call, Story, before, said_at}

-- the story, and then this call
abbrev pub with_call : Story → Call → Story
with_call S c = record S { calls = S.calls ++ c ∷ [] }

-- the story is one of these two systems, from a field that is not yet open, and leads to that state
pub record LeadsTo (inputs outputs : System) (S : Story) (s : State) : Type 0 where
  pub inputs_are : S.inputs ≡ inputs
  pub outputs_are : S.outputs ≡ outputs
  pub closed : S.start.frame.is_open ≡ false
  pub leads : before S (length S.calls) ≡ s

-- The read guarantee, whole, in the contract of a call. Whatever story led to the state s that
-- the call found: that story and then this call lead to the state t that the call left, what the
-- call said is what the story's last call says, the story is guaranteed, and its operations end
-- exactly when their quorums are complete.
pub record Continues (inputs outputs : System) (c : Call) (S : Story) (said : Said) (t : State) : Type 0 where
  pub leads : LeadsTo inputs outputs (with_call S c) t
  pub says : said_at (with_call S c) (length S.calls) ≡ said
  pub guarantee : Guarantee (with_call S c)
  pub ends : (p : ℕ) → EndsWhenComplete (with_call S c) p

abbrev pub Guaranteed : System → System → Call → State → Said → State → Type 0
Guaranteed inputs outputs c s said t =
    (S : Story) → LeadsTo inputs outputs S s → Continues inputs outputs c S said t
