-- One call more at the end of a story.
use Rattle.std.proofs.Common.{◌≡◌, ℕ, zero, suc, ◌<◌, ◌≤◌, [], ◌∷◌, ◌++◌, length, sym, refl, ap, ◌∙◌, subst, arith, length-append}
use Rattle.std.proofs.lemmas.List.{get_or_append_left, get_or_push}
use Rattle.quorum.specs.Systems.{System, Lawful}
use Rattle.rules.specs.Said.{Said}
use Rattle.rules.specs.State.{State, Outcome, outcome}
use Rattle.guarantee.proofs.Endings.{operations_end_when_complete}
use Rattle.guarantee.proofs.Stories.{every_story}
use Rattle.guarantee.specs.Story.{Call, to_deliver, outcome_of, Story, call_at, before}
use Rattle.field.specs.Guaranteed.{with_call, LeadsTo, Continues, Guaranteed}

-- the calls before the last are those of the story
earlier_call : (S : Story) (c : Call) (t : ℕ) → t < length S.calls → call_at (with_call S c) t ≡ call_at S t
earlier_call S c t h = get_or_append_left S.calls (c ∷ []) (to_deliver 0) t h

last_call : (S : Story) (c : Call) → call_at (with_call S c) (length S.calls) ≡ c
last_call S c = get_or_push S.calls c (to_deliver 0) (length S.calls) refl

-- and they find the same states
same_before : (S : Story) (c : Call) (t : ℕ) → t ≤ length S.calls → before (with_call S c) t ≡ before S t
same_before S c zero h = refl
same_before S c (suc t) h =
    ap (λ (x : Call). (outcome_of S.inputs S.outputs x (before (with_call S c) t)).after) (earlier_call S c t (omega arith))
    ∙ ap (λ (s : State). (outcome_of S.inputs S.outputs (call_at S t) s).after) (same_before S c t (omega arith))

module _ (i o : System) (li : Lawful i) (lo : Lawful o) (c : Call) (s t : State) (r : Said) (does : outcome_of i o c s ≡ outcome r t) where
  module _ (S : Story) (l : LeadsTo i o S s) where
    -- what the last call does
    last_outcome : outcome_of S.inputs S.outputs (call_at (with_call S c) (length S.calls)) (before (with_call S c) (length S.calls)) ≡ outcome r t
    last_outcome =
        ap (λ (x : Call). outcome_of S.inputs S.outputs x (before (with_call S c) (length S.calls))) (last_call S c)
        ∙ ap (λ (z : State). outcome_of S.inputs S.outputs c z) (same_before S c (length S.calls) (omega arith) ∙ l.leads)
        ∙ ap (λ (a : System). outcome_of a S.outputs c s) l.inputs_are
        ∙ ap (λ (b : System). outcome_of i b c s) l.outputs_are
        ∙ does

    one_more : length (S.calls ++ c ∷ []) ≡ suc (length S.calls)
    one_more = let z = length-append S.calls (c ∷ []) in omega arith

    inputs_lawful : Lawful S.inputs
    inputs_lawful = subst Lawful (sym l.inputs_are) li

    outputs_lawful : Lawful S.outputs
    outputs_lawful = subst Lawful (sym l.outputs_are) lo

    continues_with : Continues i o c S r t
    continues_with = record {
      leads = record {
        inputs_are = l.inputs_are;
        outputs_are = l.outputs_are;
        closed = l.closed;
        leads = ap (before (with_call S c)) one_more ∙ ap (λ (x : Outcome). x.after) last_outcome;
      };
      says = ap (λ (x : Outcome). x.said) last_outcome;
      guarantee = every_story (with_call S c) inputs_lawful outputs_lawful l.closed;
      ends = operations_end_when_complete (with_call S c) inputs_lawful outputs_lawful l.closed;
    }

  pub guaranteed : Guaranteed i o c s r t
  guaranteed S l = continues_with S l
