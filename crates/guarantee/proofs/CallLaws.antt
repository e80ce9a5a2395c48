-- The laws of single calls and of single steps of a server.
use Rattle.std.proofs.Common.{◌≡◌, ℕ, zero, suc, ◌+◌, ◌-◌, ◌<◌, ◌≤◌, Bool, false, cond, ◌&&◌, List, [], ◌∷◌, length, get_or, take, set, sym, refl, ap, ◌∙◌, subst, inl, inr, arith, get_or-set_other}
use lib.Seq.{sets}
use Rattle.std.proofs.lemmas.Bool.{cases_eq, cond-false, lt-ltb, le-ltb, false≢true}
use Rattle.quorum.specs.declared.member_set.MemberSet.{MemberSet}
use Rattle.quorum.specs.Sets.{has, set_of}
use Rattle.rules.specs.declared.message.Message.{Message}
use Rattle.rules.specs.declared.message.Message.TheVariants.{WriteAnswer, Invalidation}
use Rattle.rules.specs.Calls.{enter, operation_at, with_operation, advanced}
use Rattle.rules.specs.Input.{Input, held, ledger, is_shut_out, invalidations, answers_write}
use Rattle.rules.specs.Operation.{Operation, unused, ended}
use Rattle.rules.specs.Output.{Output}
use Rattle.rules.specs.Reaction.{Reaction}
use Rattle.rules.specs.Said.{Said, refused, accepted, began, nothing_ended}
use Rattle.rules.specs.State.{State, no_input, no_output, input_at, output_at, post, with_input, with_output}
use Rattle.guarantee.specs.Bounds.{Bounded}
use Rattle.guarantee.specs.Laws.{AfterCalls, RefusalsAlterNothing, OperationsStay, EndedStaysEnded, MessagesStay, LoggedStaysLogged, InputRises, OutputRises, ServersRise, NothingFalls, LeasesStand, OnlyOthersAreTold, AllOthersAreTold, WriteIsAnswered, AnswerNamesShutOut, NamedIsShutOut, QueueingLeavesOthers, AcknowledgingLeavesOthers}
use Rattle.guarantee.specs.Story.{Has}
use Rattle.guarantee.proofs.WriteMoves.{names_below_write}
use Rattle.guarantee.proofs.ServerSteps.{changed, input_same, later_rises, output_same, later_output_rises, queues_leaves, acks_leaves}
use Rattle.guarantee.proofs.Sets.{has-set_of}
use Rattle.guarantee.proofs.CallCases.{InputStep, OutputStep, Reacts, NotRefused, Advanced, advances, call_ways}
use Rattle.guarantee.proofs.Traces.{in_has}
use Rattle.guarantee.proofs.Words.{never, set_from, All, Any, any_old, any_new, any_each}

-- ---- refusals

pub refusals_alter_nothing : RefusalsAlterNothing
refusals_alter_nothing inputs outputs c s = call_ways inputs outputs s (λ r. (number : ℕ) → r.said ≡ refused number → r.after ≡ s)
    (record {
      refuses = λ _ _ _. refl;
      opens = λ k lease drift clocks h number e. clash number accepted e (λ n d. never (cc));
      advances = λ increments found stays number e. clash number accepted e (λ n d. never (cc));
      begins = λ x new found room nine short number e. clash number (began (s.begun + 1)) e (λ n d. never (cc));
      delivers = λ found nine. record {
        logs = λ new short number e. clash number nothing_ended e still;
        reacts = λ p r how number e. clash number r.said e how.says;
        keeps = λ i J h number e. clash number nothing_ended e still;
        takes = λ i J new h short number e. clash number nothing_ended e still;
        hears = λ j Q new h short number e. clash number nothing_ended e still;
      };
    }) c
  where
    still : NotRefused nothing_ended
    still n d = never (cc)

    clash : {A : Type 0} (number : ℕ) (r : Said) → r ≡ refused number → NotRefused r → A
    clash number r e h = absurd (h number e)

-- ---- every call on an open field

module _ (R : State → State → Type 0) where
  -- what is to show of it
  pub record Steps (s : State) : Type 0 where
    pub still : R s s
    pub advances : (increments : List ℕ) (t : State) → Advanced increments s t → R s t
    pub begins : (x : Operation) (new : List Message) → R s (post new (enter x s))
    pub logs : (new : List Message) → R s (post new s)
    pub reacts : (p : ℕ) (r : Reaction) → Reacts s p r → R s (post r.sends (with_operation p r.next s))
    pub keeps : (i : ℕ) (J : Input) → InputStep s i J 0 → R s (with_input i J s)
    pub takes : (i : ℕ) (J : Input) (new : List Message) → InputStep s i J (length new) → R s (post new (with_input i J s))
    pub hears : (j : ℕ) (Q : Output) (new : List Message) → OutputStep s j Q → R s (post new (with_output j Q s))

  pub after_calls : ((s : State) → Steps s) → AfterCalls R
  after_calls steps inputs outputs c s is_open = call_ways inputs outputs s (λ r. R s r.after)
      (record {
        refuses = λ _. t.still;
        opens = λ k lease drift clocks h. absurd (false≢true (sym h.closed ∙ is_open));
        advances = λ increments found stays. t.advances increments (advanced increments s) (advances increments s);
        begins = λ x new found room nine short. t.begins x new;
        delivers = λ found nine. record {
          logs = λ new short. t.logs new;
          reacts = λ p r how. t.reacts p r how;
          keeps = λ i J h. t.keeps i J h;
          takes = λ i J new h short. t.takes i J new h;
          hears = λ j Q new h short. t.hears j Q new h;
        };
      }) c
    where
      t : Steps s
      t = steps s

-- ---- operations

-- another place of the table than that of p
elsewhere : (l : List Operation) (k p : ℕ) (x : Operation) → (p - 1 ≡ k → ⊥) → get_or l (p - 1) unused ≡ ended → get_or (set l k x) (p - 1) unused ≡ ended
elsewhere l k p x n h = get_or-set_other l k (p - 1) x unused n ∙ h

pub ended_stays_ended : EndedStaysEnded
ended_stays_ended = after_calls OperationsStay (λ s. record {
  still = same s s refl refl;
  advances = λ increments t r. same s t r.begun r.table;
  begins = λ x new. record {
    begun = omega arith;
    ended = λ p low high h. elsewhere s.table s.begun p x (λ e. omega arith) h;
  };
  logs = λ new. same s (post new s) refl refl;
  reacts = λ p r how. record { begun = omega arith; ended = moved s p r how };
  keeps = λ i J h. same s (with_input i J s) refl refl;
  takes = λ i J new h. same s (post new (with_input i J s)) refl refl;
  hears = λ j Q new h. same s (post new (with_output j Q s)) refl refl;
})
  where
    same : (s t : State) → t.begun ≡ s.begun → t.table ≡ s.table → OperationsStay s t
    same s t e d = record {
      begun = omega arith;
      ended = λ p low high h. ap (λ (l : List Operation). get_or l (p - 1) unused) d ∙ h;
    }

    moved : (s : State) (q : ℕ) (r : Reaction) → Reacts s q r → (p : ℕ) → 1 ≤ p → p ≤ s.begun → operation_at s p ≡ ended
        → get_or (set s.table (q - 1) r.next) (p - 1) unused ≡ ended
    moved s q r how p low high h = elim (cases_eq q p) [
      | inl e ↦ elim (set_from s.table (q - 1) (p - 1) r.next unused) [
        | inl d ↦ d ∙ h
        | inr d ↦ d.1 ∙ how.stays_ended (subst (λ (k : ℕ). operation_at s k ≡ ended) (sym e) h)
      ]
      | inr e ↦ elsewhere s.table (q - 1) p r.next (λ d. let z = how.low in e (omega arith)) h
    ]

-- ---- messages

-- what is written from place i on leaves the places before
take_set : {A : Type 0} (l : List A) (k i : ℕ) (x : A) → k ≤ i → take k (set l i x) ≡ take k l
take_set [] k i x h = refl
take_set (y ∷ l) zero i x h = take_none (set (y ∷ l) i x) ∙ sym (take_none (y ∷ l))
  where
    take_none : {A : Type 0} (l : List A) → take 0 l ≡ []
    take_none [] = refl
    take_none (y ∷ l) = refl
take_set (y ∷ l) (suc k) zero x h = absurd (omega arith)
take_set {A = A} (y ∷ l) (suc k) (suc i) x h = ap (λ (r : List A). y ∷ r) (take_set l k i x (omega arith))

take_sets : {A : Type 0} (new l : List A) (k i : ℕ) → k ≤ i → take k (sets l i new) ≡ take k l
take_sets [] l k i h = refl
take_sets (x ∷ new) l k i h = take_sets new (set l i x) k (suc i) (omega arith) ∙ take_set l k i x h

pub logged_stays_logged : LoggedStaysLogged
logged_stays_logged = after_calls MessagesStay (λ s. record {
  still = same s s refl refl;
  advances = λ increments t r. same s t r.made r.log;
  begins = λ x new. record { made = omega arith; same = take_sets new s.log s.made s.made (omega arith) };
  logs = λ new. record { made = omega arith; same = take_sets new s.log s.made s.made (omega arith) };
  reacts = λ p r how. record { made = omega arith; same = take_sets r.sends s.log s.made s.made (omega arith) };
  keeps = λ i J h. same s (with_input i J s) refl refl;
  takes = λ i J new h. record { made = omega arith; same = take_sets new s.log s.made s.made (omega arith) };
  hears = λ j Q new h. record { made = omega arith; same = take_sets new s.log s.made s.made (omega arith) };
})
  where
    same : (s t : State) → t.made ≡ s.made → t.log ≡ s.log → MessagesStay s t
    same s t e d = record { made = omega arith; same = ap (λ (l : List Message). take s.made l) d }

-- ---- what never falls

pub nothing_falls : NothingFalls
nothing_falls = after_calls ServersRise (λ s. record {
  still = same s;
  advances = λ increments t r. record {
    inputs = λ i. elim (r.input i) [
      | inl e ↦ subst (λ (I : Input). InputRises (input_at s i) I) (sym e) (input_same (input_at s i))
      | inr e ↦ subst (λ (I : Input). InputRises (input_at s i) I) (sym e.1) (later_rises (get_or increments i 0) (input_at s i))
    ];
    outputs = λ j. elim (r.output j) [
      | inl e ↦ subst (λ (O : Output). OutputRises (output_at s j) O) (sym e) (output_same (output_at s j))
      | inr e ↦ subst (λ (O : Output). OutputRises (output_at s j) O) (sym e.1)
          (later_output_rises (get_or increments (s.frame.counts.n + j) 0) (output_at s j))
    ];
  };
  begins = λ x new. record { inputs = (same s).inputs; outputs = (same s).outputs };
  logs = λ new. record { inputs = (same s).inputs; outputs = (same s).outputs };
  reacts = λ p r how. record { inputs = (same s).inputs; outputs = (same s).outputs };
  keeps = λ i J h. record {
    inputs = λ k. changed InputRises s.inputs i k J no_input input_same h.rises;
    outputs = (same s).outputs;
  };
  takes = λ i J new h. record {
    inputs = λ k. changed InputRises s.inputs i k J no_input input_same h.rises;
    outputs = (same s).outputs;
  };
  hears = λ j Q new h. record {
    inputs = (same s).inputs;
    outputs = λ k. changed OutputRises s.outputs j k Q no_output output_same h.rises;
  };
})
  where
    same : (s : State) → ServersRise s s
    same s = record { inputs = λ i. input_same (input_at s i); outputs = λ j. output_same (output_at s j) }

-- no lease of I is longer than that of J
abbrev Longer : Input → Input → Type 0
Longer I J = (j : ℕ) → (ledger I j).lease_end.0 ≤ (ledger J j).lease_end.0

pub leases_stand : LeasesStand
leases_stand = after_calls (λ s t. Bounded s → (i j : ℕ) → (ledger (input_at s i) j).lease_end.0 ≤ (ledger (input_at t i) j).lease_end.0) (λ s. record {
  still = λ _ i. same (input_at s i);
  advances = λ increments t r _ i. elim (r.input i) [
    | inl e ↦ subst (λ (I : Input). Longer (input_at s i) I) (sym e) (same (input_at s i))
    | inr e ↦ subst (λ (I : Input). Longer (input_at s i) I) (sym e.1) (same (input_at s i))
  ];
  begins = λ x new _ i. same (input_at s i);
  logs = λ new _ i. same (input_at s i);
  reacts = λ p r how _ i. same (input_at s i);
  keeps = λ i J h b k. changed Longer s.inputs i k J no_input same (h.leases (b.each_input i (below s b i h.inside)));
  takes = λ i J new h b k. changed Longer s.inputs i k J no_input same (h.leases (b.each_input i (below s b i h.inside)));
  hears = λ j Q new h _ i. same (input_at s i);
})
  where
    same : (I : Input) → Longer I I
    same I j = omega arith

    below : (s : State) → Bounded s → (i : ℕ) → i < s.frame.counts.n → i < 8
    below s b i h = let z = b.n.1 in omega arith

-- ---- who is told of a write, and who is named

-- what holds of every element holds of each
all_has : {A : Type 0} (P : A → Type 0) (l : List A) (x : A) → All P l → Has l x → P x
all_has {A = A} P l x a h = subst P h.2 (go l h.0 h.1 a)
  where
    go : (l : List A) (k : ℕ) → k < length l → All P l → P (get_or l k x)
    go [] k b a = absurd (omega arith)
    go (y ∷ l) zero b a = a.0
    go (y ∷ l) (suc k) b a = go l k (omega arith) a.1

-- of an invalidation: to whom it goes and what it carries
abbrev Told : Input → ℕ → ℕ → ℕ → Message → Type 0
Told I i m o (Invalidation k j q v) = (k ≡ i) × (j < m) × (q ≡ o) × (v ≡ (held I o).version) × (is_shut_out I o j ≡ false)
Told I i m o message = Unit {0}

pub only_others_are_told : OnlyOthersAreTold
only_others_are_told I i p m o k j q v h = all_has (Told I i m o) (answers_write i p m o I) (Invalidation k j q v)
    (names_below_write (Told I i m o) i p m o I (λ b l e. (refl, l, refl, refl, e)) tt) h

pub all_others_are_told : AllOthersAreTold
all_others_are_told I i p m o j l h = in_has x (answers_write i p m o I)
    (any_old (λ y. x ≡ y) (invalidations i m o I) _
    (any_each (λ y. x ≡ y) m (λ k. cond (is_shut_out I o k) [] (Invalidation i k o (held I o).version ∷ [])) j l
    (subst (λ (new : List Message). Any (λ y. x ≡ y) new) (sym (cond-false (is_shut_out I o j) [] (x ∷ []) h)) (inl refl))))
  where
    x : Message
    x = Invalidation i j o (held I o).version

-- of a write answer: to whom it goes and whom it names
abbrev Named : Input → ℕ → ℕ → ℕ → ℕ → Message → Type 0
Named I i p m o (WriteAnswer k q t) =
    (k ≡ i) × (q ≡ p) × ((j : ℕ) → j < m → has t.0 j ≡ is_shut_out I o j) × ((j : ℕ) → m ≤ j → has t.0 j ≡ false)
Named I i p m o message = Unit {0}

pub named_is_shut_out : NamedIsShutOut
named_is_shut_out I m o j l = has-set_of m (is_shut_out I o) j ∙ ap (λ (b : Bool). b && is_shut_out I o j) (lt-ltb j m l)

pub write_is_answered : WriteIsAnswered
write_is_answered I i p m o = (
  t,
  in_has (WriteAnswer i p t) (answers_write i p m o I)
      (any_new (λ y. WriteAnswer i p t ≡ y) (invalidations i m o I) (WriteAnswer i p t ∷ []) (inl refl)),
)
  where
    t : MemberSet
    t = record { 0 = set_of m (is_shut_out I o) }

pub answer_names_shut_out : AnswerNamesShutOut
answer_names_shut_out I i p m o k q t h = all_has (Named I i p m o) (answers_write i p m o I) (WriteAnswer k q t)
    (names_below_write (Named I i p m o) i p m o I (λ b l e. tt) (
      refl,
      refl,
      λ j l. named_is_shut_out I m o j l,
      λ j l. has-set_of m (is_shut_out I o) j ∙ ap (λ (b : Bool). b && is_shut_out I o j) (le-ltb j m l),
    )) h

-- ---- what concerns one output server alone

pub queueing_leaves_others : QueueingLeavesOthers
queueing_leaves_others = queues_leaves

pub acknowledging_leaves_others : AcknowledgingLeavesOthers
acknowledging_leaves_others = acks_leaves
