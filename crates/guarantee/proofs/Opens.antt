-- What a field that has just been opened keeps, and that nothing else can be done with a field that is not open.
use Rattle.std.proofs.Common.{◌≡◌, ℕ, zero, suc, ◌+◌, ◌<◌, ◌≤◌, Bool, true, false, cond, not, ◌&&◌, ◌||◌, eqb, ltb, ◌⊎◌, List, [], ◌∷◌, length, get_or, replicate, sym, refl, ap, ◌∙◌, subst, inl, inr, arith}
use mathlib.Core.Path.{fun_ext}
use lib.ListN.{length-replicate, get_or-replicate, get_or-eq_default}
use Rattle.std.proofs.lemmas.Bool.{cases_lt, or_parts, ltb-false, not-false, lt-ltb, le-ltb}
use Rattle.quorum.specs.Systems.{System, Lawful}
use Rattle.rules.specs.declared.kept.Copied.{Copied}
use Rattle.rules.specs.declared.kept.Held.{Held}
use Rattle.rules.specs.declared.kept.Ledger.{Ledger}
use Rattle.rules.specs.declared.kept.Link.{Link}
use Rattle.rules.specs.declared.kept.Newest.{Newest}
use Rattle.rules.specs.declared.pairs.Pair.{Pair}
use Rattle.numbers.specs.declared.time.Time.{Time}
use Rattle.rules.specs.Calls.{opening, advancing, beginning_write, beginning_read, delivering, opened, start_clock, clocks_fit}
use Rattle.rules.specs.Input.{Input, no_held, no_ledger, held, ledger, last_read, last_acknowledged, first_input}
use Rattle.rules.specs.Lists.{each}
use Rattle.numbers.specs.Numbers.{none, starting, between, longest, clock_of}
use Rattle.rules.specs.Operation.{Operation}
use Rattle.rules.specs.Output.{Output, no_newest, no_copy, no_link, newest_of, link, copy_of, first_output}
use Rattle.rules.specs.Said.{accepted}
use Rattle.rules.specs.State.{State, Outcome, outcome}
use Rattle.guarantee.specs.Story.{Call, to_open, to_advance, to_write, to_read, to_deliver, outcome_of}
use Rattle.guarantee.proofs.CallEffects.{params_of, Framed}
use Rattle.guarantee.proofs.CallSteps.{Refuses}
use Rattle.guarantee.proofs.ChannelOf.{channel_of, InputShape, OutputShape}
use Rattle.guarantee.proofs.RangeFacts.{within_range}
use Rattle.guarantee.proofs.Kept.{slow, Small, Kept}
use Rattle.guarantee.proofs.Channel.{Inv}
use Rattle.guarantee.proofs.Rows.{row, not_open}
use Rattle.guarantee.proofs.Words.{each_at, each_long}
use Rattle.guarantee.proofs.PlainState.{Params, PlainState, plain_of, op_of, plain_path}

-- a list of the same everywhere
pub same_all : {A : Type 0} (X : A → Type 0) (n : ℕ) (x d : A) → X x → X d → (i : ℕ) → X (get_or (replicate n x) i d)
same_all X zero x d h k i = k
same_all X (suc n) x d h k zero = h
same_all X (suc n) x d h k (suc i) = same_all X n x d h k i

abbrev fresh_held : Held
fresh_held = record { version = starting; value = 0; last_read = none }

module _ (t : Time) where
  abbrev I : Input
  I = first_input t

  first_held : (X : Held → Type 0) → X fresh_held → X no_held → (o : ℕ) → X (held I o)
  first_held X h k = same_all X 16 fresh_held no_held h k

  abbrev fresh_ledger : Ledger
  fresh_ledger = record { last_acknowledged = replicate 16 none; epoch = record { 0 = 1 }; lease_end = record { 0 = 0 } }

  first_ledger : (X : Ledger → Type 0) → X fresh_ledger → X no_ledger → (j : ℕ) → X (ledger I j)
  first_ledger X h k = same_all X 8 fresh_ledger no_ledger h k

  ledger_at : (j : ℕ) → j < 8 → ledger I j ≡ fresh_ledger
  ledger_at j l = get_or-replicate 8 j fresh_ledger no_ledger l

  pub first_in_shape : InputShape I
  first_in_shape = record {
    objects = length-replicate 16 fresh_held;
    ledgers = length-replicate 8 fresh_ledger;
    last_acknowledged = λ j l. ap (λ (x : Ledger). length x.last_acknowledged) (ledger_at j l) ∙ length-replicate 16 none;
    waiting = length-replicate {A = List Pair} 8 [];
  }

  pub first_given : (j o : ℕ) → last_read I j o ≡ 0
  first_given j o = first_held (λ h. h.last_read.0 ≡ 0) refl refl o

  pub first_acked : (j o : ℕ) → last_acknowledged I j o ≡ 0
  first_acked j o = first_ledger (λ l. (get_or l.last_acknowledged o none).0 ≡ 0) (same_all (λ v. v.0 ≡ 0) 16 none none refl refl o) refl j

  pub first_epoch : (j : ℕ) → j < 8 → (ledger I j).epoch.0 ≡ 1
  first_epoch j l = ap (λ (x : Ledger). x.epoch.0) (ledger_at j l)

  pub first_lc : (o : ℕ) → clock_of (held I o).version ≤ I.lc
  first_lc o = first_held (λ h. clock_of h.version ≤ 1) (omega arith) (omega arith) o

  held_at : (o : ℕ) → o < 16 → held I o ≡ fresh_held
  held_at o l = get_or-replicate 16 o fresh_held no_held l

module _ (t : Time) where
  abbrev O : Output
  O = first_output t

  abbrev fresh_link : Link
  fresh_link = record { copies = replicate 16 no_copy; epoch = record { 0 = 0 }; lease_end = record { 0 = 0 } }

  first_link : (X : Link → Type 0) → X fresh_link → X no_link → (i : ℕ) → X (link O i)
  first_link X h k = same_all X 8 fresh_link no_link h k

  pub first_copy : (X : Copied → Type 0) → X no_copy → (i o : ℕ) → X (copy_of (link O i) o)
  first_copy X h i o = first_link (λ l. X (copy_of l o)) (same_all X 16 no_copy no_copy h h o) h i

  pub first_out_shape : OutputShape O
  first_out_shape = record {
    newest = length-replicate 16 no_newest;
    links = length-replicate 8 fresh_link;
    copies = λ i l. ap (λ (x : Link). length x.copies) (get_or-replicate 8 i fresh_link no_link l) ∙ length-replicate 16 no_copy;
  }

  pub first_newest : (o : ℕ) → newest_of O o ≡ no_newest
  first_newest o = same_all (λ (n : Newest). n ≡ no_newest) 16 no_newest no_newest refl refl o

-- the channel of two servers in their first state, before any message
pub first_channel : (L R : ℕ) (t u : Time) (i j : ℕ) → j < 8 → Inv L R (channel_of (first_input t) (first_output u) i j [])
first_channel L R t u i j l = record {
  given_held = λ o. let z = first_given t j o in omega arith;
  acked_known = λ o. let z = first_acked t j o in omega arith;
  answered = λ o v h. absurd h;
  got_known = λ o. let z = first_copy u (λ c. c.got.0 ≡ 0) refl i o in omega arith;
  got_source = λ o. inl (first_copy u (λ c. c.got.0 ≡ 0) refl i o);
  copy_source = λ o. inl (first_copy u (λ c. c.epoch.0 ≡ 0) refl i o);
  lease_source = inl (first_link u (λ k. k.lease_end.0 ≡ 0) refl refl i);
  epoch_pos = let z = first_epoch t j l in omega arith;
  copy_ok = λ o v e h. absurd h;
  lease_ok = λ s l e ps h. absurd h;
  drift = λ s l e ps h. absurd h;
  asked_ok = λ s h. absurd h;
}

-- a world in its first state
abbrev pub first_world : (ℕ → Time) → (ℕ → Time) → (ℕ → Operation) → PlainState
first_world t u op = record { inp = λ i. first_input (t i); out = λ j. first_output (u j); op = op; begun = 0; sent = [] }

pub first_kept : (P : Params) → Small P → (t u : ℕ → Time) (op : ℕ → Operation) → Kept P (first_world t u op)
first_kept P small t u op = record {
  chans = λ i j k l. first_channel P.lease (slow P) (t i) (u j) i j (let z = small.m_most in omega arith);
  in_shape = λ i l. first_in_shape (t i);
  out_shape = λ j l. first_out_shape (u j);
  lc = λ i l o. first_lc (t i) o;
  held_pos = λ i o l k. let z = ap (λ (h : Held). h.version.0) (held_at (t i) o k) in omega arith;
  held_genuine = λ i o l k. inl (ap (λ (h : Held). h.version) (held_at (t i) o k), ap (λ (h : Held). h.value) (held_at (t i) o k));
  newest_genuine = λ j o l. inl (ap (λ (n : Newest). n.version.0) (first_newest (u j) o));
  msgs = tt;
  ops = λ p b. absurd (let z = b.0 in let y = b.1 in omega arith);
}

-- an opening that is accepted
pub record Opened (inputs outputs : System) (s : State) (x : Outcome) : Type 0 where
  pub is_open : x.after.frame.is_open ≡ true
  pub framed : Framed x.after
  pub small : Small (params_of inputs outputs x.after)
  pub kept : Kept (params_of inputs outputs x.after) (plain_of x.after)
  pub said : x.said ≡ accepted
  pub none_made : x.after.made ≡ 0
  pub none_begun : x.after.begun ≡ 0

module _ (inputs outputs : System) (in_lawful : Lawful inputs) (out_lawful : Lawful outputs) (s : State) where
  open_accepted : (k lease drift : ℕ) (clocks : List Time) → inputs.count ≤ 8 → outputs.count ≤ 8 → k ≤ 16
      → Opened inputs outputs s (outcome accepted (opened inputs.count outputs.count k lease drift clocks s))
  open_accepted k lease drift clocks n m few = record {
    is_open = refl;
    framed = record {
      log = refl;
      table = refl;
      made = omega arith;
      begun = omega arith;
      inputs = each_long 8 (λ i. first_input (start_clock clocks 0 inputs.count i));
      outputs = each_long 8 (λ j. first_output (start_clock clocks inputs.count outputs.count j));
    };
    small = small;
    kept = subst (Kept (params_of inputs outputs t)) (sym world) (first_kept (params_of inputs outputs t) small in_time out_time (op_of s));
    said = refl;
    none_made = refl;
    none_begun = refl;
  }
    where
      t : State
      t = opened inputs.count outputs.count k lease drift clocks s

      small : Small (params_of inputs outputs t)
      small = record { n_pos = in_lawful.some; m_pos = out_lawful.some; n_most = n; m_most = m; k_most = few; n_is = refl; m_is = refl }

      in_time : ℕ → Time
      in_time i = cond (ltb i 8) (start_clock clocks 0 inputs.count i) (record { 0 = 0 })

      out_time : ℕ → Time
      out_time j = cond (ltb j 8) (start_clock clocks inputs.count outputs.count j) (record { 0 = 0 })

      made_at : {A : Type 0} (first : Time → A) (clock : ℕ → Time) (i : ℕ)
          → get_or (each 8 (λ i. first (clock i) ∷ [])) i (first (record { 0 = 0 })) ≡ first (cond (ltb i 8) (clock i) (record { 0 = 0 }))
      made_at {A = A} first clock i = elim (cases_lt i 8) [
        | inl l ↦ each_at 8 (λ i. first (clock i)) i (first (record { 0 = 0 })) l
            ∙ ap (λ (b : Bool). first (cond b (clock i) (record { 0 = 0 }))) (sym (lt-ltb i 8 l))
        | inr l ↦ get_or-eq_default (each 8 (λ i. first (clock i) ∷ [])) (first (record { 0 = 0 })) (beyond i l)
            ∙ ap (λ (b : Bool). first (cond b (clock i) (record { 0 = 0 }))) (sym (le-ltb i 8 l))
      ]
        where
          beyond : (i : ℕ) → 8 ≤ i → length (each 8 (λ i. first (clock i) ∷ [])) ≤ i
          beyond i l = let z = each_long 8 (λ i. first (clock i)) in omega arith

      world : plain_of t ≡ first_world in_time out_time (op_of s)
      world = plain_path (fun_ext (made_at first_input (start_clock clocks 0 inputs.count))) (fun_ext (made_at first_output (start_clock clocks inputs.count outputs.count))) refl refl refl

  abbrev OpenStep : Outcome → Type 0
  OpenStep x = Refuses s x ⊎ Opened inputs outputs s x

  -- a call on a field that is not open: only an opening can be accepted
  pub closed_step : s.frame.is_open ≡ false → (c : Call) → OpenStep (outcome_of inputs outputs c s)
  unfolding outcome_of opening advancing beginning_write beginning_read delivering
  closed_step e (to_open k lease drift clocks) =
      row s.frame.is_open 1 _ s _ OpenStep (λ _. inl (1, refl))
      (λ _. row (ltb 8 inputs.count || ltb 8 outputs.count) 2 _ s _ OpenStep (λ _. inl (2, refl))
      (λ h2. row (not (between 1 16 k)) 3 _ s _ OpenStep (λ _. inl (3, refl))
      (λ h3. row (not (between 1 longest lease)) 4 _ s _ OpenStep (λ _. inl (4, refl))
      (λ _. row (ltb 999 drift) 5 _ s _ OpenStep (λ _. inl (5, refl))
      (λ _. row (not (eqb (length clocks) (inputs.count + outputs.count) && clocks_fit clocks)) 6 _ s _ OpenStep (λ _. inl (6, refl))
      (λ _. row (not (between 9 65535 (length s.log) && between 1 1024 (length s.table))) 7 _ s _ OpenStep (λ _. inl (7, refl))
      (λ _. let p = or_parts (ltb 8 inputs.count) (ltb 8 outputs.count) h2 in
      inr (open_accepted k lease drift clocks (ltb-false 8 inputs.count p.0) (ltb-false 8 outputs.count p.1) (within_range 1 16 k (not-false _ h3)).1))))))))
  closed_step e (to_advance xs) = inl (8, not_open inputs outputs _ s _ e)
  closed_step e (to_write o x) = inl (8, not_open inputs outputs _ s _ e)
  closed_step e (to_read o) = inl (8, not_open inputs outputs _ s _ e)
  closed_step e (to_deliver number) = inl (8, not_open inputs outputs _ s _ e)
