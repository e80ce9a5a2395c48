-- What is in range for a field is in range for the state that is kept alone: its ranges are the widest of any field.
use Rattle.std.proofs.Common.{◌≡◌, ℕ, zero, suc, ◌^◌, ◌≤◌, Bool, true, false, cond, ◌&&◌, ◌||◌, eqb, ltb, leb, List, sym, refl, ap, ◌∙◌, subst, arith}
use Rattle.std.proofs.lemmas.Bool.{cond-true, cond-false, and_parts, eq-eqb, ltb-true, lt-ltb, le-ltb, leb-true, le-leb}
use Rattle.quorum.specs.declared.member_set.MemberSet.{MemberSet}
use Rattle.quorum.specs.Systems.{System}
use Rattle.numbers.specs.Numbers.{between, is_version}
use Rattle.rules.specs.declared.message.Message.{Message}
use Rattle.rules.specs.declared.message.Message.TheVariants.{ClockAnswer, WriteAnswer, ReadAnswer}
use Rattle.rules.specs.Operation.{Operation, unused, asking, sending, reading, ended, named_by}
use Rattle.rules.specs.Ranges.{Counts, numbers_fit, operation_fits, named_fit, state_fits, has_next_clock}
use Rattle.operation.specs.Alone.{widest, too_many, refusal_with, refusal_at}
use Rattle.field.specs.Delivered.{IsAnswerTo}
use Rattle.field.proofs.Handing.{both}
use Rattle.field.proofs.Places.{IsOf, fits_is_of}

module _ (i o : System) (c : Counts) (n_is : i.count ≡ c.n) (m_is : o.count ≡ c.m) (n_most : c.n ≤ 8) (m_most : c.m ≤ 8) (k_most : c.k ≤ 16) where
  -- ---- states

  object_fits : (b : ℕ) → ltb b c.k ≡ true → ltb b 16 ≡ true
  object_fits b h = let l = ltb-true b c.k h in lt-ltb b 16 (omega arith)

  inside_inputs : (s : ℕ) → ltb s (2 ^ c.n) ≡ true → ltb s (2 ^ i.count) ≡ true
  inside_inputs s h = ap (λ (n : ℕ). ltb s (2 ^ n)) n_is ∙ h

  inside_outputs : (s : ℕ) → ltb s (2 ^ c.m) ≡ true → ltb s (2 ^ o.count) ≡ true
  inside_outputs s h = ap (λ (n : ℕ). ltb s (2 ^ n)) m_is ∙ h

  named_fits : (j : ℕ) (named : List MemberSet) → named_fit (widest i o) j named ≡ named_fit c j named
  unfolding named_fit
  named_fits zero named = refl
  named_fits (suc j) named =
      ap (λ (b : Bool). b && cond (ltb j i.count) (ltb (named_by named j) (2 ^ o.count)) (eqb (named_by named j) 0)) (named_fits j named)
      ∙ ap (λ (n : ℕ). named_fit c j named && cond (ltb j n) (ltb (named_by named j) (2 ^ o.count)) (eqb (named_by named j) 0)) n_is
      ∙ ap (λ (m : ℕ). named_fit c j named && cond (ltb j c.n) (ltb (named_by named j) (2 ^ m)) (eqb (named_by named j) 0)) m_is

  state_fits_lem : (p : ℕ) (x : Operation) → state_fits c p x ≡ true → state_fits (widest i o) p x ≡ true
  state_fits_lem p unused h = refl
  state_fits_lem p (asking a) h =
      let f = and_parts (eqb a.operation p) _ h in
      let g = and_parts (ltb a.object c.k) _ f.1 in
      let s = and_parts (ltb a.senders (2 ^ c.n)) (leb a.clock 65535) g.1 in
      both f.0 (both (object_fits a.object g.0) (both (inside_inputs a.senders s.0) s.1))
  state_fits_lem p (sending w) h =
      let f = and_parts (eqb w.operation p) _ h in
      let g = and_parts (ltb w.object c.k) _ f.1 in
      let v = and_parts (is_version w.version) (named_fit c 8 w.named) g.1 in
      both f.0 (both (object_fits w.object g.0) (both v.0 (named_fits 8 w.named ∙ v.1)))
  state_fits_lem p (reading r) h =
      let f = and_parts (eqb r.operation p) _ h in
      let g = and_parts (ltb r.object c.k) _ f.1 in
      let s = and_parts (ltb r.senders (2 ^ c.m)) (eqb r.version.0 0 || is_version r.version) g.1 in
      both f.0 (both (object_fits r.object g.0) (both (inside_outputs r.senders s.0) s.1))
  state_fits_lem p ended h = refl

  -- ---- messages

  none : (own : ℕ) (fits room : Bool) (m : Message) → numbers_fit (widest i o) m ≡ true
      → operation_fits (λ q. eqb q own && (between 1 1024 own && fits)) (λ _. room) m ≡ true → refusal_with i o own fits room m ≡ 0
  none own fits room m a b =
      let few : too_many i o ≡ false =
      ap (λ (x : Bool). x || ltb 8 o.count) (le-ltb 8 i.count (omega arith)) ∙ le-ltb 8 o.count (omega arith) in
      cond-false (too_many i o) 2 _ few ∙ cond-true _ 0 33 (both a b)

  -- the state of operation p, begun and in range, by its own number
  own_fits : (p own begun : ℕ) (x : Operation) → own ≡ p → begun ≤ 1024 → between 1 begun p ≡ true → state_fits c p x ≡ true
      → (eqb p own && (between 1 1024 own && state_fits (widest i o) own x)) ≡ true
  own_fits p own begun x e few b h =
      let q = and_parts (leb 1 p) (leb p begun) b in
      let high = leb-true p begun q.1 in
      subst (λ (k : ℕ). (eqb p k && (between 1 1024 k && state_fits (widest i o) k x)) ≡ true) (sym e)
      (both (eq-eqb p p refl) (both (both q.0 (le-leb p 1024 (omega arith))) (state_fits_lem p x h)))

  -- any place takes a message that the state there does not refuse by its own number
  accepts : (p : ℕ) (m : Message) (x : Operation) → IsOf p x
      → ((own : ℕ) → own ≡ p → refusal_with i o own (state_fits (widest i o) own x) (has_next_clock x) m ≡ 0) → refusal_at i o x m ≡ 0
  accepts p m (asking a) is f = f a.operation is
  accepts p m (sending w) is f = f w.operation is
  accepts p m (reading r) is f = f r.operation is
  accepts p m x is f = refl

  -- the numbers of an answer
  wide : (p : ℕ) (m : Message) → IsAnswerTo p m → numbers_fit c m ≡ true → numbers_fit (widest i o) m ≡ true
  wide p (ClockAnswer k q clock) t a = ap (λ (n : ℕ). ltb k n && between 1 65534 clock) n_is ∙ a
  wide p (WriteAnswer k q s) t a = ap (λ (n : ℕ). ltb k n && ltb s.0 (2 ^ o.count)) n_is ∙ ap (λ (n : ℕ). ltb k c.n && ltb s.0 (2 ^ n)) m_is ∙ a
  wide p (ReadAnswer j q v x) t a = ap (λ (n : ℕ). ltb j n && is_version v) m_is ∙ a
  wide p m t a = absurd t

  -- the operation that it names
  names : (p : ℕ) (m : Message) (known room own : ℕ → Bool) → IsAnswerTo p m → operation_fits known room m ≡ true → (known p ≡ true → own p ≡ true)
      → operation_fits own (λ _. room p) m ≡ true
  names p (ClockAnswer k q clock) known room own t h f =
      let u = and_parts (known q) (room q) h in
      both (subst (λ (n : ℕ). own n ≡ true) (sym t) (f (subst (λ (n : ℕ). known n ≡ true) t u.0))) (subst (λ (n : ℕ). room n ≡ true) t u.1)
  names p (WriteAnswer k q s) known room own t h f = subst (λ (n : ℕ). own n ≡ true) (sym t) (f (subst (λ (n : ℕ). known n ≡ true) t h))
  names p (ReadAnswer j q v x) known room own t h f = subst (λ (n : ℕ). own n ≡ true) (sym t) (f (subst (λ (n : ℕ). known n ≡ true) t h))
  names p m known room own t h f = absurd t

  pub accepted : (begun : ℕ) → begun ≤ 1024 → (p : ℕ) (m : Message) (at : ℕ → Operation) → IsAnswerTo p m → numbers_fit c m ≡ true
      → operation_fits (λ q. between 1 begun q && state_fits c q (at q)) (λ q. has_next_clock (at q)) m ≡ true
      → (between 1 begun p && state_fits c p (at p)) ≡ true → refusal_at i o (at p) m ≡ 0
  accepted begun few p m at t a b known =
      let v = and_parts (between 1 begun p) (state_fits c p (at p)) known in
      accepts p m (at p) (fits_is_of c p (at p) v.1) (λ own e. none own _ (has_next_clock (at p)) m (wide p m t a)
      (names p m _ (λ q. has_next_clock (at q)) (λ q. eqb q own && (between 1 1024 own && state_fits (widest i o) own (at p))) t b
      (λ _. own_fits p own begun (at p) e few v.0 v.1)))
