-- What `find_map` finds over a range, said of the numbers in it.
use Rattle.std.proofs.Common.{◌≡◌, ℕ, ◌+◌, ◌-◌, ◌<◌, ◌≤◌, Option, Some, None, true, refl, subst, ap, ◌∙◌, arith}
use denote.Param.Members.{Mut, Called}
use Rattle.std.specs.Option.{MatchOption, IfSome, IsSomeAnd, option_map}
use Rattle.std.specs.declared.ops.Range.{Range}
use Rattle.std.specs.Iterator.Runs.{Run, SomeRun, AllItemsGive, IsFirstToGive, CallKeepsClosure}
use Rattle.std.proofs.iter.Yields.{nat_range_steps}
use Rattle.std.proofs.iter.runs.Sources.{range_runs}

of_item : (o : Option ℕ) (P : ℕ → Type 0) (n : ℕ) → option_map (λ (y : ℕ). y) o ≡ Some n → IfSome o P → P n
of_item (Some x) P n e h = subst P (cc) h
of_item None P n e h = absurd (cc)

given : (o : Option ℕ) (P : ℕ → Type 0) → IsSomeAnd o P → IfSome o P
given (Some x) P h = h
given None P h = absurd h

module _ {F B : Type 0} {g : Mut F (ℕ × Unit {0}) (Option B)} {f : F} (keeps : CallKeepsClosure g f) (s : Range ℕ) where
  -- the item at place i of a run is s.start + i
  item : (p : Run nat_range_steps) → p.from ≡ s → (i k : ℕ) → i < p.len → s.start + i ≡ k → (P : ℕ → Type 0) → IfSome (p.at i) P → P k
  item p from i k within place P h =
      let number : p.from.start + i ≡ k = omega (arith, ap (λ (r : Range ℕ). r.start) from) in
      of_item (p.at i) P k ((range_runs p p.seen).3 i within ∙ ap Some number) h

  pub first_mapped : (r : Option B) (Yes : ℕ → B → Type 0) (No : ℕ → Type 0)
      → SomeRun nat_range_steps s (λ p. MatchOption r ((p.whole ≡ true) × AllItemsGive p g f None) (λ y. (i : ℕ) × (i < p.len) × (p.len ≡ i + 1) × IsFirstToGive p g f (Some y) None i))
      → ((x : ℕ) → Called g f (x, tt) None f → No x) → ((x : ℕ) (y : B) → Called g f (x, tt) (Some y) f → Yes x y)
      → MatchOption r ((k : ℕ) → s.start ≤ k → k < s.end → No k) (λ y. (i : ℕ) × (s.start ≤ i) × (i < s.end) × Yes i y × ((k : ℕ) → s.start ≤ k → k < i → No k))
  first_mapped None Yes No m miss hit = λ k low high.
      let start = ap (λ (r : Range ℕ). r.start) m.1 in
      let end = ap (λ (r : Range ℕ). r.end) m.1 in
      let long = (range_runs m.0 m.0.seen).1 m.2.0 in
      miss k (item m.0 m.1 (k - s.start) k (omega arith) (omega arith) (λ x. Called g f (x, tt) None f) (m.2.1 keeps (k - s.start)))
  first_mapped (Some y) Yes No m miss hit =
      let start = ap (λ (r : Range ℕ). r.start) m.1 in
      let end = ap (λ (r : Range ℕ). r.end) m.1 in
      let short = (range_runs m.0 m.0.seen).0 in
      let i : ℕ = m.2.0 in
      let within : i < m.0.len = m.2.1 in
      let gave = m.2.3 keeps in
      let Hit : ℕ → Type 0 = λ x. Called g f (x, tt) (Some y) f in
      let Miss : ℕ → Type 0 = λ x. Called g f (x, tt) None f in (
        s.start + i,
        omega arith,
        omega arith,
        hit (s.start + i) y (item m.0 m.1 i (s.start + i) within refl Hit (given (m.0.at i) Hit gave.0)),
        λ k low high. miss k (item m.0 m.1 (k - s.start) k (omega arith) (omega arith) Miss (given (m.0.at (k - s.start)) Miss (gave.1 (k - s.start) (omega arith)))),
      )
