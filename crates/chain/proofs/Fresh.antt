-- The chains at the start: all records are on the free line, in falling order.
use Rattle.std.proofs.Common.{◌≡◌, ℕ, zero, suc, ◌-◌, ◌<◌, ◌≤◌, eqb, List, [], ◌∷◌, length, get_or, replicate, sym, refl, ap, ◌∙◌, subst, inl, inr, arith}
use Rattle.std.proofs.lemmas.Bool.{ne_eqb, eq-eqb, cond-true, cond-false, cases_eq}
use Rattle.numbers.specs.Numbers.{records}
use Rattle.chain.specs.declared.record.Entry.{Entry}
use Rattle.chain.specs.Records.{blank, at, entry, Leads, count, tally, naming, total, Lines, View, WellLinked}
use Rattle.chain.specs.Waiting.{waiting_in}
use Rattle.chain.specs.declared.record.Record.{Record}
use Rattle.chain.proofs.Lines.{sealed}
use Rattle.chain.proofs.Meanings.{waiting_lines}

-- n records, from number n down
run : List Record → ℕ → List Entry
run rs zero = []
run rs (suc n) = entry rs (suc n) ∷ run rs n

length_run : (rs : List Record) (n : ℕ) → length (run rs n) ≡ n
unfolding run
length_run rs zero = refl
length_run rs (suc n) = ap suc (length_run rs n)

count_run : (rs : List Record) (x n : ℕ) → (count x (run rs n) ≤ 1) × (n < x → count x (run rs n) ≡ 0)
unfolding run count
count_run rs x zero = (omega arith, λ h. refl)
count_run rs x (suc n) =
    let r = count_run rs x n in (
      elim (cases_eq (suc n) x) [
        | inl e ↦ let z = cond-true {A = ℕ} (eqb (suc n) x) 1 0 (eq-eqb _ _ e) in omega (arith, r.1 (omega arith))
        | inr e ↦ let z = cond-false {A = ℕ} (eqb (suc n) x) 1 0 (ne_eqb _ _ e) in omega (arith, r.0)
      ],
      λ h. let z = cond-false {A = ℕ} (eqb (suc n) x) 1 0 (ne_eqb _ _ (λ e. omega arith)) in omega (arith, r.1 (omega arith)),
    )

module _ (rs : List Record) (wide : length rs ≡ records) (down : (k : ℕ) → k < records → (get_or rs k blank).next ≡ k) where
  leads_run : (n : ℕ) → n ≤ records → Leads rs n (run rs n) 0
  unfolding Leads run
  leads_run zero h = refl
  leads_run (suc n) h =
      let q : (at rs (suc n)).next ≡ n = down (suc n - 1) (omega arith) ∙ omega arith in (
        record { number = refl; some = omega arith; within = h; holds = refl },
        subst (λ k. Leads rs k (run rs n) 0) (sym q) (leads_run n (omega arith)),
      )

  fresh : View rs (replicate 8 0) records (replicate 8 []) (run rs records)
  unfolding Lines Leads tally count total naming
  fresh =
      let none : (o : ℕ) → naming o [] ≤ 1 = λ o. omega arith in
      record {
        lines = (refl, (none, (refl, (none, (refl, (none, (refl, (none, (refl, (none, (refl, (none, (refl, (none, (refl, (none, tt))))))))))))))));
        spare = leads_run records (omega arith);
        once = λ i. omega (arith, (count_run rs i records).0);
        all = omega (arith, length_run rs records);
        rows = wide;
        tops = refl;
      }

  pub fresh_chains : WellLinked rs (replicate 8 0) records × (waiting_in rs (replicate 8 0) ≡ replicate 8 [])
  fresh_chains = (sealed rs (replicate 8 0) records _ _ fresh, waiting_lines rs (replicate 8 0) records _ _ fresh)
