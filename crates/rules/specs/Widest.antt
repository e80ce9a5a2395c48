-- What is in range in some field is in range in the widest one, of 16 objects. These are proofs:
-- the types that carry ranges give them as their laws, and such a law may cite of our files those
-- of specs/ alone.
use Rattle.std.proofs.Common.{◌≡◌, ℕ, ◌≤◌, Bool, true, false, ◌&&◌, List, [], ◌∷◌, ap, ◌∙◌, arith}
use Rattle.std.specs.Prelude.{if◌then◌else◌, nat_lt}
use Rattle.std.proofs.lemmas.Bool.{and_parts, ltb-true, lt-ltb}
use Rattle.rules.specs.declared.pairs.Pair.{Pair}
use Rattle.rules.specs.declared.pairs.Pairs.{Pairs}
use Rattle.rules.specs.declared.renewal.Renewal.{Renewal}
use Rattle.rules.specs.declared.renewal.Renewed.{Renewed}
use Rattle.rules.specs.Ranges.{pair_fits, pairs_fit, list_fits, renewal_fits, lease_fits, renewed_fits}
use Rattle.rules.specs.Renewals.{asks_volume}

both : {a b c d : Bool} → (a ≡ true → c ≡ true) → (b ≡ true → d ≡ true)
    → (a && b) ≡ true → (c && d) ≡ true
both {a} {b} {c} {d} f g h =
    let p = and_parts a b h in
    ap (λ (x : Bool). x && d) (f p.0) ∙ g p.1

module _ (k : ℕ) (few : k ≤ 16) where
  object_widens : (o : ℕ) → nat_lt o k ≡ true → nat_lt o 16 ≡ true
  object_widens o h = let l = ltb-true o k h in lt-ltb o 16 (omega arith)

  pub pair_widens : (p : Pair) → pair_fits k p ≡ true → pair_fits 16 p ≡ true
  pair_widens p = both (object_widens p.object) (λ h. h)

  pairs_widen : (ps : List Pair) → pairs_fit k ps ≡ true → pairs_fit 16 ps ≡ true
  pairs_widen [] h = h
  pairs_widen (p ∷ ps) h = both (pair_widens p) (pairs_widen ps) h

  pub list_widens : (l : Pairs) → list_fits k l ≡ true → list_fits 16 l ≡ true
  list_widens l = both (λ h. h) (pairs_widen _)

  pub renewal_widens : (r : Renewal) → renewal_fits k r ≡ true → renewal_fits 16 r ≡ true
  renewal_widens r = both (object_widens r.object) (λ h. h)

  of_part : {a b : Bool} (volume c : Bool) → (a ≡ true → b ≡ true)
      → (if volume then a else c) ≡ true → (if volume then b else c) ≡ true
  of_part true c f h = f h
  of_part false c f h = h

  lease_widens : (y : Renewed) → lease_fits k y ≡ true → lease_fits 16 y ≡ true
  lease_widens y = of_part (asks_volume y.renewal.parts) _ (both (λ h. h) (list_widens y.list))

  pub renewed_widens : (y : Renewed) → renewed_fits k y ≡ true → renewed_fits 16 y ≡ true
  renewed_widens y =
      both (renewal_widens y.renewal) (both (λ h. h) (both (λ h. h) (lease_widens y)))
