-- The chains of waiting invalidations: what queueing and freeing keep of their bounds.
use Rattle.std.proofs.Common.{◌≡◌, ℕ, zero, suc, ◌+◌, ◌<◌, ◌≤◌, true, false, ◌&&◌, eqb, ltb, leb, List, [], ◌∷◌, length, get_or, set, sym, refl, ap, ◌∙◌, subst, inl, inr, arith, length-set}
use Rattle.std.proofs.lemmas.Bool.{cases_lt, cond_both, eqb-true, eqb-false, ne_eqb, ltb-true, or_cases, or_parts, or_from, false≢true}
use Rattle.rules.specs.declared.pairs.Pair.{Pair}
use Rattle.numbers.specs.declared.version.Version.{Version}
use Rattle.rules.specs.Input.{names, queued, freed, used, fits}
use Rattle.numbers.specs.Numbers.{records}
use Rattle.guarantee.specs.Bounds.{IsPair, ArePairs, NamesOnce, ChainBounds}
use Rattle.guarantee.proofs.Words.{set_from, set_beyond}

-- ---- a chain with a pair queued

-- an object that the chain does not name, and the pair neither, is not named
pub names_queued : (o : ℕ) (x : Pair) (c : List Pair) → names o c ≡ false → (x.object ≡ o → ⊥) → names o (queued x c) ≡ false
names_queued o x [] h n = or_from (eqb x.object o) false (ne_eqb x.object o n) refl
names_queued o x (p ∷ ps) h n =
    let b = or_parts (eqb p.object o) (names o ps) h in
    cond_both (eqb p.object x.object) (x ∷ ps) (p ∷ queued x ps) (λ (c : List Pair). names o c ≡ false)
    (λ _. or_from (eqb x.object o) (names o ps) (ne_eqb x.object o n) b.1)
    (λ _. or_from (eqb p.object o) (names o (queued x ps)) b.0 (names_queued o x ps b.1 n))

pub queued_once : (x : Pair) (c : List Pair) → NamesOnce c → NamesOnce (queued x c)
queued_once x [] h = (refl, tt)
queued_once x (p ∷ ps) h = cond_both (eqb p.object x.object) (x ∷ ps) (p ∷ queued x ps) NamesOnce
    (λ e. (subst (λ (o : ℕ). names o ps ≡ false) (eqb-true p.object x.object e) h.0, h.1))
    (λ e. (names_queued p.object x ps h.0 (λ d. eqb-false p.object x.object e (sym d)), queued_once x ps h.1))

pub queued_pairs : (x : Pair) (c : List Pair) → IsPair x → ArePairs c → ArePairs (queued x c)
queued_pairs x [] y h = (y, tt)
queued_pairs x (p ∷ ps) y h = cond_both (eqb p.object x.object) (x ∷ ps) (p ∷ queued x ps) ArePairs
    (λ _. (y, h.1)) (λ _. (h.0, queued_pairs x ps y h.1))

-- one record more, or none where the chain names the object
pub queued_length : (x : Pair) (c : List Pair) → length (queued x c) ≤ length c + 1
queued_length x [] = omega arith
queued_length x (p ∷ ps) = cond_both (eqb p.object x.object) (x ∷ ps) (p ∷ queued x ps)
    (λ (c : List Pair). length c ≤ length (p ∷ ps) + 1) (λ _. omega arith) (λ _. let r = queued_length x ps in omega arith)

pub queued_same : (x : Pair) (c : List Pair) → names x.object c ≡ true → length (queued x c) ≡ length c
queued_same x [] h = absurd (false≢true h)
queued_same x (p ∷ ps) h = cond_both (eqb p.object x.object) (x ∷ ps) (p ∷ queued x ps)
    (λ (c : List Pair). length c ≡ length (p ∷ ps)) (λ _. refl)
    (λ e. elim (or_cases (eqb p.object x.object) (names x.object ps) h) [
      | inl t ↦ absurd (false≢true (sym e ∙ t))
      | inr t ↦ ap suc (queued_same x ps t)
    ])

-- ---- a chain with an object's record freed

pub names_freed : (o q : ℕ) (v : Version) (c : List Pair) → names o c ≡ false → names o (freed q v c) ≡ false
names_freed o q v [] h = refl
names_freed o q v (p ∷ ps) h =
    let b = or_parts (eqb p.object o) (names o ps) h in
    cond_both (eqb p.object q && leb p.version.0 v.0) (freed q v ps) (p ∷ freed q v ps) (λ (c : List Pair). names o c ≡ false)
    (λ _. names_freed o q v ps b.1)
    (λ _. or_from (eqb p.object o) (names o (freed q v ps)) b.0 (names_freed o q v ps b.1))

pub freed_once : (q : ℕ) (v : Version) (c : List Pair) → NamesOnce c → NamesOnce (freed q v c)
freed_once q v [] h = tt
freed_once q v (p ∷ ps) h = cond_both (eqb p.object q && leb p.version.0 v.0) (freed q v ps) (p ∷ freed q v ps) NamesOnce
    (λ _. freed_once q v ps h.1) (λ _. (names_freed p.object q v ps h.0, freed_once q v ps h.1))

pub freed_pairs : (q : ℕ) (v : Version) (c : List Pair) → ArePairs c → ArePairs (freed q v c)
freed_pairs q v [] h = tt
freed_pairs q v (p ∷ ps) h = cond_both (eqb p.object q && leb p.version.0 v.0) (freed q v ps) (p ∷ freed q v ps) ArePairs
    (λ _. freed_pairs q v ps h.1) (λ _. (h.0, freed_pairs q v ps h.1))

pub freed_length : (q : ℕ) (v : Version) (c : List Pair) → length (freed q v c) ≤ length c
freed_length q v [] = omega arith
freed_length q v (p ∷ ps) =
    let r = freed_length q v ps in
    cond_both (eqb p.object q && leb p.version.0 v.0) (freed q v ps) (p ∷ freed q v ps)
    (λ (c : List Pair). length c ≤ length (p ∷ ps)) (λ _. omega arith) (λ _. omega arith)

-- ---- one chain changed

pub used_set : (cs : List (List Pair)) (j : ℕ) (c : List Pair) → j < length cs → used (set cs j c) + length (get_or cs j []) ≡ used cs + length c
used_set [] j c h = absurd (omega arith)
used_set (b ∷ cs) zero c h = omega arith
used_set (b ∷ cs) (suc j) c h = let r = used_set cs j c (omega arith) in omega arith

-- the chains keep their bounds if the new one does and finds its records
pub rechained : (cs : List (List Pair)) (j : ℕ) (c : List Pair) → ChainBounds cs → NamesOnce c → ArePairs c
    → used cs + length c ≤ records + length (get_or cs j []) → ChainBounds (set cs j c)
rechained cs j c b once pairs room = record {
  places = length-set cs j c ∙ b.places;
  room = elim (cases_lt j (length cs)) [
    | inl l ↦ let e = used_set cs j c l in omega arith
    | inr l ↦ subst (λ (r : List (List Pair)). used r ≤ records) (sym (set_beyond cs j c l)) b.room
  ];
  once = λ k. elim (set_from cs j k c []) [
    | inl e ↦ subst NamesOnce (sym e) (b.once k)
    | inr e ↦ subst NamesOnce (sym e.1) once
  ];
  pairs = λ k. elim (set_from cs j k c []) [
    | inl e ↦ subst ArePairs (sym e) (b.pairs k)
    | inr e ↦ subst ArePairs (sym e.1) pairs
  ];
}

-- a pair that fits is queued
pub queued_bounds : (cs : List (List Pair)) (j : ℕ) (x : Pair) → ChainBounds cs → IsPair x → fits x j cs ≡ true
    → ChainBounds (set cs j (queued x (get_or cs j [])))
queued_bounds cs j x b y h = rechained cs j (queued x (get_or cs j [])) b
    (queued_once x (get_or cs j []) (b.once j)) (queued_pairs x (get_or cs j []) y (b.pairs j))
    (elim (or_cases (names x.object (get_or cs j [])) (ltb (used cs) records) h) [
      | inl t ↦ let e = queued_same x (get_or cs j []) t in let r = b.room in omega arith
      | inr t ↦ let e = queued_length x (get_or cs j []) in let r = ltb-true (used cs) records t in omega arith
    ])

-- a chain is freed whole
pub emptied_bounds : (cs : List (List Pair)) (j : ℕ) → ChainBounds cs → ChainBounds (set cs j [])
emptied_bounds cs j b = rechained cs j [] b tt tt (let r = b.room in omega arith)

-- an object's record is freed
pub freed_bounds : (cs : List (List Pair)) (j q : ℕ) (v : Version) → ChainBounds cs → ChainBounds (set cs j (freed q v (get_or cs j [])))
freed_bounds cs j q v b = rechained cs j (freed q v (get_or cs j [])) b
    (freed_once q v (get_or cs j []) (b.once j)) (freed_pairs q v (get_or cs j []) (b.pairs j))
    (let e = freed_length q v (get_or cs j []) in let r = b.room in omega arith)
