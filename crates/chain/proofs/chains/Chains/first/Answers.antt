use Rattle.std.proofs.Common.{◌≡◌, ◌+◌, zero-add, set, replicate, ◌++◌, ◌∷◌, [], List, length, refl, ap, ◌∙◌, arith, sym}
use Rattle.std.proofs.lemmas.Iterator.{YieldsList-from_take}
use Rattle.std.proofs.lemmas.Iterator.Consumers.{YieldsList-from_first, YieldsList-end}
use Rattle.std.proofs.lemmas.List.{take-map, map-id, map-append, length-append}
use Rattle.rules.specs.Lists.{no_pair, pairs}
use Rattle.rules.specs.declared.pairs.Pair.{Pair}
use Rattle.rules.specs.declared.pairs.Pairs.{Pairs}
use Rattle.rules.proofs.Logging.{sets_append}
use Rattle.chain.specs.declared.record.Entry.{Entry}
use Rattle.chain.specs.Records.{line}
use Rattle.chain.proofs.chains.Chains.first.Goals as goal

-- one more pair is shown
shows_more : (l : Pairs) (ps : List Pair) (p : Pair) → l ≡ pairs ps → record { count = l.count + 1; items = set l.items l.count p } ≡ pairs (ps ++ p ∷ [])
shows_more l ps p e =
    let n : length ps + 1 ≡ length (ps ++ p ∷ []) = sym (length-append ps (p ∷ [])) in
    let i = simp zero-add at (sets_append ps (p ∷ []) (replicate 8 no_pair) 0) in
    ap (λ m. record { count = m.count + 1; items = set m.items m.count p }) e ∙ (λ k. record { count = n k; items = i k })

pub loop-entry-preserved : goal.loop-entry-preserved
loop-entry-preserved c = record {
  shows = shows_more _ _ _ c.loop-entry.invariant.shows ∙ ap pairs (sym (map-append _ c.loop-entry.yielded (c.in-Some.entry ∷ [])));
  left = omega (arith, length-append c.loop-entry.yielded (c.in-Some.entry ∷ []), c.in-Some.ensures.steps.1);
}

pub returns : goal.returns
returns c =
    let s = c.into_iter-entry-iterator.result in
    let t = YieldsList-end (YieldsList-from_take {s = s} 8 (YieldsList-from_first (λ x. x) (λ s. line s.records.now s.here) {s = s.iter} _ refl) cc) c.loop-entry.yielded c.loop-entry.entry-iterator c.loop-entry.yielded_by _ c.next.new.self c.in-None.is c.next.ensures.steps in
    let m = take-map (λ (x : Entry). x.pair) 8 (line s.iter.records.now s.iter.here) in
    let i = map-id c.loop-entry.yielded in cc
