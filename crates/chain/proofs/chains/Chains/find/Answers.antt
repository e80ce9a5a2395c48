use Rattle.std.proofs.Common.{◌∷◌, [], ◌++◌, refl, inl, inr, sym, ap, ◌∙◌, append_assoc}
use borrow.Author.Tests.{eqb-true, eqb-false}
use Rattle.chain.specs.Records.{naming}
use Rattle.chain.proofs.Lines.{naming_more}
use Rattle.chain.proofs.Meanings.{found_at}
use Rattle.chain.proofs.chains.Chains.find.Goals as goal

pub loop-entry-init : goal.loop-entry-init
unfolding naming
loop-entry-init c = record { whole = cc; last = inl (refl, refl); none = refl }

pub loop-entry-preserved : goal.loop-entry-preserved
loop-entry-preserved c =
    let i = c.loop-entry.invariant in record {
      whole = i.whole ∙ ap (λ es. c.loop-entry.yielded ++ es) c.in-Some.ensures.steps ∙ sym (append_assoc c.loop-entry.yielded (c.in-Some.entry ∷ []) _);
      last = inr (c.loop-entry.yielded, c.in-Some.entry, refl, refl);
      none = naming_more _ _ _ i.none (eqb-false c.in-Some.entry.pair.object c.args.object (sym c.if-names.ensures));
    }

pub returns-then-names : goal.returns-then-names
returns-then-names c =
    let i = c.loop-entry.invariant in
    found_at c.args.self.now c.args.output.number c.args.output.inside c.args.object c.loop-entry.before c.loop-entry.yielded (c.in-Some.entry ∷ _) (i.whole ∙ ap (λ es. c.loop-entry.yielded ++ es) c.in-Some.ensures.steps)
    i.last i.none (λ y zs e. let o = eqb-true c.in-Some.entry.pair.object c.args.object (sym c.if-names.ensures) in cc)

pub returns : goal.returns
returns c =
    let i = c.loop-entry.invariant in
    found_at c.args.self.now c.args.output.number c.args.output.inside c.args.object c.loop-entry.before c.loop-entry.yielded [] (i.whole ∙ ap (λ es. c.loop-entry.yielded ++ es) c.in-None.ensures.steps.0)
    i.last i.none (λ y zs e. cc)
