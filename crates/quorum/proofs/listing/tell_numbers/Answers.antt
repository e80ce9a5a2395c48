use Rattle.std.proofs.Common.{◌∷◌, sym, ap, ◌∙◌, map-id, rules}
use Rattle.std.proofs.Output.{has_written_append, has_written_of_eq}
use Rattle.std.proofs.lemmas.Iterator.Consumers.{YieldsList-end}
use Rattle.quorum.specs.Words.{all_numbers_text}
use Rattle.quorum.proofs.listing.tell_numbers.Goals as goal

pub returns : goal.returns
returns g c = λ ns gives plain ok.
    let told = c.in-Some.first ∷ c.loop-number.yielded in
    let rest = c.into_iter-number-iterator in
    let ends = YieldsList-end {steps = g.I.Iterator.next_gives} {v = λ n. n} {s = c.args.numbers} (record { runs = gives }) told c.loop-number.number-iterator (rest.result, rw rest.ensures.into_iter_gives c.in-Some.ensures.steps, c.loop-number.yielded_by) _
    c.next-in-loop-number.new.self c.in-None.is c.next-in-loop-number.ensures.steps in
    has_written_of_eq _ _ _ _ _ (ap all_numbers_text (sym (map-id told) ∙ ends.0)) (has_written_append _ _ _ _ _ _ (search rules) (c.loop-number.invariant (search rules)))
