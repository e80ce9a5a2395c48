use Rattle.std.proofs.Common.{ℕ, ◌<◌, [], ◌∷◌, length, ap, subst, arith}
use Rattle.guarantee.proofs.Words.{each_long}
use Rattle.rules.proofs.Logging.{logs_more, logs_length}
use Rattle.rules.specs.Steps.{Logs}
use Rattle.field.proofs.open_field.OpenField.log_all.Goals as goal

pub loop-number-preserved : goal.loop-number-preserved
loop-number-preserved g c =
    let request = λ (i : ℕ). g.R.Requests.message c.args.requests.now i in
    let long = logs_length _ _ _ c.loop-number.invariant in
    let free : c.loop-number.log.made < length c.loop-number.log.messages.now =
    omega (
      arith,
      long,
      ap length c.new-log.ensures.messages,
      each_long c.loop-number.number request,
      c.loop-number.invariant.made,
      c.new-log.ensures.made,
      c.requires,
      c.loop-number-test.true,
      c.get-number-end.ensures.inside,
    ) in
    logs_more (λ i. request i ∷ []) c.loop-number.number _ _ _ c.loop-number.invariant
    (subst (λ m. Logs c.loop-number.log c.push.new.self (m ∷ [])) c.request.ensures (c.push.ensures.logged free))
