-- Leases run out at the output server no later than at the input server that granted them.
use Rattle.std.proofs.Common.{◌≡◌, ◌-◌, ◌≤◌, take, sym, refl, ◌∙◌, subst, inl, inr}
use Rattle.std.proofs.lemmas.Bool.{false≢true}
use Rattle.rules.specs.declared.message.Message.TheVariants.{RenewalAnswer}
use Rattle.rules.specs.Lists.{list_of}
use Rattle.numbers.specs.Numbers.{lease_end}
use Rattle.rules.specs.State.{output_at}
use Rattle.guarantee.specs.Leases.{LeasesRunOut}
use Rattle.guarantee.specs.Story.{before}
use Rattle.guarantee.proofs.CallEffects.{params_of}
use Rattle.guarantee.proofs.ChannelOf.{Says}
use Rattle.guarantee.proofs.Fence.{over}
use Rattle.guarantee.proofs.Kept.{view, Kept}
use Rattle.guarantee.proofs.Traces.{has_in, fine}
use Rattle.guarantee.proofs.Channel.{lease}
use Rattle.guarantee.proofs.Words.{in_any}
use Rattle.guarantee.proofs.PlainState.{Params, plain_of}

pub leases_run_out : LeasesRunOut
leases_run_out S il ol closed t h is_open i j i<n j<m waited y asks some sent = elim (fine (record { story = S; in_lawful = il; out_lawful = ol; closed = closed }) t h) [
  | inl f ↦ absurd (false≢true (sym f ∙ is_open))
  | inr k ↦ ends k.live.params k.live.kept
]
  where
    ends : {P : Params} → params_of S.inputs S.outputs (before S t) ≡ P → Kept P (plain_of (before S t))
        → (lease_end y.renewal.stamp.0 y.length (before S t).frame.drift).0 ≤ (output_at (before S t) j).clock.0
    ends p kept =
        let k = subst (λ (Q : Params). Kept Q (plain_of (before S t))) (sym p) kept in
        over (before S t).frame.lease (1000 - (before S t).frame.drift) (view (plain_of (before S t)) i j) (k.chans i j i<n j<m) waited
        y.renewal.stamp.0 y.length y.epoch.0 (list_of y.list)
        (in_any (Says i j (lease y.renewal.stamp.0 y.length y.epoch.0 (list_of y.list))) (RenewalAnswer i j y) (take (before S t).made (before S t).log)
        (has_in (RenewalAnswer i j y) (take (before S t).made (before S t).log) sent)
        (refl, refl, inr (asks, some, (refl, refl, refl, refl))))
