-- A write that is taken, from what its parts leave.
use Rattle.std.proofs.Common.{◌≡◌, ℕ, zero, suc, ◌<◌, ◌≤◌, true, List, [], ◌∷◌, ◌++◌, length, Ok, sym, ap, ◌∙◌, arith, length-append}
use Rattle.std.proofs.lemmas.Bool.{cond-true, cond_both}
use Rattle.quorum.specs.declared.member_set.MemberSet.{MemberSet}
use Rattle.quorum.specs.Sets.{set_of}
use Rattle.numbers.specs.declared.version.Version.{Version}
use Rattle.rules.proofs.Logging.{logs_append, step_logs}
use Rattle.rules.specs.declared.log.Log.{Log}
use Rattle.rules.specs.declared.message.Message.{Message}
use Rattle.rules.specs.declared.message.Message.TheVariants.{WriteAnswer}
use Rattle.rules.specs.Input.{Input, is_shut_out, invalidation, invalidations, answers_write, takes_write, queues_all}
use Rattle.rules.specs.Steps.{ServerStep, step, steps, has_room, Logs}
use Rattle.input_server.specs.Epochs.{have_epochs}
use Rattle.input_server.specs.Steps.{write_step}

pub telling_one : (i o : ℕ) (I : Input) (j : ℕ) → length (invalidation i o I j) ≤ 1
telling_one i o I j = cond_both (is_shut_out I o j) [] _ (λ (l : List Message). length l ≤ 1) (λ _. omega arith) (λ _. omega arith)

-- eight output servers are told at most
told_most : (i m o : ℕ) (I : Input) → length (invalidations i m o I) ≤ m
told_most i zero o I = omega arith
told_most i (suc m) o I =
    omega (arith, told_most i m o I, telling_one i o I m, length-append (invalidations i m o I) (invalidation i o I m))

pub told_few : (i m o : ℕ) (I : Input) → m < 9 → length (invalidations i m o I) ≤ 8
told_few i m o I l = omega (arith, told_most i m o I)

pub write_answered : (i p m o : ℕ) (v : Version) (x : ℕ) (I J K : Input) (log told after : Log) (me : ℕ) (s : MemberSet)
    → has_room log.made log.messages.now ≡ true
    → have_epochs I.ledgers m ≡ true
    → J ≡ takes_write o v x I
    → K ≡ queues_all o m J
    → Logs log told (invalidations i m o K)
    → Logs told after (WriteAnswer me p s ∷ [])
    → me ≡ i
    → s.0 ≡ set_of m (is_shut_out K o)
    → write_step i p m o v x I log.made log.messages.now ≡ step (Ok tt) K after
write_answered i p m o v x I J K log told after me s r h ej ek et en em es =
    let S : Input → ServerStep Input = λ (X : Input). steps X (answers_write i p m o X) log.made log.messages.now in
    let w : WriteAnswer me p s ≡ WriteAnswer i p (record { 0 = set_of m (is_shut_out K o) }) =
    ap (λ (k : ℕ). WriteAnswer k p s) em ∙ ap (λ (n : ℕ). WriteAnswer i p (record { 0 = n })) es in
    cond-true (has_room log.made log.messages.now) _ _ r
    ∙ cond-true (have_epochs I.ledgers m) _ _ h
    ∙ ap (λ (X : Input). S (queues_all o m X)) (sym ej)
    ∙ ap S (sym ek)
    ∙ ap (λ (n : Message). steps K (invalidations i m o K ++ (n ∷ [])) log.made log.messages.now) (sym w)
    ∙ step_logs K log after _ (logs_append log told after _ _ et en)
