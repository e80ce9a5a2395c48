-- Messages logged one after the other.
use Rattle.std.proofs.Common.{◌≡◌, ℕ, suc, ◌+◌, List, [], ◌∷◌, ◌++◌, length, set, Ok, sym, refl, ap, subst, ◌∙◌, add-zero, add-one, arith, length-append}
use lib.Seq.{sets}
use lib.Seq.{length-sets}
use Rattle.rules.specs.declared.log.Log.{Log}
use Rattle.rules.specs.declared.message.Message.{Message}
use Rattle.rules.specs.Lists.{each}
use Rattle.rules.specs.Steps.{ServerStep, made_now, step, steps, Logs}

-- one run of stores after another is one run
pub sets_append : {A : Type 0} (a b l : List A) (m : ℕ) → sets (sets l m a) (m + length a) b ≡ sets l m (a ++ b)
sets_append [] b l m = ap (λ (k : ℕ). sets l k b) (add-zero m)
sets_append (x ∷ a) b l m =
    let e : m + length (x ∷ a) ≡ suc m + length a = omega arith in
    ap (λ (k : ℕ). sets (sets (set l m x) (suc m) a) k b) e ∙ sets_append a b (set l m x) (suc m)

-- one turn more of a rising loop
pub each_more : {A : Type 0} (n : ℕ) (f : ℕ → List A) → each (n + 1) f ≡ each n f ++ f n
each_more n f = ap (λ (k : ℕ). each k f) (add-one n)

-- messages logged, and then more
pub logs_append : (a b c : Log) (xs ys : List Message) → Logs a b xs → Logs b c ys → Logs a c (xs ++ ys)
logs_append a b c xs ys p q = record {
  made = omega (arith, p.made, q.made, length-append xs ys);
  messages =
      q.messages
      ∙ ap (λ (l : List Message). sets l b.made ys) p.messages
      ∙ ap (λ (k : ℕ). sets (sets a.messages.now a.made xs) k ys) p.made
      ∙ sets_append xs ys a.messages.now a.made;
  loan = q.loan ∙ p.loan;
}

-- the same in a rising loop
pub logs_more : (f : ℕ → List Message) (n : ℕ) (a b c : Log) → Logs a b (each n f) → Logs b c (f n) → Logs a c (each (n + 1) f)
logs_more f n a b c p q = subst (Logs a c) (sym (each_more n f)) (logs_append a b c (each n f) (f n) p q)

-- a log keeps its length
pub logs_length : (a b : Log) (xs : List Message) → Logs a b xs → length b.messages.now ≡ length a.messages.now
logs_length a b xs p = ap length p.messages ∙ length-sets a.messages.now a.made xs

-- nothing is logged
pub logs_none : (a : Log) → Logs a a []
logs_none a = record { made = sym (add-zero a.made); messages = refl; loan = refl }

-- what the code leaves where it logs these is the step of the rules that does
pub step_logs : {A : Type 0} (x : A) (log after : Log) (new : List Message) → Logs log after new
    → steps x new log.made log.messages.now ≡ step (Ok tt) x after
step_logs {A} x log after new p =
    ap (λ (n : ℕ). step_of n (sets log.messages.now log.made new)) (sym p.made)
    ∙ ap (step_of after.made) (sym p.messages)
  where
    step_of : ℕ → List Message → ServerStep A
    step_of n l = record { said = made_now n; server = x; log = l }
