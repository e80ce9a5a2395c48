-- A loop that asks for asks_all makes one message a turn at most.
use Rattle.std.proofs.Common.{ℕ, ◌≤◌, List, [], length, arith}
use Rattle.std.proofs.lemmas.Bool.{cond_both}
use Rattle.rules.specs.declared.message.Message.{Message}
use Rattle.rules.specs.Output.{Output, good, asks}

pub asks_one : (j o : ℕ) (O : Output) (i : ℕ) → length (asks j o O i) ≤ 1
asks_one j o O i = cond_both (good O o i) [] _ (λ (l : List Message). length l ≤ 1) (λ _. omega arith) (λ _. omega arith)
