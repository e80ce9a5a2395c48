-- One turn more of a loop that gathers a set, and its end.
use Rattle.std.proofs.Common.{◌≡◌, ℕ, ◌+◌, ◌^◌, ◌≤◌, Bool, cond, sym, ap, ◌∙◌, add-one, arith}
use lib.Bits.{bit_or}
use Rattle.quorum.specs.Sets.{set_of}

pub set_more : (f : ℕ → Bool) (i s t : ℕ) → s ≡ set_of i f → t ≡ cond (f i) (bit_or s (2 ^ i)) s → t ≡ set_of (i + 1) f
set_more f i s t a b = b ∙ ap (λ (k : ℕ). cond (f i) (bit_or k (2 ^ i)) k) a ∙ sym (ap (λ (n : ℕ). set_of n f) (add-one i))

-- a rising loop ends at its count
pub at_end : (i last n : ℕ) → last ≤ i → i ≤ last → last ≡ n → i ≡ n
at_end i last n a b e = omega arith
