-- What a system is asked about a set that a chain gathered.
use Rattle.std.proofs.Common.{◌≡◌, ℕ, Bool, ap, ◌∙◌}
use Rattle.quorum.specs.declared.member_set.MemberSet.{MemberSet}
use Rattle.quorum.specs.Sets.{set_of}
use Rattle.quorum.specs.Systems.{System, Lawful}
use Rattle.quorum.specs.Chains.{set_by_chain}
use Rattle.operation.specs.Gathered.{gathered}

-- whether those of the system's members that pass a test are a write set
pub writes_gathered : (q : System) (test : ℕ → Bool) (n : ℕ) (s : MemberSet) (b : Bool) → Lawful q → n ≡ q.count
    → s ≡ gathered n test → b ≡ q.writes s.0 → b ≡ q.writes (set_of q.count test)
writes_gathered q test n s b lawful count e f =
    f ∙ ap (λ (t : MemberSet). q.writes t.0) (e ∙ ap (λ (k : ℕ). gathered k test) count ∙ set_by_chain q.count test lawful.few)
