-- Lost members: which sets can be left, and whether those are sets of a family.
use Rattle.std.specs.Prelude.{◌≡◌, ℕ, ◌-◌, ◌^◌, ◌<◌, ◌≤◌, Bool, true, false, Some, None, Ok, Err, Option, Result, count_ones}
use Rattle.quorum.specs.Refusals.{number_of}
use Rattle.quorum.specs.Systems.{System}
use Rattle.quorum.specs.declared.member_set.MemberSet.{MemberSet}
use Rattle.quorum.specs.declared.refusal.Refusal.{Refusal}
use Rattle.survey.specs.declared.losses.Family.{Family}
use Rattle.survey.specs.declared.losses.Family.TheVariants.{Read, Write}
use Rattle.survey.specs.declared.losses.Finds.{Finds}
use Rattle.survey.specs.declared.losses.Finds.TheVariants.{Always, Sometimes, Never}

-- which sets are of the family
abbrev pub sets_of : Family → System → ℕ → Bool
sets_of Read q = q.reads
sets_of Write q = q.writes

-- s is a set of k of n members
pub record Of (k n s : ℕ) : Type 0 where
  pub inside : s < 2 ^ n
  pub size : count_ones s ≡ k

-- s can be what is left of n members once that many are lost; from n losses on, no member is left
abbrev pub Left : ℕ → ℕ → ℕ → Type 0
Left n lost s = Of (n - lost) n s

-- Whether what is left is in the family: whichever members are lost, for some losses and not for
-- others, or for none. The first n - lost members are a set that can be left, so no two of the
-- three hold at once.
abbrev pub FindsAfter : (ℕ → Bool) → ℕ → ℕ → Finds → Type 0
FindsAfter in_family n lost Always = (s : ℕ) → Left n lost s → in_family s ≡ true
FindsAfter in_family n lost Sometimes =
    ((s : ℕ) × Left n lost s × (in_family s ≡ true)) × ((s : ℕ) × Left n lost s × (in_family s ≡ false))
FindsAfter in_family n lost Never = (s : ℕ) → Left n lost s → in_family s ≡ false

-- the most members whose sets are all gone over
abbrev pub limit : ℕ
limit = 8

-- A system of more members than that is refused with the number 2; of any other, P holds of the
-- answer.
abbrev pub Surveyed : System → {A : Type 0} → (A → Type 0) → Result A Refusal → Type 0
Surveyed q P (Ok x) = (q.count ≤ limit) × P x
Surveyed q P (Err e) = (limit < q.count) × (number_of e ≡ 2)

-- the lowest set of k of n members that passes
abbrev pub FirstToPass : (MemberSet → Bool → Type 0) → ℕ → ℕ → Option MemberSet → Type 0
FirstToPass passes k n None = (s : ℕ) → Of k n s → passes (record { 0 = s }) false
FirstToPass passes k n (Some s) =
    Of k n s.0 × passes s true × ((t : ℕ) → t < s.0 → count_ones t ≡ k → passes (record { 0 = t }) false)
