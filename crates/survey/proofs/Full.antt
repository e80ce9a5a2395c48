-- All the members together are in each family of a lawful system.
use Rattle.std.proofs.Common.{◌≡◌, ℕ, ◌^◌, ◌<◌, ◌≤◌, true, sym, ap, ◌∙◌, arith}
use lib.Count.{ones, ones-ones}
use Rattle.quorum.specs.Sets.{full}
use Rattle.quorum.specs.Systems.{System, Lawful}
use Rattle.quorum.specs.Members.{ones_full}
use Rattle.survey.specs.declared.losses.Family.{Family}
use Rattle.survey.specs.declared.losses.Family.TheVariants.{Read, Write}
use Rattle.survey.specs.Losses.{sets_of}
use Rattle.survey.specs.Smallest.{Smallest}

full_in : (f : Family) (q : System) → Lawful q → sets_of f q (full q.count) ≡ true
full_in Read q l = l.read_family.all
full_in Write q l = l.write_family.all

-- So they are the smallest set of a family in which each set has n members.
pub full_smallest : (f : Family) (q : System) (n s : ℕ) → Lawful q → n ≡ q.count → s ≡ full n
    → ((t : ℕ) → t < 2 ^ n → sets_of f q t ≡ true → n ≤ ones t) → Smallest (sets_of f q) q.count s
full_smallest f q n s l c all large =
    let o = ap ones all ∙ ones-ones n in
    let p : 2 ^ q.count ≡ 2 ^ n = ap (λ (m : ℕ). 2 ^ m) (sym c) in
    record {
      inside = ap (sets_of f q) all ∙ (ap (λ (m : ℕ). sets_of f q (full m)) c ∙ full_in f q l);
      fewest = λ t b e. let m : n ≤ ones t = large t (omega arith) e in omega arith;
      lowest = λ t b e same. let m : t ≡ full n = ones_full n t (omega arith) (large t (omega arith) e) in omega arith;
    }
