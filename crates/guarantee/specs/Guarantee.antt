-- The read guarantee: what holds in every story, over any two quorum systems that show the laws.
use Rattle.std.specs.Prelude.{◌≡◌, ℕ, ◌<◌, ◌≤◌, false, ◌⊎◌}
use Rattle.quorum.specs.Systems.{Lawful}
use Rattle.guarantee.specs.Story.{Story, BeginsWrite, BeginsRead, BeginsAsWrite, BeginsAsRead, Sends, Gets, EndsWrite, EndsRead}

-- A read that ends has a version at least that of every write of its object that ended before the
-- read began.
abbrev pub NeverBehind : Story → Type 0
NeverBehind S =
    (o p q t u e x y z v w b : ℕ)
    → BeginsWrite S b p o x → EndsWrite S t p w y
    → BeginsRead S u q o → t < u → EndsRead S e q v z
    → w ≤ v

-- The version and the value of a read that ends are those of one write of its object that began
-- before the read ended, or they are the starting pair.
pub record Written (S : Story) (e o v z : ℕ) : Type 0 where
  pub write : ℕ
  pub begins : ℕ
  pub earlier : begins < e
  pub begun : BeginsWrite S begins write o z
  pub gets : ℕ
  pub before : gets < e
  pub got : Gets S gets write v

abbrev pub NeverInvented : Story → Type 0
NeverInvented S =
    (o q u e v z : ℕ) → BeginsRead S u q o → EndsRead S e q v z
    → ((v ≡ 65536) × (z ≡ 0)) ⊎ Written S e o v z

-- A write that begins after another write of its object ended sends a higher version, if it sends
-- one.
abbrev pub AlwaysRising : Story → Type 0
AlwaysRising S =
    (o p q t u g x y z v w b : ℕ)
    → BeginsWrite S b p o x → EndsWrite S t p w y
    → BeginsWrite S u q o z → t < u → Sends S g q v
    → w < v

-- An operation sends one version, once. The end of a write comes later than the version that it
-- gets, and gives that version and the value that was handed in.
pub record EndOf (S : Story) (t p w y : ℕ) : Type 0 where
  pub gets : ℕ
  pub earlier : gets < t
  pub got : Gets S gets p w
  pub value : (b o x : ℕ) → BeginsWrite S b p o x → y ≡ x

abbrev pub OneVersion : Story → Type 0
OneVersion S =
    ((p g h v w : ℕ) → Sends S g p v → Sends S h p w → (g ≡ h) × (v ≡ w))
    × ((p t w y : ℕ) → EndsWrite S t p w y → EndOf S t p w y)

-- What ends has begun: with one call before it, as what it ends as, and with no other call. One
-- call before number t is of this kind, no other call of the story is, and none is of the other
-- kind.
pub record BegunOnce (t : ℕ) (Kind Other : ℕ → Type 0) : Type 0 where
  pub begins : ℕ
  pub earlier : begins < t
  pub begun : Kind begins
  pub once : (u : ℕ) → Kind u → u ≡ begins
  pub never : (u : ℕ) → Other u → ⊥

abbrev pub WhatEndsHasBegun : Story → Type 0
WhatEndsHasBegun S =
    (p t v x : ℕ)
    → (EndsWrite S t p v x → BegunOnce t (λ u. BeginsAsWrite S u p) (λ u. BeginsAsRead S u p))
    × (EndsRead S t p v x → BegunOnce t (λ u. BeginsAsRead S u p) (λ u. BeginsAsWrite S u p))

pub record Guarantee (S : Story) : Type 0 where
  pub never_behind : NeverBehind S
  pub never_invented : NeverInvented S
  pub always_rising : AlwaysRising S
  pub one_version : OneVersion S
  pub begun : WhatEndsHasBegun S

-- for every story
abbrev pub EveryStory : Type 0
EveryStory =
    (S : Story) → Lawful S.inputs → Lawful S.outputs → S.start.frame.is_open ≡ false → Guarantee S
