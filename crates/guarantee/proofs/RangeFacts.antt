-- What is known of a message whose numbers are in range.
use Rattle.std.proofs.Common.{◌≡◌, ℕ, ◌^◌, ◌<◌, ◌≤◌, Bool, true, false, cond, ◌&&◌, eqb, ltb, leb, List, [], ◌∷◌, take, sym, refl, ◌∙◌, subst, arith}
use Rattle.std.proofs.lemmas.Bool.{and_parts, ltb-true, leb-true, eqb-true, cond-true}
use Rattle.quorum.specs.declared.member_set.MemberSet.{MemberSet}
use Rattle.rules.specs.declared.message.Message.TheVariants.{ClockQuestion, ClockAnswer, WriteRequest, WriteAnswer, ReadRequest, ReadAnswer, RenewalRequest, RenewalAnswer, Invalidation, InvalidationAnswer}
use Rattle.rules.specs.declared.pairs.Pair.{Pair}
use Rattle.rules.specs.declared.pairs.Pairs.{Pairs}
use Rattle.rules.specs.declared.renewal.Renewal.{Renewal}
use Rattle.rules.specs.declared.renewal.Renewed.{Renewed}
use Rattle.numbers.specs.declared.version.Version.{Version}
use Rattle.rules.specs.Lists.{list_of}
use Rattle.numbers.specs.Numbers.{between, is_version, last_epoch, last_time, longest, shown}
use Rattle.rules.specs.Ranges.{Counts, pair_fits, pairs_fit, list_fits, renewal_fits, copy_fits, lease_fits, renewed_fits, ends, numbers_fit}
use Rattle.rules.specs.Renewals.{asks_object, asks_volume}
use Rattle.guarantee.proofs.Words.{All}

pub is_version_lem : (v : Version) → is_version v ≡ true → 65536 ≤ v.0
is_version_lem v h = leb-true 65536 v.0 (and_parts (leb 65536 v.0) (leb v.0 4294967295) h).0

pub within_range : (low high x : ℕ) → between low high x ≡ true → (low ≤ x) × (x ≤ high)
within_range low high x h = let p = and_parts (leb low x) (leb x high) h in (leb-true low x p.0, leb-true x high p.1)

module _ (c : Counts) where
  pub fits_ends : (i j : ℕ) → ends c i j ≡ true → (i < c.n) × (j < c.m)
  fits_ends i j h = let p = and_parts (ltb i c.n) (ltb j c.m) h in (ltb-true i c.n p.0, ltb-true j c.m p.1)

  pub fits_question : (p i : ℕ) → numbers_fit c (ClockQuestion p i) ≡ true → i < c.n
  fits_question p i h = ltb-true i c.n h

  pub record ClockFits (i clock : ℕ) : Type 0 where
    pub sender : i < c.n
    pub low : 1 ≤ clock
    pub high : clock ≤ 65534

  pub fits_clock : (i p clock : ℕ) → numbers_fit c (ClockAnswer i p clock) ≡ true → ClockFits i clock
  fits_clock i p clock h =
      let a = and_parts (ltb i c.n) (between 1 65534 clock) h in
      let b = within_range 1 65534 clock a.1 in
      record { sender = ltb-true i c.n a.0; low = b.0; high = b.1 }

  pub record RequestFits (i o : ℕ) (v : Version) : Type 0 where
    pub receiver : i < c.n
    pub object : o < c.k
    pub version : 65536 ≤ v.0

  pub fits_request : (p i o : ℕ) (v : Version) (x : ℕ) → numbers_fit c (WriteRequest p i o v x) ≡ true → RequestFits i o v
  fits_request p i o v x h =
      let a = and_parts (ltb i c.n) (ltb o c.k && is_version v) h in
      let b = and_parts (ltb o c.k) (is_version v) a.1 in
      record { receiver = ltb-true i c.n a.0; object = ltb-true o c.k b.0; version = is_version_lem v b.1 }

  pub fits_answer : (i p : ℕ) (t : MemberSet) → numbers_fit c (WriteAnswer i p t) ≡ true → i < c.n
  fits_answer i p t h = ltb-true i c.n (and_parts (ltb i c.n) (ltb t.0 (2 ^ c.m)) h).0

  pub fits_read : (p j o : ℕ) → numbers_fit c (ReadRequest p j o) ≡ true → (j < c.m) × (o < c.k)
  fits_read p j o h =
      let a = and_parts (ltb j c.m) (ltb o c.k) h in (ltb-true j c.m a.0, ltb-true o c.k a.1)

  pub fits_pair : (j p : ℕ) (v : Version) (x : ℕ) → numbers_fit c (ReadAnswer j p v x) ≡ true → (j < c.m) × (65536 ≤ v.0)
  fits_pair j p v x h = let a = and_parts (ltb j c.m) (is_version v) h in (ltb-true j c.m a.0, is_version_lem v a.1)

  pub record RenewalFits (i j : ℕ) (r : Renewal) : Type 0 where
    pub input : i < c.n
    pub output : j < c.m
    pub object : r.object < c.k

  pub fits_renewal : (j i : ℕ) (r : Renewal) → numbers_fit c (RenewalRequest j i r) ≡ true → RenewalFits i j r
  fits_renewal j i r h =
      let p = and_parts (ends c i j) (renewal_fits c.k r) h in
      let q = and_parts (ltb r.object c.k) (leb r.stamp.0 last_time) p.1 in
      let e = fits_ends i j p.0 in
      record { input = e.0; output = e.1; object = ltb-true r.object c.k q.0 }

  pub objects_fit : (ps : List Pair) → pairs_fit c.k ps ≡ true → All (λ (p : Pair). p.object < c.k) ps
  objects_fit [] h = tt
  objects_fit (x ∷ ps) h =
      let a = and_parts (pair_fits c.k x) (pairs_fit c.k ps) h in
      (ltb-true x.object c.k (and_parts (ltb x.object c.k) (is_version x.version) a.0).0, objects_fit ps a.1)

  pub fits_list : (l : Pairs) → list_fits c.k l ≡ true → All (λ (p : Pair). p.object < c.k) (list_of l)
  fits_list l h = objects_fit (list_of l) (and_parts (leb l.count shown) (pairs_fit c.k (list_of l)) h).1

  pub record RenewedFits (i j : ℕ) (y : Renewed) : Type 0 where
    pub input : i < c.n
    pub output : j < c.m
    pub object : y.renewal.object < c.k
    pub epoch : (1 ≤ y.epoch.0) × (y.epoch.0 ≤ last_epoch)
    pub stamped : y.renewal.stamp.0 ≤ last_time
    pub version : asks_object y.renewal.parts ≡ true → 65536 ≤ y.version.0
    pub short : y.length ≤ longest
    pub objects : All (λ (p : Pair). p.object < c.k) (list_of y.list)

  pub fits_renewed : (i j : ℕ) (y : Renewed) → numbers_fit c (RenewalAnswer i j y) ≡ true → RenewedFits i j y
  fits_renewed i j y h =
      let p = and_parts (ends c i j) (renewed_fits c.k y) h in
      let q = and_parts (renewal_fits c.k y.renewal) _ p.1 in
      let r = and_parts (ltb y.renewal.object c.k) (leb y.renewal.stamp.0 last_time) q.0 in
      let s = and_parts (between 1 last_epoch y.epoch.0) _ q.1 in
      let t = and_parts (copy_fits y) (lease_fits c.k y) s.1 in
      let f = fits_ends i j p.0 in
      let g = volume (asks_volume y.renewal.parts) refl t.1 in
      record {
        input = f.0;
        output = f.1;
        object = ltb-true y.renewal.object c.k r.0;
        epoch = within_range 1 last_epoch y.epoch.0 s.0;
        stamped = leb-true y.renewal.stamp.0 last_time r.1;
        version = λ b. is_version_lem y.version (sym (cond-true (asks_object y.renewal.parts) (is_version y.version) (eqb y.version.0 0 && eqb y.value 0) b) ∙ t.0);
        short = g.0;
        objects = g.1;
      }
    where
      volume : (b : Bool) → asks_volume y.renewal.parts ≡ b → cond b (leb y.length longest && list_fits c.k y.list) (eqb y.length 0 && eqb y.list.count 0) ≡ true
          → (y.length ≤ longest) × All (λ (p : Pair). p.object < c.k) (list_of y.list)
      volume true e h =
          let z = and_parts (leb y.length longest) (list_fits c.k y.list) h in (leb-true y.length longest z.0, fits_list y.list z.1)
      volume false e h =
          let z = and_parts (eqb y.length 0) (eqb y.list.count 0) h in (
            omega (arith, eqb-true y.length 0 z.0),
            subst (λ (n : ℕ). All (λ (p : Pair). p.object < c.k) (take n y.list.items)) (sym (eqb-true y.list.count 0 z.1)) tt,
          )

  pub record InvalidationFits (i j o : ℕ) (v : Version) : Type 0 where
    pub input : i < c.n
    pub output : j < c.m
    pub object : o < c.k
    pub version : 65536 ≤ v.0

  pub fits_invalidation : (i j o : ℕ) (v : Version) → numbers_fit c (Invalidation i j o v) ≡ true → InvalidationFits i j o v
  fits_invalidation i j o v h =
      let p = and_parts (ends c i j) (ltb o c.k && is_version v) h in
      let q = and_parts (ltb o c.k) (is_version v) p.1 in
      let e = fits_ends i j p.0 in
      record { input = e.0; output = e.1; object = ltb-true o c.k q.0; version = is_version_lem v q.1 }

  pub record AckFits (i j : ℕ) (l : Pairs) : Type 0 where
    pub input : i < c.n
    pub output : j < c.m
    pub objects : All (λ (p : Pair). p.object < c.k) (list_of l)

  pub fits_ack : (j i : ℕ) (l : Pairs) → numbers_fit c (InvalidationAnswer j i l) ≡ true → AckFits i j l
  fits_ack j i l h =
      let p = and_parts (ends c i j) (list_fits c.k l) h in
      let e = fits_ends i j p.0 in
      record { input = e.0; output = e.1; objects = fits_list l p.1 }
