-- What each step of a server keeps of its bounds, and what it never lets fall.
use Rattle.std.proofs.Common.{◌≡◌, ℕ, zero, suc, ◌+◌, ◌-◌, ◌*◌, ◌<◌, ◌≤◌, max, cond, ltb, List, [], ◌∷◌, get_or, set, sym, refl, ap, subst, inl, inr, mul-le-mul_left, arith, get_or-set_other}
use Rattle.std.proofs.lemmas.Bool.{cond_both, ltb-true}
use Rattle.numbers.specs.declared.epoch.Epoch.{Epoch}
use Rattle.rules.specs.declared.kept.Copied.{Copied}
use Rattle.rules.specs.declared.kept.Held.{Held}
use Rattle.rules.specs.declared.kept.Link.{Link}
use Rattle.rules.specs.declared.kept.Newest.{Newest}
use Rattle.rules.specs.declared.renewal.Renewal.{Renewal}
use Rattle.rules.specs.declared.renewal.Renewed.{Renewed}
use Rattle.rules.specs.declared.pairs.Pair.{Pair}
use Rattle.numbers.specs.declared.time.Time.{Time}
use Rattle.numbers.specs.declared.version.Version.{Version}
use Rattle.rules.specs.Input.{Input, no_held, no_ledger, held, ledger, chain, queued, fits, owed, with_chain, takes_write, queues_for, queues_all, after_write, after_renewal, acknowledges, acknowledges_all, later_input}
use Rattle.numbers.specs.Numbers.{none, raised, clock_of, later, lease_end, last_time, longest}
use Rattle.rules.specs.Output.{Output, no_copy, no_link, link, copy_of, with_copy, hears, hears_all, accepts, takes_copy, takes_lease, after_answer, after_invalidation, later_output}
use Rattle.rules.specs.Lists.{list_of}
use Rattle.rules.specs.Renewals.{asks_volume}
use Rattle.guarantee.specs.Bounds.{IsBetween, IsVersion, IsPair, ChainBounds, InputBounds, OutputBounds}
use Rattle.guarantee.specs.Laws.{InputRises, OutputRises, LeavesOthers}
use Rattle.guarantee.proofs.ChannelOf.{InputShape, OutputShape}
use Rattle.guarantee.proofs.WriteMoves as Writes
use Rattle.guarantee.proofs.RenewalMoves as Renewals
use Rattle.guarantee.proofs.AcknowledgementMoves as Acks
use Rattle.guarantee.proofs.WriteMoves.{pair_of, swept, took}
use Rattle.guarantee.proofs.OutputMoves as Outs
use Rattle.guarantee.proofs.Waiting.{queued_bounds, emptied_bounds, freed_bounds}
use Rattle.guarantee.proofs.Words.{set_from}

-- ---- a list changed at one place

-- what holds of an element that stays and of the one that changed holds of every place
pub changed : {A : Type 0} (P : A → A → Type 0) (l : List A) (a i : ℕ) (k d : A) → ((x : A) → P x x) → P (get_or l a d) k
    → P (get_or l i d) (get_or (set l a k) i d)
changed {A = A} P l a i k d same new = elim (set_from l a i k d) [
  | inl e ↦ subst (λ (x : A). P (get_or l i d) x) (sym e) (same (get_or l i d))
  | inr h ↦ subst (λ (x : A). P (get_or l i d) x) (sym h.1) (subst (λ (c : ℕ). P (get_or l c d) k) h.0 new)
]

-- ---- input servers: bounds

pub shape_in : (lease made : ℕ) (I : Input) → InputBounds lease made I → InputShape I
shape_in lease made I b = record { objects = b.objects; ledgers = b.ledgers; last_acknowledged = b.last_acknowledged; waiting = b.chains.places }

-- more messages leave more room
pub more_made : (lease made more : ℕ) (I : Input) → made ≤ more → InputBounds lease made I → InputBounds lease more I
more_made lease made more I h b = record {
  objects = b.objects;
  ledgers = b.ledgers;
  last_acknowledged = b.last_acknowledged;
  clock = b.clock;
  highest = b.highest;
  version = b.version;
  epoch = λ j l. let e = b.epoch j l in (e.0, omega (arith, e.1));
  lease_end = b.lease_end;
  chains = b.chains;
}

-- queueing o for j keeps the chains' bounds
pub queues_chains : (o j : ℕ) (I : Input) → ChainBounds I.waiting → IsPair (pair_of o I) → ChainBounds (queues_for o j I).waiting
unfolding queues_for
queues_chains o j I b y = cond_both (owed I o j)
    (cond (fits (pair_of o I) j I.waiting)
    (with_chain j (queued (pair_of o I) (chain I j)) (ledger I j).epoch I) (with_chain j [] (record { 0 = (ledger I j).epoch.0 + 1 }) I))
    I (λ (J : Input). ChainBounds J.waiting)
    (λ _. cond_both (fits (pair_of o I) j I.waiting)
    (with_chain j (queued (pair_of o I) (chain I j)) (ledger I j).epoch I) (with_chain j [] (record { 0 = (ledger I j).epoch.0 + 1 }) I)
    (λ (J : Input). ChainBounds J.waiting)
    (λ e. queued_bounds I.waiting j (pair_of o I) b y e) (λ _. emptied_bounds I.waiting j b))
    (λ _. b)

pub sweeps_chains : (o m : ℕ) (I : Input) → ChainBounds I.waiting → IsPair (pair_of o I) → ChainBounds (queues_all o m I).waiting
unfolding queues_all
sweeps_chains o zero I b y = b
sweeps_chains o (suc m) I b y = queues_chains o m (queues_all o m I) (sweeps_chains o m I b y)
    (subst (λ (l : List Held). IsPair (record { object = o; version = (get_or l o no_held).version })) (sym (swept o m I).objects) y)

-- the highest clock that a write leaves
pub took_lc : (o : ℕ) (v : Version) (x : ℕ) (I : Input) → IsVersion v → IsBetween 1 65535 I.lc → IsBetween 1 65535 (takes_write o v x I).lc
unfolding takes_write
took_lc o v x I y h = cond_both (ltb (held I o).version.0 v.0)
    (record {
      clock = I.clock;
      lc = max I.lc (clock_of v);
      objects = set I.objects o (record { version = v; value = x; last_read = (held I o).last_read });
      ledgers = I.ledgers;
      waiting = I.waiting;
    })
    I (λ (J : Input). IsBetween 1 65535 J.lc)
    (λ _. let a = h.0 in let b = h.1 in let c = y.1 in (omega arith, omega arith)) (λ _. h)

pub lc_bound : (m o : ℕ) (v : Version) (x : ℕ) (I : Input) → IsVersion v → IsBetween 1 65535 I.lc → IsBetween 1 65535 (after_write m o v x I).lc
lc_bound m o v x I y h = subst (λ (n : ℕ). IsBetween 1 65535 n) (sym (swept o m (takes_write o v x I)).lc) (took_lc o v x I y h)

-- each version held is as it was, or is the one written
pub version_bound : (m o : ℕ) (v : Version) (x : ℕ) (I : Input) → IsVersion v → ((p : ℕ) → p < 16 → IsVersion (held I p).version)
    → (p : ℕ) → p < 16 → IsVersion (held (after_write m o v x I) p).version
version_bound m o v x I y h p l = elim (Writes.held_write m o v x I p) [
  | inl e ↦ subst IsVersion (sym e.0) (h p l)
  | inr e ↦ subst IsVersion (sym e.1) y
]

pub write_bounds : (lease made count m o : ℕ) (v : Version) (x : ℕ) (I : Input) → InputBounds lease made I → o < 16 → IsVersion v → 1 ≤ count
    → InputBounds lease (made + count) (after_write m o v x I)
write_bounds lease made count m o v x I b l y some =
    let s = Writes.shape_write m o v x I (shape_in lease made I b) in
    let c = ap (λ (t : Time). t.0) (Writes.clock_write m o v x I) in
    record {
      objects = s.objects;
      ledgers = s.ledgers;
      last_acknowledged = s.last_acknowledged;
      clock = let z = b.clock in omega arith;
      highest = lc_bound m o v x I y b.highest;
      version = version_bound m o v x I y b.version;
      epoch = λ j few. let e = Writes.epoch_write m o v x I j in let d = b.epoch j few in
          (omega (arith, e.0, d.0), omega (arith, e.1, d.1));
      lease_end = λ j. let u = ap (λ (t : Time). t.0) (Writes.lease_end_write m o v x I j) in omega (arith, b.lease_end j);
      chains = sweeps_chains o m (takes_write o v x I)
          (subst ChainBounds (sym (took o v x I).waiting) b.chains)
          (l, subst (λ (w : Version). IsVersion w) (same_version) (version_bound m o v x I y b.version o l));
    }
  where
    same_version : (held (after_write m o v x I) o).version ≡ (held (takes_write o v x I) o).version
    same_version = ap (λ (r : List Held). (get_or r o no_held).version) (swept o m (takes_write o v x I)).objects

pub renewal_bounds : (lease made b : ℕ) (r : Renewal) (I : Input) → InputBounds lease made I → InputBounds lease made (after_renewal lease b r I)
renewal_bounds lease made b r I h =
    let s = Renewals.shape_renewal lease b r I (shape_in lease made I h) in
    record {
      objects = s.objects;
      ledgers = s.ledgers;
      last_acknowledged = s.last_acknowledged;
      clock = h.clock;
      highest = h.highest;
      version = λ p l. subst IsVersion (sym (Renewals.held_renewal lease b r I p).0) (h.version p l);
      epoch = λ j l. subst (λ (e : Epoch). IsBetween 1 (made + 1) e.0) (sym (Renewals.epoch_renewal lease b r I j)) (h.epoch j l);
      lease_end = λ j. elim (Renewals.lease_end_renewal lease b r I j) [
        | inl e ↦ let u = ap (λ (t : Time). t.0) e in omega (arith, h.lease_end j)
        | inr e ↦ omega (arith, e)
      ];
      chains = h.chains;
    }

pub acks_chains : (b : ℕ) (ps : List Pair) (I : Input) → ChainBounds I.waiting → ChainBounds (acknowledges_all b ps I).waiting
unfolding acknowledges_all
acks_chains b [] I h = h
acks_chains b (x ∷ xs) I h = acks_chains b xs (acknowledges b x I)
    (freed_bounds I.waiting b x.object (raised (get_or (ledger I b).last_acknowledged x.object none) x.version) h)

pub ack_bounds : (lease made b : ℕ) (ps : List Pair) (I : Input) → InputBounds lease made I → InputBounds lease made (acknowledges_all b ps I)
ack_bounds lease made b ps I h =
    let s = Acks.shape_acknowledgement b ps I (shape_in lease made I h) in
    let t = Acks.keeps_acknowledgement b ps I in
    let c = ap (λ (t : Time). t.0) t.clock in
    record {
      objects = s.objects;
      ledgers = s.ledgers;
      last_acknowledged = s.last_acknowledged;
      clock = let z = h.clock in omega arith;
      highest = subst (λ (n : ℕ). IsBetween 1 65535 n) (sym t.lc) h.highest;
      version = λ p l. subst (λ (y : Held). IsVersion y.version) (sym (Acks.held_acknowledgement b ps I p)) (h.version p l);
      epoch = λ j l. subst (λ (e : Epoch). IsBetween 1 (made + 1) e.0) (sym (t.epoch j)) (h.epoch j l);
      lease_end = λ j. let u = ap (λ (t : Time). t.0) (t.lease_end j) in omega (arith, h.lease_end j);
      chains = acks_chains b ps I h.chains;
    }

pub later_bounds : (lease made x : ℕ) (I : Input) → InputBounds lease made I → I.clock.0 + x ≤ last_time → InputBounds lease made (later_input x I)
later_bounds lease made x I h l = record {
  objects = h.objects;
  ledgers = h.ledgers;
  last_acknowledged = h.last_acknowledged;
  clock = l;
  highest = h.highest;
  version = h.version;
  epoch = h.epoch;
  lease_end = λ j. omega (arith, h.lease_end j);
  chains = h.chains;
}

-- ---- input servers: what never falls

pub input_same : (I : Input) → InputRises I I
input_same I = record { clock = omega arith; highest = omega arith; held = λ o. omega arith; last_acknowledged = λ j o. omega arith; epoch = λ j. omega arith }

pub input_then : (I J K : Input) → InputRises I J → InputRises J K → InputRises I K
input_then I J K a b = record {
  clock = omega (arith, a.clock, b.clock);
  highest = omega (arith, a.highest, b.highest);
  held = λ o. omega (arith, a.held o, b.held o);
  last_acknowledged = λ j o. omega (arith, a.last_acknowledged j o, b.last_acknowledged j o);
  epoch = λ j. omega (arith, a.epoch j, b.epoch j);
}

pub write_rises : (m o : ℕ) (v : Version) (x : ℕ) (I : Input) → InputRises I (after_write m o v x I)
write_rises m o v x I = record {
  clock = let c = ap (λ (t : Time). t.0) (Writes.clock_write m o v x I) in omega arith;
  highest = (Writes.lc_write m o v x I).0;
  held = Writes.up_write m o v x I;
  last_acknowledged = λ j p. omega (arith, Writes.acknowledged_write m o v x I j p);
  epoch = λ j. (Writes.epoch_write m o v x I j).0;
}

pub renewal_rises : (lease b : ℕ) (r : Renewal) (I : Input) → InputRises I (after_renewal lease b r I)
renewal_rises lease b r I = record {
  clock = omega arith;
  highest = omega arith;
  held = λ p. let e = ap (λ (w : Version). w.0) (Renewals.held_renewal lease b r I p).0 in omega arith;
  last_acknowledged = λ j p. omega (arith, Renewals.acknowledged_renewal lease b r I j p);
  epoch = λ j. let e = ap (λ (d : Epoch). d.0) (Renewals.epoch_renewal lease b r I j) in omega arith;
}

pub ack_rises : (b : ℕ) (ps : List Pair) (I : Input) → InputRises I (acknowledges_all b ps I)
ack_rises b ps I = let t = Acks.keeps_acknowledgement b ps I in record {
  clock = let c = ap (λ (x : Time). x.0) t.clock in omega arith;
  highest = omega (arith, t.lc);
  held = λ p. let e = ap (λ (h : Held). h.version.0) (Acks.held_acknowledgement b ps I p) in omega arith;
  last_acknowledged = t.acknowledged_up;
  epoch = λ j. let e = ap (λ (d : Epoch). d.0) (t.epoch j) in omega arith;
}

pub later_rises : (x : ℕ) (I : Input) → InputRises I (later_input x I)
later_rises x I = record { clock = omega arith; highest = omega arith; held = λ o. omega arith; last_acknowledged = λ j o. omega arith; epoch = λ j. omega arith }

-- ---- input servers: what concerns one output server alone

pub queues_leaves : (o b : ℕ) (I : Input) → LeavesOthers b I (queues_for o b I)
unfolding queues_for
queues_leaves o b I = cond_both (owed I o b)
    (cond (fits (pair_of o I) b I.waiting)
    (with_chain b (queued (pair_of o I) (chain I b)) (ledger I b).epoch I) (with_chain b [] (record { 0 = (ledger I b).epoch.0 + 1 }) I))
    I (LeavesOthers b I)
    (λ _. cond_both (fits (pair_of o I) b I.waiting)
    (with_chain b (queued (pair_of o I) (chain I b)) (ledger I b).epoch I) (with_chain b [] (record { 0 = (ledger I b).epoch.0 + 1 }) I)
    (LeavesOthers b I)
    (λ _. leaves (queued (pair_of o I) (chain I b)) (ledger I b).epoch) (λ _. leaves [] (record { 0 = (ledger I b).epoch.0 + 1 })))
    (λ _. record { objects = refl; chain = λ j n. refl; ledger = λ j n. refl })
  where
    leaves : (c : List Pair) (e : Epoch) → LeavesOthers b I (with_chain b c e I)
    leaves c e = record {
      objects = refl;
      chain = λ j n. get_or-set_other I.waiting b j c [] (λ d. n (sym d));
      ledger = λ j n. get_or-set_other I.ledgers b j (record { last_acknowledged = (ledger I b).last_acknowledged; epoch = e; lease_end = (ledger I b).lease_end }) no_ledger (λ d. n (sym d));
    }

pub acks_leaves : (b : ℕ) (ps : List Pair) (I : Input) → LeavesOthers b I (acknowledges_all b ps I)
acks_leaves b ps I = let t = Acks.keeps_acknowledgement b ps I in record {
  objects = t.objects;
  chain = λ j n. (t.other j n).1;
  ledger = λ j n. (t.other j n).0;
}

-- ---- output servers: bounds

pub shape_out : (O : Output) → OutputBounds O → OutputShape O
shape_out O b = record { newest = b.newest; links = b.links; copies = b.copies }

-- a lease that is taken ends at most the longest lease after the last time
pub end_bound : (stamp len drift : ℕ) → stamp ≤ last_time → len ≤ longest → (lease_end stamp len drift).0 ≤ last_time + longest
end_bound stamp len drift h k =
    let few : 1000 - drift ≤ 1000 = omega arith in
    let z : len * (1000 - drift) ≤ len * 1000 = mul-le-mul_left len few in
    omega arith

pub answer_bounds : (drift a : ℕ) (y : Renewed) (O : Output)
    → OutputBounds O → y.renewal.stamp.0 ≤ last_time → y.length ≤ longest → OutputBounds (after_answer drift a y O)
answer_bounds drift a y O b h k =
    let s = Outs.shape_renewed drift a y O (shape_out O b) in
    record {
      newest = s.newest;
      links = s.links;
      copies = s.copies;
      clock = subst (λ (t : Time). t.0 ≤ last_time) (sym (Outs.clock_renewed drift a y O)) b.clock;
      lease_end = λ i. omega (arith, Outs.lease_end_bound_renewed drift a y O i, b.lease_end i, end_bound y.renewal.stamp.0 y.length drift h k);
    }

pub told_bounds : (a o : ℕ) (v : Version) (O : Output) → OutputBounds O → OutputBounds (after_invalidation a o v O)
told_bounds a o v O b =
    let s = Outs.shape_invalidation a o v O (shape_out O b) in
    record {
      newest = s.newest;
      links = s.links;
      copies = s.copies;
      clock = subst (λ (t : Time). t.0 ≤ last_time) (sym (Outs.clock_invalidation a o v O)) b.clock;
      lease_end = λ i. subst (λ (t : Time). t.0 ≤ last_time + longest) (sym (Outs.lease_end_invalidation a o v O i)) (b.lease_end i);
    }

pub later_output_bounds : (x : ℕ) (O : Output) → OutputBounds O → O.clock.0 + x ≤ last_time → OutputBounds (later_output x O)
later_output_bounds x O b h = record { newest = b.newest; links = b.links; copies = b.copies; clock = h; lease_end = b.lease_end }

-- ---- output servers: what never falls

-- no epoch of a copy falls
abbrev EpochsRise : Link → Link → Type 0
EpochsRise l k = (p : ℕ) → (copy_of l p).epoch.0 ≤ (copy_of k p).epoch.0

copy_rises : (o : ℕ) (c : Copied) (l : Link) → (copy_of l o).epoch.0 ≤ c.epoch.0 → EpochsRise l (with_copy o c l)
copy_rises o c l h p = changed (λ (x y : Copied). x.epoch.0 ≤ y.epoch.0) l.copies o p c no_copy (λ x. omega arith) h

hears_rises : (x : Pair) (l : Link) → EpochsRise l (hears x l)
hears_rises x l = copy_rises x.object
    (record {
      got = (copy_of l x.object).got;
      known = raised (copy_of l x.object).known x.version;
      epoch = (copy_of l x.object).epoch;
    })
    l (omega arith)

hears_all_rises : (ps : List Pair) (l : Link) → EpochsRise l (hears_all ps l)
unfolding hears_all
hears_all_rises [] l p = omega arith
hears_all_rises (x ∷ xs) l p = omega (arith, hears_rises x l p, hears_all_rises xs (hears x l) p)

later_up : (e to : Epoch) → e.0 ≤ (later e to).0
later_up e to = cond_both (ltb e.0 to.0) to e (λ (x : Epoch). e.0 ≤ x.0)
    (λ h. omega (arith, ltb-true e.0 to.0 h)) (λ _. omega arith)

takes_rises : (y : Renewed) (l : Link) → EpochsRise l (takes_copy y l)
takes_rises y l =
    let o = y.renewal.object in
    let c : Copied = record { got = y.version; known = y.version; epoch = later (copy_of l o).epoch y.epoch } in
    cond_both (accepts y l) (with_copy o c l) l (EpochsRise l) (λ _. copy_rises o c l (later_up (copy_of l o).epoch y.epoch)) (λ _ p. omega arith)

leases_copies : (drift : ℕ) (y : Renewed) (l : Link) → (takes_lease drift y l).copies ≡ l.copies
leases_copies drift y l = cond_both (asks_volume y.renewal.parts) _ l (λ (k : Link). k.copies ≡ l.copies) (λ _. refl) (λ _. refl)

answered_rises : (drift : ℕ) (y : Renewed) (l : Link) → EpochsRise l (takes_lease drift y (takes_copy y (hears_all (list_of y.list) l)))
answered_rises drift y l p =
    let k = hears_all (list_of y.list) l in
    let c = ap (λ (cs : List Copied). (get_or cs p no_copy).epoch.0) (leases_copies drift y (takes_copy y k)) in
    omega (arith, hears_all_rises (list_of y.list) l p, takes_rises y k p)

pub output_same : (O : Output) → OutputRises O O
output_same O = record {
  clock = omega arith;
  newest = λ o. omega arith;
  known = λ i o. omega arith;
  copy_epoch = λ i o. omega arith;
  lease_epoch = λ i. omega arith;
  end_of_lease = λ i. omega arith;
}

pub output_then : (O Q R : Output) → OutputRises O Q → OutputRises Q R → OutputRises O R
output_then O Q R a b = record {
  clock = omega (arith, a.clock, b.clock);
  newest = λ o. omega (arith, a.newest o, b.newest o);
  known = λ i o. omega (arith, a.known i o, b.known i o);
  copy_epoch = λ i o. omega (arith, a.copy_epoch i o, b.copy_epoch i o);
  lease_epoch = λ i. omega (arith, a.lease_epoch i, b.lease_epoch i);
  end_of_lease = λ i. omega (arith, a.end_of_lease i, b.end_of_lease i);
}

copies_renewed : (drift a : ℕ) (y : Renewed) (O : Output) (i p : ℕ)
    → (copy_of (link O i) p).epoch.0 ≤ (copy_of (link (after_answer drift a y O) i) p).epoch.0
unfolding after_answer
copies_renewed drift a y O i =
    changed EpochsRise O.links a i (takes_lease drift y (takes_copy y (hears_all (list_of y.list) (link O a)))) no_link
    (λ l p. omega arith) (answered_rises drift y (link O a))

pub answer_rises : (drift a : ℕ) (y : Renewed) (O : Output)
    → OutputRises O (after_answer drift a y O)
answer_rises drift a y O = record {
  clock = let c = ap (λ (t : Time). t.0) (Outs.clock_renewed drift a y O) in omega arith;
  newest = Outs.newest_up_renewed drift a y O;
  known = Outs.known_up_renewed drift a y O;
  copy_epoch = copies_renewed drift a y O;
  lease_epoch = Outs.lease_epoch_up_renewed drift a y O;
  end_of_lease = Outs.lease_end_up_renewed drift a y O;
}

copies_invalidation : (a o : ℕ) (v : Version) (O : Output) (i p : ℕ)
    → (copy_of (link O i) p).epoch.0 ≤ (copy_of (link (after_invalidation a o v O) i) p).epoch.0
unfolding after_invalidation
copies_invalidation a o v O i = changed EpochsRise O.links a i (hears (record { object = o; version = v }) (link O a)) no_link
    (λ l p. omega arith) (hears_rises (record { object = o; version = v }) (link O a))

pub told_rises : (a o : ℕ) (v : Version) (O : Output) → OutputRises O (after_invalidation a o v O)
told_rises a o v O = record {
  clock = let c = ap (λ (t : Time). t.0) (Outs.clock_invalidation a o v O) in omega arith;
  newest = λ p. let e = ap (λ (n : Newest). n.version.0) (Outs.newest_invalidation a o v O p) in omega arith;
  known = Outs.known_up_invalidation a o v O;
  copy_epoch = copies_invalidation a o v O;
  lease_epoch = Outs.lease_epoch_up_invalidation a o v O;
  end_of_lease = Outs.lease_end_up_invalidation a o v O;
}

pub later_output_rises : (x : ℕ) (O : Output) → OutputRises O (later_output x O)
later_output_rises x O = record {
  clock = omega arith;
  newest = λ o. omega arith;
  known = λ i o. omega arith;
  copy_epoch = λ i o. omega arith;
  lease_epoch = λ i. omega arith;
  end_of_lease = λ i. omega arith;
}
