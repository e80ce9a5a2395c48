-- The fence of one channel: it stands once established, and a good copy has passed it.
use Rattle.std.proofs.Common.{◌≡◌, ℕ, ◌+◌, ◌*◌, ◌<◌, ◌≤◌, ◌⊎◌, List, sym, subst, inl, inr, mul-le-mul_left, arith}
use native.Mathlib.Decide.{dec_le}
use Rattle.rules.specs.declared.pairs.Pair.{Pair}
use Rattle.guarantee.proofs.Channel.{Has, Channel, fin, Grant, Inv, Moves, Older, Known, Dead, Fenced, Good, Shut, Queued, asked, copy, lease, answer}

-- a good copy has passed the fence
pub pass : (L R : ℕ) (V : Channel) (o w : ℕ) → Inv L R V → Fenced R V o w → Good V o → w ≤ V.known o
pass L R V o w i f g = elim f.why [ inl k ↦ known k (i.got_source o) | inr d ↦ dead d i.lease_source (i.copy_source o) ]
  where
    known : Known V o w → (V.got o ≡ 0) ⊎ ((e : ℕ) × V.Sent (copy o (V.got o) e)) → w ≤ V.known o
    known k (inl z) = omega arith
    known k (inr x) = omega (arith, k (V.got o) x.0 x.1, i.got_known o)

    stale : (k e : ℕ) → Older V o w k → k ≤ V.lease_epoch → 1 ≤ k →
        (V.copy_epoch o ≡ 0) ⊎ ((v : ℕ) × V.Sent (copy o v (V.copy_epoch o)) × (v ≤ V.known o)) → Dec (w ≤ V.known o) → w ≤ V.known o
    stale k e q a b (inl z) d = omega arith
    stale k e q a b (inr x) (yes d) = d
    stale k e q a b (inr x) (no d) =
        let z : V.copy_epoch o < k = q x.0 (V.copy_epoch o) x.1 (omega arith) in
        omega arith

    dead : Dead R V o w → (V.end_of_lease ≡ 0) ⊎ Grant R V V.end_of_lease V.lease_epoch V.known →
        (V.copy_epoch o ≡ 0) ⊎ ((v : ℕ) × V.Sent (copy o v (V.copy_epoch o)) × (v ≤ V.known o)) → w ≤ V.known o
    dead d (inl z) b = omega arith
    dead d (inr x) b = elim (d.sent x.s x.l x.e x.ps x.sent) [
      | inl t ↦ omega arith
      | inr (inl y) ↦ omega (arith, x.told o y.0 y.1)
      | inr (inr q) ↦ stale x.e 0 q x.old (i.lease_ok x.s x.l x.e x.ps x.sent).1 b (dec_le w (V.known o))
    ]

-- once the input server's clock has reached its lease end, every lease that it granted is over at the output server
pub over : (L R : ℕ) (V : Channel) → Inv L R V → V.granted ≤ V.clock_in → (s l e : ℕ) (ps : List Pair) → V.Sent (lease s l e ps) → fin R s l ≤ V.clock_out
over L R V i z s l e ps b = rw (i.lease_ok s l e ps b).0 (omega (arith, i.drift s l e ps b, mul-le-mul_left R z))

-- a fence is there as soon as the input calls the output shut out, right after it has queued
pub establish : (L R : ℕ) (V : Channel) (o w : ℕ) → Inv L R V → Shut V o → Queued V o → w ≤ V.held o → Fenced R V o w
establish L R V o w i s q h = record { holds = h; why = by s q }
  where
    none : V.last_read o ≡ 0 → Known V o w
    none z v e b = let r = i.copy_ok o v e b in inl (omega arith)

    past : V.last_read o < V.last_acknowledged o → Known V o w
    past z v e b = let r = i.copy_ok o v e b in inr (omega (arith, i.acked_known o))

    full : V.held o ≤ V.last_acknowledged o → (v : ℕ) → Dec (w ≤ v) → (w ≤ v) ⊎ (v < V.known o)
    full z v (yes d) = inl d
    full z v (no d) = inr (omega (arith, i.acked_known o))

    by : Shut V o → Queued V o → Known V o w ⊎ Dead R V o w
    by (inl z) q = inl (none z)
    by (inr (inl z)) q = inl (past z)
    by (inr (inr (inl z))) q = inl (λ v e b. full z v (dec_le w v))
    by (inr (inr (inr z))) (inl y) = inl (none y)
    by (inr (inr (inr z))) (inr (inl y)) = inl (past y)
    by (inr (inr (inr z))) (inr (inr (inl y))) =
        inr (record { sent = λ s l e ps b. inl (over L R V i z s l e ps b); next = inl (V.held o, y, h) })
    by (inr (inr (inr z))) (inr (inr (inr y))) =
        inr (record { sent = λ s l e ps b. inl (over L R V i z s l e ps b); next = inr (λ v e b _. y v e b) })

-- a step of any server keeps every fence
pub stable : (L R : ℕ) (V W : Channel) (o w : ℕ) → Inv L R V → Inv L R W → Moves L R V W → Fenced R V o w → Fenced R W o w
stable L R V W o w i j m f = record { holds = up; why = elim f.why [ inl k ↦ inl (keeps k) | inr d ↦ dead d (next d.next) ] }
  where
    up : w ≤ W.held o
    up = omega (arith, f.holds, m.held_up o)

    keeps : Known V o w → Known W o w
    keeps k v e b = elim (m.fresh (copy o v e) b) [
      | inl a ↦ elim (k v e a) [ inl y ↦ inl y | inr y ↦ inr (omega (arith, m.known_up o)) ]
      | inr n ↦ inl (omega arith)
    ]

    older : (a b : ℕ) → a ≤ b → Older V o w a → Older W o w b
    older a b l q v e x y = elim (m.fresh (copy o v e) x) [ inl z ↦ omega (arith, q v e z y) | inr n ↦ omega arith ]

    knows : w ≤ W.known o → Known W o w
    knows k v e b = elim (dec_le w v) [ yes d ↦ inl d | no d ↦ inr (omega arith) ]

    bumped : V.epoch < W.epoch → Older W o w W.epoch
    bumped l v e x y = elim (m.fresh (copy o v e) x) [ inl z ↦ omega (arith, i.copy_ok o v e z) | inr n ↦ omega arith ]

    Next : Type 0
    Next = ((v : ℕ) × Has o v W.chain × (w ≤ v)) ⊎ Older W o w W.epoch

    next : ((v : ℕ) × Has o v V.chain × (w ≤ v)) ⊎ Older V o w V.epoch → (w ≤ W.known o) ⊎ Next
    next (inl x) = elim (m.chain_kept o x.0 x.1) [
      | inl y ↦ inr (inl (y.0, y.1, omega arith))
      | inr (inl y) ↦ inl (omega (arith, j.acked_known o))
      | inr (inr y) ↦ inr (inr (bumped y))
    ]
    next (inr q) = inr (inr (older V.epoch W.epoch m.epoch_up q))

    dead : Dead R V o w → (w ≤ W.known o) ⊎ Next → Known W o w ⊎ Dead R W o w
    dead d (inl k) = inl (knows k)
    dead d (inr n) = inr (record { sent = sent; next = n })
      where
        new : (s l e : ℕ) (ps : List Pair) → e ≡ W.epoch → ((p v : ℕ) → Has p v W.chain → Has p v ps) → Next →
            (fin R s l ≤ W.clock_out) ⊎ ((v : ℕ) × Has o v ps × (w ≤ v)) ⊎ Older W o w e
        new s l e ps a c (inl x) = inr (inl (x.0, c o x.0 x.1, x.2))
        new s l e ps a c (inr x) = inr (inr (rw a x))

        kept : (s l e : ℕ) (ps : List Pair) → (fin R s l ≤ V.clock_out) ⊎ ((v : ℕ) × Has o v ps × (w ≤ v)) ⊎ Older V o w e →
            (fin R s l ≤ W.clock_out) ⊎ ((v : ℕ) × Has o v ps × (w ≤ v)) ⊎ Older W o w e
        kept s l e ps (inl x) = inl (omega (arith, m.clock_up))
        kept s l e ps (inr (inl x)) = inr (inl x)
        kept s l e ps (inr (inr x)) = inr (inr (older e e (omega arith) x))

        sent : (s l e : ℕ) (ps : List Pair) → W.Sent (lease s l e ps) → (fin R s l ≤ W.clock_out) ⊎ ((v : ℕ) × Has o v ps × (w ≤ v)) ⊎ Older W o w e
        sent s l e ps b = elim (m.fresh (lease s l e ps) b) [
          | inl a ↦ kept s l e ps (d.sent s l e ps a)
          | inr a ↦ new s l e ps a.2 a.4 n
        ]

-- a step of any server keeps the invariants
pub invariant : (L R : ℕ) (V W : Channel) → Inv L R V → Moves L R V W → Inv L R W
invariant L R V W i m = record {
  given_held = given;
  acked_known = λ o. elim (m.acknowledged_from o) [
    | inl e ↦ omega (arith, i.acked_known o, m.known_up o)
    | inr a ↦ omega (arith, i.answered o (W.last_acknowledged o) a, m.known_up o)
  ];
  answered = λ o v a. elim (m.fresh (answer o v) a) [ inl b ↦ omega (arith, i.answered o v b, m.known_up o) | inr b ↦ b ];
  got_known = λ o. elim (m.got_from o) [ inl e ↦ omega (arith, i.got_known o, m.known_up o) | inr a ↦ a.2 ];
  got_source = λ o. elim (m.got_from o) [
    | inl e ↦ elim (i.got_source o) [ inl z ↦ inl (omega arith) | inr x ↦ inr (rw e (x.0, m.kept (copy o (V.got o) x.0) x.1)) ]
    | inr a ↦ inr (a.0, m.kept (copy o (W.got o) a.0) a.1)
  ];
  copy_source = λ o. elim (m.copy_from o) [
    | inl e ↦ elim (i.copy_source o) [
      | inl z ↦ inl (omega arith)
      | inr x ↦ inr (rw e (x.0, m.kept (copy o x.0 (V.copy_epoch o)) x.1, omega (arith, x.2, m.known_up o)))
    ]
    | inr a ↦ inr (a.0, m.kept (copy o a.0 (W.copy_epoch o)) a.1, a.2)
  ];
  lease_source = leased m.lease_end_from i.lease_source;
  epoch_pos = omega (arith, i.epoch_pos, m.epoch_up);
  copy_ok = objs;
  lease_ok = λ s l e ps b. elim (m.fresh (lease s l e ps) b) [
    | inl a ↦ ((i.lease_ok s l e ps a).0, (i.lease_ok s l e ps a).1, omega (arith, (i.lease_ok s l e ps a).2, m.clock_up))
    | inr a ↦ (a.1, omega (arith, i.epoch_pos, m.epoch_up), omega (arith, i.asked_ok s a.0, m.clock_up))
  ];
  drift = λ s l e ps b. elim (m.fresh (lease s l e ps) b) [
    | inl a ↦ drift s (i.drift s l e ps a) (i.lease_ok s l e ps a).2 m.granted_set
    | inr a ↦ drift' s (i.asked_ok s a.0) a.3
  ];
  asked_ok = λ s b. elim (m.fresh (asked s) b) [ inl a ↦ omega (arith, i.asked_ok s a, m.clock_up) | inr a ↦ omega (arith, m.clock_up) ];
}
  where
    given : (o : ℕ) → W.last_read o ≤ W.held o
    given o = elim (m.given_set o) [ inl e ↦ omega (arith, i.given_held o, m.held_up o) | inr e ↦ omega arith ]

    moved : (t : ℕ) → Grant R V t W.lease_epoch W.known → Grant R W t W.lease_epoch W.known
    moved t g = record { s = g.s; l = g.l; e = g.e; ps = g.ps; sent = m.kept (lease g.s g.l g.e g.ps) g.sent; ends = g.ends; old = g.old; told = g.told }

    later : Grant R V V.end_of_lease V.lease_epoch V.known → Grant R V V.end_of_lease W.lease_epoch W.known
    later g = record { s = g.s; l = g.l; e = g.e; ps = g.ps; sent = g.sent; ends = g.ends; old = omega (arith, g.old, m.lease_epoch_up); told = λ o v h. omega (arith, g.told o v h, m.known_up o) }

    leased : (W.end_of_lease ≡ V.end_of_lease) ⊎ Grant R V W.end_of_lease W.lease_epoch W.known →
        (V.end_of_lease ≡ 0) ⊎ Grant R V V.end_of_lease V.lease_epoch V.known → (W.end_of_lease ≡ 0) ⊎ Grant R W W.end_of_lease W.lease_epoch W.known
    leased (inl e) (inl z) = inl (omega arith)
    leased (inl e) (inr g) = inr (subst (λ (t : ℕ). Grant R W t W.lease_epoch W.known) (sym e) (moved V.end_of_lease (later g)))
    leased (inr g) z = inr (moved W.end_of_lease g)

    objs : (o v e : ℕ) → W.Sent (copy o v e) → (1 ≤ v) × (v ≤ W.last_read o) × (e ≤ W.epoch)
    objs o v e b = elim (m.fresh (copy o v e) b) [
      | inl a ↦ let r = i.copy_ok o v e a in
          (r.0, elim (m.given_set o) [ inl y ↦ omega arith | inr y ↦ omega (arith, i.given_held o, m.held_up o) ], omega (arith, m.epoch_up))
      | inr a ↦ (omega arith, omega arith, omega arith)
    ]

    drift' : (s : ℕ) → s ≤ V.clock_out → W.granted ≡ W.clock_in + L → R * (W.clock_in + L) + 1000 * s ≤ R * W.granted + 1000 * W.clock_out
    drift' s h e = rw e (omega (arith, m.clock_up))

    drift : (s : ℕ) → R * (V.clock_in + L) + 1000 * s ≤ R * V.granted + 1000 * V.clock_out → s ≤ V.clock_out →
        (W.granted ≡ V.granted) ⊎ (W.granted ≡ W.clock_in + L) → R * (W.clock_in + L) + 1000 * s ≤ R * W.granted + 1000 * W.clock_out
    drift s h l (inl e) = rw e (omega (arith, m.drifts))
    drift s h l (inr e) = drift' s l e
