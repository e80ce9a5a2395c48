-- How a renewal request moves the channels of its input server, and what it keeps.
use Rattle.std.proofs.Common.{◌≡◌, ℕ, ◌+◌, ◌<◌, ◌≤◌, true, cond, leb, ◌⊎◌, List, [], ◌++◌, length, get_or, take, set, sym, refl, ap, ◌∙◌, subst, inl, inr, arith, length-set, take_all, get_or-set_same}
use Rattle.std.proofs.lemmas.Bool.{cases_Bool, cond_both, cond-true, cond-false, leb-true, and_parts}
use Rattle.numbers.specs.declared.epoch.Epoch.{Epoch}
use Rattle.rules.specs.declared.kept.Held.{Held}
use Rattle.rules.specs.declared.kept.Ledger.{Ledger}
use Rattle.rules.specs.declared.message.Message.{Message}
use Rattle.rules.specs.declared.message.Message.TheVariants.{RenewalRequest}
use Rattle.rules.specs.declared.parts.Parts.{Parts}
use Rattle.rules.specs.declared.renewal.Renewal.{Renewal}
use Rattle.rules.specs.declared.pairs.Pair.{Pair}
use Rattle.rules.specs.declared.pairs.Pairs.{Pairs}
use Rattle.numbers.specs.declared.time.Time.{Time}
use Rattle.numbers.specs.declared.version.Version.{Version}
use Rattle.rules.specs.Input.{Input, no_held, no_ledger, held, ledger, chain, last_read, last_acknowledged}
use Rattle.rules.specs.Input.{grants, answers_renewal, after_renewal}
use Rattle.rules.specs.Lists.{list_of, pairs}
use Rattle.numbers.specs.Numbers.{none, shown}
use Rattle.rules.specs.Output.{Output}
use Rattle.rules.specs.Renewals.{asks_object, asks_volume}
use Rattle.guarantee.proofs.Channel.{Has, Part, asked, copy, lease, answer, Moves, Fresh}
use Rattle.guarantee.proofs.ChannelOf.{IsCopy, IsLease, Says, channel_of, InputShape}
use Rattle.guarantee.proofs.Words.{set_from, In, in_any}
use Rattle.guarantee.proofs.InputMoves.{number, read_number, the_acknowledged, the_epoch, the_lease_end, pairs_list, in_moves}
use Rattle.guarantee.proofs.WriteMoves.{Clocked}

-- ---- renewal request: what it does to the server

-- the object as it is once its version was given
abbrev given_out : Held → Held
given_out h = record { version = h.version; value = h.value; last_read = h.version }

-- the ledger of b with a lease that begins now
abbrev leased : ℕ → ℕ → Input → Ledger
leased L b I = record { last_acknowledged = (ledger I b).last_acknowledged; epoch = (ledger I b).epoch; lease_end = record { 0 = I.clock.0 + L } }

module _ (L b : ℕ) (r : Renewal) (I : Input) where
  -- each object is as it was, or it is the one given
  pub object_from : (p : ℕ) → (held (after_renewal L b r I) p ≡ held I p) ⊎ ((r.object ≡ p) × (held (after_renewal L b r I) p ≡ given_out (held I r.object)))
  object_from p = cond_both (asks_object r.parts) (set I.objects r.object (given_out (held I r.object))) I.objects
      (λ (l : List Held). (get_or l p no_held ≡ held I p) ⊎ ((r.object ≡ p) × (get_or l p no_held ≡ given_out (held I r.object))))
      (λ _. set_from I.objects r.object p (given_out (held I r.object)) no_held) (λ _. inl refl)

  -- each ledger is as it was, or it is that of b with a new lease
  lease_from : (j : ℕ) → (ledger (after_renewal L b r I) j ≡ ledger I j)
      ⊎ ((b ≡ j) × (ledger (after_renewal L b r I) j ≡ leased L b I))
  lease_from j = cond_both (grants r.parts b I) (set I.ledgers b (leased L b I)) I.ledgers
      (λ (l : List Ledger). (get_or l j no_ledger ≡ ledger I j) ⊎ ((b ≡ j) × (get_or l j no_ledger ≡ leased L b I)))
      (λ _. set_from I.ledgers b j (leased L b I) no_ledger) (λ _. inl refl)

  -- version and value of every object stay
  pub held_renewal : (p : ℕ) →
      ((held (after_renewal L b r I) p).version ≡ (held I p).version) × ((held (after_renewal L b r I) p).value ≡ (held I p).value)
  held_renewal p = elim (object_from p) [
    | inl e ↦ (ap (λ (h : Held). h.version) e, ap (λ (h : Held). h.value) e)
    | inr e ↦ (
      ap (λ (h : Held). h.version) e.1 ∙ ap (λ (k : ℕ). (held I k).version) e.0,
      ap (λ (h : Held). h.value) e.1 ∙ ap (λ (k : ℕ). (held I k).value) e.0,
    )
  ]

  -- so their clocks stay at most lc
  pub lc_renewal : Clocked I → Clocked (after_renewal L b r I)
  lc_renewal c p = omega (arith, c p, ap number (held_renewal p).0)

  -- what was given of an object stays, or becomes the version held
  pub read_renewal : (j p : ℕ) →
      (last_read (after_renewal L b r I) j p ≡ last_read I j p) ⊎ (last_read (after_renewal L b r I) j p ≡ (held I p).version.0)
  read_renewal j p = elim (object_from p) [
    | inl e ↦ inl (ap read_number e)
    | inr e ↦ inr (ap read_number e.1 ∙ ap (λ (k : ℕ). (held I k).version.0) e.0)
  ]

  -- it does not fall, if it is not above the version held
  pub read_up_renewal : (j p : ℕ) → last_read I j p ≤ (held I p).version.0 →
      (last_read I j p ≤ last_read (after_renewal L b r I) j p)
      × (last_read (after_renewal L b r I) j p ≤ (held (after_renewal L b r I) p).version.0)
  read_up_renewal j p h = let u = ap number (held_renewal p).0 in
      elim (read_renewal j p) [ inl e ↦ (omega arith, omega arith) | inr e ↦ (omega arith, omega arith) ]

  -- what is acknowledged stays, and every epoch
  pub all_acknowledged_renewal : (j : ℕ) → (ledger (after_renewal L b r I) j).last_acknowledged ≡ (ledger I j).last_acknowledged
  all_acknowledged_renewal j = elim (lease_from j) [
    | inl e ↦ ap the_acknowledged e
    | inr e ↦ ap the_acknowledged e.1 ∙ ap (λ (k : ℕ). (ledger I k).last_acknowledged) e.0
  ]

  pub acknowledged_renewal : (j p : ℕ) → last_acknowledged (after_renewal L b r I) j p ≡ last_acknowledged I j p
  acknowledged_renewal j p = ap (λ (l : List Version). (get_or l p none).0) (all_acknowledged_renewal j)

  pub epoch_renewal : (j : ℕ) → (ledger (after_renewal L b r I) j).epoch ≡ (ledger I j).epoch
  epoch_renewal j = elim (lease_from j) [
    | inl e ↦ ap the_epoch e
    | inr e ↦ ap the_epoch e.1 ∙ ap (λ (k : ℕ). (ledger I k).epoch) e.0
  ]

  -- a lease's end stays, or is the server's clock and the lease length
  pub lease_end_renewal : (j : ℕ) →
      ((ledger (after_renewal L b r I) j).lease_end ≡ (ledger I j).lease_end) ⊎ ((ledger (after_renewal L b r I) j).lease_end.0 ≡ I.clock.0 + L)
  lease_end_renewal j = elim (lease_from j) [ inl e ↦ inl (ap the_lease_end e) | inr e ↦ inr (ap (λ (l : Ledger). l.lease_end.0) e.1) ]

  pub lease_end_other_renewal : (j : ℕ) → (b ≡ j → ⊥) → (ledger (after_renewal L b r I) j).lease_end ≡ (ledger I j).lease_end
  lease_end_other_renewal j n = elim (lease_from j) [ inl e ↦ ap the_lease_end e | inr e ↦ absurd (n e.0) ]

  -- the lists keep their lengths
  pub shape_renewal : InputShape I → InputShape (after_renewal L b r I)
  shape_renewal s = record {
    objects = cond_both (asks_object r.parts) (set I.objects r.object (given_out (held I r.object))) I.objects (λ (l : List Held). length l ≡ 16)
        (λ _. length-set I.objects r.object (given_out (held I r.object)) ∙ s.objects) (λ _. s.objects);
    ledgers = cond_both (grants r.parts b I) (set I.ledgers b (leased L b I)) I.ledgers (λ (l : List Ledger). length l ≡ 8)
        (λ _. length-set I.ledgers b (leased L b I) ∙ s.ledgers) (λ _. s.ledgers);
    last_acknowledged = λ j l. ap (λ (k : List Version). length k) (all_acknowledged_renewal j) ∙ s.last_acknowledged j l;
    waiting = s.waiting;
  }

  -- an object asked for is given at the version held
  pub read_own_renewal : InputShape I → r.object < 16 → asks_object r.parts ≡ true → (j : ℕ) → last_read (after_renewal L b r I) j r.object ≡ (held I r.object).version.0
  read_own_renewal s l t j = ap (λ (k : List Held). (get_or k r.object no_held).last_read.0)
      (cond-true (asks_object r.parts) (set I.objects r.object (given_out (held I r.object))) I.objects t)
      ∙ ap read_number (get_or-set_same I.objects r.object (given_out (held I r.object)) no_held (omega (arith, s.objects)))

  -- a lease granted ends one lease length from now
  pub lease_end_own_renewal : InputShape I → b < 8 → grants r.parts b I ≡ true → (ledger (after_renewal L b r I) b).lease_end.0 ≡ I.clock.0 + L
  lease_end_own_renewal s l t = ap (λ (k : List Ledger). (get_or k b no_ledger).lease_end.0)
      (cond-true (grants r.parts b I) (set I.ledgers b (leased L b I)) I.ledgers t)
      ∙ ap (λ (k : Ledger). k.lease_end.0) (get_or-set_same I.ledgers b (leased L b I) no_ledger (omega (arith, s.ledgers)))

-- ---- renewal request: how it moves the channels

-- what a list shows of a chain that fits into it
shows : (a : Parts) (c : List Pair) → asks_volume a ≡ true → length c ≤ 8 → list_of (cond (asks_volume a) (pairs (take shown c)) (pairs [])) ≡ c
shows a c t h = ap (λ (l : Pairs). list_of l) (cond-true (asks_volume a) (pairs (take shown c)) (pairs []) t)
    ∙ ap (λ (l : List Pair). list_of (pairs l)) (take_all 8 c h) ∙ pairs_list c h

module _ (L R : ℕ) where
  -- a renewal request of another output server
  pub moves_other_renewal : (b : ℕ) (r : Renewal) (I : Input) (O : Output) (i j : ℕ) (log : List Message) → (b ≡ j → ⊥) →
      Moves L R (channel_of I O i j log) (channel_of (after_renewal L b r I) O i j (log ++ (answers_renewal i L b r I)))
  moves_other_renewal b r I O i j log n = in_moves L R I (after_renewal L b r I) O i j (answers_renewal i L b r I) log
      (λ p. omega (arith, ap number (held_renewal L b r I p).0))
      (omega (arith, ap (λ (e : Epoch). e.0) (epoch_renewal L b r I j)))
      refl
      (λ p. elim (read_renewal L b r I j p) [ inl e ↦ inl e | inr e ↦ inr (e ∙ sym (ap number (held_renewal L b r I p).0)) ])
      (λ p. inl (acknowledged_renewal L b r I j p))
      (inl (ap (λ (t : Time). t.0) (lease_end_other_renewal L b r I j n)))
      (λ p v h. inl (v, h, inl (omega arith)))
      (λ p h. elim h [ inl x ↦ absurd (n x.1) | inr x ↦ absurd x ])

  -- a renewal request of the channel's own
  pub moves_own_renewal : (r : Renewal) (I : Input) (O : Output) (i j : ℕ) (log : List Message) →
      InputShape I → r.object < 16 → j < 8 → 1 ≤ (held I r.object).version.0 → In (RenewalRequest j i r) log →
      Moves L R (channel_of I O i j log) (channel_of (after_renewal L j r I) O i j (log ++ (answers_renewal i L j r I)))
  moves_own_renewal r I O i j log s low few one sent = in_moves L R I (after_renewal L j r I) O i j
      (answers_renewal i L j r I) log
      (λ p. omega (arith, ap number (held_renewal L j r I p).0))
      (omega (arith, ap (λ (e : Epoch). e.0) (epoch_renewal L j r I j)))
      refl
      (λ p. elim (read_renewal L j r I j p) [ inl e ↦ inl e | inr e ↦ inr (e ∙ sym (ap number (held_renewal L j r I p).0)) ])
      (λ p. inl (acknowledged_renewal L j r I j p))
      (elim (lease_end_renewal L j r I j) [ inl e ↦ inl (ap (λ (t : Time). t.0) e) | inr e ↦ inr e ])
      (λ p v h. inl (v, h, inl (omega arith)))
      (λ p h. elim h [ inl x ↦ says p x.2 | inr x ↦ absurd x ])
    where
      epochs : (ledger (after_renewal L j r I) j).epoch.0 ≡ (ledger I j).epoch.0
      epochs = ap (λ (e : Epoch). e.0) (epoch_renewal L j r I j)

      copies : (q v e : ℕ) → asks_object r.parts ≡ true →
          (q ≡ r.object) × (v ≡ (cond (asks_object r.parts) (held I r.object).version none).0) × (e ≡ (ledger I j).epoch.0) →
          (1 ≤ v) × (v ≡ (held (after_renewal L j r I) q).version.0) × (v ≡ last_read (after_renewal L j r I) j q)
          × (e ≡ (ledger (after_renewal L j r I) j).epoch.0)
      copies q v e t x =
          let y = ap number (cond-true (asks_object r.parts) (held I r.object).version none t) in
          let z = ap number (held_renewal L j r I r.object).0 in
          let g = read_own_renewal L j r I s low t j in
          let u = ap (λ (k : ℕ). (held (after_renewal L j r I) k).version.0) x.0 in
          let w = ap (λ (k : ℕ). last_read (after_renewal L j r I) j k) x.0 in
          (omega arith, omega arith, omega arith, omega (arith, epochs))

      granted : 1 ≤ cond (grants r.parts j I) L 0 → grants r.parts j I ≡ true
      granted h = elim (cases_Bool (grants r.parts j I)) [ inl t ↦ t | inr t ↦ absurd (omega (arith, cond-false (grants r.parts j I) L 0 t)) ]

      says : (p : Part) → ((asks_object r.parts ≡ true) × IsCopy r.object (cond (asks_object r.parts) (held I r.object).version none).0 (ledger I j).epoch.0 p)
          ⊎ ((asks_volume r.parts ≡ true) × (1 ≤ cond (grants r.parts j I) L 0) × IsLease r.stamp.0 (cond (grants r.parts j I) L 0) (ledger I j).epoch.0
          (list_of (cond (asks_volume r.parts) (pairs (take shown (chain I j))) (pairs []))) p) →
          Fresh L (channel_of I O i j log) (channel_of (after_renewal L j r I) O i j (log ++ (answers_renewal i L j r I))) p
      says (asked t) h = elim h [ inl x ↦ absurd x.1 | inr x ↦ absurd x.2 ]
      says (copy q v e) h = elim h [ inl x ↦ copies q v e x.0 x.1 | inr x ↦ absurd x.2 ]
      says (lease t l e ps) h = elim h [
        | inl x ↦ absurd x.1
        | inr x ↦ let g = granted x.1 in (
          in_any (Says i j (asked t)) (RenewalRequest j i r) log sent (refl, refl, x.0, x.2.0),
          x.2.1 ∙ cond-true (grants r.parts j I) L 0 g,
          x.2.2 ∙ sym epochs,
          lease_end_own_renewal L j r I s few g,
          λ q v y. subst (Has q v) (sym (x.2.3 ∙ shows r.parts (chain I j) x.0
              (leb-true (length (chain I j)) 8 (and_parts (asks_volume r.parts) (leb (length (chain I j)) 8) g).1))) y,
        )
      ]
      says (answer q v) h = elim h [ inl x ↦ absurd x.1 | inr x ↦ absurd x.2 ]
