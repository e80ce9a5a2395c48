-- How an acknowledgement moves the channels of its input server, and what it keeps.
use Rattle.std.proofs.Common.{◌≡◌, ℕ, ◌<◌, ◌≤◌, ◌⊎◌, List, [], ◌∷◌, length, get_or, set, sym, refl, ap, ◌∙◌, subst, inl, inr, append-nil, arith, length-set, get_or-set_other, get_or-set_same}
use Rattle.numbers.specs.declared.epoch.Epoch.{Epoch}
use Rattle.rules.specs.declared.kept.Held.{Held}
use Rattle.rules.specs.declared.kept.Ledger.{Ledger}
use Rattle.rules.specs.declared.message.Message.{Message}
use Rattle.rules.specs.declared.message.Message.TheVariants.{InvalidationAnswer}
use Rattle.rules.specs.declared.pairs.Pair.{Pair}
use Rattle.rules.specs.declared.pairs.Pairs.{Pairs}
use Rattle.numbers.specs.declared.time.Time.{Time}
use Rattle.numbers.specs.declared.version.Version.{Version}
use Rattle.rules.specs.Input.{Input, no_held, no_ledger, held, ledger, chain, last_read, last_acknowledged, freed}
use Rattle.rules.specs.Input.{acknowledges, acknowledges_all}
use Rattle.rules.specs.Lists.{list_of}
use Rattle.numbers.specs.Numbers.{none, raised}
use Rattle.rules.specs.Output.{Output}
use Rattle.guarantee.proofs.Channel.{Has, answer, Moves}
use Rattle.guarantee.proofs.ChannelOf.{Says, channel_of, InputShape}
use Rattle.guarantee.proofs.Words.{set_from, In, All, in_any}
use Rattle.guarantee.proofs.InputMoves.{number, held_number, read_number, the_epoch, the_lease_end, acknowledged_at, freed_kept, raised_up, raised_from, in_moves}
use Rattle.guarantee.proofs.WriteMoves.{Clocked}

-- ---- invalidation answer: what it does to the server

-- what the answer of b with the pairs ps keeps
pub record KeptByAnswer (b : ℕ) (ps : List Pair) (I J : Input) : Type 0 where
  pub objects : J.objects ≡ I.objects
  pub lc : J.lc ≡ I.lc
  pub clock : J.clock ≡ I.clock
  pub epoch : (j : ℕ) → (ledger J j).epoch ≡ (ledger I j).epoch
  pub lease_end : (j : ℕ) → (ledger J j).lease_end ≡ (ledger I j).lease_end
  pub ledgers : length J.ledgers ≡ length I.ledgers
  pub waiting : length J.waiting ≡ length I.waiting
  pub long : (j : ℕ) → length (ledger J j).last_acknowledged ≡ length (ledger I j).last_acknowledged
  -- what an output server acknowledged never falls, and the sender's rises only to a pair of the list
  pub acknowledged_up : (j p : ℕ) → last_acknowledged I j p ≤ last_acknowledged J j p
  pub acknowledged_from : (p : ℕ) → (last_acknowledged J b p ≡ last_acknowledged I b p) ⊎ Has p (last_acknowledged J b p) ps
  pub other : (j : ℕ) → (b ≡ j → ⊥) → (ledger J j ≡ ledger I j) × (chain J j ≡ chain I j)

-- what the pair raises the version acknowledged of its object to
abbrev risen : Pair → List Version → Version
risen x l = raised (get_or l x.object none) x.version

-- the ledger with what it acknowledges of one object raised
abbrev acks : Pair → Ledger → Ledger
acks x l = record { last_acknowledged = set l.last_acknowledged x.object (risen x l.last_acknowledged); epoch = l.epoch; lease_end = l.lease_end }

-- one place raised: it does not fall, and has what it had or the pair's version
acks_up : (x : Pair) (l : List Version) (p : ℕ) →
    (get_or l p none).0 ≤ (get_or (set l x.object (risen x l)) p none).0
acks_up x l p = elim (set_from l x.object p (risen x l) none) [
  | inl e ↦ omega (arith, ap number e)
  | inr e ↦ omega (arith, ap number e.1, raised_up (get_or l x.object none) x.version, ap (λ (k : ℕ). (get_or l k none).0) e.0)
]

acks_from : (x : Pair) (l : List Version) (p : ℕ) →
    ((get_or (set l x.object (risen x l)) p none).0 ≡ (get_or l p none).0)
    ⊎ Has p (get_or (set l x.object (risen x l)) p none).0 (x ∷ [])
acks_from x l p = elim (set_from l x.object p (risen x l) none) [
  | inl e ↦ inl (ap number e)
  | inr e ↦ elim (raised_from (get_or l x.object none) x.version) [
    | inl d ↦ inl (ap number (e.1 ∙ d) ∙ ap (λ (k : ℕ). (get_or l k none).0) e.0)
    | inr d ↦ inr (inl (e.0, sym (ap number (e.1 ∙ d))))
  ]
]

-- the same for one pair
keeps_all : (b : ℕ) (x : Pair) (I : Input) → KeptByAnswer b (x ∷ []) I (acknowledges b x I)
keeps_all b x I = record {
  objects = refl;
  lc = refl;
  clock = refl;
  epoch = λ j. elim (from j) [
    | inl e ↦ ap the_epoch e
    | inr e ↦ ap the_epoch e.1 ∙ ap (λ (k : ℕ). (ledger I k).epoch) e.0
  ];
  lease_end = λ j. elim (from j) [
    | inl e ↦ ap the_lease_end e
    | inr e ↦ ap the_lease_end e.1 ∙ ap (λ (k : ℕ). (ledger I k).lease_end) e.0
  ];
  ledgers = length-set I.ledgers b (acks x (ledger I b));
  waiting = length-set I.waiting b (freed x.object (risen x (ledger I b).last_acknowledged) (chain I b));
  long = λ j. elim (from j) [
    | inl e ↦ ap (λ (l : Ledger). length l.last_acknowledged) e
    | inr e ↦ ap (λ (l : Ledger). length l.last_acknowledged) e.1
        ∙ length-set (ledger I b).last_acknowledged x.object (risen x (ledger I b).last_acknowledged)
        ∙ ap (λ (k : ℕ). length (ledger I k).last_acknowledged) e.0
  ];
  acknowledged_up = λ j p. elim (from j) [
    | inl e ↦ omega (arith, ap (acknowledged_at p) e)
    | inr e ↦ omega (arith, ap (acknowledged_at p) e.1, acks_up x (ledger I b).last_acknowledged p, ap (λ (k : ℕ). last_acknowledged I k p) e.0)
  ];
  acknowledged_from = λ p. elim (from b) [
    | inl e ↦ inl (ap (acknowledged_at p) e)
    | inr e ↦ subst (λ (l : Ledger). (acknowledged_at p l ≡ last_acknowledged I b p) ⊎ Has p (acknowledged_at p l) (x ∷ [])) (sym e.1)
        (acks_from x (ledger I b).last_acknowledged p)
  ];
  other = λ j n. (
    get_or-set_other I.ledgers b j (acks x (ledger I b)) no_ledger (λ d. n (sym d)),
    get_or-set_other I.waiting b j (freed x.object (risen x (ledger I b).last_acknowledged) (chain I b)) [] (λ d. n (sym d)),
  );
}
  where
    from : (j : ℕ) → (ledger (acknowledges b x I) j ≡ ledger I j) ⊎ ((b ≡ j) × (ledger (acknowledges b x I) j ≡ acks x (ledger I b)))
    from j = set_from I.ledgers b j (acks x (ledger I b)) no_ledger

-- everything but what the sender acknowledged and its chain stays
pub keeps_acknowledgement : (b : ℕ) (ps : List Pair) (I : Input) → KeptByAnswer b ps I (acknowledges_all b ps I)
unfolding acknowledges_all
keeps_acknowledgement b [] I = record {
  objects = refl;
  lc = refl;
  clock = refl;
  epoch = λ j. refl;
  lease_end = λ j. refl;
  ledgers = refl;
  waiting = refl;
  long = λ j. refl;
  acknowledged_up = λ j p. omega arith;
  acknowledged_from = λ p. inl refl;
  other = λ j n. (refl, refl);
}
keeps_acknowledgement b (x ∷ r) I = step (acknowledges b x I) (acknowledges_all b r (acknowledges b x I)) (keeps_all b x I) (keeps_acknowledgement b r (acknowledges b x I))
  where
    step : (K J : Input) → KeptByAnswer b (x ∷ []) I K → KeptByAnswer b r K J → KeptByAnswer b (x ∷ r) I J
    step K J s t = record {
      objects = t.objects ∙ s.objects;
      lc = t.lc ∙ s.lc;
      clock = t.clock ∙ s.clock;
      epoch = λ j. t.epoch j ∙ s.epoch j;
      lease_end = λ j. t.lease_end j ∙ s.lease_end j;
      ledgers = t.ledgers ∙ s.ledgers;
      waiting = t.waiting ∙ s.waiting;
      long = λ j. t.long j ∙ s.long j;
      acknowledged_up = λ j p. omega (arith, s.acknowledged_up j p, t.acknowledged_up j p);
      acknowledged_from = λ p. elim (t.acknowledged_from p) [
        | inr h ↦ inr (inr h)
        | inl e ↦ elim (s.acknowledged_from p) [
          | inl d ↦ inl (e ∙ d)
          | inr (inl d) ↦ inr (inl (d.0, d.1 ∙ sym e))
          | inr (inr d) ↦ absurd d
        ]
      ];
      other = λ j n. ((t.other j n).0 ∙ (s.other j n).0, (t.other j n).1 ∙ (s.other j n).1);
    }

-- the lists keep their lengths
pub shape_acknowledgement : (b : ℕ) (ps : List Pair) (I : Input) → InputShape I → InputShape (acknowledges_all b ps I)
shape_acknowledgement b ps I s = let t = keeps_acknowledgement b ps I in record {
  objects = ap (λ (l : List Held). length l) t.objects ∙ s.objects;
  ledgers = t.ledgers ∙ s.ledgers;
  last_acknowledged = λ j l. t.long j ∙ s.last_acknowledged j l;
  waiting = t.waiting ∙ s.waiting;
}

-- every object stays
pub held_acknowledgement : (b : ℕ) (ps : List Pair) (I : Input) (p : ℕ) → held (acknowledges_all b ps I) p ≡ held I p
held_acknowledgement b ps I p = ap (λ (l : List Held). get_or l p no_held) (keeps_acknowledgement b ps I).objects

pub lc_acknowledgement : (b : ℕ) (ps : List Pair) (I : Input) → Clocked I → Clocked (acknowledges_all b ps I)
lc_acknowledgement b ps I c p = omega (arith, c p, (keeps_acknowledgement b ps I).lc, ap held_number (held_acknowledgement b ps I p))

pub read_acknowledgement : (b : ℕ) (ps : List Pair) (I : Input) (j p : ℕ) → last_read (acknowledges_all b ps I) j p ≡ last_read I j p
read_acknowledgement b ps I j p = ap read_number (held_acknowledgement b ps I p)

-- one pair: a record of the sender's chain is kept, or it is acknowledged
chain_all : (b : ℕ) (x : Pair) (I : Input) → InputShape I → b < 8 → x.object < 16 → (p u : ℕ) → Has p u (chain I b) →
    Has p u (chain (acknowledges b x I) b) ⊎ (u ≤ last_acknowledged (acknowledges b x I) b p)
chain_all b x I s few low p u h = elim (freed_kept x.object (risen x (ledger I b).last_acknowledged) p u (chain I b) h) [
  | inl a ↦ inl (subst (Has p u) (sym (get_or-set_same I.waiting b
      (freed x.object (risen x (ledger I b).last_acknowledged) (chain I b)) [] (omega (arith, s.waiting)))) a)
  | inr a ↦ inr (omega (
    arith,
    a.1,
    ap (acknowledged_at p) (get_or-set_same I.ledgers b (acks x (ledger I b)) no_ledger (omega (arith, s.ledgers))),
    ap (λ (k : ℕ). (get_or (acks x (ledger I b)).last_acknowledged k none).0) a.0,
    ap number (get_or-set_same (ledger I b).last_acknowledged x.object (risen x (ledger I b).last_acknowledged) none
        (omega (arith, s.last_acknowledged b few))),
  ))
]

-- the same for the whole list
pub chain_acknowledgement : (b : ℕ) (ps : List Pair) (I : Input) → InputShape I → b < 8 → All (λ p. p.object < 16) ps → (p u : ℕ) → Has p u (chain I b) →
    Has p u (chain (acknowledges_all b ps I) b) ⊎ (u ≤ last_acknowledged (acknowledges_all b ps I) b p)
unfolding acknowledges_all
chain_acknowledgement b [] I s few low p u h = inl h
chain_acknowledgement b (x ∷ r) I s few low p u h = elim (chain_all b x I s few low.0 p u h) [
  | inl a ↦ chain_acknowledgement b r (acknowledges b x I) (shape_acknowledgement b (x ∷ []) I s) few low.1 p u a
  | inr a ↦ inr (omega (arith, a, (keeps_acknowledgement b r (acknowledges b x I)).acknowledged_up b p))
]

-- ---- invalidation answer: how it moves the channels

module _ (L R : ℕ) where
  -- an invalidation answer of another output server
  pub moves_other_acknowledgement : (b : ℕ) (ps : List Pair) (I : Input) (O : Output) (i j : ℕ) (log : List Message) → (b ≡ j → ⊥) →
      Moves L R (channel_of I O i j log) (channel_of (acknowledges_all b ps I) O i j log)
  moves_other_acknowledgement b ps I O i j log n =
      subst (λ (l : List Message). Moves L R (channel_of I O i j log) (channel_of (acknowledges_all b ps I) O i j l)) (append-nil log)
      (in_moves L R I (acknowledges_all b ps I) O i j [] log
      (λ p. omega (arith, ap held_number (held_acknowledgement b ps I p)))
      (omega (arith, ap (λ (e : Epoch). e.0) (t.epoch j)))
      t.clock
      (λ p. inl (read_acknowledgement b ps I j p))
      (λ p. inl (ap (acknowledged_at p) (t.other j n).0))
      (inl (ap (λ (e : Time). e.0) (t.lease_end j)))
      (λ p v h. inl (v, subst (Has p v) (sym (t.other j n).1) h, inl (omega arith)))
      (λ p h. absurd h))
    where
      t : KeptByAnswer b ps I (acknowledges_all b ps I)
      t = keeps_acknowledgement b ps I

  -- an invalidation answer of the channel's own
  pub moves_own_acknowledgement : (l : Pairs) (I : Input) (O : Output) (i j : ℕ) (log : List Message) →
      InputShape I → j < 8 → All (λ p. p.object < 16) (list_of l) → In (InvalidationAnswer j i l) log →
      Moves L R (channel_of I O i j log) (channel_of (acknowledges_all j (list_of l) I) O i j log)
  moves_own_acknowledgement l I O i j log s few low sent =
      subst (λ (r : List Message). Moves L R (channel_of I O i j log) (channel_of (acknowledges_all j (list_of l) I) O i j r)) (append-nil log)
      (in_moves L R I (acknowledges_all j (list_of l) I) O i j [] log
      (λ p. omega (arith, ap held_number (held_acknowledgement j (list_of l) I p)))
      (omega (arith, ap (λ (e : Epoch). e.0) (t.epoch j)))
      t.clock
      (λ p. inl (read_acknowledgement j (list_of l) I j p))
      (λ p. elim (t.acknowledged_from p) [
        | inl e ↦ inl e
        | inr h ↦ inr (in_any (Says i j (answer p (last_acknowledged (acknowledges_all j (list_of l) I) j p)))
            (InvalidationAnswer j i l) log sent (refl, refl, h))
      ])
      (inl (ap (λ (e : Time). e.0) (t.lease_end j)))
      (λ p v h. elim (chain_acknowledgement j (list_of l) I s few low p v h) [ inl a ↦ inl (v, a, inl (omega arith)) | inr a ↦ inr (inl a) ])
      (λ p h. absurd h))
    where
      t : KeptByAnswer j (list_of l) I (acknowledges_all j (list_of l) I)
      t = keeps_acknowledgement j (list_of l) I
