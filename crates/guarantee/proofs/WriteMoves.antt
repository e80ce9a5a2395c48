-- How a write request moves the channels of its input server, and what it keeps.
use Rattle.std.proofs.Common.{◌≡◌, ℕ, zero, suc, ◌+◌, ◌<◌, ◌≤◌, max, false, cond, not, ◌&&◌, eqb, ltb, leb, ◌⊎◌, List, [], ◌∷◌, ◌++◌, length, get_or, set, sym, refl, ap, ◌∙◌, subst, ap₂, subst₂, inl, inr, arith, length-append, length-set, get_or-set_other, get_or-set_same}
use Rattle.std.proofs.lemmas.Bool.{cases_eq, cond_both, eqb-true, leb-false, ltb-true, ltb-false, not-false, and_cases}
use Rattle.quorum.specs.Sets.{set_of}
use Rattle.numbers.specs.declared.epoch.Epoch.{Epoch}
use Rattle.rules.specs.declared.kept.Held.{Held}
use Rattle.rules.specs.declared.kept.Ledger.{Ledger}
use Rattle.rules.specs.declared.message.Message.{Message}
use Rattle.rules.specs.declared.message.Message.TheVariants.{WriteAnswer, Invalidation}
use Rattle.rules.specs.declared.pairs.Pair.{Pair}
use Rattle.numbers.specs.declared.time.Time.{Time}
use Rattle.numbers.specs.declared.version.Version.{Version}
use Rattle.rules.specs.Input.{Input, no_held, no_ledger, held, ledger, chain, last_read, last_acknowledged, is_shut_out, queued, fits}
use Rattle.rules.specs.Input.{takes_write, owed, with_chain, queues_for, queues_all, after_write, invalidations, answers_write}
use Rattle.numbers.specs.Numbers.{none, clock_of}
use Rattle.rules.specs.Output.{Output}
use Rattle.guarantee.proofs.Channel.{Has, Part, copy, Inv, Moves, Queued}
use Rattle.guarantee.proofs.ChannelOf.{Says, channel_of, Quiet, InputShape}
use Rattle.guarantee.proofs.Words.{set_from, Any, All, any_split, all-++, each_all, each_length}
use Rattle.guarantee.proofs.InputMoves.{number, held_number, the_acknowledged, the_lease_end, epoch_number, queued_new, queued_kept, in_moves}

-- ---- write request: the version taken

-- every version that the server holds has a clock of at most lc
abbrev pub Clocked : Input → Type 0
Clocked I = (p : ℕ) → clock_of (held I p).version ≤ I.lc

-- the object p of a write of o: as it was, or with the version and value written
abbrev pub Wrote : ℕ → Version → ℕ → Input → Input → ℕ → Type 0
Wrote o v x I J p = (((held J p).version ≡ (held I p).version) × ((held J p).value ≡ (held I p).value))
    ⊎ ((p ≡ o) × ((held J p).version ≡ v) × ((held J p).value ≡ x))

-- what taking a version does to the server
pub record Took (o : ℕ) (v : Version) (x : ℕ) (I J : Input) : Type 0 where
  pub clock : J.clock ≡ I.clock
  pub ledgers : J.ledgers ≡ I.ledgers
  pub waiting : J.waiting ≡ I.waiting
  pub long : length J.objects ≡ length I.objects
  pub last_read : (p : ℕ) → (held J p).last_read ≡ (held I p).last_read
  pub up : (p : ℕ) → (held I p).version.0 ≤ (held J p).version.0
  pub wrote : (p : ℕ) → Wrote o v x I J p
  pub lc_up : I.lc ≤ J.lc
  pub lc_held : Clocked I → Clocked J
  pub lc_new : Clocked I → clock_of v ≤ J.lc

-- the object with the version and value written
abbrev written : Version → ℕ → Held → Held
written v x h = record { version = v; value = x; last_read = h.last_read }

-- the server where the version is taken
abbrev taken : ℕ → Version → ℕ → Input → Input
taken o v x I = record {
  clock = I.clock;
  lc = max I.lc (clock_of v);
  objects = set I.objects o (written v x (held I o));
  ledgers = I.ledgers;
  waiting = I.waiting;
}

pub took : (o : ℕ) (v : Version) (x : ℕ) (I : Input) → Took o v x I (takes_write o v x I)
unfolding takes_write
took o v x I = cond_both (ltb (held I o).version.0 v.0) (taken o v x I) I (Took o v x I)
    (λ e. above (ltb-true (held I o).version.0 v.0 e)) (λ e. below (ltb-false (held I o).version.0 v.0 e))
  where
    new : (p : ℕ) → (held (taken o v x I) p ≡ held I p) ⊎ ((o ≡ p) × (held (taken o v x I) p ≡ written v x (held I o)))
    new p = set_from I.objects o p (written v x (held I o)) no_held

    above : (held I o).version.0 < v.0 → Took o v x I (taken o v x I)
    above l = record {
      clock = refl;
      ledgers = refl;
      waiting = refl;
      long = length-set I.objects o (written v x (held I o));
      last_read = λ p. elim (new p) [
        | inl e ↦ ap (λ (y : Held). y.last_read) e
        | inr e ↦ ap (λ (y : Held). y.last_read) e.1 ∙ ap (λ (k : ℕ). (held I k).last_read) e.0
      ];
      up = λ p. elim (new p) [
        | inl e ↦ omega (arith, ap held_number e)
        | inr e ↦ omega (arith, ap held_number e.1, ap (λ (k : ℕ). (held I k).version.0) e.0)
      ];
      wrote = λ p. elim (new p) [
        | inl e ↦ inl (ap (λ (y : Held). y.version) e, ap (λ (y : Held). y.value) e)
        | inr e ↦ inr (sym e.0, ap (λ (y : Held). y.version) e.1, ap (λ (y : Held). y.value) e.1)
      ];
      lc_up = omega arith;
      lc_held = λ c p. elim (new p) [
        | inl e ↦ omega (arith, c p, ap held_number e)
        | inr e ↦ omega (arith, ap held_number e.1)
      ];
      lc_new = λ c. omega arith;
    }

    below : v.0 ≤ (held I o).version.0 → Took o v x I I
    below l = record {
      clock = refl;
      ledgers = refl;
      waiting = refl;
      long = refl;
      last_read = λ p. refl;
      up = λ p. omega arith;
      wrote = λ p. inl (refl, refl);
      lc_up = omega arith;
      lc_held = λ c. c;
      lc_new = λ c. omega (arith, c o);
    }

-- the version written is then held, or a higher one
took_holds : (o : ℕ) (v : Version) (x : ℕ) (I : Input) → o < length I.objects → v.0 ≤ (held (takes_write o v x I) o).version.0
unfolding takes_write
took_holds o v x I l = cond_both (ltb (held I o).version.0 v.0) (taken o v x I) I (λ (J : Input). v.0 ≤ (held J o).version.0)
    (λ e. omega (arith, ap held_number (get_or-set_same I.objects o (written v x (held I o)) no_held l)))
    (λ e. ltb-false (held I o).version.0 v.0 e)

-- ---- write request: what queueing leaves

-- the object with the version held
abbrev pub pair_of : ℕ → Input → Pair
pair_of o I = record { object = o; version = (held I o).version }

-- the chain r with o queued at the version that the objects l have
abbrev requeued : ℕ → List Held → List Pair → List Pair
requeued o l r = queued (record { object = o; version = (get_or l o no_held).version }) r

-- the chain c and the epoch e that queueing o for j leaves: as they were since j is not owed it, queued, or freed with the next epoch
abbrev pub Outcome : ℕ → Input → ℕ → List Pair → ℕ → Type 0
Outcome o I j c e = ((c ≡ chain I j) × (e ≡ (ledger I j).epoch.0) × (owed I o j ≡ false))
    ⊎ ((c ≡ queued (pair_of o I) (chain I j)) × (e ≡ (ledger I j).epoch.0))
    ⊎ ((c ≡ []) × (e ≡ (ledger I j).epoch.0 + 1))

-- what queueing o for the output servers below c keeps
pub record Swept (o c : ℕ) (I J : Input) : Type 0 where
  pub objects : J.objects ≡ I.objects
  pub lc : J.lc ≡ I.lc
  pub clock : J.clock ≡ I.clock
  pub last_acknowledged : (j : ℕ) → (ledger J j).last_acknowledged ≡ (ledger I j).last_acknowledged
  pub lease_end : (j : ℕ) → (ledger J j).lease_end ≡ (ledger I j).lease_end
  pub epoch : (j : ℕ) → ((ledger I j).epoch.0 ≤ (ledger J j).epoch.0) × ((ledger J j).epoch.0 ≤ (ledger I j).epoch.0 + 1)
  pub ledgers : length J.ledgers ≡ length I.ledgers
  pub waiting : length J.waiting ≡ length I.waiting
  pub after : (j : ℕ) → c ≤ j → (chain J j ≡ chain I j) × ((ledger J j).epoch.0 ≡ (ledger I j).epoch.0)

-- the ledger with another epoch
abbrev in_epoch : Epoch → Ledger → Ledger
in_epoch e l = record { last_acknowledged = l.last_acknowledged; epoch = e; lease_end = l.lease_end }

module _ (c : ℕ) (x : List Pair) (e : Epoch) (K : Input) where
  -- one chain changed: its place, and the others
  chain_same : c < length K.waiting → chain (with_chain c x e K) c ≡ x
  chain_same h = get_or-set_same K.waiting c x [] h

  chain_other : (j : ℕ) → (c ≡ j → ⊥) → chain (with_chain c x e K) j ≡ chain K j
  chain_other j n = get_or-set_other K.waiting c j x [] (λ d. n (sym d))

  epoch_same : c < length K.ledgers → (ledger (with_chain c x e K) c).epoch.0 ≡ e.0
  epoch_same h = ap epoch_number (get_or-set_same K.ledgers c (in_epoch e (ledger K c)) no_ledger h)

  epoch_other : (j : ℕ) → (c ≡ j → ⊥) → (ledger (with_chain c x e K) j).epoch.0 ≡ (ledger K j).epoch.0
  epoch_other j n = ap epoch_number (get_or-set_other K.ledgers c j (in_epoch e (ledger K c)) no_ledger (λ d. n (sym d)))

  -- each ledger is as it was, or it is that of c with another epoch
  ledger_from : (j : ℕ) → (ledger (with_chain c x e K) j ≡ ledger K j) ⊎ ((c ≡ j) × (ledger (with_chain c x e K) j ≡ in_epoch e (ledger K c)))
  ledger_from j = set_from K.ledgers c j (in_epoch e (ledger K c)) no_ledger

  chain_acked : (j : ℕ) → (ledger (with_chain c x e K) j).last_acknowledged ≡ (ledger K j).last_acknowledged
  chain_acked j = elim (ledger_from j) [
    | inl d ↦ ap the_acknowledged d
    | inr d ↦ ap the_acknowledged d.1 ∙ ap (λ (k : ℕ). (ledger K k).last_acknowledged) d.0
  ]

  chain_until : (j : ℕ) → (ledger (with_chain c x e K) j).lease_end ≡ (ledger K j).lease_end
  chain_until j = elim (ledger_from j) [
    | inl d ↦ ap the_lease_end d
    | inr d ↦ ap the_lease_end d.1 ∙ ap (λ (k : ℕ). (ledger K k).lease_end) d.0
  ]

  -- the sweep goes on past c, of which it left the epoch or took the next
  rechained : (o : ℕ) (I : Input) → Swept o c I K → ((ledger K c).epoch.0 ≤ e.0) × (e.0 ≤ (ledger K c).epoch.0 + 1) →
      Swept o (suc c) I (with_chain c x e K)
  rechained o I s b = record {
    objects = s.objects;
    lc = s.lc;
    clock = s.clock;
    last_acknowledged = λ j. chain_acked j ∙ s.last_acknowledged j;
    lease_end = λ j. chain_until j ∙ s.lease_end j;
    epoch = λ j. elim (ledger_from j) [
      | inl d ↦ let y = s.epoch j in let z = ap epoch_number d in (omega arith, omega arith)
      | inr d ↦ let y = (s.after j (omega arith)).1 in let z = ap epoch_number d.1 in
          let w = ap (λ (k : ℕ). (ledger K k).epoch.0) d.0 in (omega arith, omega arith)
    ];
    ledgers = length-set K.ledgers c (in_epoch e (ledger K c)) ∙ s.ledgers;
    waiting = length-set K.waiting c x ∙ s.waiting;
    after = λ j l. (
      chain_other j (λ d. omega arith) ∙ (s.after j (omega arith)).0,
      epoch_other j (λ d. omega arith) ∙ (s.after j (omega arith)).1,
    );
  }

-- the same where nothing is queued for c
passed : (o c : ℕ) (I K : Input) → Swept o c I K → Swept o (suc c) I K
passed o c I K s = record {
  objects = s.objects;
  lc = s.lc;
  clock = s.clock;
  last_acknowledged = s.last_acknowledged;
  lease_end = s.lease_end;
  epoch = s.epoch;
  ledgers = s.ledgers;
  waiting = s.waiting;
  after = λ j l. s.after j (omega arith);
}

-- the three ways of queueing o for c
queues_cases : (o c : ℕ) (K : Input) (P : Input → Type 0) →
    P (with_chain c (queued (pair_of o K) (chain K c)) (ledger K c).epoch K) →
    P (with_chain c [] (record { 0 = (ledger K c).epoch.0 + 1 }) K) →
    (owed K o c ≡ false → P K) →
    P (queues_for o c K)
unfolding queues_for
queues_cases o c K P a b f = cond_both (owed K o c)
    (cond (fits (pair_of o K) c K.waiting)
    (with_chain c (queued (pair_of o K) (chain K c)) (ledger K c).epoch K) (with_chain c [] (record { 0 = (ledger K c).epoch.0 + 1 }) K))
    K P
    (λ _. cond_both (fits (pair_of o K) c K.waiting)
    (with_chain c (queued (pair_of o K) (chain K c)) (ledger K c).epoch K) (with_chain c [] (record { 0 = (ledger K c).epoch.0 + 1 }) K) P
    (λ _. a) (λ _. b))
    f

-- what the whole sweep keeps
pub swept : (o m : ℕ) (I : Input) → Swept o m I (queues_all o m I)
unfolding queues_all
swept o zero I = record {
  objects = refl;
  lc = refl;
  clock = refl;
  last_acknowledged = λ j. refl;
  lease_end = λ j. refl;
  epoch = λ j. (omega arith, omega arith);
  ledgers = refl;
  waiting = refl;
  after = λ j l. (refl, refl);
}
swept o (suc c) I = step (queues_all o c I) (swept o c I)
  where
    step : (K : Input) → Swept o c I K → Swept o (suc c) I (queues_for o c K)
    step K s = queues_cases o c K (Swept o (suc c) I)
        (rechained c (queued (pair_of o K) (chain K c)) (ledger K c).epoch K o I s (omega arith, omega arith))
        (rechained c [] (record { 0 = (ledger K c).epoch.0 + 1 }) K o I s (omega arith, omega arith))
        (λ _. passed o c I K s)

-- queueing for c leaves what another output server has
queues_other : (o c : ℕ) (K : Input) (j : ℕ) → (c ≡ j → ⊥) →
    (chain (queues_for o c K) j ≡ chain K j) × ((ledger (queues_for o c K) j).epoch.0 ≡ (ledger K j).epoch.0)
queues_other o c K j n = queues_cases o c K (λ (J : Input). (chain J j ≡ chain K j) × ((ledger J j).epoch.0 ≡ (ledger K j).epoch.0)) (
  chain_other c (queued (pair_of o K) (chain K c)) (ledger K c).epoch K j n,
  epoch_other c (queued (pair_of o K) (chain K c)) (ledger K c).epoch K j n,
)
    (chain_other c [] (record { 0 = (ledger K c).epoch.0 + 1 }) K j n, epoch_other c [] (record { 0 = (ledger K c).epoch.0 + 1 }) K j n)
    (λ _. (refl, refl))

-- queueing for c comes out in one of three ways
queues_own : (o c : ℕ) (I K : Input) → Swept o c I K → c < length I.ledgers → c < length I.waiting →
    Outcome o I c (chain (queues_for o c K) c) (ledger (queues_for o c K) c).epoch.0
queues_own o c I K s h k = queues_cases o c K (λ (J : Input). Outcome o I c (chain J c) (ledger J c).epoch.0)
    (inr (inl (
      chain_same c (queued (pair_of o K) (chain K c)) (ledger K c).epoch K wide ∙ pair,
      epoch_same c (queued (pair_of o K) (chain K c)) (ledger K c).epoch K long ∙ same.1,
    )))
    (inr (inr (
      chain_same c [] (record { 0 = (ledger K c).epoch.0 + 1 }) K wide,
      epoch_same c [] (record { 0 = (ledger K c).epoch.0 + 1 }) K long ∙ ap (λ (y : ℕ). y + 1) same.1,
    )))
    (λ f. inl (same.0, same.1, sym owes ∙ f))
  where
    same : (chain K c ≡ chain I c) × ((ledger K c).epoch.0 ≡ (ledger I c).epoch.0)
    same = s.after c (omega arith)

    long : c < length K.ledgers
    long = omega (arith, s.ledgers)

    wide : c < length K.waiting
    wide = omega (arith, s.waiting)

    pair : queued (pair_of o K) (chain K c) ≡ queued (pair_of o I) (chain I c)
    pair = ap₂ (requeued o) s.objects same.0

    owes : owed K o c ≡ owed I o c
    owes = ap₂ (λ (l : List Held) (a : List Version).
        not (eqb (get_or l o no_held).last_read.0 0) && leb (get_or a o none).0 (get_or l o no_held).last_read.0) s.objects (s.last_acknowledged c)

-- so does the whole sweep, for each output server that it comes to
pub outcome : (o m : ℕ) (I : Input) → m ≤ length I.ledgers → m ≤ length I.waiting → (j : ℕ) → j < m →
    Outcome o I j (chain (queues_all o m I) j) (ledger (queues_all o m I) j).epoch.0
unfolding queues_all
outcome o zero I h k j l = absurd (omega arith)
outcome o (suc c) I h k j l = elim (cases_eq c j) [
  | inl d ↦ subst
      (λ (y : ℕ). Outcome o I y (chain (queues_for o c (queues_all o c I)) y) (ledger (queues_for o c (queues_all o c I)) y).epoch.0)
      d (queues_own o c I (queues_all o c I) (swept o c I) (omega arith) (omega arith))
  | inr n ↦ let q = queues_other o c (queues_all o c I) j n in
      subst₂ (λ (x : List Pair) (y : ℕ). Outcome o I j x y) (sym q.0) (sym q.1)
      (outcome o c I (omega arith) (omega arith) j (omega arith))
]

-- ---- write request: what it does to the server

-- no version held falls
pub up_write : (m o : ℕ) (v : Version) (x : ℕ) (I : Input) (p : ℕ) → (held I p).version.0 ≤ (held (after_write m o v x I) p).version.0
up_write m o v x I p = omega (
  arith,
  (took o v x I).up p,
  ap (λ (r : List Held). held_number (get_or r p no_held)) (swept o m (takes_write o v x I)).objects,
)

-- each object is as it was, or it is the one written, with the version and value written
pub held_write : (m o : ℕ) (v : Version) (x : ℕ) (I : Input) (p : ℕ) →
    (((held (after_write m o v x I) p).version ≡ (held I p).version) × ((held (after_write m o v x I) p).value ≡ (held I p).value))
    ⊎ ((p ≡ o) × ((held (after_write m o v x I) p).version ≡ v) × ((held (after_write m o v x I) p).value ≡ x))
held_write m o v x I p = subst (λ (l : List Held). (((get_or l p no_held).version ≡ (held I p).version) × ((get_or l p no_held).value ≡ (held I p).value))
    ⊎ ((p ≡ o) × ((get_or l p no_held).version ≡ v) × ((get_or l p no_held).value ≡ x)))
    (sym (swept o m (takes_write o v x I)).objects) ((took o v x I).wrote p)

-- the server then holds at least the version written
pub holds_write : (m o : ℕ) (v : Version) (x : ℕ) (I : Input) → InputShape I → o < 16 → v.0 ≤ (held (after_write m o v x I) o).version.0
holds_write m o v x I s l = omega (
  arith,
  took_holds o v x I (omega (arith, s.objects)),
  ap (λ (k : List Held). (get_or k o no_held).version.0) (swept o m (takes_write o v x I)).objects,
)

-- what any output server was given of an object stays
pub all_read_write : (m o : ℕ) (v : Version) (x : ℕ) (I : Input) (p : ℕ) → (held (after_write m o v x I) p).last_read ≡ (held I p).last_read
all_read_write m o v x I p = ap (λ (l : List Held). (get_or l p no_held).last_read) (swept o m (takes_write o v x I)).objects ∙ (took o v x I).last_read p

pub read_write : (m o : ℕ) (v : Version) (x : ℕ) (I : Input) (j p : ℕ) → last_read (after_write m o v x I) j p ≡ last_read I j p
read_write m o v x I j p = ap number (all_read_write m o v x I p)

-- what an output server acknowledged stays
pub all_acknowledged_write : (m o : ℕ) (v : Version) (x : ℕ) (I : Input) (j : ℕ) → (ledger (after_write m o v x I) j).last_acknowledged ≡ (ledger I j).last_acknowledged
all_acknowledged_write m o v x I j = (swept o m (takes_write o v x I)).last_acknowledged j ∙ ap (λ (l : List Ledger). (get_or l j no_ledger).last_acknowledged) (took o v x I).ledgers

pub acknowledged_write : (m o : ℕ) (v : Version) (x : ℕ) (I : Input) (j p : ℕ) → last_acknowledged (after_write m o v x I) j p ≡ last_acknowledged I j p
acknowledged_write m o v x I j p = ap (λ (a : List Version). (get_or a p none).0) (all_acknowledged_write m o v x I j)

-- leases and the clock stay
pub lease_end_write : (m o : ℕ) (v : Version) (x : ℕ) (I : Input) (j : ℕ) → (ledger (after_write m o v x I) j).lease_end ≡ (ledger I j).lease_end
lease_end_write m o v x I j = (swept o m (takes_write o v x I)).lease_end j ∙ ap (λ (l : List Ledger). (get_or l j no_ledger).lease_end) (took o v x I).ledgers

pub clock_write : (m o : ℕ) (v : Version) (x : ℕ) (I : Input) → (after_write m o v x I).clock ≡ I.clock
clock_write m o v x I = (swept o m (takes_write o v x I)).clock ∙ (took o v x I).clock

-- an epoch stays, or the next one begins
pub epoch_write : (m o : ℕ) (v : Version) (x : ℕ) (I : Input) (j : ℕ) →
    ((ledger I j).epoch.0 ≤ (ledger (after_write m o v x I) j).epoch.0)
    × ((ledger (after_write m o v x I) j).epoch.0 ≤ (ledger I j).epoch.0 + 1)
epoch_write m o v x I j = let a = (swept o m (takes_write o v x I)).epoch j in
    let b = ap (λ (l : List Ledger). (get_or l j no_ledger).epoch.0) (took o v x I).ledgers in (omega arith, omega arith)

-- the highest clock rises, stays above that of every version held, and comes above that of the version written
pub lc_write : (m o : ℕ) (v : Version) (x : ℕ) (I : Input) →
    (I.lc ≤ (after_write m o v x I).lc) × (Clocked I → Clocked (after_write m o v x I)) × (Clocked I → clock_of v ≤ (after_write m o v x I).lc)
lc_write m o v x I = let t = took o v x I in let s = swept o m (takes_write o v x I) in (
  omega (arith, t.lc_up, s.lc),
  λ c p. omega (arith, t.lc_held c p, s.lc, ap (λ (r : List Held). held_number (get_or r p no_held)) s.objects),
  λ c. omega (arith, t.lc_new c, s.lc),
)

-- the lists keep their lengths
pub shape_write : (m o : ℕ) (v : Version) (x : ℕ) (I : Input) → InputShape I → InputShape (after_write m o v x I)
shape_write m o v x I h = let t = took o v x I in let s = swept o m (takes_write o v x I) in record {
  objects = ap (λ (l : List Held). length l) s.objects ∙ t.long ∙ h.objects;
  ledgers = s.ledgers ∙ ap (λ (l : List Ledger). length l) t.ledgers ∙ h.ledgers;
  last_acknowledged = λ j l. ap (λ (a : List Version). length a) (all_acknowledged_write m o v x I j) ∙ h.last_acknowledged j l;
  waiting = s.waiting ∙ ap (λ (l : List (List Pair)). length l) t.waiting ∙ h.waiting;
}

-- the chain and the epoch of each output server below m
pub outcome_write : (m o : ℕ) (v : Version) (x : ℕ) (I : Input) → InputShape I → m ≤ 8 → (j : ℕ) → j < m →
    ((chain (after_write m o v x I) j ≡ chain I j) × ((ledger (after_write m o v x I) j).epoch.0 ≡ (ledger I j).epoch.0)
    × ((last_read I j o ≡ 0) ⊎ (last_read I j o < last_acknowledged I j o)))
    ⊎ ((chain (after_write m o v x I) j ≡ queued (pair_of o (after_write m o v x I)) (chain I j))
    × ((ledger (after_write m o v x I) j).epoch.0 ≡ (ledger I j).epoch.0))
    ⊎ ((chain (after_write m o v x I) j ≡ []) × ((ledger (after_write m o v x I) j).epoch.0 ≡ (ledger I j).epoch.0 + 1))
outcome_write m o v x I h few j l = elim (outcome o m K (omega (arith, h.ledgers, long)) (omega (arith, h.waiting, wide)) j l) [
  | inl y ↦ inl (y.0 ∙ chains, omega (arith, y.1, epochs), free y.2)
  | inr (inl y) ↦ inr (inl (y.0 ∙ ap₂ (requeued o) (sym (swept o m K).objects) chains, omega (arith, y.1, epochs)))
  | inr (inr y) ↦ inr (inr (y.0, omega (arith, y.1, epochs)))
]
  where
    K : Input
    K = takes_write o v x I

    long : length K.ledgers ≡ length I.ledgers
    long = ap (λ (l : List Ledger). length l) (took o v x I).ledgers

    wide : length K.waiting ≡ length I.waiting
    wide = ap (λ (l : List (List Pair)). length l) (took o v x I).waiting

    chains : chain K j ≡ chain I j
    chains = ap (λ (l : List (List Pair)). get_or l j []) (took o v x I).waiting

    epochs : (ledger K j).epoch.0 ≡ (ledger I j).epoch.0
    epochs = ap (λ (l : List Ledger). (get_or l j no_ledger).epoch.0) (took o v x I).ledgers

    free : owed K o j ≡ false → (last_read I j o ≡ 0) ⊎ (last_read I j o < last_acknowledged I j o)
    free f = let r = ap number ((took o v x I).last_read o) in
        let a = ap (λ (l : List Ledger). (get_or (get_or l j no_ledger).last_acknowledged o none).0) (took o v x I).ledgers in
        elim (and_cases (not (eqb (last_read K j o) 0)) (leb (last_acknowledged K j o) (last_read K j o)) f) [
          | inl e ↦ inl (omega (arith, eqb-true (last_read K j o) 0 (not-false (eqb (last_read K j o) 0) e)))
          | inr e ↦ inr (omega (arith, leb-false (last_acknowledged K j o) (last_read K j o) e))
        ]

-- ---- write request: what it logs

-- what holds of every invalidation that a write can log
pub told_write : (Q : Message → Type 0) (k m o : ℕ) (J : Input) →
    ((j : ℕ) → j < m → is_shut_out J o j ≡ false → Q (Invalidation k j o (held J o).version)) → All Q (invalidations k m o J)
told_write Q k m o J f = each_all Q m (λ j. cond (is_shut_out J o j) [] (Invalidation k j o (held J o).version ∷ []))
    (λ j l. cond_both (is_shut_out J o j) [] (Invalidation k j o (held J o).version ∷ []) (All Q) (λ _. tt) (λ e. (f j l e, tt)))

-- what holds of those and of the answer holds of all that is logged
pub names_below_write : (Q : Message → Type 0) (k p m o : ℕ) (J : Input) →
    ((j : ℕ) → j < m → is_shut_out J o j ≡ false → Q (Invalidation k j o (held J o).version)) →
    Q (WriteAnswer k p (record { 0 = set_of m (is_shut_out J o) })) → All Q (answers_write k p m o J)
names_below_write Q k p m o J f g =
    all-++ Q (invalidations k m o J) (WriteAnswer k p (record { 0 = set_of m (is_shut_out J o) }) ∷ []) (told_write Q k m o J f) (g, tt)

pub names_write : (Q : Message → Type 0) (k p m o : ℕ) (J : Input) → ((j : ℕ) → Q (Invalidation k j o (held J o).version)) →
    Q (WriteAnswer k p (record { 0 = set_of m (is_shut_out J o) })) → All Q (answers_write k p m o J)
names_write Q k p m o J f g = names_below_write Q k p m o J (λ j l e. f j) g

-- at most one message for each output server, and the answer
pub length_write : (k p m o : ℕ) (J : Input) → length (answers_write k p m o J) ≤ m + 1
length_write k p m o J =
    let a = length-append (invalidations k m o J) (WriteAnswer k p (record { 0 = set_of m (is_shut_out J o) }) ∷ []) in
    let b = each_length m (λ j. cond (is_shut_out J o j) [] (Invalidation k j o (held J o).version ∷ []))
    (λ j. cond_both (is_shut_out J o j) [] (Invalidation k j o (held J o).version ∷ []) (λ (l : List Message). length l ≤ 1)
    (λ _. omega arith) (λ _. omega arith)) in
    omega arith

-- messages that say nothing one by one say nothing together
pub quiet_all : (i j : ℕ) (new : List Message) → All (λ y. (p : Part) → Says i j p y → ⊥) new → Quiet i j new
quiet_all i j [] h p a = a
quiet_all i j (y ∷ r) h p (inl a) = h.0 p a
quiet_all i j (y ∷ r) h p (inr a) = quiet_all i j r h.1 p a

-- what a write logs says nothing to any channel
pub quiet_write : (i j k p m o : ℕ) (J : Input) → Quiet i j (answers_write k p m o J)
quiet_write i j k p m o J = quiet_all i j (answers_write k p m o J) (names_write (λ y. (q : Part) → Says i j q y → ⊥) k p m o J (λ b q h. h) (λ q h. h))

pub quiet_invalidations : (i j k m o : ℕ) (J : Input) → Quiet i j (invalidations k m o J)
quiet_invalidations i j k m o J = quiet_all i j (invalidations k m o J) (told_write (λ y. (q : Part) → Says i j q y → ⊥) k m o J (λ b l e q h. h))

-- what the log says after quiet messages, it said before
pub quiet_old : (i j : ℕ) (new log : List Message) → Quiet i j new → (p : Part) → Any (Says i j p) (log ++ new) → Any (Says i j p) log
quiet_old i j new log q p h = elim (any_split (Says i j p) log new h) [ inl a ↦ a | inr a ↦ absurd (q p a) ]

-- ---- write request: how it moves the channels

module _ (L R : ℕ) where
  -- a write request moves every channel
  pub moves_write : (m o : ℕ) (v : Version) (x : ℕ) (I : Input) (O : Output) (i j : ℕ) (new log : List Message) →
      InputShape I → m ≤ 8 → j < m → Quiet i j new → Moves L R (channel_of I O i j log) (channel_of (after_write m o v x I) O i j (log ++ new))
  moves_write m o v x I O i j new log s few l q = in_moves L R I (after_write m o v x I) O i j new log
      (up_write m o v x I) (epoch_write m o v x I j).0 (clock_write m o v x I) (λ p. inl (read_write m o v x I j p)) (λ p. inl (acknowledged_write m o v x I j p))
      (inl (ap (λ (t : Time). t.0) (lease_end_write m o v x I j)))
      (λ p u h. elim (outcome_write m o v x I s few j l) [
        | inl y ↦ inl (u, subst (Has p u) (sym y.0) h, inl (omega arith))
        | inr (inl y) ↦ elim (queued_kept pair p u (chain I j) h) [
          | inl a ↦ inl (u, subst (Has p u) (sym y.0) a, inl (omega arith))
          | inr e ↦ inl (
            pair.version.0,
            subst (Has p pair.version.0) (sym y.0) (now p e),
            inr (ap (λ (z : ℕ). (held (after_write m o v x I) z).version.0) e),
          )
        ]
        | inr (inr y) ↦ inr (inr (omega (arith, y.1)))
      ])
      (λ p h. absurd (q p h))
    where
      pair : Pair
      pair = pair_of o (after_write m o v x I)

      now : (p : ℕ) → o ≡ p → Has p pair.version.0 (queued pair (chain I j))
      now p e = subst (λ (z : ℕ). Has z pair.version.0 (queued pair (chain I j))) e (queued_new pair (chain I j))

  -- right after a write the object is queued for every output server, or needs no queueing
  pub queued_write : (m o : ℕ) (v : Version) (x : ℕ) (I : Input) (O : Output) (i j : ℕ) (new log : List Message) →
      InputShape I → m ≤ 8 → j < m → Inv L R (channel_of I O i j log) → Quiet i j new →
      Queued (channel_of (after_write m o v x I) O i j (log ++ new)) o
  queued_write m o v x I O i j new log s few l k q = elim (outcome_write m o v x I s few j l) [
    | inl y ↦ elim y.2 [
      | inl z ↦ inl (read_write m o v x I j o ∙ z)
      | inr z ↦ inr (inl (omega (arith, read_write m o v x I j o, acknowledged_write m o v x I j o)))
    ]
    | inr (inl y) ↦ inr (inr (inl (subst (Has o (held (after_write m o v x I) o).version.0) (sym y.0)
        (queued_new (pair_of o (after_write m o v x I)) (chain I j)))))
    | inr (inr y) ↦ inr (inr (inr (λ w e h. omega (arith, y.1, k.copy_ok o w e (quiet_old i j new log q (copy o w e) h)))))
  ]
