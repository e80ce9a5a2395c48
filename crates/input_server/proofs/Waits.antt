-- What a write changes: the version held, and what waits for one output server after the other.
use Rattle.std.proofs.Common.{◌≡◌, ℕ, zero, suc, ◌+◌, ◌<◌, ◌≤◌, max, Bool, true, false, ◌&&◌, ltb, List, [], ◌∷◌, get_or, set, sym, refl, ap, ◌∙◌, inl, inr, add-one, arith, get_or-set_other}
use Rattle.std.proofs.lemmas.Bool.{cond-true, cond-false, cond_both, cases_eq, and_parts}
use Rattle.numbers.specs.declared.version.Version.{Version}
use Rattle.numbers.specs.Numbers.{clock_of, last_epoch}
use Rattle.rules.specs.declared.kept.Ledger.{Ledger}
use Rattle.rules.specs.declared.pairs.Pair.{Pair}
use Rattle.rules.specs.Input.{Input, no_ledger, held, ledger, chain, owed, queued, fits, takes_write, queues_for, queues_all}
use Rattle.input_server.specs.Epochs.{has_epoch, have_epochs, next_epoch}

-- ---- the version held

pub write_taken : (o p : ℕ) (v : Version) (x : ℕ) (I : Input) (lc clock : ℕ) → p ≡ o
    → ltb (held I p).version.0 v.0 ≡ true → lc ≡ max I.lc clock → clock ≡ clock_of v
    → record {
      clock = I.clock;
      lc = lc;
      objects = set I.objects p (record { version = v; value = x; last_read = (held I p).last_read });
      ledgers = I.ledgers;
      waiting = I.waiting;
    } ≡ takes_write o v x I
unfolding takes_write
write_taken o p v x I lc clock e h m k =
    let J : ℕ → ℕ → Input = λ (n q : ℕ). record {
      clock = I.clock;
      lc = n;
      objects = set I.objects q (record { version = v; value = x; last_read = (held I q).last_read });
      ledgers = I.ledgers;
      waiting = I.waiting;
    } in
    ap (λ (n : ℕ). J n p) (m ∙ ap (max I.lc) k) ∙ ap (J (max I.lc (clock_of v))) e
    ∙ sym (cond-true (ltb (held I o).version.0 v.0) _ I (ap (λ (q : ℕ). ltb (held I q).version.0 v.0) (sym e) ∙ h))

pub write_older : (o p : ℕ) (v : Version) (x : ℕ) (I : Input) → p ≡ o
    → ltb (held I p).version.0 v.0 ≡ false → I ≡ takes_write o v x I
unfolding takes_write
write_older o p v x I e h =
    sym (cond-false (ltb (held I o).version.0 v.0) _ I (ap (λ (q : ℕ). ltb (held I q).version.0 v.0) (sym e) ∙ h))

-- ---- one output server

set_same : {A : Type 0} (l : List A) (j : ℕ) (d : A) → set l j (get_or l j d) ≡ l
set_same [] j d = refl
set_same (x ∷ l) zero d = refl
set_same (x ∷ l) (suc j) d = ap (λ (m : List _). x ∷ m) (set_same l j d)

pub queues_not : (o j : ℕ) (I : Input) → owed I o j ≡ false → I ≡ queues_for o j I
unfolding queues_for
queues_not o j I h = sym (cond-false (owed I o j) _ I h)

-- the pair that is queued
abbrev pub waits : Input → ℕ → Pair
waits I o = record { object = o; version = (held I o).version }

pub waits_at : (I : Input) (o p q : ℕ) → p ≡ o → q ≡ o → record { object = p; version = (held I q).version } ≡ waits I o
waits_at I o p q a b = ap (λ (n : ℕ). record { object = n; version = (held I q).version }) a ∙ ap (λ (n : ℕ). record { object = o; version = (held I n).version }) b

pub queues_waits : (o j : ℕ) (I : Input) (x : Pair) (cs : List (List Pair)) → x ≡ waits I o
    → owed I o j ≡ true → fits x j I.waiting ≡ true → cs ≡ set I.waiting j (queued x (chain I j))
    → record { clock = I.clock; lc = I.lc; objects = I.objects; ledgers = I.ledgers; waiting = cs } ≡ queues_for o j I
unfolding queues_for
queues_waits o j I x cs e h f q =
    let J : List Ledger → List (List Pair) → Input = λ (ls : List Ledger) (ws : List (List Pair)). record {
      clock = I.clock;
      lc = I.lc;
      objects = I.objects;
      ledgers = ls;
      waiting = ws;
    } in
    ap (J I.ledgers) (q ∙ ap (λ (y : Pair). set I.waiting j (queued y (chain I j))) e)
    ∙ ap (λ (ls : List Ledger). J ls (set I.waiting j (queued (waits I o) (chain I j)))) (sym (set_same I.ledgers j no_ledger))
    ∙ sym (cond-true (fits (waits I o) j I.waiting) _ _ (ap (λ (y : Pair). fits y j I.waiting) (sym e) ∙ f))
    ∙ sym (cond-true (owed I o j) _ I h)

pub queues_freed : (o j : ℕ) (I J : Input) (x : Pair) (cs : List (List Pair)) → x ≡ waits I o
    → owed I o j ≡ true → fits x j I.waiting ≡ false → cs ≡ set I.waiting j []
    → J ≡ next_epoch j (record { clock = I.clock; lc = I.lc; objects = I.objects; ledgers = I.ledgers; waiting = cs })
    → J ≡ queues_for o j I
unfolding queues_for
queues_freed o j I J x cs e h f q n =
    n
    ∙ ap (λ (ws : List (List Pair)). next_epoch j (record { clock = I.clock; lc = I.lc; objects = I.objects; ledgers = I.ledgers; waiting = ws })) q
    ∙ sym (cond-false (fits (waits I o) j I.waiting) _ _ (ap (λ (y : Pair). fits y j I.waiting) (sym e) ∙ f))
    ∙ sym (cond-true (owed I o j) _ I h)

-- ---- all of them

pub queues_more : (o m : ℕ) (I J K : Input) → J ≡ queues_all o m I → K ≡ queues_for o m J → K ≡ queues_all o (m + 1) I
unfolding queues_all
queues_more o m I J K a b = b ∙ ap (queues_for o m) a ∙ sym (ap (λ (n : ℕ). queues_all o n I) (add-one m))

queues_none : (o : ℕ) (I : Input) → I ≡ queues_all o 0 I
unfolding queues_all
queues_none o I = refl

-- so far, whether or not a turn was made
pub queues_so_far : (o n : ℕ) (I J : Input) → (n ≡ 0 → J ≡ I) → (0 < n → J ≡ queues_all o n I) → J ≡ queues_all o n I
queues_so_far o n I J a b = elim (cases_eq n 0) [
  | inl e ↦ a e ∙ queues_none o I ∙ ap (λ (k : ℕ). queues_all o k I) (sym e)
  | inr e ↦ b (omega arith)
]

-- what is kept of an output server changes only at its own turn
queues_other : (o m : ℕ) (I : Input) (j : ℕ) → m < j → ledger (queues_for o m I) j ≡ ledger I j
unfolding queues_for
queues_other o m I j h =
    cond_both (owed I o m) _ I (λ (K : Input). ledger K j ≡ ledger I j)
    (λ _. cond_both (fits (waits I o) m I.waiting) _ _ (λ (K : Input). ledger K j ≡ ledger I j)
    (λ _. get_or-set_other I.ledgers m j _ no_ledger (λ e. omega (arith, e, h)))
    (λ _. get_or-set_other I.ledgers m j _ no_ledger (λ e. omega (arith, e, h))))
    (λ _. refl)

queues_later : (o m : ℕ) (I : Input) (j : ℕ) → m ≤ j → ledger (queues_all o m I) j ≡ ledger I j
unfolding queues_all
queues_later o zero I j h = refl
queues_later o (suc m) I j h = queues_other o m (queues_all o m I) j (omega arith) ∙ queues_later o m I j (omega arith)

-- all that are asked for have one
epoch_at : (ls : List Ledger) (m j : ℕ) → j < m → have_epochs ls m ≡ true → has_epoch ls j ≡ true
epoch_at ls zero j h e = absurd (omega arith)
epoch_at ls (suc m) j h e = elim (cases_eq j m) [
  | inl k ↦ ap (has_epoch ls) k ∙ (and_parts (have_epochs ls m) (has_epoch ls m) e).1
  | inr n ↦ epoch_at ls m j (omega (arith, h, n)) (and_parts (have_epochs ls m) (has_epoch ls m) e).0
]

-- at the turn of output server j its epoch is as it was
pub epoch_left : (o m j : ℕ) (I J : Input) → j < m → have_epochs I.ledgers m ≡ true → J ≡ queues_all o j I → has_epoch J.ledgers j ≡ true
epoch_left o m j I J h e q =
    ap (λ (K : Input). has_epoch K.ledgers j) q
    ∙ ap (λ (l : Ledger). ltb l.epoch.0 last_epoch) (queues_later o j I j (omega arith))
    ∙ epoch_at I.ledgers m j h e

-- one turn more of the loop that looks at the epochs
pub epochs_more : (ls : List Ledger) (m : ℕ) (a b : Bool) → a ≡ have_epochs ls m → b ≡ (a && has_epoch ls m) → b ≡ have_epochs ls (m + 1)
epochs_more ls m a b e f = f ∙ ap (λ (t : Bool). t && has_epoch ls m) e ∙ sym (ap (have_epochs ls) (add-one m))

-- taking a version leaves what is kept of the output servers
pub write_ledgers : (o : ℕ) (v : Version) (x : ℕ) (I : Input) → (takes_write o v x I).ledgers ≡ I.ledgers
unfolding takes_write
write_ledgers o v x I = cond_both (ltb (held I o).version.0 v.0) _ I (λ (J : Input). J.ledgers ≡ I.ledgers) (λ _. refl) (λ _. refl)
