-- The laws of a renewal request at an input server.
use Rattle.std.proofs.Common.{◌≡◌, ℕ, ◌+◌, false, leb, List, [], length, get_or, take, set, sym, refl, ap, ◌∙◌, inl, inr, arith, get_or-set_other, get_or-set_same}
use Rattle.std.proofs.Math.ListN.{get_or-eq_default}
use Rattle.std.proofs.lemmas.Bool.{cases_lt, and_from, and_left, and_right, cond-true, cond-false, le-leb, lt-leb}
use Rattle.std.proofs.lemmas.List.{length-take}
use Rattle.rules.specs.declared.kept.Held.{Held}
use Rattle.rules.specs.declared.kept.Ledger.{Ledger}
use Rattle.rules.specs.declared.pairs.Pairs.{Pairs}
use Rattle.rules.specs.declared.renewal.Renewal.{Renewal}
use Rattle.numbers.specs.Numbers.{none, shown}
use Rattle.rules.specs.Calls.{receives}
use Rattle.rules.specs.Input.{Input, no_held, no_ledger, held, ledger, chain, grants, renewed, after_renewal}
use Rattle.rules.specs.Lists.{list_of, pairs}
use Rattle.rules.specs.Renewals.{asks_object, asks_volume}
use Rattle.rules.specs.State.{no_input, input_at}
use Rattle.guarantee.specs.RenewalRequests.{GivesObject, GivesVolume, RenewalIsAnswered, MostStaysInRenewal, LastReadIsGiven, LeaseEndIsGranted, RenewalsAlterOne}
use Rattle.guarantee.proofs.InputMoves as Ins
use Rattle.guarantee.proofs.RenewalMoves as Renewals
use Rattle.guarantee.proofs.Words.{set_beyond}

-- ---- the answer

gives_object : (I : Input) (lease j : ℕ) (r : Renewal) → GivesObject I r (renewed lease j r I)
gives_object I lease j r = record {
  version = λ t. cond-true (asks_object r.parts) (held I r.object).version none t;
  value = λ t. cond-true (asks_object r.parts) (held I r.object).value 0 t;
  no_version = λ t. cond-false (asks_object r.parts) (held I r.object).version none t;
  no_value = λ t. cond-false (asks_object r.parts) (held I r.object).value 0 t;
}

gives_volume : (I : Input) (lease j : ℕ) (r : Renewal) → GivesVolume lease j I r (renewed lease j r I)
gives_volume I lease j r = record {
  list = λ t. ap (λ (l : Pairs). list_of l) (cond-true (asks_volume r.parts) (pairs (take shown (chain I j))) (pairs []) t)
      ∙ Ins.pairs_list (take shown (chain I j)) (let e = length-take shown (chain I j) in omega arith);
  granted = λ t h. cond-true (grants r.parts j I) lease 0 (and_from (asks_volume r.parts) (leb (length (chain I j)) shown) t (le-leb (length (chain I j)) shown h));
  too_many = λ t h. cond-false (grants r.parts j I) lease 0 (and_right (asks_volume r.parts) (leb (length (chain I j)) shown) (lt-leb (length (chain I j)) shown h));
  no_list = λ t. ap (λ (l : Pairs). list_of l) (cond-false (asks_volume r.parts) (pairs (take shown (chain I j))) (pairs []) t);
  no_length = λ t. cond-false (grants r.parts j I) lease 0 (and_left (asks_volume r.parts) (leb (length (chain I j)) shown) t);
}

pub renewal_is_answered : RenewalIsAnswered
renewal_is_answered I i lease j r = (
  renewed lease j r I,
  refl,
  record { repeats = refl; epoch = refl; object = gives_object I lease j r; volume = gives_volume I lease j r },
)

-- ---- what the server keeps

pub most_stays_in_renewal : MostStaysInRenewal
most_stays_in_renewal I lease j r = record {
  clock = refl;
  lc = refl;
  version = λ o. (Renewals.held_renewal lease j r I o).0;
  value = λ o. (Renewals.held_renewal lease j r I o).1;
  waiting = refl;
  last_acknowledged = Renewals.all_acknowledged_renewal lease j r I;
  epoch = Renewals.epoch_renewal lease j r I;
  other_objects = λ o n. elim (Renewals.object_from lease j r I o) [
    | inl e ↦ ap (λ (h : Held). h.last_read) e
    | inr e ↦ absurd (n e.0)
  ];
  other_leases = λ b n. Renewals.lease_end_other_renewal lease j r I b n;
}

pub last_read_is_given : LastReadIsGiven
last_read_is_given I lease j r = record {
  given = λ t. ap (λ (l : List Held). (get_or l r.object no_held).last_read) (cond-true (asks_object r.parts) (set I.objects r.object as_given) I.objects t)
      ∙ elim (cases_lt r.object (length I.objects)) [
        | inl h ↦ ap (λ (x : Held). x.last_read) (get_or-set_same I.objects r.object as_given no_held h)
        | inr h ↦ let none_held = get_or-eq_default I.objects no_held h in
            ap (λ (l : List Held). (get_or l r.object no_held).last_read) (set_beyond I.objects r.object as_given h)
            ∙ ap (λ (x : Held). x.last_read) none_held ∙ sym (ap (λ (x : Held). x.version) none_held)
      ];
  not_given = λ t. ap (λ (l : List Held). (get_or l r.object no_held).last_read) (cond-false (asks_object r.parts) (set I.objects r.object as_given) I.objects t);
}
  where
    as_given : Held
    as_given = record { version = (held I r.object).version; value = (held I r.object).value; last_read = (held I r.object).version }

pub lease_end_is_granted : LeaseEndIsGranted
lease_end_is_granted I lease j r = record {
  granted = λ t h l. ap (λ (k : List Ledger). (get_or k j no_ledger).lease_end.0)
      (cond-true (grants r.parts j I) (set I.ledgers j as_leased) I.ledgers
      (and_from (asks_volume r.parts) (leb (length (chain I j)) shown) t (le-leb (length (chain I j)) shown h)))
      ∙ ap (λ (k : Ledger). k.lease_end.0) (get_or-set_same I.ledgers j as_leased no_ledger l);
  too_many = λ t h. kept (and_right (asks_volume r.parts) (leb (length (chain I j)) shown) (lt-leb (length (chain I j)) shown h));
  not_asked = λ t. kept (and_left (asks_volume r.parts) (leb (length (chain I j)) shown) t);
}
  where
    as_leased : Ledger
    as_leased = record { last_acknowledged = (ledger I j).last_acknowledged; epoch = (ledger I j).epoch; lease_end = record { 0 = I.clock.0 + lease } }

    kept : grants r.parts j I ≡ false → (ledger (after_renewal lease j r I) j).lease_end ≡ (ledger I j).lease_end
    kept e = ap (λ (k : List Ledger). (get_or k j no_ledger).lease_end) (cond-false (grants r.parts j I) (set I.ledgers j as_leased) I.ledgers e)

-- ---- the other servers

pub renewals_alter_one : RenewalsAlterOne
unfolding receives
renewals_alter_one inputs outputs s j i r = record {
  inputs = λ k n. get_or-set_other s.inputs i k (after_renewal s.frame.lease j r (input_at s i)) no_input (λ e. n (sym e));
  outputs = refl;
  begun = refl;
  table = refl;
}
