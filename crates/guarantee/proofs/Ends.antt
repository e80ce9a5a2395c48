-- What an answer says of the act: which acts end a write, end a read, begin an operation, or log write requests.
use Rattle.std.proofs.Common.{◌≡◌, ℕ, ◌+◌, true, List, [], ◌∷◌, sym, refl, ap, subst, inl, inr}
use Rattle.quorum.specs.declared.member_set.MemberSet.{MemberSet}
use Rattle.rules.specs.declared.message.Message.{Message}
use Rattle.rules.specs.declared.message.Message.TheVariants.{ClockQuestion, ClockAnswer, WriteRequest, WriteAnswer, ReadRequest, ReadAnswer, RenewalRequest, RenewalAnswer, Invalidation, InvalidationAnswer}
use Rattle.numbers.specs.declared.version.Version.{Version}
use Rattle.rules.specs.Input.{after_write}
use Rattle.rules.specs.Operation.{Operation, asking, sending, reading, Asking, Sending, Reading, clock_questions, read_requests, gets_version, hears_clock, knows_clock, hears_named, is_written, hears_pair, is_read}
use Rattle.rules.proofs.Reactions.{every_reaction}
use Rattle.rules.specs.Said.{began, write_ended, read_ended}
use Rattle.guarantee.proofs.CallEffects.{says_of, news_of}
use Rattle.guarantee.proofs.WriteMoves as Writes
use Rattle.guarantee.proofs.OutputMoves as Outs
use Rattle.guarantee.proofs.Reacting.{sends_requests}
use Rattle.guarantee.proofs.Words.{never, In, All, all_at, each_all, each_any}
use Rattle.guarantee.proofs.PlainState.{Params, PlainState, Act, ticks, writes, reads, hears, run, reaction, answers_to}

-- ---- a write that ends

pub record WriteEnds (P : Params) (W : PlainState) (a : Act) (p w y : ℕ) : Type 0 where
  pub from : ℕ
  pub set : MemberSet
  pub write : Sending
  pub act : a ≡ hears (WriteAnswer from p set)
  pub op : W.op p ≡ sending write
  pub written : is_written P.inputs P.outputs (hears_named from set write) ≡ true
  pub version : write.version.0 ≡ w
  pub value : write.value ≡ y

module _ (P : Params) (W : PlainState) (p w y : ℕ) where
  reaction_ends_write : (m : Message) (x : Operation) → W.op (answers_to m) ≡ x → (reaction P m x).said ≡ write_ended p w y → WriteEnds P W (hears m) p w y
  reaction_ends_write = every_reaction P.inputs P.outputs (λ m x r. W.op (answers_to m) ≡ x → r.said ≡ write_ended p w y → WriteEnds P W (hears m) p w y) (record {
    stays = λ m x n e h. never (cc);
    asks = λ i q c a t e h. never (cc);
    gets = λ i q c a t e h. never (cc);
    sends = λ i q s z t e h. never (cc);
    writes = λ i q s z t e h. let d : q ≡ p = cc in record {
      from = i;
      set = s;
      write = z;
      act = ap (λ (k : ℕ). hears (WriteAnswer i k s)) d;
      op = subst (λ (k : ℕ). W.op k ≡ sending z) d e;
      written = t;
      version = cc;
      value = cc;
    };
    gathers = λ j q v x r t e h. never (cc);
    reads = λ j q v x r t e h. never (cc);
  })

  pub write_ends : (a : Act) → says_of P a W ≡ write_ended p w y → WriteEnds P W a p w y
  write_ends (hears (ClockAnswer i q c)) h = reaction_ends_write (ClockAnswer i q c) (W.op q) refl h
  write_ends (hears (WriteAnswer i q t)) h = reaction_ends_write (WriteAnswer i q t) (W.op q) refl h
  write_ends (hears (ReadAnswer j q v x)) h = reaction_ends_write (ReadAnswer j q v x) (W.op q) refl h
  write_ends a h = never (cc)

-- ---- a read that ends

pub record ReadEnds (P : Params) (W : PlainState) (a : Act) (p w y : ℕ) : Type 0 where
  pub from : ℕ
  pub pair_version : Version
  pub pair_value : ℕ
  pub read : Reading
  pub act : a ≡ hears (ReadAnswer from p pair_version pair_value)
  pub op : W.op p ≡ reading read
  pub complete : is_read P.outputs (hears_pair from pair_version pair_value read) ≡ true
  pub version : (hears_pair from pair_version pair_value read).version.0 ≡ w
  pub value : (hears_pair from pair_version pair_value read).value ≡ y

module _ (P : Params) (W : PlainState) (p w y : ℕ) where
  reaction_ends_read : (m : Message) (x : Operation) → W.op (answers_to m) ≡ x → (reaction P m x).said ≡ read_ended p w y → ReadEnds P W (hears m) p w y
  reaction_ends_read = every_reaction P.inputs P.outputs (λ m x r. W.op (answers_to m) ≡ x → r.said ≡ read_ended p w y → ReadEnds P W (hears m) p w y) (record {
    stays = λ m x n e h. never (cc);
    asks = λ i q c a t e h. never (cc);
    gets = λ i q c a t e h. never (cc);
    sends = λ i q s z t e h. never (cc);
    writes = λ i q s z t e h. never (cc);
    gathers = λ j q v x r t e h. never (cc);
    reads = λ j q v x r t e h. let d : q ≡ p = cc in record {
      from = j;
      pair_version = v;
      pair_value = x;
      read = r;
      act = ap (λ (k : ℕ). hears (ReadAnswer j k v x)) d;
      op = subst (λ (k : ℕ). W.op k ≡ reading r) d e;
      complete = t;
      version = cc;
      value = cc;
    };
  })

  pub read_ends : (a : Act) → says_of P a W ≡ read_ended p w y → ReadEnds P W a p w y
  read_ends (hears (ClockAnswer i q c)) h = reaction_ends_read (ClockAnswer i q c) (W.op q) refl h
  read_ends (hears (WriteAnswer i q t)) h = reaction_ends_read (WriteAnswer i q t) (W.op q) refl h
  read_ends (hears (ReadAnswer j q v x)) h = reaction_ends_read (ReadAnswer j q v x) (W.op q) refl h
  read_ends a h = never (cc)

-- ---- a write that gets its version

abbrev NoRequest : Message → Type 0
NoRequest (WriteRequest p i o v x) = ⊥
NoRequest m = Unit {0}

pub record GetsVersion (P : Params) (W : PlainState) (a : Act) (p o : ℕ) (v : Version) (x : ℕ) : Type 0 where
  pub from : ℕ
  pub named : ℕ
  pub clock : ℕ
  pub ask : Asking
  pub act : a ≡ hears (ClockAnswer from named clock)
  pub op : W.op named ≡ asking ask
  pub knows : knows_clock P.inputs (hears_clock from clock ask) ≡ true
  pub own : ask.operation ≡ p
  pub object : ask.object ≡ o
  pub version : (gets_version (hears_clock from clock ask)).version ≡ v
  pub value : ask.value ≡ x

module _ (P : Params) (W : PlainState) (p i o : ℕ) (v : Version) (x : ℕ) where
  nowhere : (new : List Message) → All NoRequest new → In (WriteRequest p i o v x) new → ⊥
  nowhere new a h = all_at NoRequest (WriteRequest p i o v x) new a h

  reaction_gets : (m : Message) (y : Operation) → W.op (answers_to m) ≡ y → In (WriteRequest p i o v x) (reaction P m y).sends → GetsVersion P W (hears m) p o v x
  reaction_gets = every_reaction P.inputs P.outputs (λ m y r. W.op (answers_to m) ≡ y → In (WriteRequest p i o v x) r.sends → GetsVersion P W (hears m) p o v x) (record {
    stays = λ m y n e h. absurd h;
    asks = λ k q c a t e h. absurd h;
    gets = λ k q c a t e h. let w = gets_version (hears_clock k c a) in
        let r = each_any (λ z. WriteRequest p i o v x ≡ z) P.inputs.count (λ i. WriteRequest w.operation i w.object w.version w.value ∷ []) h in
        elim r.2 [
          | inl f ↦ record { from = k; named = q; clock = c; ask = a; act = refl; op = e; knows = t; own = cc; object = cc; version = cc; value = cc }
          | inr f ↦ absurd f
        ];
    sends = λ k q s w t e h. absurd h;
    writes = λ k q s w t e h. absurd h;
    gathers = λ j q u z r t e h. absurd h;
    reads = λ j q u z r t e h. absurd h;
  })

  pub gets_version_lem : (a : Act) → In (WriteRequest p i o v x) (news_of P a W) → GetsVersion P W a p o v x
  gets_version_lem (ticks y z) h = absurd h
  gets_version_lem (writes q y) h = absurd (nowhere (clock_questions (W.begun + 1) P.counts.n)
      (each_all NoRequest P.counts.n (λ k. ClockQuestion (W.begun + 1) k ∷ []) (λ _ _. (tt, tt))) h)
  gets_version_lem (reads q) h = absurd (nowhere (read_requests (W.begun + 1) q P.counts.m)
      (each_all NoRequest P.counts.m (λ k. ReadRequest (W.begun + 1) k q ∷ []) (λ _ _. (tt, tt))) h)
  gets_version_lem (hears (ClockQuestion q k)) h = elim h [ inl f ↦ never (cc) | inr f ↦ absurd f ]
  gets_version_lem (hears (ClockAnswer k q c)) h = reaction_gets (ClockAnswer k q c) (W.op q) refl h
  gets_version_lem (hears (WriteRequest q k z u y)) h = absurd (nowhere _
      (Writes.names_write NoRequest k q P.counts.m z (after_write P.counts.m z u y (W.inp k)) (λ _. tt) tt) h)
  gets_version_lem (hears (WriteAnswer k q t)) h = reaction_gets (WriteAnswer k q t) (W.op q) refl h
  gets_version_lem (hears (ReadRequest q j z)) h = absurd (nowhere _ (Outs.read_all P.inputs j q P.counts.n z (W.out j) NoRequest (λ _. tt) (λ _ _. tt)) h)
  gets_version_lem (hears (ReadAnswer j q u y)) h = reaction_gets (ReadAnswer j q u y) (W.op q) refl h
  gets_version_lem (hears (RenewalRequest j k r)) h = elim h [ inl f ↦ never (cc) | inr f ↦ absurd f ]
  gets_version_lem (hears (RenewalAnswer k j y)) h = absurd (nowhere _ (Outs.ack_all NoRequest j k y.list tt) h)
  gets_version_lem (hears (Invalidation k j z u)) h = elim h [ inl f ↦ never (cc) | inr f ↦ absurd f ]
  gets_version_lem (hears (InvalidationAnswer j k l)) h = absurd h

-- ---- a read that sends its requests

abbrev NoAsking : Message → Type 0
NoAsking (ReadRequest p j o) = ⊥
NoAsking m = Unit {0}

module _ (P : Params) (W : PlainState) (p j o : ℕ) where
  unasked : (new : List Message) → All NoAsking new → In (ReadRequest p j o) new → ⊥
  unasked new a h = all_at NoAsking (ReadRequest p j o) new a h

  -- no reaction does
  reaction_asks_none : (m : Message) (y : Operation) → In (ReadRequest p j o) (reaction P m y).sends → ⊥
  reaction_asks_none m y = unasked (reaction P m y).sends (sends_requests P.inputs P.outputs NoAsking (λ _ _ _ _ _. tt) m y)

  -- it does so with the call that begins it
  pub asks_read : (a : Act) → In (ReadRequest p j o) (news_of P a W) → (a ≡ reads o) × (p ≡ W.begun + 1)
  asks_read (ticks y z) h = absurd h
  asks_read (writes q y) h = absurd (unasked (clock_questions (W.begun + 1) P.counts.n)
      (each_all NoAsking P.counts.n (λ k. ClockQuestion (W.begun + 1) k ∷ []) (λ _ _. (tt, tt))) h)
  asks_read (reads q) h =
      let r = each_any (λ z. ReadRequest p j o ≡ z) P.counts.m (λ k. ReadRequest (W.begun + 1) k q ∷ []) h in
      elim r.2 [
        | inl f ↦ (cc, cc)
        | inr f ↦ absurd f
      ]
  asks_read (hears (ClockQuestion q k)) h = elim h [ inl f ↦ never (cc) | inr f ↦ absurd f ]
  asks_read (hears (ClockAnswer k q c)) h = absurd (reaction_asks_none (ClockAnswer k q c) (W.op q) h)
  asks_read (hears (WriteRequest q k z u y)) h = absurd (unasked _
      (Writes.names_write NoAsking k q P.counts.m z (after_write P.counts.m z u y (W.inp k)) (λ _. tt) tt) h)
  asks_read (hears (WriteAnswer k q t)) h = absurd (reaction_asks_none (WriteAnswer k q t) (W.op q) h)
  asks_read (hears (ReadRequest q c z)) h = absurd (unasked _ (Outs.read_all P.inputs c q P.counts.n z (W.out c) NoAsking (λ _. tt) (λ _ _. tt)) h)
  asks_read (hears (ReadAnswer c q u y)) h = absurd (reaction_asks_none (ReadAnswer c q u y) (W.op q) h)
  asks_read (hears (RenewalRequest c k r)) h = elim h [ inl f ↦ never (cc) | inr f ↦ absurd f ]
  asks_read (hears (RenewalAnswer k c y)) h = absurd (unasked _ (Outs.ack_all NoAsking c k y.list tt) h)
  asks_read (hears (Invalidation k c z u)) h = elim h [ inl f ↦ never (cc) | inr f ↦ absurd f ]
  asks_read (hears (InvalidationAnswer c k l)) h = absurd h

-- ---- an operation that begins

module _ (P : Params) (W : PlainState) (p : ℕ) where
  reaction_begins_none : (m : Message) (x : Operation) → (reaction P m x).said ≡ began p → ◌≡◌ {A = ℕ} 0 1
  reaction_begins_none = every_reaction P.inputs P.outputs (λ m x r. r.said ≡ began p → ◌≡◌ {A = ℕ} 0 1) (record {
    stays = λ m x n h. cc;
    asks = λ i q c a t h. cc;
    gets = λ i q c a t h. cc;
    sends = λ i q s w t h. cc;
    writes = λ i q s w t h. cc;
    gathers = λ j q v x r t h. cc;
    reads = λ j q v x r t h. cc;
  })

  -- its number is the next one
  pub begins_next : (a : Act) → says_of P a W ≡ began p → (p ≡ W.begun + 1) × ((run P a W).begun ≡ p)
  begins_next (writes o x) h = let e : W.begun + 1 ≡ p = cc in (sym e, e)
  begins_next (reads o) h = let e : W.begun + 1 ≡ p = cc in (sym e, e)
  begins_next (hears (ClockAnswer i q c)) h = never (reaction_begins_none (ClockAnswer i q c) (W.op q) h)
  begins_next (hears (WriteAnswer i q t)) h = never (reaction_begins_none (WriteAnswer i q t) (W.op q) h)
  begins_next (hears (ReadAnswer j q v x)) h = never (reaction_begins_none (ReadAnswer j q v x) (W.op q) h)
  begins_next a h = never (cc)
