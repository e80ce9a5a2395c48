-- What happens in a story: calls with which an operation begins, ends, or gets its version.
use Rattle.std.proofs.Common.{◌≡◌, ℕ, suc, ◌+◌, ◌-◌, ◌<◌, ◌≤◌, false, List, [], take, drop, sym, ap, ◌∙◌, subst, inl, inr, arith}
use Rattle.std.proofs.lemmas.Bool.{cases_lt, cases_order}
use Rattle.rules.specs.declared.message.Message.{Message}
use Rattle.rules.specs.declared.message.Message.TheVariants.{ClockAnswer, WriteRequest, WriteAnswer, ReadAnswer}
use Rattle.numbers.specs.declared.version.Version.{Version}
use Rattle.rules.specs.Said.{began}
use Rattle.rules.specs.State.{Outcome, refuse}
use Rattle.guarantee.specs.Story.{Story, to_write, to_read, call_at, before, said_at, logged_at, part, Has, BeginsWrite, BeginsRead, Sends, EndsWrite, EndsRead}
use Rattle.guarantee.proofs.CallEffects.{act_of, news_of, Accepted, none_logged}
use Rattle.guarantee.proofs.Ends.{WriteEnds, write_ends, ReadEnds, read_ends, GetsVersion, gets_version_lem, begins_next}
use Rattle.guarantee.proofs.Keeps.{grows}
use Rattle.guarantee.proofs.Kept.{Begun, MsgOk, OpOk, AskingOk, May}
use Rattle.guarantee.proofs.Lives.{calls, outcome_at, world, Given, Live, in_of, out_of, happens, live_next, carry}
use Rattle.guarantee.proofs.Traces.{has_in, OpTraced, Known, fine, known_at, accepted_at}
use Rattle.guarantee.proofs.Opens.{closed_step}
use Rattle.guarantee.proofs.AfterWrite.{Settled, settled_grows, settles}
use Rattle.guarantee.proofs.Words.{never, In, all_at}
use Rattle.guarantee.proofs.PlainState.{Params, PlainState, Act, hears, run}

module _ (given : Given) where
  abbrev S : Story
  S = given.story

  -- ---- beginnings

  -- an operation begins with a call on an open field, and its number is the next one
  pub record Start (b p : ℕ) : Type 0 where
    pub known : Known given b
    pub number : p ≡ (world given b).begun + 1
    pub after : (world given (suc b)).begun ≡ p

  pub start : (b p : ℕ) → b < calls given → said_at S b ≡ began p → Start b p
  start b p h e =
      let k = known_at given b h (λ n f. never (cc)) (λ f. never (cc)) in
      let a = accepted_at given k.P b k.live (λ n f. never (cc)) in
      let r = begins_next k.P (world given b) p (act_of (before S b) (call_at S b)) (sym a.said ∙ e) in
      record { known = k; number = r.0; after = ap (λ (W : PlainState). W.begun) a.world ∙ r.1 }

  pub begun_grow : (P : Params) (t u : ℕ) → t ≤ u → Live given P (before S t) → (world given t).begun ≤ (world given u).begun
  begun_grow P t u h l = (carry given P (λ W. (world given t).begun ≤ W.begun)
      (λ W small _ _ k a m x. let g = (grows P small W k a m).begun in omega arith) t u h l (omega arith)).1

  -- an operation that is begun when a call finds it began with an earlier call
  pub earlier : (t u q : ℕ) → u < calls given → said_at S u ≡ began q → (P : Params) → Live given P (before S t) → q ≤ (world given t).begun → u < t
  earlier t u q h e P l b = elim (cases_lt u t) [
    | inl x ↦ x
    | inr x ↦ absurd (let s = start u q h e in let y = s.number in let z = begun_grow P t u x l in omega arith)
  ]

  -- no operation begins twice
  pub once : (b c p : ℕ) → b < calls given → c < calls given → said_at S b ≡ began p → said_at S c ≡ began p → b ≡ c
  once b c p hb hc eb ec = elim (cases_order b c) [
    | inl x ↦ x
    | inr (inl x) ↦ absurd (apart b c hb hc eb ec x)
    | inr (inr x) ↦ absurd (apart c b hc hb ec eb x)
  ]
    where
      apart : (b c : ℕ) → b < calls given → c < calls given → said_at S b ≡ began p → said_at S c ≡ began p → b < c → ⊥
      apart b c hb hc eb ec x =
          let s = start b p hb eb in
          let t = start c p hc ec in
          let l = live_next given s.known.P b s.known.live in
          let g = begun_grow s.known.P (suc b) c x l in
          let y = s.after in let z = t.number in omega arith

  pub same_write : (b c p o x o' x' : ℕ) → BeginsWrite S b p o x → BeginsWrite S c p o' x' → (o ≡ o') × (x ≡ x')
  same_write b c p o x o' x' f g =
      let e = once b c p f.made g.made f.said g.said in
      let d : to_write o x ≡ to_write o' x' = sym f.call ∙ ap (call_at S) e ∙ g.call in
      (cc, cc)

  pub same_read : (b c p o o' : ℕ) → BeginsRead S b p o → BeginsRead S c p o' → o ≡ o'
  same_read b c p o o' f g =
      let e = once b c p f.made g.made f.said g.said in
      let d : to_read o ≡ to_read o' = sym f.call ∙ ap (call_at S) e ∙ g.call in
      cc

  -- ---- ends

  -- a call with which a write ends
  pub record EndOfWrite (t p w y : ℕ) : Type 0 where
    pub known : Known given t
    pub step : Accepted known.P (before S t) (act_of (before S t) (call_at S t)) (outcome_at given t)
    pub how : WriteEnds known.P (world given t) (act_of (before S t) (call_at S t)) p w y
    pub begun : Begun (world given t) p

  pub end_of_write : (t p w y : ℕ) → EndsWrite S t p w y → EndOfWrite t p w y
  end_of_write t p w y e =
      let f = e.said in
      let k = known_at given t e.made (λ n g. never (cc)) (λ g. never (cc)) in
      let a = accepted_at given k.P t k.live (λ n g. never (cc)) in
      let r = write_ends k.P (world given t) p w y (act_of (before S t) (call_at S t)) (sym a.said ∙ f) in
      let may : May k.P (hears (WriteAnswer r.from p r.set)) (world given t) = subst (λ (b : Act). May k.P b (world given t)) r.act a.may in
      record {
        known = k;
        step = a;
        how = r;
        begun = (all_at (MsgOk k.P (world given t)) (WriteAnswer r.from p r.set) (world given t).sent k.live.kept.msgs may.0).0;
      }

  pub record EndOfRead (t p v z : ℕ) : Type 0 where
    pub known : Known given t
    pub step : Accepted known.P (before S t) (act_of (before S t) (call_at S t)) (outcome_at given t)
    pub how : ReadEnds known.P (world given t) (act_of (before S t) (call_at S t)) p v z
    pub begun : Begun (world given t) p

  pub end_of_read : (t p v z : ℕ) → EndsRead S t p v z → EndOfRead t p v z
  end_of_read t p v z e =
      let f = e.said in
      let k = known_at given t e.made (λ n g. never (cc)) (λ g. never (cc)) in
      let a = accepted_at given k.P t k.live (λ n g. never (cc)) in
      let r = read_ends k.P (world given t) p v z (act_of (before S t) (call_at S t)) (sym a.said ∙ f) in
      let may : May k.P (hears (ReadAnswer r.from p r.pair_version r.pair_value)) (world given t) = subst (λ (b : Act). May k.P b (world given t)) r.act a.may in
      record {
        known = k;
        step = a;
        how = r;
        begun = (all_at (MsgOk k.P (world given t)) (ReadAnswer r.from p r.pair_version r.pair_value) (world given t).sent k.live.kept.msgs may.0).0;
      }

  -- a call with which a write gets its version
  pub record Getting (t p v : ℕ) : Type 0 where
    pub known : Known given t
    pub step : Accepted known.P (before S t) (act_of (before S t) (call_at S t)) (outcome_at given t)
    pub object : ℕ
    pub version : Version
    pub value : ℕ
    pub is : version.0 ≡ v
    pub how : GetsVersion known.P (world given t) (act_of (before S t) (call_at S t)) p object version value
    pub begun : Begun (world given t) p
    pub named : how.named ≡ p

  pub getting : (t p v : ℕ) → Sends S t p v → Getting t p v
  getting t p v g = elim (fine given t (let z = g.made in omega arith)) [
    | inl e ↦ absurd (closed_logs e)
    | inr k ↦ elim (happens given k.P t k.live) [
      | inl r ↦ absurd (unlogged r.0 r.1)
      | inr a ↦ made k a
    ]
  ]
    where
      m : Message
      m = WriteRequest p g.input g.object g.version g.value

      empty : (l : List Message) → l ≡ [] → Has l m → ⊥
      empty l e h = has_in m [] (subst (λ (k : List Message). Has k m) e h)

      unlogged : (n : ℕ) → outcome_at given t ≡ refuse n (before S t) → ⊥
      unlogged n e = empty (logged_at S t) (ap (λ (x : Outcome). part (before S t).made x.after.made x.after.log) e ∙ none_logged (before S t).made (before S t).log) g.logged

      closed_logs : (before S t).frame.is_open ≡ false → ⊥
      closed_logs e = elim (closed_step S.inputs S.outputs given.in_lawful given.out_lawful (before S t) e (call_at S t)) [
        | inl r ↦ unlogged r.0 r.1
        | inr r ↦ empty (logged_at S t) (ap (λ (k : ℕ). take (k - (before S t).made) (drop (before S t).made (before S (suc t)).log)) r.none_made
            ∙ (let z : 0 - (before S t).made ≡ 0 = omega arith in ap (λ (k : ℕ). take k (drop (before S t).made (before S (suc t)).log)) z)) g.logged
      ]

      made : (k : Known given t) → Accepted k.P (before S t) (act_of (before S t) (call_at S t)) (outcome_at given t) → Getting t p v
      made k a =
          let n : In m (news_of k.P (act_of (before S t) (call_at S t)) (world given t)) = subst (λ (l : List Message). In m l) a.news (has_in m (logged_at S t) g.logged) in
          let r = gets_version_lem k.P (world given t) p g.input g.object g.version g.value (act_of (before S t) (call_at S t)) n in
          let may : May k.P (hears (ClockAnswer r.from r.named r.clock)) (world given t) = subst (λ (b : Act). May k.P b (world given t)) r.act a.may in
          let b : Begun (world given t) r.named = all_at (MsgOk k.P (world given t)) (ClockAnswer r.from r.named r.clock) (world given t).sent k.live.kept.msgs may.0 in
          let ok : AskingOk (world given t) r.named r.ask = subst (OpOk k.P (world given t) r.named) r.op (k.live.kept.ops r.named b) in
          let same : r.named ≡ p = sym ok.own ∙ r.own in
          record {
            known = k;
            step = a;
            object = g.object;
            version = g.version;
            value = g.value;
            is = g.is;
            how = r;
            begun = subst (Begun (world given t)) same b;
            named = same;
          }

  -- from the end of a write on, enough output servers are fenced off
  pub settled_from : (t p w y o x b : ℕ) → BeginsWrite S b p o x → (e : EndOfWrite t p w y) → (u : ℕ) → t < u
      → Live given e.known.P (before S u) × Settled e.known.P (world given u) o w
  settled_from t p w y o x b f e u h =
      let P = e.known.P in
      let l = e.known.live in
      let r : (c : ℕ) × (c < t) × BeginsWrite S c p e.how.write.object e.how.write.value = subst (OpTraced given t p) e.how.op (e.known.traced.ops p e.begun) in
      let d = (same_write r.0 b p e.how.write.object e.how.write.value o x r.2 f).0 in
      let s : Settled P (world given (suc t)) o w = subst (λ (W : PlainState). Settled P W o w) (sym e.step.world)
      (subst (λ (z : ℕ). Settled P (run P (act_of (before S t) (call_at S t)) (world given t)) z w) d
      (settles P l.small (in_of given P (before S t) l) (out_of given P (before S t) l) (world given t) l.kept (act_of (before S t) (call_at S t)) p w y e.step.may e.how)) in
      carry given P (λ W. Settled P W o w) (λ W small _ _ k a m x. settled_grows P W (run P a W) o w (grows P small W k a m) x) (suc t) u h (live_next given P t l) s
