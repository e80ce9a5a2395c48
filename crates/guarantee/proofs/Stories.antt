-- The read guarantee, over every story.
use Rattle.std.proofs.Common.{◌≡◌, ℕ, suc, ◌+◌, ◌<◌, ◌≤◌, ◌⊎◌, List, [], ◌∷◌, sym, refl, ap, ◌∙◌, subst, inl, inr, arith}
use Rattle.std.proofs.lemmas.Bool.{cases_order}
use Rattle.quorum.specs.declared.member_set.MemberSet.{MemberSet}
use Rattle.quorum.specs.Sets.{full, set_of}
use Rattle.quorum.specs.Systems.{Lawful}
use Rattle.rules.specs.declared.message.Message.{Message}
use Rattle.rules.specs.declared.message.Message.TheVariants.{ClockQuestion, ClockAnswer, WriteRequest, ReadRequest, ReadAnswer}
use Rattle.numbers.specs.declared.version.Version.{Version}
use Rattle.rules.specs.Operation.{Operation, asking, sending, ended, Asking, Reading, counts, hears_clock, gets_version, hears_pair}
use Rattle.rules.specs.Reaction.{Reaction}
use Rattle.rules.proofs.Reactions.{every_reaction}
use Rattle.rules.specs.Said.{began}
use Rattle.guarantee.specs.Story.{Story, Call, to_write, to_read, call_at, before, said_at, BeginsWrite, BeginsRead, BeginsAsWrite, BeginsAsRead, Sends, Gets, EndsWrite, EndsRead}
use Rattle.guarantee.specs.Guarantee.{NeverBehind, NeverInvented, AlwaysRising, OneVersion, Written, EndOf, BegunOnce, WhatEndsHasBegun, Guarantee, EveryStory}
use Rattle.guarantee.proofs.CallEffects.{act_of, news_of}
use Rattle.guarantee.proofs.Ends.{ReadEnds, read_ends, GetsVersion, gets_version_lem, begins_next}
use Rattle.guarantee.proofs.RangeFacts.{fits_pair}
use Rattle.guarantee.proofs.Keeps.{ops_up, grows}
use Rattle.guarantee.proofs.Kept.{Named, Begun, Genuine, MsgOk, OpOk, SendingOk, ReadingOk, Small, Kept, May}
use Rattle.guarantee.proofs.Lives.{calls, world, Given, Live, in_of, out_of, live_next, carry}
use Rattle.guarantee.proofs.Traces.{OpTraced, MsgTraced, accepted_at}
use Rattle.guarantee.proofs.Events.{earlier, once, same_write, same_read, end_of_write, EndOfRead, end_of_read, Getting, getting, settled_from}
use Rattle.guarantee.proofs.Next.{heard_next}
use Rattle.guarantee.proofs.Operations.{pair_from}
use Rattle.guarantee.proofs.Reacting.{reacts_gets}
use Rattle.guarantee.proofs.Sets.{of_set_of}
use Rattle.guarantee.proofs.AfterWrite.{Since, since_first, since_next, Late, late_first, late_news, read_not_behind, Wise, wise_first, wise_news, version_rises}
use Rattle.guarantee.proofs.Words.{never, at, at_same, any_split, All, all_at, each_all}
use Rattle.guarantee.proofs.PlainState.{Params, PlainState, Act, hears, run, reaction}

module _ (given : Given) where
  abbrev S : Story
  S = given.story

  -- ---- an operation that begins after the end of a write

  -- a fact that each call keeps of the messages made since holds when a later call finds them
  begins_after : (P : Params) (u v q o w : ℕ) (N : List MemberSet) (X : Message → Type 0) (c : Call) → call_at S u ≡ c → said_at S u ≡ began q → u < v
      → (l : Live given P (before S u)) → Named P (world given u) o w N
      → (q ≡ (world given u).begun + 1 → (m : Message) → MsgOk P (world given u) m → X m)
      → All X (news_of P (act_of (before S u) c) (world given u))
      → ((W : PlainState) → Small P → Lawful P.inputs → Lawful P.outputs → Kept P W → (b : Act) → May P b W → Since P X q o w N W → All X (news_of P b W))
      → Live given P (before S v) × Since P X q o w N (world given v)
  begins_after P u v q o w N X c call said u<v l named fresh first step =
      let a = accepted_at given P u l (λ n g. never (cc)) in
      let act = act_of (before S u) (call_at S u) in
      let next = begins_next P (world given u) q act (sym a.said ∙ said) in
      let news = subst (λ (d : Call). All X (news_of P (act_of (before S u) d) (world given u))) (sym call) first in
      carry given P (Since P X q o w N)
      (λ W small il ol k b m s. since_next P small X q o w N W k b m (step W small il ol k b m s) s)
      (suc u) v u<v (live_next given P u l)
      (subst (Since P X q o w N) (sym a.world)
      (since_first P l.small X q o w N (world given u) l.kept act a.may news named (let z = next.0 in omega arith, let z = next.1 in omega arith) (fresh next.0)))

  -- ---- a read never goes behind

  never_behind : NeverBehind S
  never_behind o p q t u e x y z v w b fw ew fr t<u er =
      let E = end_of_write given t p w y ew in
      let P = E.known.P in
      let s = settled_from given t p w y o x b fw E u t<u in
      let l = s.0 in
      let il = in_of given P (before S u) l in
      let ol = out_of given P (before S u) l in
      let sm = l.small in
      let N = s.1.named in
      let R = end_of_read given e q v z er in
      let u<e : u < e = earlier given e u q fr.made fr.said R.known.P R.known.live R.begun.1 in
      let c = begins_after P u e q o w N (Late P q o w N) (to_read o) fr.call fr.said u<e l s.1.stand (late_first P (world given u) q o w N)
      (each_all (Late P q o w N) P.counts.m (λ j. ReadRequest ((world given u).begun + 1) j o ∷ []) (λ j _. ((λ _. refl), tt)))
      (λ W sm il ol k a m x. late_news P sm il ol q o w N W k a m x) in
      let le = c.0 in
      let esaid = er.said in
      let ae = accepted_at given P e le (λ n g. never (cc)) in
      let re = read_ends P (world given e) q v z (act_of (before S e) (call_at S e)) (sym ae.said ∙ esaid) in
      read_not_behind P sm il ol q o w (world given e) le.kept (act_of (before S e) (call_at S e)) v z ae.may
      (record { named = N; enough = s.1.enough; stand = c.1.stand }) c.1 re

  -- ---- a later write gets a higher version

  always_rising : AlwaysRising S
  always_rising o p q t u g x y z v w b fw ew fq t<u gq =
      let E = end_of_write given t p w y ew in
      let P = E.known.P in
      let s = settled_from given t p w y o x b fw E u t<u in
      let l = s.0 in
      let il = in_of given P (before S u) l in
      let ol = out_of given P (before S u) l in
      let sm = l.small in
      let N = s.1.named in
      let some = ol.meet (full P.outputs.count) (set_of P.outputs.count (counts P.inputs P.inputs.count N)) ol.read_family.all s.1.enough in
      let j = some.0 in
      let j<m : j < P.counts.m = let k = sm.m_is in let i = some.1 in omega arith in
      let c = (of_set_of P.outputs.count (counts P.inputs P.inputs.count N) j some.3).1 in
      let G = getting given g q v gq in
      let u<g : u < g = earlier given g u q fq.made fq.said G.known.P G.known.live G.begun.1 in
      let d = begins_after P u g q o w N (Wise P q w N j) (to_write o z) fq.call fq.said u<g l s.1.stand (wise_first P (world given u) q w N j)
      (each_all (Wise P q w N j) P.counts.n (λ i. ClockQuestion ((world given u).begun + 1) i ∷ []) (λ i _. (tt, tt)))
      (λ W sm il ol k a m x. wise_news P sm il ol q o w N j j<m W a x) in
      let lg = d.0 in
      let same : G.known.P ≡ P = sym G.known.live.params ∙ lg.params in
      let how : GetsVersion P (world given g) (act_of (before S g) (call_at S g)) q G.object G.version G.value =
      subst (λ (Q : Params). GetsVersion Q (world given g) (act_of (before S g) (call_at S g)) q G.object G.version G.value) same G.how in
      let may : May P (act_of (before S g) (call_at S g)) (world given g) = subst (λ (Q : Params). May Q (act_of (before S g) (call_at S g)) (world given g)) same G.step.may in
      let r = version_rises P sm il ol q o w (world given g) lg.kept (act_of (before S g) (call_at S g)) G.object G.version G.value may
      (record { named = N; enough = s.1.enough; stand = d.1.stand }) j j<m c d.1 how G.named in
      omega (arith, G.is)

  -- ---- what a read gives was written

  never_invented : NeverInvented S
  never_invented o q u e v z fr er = go heard.genuine
    where
      E : EndOfRead given e q v z
      E = end_of_read given e q v z er

      P : Params
      P = E.known.P

      l : Live given P (before S e)
      l = E.known.live

      R : ReadEnds P (world given e) (act_of (before S e) (call_at S e)) q v z
      R = E.how

      W : PlainState
      W = world given e

      pair : Reading
      pair = hears_pair R.from R.pair_version R.pair_value R.read

      may : May P (hears (ReadAnswer R.from q R.pair_version R.pair_value)) W
      may = subst (λ (b : Act). May P b W) R.act E.step.may

      ok : ReadingOk W q R.read
      ok = subst (OpOk P W q) R.op (l.kept.ops q E.begun)

      V : PlainState
      V = run P (hears (ReadAnswer R.from q R.pair_version R.pair_value)) W

      heard : ReadingOk V q pair
      heard = heard_next P l.small (in_of given P (before S e) l) W l.kept R.from q R.pair_version R.pair_value may R.read R.op ok

      same : pair.object ≡ o
      same =
          let r : (b : ℕ) × (b < e) × BeginsRead S b q R.read.object = subst (OpTraced given e q) R.op (E.known.traced.ops q E.begun) in
          same_read given r.0 u q R.read.object o r.2 fr

      high : 65536 ≤ pair.version.0
      high = let f = (fits_pair P.counts R.from q R.pair_version R.pair_value may.1).1 in
          elim (pair_from R.from R.pair_version R.pair_value R.read) [
            | inl d ↦ let c = ap (λ (n : Version). n.0) d.0 in let b = d.2 in omega arith
            | inr d ↦ let c = ap (λ (n : Version). n.0) d.0 in omega arith
          ]

      go : (pair.version.0 ≡ 0) ⊎ Genuine V pair.object pair.version pair.value → ((v ≡ 65536) × (z ≡ 0)) ⊎ Written S e o v z
      go (inl d) = absurd (let h = high in omega arith)
      go (inr (inl d)) = inl (sym R.version ∙ ap (λ (n : Version). n.0) d.0, sym R.value ∙ d.1)
      go (inr (inr d)) = elim (any_split (λ m. WriteRequest d.0 d.1.0 pair.object pair.version pair.value ≡ m) W.sent _ d.1.1) [
        -- no read answer makes a write send its version
        | inr b ↦
            let g = gets_version_lem P W d.0 d.1.0 pair.object pair.version pair.value (hears (ReadAnswer R.from q R.pair_version R.pair_value)) b in
            let a = g.act in
            never (cc)
        | inl b ↦ written d.0 (all_at (MsgTraced given e) (WriteRequest d.0 d.1.0 pair.object pair.version pair.value) W.sent E.known.traced.msgs b)
      ]
        where
          written : (p : ℕ) → ((b : ℕ) × (b < e) × BeginsWrite S b p pair.object pair.value) × ((g : ℕ) × (g < e) × Gets S g p pair.version.0)
              → ((v ≡ 65536) × (z ≡ 0)) ⊎ Written S e o v z
          written p t = inr (record {
            write = p;
            begins = t.0.0;
            earlier = t.0.1;
            begun = subst (λ (y : ℕ). BeginsWrite S t.0.0 p o y) R.value (subst (λ (k : ℕ). BeginsWrite S t.0.0 p k pair.value) same t.0.2);
            gets = t.1.0;
            before = t.1.1;
            got = subst (Gets S t.1.0 p) R.version t.1.2;
          })

  -- ---- a write gets one version

  abbrev PastAsking : Operation → Type 0
  PastAsking (sending w) = Unit {0}
  PastAsking ended = Unit {0}
  PastAsking x = ⊥

  past_up : (P : Params) (m : Message) (y : Operation) → PastAsking y → PastAsking (reaction P m y).next
  past_up P = every_reaction P.inputs P.outputs (λ m y r. PastAsking y → PastAsking r.next) (record {
    stays = λ m y n h. h;
    asks = λ i p c a e h. absurd h;
    gets = λ i p c a e h. tt;
    sends = λ i p s w e h. tt;
    writes = λ i p s w e h. tt;
    gathers = λ j p v x r e h. absurd h;
    reads = λ j p v x r e h. tt;
  })

  -- once it has its version, a write never asks for clocks again
  past_after : (g p v : ℕ) → (G : Getting given g p v) → (Begun (world given (suc g)) p) × PastAsking ((world given (suc g)).op p)
  past_after g p v G = subst (λ (V : PlainState). (Begun V p) × PastAsking (V.op p)) (sym G.step.world)
      (subst (λ (a : Act). (Begun (run G.known.P a (world given g)) p) × PastAsking ((run G.known.P a (world given g)).op p)) (sym G.how.act) (G.begun, past))
    where
      P : Params
      P = G.known.P

      h : GetsVersion P (world given g) (act_of (before S g) (call_at S g)) p G.object G.version G.value
      h = G.how

      new : Reaction
      new = reaction P (ClockAnswer h.from h.named h.clock) ((world given g).op h.named)

      past : PastAsking (at h.named new.next (world given g).op p)
      past = subst (λ (q : ℕ). PastAsking (at h.named new.next (world given g).op q)) G.named
          (subst PastAsking (sym (at_same h.named new.next (world given g).op))
          (subst (λ (y : Operation). PastAsking (reaction P (ClockAnswer h.from h.named h.clock) y).next) (sym h.op)
          (subst (λ (r : Reaction). PastAsking r.next) (sym (reacts_gets P.inputs P.outputs h.from h.named h.clock h.ask h.knows)) tt)))

  not_again : (g h p v w : ℕ) → Getting given g p v → Getting given h p w → g < h → ⊥
  not_again g h p v w G H l =
      let P = G.known.P in
      let x = past_after g p v G in
      let c = carry given P (λ W. (Begun W p) × PastAsking (W.op p))
      (λ W small _ _ k a m y. (
        let z = (grows P small W k a m).begun in (y.0.0, let b = y.0.1 in omega arith),
        ops_up P small W k PastAsking (past_up P) a p y.0 y.1,
      ))
      (suc g) h l (live_next given P g G.known.live) x in
      let e : (world given h).op p ≡ asking H.how.ask = subst (λ (q : ℕ). (world given h).op q ≡ asking H.how.ask) H.named H.how.op in
      subst PastAsking e c.1.1

  one_each : (g p v w : ℕ) → Getting given g p v → Getting given g p w → v ≡ w
  one_each g p v w G H =
      let a = sym G.how.act ∙ H.how.act in
      let f : G.how.from ≡ H.how.from = cc in
      let c : G.how.clock ≡ H.how.clock = cc in
      let e : asking G.how.ask ≡ asking H.how.ask =
      sym (subst (λ (q : ℕ). (world given g).op q ≡ asking G.how.ask) G.named G.how.op)
      ∙ subst (λ (q : ℕ). (world given g).op q ≡ asking H.how.ask) H.named H.how.op in
      let k : G.how.ask ≡ H.how.ask = cc in
      let x : (gets_version (hears_clock G.how.from G.how.clock G.how.ask)).version ≡ (gets_version (hears_clock H.how.from H.how.clock H.how.ask)).version =
      ap (λ (n : ℕ). (gets_version (hears_clock n G.how.clock G.how.ask)).version) f
      ∙ ap (λ (n : ℕ). (gets_version (hears_clock H.how.from n G.how.ask)).version) c
      ∙ ap (λ (n : Asking). (gets_version (hears_clock H.how.from H.how.clock n)).version) k in
      sym G.is ∙ ap (λ (n : Version). n.0) (sym G.how.version ∙ x ∙ H.how.version) ∙ H.is

  one_version : OneVersion S
  one_version = (gets_once, ends_with_it)
    where
      gets_once : (p g h v w : ℕ) → Sends S g p v → Sends S h p w → (g ≡ h) × (v ≡ w)
      gets_once p g h v w x y =
          let G = getting given g p v x in
          let H = getting given h p w y in
          elim (cases_order g h) [
            | inl e ↦ (e, one_each g p v w G (subst (λ (k : ℕ). Getting given k p w) (sym e) H))
            | inr (inl l) ↦ absurd (not_again g h p v w G H l)
            | inr (inr l) ↦ absurd (not_again h g p w v H G l)
          ]

      ends_with_it : (p t w y : ℕ) → EndsWrite S t p w y → EndOf S t p w y
      ends_with_it p t w y e =
          let E = end_of_write given t p w y e in
          let h = E.how in
          let l = E.known.live in
          let ok : SendingOk E.known.P (world given t) p h.write = subst (OpOk E.known.P (world given t) p) h.op (l.kept.ops p E.begun) in
          let m = all_at (MsgTraced given t) (WriteRequest p ok.asked.0 h.write.object h.write.version h.write.value) (world given t).sent E.known.traced.msgs ok.asked.1 in
          record {
            gets = m.1.0;
            earlier = m.1.1;
            got = subst (Gets S m.1.0 p) h.version m.1.2;
            value = λ b o x f. sym h.value ∙ (same_write given m.0.0 b p h.write.object h.write.value o x m.0.2 f).1;
          }

  -- ---- what ends has begun

  -- an operation that a call began, and no other call began it
  begun_once : (t p b : ℕ) (Kind Other : ℕ → Type 0) → b < t → b < calls given → said_at S b ≡ began p → Kind b
      → ((u : ℕ) → Kind u → (u < calls given) × (said_at S u ≡ began p)) → ((u : ℕ) → Other u → (u < calls given) × (said_at S u ≡ began p)) → (Other b → ⊥)
      → BegunOnce t Kind Other
  begun_once t p b Kind Other l made said kind kinds others apart = record {
    begins = b;
    earlier = l;
    begun = kind;
    once = λ u k. let s = kinds u k in once given u b p s.0 made s.1 said;
    never = λ u k. let s = others u k in apart (subst Other (once given u b p s.0 made s.1 said) k);
  }

  -- no call begins both a write and a read
  one_kind : (b p q o x r : ℕ) → BeginsWrite S b p o x → BeginsRead S b q r → ⊥
  one_kind b p q o x r f g = let e : to_write o x ≡ to_read r = sym f.call ∙ g.call in never (cc)

  pub what_ends_has_begun : WhatEndsHasBegun S
  what_ends_has_begun p t v x = (write p t v x, read p t v x)
    where
      write : (p t w y : ℕ) → EndsWrite S t p w y → BegunOnce t (λ u. BeginsAsWrite S u p) (λ u. BeginsAsRead S u p)
      write p t w y e =
          let E = end_of_write given t p w y e in
          let r : (b : ℕ) × (b < t) × BeginsWrite S b p E.how.write.object E.how.write.value = subst (OpTraced given t p) E.how.op (E.known.traced.ops p E.begun) in
          begun_once t p r.0 (λ u. BeginsAsWrite S u p) (λ u. BeginsAsRead S u p) r.1 r.2.made r.2.said (E.how.write.object, E.how.write.value, r.2)
          (λ u k. (k.2.made, k.2.said)) (λ u k. (k.1.made, k.1.said)) (λ k. one_kind r.0 p p _ _ k.0 r.2 k.1)

      read : (p t v z : ℕ) → EndsRead S t p v z → BegunOnce t (λ u. BeginsAsRead S u p) (λ u. BeginsAsWrite S u p)
      read p t v z e =
          let E = end_of_read given t p v z e in
          let r : (b : ℕ) × (b < t) × BeginsRead S b p E.how.read.object = subst (OpTraced given t p) E.how.op (E.known.traced.ops p E.begun) in
          begun_once t p r.0 (λ u. BeginsAsRead S u p) (λ u. BeginsAsWrite S u p) r.1 r.2.made r.2.said (E.how.read.object, r.2)
          (λ u k. (k.1.made, k.1.said)) (λ u k. (k.2.made, k.2.said)) (λ k. one_kind r.0 p p k.0 k.1 _ k.2 r.2)

  pub guarantee : Guarantee S
  guarantee = record {
    never_behind = never_behind;
    never_invented = never_invented;
    always_rising = always_rising;
    one_version = one_version;
    begun = what_ends_has_begun;
  }

pub every_story : EveryStory
every_story S il ol closed = guarantee (record { story = S; in_lawful = il; out_lawful = ol; closed = closed })
