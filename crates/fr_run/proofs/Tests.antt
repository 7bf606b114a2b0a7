-- The tests on turns answer yes exactly where what they test is so.
use Rattle.std.proofs.Common.{◌≡◌, Bool, true, false, ◌==◌, ◌&&◌, ◌||◌, List, [], ◌∷◌, inl, inr, ◌⊎◌, refl, ◌∙◌, ap, subst}
use Rattle.std.specs.List.{Contains, list_any}
use Rattle.std.specs.Prelude.{nat_lt, nat_le, length}
use Rattle.std.proofs.lemmas.Bool.{and_parts, or_left, or_right, eqb-true, eq-eqb, ltb-true, lt-ltb, leb-true, le-leb}
use Rattle.fr_base.specs.Node.{is_same_node, is_same_node-IsSameness}
use Rattle.fr_base.specs.declared.place.NodeId.{NodeId}
use Rattle.fr_base.specs.declared.place.NodeId.TheVariants as node
use Rattle.fr_log.specs.declared.ask.LogAsk.{LogAsk}
use Rattle.fr_log.specs.declared.ask.LogAsk.TheVariants as lask
use Rattle.fr_ask.specs.Same.{is_same_ask, is_same_ask-IsSameness, is_same_tell, is_same_tell-IsSameness}
use Rattle.fr_ask.specs.declared.ask.Ask.{Ask}
use Rattle.fr_ask.specs.declared.tell.Tell.{Tell}
use Rattle.fr_ask.specs.declared.tell.Tell.TheVariants as tell
use Rattle.fr_run.specs.Config.{Config}
use Rattle.fr_run.specs.Turn.{Turn, Sending, Begun, CellTurn, LogTurn, SeqTurn, Submitted, ProxyHeard, RecHeard, StorageHeard, Gone, Crashed, actor_of, asks_of, Sent, TellsBy, Told}
use Rattle.fr_run.specs.Run.{StorageMayAsk}
use Rattle.fr_run.proofs.Cells.{Contains-here, Contains-later, Contains-none, Contains-cases}
use Rattle.fr_run.specs.Nodes.{storage_at}
use Rattle.fr_run.specs.Tests.{goes, is_gone, is_sending, gives, was_sent, tells, was_told, storage_may_ask}

or_cases' : (x y : Bool) → (x || y) ≡ true → (x ≡ true) ⊎ (y ≡ true)
or_cases' true y e = inl refl
or_cases' false y e = inr e

both' : (x y : Bool) → x ≡ true → y ≡ true → (x && y) ≡ true
both' x y e d = rw e d

same_nodes : (a b : NodeId) → a ≡ b → is_same_node a b ≡ true
same_nodes a b e = ap (is_same_node a) e' ∙ is_same_node-IsSameness.itself a
  where
    e' : b ≡ a
    e' = cc

-- ---- what was sent

found : (to : NodeId) (a : Ask) (asks : List Sending) → list_any (is_sending to a) asks ≡ true → Contains asks (to, a)
found to a [] e = absurd (cc)
found to a (s ∷ asks) e = elim (or_cases' (is_sending to a s) (list_any (is_sending to a) asks) e) [
  | inl here ↦ (let k = and_parts (is_same_node s.0 to) (is_same_ask s.1 a) here in
      let n = is_same_node-IsSameness.same s.0 to k.0 in
      let b = is_same_ask-IsSameness.same s.1 a k.1 in
      subst (λ x. Contains (s ∷ asks) x) (ap (λ x. let y : Sending = (x, s.1) in y) n ∙ ap (λ x. let y : Sending = (to, x) in y) b) (Contains-here s asks))
  | inr later ↦ Contains-later s asks (to, a) (found to a asks later)
]

itself : (to : NodeId) (a : Ask) → is_sending to a (to, a) ≡ true
itself to a = both' (is_same_node to to) (is_same_ask a a) (is_same_node-IsSameness.itself to) (is_same_ask-IsSameness.itself a)

finds : (to : NodeId) (a : Ask) (asks : List Sending) → Contains asks (to, a) → list_any (is_sending to a) asks ≡ true
finds to a [] k = absurd (Contains-none k)
finds to a (s ∷ asks) k = elim (Contains-cases s asks (to, a) k) [
  | inl e ↦ or_left (is_sending to a s) (list_any (is_sending to a) asks) (ap (is_sending to a) e ∙ itself to a)
  | inr m ↦ or_right (is_sending to a s) (list_any (is_sending to a) asks) (finds to a asks m)
]

pub sent_is : (h : List Turn) (from to : NodeId) (a : Ask) → was_sent h from to a ≡ true → Sent h from to a
sent_is [] from to a e = absurd (cc)
sent_is (t ∷ h) from to a e = elim (or_cases' (gives from to a t) (was_sent h from to a) e) [
  | inl here ↦ (let k = and_parts (is_same_node (actor_of t) from) (list_any (is_sending to a) (asks_of t)) here in
      inl (is_same_node-IsSameness.same (actor_of t) from k.0, found to a (asks_of t) k.1))
  | inr later ↦ inr (sent_is h from to a later)
]

pub is_sent : (h : List Turn) (from to : NodeId) (a : Ask) → Sent h from to a → was_sent h from to a ≡ true
is_sent [] from to a k = absurd k
is_sent (t ∷ h) from to a (inl k) =
    or_left (gives from to a t) (was_sent h from to a)
    (both' (is_same_node (actor_of t) from) (list_any (is_sending to a) (asks_of t)) (same_nodes (actor_of t) from k.0) (finds to a (asks_of t) k.1))
is_sent (t ∷ h) from to a (inr k) = or_right (gives from to a t) (was_sent h from to a) (is_sent h from to a k)

-- ---- what was told

same_tells : (a b : Tell) → a ≡ b → is_same_tell a b ≡ true
same_tells a b e = ap (is_same_tell a) e' ∙ is_same_tell-IsSameness.itself a
  where
    e' : b ≡ a
    e' = cc

told_parts : (who by from to : NodeId) (told u : Tell) → (is_same_node who by && (is_same_node from to && is_same_tell told u)) ≡ true → (who ≡ by) × (from ≡ to) × (told ≡ u)
told_parts who by from to told u e =
    let k = and_parts (is_same_node who by) (is_same_node from to && is_same_tell told u) e in
    let l = and_parts (is_same_node from to) (is_same_tell told u) k.1 in
    (is_same_node-IsSameness.same who by k.0, is_same_node-IsSameness.same from to l.0, is_same_tell-IsSameness.same told u l.1)

parts_told : (who by from to : NodeId) (told u : Tell) → (who ≡ by) × (from ≡ to) × (told ≡ u) → (is_same_node who by && (is_same_node from to && is_same_tell told u)) ≡ true
parts_told who by from to told u k =
    both' (is_same_node who by) (is_same_node from to && is_same_tell told u) (same_nodes who by k.0)
    (both' (is_same_node from to) (is_same_tell told u) (same_nodes from to k.1) (same_tells told u k.2))

told_by : (t : Turn) (by to : NodeId) (u : Tell) → tells by to u t ≡ true → TellsBy t by to u
told_by (Begun b shape asks) by to u e = absurd (cc)
told_by (CellTurn from i a told) by to u e = told_parts (node.Cell i) by from to (tell.Cell told) u e
told_by (LogTurn from x i a told) by to u e = told_parts (node.Log x i) by from to (tell.Log told) u e
told_by (SeqTurn from x a told) by to u e = told_parts (node.Sequencer x) by from to (tell.Seq told) u e
told_by (Submitted x p step batch asks) by to u e = absurd (cc)
told_by (ProxyHeard x p from told outcome asks) by to u e = absurd (cc)
told_by (RecHeard b from told asks) by to u e = absurd (cc)
told_by (StorageHeard tag from told taken fault) by to u e = absurd (cc)
told_by (Gone who) by to u e = absurd (cc)
told_by (Crashed who) by to u e = absurd (cc)

by_told : (t : Turn) (by to : NodeId) (u : Tell) → TellsBy t by to u → tells by to u t ≡ true
by_told (Begun b shape asks) by to u k = absurd k
by_told (CellTurn from i a told) by to u k = parts_told (node.Cell i) by from to (tell.Cell told) u k
by_told (LogTurn from x i a told) by to u k = parts_told (node.Log x i) by from to (tell.Log told) u k
by_told (SeqTurn from x a told) by to u k = parts_told (node.Sequencer x) by from to (tell.Seq told) u k
by_told (Submitted x p step batch asks) by to u k = absurd k
by_told (ProxyHeard x p from told outcome asks) by to u k = absurd k
by_told (RecHeard b from told asks) by to u k = absurd k
by_told (StorageHeard tag from told taken fault) by to u k = absurd k
by_told (Gone who) by to u k = absurd k
by_told (Crashed who) by to u k = absurd k

pub told_is : (h : List Turn) (by to : NodeId) (u : Tell) → was_told h by to u ≡ true → Told h by to u
told_is [] by to u e = absurd (cc)
told_is (t ∷ h) by to u e = elim (or_cases' (tells by to u t) (was_told h by to u) e) [ inl here ↦ inl (told_by t by to u here) | inr later ↦ inr (told_is h by to u later) ]

pub is_told : (h : List Turn) (by to : NodeId) (u : Tell) → Told h by to u → was_told h by to u ≡ true
is_told [] by to u k = absurd k
is_told (t ∷ h) by to u (inl k) = or_left (tells by to u t) (was_told h by to u) (by_told t by to u k)
is_told (t ∷ h) by to u (inr k) = or_right (tells by to u t) (was_told h by to u) (is_told h by to u k)

-- ---- who is gone

pub gone_is : (h : List Turn) (who : NodeId) → Contains h (Gone who) → is_gone h who ≡ true
gone_is [] who k = absurd (Contains-none k)
gone_is (t ∷ h) who k = elim (Contains-cases t h (Gone who) k) [
  | inl e ↦ or_left (goes who t) (is_gone h who) (ap (goes who) e ∙ is_same_node-IsSameness.itself who)
  | inr m ↦ or_right (goes who t) (is_gone h who) (gone_is h who m)
]

went : (who : NodeId) (t : Turn) → goes who t ≡ true → t ≡ Gone who
went who (Begun b shape asks) e = absurd (cc)
went who (CellTurn from i a told) e = absurd (cc)
went who (LogTurn from x i a told) e = absurd (cc)
went who (SeqTurn from x a told) e = absurd (cc)
went who (Submitted x p step batch asks) e = absurd (cc)
went who (ProxyHeard x p from told outcome asks) e = absurd (cc)
went who (RecHeard b from told asks) e = absurd (cc)
went who (StorageHeard tag from told taken fault) e = absurd (cc)
went who (Gone other) e = (let k = is_same_node-IsSameness.same who other e in let l : other ≡ who = cc in ap (λ n. Gone n) l)
went who (Crashed other) e = absurd (cc)

pub is_gone_from : (h : List Turn) (who : NodeId) → is_gone h who ≡ true → Contains h (Gone who)
is_gone_from [] who e = absurd (cc)
is_gone_from (t ∷ h) who e = elim (or_cases' (goes who t) (is_gone h who) e) [
  | inl here ↦ subst (λ x. Contains (t ∷ h) x) (went who t here) (Contains-here t h)
  | inr later ↦ Contains-later t h (Gone who) (is_gone_from h who later)
]

-- ---- what storage servers may ask

pub may_ask : (c : Config) (h : List Turn) (from : NodeId) (a : LogAsk) → storage_may_ask c h from a ≡ true → StorageMayAsk c h from a
may_ask c h (node.Storage t) (lask.Peek e tag after most) k =
    let p = and_parts (t == tag) (nat_lt t (length c.begins)) k in
    (eqb-true t tag p.0, ltb-true t (length c.begins) p.1)
may_ask c h (node.Storage t) (lask.MarkAsked e) k = ltb-true t (length c.begins) k
may_ask c h (node.Storage t) (lask.Pop e tag through) k =
    let own : Bool = list_any (λ g. g.epoch == e) (storage_at c h t).state.gens in
    let low : Bool = nat_le through (storage_at c h t).store.floor in
    let p = and_parts (t == tag) (nat_lt t (length c.begins) && (own && low)) k in
    let q = and_parts (nat_lt t (length c.begins)) (own && low) p.1 in
    let r = and_parts own low q.1 in
    (eqb-true t tag p.0, ltb-true t (length c.begins) q.0, r.0, leb-true through (storage_at c h t).store.floor r.1)
may_ask c h from a k = absurd (cc)

pub asks_may : (c : Config) (h : List Turn) (from : NodeId) (a : LogAsk) → StorageMayAsk c h from a → storage_may_ask c h from a ≡ true
asks_may c h (node.Storage t) (lask.Peek e tag after most) k = both' (t == tag) (nat_lt t (length c.begins)) (eq-eqb t tag k.0) (lt-ltb t (length c.begins) k.1)
asks_may c h (node.Storage t) (lask.MarkAsked e) k = lt-ltb t (length c.begins) k
asks_may c h (node.Storage t) (lask.Pop e tag through) k =
    let own : Bool = list_any (λ g. g.epoch == e) (storage_at c h t).state.gens in
    let low : Bool = nat_le through (storage_at c h t).store.floor in
    both' (t == tag) (nat_lt t (length c.begins) && (own && low)) (eq-eqb t tag k.0)
    (both' (nat_lt t (length c.begins)) (own && low) (lt-ltb t (length c.begins) k.1) (both' own low k.2 (le-leb through (storage_at c h t).store.floor k.3)))
asks_may c h from a k = absurd k
