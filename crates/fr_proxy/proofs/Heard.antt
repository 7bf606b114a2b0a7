-- Each tell that a proxy hears is one of the cases, and each push is of the batch that was numbered just now.
use Rattle.std.proofs.Common.{◌≡◌, ℕ, ◌+◌, ◌<◌, Bool, true, false, cond, not, nat_lt, nat_le, ◌==◌, ◌&&◌, length, is_some, Option, None, Some, refl, sym, ◌∙◌, ap, subst, arith}
use Rattle.std.specs.List.{All, range_with_len}
use Rattle.std.specs.Prelude.{filter}
use Rattle.std.specs.Option.{option_map}
use Rattle.std.proofs.lemmas.Bool.{eqb-true, and_parts, leb-true, ltb-true}
use Rattle.std.proofs.lemmas.List.Elements.{All-nil, All-map, All-filter, All-from_get_or}
use Rattle.std.proofs.lemmas.List.FromFn.{get_or-range_with_len, length-range_with_len}
use Rattle.fr_base.specs.declared.place.NodeId.{NodeId}
use Rattle.fr_base.specs.declared.place.NodeId.TheVariants as node
use Rattle.fr_log.specs.declared.ask.LogAsk.TheVariants as log
use Rattle.fr_log.specs.declared.ask.LogTell.{LogTell}
use Rattle.fr_log.specs.declared.ask.LogTell.TheVariants as ltell
use Rattle.fr_log.specs.declared.ask.LogRefusal.{LogRefusal}
use Rattle.fr_log.specs.declared.ask.LogRefusal.TheVariants as why
use Rattle.fr_ask.specs.declared.ask.Ask.{Ask}
use Rattle.fr_ask.specs.declared.ask.Ask.TheVariants as ask
use Rattle.fr_ask.specs.declared.tell.Tell.{Tell}
use Rattle.fr_ask.specs.declared.tell.Tell.TheVariants as tell
use Rattle.fr_ask.specs.declared.sequencer.SeqTell.{SeqTell}
use Rattle.fr_ask.specs.declared.sequencer.SeqTell.TheVariants as stell
use Rattle.fr_ask.specs.declared.sequencer.SeqRefusal.TheVariants as turn
use Rattle.fr_proxy.specs.Proxy.{ProxyState, Open, Place, Heeded, Ignored, Placed, HeldBy, HeldByAll, placed, push_of, is_in, asks_of_open, asks_of_heeded, after_heeded, heeded, heed, heed_open, heed_seq, heed_log, heed_held, heed_new, heed_refusal, is_own_log, may_place}
use Rattle.fr_proxy.specs.Heard.{IsNewNumber, IsNewHolder, Heard, Ignores, Places, Holds, HoldsAll, Cuts, Spends, Stops, HearIsHeard, IsPushTo, NewIsPush}

is_none_from : (o : Option Place) → not (is_some o) ≡ true → o ≡ None
is_none_from None k = refl
is_none_from (Some at) k = absurd (cc)

of_seq : (p : ProxyState) (o : Open) (t : SeqTell) → p.under_way ≡ Some o → Heard p (node.Sequencer p.epoch) (tell.Seq t) (heed_seq p o t)
of_seq p o (stell.Numbered request prev version) under = go (may_place p o request prev version) refl
  where
    go : (b : Bool) → may_place p o request prev version ≡ b → Heard p (node.Sequencer p.epoch) (tell.Seq (stell.Numbered request prev version)) (cond b (Placed (record { prev = prev; version = version })) Ignored)
    go true k =
        let parts = and_parts ((request == o.request) && not (is_some o.place)) (nat_le p.known prev && (nat_lt prev version && nat_le version (prev + 1000000))) k in
        let own' = and_parts (request == o.request) (not (is_some o.place)) parts.0 in
        let order = and_parts (nat_le p.known prev) (nat_lt prev version && nat_le version (prev + 1000000)) parts.1 in
        let rise = and_parts (nat_lt prev version) (nat_le version (prev + 1000000)) order.1 in
        let at : Place = record { prev = prev; version = version } in
        Places o at (record {
          under_way = under;
          unplaced = is_none_from o.place own'.1;
          sender = refl;
          said = ap (λ r. tell.Seq (stell.Numbered r prev version)) (eqb-true request o.request own'.0);
          known = leb-true p.known prev order.0;
          rises = ltb-true prev version rise.0;
          step = leb-true version (prev + 1000000) rise.1;
        })
    go false k = Ignores
of_seq p o (stell.Refused turn.Spent) under = Cuts o under Spends
of_seq p o (stell.Refused turn.OutOfTurn) under = Ignores

not_true : (b : Bool) → not b ≡ true → b ≡ false
not_true true k = absurd (cc)
not_true false k = refl

of_held : (p : ProxyState) (o : Open) (at : Option Place) (index version : ℕ) → p.under_way ≡ Some o → o.place ≡ at → index < p.m → Heard p (node.Log p.epoch index) (tell.Log (ltell.Held version)) (heed_held p o at index version)
of_held p o None index version under given below = Ignores
of_held p o (Some at) index version under given below = go ((version == at.version) && not (is_in o.held index)) refl
  where
    all : version ≡ at.version → IsNewHolder p o at index (node.Log p.epoch index) (tell.Log (ltell.Held version)) → (b : Bool) → (length o.held + 1 == p.m) ≡ b → Heard p (node.Log p.epoch index) (tell.Log (ltell.Held version)) (cond b (HeldByAll version) (HeldBy index))
    all v k true m = subst (λ x. Heard p (node.Log p.epoch index) (tell.Log (ltell.Held version)) (HeldByAll x)) (sym v) (HoldsAll o at index k (eqb-true (length o.held + 1) p.m m))
    all v k false m = Holds o at index k m

    go : (b : Bool) → ((version == at.version) && not (is_in o.held index)) ≡ b → Heard p (node.Log p.epoch index) (tell.Log (ltell.Held version)) (cond b (heed_new p o index version) Ignored)
    go true k =
        let new = and_parts (version == at.version) (not (is_in o.held index)) k in
        let v = eqb-true version at.version new.0 in
        all v (record {
          under_way = under;
          given = given;
          sender = refl;
          said = ap (λ x. tell.Log (ltell.Held x)) v;
          below = below;
          fresh = not_true (is_in o.held index) new.1;
        }) (length o.held + 1 == p.m) refl
    go false k = Ignores

of_refusal : (p : ProxyState) (o : Open) (index : ℕ) (r : LogRefusal) → p.under_way ≡ Some o → index < p.m → Heard p (node.Log p.epoch index) (tell.Log (ltell.Refused r)) (heed_refusal r)
of_refusal p o index why.Stopped under below = Cuts o under (Stops index below)
of_refusal p o index r under below = Ignores

of_log : (p : ProxyState) (o : Open) (index : ℕ) (u : LogTell) → p.under_way ≡ Some o → index < p.m → Heard p (node.Log p.epoch index) (tell.Log u) (heed_log p o index u)
of_log p o index (ltell.Held version) under below = of_held p o o.place index version under refl below
of_log p o index (ltell.Refused r) under below = of_refusal p o index r under below
of_log p o index u under below = Ignores

of_tell : (p : ProxyState) (o : Open) (from : NodeId) (t : Tell) → p.under_way ≡ Some o → Heard p from t (heed p o from t)
of_tell p o (node.Sequencer e) (tell.Seq t) under = go (e == p.epoch) refl
  where
    go : (b : Bool) → (e == p.epoch) ≡ b → Heard p (node.Sequencer e) (tell.Seq t) (cond b (heed_seq p o t) Ignored)
    go true k = let own = eqb-true e p.epoch k in subst (λ x. Heard p (node.Sequencer x) (tell.Seq t) (heed_seq p o t)) (sym own) (of_seq p o t under)
    go false k = Ignores
of_tell p o (node.Log e i) (tell.Log t) under = go (is_own_log p e i) refl
  where
    go : (b : Bool) → is_own_log p e i ≡ b → Heard p (node.Log e i) (tell.Log t) (cond b (heed_log p o i t) Ignored)
    go true k =
        let parts = and_parts (e == p.epoch) (nat_lt i p.m) k in
        subst (λ x. Heard p (node.Log x i) (tell.Log t) (heed_log p o i t)) (sym (eqb-true e p.epoch parts.0)) (of_log p o i t under (ltb-true i p.m parts.1))
    go false k = Ignores
of_tell p o from t under = Ignores

of_open : (p : ProxyState) (o : Option Open) (from : NodeId) (t : Tell) → p.under_way ≡ o → Heard p from t (heed_open p o from t)
of_open p None from t under = Ignores
of_open p (Some o) from t under = of_tell p o from t under

pub hear_is_heard : HearIsHeard
hear_is_heard p from t = of_open p p.under_way from t refl

-- ---- what is pushed

pushes : (p : ProxyState) (from : NodeId) (t : Tell) (h : Heeded) → Heard p from t h → All (λ s. IsPushTo p from t s.0 s.1) (asks_of_heeded p h)
pushes p from t h Ignores = All-nil (λ s. IsPushTo p from t s.0 s.1)
pushes p from t h (Places o at k) = go p.under_way refl
  where
    go : (u : Option Open) → p.under_way ≡ u → All (λ s. IsPushTo p from t s.0 s.1) (asks_of_open (after_heeded p (Placed at)) (option_map (placed at) u))
    go None e = All-nil (λ s. IsPushTo p from t s.0 s.1)
    go (Some u) e =
        let same : Some o ≡ Some u = sym k.under_way ∙ e in
        let d : o ≡ u = cc in
        let mine : IsNewNumber p u at from t = subst (λ x. IsNewNumber p x at from t) d k in
        let logs = filter (λ log. not (is_in u.held log)) (range_with_len 0 p.m) in
        let f : ℕ → NodeId × Ask = λ i. (node.Log p.epoch i, ask.Log (log.Push (push_of p u at i))) in
        All-map (λ s. IsPushTo p from t s.0 s.1) f logs (All-filter (λ log. not (is_in u.held log)) (λ i. IsPushTo p from t (f i).0 (f i).1) (range_with_len 0 p.m)
        (All-from_get_or (λ i. IsPushTo p from t (f i).0 (f i).1) (range_with_len 0 p.m) 0 (λ i l.
        let n = length-range_with_len 0 p.m in
        record { open_batch = u; place = at; numbered = mine; epoch = refl; below = omega (arith, get_or-range_with_len 0 p.m i 0 (omega (arith, n, l)), n, l); is = refl })))
pushes p from t h (Holds o at log k l) = All-nil (λ s. IsPushTo p from t s.0 s.1)
pushes p from t h (HoldsAll o at log k m) = All-nil (λ s. IsPushTo p from t s.0 s.1)
pushes p from t h (Cuts o under k) = All-nil (λ s. IsPushTo p from t s.0 s.1)

pub new_is_push : NewIsPush
new_is_push p from t = pushes p from t (heeded p from t) (hear_is_heard p from t)
