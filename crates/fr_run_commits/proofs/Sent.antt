-- What a proxy waits for was asked and told: a number that its sequencer gave was told to it, and the pushes of a batch that has its place were sent.
use Rattle.std.proofs.Common.{◌≡◌, ℕ, ◌<◌, Bool, true, false, cond, not, nat_lt, ◌==◌, ◌&&◌, filter, List, [], ◌∷◌, Option, None, Some, inl, inr, ◌⊎◌, refl, sym, ◌∙◌, ap, subst}
use Rattle.std.specs.Prelude.{IfSome}
use Rattle.std.specs.List.{Contains, range_with_len}
use Rattle.std.specs.Option.{option_map}
use Rattle.std.proofs.lemmas.Bool.{and_parts, eqb-true, true≢false}
use Rattle.fr_base.specs.declared.place.NodeId.{NodeId}
use Rattle.fr_base.specs.declared.place.NodeId.TheVariants as node
use Rattle.fr_mutation.specs.declared.mutation.Mutation.{Mutation}
use Rattle.fr_state.specs.Generations.{LogGeneration}
use Rattle.fr_log.specs.declared.ask.LogAsk.TheVariants.{Push}
use Rattle.fr_ask.specs.declared.ask.Ask.{Ask}
use Rattle.fr_ask.specs.declared.ask.Ask.TheVariants as ask
use Rattle.fr_ask.specs.declared.sequencer.SeqAsk.TheVariants.{Next}
use Rattle.fr_ask.specs.declared.sequencer.SeqTell.{SeqTell}
use Rattle.fr_ask.specs.declared.sequencer.SeqTell.TheVariants as stell
use Rattle.fr_ask.specs.declared.tell.Tell.{Tell}
use Rattle.fr_ask.specs.declared.tell.Tell.TheVariants as tell
use Rattle.fr_proxy.specs.declared.heeded.Heeded.{Heeded}
use Rattle.fr_proxy.specs.declared.heeded.Heeded.TheVariants as heeds
use Rattle.fr_proxy.specs.declared.number.Place.{Place}
use Rattle.fr_proxy.specs.Heard.{Heard, Ignores, Places, Holds, HoldsAll, Cuts}
use Rattle.fr_proxy.specs.Proxy.{ProxyState, Open, submitted, opened, push_of, is_in, placed, with_held, asks_of_open, after_heeded, asks_of_heeded, heeded, after_hear, new_asks}
use Rattle.fr_run.specs.Config.{Config}
use Rattle.fr_run.specs.Laws.{Laws}
use Rattle.fr_run.specs.Nodes.{generation_at, is_open, proxy_after, new_proxy_in, proxy_at}
use Rattle.fr_run.specs.Run.{IsTurn, IsRun}
use Rattle.fr_run.specs.Turn.{Turn, Begun, CellTurn, LogTurn, SeqTurn, Submitted, ProxyHeard, RecHeard, StorageHeard, Gone, Crashed, Sent, Told}
use Rattle.fr_run.proofs.Cells.{Contains-none, Contains-cases}
use Rattle.fr_run.proofs.Growth.{proxy_stays}
use Rattle.fr_run_headline.specs.Numbers.{Numbering, is_above, with_number, numbers}
use Rattle.fr_run_headline.specs.Proxies.{AreHolders, IsOpenOf}
use Rattle.fr_run_headline.proofs.ProxyRule.{shut_run}
use Rattle.fr_run_headline.proofs.Proxies.{proxies_are}
use Rattle.fr_run_headline.proofs.Requests.{next_is_own, proxy_is_at}
use Rattle.fr_run_outcomes.proofs.Lists.{left_has, map_has}

-- ---- numbers

-- a number among those after one more tell was there before, or is the one told
with_number_told : (p : ℕ) (t : SeqTell) (ns : List Numbering) (n : Numbering) → Contains (with_number p t ns) n → Contains ns n ⊎ ((t ≡ stell.Numbered n.request n.prev n.version) × (p ≡ n.proxy))
with_number_told p (stell.Numbered r prev v) ns n k = go (is_above v ns) k
  where
    go : (b : Bool) → Contains (cond b (record { proxy = p; request = r; prev = prev; version = v } ∷ ns) ns) n → Contains ns n ⊎ ((stell.Numbered r prev v ≡ stell.Numbered n.request n.prev n.version) × (p ≡ n.proxy))
    go true k = elim (Contains-cases (record { proxy = p; request = r; prev = prev; version = v }) ns n k) [
      | inl e ↦ inr (ap (λ (x : Numbering). stell.Numbered x.request x.prev x.version) e, ap (λ (x : Numbering). x.proxy) e)
      | inr m ↦ inl m
    ]
    go false k = inl k
with_number_told p (stell.Refused why) ns n k = inl k

abbrev IsNumberTold : List Turn → ℕ → Numbering → Type 0
IsNumberTold h e n = Told h (node.Sequencer e) (node.Proxy e n.proxy) (tell.Seq (stell.Numbered n.request n.prev n.version))

-- each number was told to its proxy
pub number_is_told : Laws → (c : Config) (h : List Turn) → IsRun c h → (e : ℕ) (n : Numbering) → Contains (numbers h e) n → IsNumberTold h e n
number_is_told laws c [] run e n k = absurd (Contains-none k)
number_is_told laws c (t ∷ h) run e n k = now t run.0 (λ m. number_is_told laws c h run.1 e n m) k
  where
    now : (t : Turn) → IsTurn c h t → (Contains (numbers h e) n → IsNumberTold h e n) → Contains (numbers (t ∷ h) e) n → IsNumberTold (t ∷ h) e n
    now (Begun b shape asks) is old k = inr (old k)
    now (CellTurn from i a u) is old k = inr (old k)
    now (LogTurn from x i a u) is old k = inr (old k)
    now (SeqTurn from x (Next p r step) u) is old k = go (x == e) refl k
      where
        go : (b : Bool) → (x == e) ≡ b → Contains (cond b (with_number p u (numbers h e)) (numbers h e)) n → IsNumberTold (SeqTurn from x (Next p r step) u ∷ h) e n
        go false at m = inr (old m)
        go true at m = elim (with_number_told p u (numbers h e) n m) [
          | inl mine ↦ inr (old mine)
          | inr (says, own) ↦ inl (ap node.Sequencer (eqb-true x e at), (next_is_own laws c h run.1 from x p r step is.1).sender ∙ ap (λ y. node.Proxy y p) (eqb-true x e at) ∙ ap (node.Proxy e) own, ap tell.Seq says)
        ]
    now (Submitted x p step batch asks) is old k = inr (old k)
    now (ProxyHeard x p from u outcome asks) is old k = inr (old k)
    now (RecHeard b from u asks) is old k = inr (old k)
    now (StorageHeard tag from u taken fault) is old k = inr (old k)
    now (Gone who) is old k = inr (old k)
    now (Crashed who) is old k = inr (old k)

-- ---- pushes

-- the pushes of a proxy's batch that has its place were sent to each log
abbrev ArePushed : List Turn → ℕ → ℕ → ProxyState → Type 0
ArePushed h e p s = (o : Open) (at : Place) → s.under_way ≡ Some o → o.place ≡ Some at → (i : ℕ) → i < s.m → Sent h (node.Proxy e p) (node.Log e i) (ask.Log (Push (push_of s o at i)))

later : (t : Turn) (h : List Turn) (e p : ℕ) (s : ProxyState) → ArePushed h e p s → ArePushed (t ∷ h) e p s
later t h e p s k = λ o at way place i below. inr (k o at way place i below)

-- a batch that was just taken has no place
fresh : (h : List Turn) (e p step : ℕ) (batch : List Mutation) (s : ProxyState) → ArePushed h e p (submitted s step batch)
fresh h e p step batch s = λ o at way place i below. (
    let d : Some (opened s step batch) ≡ Some o = way in
    let same : opened s step batch ≡ o = cc in
    let none : None ≡ Some at = ap (λ (x : Open). x.place) same ∙ place in
    absurd (cc))

-- what a tell makes of it: a proxy that gives its batch a place sends the pushes
heard : Laws → (c : Config) (h : List Turn) → IsRun c h → (e p : ℕ) (from : NodeId) (t : Tell) (turn : Turn) → is_open c h e ≡ true → ArePushed h e p (proxy_at c h e p) → (x : Heeded) → Heard (proxy_at c h e p) from t x
    → ((i : ℕ) (a : Ask) → Contains (asks_of_heeded (proxy_at c h e p) x) (node.Log e i, a) → Sent (turn ∷ h) (node.Proxy e p) (node.Log e i) a) → ArePushed (turn ∷ h) e p (after_heeded (proxy_at c h e p) x)
heard laws c h run e p from t turn op k x Ignores asks = later turn h e p (proxy_at c h e p) k
heard laws c h run e p from t turn op k x (Places o at n) asks = λ q place way given i below. asks i (ask.Log (Push (push_of (after_heeded (proxy_at c h e p) (heeds.Placed at)) q place i))) (has q place way given i below)
  where
    was : IsOpenOf c h e p (proxy_at c h e p) o
    was = subst (λ u. IfSome u (IsOpenOf c h e p (proxy_at c h e p))) n.under_way (proxies_are laws c h run e p op).under_way

    none : o.held ≡ []
    none = subst (λ y. AreHolders c h e (proxy_at c h e p) y o.held) n.unplaced was.holders

    now : (after_heeded (proxy_at c h e p) (heeds.Placed at)).under_way ≡ Some (placed at o)
    now = ap (option_map (placed at)) n.under_way

    mine : (i : ℕ) → i < (proxy_at c h e p).m → Contains (asks_of_heeded (proxy_at c h e p) (heeds.Placed at)) (node.Log e i, ask.Log (Push (push_of (after_heeded (proxy_at c h e p) (heeds.Placed at)) (placed at o) at i)))
    mine i below =
        subst (λ u. Contains (asks_of_open (after_heeded (proxy_at c h e p) (heeds.Placed at)) u) (node.Log e i, ask.Log (Push (push_of (after_heeded (proxy_at c h e p) (heeds.Placed at)) (placed at o) at i)))) (sym now)
        (subst (λ y. Contains (asks_of_open (after_heeded (proxy_at c h e p) (heeds.Placed at)) (Some (placed at o))) (node.Log y i, ask.Log (Push (push_of (after_heeded (proxy_at c h e p) (heeds.Placed at)) (placed at o) at i)))) (proxy_is_at laws c h e p).0
        (map_has (λ log. (node.Log (proxy_at c h e p).epoch log, ask.Log (Push (push_of (after_heeded (proxy_at c h e p) (heeds.Placed at)) (placed at o) at log)))) (filter (λ log. not (is_in o.held log)) (range_with_len 0 (proxy_at c h e p).m)) i
        (left_has (proxy_at c h e p).m (is_in o.held) i below (ap (λ xs. is_in xs i) none))))

    has : (q : Open) (place : Place) → (after_heeded (proxy_at c h e p) (heeds.Placed at)).under_way ≡ Some q → q.place ≡ Some place → (i : ℕ) → i < (proxy_at c h e p).m
        → Contains (asks_of_heeded (proxy_at c h e p) (heeds.Placed at)) (node.Log e i, ask.Log (Push (push_of (after_heeded (proxy_at c h e p) (heeds.Placed at)) q place i)))
    has q place way given i below =
        let two : Some q ≡ Some (placed at o) = sym way ∙ now in
        let same : q ≡ placed at o = cc in
        let three : Some place ≡ Some at = sym given ∙ ap (λ (y : Open). y.place) same in
        let here : place ≡ at = cc in
        subst (λ z. Contains (asks_of_heeded (proxy_at c h e p) (heeds.Placed at)) (node.Log e i, ask.Log (Push (push_of (after_heeded (proxy_at c h e p) (heeds.Placed at)) q z i)))) (sym here)
        (subst (λ (y : Open). Contains (asks_of_heeded (proxy_at c h e p) (heeds.Placed at)) (node.Log e i, ask.Log (Push (push_of (after_heeded (proxy_at c h e p) (heeds.Placed at)) y at i)))) (sym same) (mine i below))
heard laws c h run e p from t turn op k x (Holds o at log n more) asks = λ q place way given i below. (
    let two : Some q ≡ Some (with_held log o) = sym way ∙ ap (option_map (with_held log)) n.under_way in
    let same : q ≡ with_held log o = cc in
    inr (subst (λ (y : Open). Sent h (node.Proxy e p) (node.Log e i) (ask.Log (Push (push_of (after_heeded (proxy_at c h e p) (heeds.HeldBy log)) y place i)))) (sym same) (k o place n.under_way (ap (λ (y : Open). y.place) (sym same) ∙ given) i below)))
heard laws c h run e p from t turn op k x (HoldsAll o at log n all) asks = λ q place way given i below. (let d : None ≡ Some q = way in absurd (cc))
heard laws c h run e p from t turn op k x (Cuts o at is) asks = λ q place way given i below. (let d : None ≡ Some q = way in absurd (cc))

turn_keeps : Laws → (c : Config) (h : List Turn) (t : Turn) → IsRun c h → IsTurn c h t → (e p : ℕ) → is_open c h e ≡ true → ArePushed h e p (proxy_at c h e p) → ArePushed (t ∷ h) e p (proxy_after t e p (proxy_at c h e p))
turn_keeps laws c h (Begun b shape asks) run is e p op k = later (Begun b shape asks) h e p (proxy_at c h e p) k
turn_keeps laws c h (CellTurn from i a u) run is e p op k = later (CellTurn from i a u) h e p (proxy_at c h e p) k
turn_keeps laws c h (LogTurn from x i a u) run is e p op k = later (LogTurn from x i a u) h e p (proxy_at c h e p) k
turn_keeps laws c h (SeqTurn from x a u) run is e p op k = later (SeqTurn from x a u) h e p (proxy_at c h e p) k
turn_keeps laws c h (Submitted x q step batch sends) run is e p op k = go ((x == e) && (q == p))
  where
    go : (b : Bool) → ArePushed (Submitted x q step batch sends ∷ h) e p (cond b (submitted (proxy_at c h e p) step batch) (proxy_at c h e p))
    go true = fresh (Submitted x q step batch sends ∷ h) e p step batch (proxy_at c h e p)
    go false = later (Submitted x q step batch sends) h e p (proxy_at c h e p) k
turn_keeps laws c h (ProxyHeard x q from u outcome sends) run is e p op k = go ((x == e) && (q == p)) refl
  where
    own : x ≡ e → q ≡ p → sends ≡ asks_of_heeded (proxy_at c h e p) (heeded (proxy_at c h e p) from u)
    own a b = is.2 ∙ ap (λ y. new_asks (proxy_at c h y q) from u) a ∙ ap (λ z. new_asks (proxy_at c h e z) from u) b

    go : (b : Bool) → ((x == e) && (q == p)) ≡ b → ArePushed (ProxyHeard x q from u outcome sends ∷ h) e p (cond b (after_hear (proxy_at c h e p) from u) (proxy_at c h e p))
    go true at =
        let parts = and_parts (x == e) (q == p) at in
        let a : x ≡ e = eqb-true x e parts.0 in
        let b : q ≡ p = eqb-true q p parts.1 in
        heard laws c h run e p from u (ProxyHeard x q from u outcome sends) op k (heeded (proxy_at c h e p) from u) (laws.proxy_heard (proxy_at c h e p) from u)
        (λ i y there. inl (ap (λ z. node.Proxy z q) a ∙ ap (node.Proxy e) b, subst (λ xs. Contains xs (node.Log e i, y)) (sym (own a b)) there))
    go false at = later (ProxyHeard x q from u outcome sends) h e p (proxy_at c h e p) k
turn_keeps laws c h (RecHeard b from u asks) run is e p op k = later (RecHeard b from u asks) h e p (proxy_at c h e p) k
turn_keeps laws c h (StorageHeard tag from u taken fault) run is e p op k = later (StorageHeard tag from u taken fault) h e p (proxy_at c h e p) k
turn_keeps laws c h (Gone who) run is e p op k = later (Gone who) h e p (proxy_at c h e p) k
turn_keeps laws c h (Crashed who) run is e p op k = later (Crashed who) h e p (proxy_at c h e p) k

-- a proxy of an epoch that is not open takes no turn
shut_turn : (c : Config) (h : List Turn) (t : Turn) → IsTurn c h t → (e p : ℕ) → is_open c h e ≡ false → (s : ProxyState) → proxy_after t e p s ≡ s
shut_turn c h (Begun b shape asks) is e p shut s = refl
shut_turn c h (CellTurn from i a u) is e p shut s = refl
shut_turn c h (LogTurn from x i a u) is e p shut s = refl
shut_turn c h (SeqTurn from x a u) is e p shut s = refl
shut_turn c h (Submitted x q step batch asks) is e p shut s = go ((x == e) && (q == p)) refl
  where
    go : (b : Bool) → ((x == e) && (q == p)) ≡ b → cond b (submitted s step batch) s ≡ s
    go true at = absurd (true≢false (sym (and_parts (is_open c h x) (nat_lt q c.proxies) is.0.there).0 ∙ ap (is_open c h) (eqb-true x e (and_parts (x == e) (q == p) at).0) ∙ shut))
    go false at = refl
shut_turn c h (ProxyHeard x q from u outcome asks) is e p shut s = go ((x == e) && (q == p)) refl
  where
    go : (b : Bool) → ((x == e) && (q == p)) ≡ b → cond b (after_hear s from u) s ≡ s
    go true at = absurd (true≢false (sym (and_parts (is_open c h x) (nat_lt q c.proxies) is.0.actor.there).0 ∙ ap (is_open c h) (eqb-true x e (and_parts (x == e) (q == p) at).0) ∙ shut))
    go false at = refl
shut_turn c h (RecHeard b from u asks) is e p shut s = refl
shut_turn c h (StorageHeard tag from u taken fault) is e p shut s = refl
shut_turn c h (Gone who) is e p shut s = refl
shut_turn c h (Crashed who) is e p shut s = refl

new_pushed : (c : Config) (h : List Turn) (o : Option LogGeneration) (e p : ℕ) → ArePushed h e p (new_proxy_in c o e p)
new_pushed c h None e p = λ q at way place i below. (let d : None ≡ Some q = way in absurd (cc))
new_pushed c h (Some g) e p = λ q at way place i below. (let d : None ≡ Some q = way in absurd (cc))

next : Laws → (c : Config) (h : List Turn) (t : Turn) → IsRun c h → IsTurn c h t → (e p : ℕ) → (is_open c h e ≡ true → ArePushed h e p (proxy_at c h e p)) → ArePushed (t ∷ h) e p (proxy_at c (t ∷ h) e p)
next laws c h t run is e p before = go (is_open c h e) refl
  where
    go : (b : Bool) → is_open c h e ≡ b → ArePushed (t ∷ h) e p (proxy_at c (t ∷ h) e p)
    go true was = subst (ArePushed (t ∷ h) e p) (sym (proxy_stays laws c h t run is e p was)) (turn_keeps laws c h t run is e p was (before was))
    go false shut =
        let s = new_proxy_in c (generation_at c (t ∷ h) e) e p in
        subst (ArePushed (t ∷ h) e p) (sym (ap (proxy_after t e p) (shut_run laws c h run e p shut s).0 ∙ shut_turn c h t is e p shut s)) (new_pushed c (t ∷ h) (generation_at c (t ∷ h) e) e p)

pub are_pushed : Laws → (c : Config) (h : List Turn) → IsRun c h → (e p : ℕ) → is_open c h e ≡ true → (o : Open) (at : Place) → (proxy_at c h e p).under_way ≡ Some o → o.place ≡ Some at → (i : ℕ) → i < (proxy_at c h e p).m
    → Sent h (node.Proxy e p) (node.Log e i) (ask.Log (Push (push_of (proxy_at c h e p) o at i)))
are_pushed laws c [] run e p op = new_pushed c [] (generation_at c [] e) e p
are_pushed laws c (t ∷ h) run e p op = next laws c h t run.1 run.0 e p (λ was. are_pushed laws c h run.1 e p was)
