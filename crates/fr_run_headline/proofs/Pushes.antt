-- Each push and each seed that was sent to a log is of the log's epoch.
use Rattle.std.proofs.Common.{◌≡◌, ℕ, ◌+◌, true, ◌==◌, List, [], ◌∷◌, Option, None, Some, inl, inr, refl, sym, ◌∙◌, ap, subst}
use Rattle.std.specs.List.{Contains}
use Rattle.std.proofs.lemmas.Bool.{or_right}
use Rattle.std.proofs.lemmas.List.Elements.{All-contains}
use Rattle.fr_base.specs.declared.place.NodeId.{NodeId}
use Rattle.fr_base.specs.declared.place.NodeId.TheVariants as node
use Rattle.fr_state.specs.Generations.{LogGeneration}
use Rattle.fr_log.specs.Seed.{SeedContent}
use Rattle.fr_log.specs.Push.{PushContent}
use Rattle.fr_log.specs.declared.ask.LogAsk.TheVariants.{Seed, Push}
use Rattle.fr_ask.specs.declared.ask.Ask.TheVariants as ask
use Rattle.fr_ask.specs.declared.tell.Tell.{Tell}
use Rattle.fr_ask.specs.declared.tell.Tell.TheVariants as tell
use Rattle.fr_ask.specs.declared.sequencer.SeqTell.TheVariants as stell
use Rattle.fr_proxy.specs.declared.number.Number.{Number}
use Rattle.fr_proxy.specs.Proxy as proxy
use Rattle.fr_epoch.specs.Recoverer.{mark_of}
use Rattle.fr_proxy.specs.Heard.{IsPushOf, IsPushTo}
use Rattle.fr_run.specs.Config.{Config, first_epoch}
use Rattle.fr_run.specs.Turn.{Turn, Sending, Begun, CellTurn, LogTurn, SeqTurn, Submitted, ProxyHeard, RecHeard, StorageHeard, Gone, Crashed, actor_of, asks_of, Sent, Told}
use Rattle.fr_run.specs.Nodes.{rec_at, generation_at, mark_version, is_chosen_phase, is_open_in, is_open, proxy_at, proxy_from, new_proxy_in}
use Rattle.fr_run_headline.specs.Numbers.{Numbering, numbers, numbering_of}
use Rattle.fr_run_headline.specs.Logs.{IsAt, IsPlaced, IsOfEpoch, IsSeedOf}
use Rattle.fr_run.specs.Run.{IsTurn, IsRun}
use Rattle.fr_run.specs.Laws.{Laws}
use Rattle.fr_run.specs.AskLaws.{SenderAccounts}
use Rattle.fr_run_headline.specs.LogLaws.{PushesAreOwn, SeedsAreOwn}
use Rattle.fr_run.proofs.ByTurn.{proxy_by_turn}
use Rattle.fr_run.proofs.Chosen.{generation_planned}
use Rattle.fr_run.proofs.Parents.{plan_is}
use Rattle.fr_run.proofs.Growth.{rec_is}
use Rattle.fr_run.proofs.Accounts.{sent_is_accounted, none_sent}
use Rattle.fr_run.proofs.Cells.{Contains-none, Contains-cases}
use Rattle.fr_run_headline.proofs.Numbers.{numbers_stay, numbers_told}

-- ---- proxies

proxy_from_epoch : Laws → (s : proxy.ProxyState) (h : List Turn) (e p : ℕ) → (proxy_from s h e p).epoch ≡ s.epoch
proxy_from_epoch laws s [] e p = refl
proxy_from_epoch laws s (t ∷ h) e p =
    let k = proxy_from_epoch laws s h e p in
    proxy_by_turn t e p (proxy_from s h e p) (λ u. u.epoch ≡ s.epoch) k (λ step batch. k) (λ from u. (laws.proxy_hear (proxy_from s h e p) from u).epoch ∙ k)

proxy_epoch : Laws → (c : Config) (h : List Turn) (e p : ℕ) → (proxy_at c h e p).epoch ≡ e
proxy_epoch laws c h e p = proxy_from_epoch laws (new_proxy_in c (generation_at c h e) e p) h e p ∙ go (generation_at c h e)
  where
    go : (o : Option LogGeneration) → (new_proxy_in c o e p).epoch ≡ e
    go None = refl
    go (Some g) = refl

-- a push of a proxy is at a number of its epoch
record IsNumberedPush (h : List Turn) (e : ℕ) (q : PushContent) : Type 0 where
  number : Numbering
  given : Contains (numbers h e) number
  at : IsAt q number

-- the tell by which a proxy came to push was a number of its epoch
pushed_now : Laws → (c : Config) (h : List Turn) → IsRun c h → (x p : ℕ) (from : NodeId) (t : Tell) → Told h from (node.Proxy x p) t → (e i : ℕ) (q : PushContent)
    → IsPushOf (proxy_at c h x p) from t e i q → IsNumberedPush h x q
pushed_now laws c h run x p from t told e i q k =
    let sender : from ≡ node.Sequencer x = k.numbered.sender ∙ ap node.Sequencer (proxy_epoch laws c h x p) in
    let request = k.open_batch.request in
    let prev : q.prev ≡ k.place.prev = ap (λ (y : PushContent). y.prev) k.is in
    let version : q.version ≡ k.place.version = ap (λ (y : PushContent). y.version) k.is in
    let says : t ≡ tell.Seq (stell.Numbered request q.prev q.version) = k.numbered.said ∙ (λ j. tell.Seq (stell.Numbered request (sym prev j) (sym version j))) in
    let n : Number = record { request = request; prev = q.prev; version = q.version } in
    let heard : Told h (node.Sequencer x) (node.Proxy x p) (tell.Seq (stell.Numbered request q.prev q.version)) =
    subst (λ y. Told h (node.Sequencer x) (node.Proxy x p) y) says (subst (λ y. Told h y (node.Proxy x p) t) sender told) in
    let k = numbers_told laws c h run x (node.Proxy x p) n heard in
    record { number = numbering_of k.0 n; given = k.1; at = record { prev = refl; version = refl } }

-- the ask for a number is no push
pub no_number_ask : (s : proxy.ProxyState) (o : proxy.Open) (e i : ℕ) (q : PushContent) → Contains (proxy.number_ask s o ∷ []) (node.Log e i, ask.Log (Push q)) → ⊥
no_number_ask s o e i q k = elim (Contains-cases (proxy.number_ask s o) [] (node.Log e i, ask.Log (Push q)) k) [
  | inl d ↦ (let f : node.Sequencer s.epoch ≡ node.Log e i = ap (λ (x : Sending). x.0) d in absurd (cc))
  | inr l ↦ absurd (Contains-none l)
]

push_is_numbered : Laws → (c : Config) (h : List Turn) → IsRun c h → (x p e i : ℕ) (q : PushContent) → Sent h (node.Proxy x p) (node.Log e i) (ask.Log (Push q)) → IsNumberedPush h x q
push_is_numbered laws c [] run x p e i q s = absurd s
push_is_numbered laws c (t ∷ h) run x p e i q (inr s) =
    let k = push_is_numbered laws c h run.1 x p e i q s in
    record { number = k.number; given = numbers_stay t x (numbers h x) k.number k.given; at = k.at }
push_is_numbered laws c (t ∷ h) run x p e i q (inl (own, k)) = later (now t run.0 own k)
  where
    later : IsNumberedPush h x q → IsNumberedPush (t ∷ h) x q
    later k = record { number = k.number; given = numbers_stay t x (numbers h x) k.number k.given; at = k.at }

    now : (t : Turn) → IsTurn c h t → actor_of t ≡ node.Proxy x p → Contains (asks_of t) (node.Log e i, ask.Log (Push q)) → IsNumberedPush h x q
    now (Begun b shape asks) is own k = let d : node.Recoverer b ≡ node.Proxy x p = own in absurd (cc)
    now (CellTurn from j a u) is own k = absurd (none_sent (node.Log e i, ask.Log (Push q)) k)
    now (LogTurn from y j a u) is own k = absurd (none_sent (node.Log e i, ask.Log (Push q)) k)
    now (SeqTurn from y a u) is own k = absurd (none_sent (node.Log e i, ask.Log (Push q)) k)
    now (Submitted y z step batch asks) is own k = absurd (no_number_ask (proxy_at c h y z) (proxy.opened (proxy_at c h y z) step batch) e i q (subst (λ xs. Contains xs (node.Log e i, ask.Log (Push q))) is.2 k))
    now (ProxyHeard y z from u outcome asks) is own k =
        let d : y ≡ x = cc in
        let f : z ≡ p = cc in
        let told : Told h from (node.Proxy x p) u = subst (λ n. Told h from n u) own is.0.told in
        let all = laws.proxy_pushes (proxy_at c h y z) from u in
        let mine = All-contains (λ s. IsPushTo (proxy_at c h y z) from u s.0 s.1) (proxy.new_asks (proxy_at c h y z) from u) (node.Log e i, ask.Log (Push q)) all
        (subst (λ xs. Contains xs (node.Log e i, ask.Log (Push q))) is.2 k) in
        pushed_now laws c h run.1 x p from u told e i q (subst (λ n. IsPushOf (proxy_at c h x n) from u e i q) f
        (subst (λ n. IsPushOf (proxy_at c h n z) from u e i q) d mine))
    now (RecHeard b from u asks) is own k = let d : node.Recoverer b ≡ node.Proxy x p = own in absurd (cc)
    now (StorageHeard tag from u taken fault) is own k = absurd (none_sent (node.Log e i, ask.Log (Push q)) k)
    now (Gone who) is own k = absurd (none_sent (node.Log e i, ask.Log (Push q)) k)
    now (Crashed who) is own k = absurd (none_sent (node.Log e i, ask.Log (Push q)) k)

-- ---- all pushes, and seeds

pub pushes_are_own : Laws → PushesAreOwn
pushes_are_own laws c h run from e i q s = go from s (sent_is_accounted laws c h run from (node.Log e i) (ask.Log (Push q)) s)
  where
    go : (from : NodeId) → Sent h from (node.Log e i) (ask.Log (Push q)) → SenderAccounts c h from (node.Log e i) (ask.Log (Push q)) → IsOfEpoch c h e q
    go (node.Cell j) s k = absurd k
    go (node.Log x j) s k = absurd k
    go (node.Sequencer x) s k = absurd k
    go (node.Proxy x p) s (open', (own, (l, unmarked))) =
        let at : e ≡ x = own ∙ proxy_epoch laws c h x p in
        let n = push_is_numbered laws c h run x p e i q s in
        let here : IsOfEpoch c h x q = record { opened = open'; placed = subst (λ m. IsPlaced c h x m q) (sym unmarked) (n.number, n.given, n.at) } in
        subst (λ y. IsOfEpoch c h y q) (sym at) here
    go (node.Recoverer b) s (r, at, (own, chosen, copied, (p, planned, l, is))) =
        let e' : e ≡ b = own ∙ (rec_is laws c h run b r at).ballot in
        let g = generation_planned laws c h run b r at p planned in
        let opened : is_open c h b ≡ true = or_right (b == first_epoch) (is_open_in (rec_at c h b)) (ap is_open_in at ∙ ap is_chosen_phase chosen) in
        let mark : IsOfEpoch c h b (mark_of p) = record { opened = opened; placed = (ap mark_version (sym g), refl) } in
        subst (λ y. IsOfEpoch c h y q) (sym e') (subst (IsOfEpoch c h b) (sym is) mark)
    go (node.Storage t) s k = absurd k

pub seeds_are_own : Laws → SeedsAreOwn
seeds_are_own laws c h run from e i s sent = go from (sent_is_accounted laws c h run from (node.Log e i) (ask.Log (Seed s)) sent)
  where
    go : (from : NodeId) → SenderAccounts c h from (node.Log e i) (ask.Log (Seed s)) → IsSeedOf c h e s
    go (node.Cell j) k = absurd k
    go (node.Log x j) k = absurd k
    go (node.Sequencer x) k = absurd k
    go (node.Proxy x p) k = absurd k.1.1
    go (node.Recoverer b) (r, at, (own, copied, (p, planned, l, is))) =
        let e' : e ≡ b = own ∙ (rec_is laws c h run b r at).ballot in
        let g = generation_planned laws c h run b r at p planned in
        let k = plan_is laws c h run b r at p planned in
        let here : IsSeedOf c h b s = ap (λ (x : SeedContent). x.seeded_to + 1) is ∙ ap (λ v. v + 1) (sym k.seeded_to) ∙ ap mark_version (sym g) in
        subst (λ y. IsSeedOf c h y s) (sym e') here
    go (node.Storage t) k = absurd k
