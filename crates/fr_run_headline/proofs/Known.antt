-- What each push that was sent tells to be known, and what each log knows, has been reached by each log of the epoch, or is below its first version.
use Rattle.std.proofs.Common.{◌≡◌, ℕ, ◌-◌, ◌<◌, Bool, true, false, max, nat_le, List, [], ◌∷◌, Option, None, Some, inl, inr, ◌⊎◌, refl, sym, ◌∙◌, ap, subst, arith}
use Rattle.std.specs.Prelude.{IfSome, fold}
use Rattle.std.specs.List.{All, Contains}
use Rattle.std.proofs.lemmas.Bool.{and_parts, leb-true, leb-false}
use Rattle.std.proofs.lemmas.List.Elements.{All-nil, All-push, All-head, All-tail, All-weaker, All-contains}
use Rattle.fr_base.specs.declared.place.NodeId.{NodeId}
use Rattle.fr_base.specs.declared.place.NodeId.TheVariants as node
use Rattle.fr_tags.specs.SplitLaw.{bodies_at}
use Rattle.fr_state.specs.Generations.{LogGeneration}
use Rattle.fr_log.specs.Seed.{SeedContent}
use Rattle.fr_log.specs.Push.{PushContent}
use Rattle.fr_log.specs.LogState.{LogState, known_of, first_of}
use Rattle.fr_log.specs.declared.ask.LogAsk.{LogAsk}
use Rattle.fr_log.specs.declared.ask.LogAsk.TheVariants.{Seed, Push}
use Rattle.fr_log.specs.Step.{next_of}
use Rattle.fr_ask.specs.declared.ask.Ask.TheVariants as ask
use Rattle.fr_ask.specs.declared.tell.Tell.{Tell}
use Rattle.fr_proxy.specs.Proxy as proxy
use Rattle.fr_proxy.specs.Heard as heard
use Rattle.fr_epoch.specs.Recoverer.{Plan, mark_of}
use Rattle.fr_run.specs.Config.{Config, first_epoch, first_generation, first_mark}
use Rattle.fr_run.specs.Turn.{Turn, Begun, CellTurn, LogTurn, SeqTurn, Submitted, ProxyHeard, RecHeard, StorageHeard, Gone, Crashed, actor_of, asks_of, Sent, Told}
use Rattle.fr_run.specs.Nodes.{generation_at, is_open, logs_at, log_at, new_log_in, proxy_at}
use Rattle.fr_run.specs.Run.{IsTurn, IsRun, StorageMayAsk}
use Rattle.fr_run_headline.specs.Numbers.{numbers}
use Rattle.fr_run_headline.specs.Bounds.{IsBelow, IsSeedAt}
use Rattle.fr_run_headline.specs.Proxies.{IsOpenOf, IsProxyPush}
use Rattle.fr_run.specs.Laws.{Laws}
use Rattle.fr_run.specs.AskLaws.{SenderAccounts}
use Rattle.fr_run.proofs.Growth.{rec_is, open_generation, generation_stays}
use Rattle.fr_run.proofs.Accounts.{sent_is_accounted, none_sent}
use Rattle.fr_run.proofs.Chosen.{generation_planned}
use Rattle.fr_run.proofs.Parents.{plan_is}
use Rattle.fr_run_headline.proofs.Numbers.{numbers_stay}
use Rattle.fr_run_headline.proofs.Pushes.{no_number_ask}
use Rattle.fr_run_headline.proofs.LogChanges.{log_change}
use Rattle.fr_run_headline.proofs.Logs.{no_seed, no_push, logs_generation}
use Rattle.fr_run_headline.proofs.LogRule.{IsLogRule, log_holds}
use Rattle.fr_run_headline.proofs.Requests.{proxy_is}
use Rattle.fr_run_headline.proofs.Proxies.{proxies_are, numbered, batch_stays}
use Rattle.fr_run_headline.proofs.Acks.{below_later, proxy_known_below}

-- ---- pushes of proxies

push_later : Laws → (c : Config) (h : List Turn) (t : Turn) → IsRun c h → IsTurn c h t → (x p e i : ℕ) (q : PushContent) → IsProxyPush c h x p e i q → IsProxyPush c (t ∷ h) x p e i q
push_later laws c h t run is x p e i q k = record {
  epoch = k.epoch;
  part = record {
    generation = k.part.generation;
    of = generation_stays laws c h t run is x k.part.generation k.part.of;
    below = k.part.below;
    number = k.part.number;
    given = numbers_stay t x (numbers h x) k.part.number k.part.given;
    own = k.part.own;
    at = k.part.at;
    batch = k.part.batch;
    taken = batch_stays t h x p k.part.number.request k.part.batch k.part.taken;
    bodies = k.part.bodies;
  };
  known = below_later laws c h t run is x q.known k.known;
}

pushed_now : Laws → (c : Config) (h : List Turn) → IsRun c h → (x p : ℕ) → is_open c h x ≡ true → (from : NodeId) (t : Tell) → Told h from (node.Proxy x p) t → (e i : ℕ) (q : PushContent) → heard.IsPushOf (proxy_at c h x p) from t e i q
    → IsProxyPush c h x p e i q
pushed_now laws c h run x p op from t told e i q k =
    let s = proxy_at c h x p in
    let g = open_generation laws c h run x op in
    let own = proxy_is laws c h x p g.generation g.is in
    let o = k.open_batch in
    let was : IsOpenOf c h x p s o = subst (λ u. IfSome u (IsOpenOf c h x p s)) k.numbered.under_way (proxies_are laws c h run x p op).under_way in
    let is_so : q.bodies ≡ (bodies_at s.begins o.batch s.m s.k i) = ap (λ (y : PushContent). y.bodies) k.is in
    let a : (bodies_at s.begins o.batch s.m s.k i) ≡ (bodies_at c.begins o.batch s.m s.k i) = ap (λ y. (bodies_at y o.batch s.m s.k i)) own.begins in
    let b : (bodies_at c.begins o.batch s.m s.k i) ≡ (bodies_at c.begins o.batch g.generation.m s.k i) = ap (λ y. (bodies_at c.begins o.batch y s.k i)) own.m in
    let d : (bodies_at c.begins o.batch g.generation.m s.k i) ≡ (bodies_at c.begins o.batch g.generation.m g.generation.k i) = ap (λ y. (bodies_at c.begins o.batch g.generation.m y i)) own.k in
    record {
      epoch = k.epoch ∙ own.epoch;
      part = record {
        generation = g.generation;
        of = g.is;
        below = omega (arith, k.below, own.m);
        number = record { proxy = p; request = o.request; prev = k.place.prev; version = k.place.version };
        given = numbered laws c h run x p from t told o k.place k.numbered;
        own = refl;
        at = record { prev = ap (λ (y : PushContent). y.prev) k.is; version = ap (λ (y : PushContent). y.version) k.is };
        batch = o.batch;
        taken = was.batch;
        bodies = is_so ∙ (a ∙ (b ∙ d));
      };
      known = subst (IsBelow c h x) (sym (ap (λ (y : PushContent). y.known) k.is)) (proxy_known_below laws c h run x p op);
    }

pub push_is_part : Laws → (c : Config) (h : List Turn) → IsRun c h → (x p e i : ℕ) (q : PushContent) → Sent h (node.Proxy x p) (node.Log e i) (ask.Log (Push q)) → IsProxyPush c h x p e i q
push_is_part laws c [] run x p e i q s = absurd s
push_is_part laws c (t ∷ h) run x p e i q (inr s) = push_later laws c h t run.1 run.0 x p e i q (push_is_part laws c h run.1 x p e i q s)
push_is_part laws c (t ∷ h) run x p e i q (inl (own, k)) = push_later laws c h t run.1 run.0 x p e i q (now t run.0 own k)
  where
    now : (t : Turn) → IsTurn c h t → actor_of t ≡ node.Proxy x p → Contains (asks_of t) (node.Log e i, ask.Log (Push q)) → IsProxyPush c h x p e i q
    now (Begun b shape asks) is own k = let d : node.Recoverer b ≡ node.Proxy x p = own in absurd (cc)
    now (CellTurn from j a u) is own k = absurd (none_sent (node.Log e i, ask.Log (Push q)) k)
    now (LogTurn from y j a u) is own k = absurd (none_sent (node.Log e i, ask.Log (Push q)) k)
    now (SeqTurn from y a u) is own k = absurd (none_sent (node.Log e i, ask.Log (Push q)) k)
    now (Submitted y z step batch asks) is own k = absurd (no_number_ask (proxy_at c h y z) (proxy.opened (proxy_at c h y z) step batch) e i q (subst (λ xs. Contains xs (node.Log e i, ask.Log (Push q))) is.2 k))
    now (ProxyHeard y z from u outcome asks) is own k =
        let d : y ≡ x = cc in
        let f : z ≡ p = cc in
        let op = (and_parts (is_open c h y) _ is.0.actor.there).0 in
        let all = laws.proxy_pushes (proxy_at c h y z) from u in
        let mine : heard.IsPushOf (proxy_at c h y z) from u e i q = All-contains (λ s. heard.IsPushTo (proxy_at c h y z) from u s.0 s.1) (proxy.new_asks (proxy_at c h y z) from u) (node.Log e i, ask.Log (Push q)) all
        (subst (λ xs. Contains xs (node.Log e i, ask.Log (Push q))) is.2 k) in
        let here : IsProxyPush c h y z e i q = pushed_now laws c h run.1 y z op from u is.0.told e i q mine in
        subst (λ n. IsProxyPush c h x n e i q) f (subst (λ n. IsProxyPush c h n z e i q) d here)
    now (RecHeard b from u asks) is own k = let d : node.Recoverer b ≡ node.Proxy x p = own in absurd (cc)
    now (StorageHeard tag from u taken fault) is own k = absurd (none_sent (node.Log e i, ask.Log (Push q)) k)
    now (Gone who) is own k = absurd (none_sent (node.Log e i, ask.Log (Push q)) k)
    now (Crashed who) is own k = absurd (none_sent (node.Log e i, ask.Log (Push q)) k)

-- ---- all pushes, and seeds

pub push_known_below : Laws → (c : Config) (h : List Turn) → IsRun c h → (from : NodeId) (e i : ℕ) (q : PushContent) → Sent h from (node.Log e i) (ask.Log (Push q)) → IsBelow c h e q.known
push_known_below laws c h run from e i q s = go from s (sent_is_accounted laws c h run from (node.Log e i) (ask.Log (Push q)) s)
  where
    go : (from : NodeId) → Sent h from (node.Log e i) (ask.Log (Push q)) → SenderAccounts c h from (node.Log e i) (ask.Log (Push q)) → IsBelow c h e q.known
    go (node.Cell j) s k = absurd k
    go (node.Log x j) s k = absurd k
    go (node.Sequencer x) s k = absurd k
    go (node.Proxy x p) s k = (let n = push_is_part laws c h run x p e i q s in subst (λ y. IsBelow c h y q.known) (sym n.epoch) n.known)
    go (node.Recoverer b) s (r, at, (own, chosen, copied, (p, planned, l, is))) =
        let e' : e ≡ b = own ∙ (rec_is laws c h run b r at).ballot in
        let g = generation_planned laws c h run b r at p planned in
        let k = plan_is laws c h run b r at p planned in
        let mark : IsBelow c h b (mark_of p).known = record { generation = p.generation; at = g; below = inl (omega (arith, k.first)) } in
        subst (λ y. IsBelow c h y q.known) (sym e') (subst (λ (y : PushContent). IsBelow c h b y.known) (sym is) mark)
    go (node.Storage t) s k = absurd k

pub seeds_are_at : Laws → (c : Config) (h : List Turn) → IsRun c h → (from : NodeId) (e i : ℕ) (s : SeedContent) → Sent h from (node.Log e i) (ask.Log (Seed s)) → IsSeedAt c h e s
seeds_are_at laws c h run from e i s sent = go from (sent_is_accounted laws c h run from (node.Log e i) (ask.Log (Seed s)) sent)
  where
    go : (from : NodeId) → SenderAccounts c h from (node.Log e i) (ask.Log (Seed s)) → IsSeedAt c h e s
    go (node.Cell j) k = absurd k
    go (node.Log x j) k = absurd k
    go (node.Sequencer x) k = absurd k
    go (node.Proxy x p) k = absurd k.1.1
    go (node.Recoverer b) (r, at, (own, copied, (p, planned, l, is))) =
        let e' : e ≡ b = own ∙ (rec_is laws c h run b r at).ballot in
        let g = generation_planned laws c h run b r at p planned in
        let k = plan_is laws c h run b r at p planned in
        let here : IsSeedAt c h b s = record { generation = p.generation; of = g; first = ap (λ (x : SeedContent). x.first) is ∙ sym k.first; seeded_to = ap (λ (x : SeedContent). x.seeded_to) is ∙ sym k.seeded_to } in
        subst (λ y. IsSeedAt c h y s) (sym e') here
    go (node.Storage t) k = absurd k

-- ---- logs

-- a log: its seed is at the ends of its generation, and what its pushes tell to be known is below
pub record IsKnowing (c : Config) (h : List Turn) (e : ℕ) (l : LogState) : Type 0 where
  pub seed : IfSome l.seed (IsSeedAt c h e)
  pub pushes : All (λ q. IsBelow c h e q.known) l.pushes

seed_later : Laws → (c : Config) (h : List Turn) (t : Turn) → IsRun c h → IsTurn c h t → (e : ℕ) (o : Option SeedContent) → IfSome o (IsSeedAt c h e) → IfSome o (IsSeedAt c (t ∷ h) e)
seed_later laws c h t run is e None k = tt
seed_later laws c h t run is e (Some s) k = record { generation = k.generation; of = generation_stays laws c h t run is e k.generation k.of; first = k.first; seeded_to = k.seeded_to }

asked : Laws → (c : Config) (h : List Turn) → IsRun c h → (e i : ℕ) (l : LogState) → IsKnowing c h e l → (from : NodeId) (a : LogAsk) → Sent h from (node.Log e i) (ask.Log a) ⊎ StorageMayAsk c h from a → IsKnowing c h e (next_of l a)
asked laws c h run e i l k from a came =
    log_change (IsKnowing c h e) l a k (λ s at none. record { seed = seed s at came; pushes = k.pushes })
    (λ q at took. record { seed = k.seed; pushes = All-push (λ q. IsBelow c h e q.known) l.pushes q k.pushes (push q at came) }) (record { seed = k.seed; pushes = k.pushes }) (λ ps. record { seed = k.seed; pushes = k.pushes })
  where
    seed : (s : SeedContent) → a ≡ Seed s → Sent h from (node.Log e i) (ask.Log a) ⊎ StorageMayAsk c h from a → IsSeedAt c h e s
    seed s at (inl sent) = seeds_are_at laws c h run from e i s (subst (λ x. Sent h from (node.Log e i) (ask.Log x)) at sent)
    seed s at (inr may) = absurd (no_seed c h from s (subst (StorageMayAsk c h from) at may))

    push : (q : PushContent) → a ≡ Push q → Sent h from (node.Log e i) (ask.Log a) ⊎ StorageMayAsk c h from a → IsBelow c h e q.known
    push q at (inl sent) = push_known_below laws c h run from e i q (subst (λ x. Sent h from (node.Log e i) (ask.Log x)) at sent)
    push q at (inr may) = absurd (no_push c h from q (subst (StorageMayAsk c h from) at may))

made : (c : Config) (h : List Turn) (e i : ℕ) (o : Option Plan) → IsKnowing c h e (new_log_in o e i)
made c h e i None = record { seed = tt; pushes = All-nil (λ q. IsBelow c h e q.known) }
made c h e i (Some p) = record { seed = tt; pushes = All-nil (λ q. IsBelow c h e q.known) }

rule : Laws → (c : Config) → IsLogRule c (λ h e i l. IsKnowing c h e l)
rule laws c = record {
  starts = λ i. record {
    seed = record { generation = first_generation c; of = refl; first = refl; seeded_to = refl };
    pushes = All-push (λ q. IsBelow c [] first_epoch q.known) [] (first_mark c) (All-nil (λ q. IsBelow c [] first_epoch q.known)) (record { generation = first_generation c; at = refl; below = inl (omega arith) });
  };
  made = λ h run e i o at other l. made c h e i o;
  lasts = λ h t run is e i below l k. record {
    seed = seed_later laws c h t run is e l.seed k.seed;
    pushes = All-weaker (λ q. IsBelow c h e q.known) (λ q. IsBelow c (t ∷ h) e q.known) (λ q j. below_later laws c h t run is e q.known j) l.pushes k.pushes;
  };
  takes = λ h run e i below k from a came. asked laws c h run e i (log_at c h e i) k from a came;
}

pub logs_know : Laws → (c : Config) (h : List Turn) → IsRun c h → (e i : ℕ) → i < logs_at c h e → IsKnowing c h e (log_at c h e i)
logs_know laws c = log_holds laws c (λ h e i l. IsKnowing c h e l) (rule laws c)

-- the greater one of two versions that are below is below
max_below : (c : Config) (h : List Turn) (e v w : ℕ) → IsBelow c h e v → IsBelow c h e w → IsBelow c h e (max v w)
max_below c h e v w a b = go (nat_le v w) refl
  where
    go : (x : Bool) → nat_le v w ≡ x → IsBelow c h e (max v w)
    go true k = let l = leb-true v w k in let same : w ≡ max v w = omega (arith, l) in subst (IsBelow c h e) same b
    go false k = let l = leb-false v w k in let same : v ≡ max v w = omega (arith, l) in subst (IsBelow c h e) same a

all_below : (c : Config) (h : List Turn) (e v : ℕ) (ps : List PushContent) → IsBelow c h e v → All (λ q. IsBelow c h e q.known) ps → IsBelow c h e (fold (λ w p. max w p.known) v ps)
all_below c h e v [] k all = k
all_below c h e v (p ∷ ps) k all = all_below c h e (max v p.known) ps (max_below c h e v p.known k (All-head (λ q. IsBelow c h e q.known) p ps all)) (All-tail (λ q. IsBelow c h e q.known) p ps all)

-- what a log knows is below
pub log_known_below : Laws → (c : Config) (h : List Turn) → IsRun c h → (e i : ℕ) → i < logs_at c h e → IsBelow c h e (known_of (log_at c h e i))
log_known_below laws c h run e i below =
    let k = logs_know laws c h run e i below in
    let g = logs_generation c h e i below in
    all_below c h e (first_of (log_at c h e i).seed - 1) (log_at c h e i).pushes (go (log_at c h e i).seed k.seed g.generation g.is) k.pushes
  where
    go : (o : Option SeedContent) → IfSome o (IsSeedAt c h e) → (g : LogGeneration) → generation_at c h e ≡ Some g → IsBelow c h e (first_of o - 1)
    go None k g is = record { generation = g; at = is; below = inl (omega arith) }
    go (Some s) k g is = record { generation = k.generation; at = k.of; below = inl (omega (arith, k.first)) }
