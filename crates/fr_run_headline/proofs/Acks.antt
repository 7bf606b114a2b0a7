-- What is acknowledged has been reached by each log of its epoch; so has what a proxy knows, and what its pushes tell to be known.
use Rattle.std.proofs.Common.{◌≡◌, ℕ, ◌+◌, ◌<◌, Bool, true, false, nat_eq, nat_lt, ◌||◌, List, [], ◌∷◌, length, inl, inr, refl, sym, subst, arith}
use Rattle.std.specs.Prelude.{IfSome}
use Rattle.std.specs.List.{All, Contains, list_any, AllByRecursion, IsDistinct}
use Rattle.std.proofs.lemmas.Bool.{and_parts, eqb-true}
use Rattle.std.proofs.lemmas.List.Elements.{All-head, All-tail}
use Rattle.std.proofs.lemmas.Map.Keys.{IsDistinct-cons}
use Rattle.std.proofs.lemmas.Map.Steps.{length-le_from_distinct_below}
use Rattle.fr_base.specs.declared.place.NodeId.{NodeId}
use Rattle.fr_base.specs.declared.place.NodeId.TheVariants as node
use Rattle.fr_state.specs.Generations.{LogGeneration}
use Rattle.fr_ask.specs.declared.tell.Tell.{Tell}
use Rattle.fr_proxy.specs.declared.outcome.Outcome.TheVariants.{Waiting, Committed, Ended}
use Rattle.fr_proxy.specs.Proxy.{Open, after_heeded, heeded, outcome_of_heeded}
use Rattle.fr_proxy.specs.declared.number.Place.{Place}
use Rattle.fr_proxy.specs.declared.heeded.Heeded.{Heeded}
use Rattle.fr_proxy.specs.Heard.{IsNewHolder, Heard, Ignores, Places, Holds, HoldsAll, Cuts}
use Rattle.fr_run.specs.Config.{Config}
use Rattle.fr_run.specs.Turn.{Turn, Sending, Submitted, ProxyHeard, Told}
use Rattle.fr_run.specs.Nodes.{is_open, proxy_at}
use Rattle.fr_run.specs.Run.{IsTurn, IsRun}
use Rattle.fr_run_headline.specs.Numbers.{Numbering, numbers}
use Rattle.fr_run.specs.Batches.{IsAcknowledged}
use Rattle.fr_run_headline.specs.Bounds.{HasReached, AllReach, IsBelow, IsSafe}
use Rattle.fr_run_headline.specs.Proxies.{IsNumberOf, AreHolders, IsOpenOf}
use Rattle.fr_run.specs.Laws.{Laws}
use Rattle.fr_run.proofs.Growth.{open_generation, open_stays, generation_stays}
use Rattle.fr_run.proofs.Cells.{Contains-cases, Contains-none}
use Rattle.fr_run_headline.proofs.Numbers.{numbers_stay}
use Rattle.fr_run_headline.proofs.ProxyRule.{IsProxyRule, proxy_holds}
use Rattle.fr_run_headline.proofs.Requests.{proxy_is}
use Rattle.fr_run_headline.proofs.Tells.{reached_later}
use Rattle.fr_run_headline.proofs.Proxies.{proxies_are, holder_reached, apart, All-more}

-- ---- counting

none_equal : (q : ℕ) (logs : List ℕ) → list_any (nat_eq q) logs ≡ false → AllByRecursion (λ y. nat_eq q y ≡ false) logs
none_equal q [] e = tt
none_equal q (x ∷ logs) e = go (λ j. none_equal q logs j) (nat_eq q x) refl e
  where
    go : (list_any (nat_eq q) logs ≡ false → AllByRecursion (λ y. nat_eq q y ≡ false) logs) → (b : Bool) → nat_eq q x ≡ b → (b || list_any (nat_eq q) logs) ≡ false → AllByRecursion (λ y. nat_eq q y ≡ false) (x ∷ logs)
    go rest true k j = absurd (cc)
    go rest false k j = (k, rest j)

any_has : (P : ℕ → Type 0) (q : ℕ) (logs : List ℕ) → All P logs → list_any (nat_eq q) logs ≡ true → P q
any_has P q [] all e = absurd (cc)
any_has P q (x ∷ logs) all e = go (λ j. any_has P q logs (All-tail P x logs all) j) (nat_eq q x) refl e
  where
    go : (list_any (nat_eq q) logs ≡ true → P q) → (b : Bool) → nat_eq q x ≡ b → (b || list_any (nat_eq q) logs) ≡ true → P q
    go rest true k j = subst P (sym (eqb-true q x k)) (All-head P x logs all)
    go rest false k j = rest j

-- of m distinct numbers below m each number below m is one
each_is_there : (P : ℕ → Type 0) (m : ℕ) (logs : List ℕ) → IsDistinct nat_eq logs → All (λ i. (i < m) × P i) logs → length logs ≡ m → (q : ℕ) → q < m → P q
each_is_there P m logs distinct all many q below = go (list_any (nat_eq q) logs) refl
  where
    within : (x : ℕ) → list_any (nat_eq x) (q ∷ logs) ≡ true → x < m
    within x e = pick (nat_eq x q) refl e
      where
        pick : (b : Bool) → nat_eq x q ≡ b → (b || list_any (nat_eq x) logs) ≡ true → x < m
        pick true k j = subst (λ y. y < m) (sym (eqb-true x q k)) below
        pick false k j = (any_has (λ i. (i < m) × P i) x logs all j).0

    go : (b : Bool) → list_any (nat_eq q) logs ≡ b → P q
    go true k = (any_has (λ i. (i < m) × P i) q logs all k).1
    go false k = (let n = length-le_from_distinct_below (q ∷ logs) m (IsDistinct-cons nat_eq q logs (none_equal q logs k) distinct) within in absurd (omega (arith, n, many)))

-- ---- all hold

-- once all logs are counted as holders, each of them has reached the version
record IsCommitted (c : Config) (h : List Turn) (e p : ℕ) (v : ℕ) : Type 0 where
  number : Numbering
  given : Contains (numbers h e) number
  at : number.version ≡ v
  reached : (i : ℕ) → i < (proxy_at c h e p).m → HasReached c h e i v

all_hold : Laws → (c : Config) (h : List Turn) → IsRun c h → (e p : ℕ) → is_open c h e ≡ true → (from : NodeId) (t : Tell) → Told h from (node.Proxy e p) t → (o : Open) (at : Place) (log : ℕ) → IsNewHolder (proxy_at c h e p) o at log from t
    → length o.held + 1 ≡ (proxy_at c h e p).m → IsCommitted c h e p at.version
all_hold laws c h run e p op from t told o at log n m =
    let s = proxy_at c h e p in
    let was : IsOpenOf c h e p s o = subst (λ u. IfSome u (IsOpenOf c h e p s)) n.under_way (proxies_are laws c h run e p op).under_way in
    let holders : All (λ i. (i < s.m) × HasReached c h e i at.version) o.held = subst (λ y. AreHolders c h e s y o.held) n.given was.holders in
    let new = holder_reached laws c h run e p from t told o at log n in
    let mine : IsNumberOf h e p s o at = subst (λ y. IfSome y (IsNumberOf h e p s o)) n.given was.number in
    record {
      number = record { proxy = p; request = o.request; prev = at.prev; version = at.version };
      given = mine.0;
      at = refl;
      reached = each_is_there (λ i. HasReached c h e i at.version) s.m (log ∷ o.held) (IsDistinct-cons nat_eq log o.held (apart log o.held n.fresh) was.distinct)
          (All-more (λ i. (i < s.m) × HasReached c h e i at.version) log o.held (n.below, new) holders) (omega (arith, m));
    }

-- ---- later on

pub all_reach_later : Laws → (c : Config) (h : List Turn) (t : Turn) → IsRun c h → IsTurn c h t → (e : ℕ) (g : LogGeneration) (v : ℕ) → AllReach c h e g v → AllReach c (t ∷ h) e g v
all_reach_later laws c h t run is e g v k = λ i l. reached_later laws c h t run is e i v (k i l)

pub below_later : Laws → (c : Config) (h : List Turn) (t : Turn) → IsRun c h → IsTurn c h t → (e v : ℕ) → IsBelow c h e v → IsBelow c (t ∷ h) e v
below_later laws c h t run is e v k = record {
  generation = k.generation;
  at = generation_stays laws c h t run is e k.generation k.at;
  below = elim k.below [ inl low ↦ inl low | inr all ↦ inr (all_reach_later laws c h t run is e k.generation v all) ];
}

-- ---- acknowledged

safe_later : Laws → (c : Config) (h : List Turn) (t : Turn) → IsRun c h → IsTurn c h t → (e v : ℕ) → IsSafe c h e v → IsSafe c (t ∷ h) e v
safe_later laws c h t run is e v k = record {
  opened = open_stays laws c h t run is e k.opened;
  number = k.number;
  given = numbers_stay t e (numbers h e) k.number k.given;
  at = k.at;
  generation = k.generation;
  of = generation_stays laws c h t run is e k.generation k.of;
  reached = all_reach_later laws c h t run is e k.generation v k.reached;
}

committed_safe : Laws → (c : Config) (h : List Turn) → IsRun c h → (e p v : ℕ) → is_open c h e ≡ true → IsCommitted c h e p v → IsSafe c h e v
committed_safe laws c h run e p v op k =
    let g = open_generation laws c h run e op in
    let s = proxy_is laws c h e p g.generation g.is in
    record { opened = op; number = k.number; given = k.given; at = k.at; generation = g.generation; of = g.is; reached = λ i l. k.reached i (omega (arith, l, s.m)) }

-- a hear by which a batch is committed
commits : Laws → (c : Config) (h : List Turn) → IsRun c h → (e p : ℕ) → is_open c h e ≡ true → (from : NodeId) (t : Tell) → Told h from (node.Proxy e p) t → (v : ℕ) (x : Heeded) → Heard (proxy_at c h e p) from t x → Committed v ≡ outcome_of_heeded x
    → IsSafe c h e v
commits laws c h run e p op from t told v x Ignores says = let d : Committed v ≡ Waiting = says in absurd (cc)
commits laws c h run e p op from t told v x (Places o at n) says = let d : Committed v ≡ Waiting = says in absurd (cc)
commits laws c h run e p op from t told v x (Holds o at log n more) says = let d : Committed v ≡ Waiting = says in absurd (cc)
commits laws c h run e p op from t told v x (HoldsAll o at log n m) says =
    let d : Committed v ≡ Committed at.version = says in
    let same : at.version ≡ v = cc in
    subst (IsSafe c h e) same (committed_safe laws c h run e p at.version op (all_hold laws c h run e p op from t told o at log n m))
commits laws c h run e p op from t told v x (Cuts o at is) says = let d : Committed v ≡ Ended = says in absurd (cc)

acked : Laws → (c : Config) (h : List Turn) → IsRun c h → (e p v : ℕ) (from : NodeId) (t : Tell) (asks : List Sending) → Contains h (ProxyHeard e p from t (Committed v) asks) → IsSafe c h e v
acked laws c [] run e p v from t asks k = absurd (Contains-none k)
acked laws c (u ∷ h) run e p v from t asks k = safe_later laws c h u run.1 run.0 e v (elim (Contains-cases u h (ProxyHeard e p from t (Committed v) asks) k) [
  | inl now ↦ (
      let is : IsTurn c h (ProxyHeard e p from t (Committed v) asks) = subst (IsTurn c h) now run.0 in
      let op = (and_parts (is_open c h e) (nat_lt p c.proxies) is.0.actor.there).0 in
      commits laws c h run.1 e p op from t is.0.told v (heeded (proxy_at c h e p) from t) (laws.proxy_heard (proxy_at c h e p) from t) is.1)
  | inr before ↦ acked laws c h run.1 e p v from t asks before
])

pub acknowledged_is_safe : Laws → (c : Config) (h : List Turn) → IsRun c h → (e v : ℕ) → IsAcknowledged h e v → IsSafe c h e v
acknowledged_is_safe laws c h run e v k = acked laws c h run e k.proxy v k.from k.tell k.asks k.turn

-- ---- what proxies know

knows : Laws → (c : Config) (h : List Turn) → IsRun c h → (e p : ℕ) → is_open c h e ≡ true → (from : NodeId) (t : Tell) → Told h from (node.Proxy e p) t → IsBelow c h e (proxy_at c h e p).known → (x : Heeded) → Heard (proxy_at c h e p) from t x
    → IsBelow c h e (after_heeded (proxy_at c h e p) x).known
knows laws c h run e p op from t told k x Ignores = k
knows laws c h run e p op from t told k x (Places o at n) = k
knows laws c h run e p op from t told k x (Holds o at log n more) = k
knows laws c h run e p op from t told k x (HoldsAll o at log n m) =
    let s = committed_safe laws c h run e p at.version op (all_hold laws c h run e p op from t told o at log n m) in
    record { generation = s.generation; at = s.of; below = inr s.reached }
knows laws c h run e p op from t told k x (Cuts o at is) = k

known_rule : Laws → (c : Config) → IsProxyRule c (λ h e p s. IsBelow c h e s.known)
known_rule laws c = record {
  starts = λ h run e p g at op. record { generation = g; at = at; below = inl (omega arith) };
  lasts = λ h t run is e p op s k. below_later laws c h t run is e s.known k;
  takes = λ h run e p step batch asks is op k. below_later laws c h (Submitted e p step batch asks) run is e (proxy_at c h e p).known k;
  hears = λ h run e p from t told op k. knows laws c h run e p op from t told k (heeded (proxy_at c h e p) from t) (laws.proxy_heard (proxy_at c h e p) from t);
}

pub proxy_known_below : Laws → (c : Config) (h : List Turn) → IsRun c h → (e p : ℕ) → is_open c h e ≡ true → IsBelow c h e (proxy_at c h e p).known
proxy_known_below laws c = proxy_holds laws c (λ h e p s. IsBelow c h e s.known) (known_rule laws c)
