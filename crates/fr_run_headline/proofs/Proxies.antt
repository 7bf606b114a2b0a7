-- Each proxy of an open epoch: its open batch is its last one, at a number of its own, and those that are counted as its holders hold it.
use Rattle.std.proofs.Common.{◌≡◌, ℕ, zero, suc, not, ◌+◌, ◌-◌, ◌<◌, Bool, true, false, cond, nat_eq, ◌==◌, ◌&&◌, ◌||◌, List, [], ◌∷◌, ◌++◌, length, reverse, Option, None, Some, refl, sym, ◌∙◌, ap, subst, arith}
use Rattle.std.specs.Prelude.{◌^◌, nat_le, IfSome, slice_get, is_some}
use Rattle.std.specs.List.{All, Contains, AllByRecursion, IsDistinct}
use Rattle.std.specs.Option.{option_map}
use Rattle.std.proofs.lemmas.Bool.{and_parts, eq-eqb, eqb-true}
use Rattle.std.proofs.lemmas.List.{length-reverse, reverse-append}
use Rattle.std.proofs.lemmas.List.Elements.{All-nil, All-push, All-append, All-weaker}
use Rattle.std.proofs.lemmas.Map.Keys.{IsDistinct-cons}
use Rattle.fr_base.specs.declared.place.NodeId.{NodeId}
use Rattle.fr_base.specs.declared.place.NodeId.TheVariants as node
use Rattle.fr_mutation.specs.declared.mutation.Mutation.{Mutation}
use Rattle.fr_state.specs.Generations.{LogGeneration}
use Rattle.fr_log.specs.declared.ask.LogTell.TheVariants as ltell
use Rattle.fr_ask.specs.declared.tell.Tell.{Tell}
use Rattle.fr_ask.specs.declared.tell.Tell.TheVariants as tell
use Rattle.fr_ask.specs.declared.sequencer.SeqTell.TheVariants as stell
use Rattle.fr_proxy.specs.declared.number.Number.{Number}
use Rattle.fr_proxy.specs.Proxy as proxy
use Rattle.fr_proxy.specs.Proxy.{ProxyState, Open, placed, with_held, is_in, after_heeded, heeded}
use Rattle.fr_proxy.specs.declared.number.Place.{Place}
use Rattle.fr_proxy.specs.declared.heeded.Heeded.{Heeded}
use Rattle.fr_proxy.specs.declared.heeded.Heeded.TheVariants as heeds
use Rattle.fr_proxy.specs.Heard.{IsNewNumber, IsNewHolder, Heard, Ignores, Places, Holds, HoldsAll, Cuts}
use Rattle.fr_run.specs.Config.{Config}
use Rattle.fr_run.specs.Turn.{Turn, Sending, Begun, CellTurn, LogTurn, SeqTurn, Submitted, ProxyHeard, RecHeard, StorageHeard, Gone, Crashed, Told}
use Rattle.fr_run.specs.Nodes.{is_open, proxy_at, proxy_from, new_proxy_in, generation_at}
use Rattle.fr_run.specs.Run.{IsTurn, IsRun}
use Rattle.fr_run_headline.specs.Numbers.{numbers}
use Rattle.fr_run.specs.Batches.{batches, batch_at}
use Rattle.fr_run_headline.specs.Bounds.{HasReached}
use Rattle.fr_run_headline.specs.Proxies.{IsNumberOf, AreHolders, IsOpenOf, IsProxyOf}
use Rattle.fr_run.specs.Laws.{Laws}
use Rattle.fr_run_headline.proofs.ProxyRule.{IsProxyRule, proxy_holds}
use Rattle.fr_run_headline.proofs.Numbers.{numbers_stay}
use Rattle.fr_run_headline.proofs.Requests.{proxy_is_at, number_of_proxy}
use Rattle.fr_run_headline.proofs.Tells.{reached_later, push_is_reached, held_is_held}

-- ---- batches

-- an element of a list stays where it is when the list gets one more
get_stays : {X : Type 0} (xs : List X) (y : X) (i : ℕ) (x : X) → slice_get xs i ≡ Some x → slice_get (xs ++ y ∷ []) i ≡ Some x
get_stays [] y i x e = absurd (cc)
get_stays (z ∷ xs) y zero x e = e
get_stays (z ∷ xs) y (suc i) x e = get_stays xs y i x e

get_last : {X : Type 0} (xs : List X) (y : X) → slice_get (xs ++ y ∷ []) (length xs) ≡ Some y
get_last [] y = refl
get_last (x ∷ xs) y = get_last xs y

reverse_more : {X : Type 0} (x : X) (xs : List X) → reverse (x ∷ xs) ≡ reverse xs ++ x ∷ []
reverse_more x xs = reverse-append (x ∷ []) xs

-- a batch that was taken stays, and the last one is under the last request
more_stays : (bs : List (List Mutation)) (new : List Mutation) (r : ℕ) (b : List Mutation) → slice_get (reverse bs) (r - 1) ≡ Some b → slice_get (reverse (new ∷ bs)) (r - 1) ≡ Some b
more_stays bs new r b k = subst (λ xs. slice_get xs (r - 1) ≡ Some b) (sym (reverse_more new bs)) (get_stays (reverse bs) new (r - 1) b k)

last_taken : (bs : List (List Mutation)) (new : List Mutation) (r : ℕ) → r ≡ length bs → slice_get (reverse (new ∷ bs)) (r + 1 - 1) ≡ Some new
last_taken bs new r e =
    let n : r + 1 - 1 ≡ length (reverse bs) = (let k = length-reverse bs in omega (arith, k, e)) in
    subst (λ i. slice_get (reverse (new ∷ bs)) i ≡ Some new) (sym n) (subst (λ xs. slice_get xs (length (reverse bs)) ≡ Some new) (sym (reverse_more new bs)) (get_last (reverse bs) new))

pub batch_stays : (t : Turn) (h : List Turn) (e p r : ℕ) (b : List Mutation) → batch_at h e p r ≡ Some b → batch_at (t ∷ h) e p r ≡ Some b
batch_stays (Begun x shape asks) h e p r b k = k
batch_stays (CellTurn from i a t) h e p r b k = k
batch_stays (LogTurn from x i a t) h e p r b k = k
batch_stays (SeqTurn from x a t) h e p r b k = k
batch_stays (Submitted x q step batch asks) h e p r b k = go ((x == e) && (q == p))
  where
    go : (s : Bool) → slice_get (reverse (cond s (batch ∷ batches h e p) (batches h e p))) (r - 1) ≡ Some b
    go true = more_stays (batches h e p) batch r b k
    go false = k
batch_stays (ProxyHeard x q from t outcome asks) h e p r b k = k
batch_stays (RecHeard x from t asks) h e p r b k = k
batch_stays (StorageHeard tag from t taken fault) h e p r b k = k
batch_stays (Gone who) h e p r b k = k
batch_stays (Crashed who) h e p r b k = k

-- ---- requests

heeds_none : (s : ProxyState) (x : Heeded) → (after_heeded s x).requests ≡ s.requests
heeds_none s heeds.Ignored = refl
heeds_none s (heeds.Placed at) = refl
heeds_none s (heeds.HeldBy log) = refl
heeds_none s (heeds.HeldByAll version) = refl
heeds_none s heeds.Cut = refl

-- a proxy made as many requests as it took batches
from_requests : (s : ProxyState) (h : List Turn) (e p : ℕ) → (proxy_from s h e p).requests ≡ s.requests + length (batches h e p)
from_requests s [] e p = omega arith
from_requests s (Begun x shape asks ∷ h) e p = from_requests s h e p
from_requests s (CellTurn from i a t ∷ h) e p = from_requests s h e p
from_requests s (LogTurn from x i a t ∷ h) e p = from_requests s h e p
from_requests s (SeqTurn from x a t ∷ h) e p = from_requests s h e p
from_requests s (Submitted x q step batch asks ∷ h) e p = go ((x == e) && (q == p)) (from_requests s h e p)
  where
    go : (b : Bool) → (proxy_from s h e p).requests ≡ s.requests + length (batches h e p)
        → (cond b (proxy.submitted (proxy_from s h e p) step batch) (proxy_from s h e p)).requests ≡ s.requests + length (cond b (batch ∷ batches h e p) (batches h e p))
    go true k = omega (arith, k)
    go false k = k
from_requests s (ProxyHeard x q from t outcome asks ∷ h) e p = go ((x == e) && (q == p)) (from_requests s h e p)
  where
    go : (b : Bool) → (proxy_from s h e p).requests ≡ s.requests + length (batches h e p) → (cond b (proxy.after_hear (proxy_from s h e p) from t) (proxy_from s h e p)).requests ≡ s.requests + length (batches h e p)
    go true k = heeds_none (proxy_from s h e p) (heeded (proxy_from s h e p) from t) ∙ k
    go false k = k
from_requests s (RecHeard x from t asks ∷ h) e p = from_requests s h e p
from_requests s (StorageHeard tag from t taken fault ∷ h) e p = from_requests s h e p
from_requests s (Gone who ∷ h) e p = from_requests s h e p
from_requests s (Crashed who ∷ h) e p = from_requests s h e p

pub requests_are : (c : Config) (h : List Turn) (e p : ℕ) → (proxy_at c h e p).requests ≡ length (batches h e p)
requests_are c h e p = from_requests (new_proxy_in c (generation_at c h e) e p) h e p ∙ go (generation_at c h e)
  where
    go : (o : Option LogGeneration) → (new_proxy_in c o e p).requests + length (batches h e p) ≡ length (batches h e p)
    go None = omega arith
    go (Some g) = omega arith

-- ---- later on

holders_later : Laws → (c : Config) (h : List Turn) (t : Turn) → IsRun c h → IsTurn c h t → (e : ℕ) (s : ProxyState) (o : Option Place) (logs : List ℕ) → AreHolders c h e s o logs → AreHolders c (t ∷ h) e s o logs
holders_later laws c h t run is e s None logs k = k
holders_later laws c h t run is e s (Some at) logs k =
    All-weaker (λ i. (i < s.m) × HasReached c h e i at.version) (λ i. (i < s.m) × HasReached c (t ∷ h) e i at.version) (λ i j. (j.0, reached_later laws c h t run is e i at.version j.1)) logs k

number_later : (t : Turn) (h : List Turn) (e p : ℕ) (s : ProxyState) (o : Open) (q : Option Place) → IfSome q (IsNumberOf h e p s o) → IfSome q (IsNumberOf (t ∷ h) e p s o)
number_later t h e p s o None k = tt
number_later t h e p s o (Some at) k = (numbers_stay t e (numbers h e) (record { proxy = p; request = o.request; prev = at.prev; version = at.version }) k.0, k.1)

open_later : Laws → (c : Config) (h : List Turn) (t : Turn) → IsRun c h → IsTurn c h t → (e p : ℕ) (s : ProxyState) (o : Option Open) → IfSome o (IsOpenOf c h e p s) → IfSome o (IsOpenOf c (t ∷ h) e p s)
open_later laws c h t run is e p s None k = tt
open_later laws c h t run is e p s (Some o) k = record {
  request = k.request;
  low = k.low;
  batch = batch_stays t h e p o.request o.batch k.batch;
  number = number_later t h e p s o o.place k.number;
  holders = holders_later laws c h t run is e s o.place o.held k.holders;
  distinct = k.distinct;
}

-- ---- a batch

none_distinct : IsDistinct nat_eq []
unfolding IsDistinct
none_distinct = tt

not_or : (a b : Bool) → not (a || b) ≡ true → not a ≡ true
not_or true b k = k
not_or false b k = refl

taken : (c : Config) (h : List Turn) (e p step : ℕ) (batch : List Mutation) (asks : List Sending) → IsProxyOf c h e p (proxy_at c h e p) → IsTurn c h (Submitted e p step batch asks)
    → IsProxyOf c (Submitted e p step batch asks ∷ h) e p (proxy.submitted (proxy_at c h e p) step batch)
taken c h e p step batch asks k is = record {
  over = λ over. absurd (free (proxy_at c h e p).over (not_or (proxy_at c h e p).over (nat_le (2 ^ 62) ((proxy_at c h e p).requests + 1)) (and_parts (not (is_some (proxy_at c h e p).under_way)) (not ((proxy_at c h e p).over || nat_le (2 ^ 62) ((proxy_at c h e p).requests + 1))) is.1.0).1) over);
  under_way = record {
    request = refl;
    low = omega arith;
    batch = rw (eq-eqb e e refl, eq-eqb p p refl) (last_taken (batches h e p) batch (proxy_at c h e p).requests (requests_are c h e p));
    number = tt;
    holders = refl;
    distinct = none_distinct;
  };
}
  where
    free : (b : Bool) → not b ≡ true → b ≡ true → ⊥
    free true k e = absurd (cc)
    free false k e = absurd (cc)

-- ---- a tell

pub apart : (log : ℕ) (logs : List ℕ) → is_in logs log ≡ false → AllByRecursion (λ y. nat_eq log y ≡ false) logs
apart log [] e = tt
apart log (x ∷ logs) e = go (λ j. apart log logs j) (x == log) refl e
  where
    flip : (b : Bool) → (log == x) ≡ b → (x == log) ≡ false → b ≡ false
    flip true k j = let same = eqb-true log x k in let d : true ≡ false = sym (eq-eqb x log (sym same)) ∙ j in absurd (cc)
    flip false k j = refl

    go : (is_in logs log ≡ false → AllByRecursion (λ y. nat_eq log y ≡ false) logs) → (b : Bool) → (x == log) ≡ b → (b || is_in logs log) ≡ false → AllByRecursion (λ y. nat_eq log y ≡ false) (x ∷ logs)
    go rest true k j = absurd (cc)
    go rest false k j = (flip (log == x) refl k, rest j)

pub All-more : {X : Type 0} (P : X → Type 0) (x : X) (xs : List X) → P x → All P xs → All P (x ∷ xs)
All-more P x xs k all = All-append P (x ∷ []) xs (All-push P [] x (All-nil P) k) all

-- the batch of a proxy at a new number
pub numbered : Laws → (c : Config) (h : List Turn) → IsRun c h → (e p : ℕ) (from : NodeId) (t : Tell) → Told h from (node.Proxy e p) t → (o : Open) (at : Place) → IsNewNumber (proxy_at c h e p) o at from t
    → Contains (numbers h e) (record { proxy = p; request = o.request; prev = at.prev; version = at.version })
numbered laws c h run e p from t told o at k =
    let n : Number = record { request = o.request; prev = at.prev; version = at.version } in
    let sender : from ≡ node.Sequencer e = k.sender ∙ ap node.Sequencer (proxy_is_at laws c h e p).0 in
    let heard : Told h (node.Sequencer e) (node.Proxy e p) (tell.Seq (stell.Numbered o.request at.prev at.version)) =
    subst (λ y. Told h (node.Sequencer e) (node.Proxy e p) y) k.said (subst (λ y. Told h y (node.Proxy e p) t) sender told) in
    number_of_proxy laws c h run e e p n heard

-- a new holder has reached the version of the batch
pub holder_reached : Laws → (c : Config) (h : List Turn) → IsRun c h → (e p : ℕ) (from : NodeId) (t : Tell) → Told h from (node.Proxy e p) t → (o : Open) (at : Place) (log : ℕ) → IsNewHolder (proxy_at c h e p) o at log from t
    → HasReached c h e log at.version
holder_reached laws c h run e p from t told o at log k =
    let sender : from ≡ node.Log e log = k.sender ∙ ap (λ x. node.Log x log) (proxy_is_at laws c h e p).0 in
    let heard : Told h (node.Log e log) (node.Proxy e p) (tell.Log (ltell.Held at.version)) =
    subst (λ y. Told h (node.Log e log) (node.Proxy e p) y) k.said (subst (λ y. Told h y (node.Proxy e p) t) sender told) in
    push_is_reached laws c h run e log at.version (held_is_held laws c h run e log (node.Proxy e p) at.version heard)

heard_next : Laws → (c : Config) (h : List Turn) → IsRun c h → (e p : ℕ) (from : NodeId) (t : Tell) → Told h from (node.Proxy e p) t → IsProxyOf c h e p (proxy_at c h e p) → (x : Heeded) → Heard (proxy_at c h e p) from t x
    → IsProxyOf c h e p (after_heeded (proxy_at c h e p) x)
heard_next laws c h run e p from t told k x Ignores = k
heard_next laws c h run e p from t told k x (Places o at n) =
    let s = proxy_at c h e p in
    let was : IsOpenOf c h e p s o = subst (λ u. IfSome u (IsOpenOf c h e p s)) n.under_way k.under_way in
    let none : o.held ≡ [] = subst (λ y. AreHolders c h e s y o.held) n.unplaced was.holders in
    let now : IsOpenOf c h e p (after_heeded s (heeds.Placed at)) (placed at o) = record {
      request = was.request;
      low = was.low;
      batch = was.batch;
      number = (numbered laws c h run e p from t told o at n, n.known);
      holders = subst (λ logs. All (λ i. (i < s.m) × HasReached c h e i at.version) logs) (sym none) (All-nil (λ i. (i < s.m) × HasReached c h e i at.version));
      distinct = was.distinct;
    } in
    record {
      over = λ over. let d : None ≡ Some o = sym (k.over over) ∙ n.under_way in absurd (cc);
      under_way = subst (λ u. IfSome (option_map (placed at) u) (IsOpenOf c h e p (after_heeded s (heeds.Placed at)))) (sym n.under_way) now;
    }
heard_next laws c h run e p from t told k x (Holds o at log n more) =
    let s = proxy_at c h e p in
    let was : IsOpenOf c h e p s o = subst (λ u. IfSome u (IsOpenOf c h e p s)) n.under_way k.under_way in
    let all : AreHolders c h e s (Some at) o.held = subst (λ y. AreHolders c h e s y o.held) n.given was.holders in
    let more : AreHolders c h e s (Some at) (log ∷ o.held) = All-more (λ i. (i < s.m) × HasReached c h e i at.version) log o.held (n.below, holder_reached laws c h run e p from t told o at log n) all in
    let now : IsOpenOf c h e p (after_heeded s (heeds.HeldBy log)) (with_held log o) = record {
      request = was.request;
      low = was.low;
      batch = was.batch;
      number = was.number;
      holders = subst (λ y. AreHolders c h e s y (log ∷ o.held)) (sym n.given) more;
      distinct = IsDistinct-cons nat_eq log o.held (apart log o.held n.fresh) was.distinct;
    } in
    record {
      over = λ over. let d : None ≡ Some o = sym (k.over over) ∙ n.under_way in absurd (cc);
      under_way = subst (λ u. IfSome (option_map (with_held log) u) (IsOpenOf c h e p (after_heeded s (heeds.HeldBy log)))) (sym n.under_way) now;
    }
heard_next laws c h run e p from t told k x (HoldsAll o at log n m) = record { over = λ over. refl; under_way = tt }
heard_next laws c h run e p from t told k x (Cuts o at is) = record { over = λ over. refl; under_way = tt }

-- ---- runs

rule : Laws → (c : Config) → IsProxyRule c (IsProxyOf c)
rule laws c = record {
  starts = λ h run e p g at op. record { over = λ over. refl; under_way = tt };
  lasts = λ h t run is e p op s k. record { over = k.over; under_way = open_later laws c h t run is e p s s.under_way k.under_way };
  takes = λ h run e p step batch asks is op k. taken c h e p step batch asks k is;
  hears = λ h run e p from t told op k. heard_next laws c h run e p from t told k (heeded (proxy_at c h e p) from t) (laws.proxy_heard (proxy_at c h e p) from t);
}

pub proxies_are : Laws → (c : Config) (h : List Turn) → IsRun c h → (e p : ℕ) → is_open c h e ≡ true → IsProxyOf c h e p (proxy_at c h e p)
proxies_are laws c = proxy_holds laws c (IsProxyOf c) (rule laws c)
