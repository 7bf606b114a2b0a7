-- The sequencer of an epoch gave each request of a proxy a number, once the proxy has no batch under way and takes one.
use Rattle.std.proofs.Common.{◌≡◌, ℕ, ◌+◌, ◌-◌, ◌<◌, ◌≤◌, ◌^◌, Bool, true, false, cond, not, nat_le, ◌==◌, ◌||◌, List, [], ◌∷◌, length, Option, None, Some, inl, inr, ◌⊎◌, refl, sym, ◌∙◌, ap, subst, arith}
use Rattle.std.specs.Prelude.{is_some, reverse, IfSome}
use Rattle.std.specs.List.{Contains}
use Rattle.std.specs.Option.{option_map}
use Rattle.std.proofs.lemmas.Bool.{and_parts, or_parts, eqb-true}
use Rattle.std.proofs.lemmas.List.{length-reverse}
use Rattle.std.proofs.lemmas.Option.{slice_get_within}
use Rattle.fr_base.specs.declared.place.NodeId.{NodeId}
use Rattle.fr_ask.specs.declared.tell.Tell.{Tell}
use Rattle.fr_proxy.specs.Heard.{Heard, Ignores, Places, Holds, HoldsAll, Cuts}
use Rattle.fr_proxy.specs.declared.heeded.Heeded.{Heeded}
use Rattle.fr_proxy.specs.Proxy.{ProxyState, Open, opened, takes_batch, after_heeded, heeded, placed, with_held}
use Rattle.fr_run.specs.Batches.{batches}
use Rattle.fr_run.specs.Config.{Config}
use Rattle.fr_run.specs.Laws.{Laws}
use Rattle.fr_run.specs.Nodes.{is_open, proxy_at}
use Rattle.fr_run.specs.Run.{IsRun}
use Rattle.fr_run.specs.Turn.{Turn}
use Rattle.fr_run.proofs.Cells.{Contains-here, Contains-later}
use Rattle.fr_run_headline.specs.Numbers.{Numbering, numbers, requests_in, AreCounted}
use Rattle.fr_run_headline.specs.Proxies.{IsNumberOf, IsOpenOf}
use Rattle.fr_run_headline.proofs.Counted.{numbers_counted}
use Rattle.fr_run_headline.proofs.Numbers.{numbers_stay}
use Rattle.fr_run_headline.proofs.Proxies.{requests_are, proxies_are}
use Rattle.fr_run_headline.proofs.ProxyRule.{IsProxyRule, proxy_holds}
use Rattle.fr_run_headline.proofs.Taken.{HasBatch, number_has_batch}
use Rattle.fr_run_outcomes.proofs.Counting.{counted_below}

-- ---- the last request has a number

-- a request of a proxy has a number, or is none
abbrev IsNumbered : List Turn → ℕ → ℕ → ℕ → Type 0
IsNumbered h e p request = (request ≡ 0) ⊎ ((n : Numbering) × Contains (numbers h e) n × (n.proxy ≡ p) × (n.request ≡ request))

-- so has the last one of a proxy that has no batch under way and did not end
abbrev IsDone : List Turn → ℕ → ℕ → ProxyState → Type 0
IsDone h e p s = s.over ≡ false → s.under_way ≡ None → IsNumbered h e p s.requests

number_later : (t : Turn) (h : List Turn) (e p request : ℕ) → IsNumbered h e p request → IsNumbered (t ∷ h) e p request
number_later t h e p request (inl none) = inl none
number_later t h e p request (inr (n, there, own, is)) = inr (n, numbers_stay t e (numbers h e) n there, own, is)

heard : Laws → (c : Config) (h : List Turn) → IsRun c h → (e p : ℕ) (from : NodeId) (t : Tell) → is_open c h e ≡ true → IsDone h e p (proxy_at c h e p) → (x : Heeded) → Heard (proxy_at c h e p) from t x → IsDone h e p (after_heeded (proxy_at c h e p) x)
heard laws c h run e p from t op k x Ignores = k
heard laws c h run e p from t op k x (Places o at n) = λ over none. (let d : Some (placed at o) ≡ None = sym (ap (λ u. option_map (placed at) u) n.under_way) ∙ none in absurd (cc))
heard laws c h run e p from t op k x (Holds o at log n more) = λ over none. (let d : Some (with_held log o) ≡ None = sym (ap (λ u. option_map (with_held log) u) n.under_way) ∙ none in absurd (cc))
heard laws c h run e p from t op k x (HoldsAll o at log n all) = λ over none. inr (record { proxy = p; request = o.request; prev = at.prev; version = at.version }, mine.0, refl, was.request)
  where
    was : IsOpenOf c h e p (proxy_at c h e p) o
    was = subst (λ u. IfSome u (IsOpenOf c h e p (proxy_at c h e p))) n.under_way (proxies_are laws c h run e p op).under_way

    mine : IsNumberOf h e p (proxy_at c h e p) o at
    mine = subst (λ q. IfSome q (IsNumberOf h e p (proxy_at c h e p) o)) n.given was.number
heard laws c h run e p from t op k x (Cuts o at is) = λ over none. (let d : true ≡ false = over in absurd (cc))

rule : Laws → (c : Config) → IsProxyRule c IsDone
rule laws c = record {
  starts = λ h run e p g at op over none. inl refl;
  lasts = λ h t run is e p op s k over none. number_later t h e p s.requests (k over none);
  takes = λ h run e p step batch asks is op k over none. (let d : Some (opened (proxy_at c h e p) step batch) ≡ None = none in absurd (cc));
  hears = λ h run e p from t told op k. heard laws c h run e p from t op k (heeded (proxy_at c h e p) from t) (laws.proxy_heard (proxy_at c h e p) from t);
}

done : Laws → (c : Config) (h : List Turn) → IsRun c h → (e p : ℕ) → is_open c h e ≡ true → IsDone h e p (proxy_at c h e p)
done laws c = proxy_holds laws c IsDone (rule laws c)

-- ---- so the sequencer knows it

-- the last request of a proxy that got a number is that of one of its numbers
last_is : (p : ℕ) (ns : List Numbering) → (requests_in p ns ≡ 0) ⊎ ((n : Numbering) × Contains ns n × (n.proxy ≡ p) × (n.request ≡ requests_in p ns))
last_is p [] = inl refl
last_is p (n ∷ ns) = go (p == n.proxy) refl (last_is p ns)
  where
    go : (b : Bool) → (p == n.proxy) ≡ b → (requests_in p ns ≡ 0) ⊎ ((m : Numbering) × Contains ns m × (m.proxy ≡ p) × (m.request ≡ requests_in p ns))
        → (cond b n.request (requests_in p ns) ≡ 0) ⊎ ((m : Numbering) × Contains (n ∷ ns) m × (m.proxy ≡ p) × (m.request ≡ cond b n.request (requests_in p ns)))
    go true e before = inr (n, Contains-here n ns, sym (eqb-true p n.proxy e), refl)
    go false e (inl none) = inl none
    go false e (inr (m, there, own, is)) = inr (m, Contains-later n ns m there, own, is)

-- what takes a batch has none under way, and did not end
pub record IsIdle (s : ProxyState) : Type 0 where
  pub under_way : s.under_way ≡ None
  pub over : s.over ≡ false
  pub left : nat_le (2 ^ 62) (s.requests + 1) ≡ false

pub is_idle : (s : ProxyState) → takes_batch s ≡ true → IsIdle s
is_idle s e = record { under_way = none s.under_way (and_parts (not (is_some s.under_way)) (not (s.over || nat_le (2 ^ 62) (s.requests + 1))) e).0; over = both.0; left = both.1 }
  where
    none : (o : Option Open) → not (is_some o) ≡ true → o ≡ None
    none None k = refl
    none (Some x) k = absurd (cc)

    off : (b : Bool) → not b ≡ true → b ≡ false
    off true k = absurd (cc)
    off false k = refl

    both : (s.over ≡ false) × (nat_le (2 ^ 62) (s.requests + 1) ≡ false)
    both = or_parts s.over (nat_le (2 ^ 62) (s.requests + 1)) (off (s.over || nat_le (2 ^ 62) (s.requests + 1)) (and_parts (not (is_some s.under_way)) (not (s.over || nat_le (2 ^ 62) (s.requests + 1))) e).1)

pub idle_is_numbered : Laws → (c : Config) (h : List Turn) → IsRun c h → (e p : ℕ) → is_open c h e ≡ true → takes_batch (proxy_at c h e p) ≡ true → requests_in p (numbers h e) ≡ (proxy_at c h e p).requests
idle_is_numbered laws c h run e p op takes = both low high
  where
    s : ProxyState
    s = proxy_at c h e p

    idle : IsIdle (proxy_at c h e p)
    idle = is_idle (proxy_at c h e p) takes

    counted : AreCounted (numbers h e)
    counted = (numbers_counted laws c h run e op).counted

    low : (proxy_at c h e p).requests ≤ requests_in p (numbers h e)
    low = elim (done laws c h run e p op idle.over idle.under_way) [
      | inl none ↦ omega (arith, none)
      | inr (n, there, own, is) ↦ (
          let below = counted_below (numbers h e) counted n there in
          let same : requests_in n.proxy (numbers h e) ≡ requests_in p (numbers h e) = ap (λ q. requests_in q (numbers h e)) own in
          omega (arith, below, same, is))
    ]

    high : requests_in p (numbers h e) ≤ (proxy_at c h e p).requests
    high = elim (last_is p (numbers h e)) [
      | inl none ↦ omega (arith, none)
      | inr (n, there, own, is) ↦ (
          let taken : HasBatch h e n = number_has_batch laws c h run e n there in
          let inside : n.request - 1 < length (reverse (batches h e n.proxy)) = slice_get_within (reverse (batches h e n.proxy)) (n.request - 1) taken.batch taken.at in
          let size : length (reverse (batches h e n.proxy)) ≡ length (batches h e n.proxy) = length-reverse (batches h e n.proxy) in
          let mine : length (batches h e n.proxy) ≡ length (batches h e p) = ap (λ q. length (batches h e q)) own in
          let count : (proxy_at c h e p).requests ≡ length (batches h e p) = requests_are c h e p in
          omega (arith, inside, size, mine, count, is))
    ]

    both : (proxy_at c h e p).requests ≤ requests_in p (numbers h e) → requests_in p (numbers h e) ≤ (proxy_at c h e p).requests → requests_in p (numbers h e) ≡ (proxy_at c h e p).requests
    both a b = omega (arith, a, b)
