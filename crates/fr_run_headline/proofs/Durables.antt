-- How far the logs of a chosen epoch have come, and what is committed of it.
use Rattle.std.proofs.Common.{◌≡◌, ℕ, zero, suc, ◌+◌, ◌<◌, ◌≤◌, Bool, true, false, cond, ◌==◌, min, fold, List, Option, None, Some, inl, inr, sym, ◌∙◌, ap, subst, arith}
use Rattle.std.specs.Prelude.{IsSome}
use Rattle.std.specs.List.{range_with_len}
use Rattle.std.proofs.lemmas.Bool.{cases_lt}
use Rattle.fr_tail.specs.Tail.{is_complete}
use Rattle.fr_state.specs.Generations.{LogGeneration, IsGeneration}
use Rattle.fr_log.specs.LogState.{durable_of}
use Rattle.fr_epoch.specs.Recoverer.{Plan}
use Rattle.fr_run.specs.Config.{Config, first_epoch, first_generation}
use Rattle.fr_run.specs.Turn.{Turn}
use Rattle.fr_run.specs.Nodes.{plan_at, generation_in, generation_at, logs_in, logs_at, log_at}
use Rattle.fr_run.specs.Run.{IsRun}
use Rattle.fr_run.specs.States.{line_of, IsChosenEpoch}
use Rattle.fr_run.specs.StateLaws.{IsConfig}
use Rattle.fr_run.proofs.States.{last_is}
use Rattle.fr_run_headline.specs.Numbers.{top_at}
use Rattle.fr_run_headline.specs.Bounds.{IsBelow}
use Rattle.fr_run_headline.proofs.Ends.{always_chained}
use Rattle.fr_run_headline.proofs.Logs.{durable_below, logs_are_own}
use Rattle.fr_run_headline.proofs.Orders.{below_is_durable}
use Rattle.fr_run_headline.proofs.Seeds.{chosen_is_seeded}
use Rattle.fr_run_headline.proofs.Transport.{seeded_is_durable}
use Rattle.fr_run_headline.specs.Issued.{issued, least_durable, committed}
use Rattle.fr_run_headline.proofs.VersionLists.{through, through_twice}
use Rattle.fr_run_headline.proofs.IssuedLists.{version_of}
use Rattle.fr_run_headline.proofs.Lists.{planned_list}
use Rattle.fr_run_headline.specs.Laws.{Laws}
use Rattle.fr_run.proofs.Lines.{lines_within}
use Rattle.fr_run.proofs.Chosen.{chosen_is_planned}
use Rattle.fr_run_headline.proofs.Splits.{later_split, below_is_within, split_issues}

-- ---- the least of some numbers

abbrev least_of : (ℕ → ℕ) → ℕ → List ℕ → ℕ
least_of f start xs = fold (λ v i. min v (f i)) start xs

least_low : (f : ℕ → ℕ) (v start a n : ℕ) → v ≤ start → ((i : ℕ) → a ≤ i → i < a + n → v ≤ f i) → v ≤ least_of f start (range_with_len a n)
least_low f v start a zero low each = low
least_low f v start a (suc n) low each =
    let here = each a (omega arith) (omega arith) in
    least_low f v (min start (f a)) (a + 1) n (omega (arith, low, here)) (λ i l u. each i (omega (arith, l)) (omega (arith, u)))

least_start : (f : ℕ → ℕ) (start a n : ℕ) → least_of f start (range_with_len a n) ≤ start
least_start f start a zero = omega arith
least_start f start a (suc n) = let k = least_start f (min start (f a)) (a + 1) n in omega (arith, k)

pub least_each : (f : ℕ → ℕ) (start a n i : ℕ) → a ≤ i → i < a + n → least_of f start (range_with_len a n) ≤ f i
least_each f start a zero i l u = absurd (omega (arith, l, u))
least_each f start a (suc n) i l u = elim (cases_lt a i) [
  | inl lt ↦ least_each f (min start (f a)) (a + 1) n i (omega (arith, lt)) (omega (arith, u))
  | inr ge ↦ (
      let same : a ≡ i = omega (arith, l, ge) in
      let k = least_start f (min start (f a)) (a + 1) n in
      let at = ap f same in
      omega (arith, k, at))
]

-- ---- the logs of a chosen epoch

-- an epoch has no more logs than its generation says
pub logs_within : (c : Config) (h : List Turn) (e : ℕ) (g : LogGeneration) → generation_at c h e ≡ Some g → logs_at c h e ≤ g.m
logs_within c h e g at = go (e == first_epoch) at
  where
    planned : (o : Option Plan) → generation_in o ≡ Some g → logs_in o ≤ g.m
    planned None k = absurd (cc)
    planned (Some p) k = pick (is_complete p.tail)
      where
        pick : (b : Bool) → cond b p.generation.m 0 ≤ g.m
        pick true = let same : p.generation ≡ g = cc in let m = ap (λ (x : LogGeneration). x.m) same in omega (arith, m)
        pick false = omega arith

    go : (b : Bool) → cond b (Some (first_generation c)) (generation_in (plan_at c h e)) ≡ Some g → cond b c.m (logs_in (plan_at c h e)) ≤ g.m
    go true k = let same : first_generation c ≡ g = cc in let m = ap (λ (x : LogGeneration). x.m) same in omega (arith, m)
    go false k = planned (plan_at c h e) k

-- a generation has a log
pub has_log : Laws → (c : Config) (h : List Turn) → IsConfig c → IsRun c h → (e : ℕ) (g : LogGeneration) → generation_at c h e ≡ Some g → (1 ≤ g.k) × (g.k ≤ g.m)
has_log laws c h config run e g at =
    let list = planned_list laws.contents.nodes c h config run e g at in
    let is = last_is IsGeneration (line_of c h e) g list.last (lines_within laws.contents.nodes c h config run e g at).0 in
    (is.k_low, is.k_high)

-- each log of a chosen epoch is there and seeded
pub seeded_logs : Laws → (c : Config) (h : List Turn) → IsConfig c → IsRun c h → (e : ℕ) (g : LogGeneration) → IsChosenEpoch c h e → generation_at c h e ≡ Some g → (i : ℕ) → i < g.m → (i < logs_at c h e) × IsSome (log_at c h e i).seed
seeded_logs laws c h config run e g chosen at i l =
    let k = chosen_is_seeded laws.contents.nodes c h config run e chosen in
    let two : Some g ≡ Some k.generation = sym at ∙ k.of in
    let same : g ≡ k.generation = cc in
    let m = ap (λ (x : LogGeneration). x.m) same in
    let logs = k.logs in
    let there : i < logs_at c h e = omega (arith, l, m, logs) in
    (there, k.seeded i there)

-- what a chosen epoch was seeded to, each of its logs has reached
pub seed_is_below : Laws → (c : Config) (h : List Turn) → IsConfig c → IsRun c h → (e : ℕ) (g : LogGeneration) → IsChosenEpoch c h e → generation_at c h e ≡ Some g → IsBelow c h e g.seeded_to
seed_is_below laws c h config run e g chosen at = record {
  generation = g;
  at = at;
  below = inr (λ i l. (let k = seeded_logs laws c h config run e g chosen at i l in record { there = k.0; seeded = k.1; durable = seeded_is_durable laws.contents.nodes c h run e g at i k.0 k.1 }));
}

-- the least durable version of its logs is one that each of them has reached, and that the epoch numbered
pub least_is_below : Laws → (c : Config) (h : List Turn) → IsConfig c → IsRun c h → (e : ℕ) (g : LogGeneration) → IsChosenEpoch c h e → generation_at c h e ≡ Some g → IsBelow c h e (least_durable c h e)
least_is_below laws c h config run e g chosen at = record {
  generation = g;
  at = at;
  below = inr (λ i l. (
      let k = seeded_logs laws c h config run e g chosen at i l in
      record { there = k.0; seeded = k.1; durable = least_each (λ j. durable_of (log_at c h e j)) (durable_of (log_at c h e 0)) 0 (logs_at c h e) i (omega arith) (omega (arith, k.0)) }));
}

pub least_is_numbered : Laws → (c : Config) (h : List Turn) → IsConfig c → IsRun c h → (e : ℕ) (g : LogGeneration) → IsChosenEpoch c h e → generation_at c h e ≡ Some g → least_durable c h e ≤ top_at c h e
least_is_numbered laws c h config run e g chosen at =
    let some = has_log laws c h config run e g at in
    let low = some.0 in
    let high = some.1 in
    let first = seeded_logs laws c h config run e g chosen at 0 (omega (arith, low, high)) in
    let top = durable_below c h e (always_chained laws.contents.nodes c h run e) (log_at c h e 0) (logs_are_own laws.contents.nodes c h run e 0 first.0) in
    let start = least_start (λ j. durable_of (log_at c h e j)) (durable_of (log_at c h e 0)) 0 (logs_at c h e) in
    omega (arith, top, start)

-- what is below in a chosen epoch is not above that
pub below_is_least : Laws → (c : Config) (h : List Turn) → IsConfig c → IsRun c h → (e : ℕ) (g : LogGeneration) → IsChosenEpoch c h e → generation_at c h e ≡ Some g → (v : ℕ) → IsBelow c h e v → v ≤ least_durable c h e
below_is_least laws c h config run e g chosen at v below =
    least_low (λ j. durable_of (log_at c h e j)) v (durable_of (log_at c h e 0)) 0 (logs_at c h e) (each 0 (omega (arith, some.0, some.1))) (λ i l u. each i (let w = logs_within c h e g at in omega (arith, u, w)))
  where
    some : (1 ≤ g.k) × (g.k ≤ g.m)
    some = has_log laws c h config run e g at

    each : (i : ℕ) → i < g.m → v ≤ durable_of (log_at c h e i)
    each i l = let k = seeded_logs laws c h config run e g chosen at i l in below_is_durable laws.contents.nodes c h run e v below i k.0 k.1

-- ---- what is committed

-- what is below in a chosen epoch
pub record IsCommittedThrough (c : Config) (h : List Turn) (a e v : ℕ) : Type 0 where
  pub within : v ≤ least_durable c h e
  pub same : through version_of v (issued c h a) ≡ through version_of v (committed c h e)

-- is committed: it is not above the least durable version of any later chosen epoch, and through it the committed list is what the epoch issued
pub below_is_committed : Laws → (c : Config) (h : List Turn) → IsConfig c → IsRun c h → (a e : ℕ) → IsChosenEpoch c h a → IsChosenEpoch c h e → a ≤ e → (v : ℕ) → IsBelow c h a v → IsCommittedThrough c h a e v
below_is_committed laws c h config run a e old new le v below = elim (cases_lt a e) [
  | inl lt ↦ (
      let k = later_split laws c h config run a e g.0 old new g.1 lt in
      let low = below_is_within laws c h config run a e g.0 g.1 k v below in
      let high = k.high in
      let seed = below_is_least laws c h config run e g.0 new g.1 g.0.seeded_to (seed_is_below laws c h config run e g.0 new g.1) in
      let within : v ≤ least_durable c h e = omega (arith, low, high, seed) in
      record { within = within; same = split_issues laws c h config run a e g.0 g.1 k v low ∙ sym (through_twice version_of v (least_durable c h e) (issued c h e) within) })
  | inr ge ↦ (
      let here : a ≡ e = omega (arith, le, ge) in
      let within : v ≤ least_durable c h e = below_is_least laws c h config run e g.0 new g.1 v (subst (λ x. IsBelow c h x v) here below) in
      record { within = within; same = ap (λ x. through version_of v (issued c h x)) here ∙ sym (through_twice version_of v (least_durable c h e) (issued c h e) within) })
]
  where
    g : (g : LogGeneration) × (generation_at c h e ≡ Some g)
    g = chosen_is_planned laws.contents.nodes c h run e new
