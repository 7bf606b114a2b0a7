-- Along the generations of a state each one is its ballot's, and what is below in one is not above what any later one is seeded to.
use Rattle.std.proofs.Common.{◌≡◌, ℕ, zero, suc, ◌<◌, ◌≤◌, true, List, [], ◌∷◌, ◌++◌, Option, None, Some, inl, inr, refl, sym, ◌∙◌, ap, subst, arith}
use Rattle.std.specs.Prelude.{IfSome, IsSome, is_some}
use Rattle.std.specs.List.{All, Contains}
use Rattle.std.proofs.lemmas.List.Elements.{All-nil, All-push, All-weaker, All-contains, Contains-append_right}
use Rattle.fr_state.specs.Generations.{LogGeneration, last_of}
use Rattle.fr_log.specs.Seed.{SeedContent}
use Rattle.fr_log.specs.LogState.{durable_of, seeded_to_of}
use Rattle.fr_epoch.specs.Recoverer.{RecState, Parent, Plan}
use Rattle.fr_run.specs.Config.{Config, first_generation, first_state}
use Rattle.fr_run.specs.Turn.{Turn}
use Rattle.fr_run.specs.Nodes.{rec_at, generation_at, logs_at, log_at}
use Rattle.fr_run.specs.Run.{IsRun}
use Rattle.fr_run_headline.specs.Bounds.{IsSeedAt, TakesOver, AreTakenOver, IsLine}
use Rattle.fr_run.specs.Laws.{Laws}
use Rattle.fr_run.specs.States.{line_of}
use Rattle.fr_run.specs.StateLaws.{IsConfig}
use Rattle.fr_run_headline.specs.LogLaws.{tally, StandsAt}
use Rattle.fr_run_headline.specs.BoundLaws.{PlansAreLines, BelowIsHeldLater, AcknowledgedIsHeldLater}
use Rattle.fr_run_headline.proofs.Acks.{acknowledged_is_safe}
use Rattle.fr_run.proofs.Growth.{rec_is}
use Rattle.fr_run.proofs.Cells.{Contains-later}
use Rattle.fr_run.proofs.States.{last_is}
use Rattle.fr_run.proofs.Chosen.{generation_planned}
use Rattle.fr_run.proofs.Parents.{plan_is, parent_is_planned}
use Rattle.fr_run.proofs.Lines.{parent_is, plan_line}
use Rattle.fr_run_headline.proofs.Locks.{replies_stand_still}
use Rattle.fr_run_headline.proofs.Ends.{end_is_of_replies}
use Rattle.fr_run_headline.proofs.Tells.{from_start}
use Rattle.fr_run_headline.proofs.Known.{logs_know}
use Rattle.fr_run_headline.proofs.Orders.{low_least, below_is_taken_over}

-- ---- one more generation

-- a seeded log holds through what its generation was seeded to
pub seeded_is_durable : Laws → (c : Config) (h : List Turn) → IsRun c h → (e : ℕ) (g : LogGeneration) → generation_at c h e ≡ Some g → (i : ℕ) → i < logs_at c h e → IsSome (log_at c h e i).seed → g.seeded_to ≤ durable_of (log_at c h e i)
seeded_is_durable laws c h run e g at i there seeded =
    let seed = from (log_at c h e i).seed (logs_know laws c h run e i there).seed seeded in
    let start = from_start (seeded_to_of (log_at c h e i).seed) (log_at c h e i).pushes in
    omega (arith, seed, start)
  where
    from : (o : Option SeedContent) → IfSome o (IsSeedAt c h e) → is_some o ≡ true → g.seeded_to ≤ seeded_to_of o
    from None j d = absurd (cc)
    from (Some s) j d =
        let two : Some g ≡ Some j.generation = sym at ∙ j.of in
        let same : g ≡ j.generation = cc in
        let e' = ap (λ (x : LogGeneration). x.seeded_to) same in
        omega (arith, e', j.seeded_to)

-- a plan is not seeded to less than the generation before it
seed_rises : Laws → (c : Config) (h : List Turn) → IsRun c h → (b : ℕ) (r : RecState) (p : Parent) (q : Plan) → rec_at c h b ≡ Some r → r.parent ≡ Some p → r.plan ≡ Some q → generation_at c h p.last.epoch ≡ Some p.last
    → p.last.seeded_to ≤ q.generation.seeded_to
seed_rises laws c h run b r p q at parent planned last =
    let end = end_is_of_replies laws c h run b r q at planned in
    let each : All (λ x. p.last.seeded_to ≤ x.durable) (tally r).replies = All-weaker (λ x. StandsAt c h p.last.epoch x.log x.durable x.known) (λ x. p.last.seeded_to ≤ x.durable)
    (λ x s. (let l = seeded_is_durable laws c h run p.last.epoch p.last last x.log s.there s.seeded in omega (arith, l, s.durable_is))) (tally r).replies (replies_stand_still laws c h run b r p at parent) in
    let low = low_least p.last.seeded_to (tally r).m (tally r).k (tally r).replies end.covered each in
    omega (arith, low, end.seeded_to)

over_more : (c : Config) (h : List Turn) (gens : List LogGeneration) (g n : LogGeneration) → last_of gens ≡ Some g → g.seeded_to ≤ n.seeded_to → TakesOver c h g n → AreTakenOver c h gens → AreTakenOver c h (gens ++ n ∷ [])
over_more c h [] g n last l k all = absurd (cc)
over_more c h (x ∷ []) g n last l k all =
    let same : x ≡ g = cc in
    (All-push (TakesOver c h x) [] n (All-nil (TakesOver c h x)) (subst (λ y. TakesOver c h y n) (sym same) k), (All-nil (TakesOver c h n), tt))
over_more c h (x ∷ y ∷ gens) g n last l k all =
    let upto : TakesOver c h x g = last_is (TakesOver c h x) (y ∷ gens) g last all.0 in
    (All-push (TakesOver c h x) (y ∷ gens) n all.0 (λ v below. (let j = upto v below in omega (arith, j, l))), over_more c h (y ∷ gens) g n last l k all.1)

line_more : (c : Config) (h : List Turn) (gens : List LogGeneration) (g n : LogGeneration) → last_of gens ≡ Some g → g.seeded_to ≤ n.seeded_to → TakesOver c h g n → generation_at c h n.epoch ≡ Some n → IsLine c h gens → IsLine c h (gens ++ n ∷ [])
line_more c h gens g n last l k own line = record {
  each = All-push (λ x. generation_at c h x.epoch ≡ Some x) gens n line.each own;
  over = over_more c h gens g n last l k line.over;
}

pub first_line : (c : Config) (h : List Turn) → IsLine c h (first_state c).gens
first_line c h = record {
  each = All-push (λ x. generation_at c h x.epoch ≡ Some x) [] (first_generation c) (All-nil (λ x. generation_at c h x.epoch ≡ Some x)) refl;
  over = (All-nil (TakesOver c h (first_generation c)), tt);
}

-- ---- all generations, by the ballot

lines : Laws → (c : Config) (h : List Turn) → IsConfig c → IsRun c h → (n b : ℕ) → b < n → (r : RecState) (q : Plan) → rec_at c h b ≡ Some r → r.plan ≡ Some q → IsLine c h (line_of c h b)
lines laws c h config run zero b l r q at planned = absurd (omega (arith, l))
lines laws c h config run (suc n) b l r q at planned =
    let k = plan_line laws c h config run b r q at planned in
    let p : Parent = k.parent in
    let parent : r.parent ≡ Some p = k.is in
    let of = parent_is laws c h config run b r p at parent in
    let before : IsLine c h (line_of c h p.last.epoch) = elim (parent_is_planned laws c h config run b r p at parent) [
      | inl first ↦ subst (λ e. IsLine c h (line_of c h e)) (sym first) (first_line c h)
      | inr j ↦ lines laws c h config run n p.last.epoch (let low = j.below in omega (arith, l, low)) j.recoverer j.plan j.at j.planned
    ] in
    let is = plan_is laws c h run b r at q planned in
    let mine : generation_at c h q.generation.epoch ≡ Some q.generation = subst (λ y. generation_at c h y ≡ Some q.generation) (sym (is.epoch ∙ (rec_is laws c h run b r at).ballot)) (generation_planned laws c h run b r at q planned) in
    subst (IsLine c h) (sym k.line) (line_more c h (line_of c h p.last.epoch) p.last q.generation of.last (seed_rises laws c h run b r p q at parent planned of.generation) (λ v below. below_is_taken_over laws c h run b r p q at parent planned v below) mine before)

pub plans_are_lines : Laws → PlansAreLines
plans_are_lines laws c h config run b r q at planned = lines laws c h config run (suc b) b (omega arith) r q at planned

-- ---- later generations

over_at : (c : Config) (h : List Turn) (front : List LogGeneration) (g : LogGeneration) (rest : List LogGeneration) → AreTakenOver c h (front ++ g ∷ rest) → All (TakesOver c h g) rest
over_at c h [] g rest k = k.0
over_at c h (x ∷ front) g rest k = over_at c h front g rest k.1

later_is : (front : List LogGeneration) (g n : LogGeneration) (rest : List LogGeneration) → Contains rest n → Contains (front ++ g ∷ rest) n
later_is front g n rest k = Contains-append_right front (g ∷ rest) n (Contains-later g rest n k)

pub below_is_held_later : Laws → BelowIsHeldLater
below_is_held_later laws c h config run b r q at planned front g n rest is later v below =
    let line = plans_are_lines laws c h config run b r q at planned in
    let low : v ≤ n.seeded_to = All-contains (TakesOver c h g) rest n (over_at c h front g rest (subst (AreTakenOver c h) is line.over)) later v below in
    let own : generation_at c h n.epoch ≡ Some n = All-contains (λ x. generation_at c h x.epoch ≡ Some x) (front ++ g ∷ rest) n (subst (λ xs. All (λ x. generation_at c h x.epoch ≡ Some x) xs) is line.each) (later_is front g n rest later) in
    (low, (λ i there seeded. (let k = seeded_is_durable laws c h run n.epoch n own i there seeded in omega (arith, k, low))))

pub acknowledged_is_held_later : Laws → AcknowledgedIsHeldLater
acknowledged_is_held_later laws c h config run b r q at planned front g n rest is later v acked =
    let k = acknowledged_is_safe laws c h run g.epoch v acked in
    below_is_held_later laws c h config run b r q at planned front g n rest is later v (record { generation = k.generation; at = k.of; below = inr k.reached })
