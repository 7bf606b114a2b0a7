-- The order of versions: what is known in an epoch is not above what any seeded log of it holds, and so not above what the next epoch takes over.
use Rattle.std.proofs.Common.{◌≡◌, ℕ, ◌+◌, ◌<◌, ◌≤◌, Bool, true, false, cond, min, max, ◌==◌, List, [], ◌∷◌, map, Option, None, Some, inl, inr, refl, sym, ◌∙◌, ap, subst, arith}
use Rattle.std.specs.Prelude.{IfSome, IsSome, is_some, fold}
use Rattle.std.specs.List.{All}
use Rattle.std.proofs.lemmas.List.Elements.{All-head, All-tail, All-weaker}
use Rattle.fr_state.specs.Generations.{LogGeneration}
use Rattle.fr_tags.specs.Placement.{covers}
use Rattle.fr_log.specs.Seed.{SeedContent}
use Rattle.fr_log.specs.LogState.{durable_of, known_of, seeded_to_of}
use Rattle.fr_tail.specs.Tail.{is_complete}
use Rattle.fr_epoch.specs.declared.reply.Reply.{Reply}
use Rattle.fr_epoch.specs.EndTally.{least_durable, pev_of, rv_of}
use Rattle.fr_epoch.specs.Recoverer.{RecState, Parent, Plan}
use Rattle.fr_run.specs.Config.{Config, first_epoch, first_generation}
use Rattle.fr_run.specs.Turn.{Turn}
use Rattle.fr_run.specs.Nodes.{rec_at, plan_in, plan_at, generation_in, generation_at, logs_in, logs_at, log_at}
use Rattle.fr_run.specs.Run.{IsRun}
use Rattle.fr_run.specs.Batches.{IsAcknowledged}
use Rattle.fr_run_headline.specs.Bounds.{IsBelow, IsSeedAt}
use Rattle.fr_run.specs.Laws.{Laws}
use Rattle.fr_run_headline.specs.LogLaws.{tally, StandsAt}
use Rattle.fr_run_headline.proofs.Locks.{replies_stand_still}
use Rattle.fr_run_headline.proofs.Ends.{end_is_of_replies, none_cover}
use Rattle.fr_run_headline.proofs.Tells.{from_start}
use Rattle.fr_run_headline.proofs.Acks.{acknowledged_is_safe}
use Rattle.fr_run_headline.proofs.Known.{logs_know, log_known_below}

-- ---- generations

-- a generation starts no later than after what it was seeded to
pub generation_ends : Laws → (c : Config) (h : List Turn) → IsRun c h → (e : ℕ) (g : LogGeneration) → generation_at c h e ≡ Some g → g.first ≤ g.seeded_to + 1
generation_ends laws c h run e g at = go (e == first_epoch) at
  where
    planned : (o : Option RecState) → rec_at c h e ≡ o → (q : Option Plan) → plan_in o ≡ q → generation_in q ≡ Some g → g.first ≤ g.seeded_to + 1
    planned o is None k d = absurd (cc)
    planned None is (Some q) k d = absurd (cc)
    planned (Some r) is (Some q) k d =
        let end = end_is_of_replies laws c h run e r q is k in
        let same : q.generation ≡ g = cc in
        let bound : q.generation.first ≤ q.generation.seeded_to + 1 = omega (arith, end.first, end.seeded_to, end.within) in
        subst (λ (x : LogGeneration). x.first ≤ x.seeded_to + 1) same bound

    go : (s : Bool) → cond s (Some (first_generation c)) (generation_in (plan_at c h e)) ≡ Some g → g.first ≤ g.seeded_to + 1
    go true k = let same : first_generation c ≡ g = cc in subst (λ (x : LogGeneration). x.first ≤ x.seeded_to + 1) same (omega arith)
    go false k = planned (rec_at c h e) refl (plan_at c h e) refl k

-- an epoch has no more logs than its generation says
logs_within : (c : Config) (h : List Turn) (e i : ℕ) (g : LogGeneration) → generation_at c h e ≡ Some g → i < logs_at c h e → i < g.m
logs_within c h e i g at below = go (e == first_epoch) at below
  where
    planned : (o : Option Plan) → generation_in o ≡ Some g → i < logs_in o → i < g.m
    planned None k l = absurd (cc)
    planned (Some p) k l = (let same : p.generation ≡ g = cc in pick same (is_complete p.tail) l)
      where
        pick : p.generation ≡ g → (b : Bool) → i < cond b p.generation.m 0 → i < g.m
        pick same true l = subst (λ (x : LogGeneration). i < x.m) same l
        pick same false l = absurd (omega (arith, l))

    go : (s : Bool) → cond s (Some (first_generation c)) (generation_in (plan_at c h e)) ≡ Some g → i < cond s c.m (logs_in (plan_at c h e)) → i < g.m
    go true k l = let same : first_generation c ≡ g = cc in subst (λ (x : LogGeneration). i < x.m) same l
    go false k l = planned (plan_at c h e) k l

-- ---- one epoch

-- a version that is below is not above what any seeded log of the epoch holds
pub below_is_durable : Laws → (c : Config) (h : List Turn) → IsRun c h → (e v : ℕ) → IsBelow c h e v → (i : ℕ) → i < logs_at c h e → IsSome (log_at c h e i).seed → v ≤ durable_of (log_at c h e i)
below_is_durable laws c h run e v k i there seeded = elim k.below [
  | inl low ↦ (
      let ends = generation_ends laws c h run e k.generation k.at in
      let seed = from (log_at c h e i).seed (logs_know laws c h run e i there).seed seeded in
      let start = from_start (seeded_to_of (log_at c h e i).seed) (log_at c h e i).pushes in
      omega (arith, low, ends, seed, start))
  | inr all ↦ (all i (logs_within c h e i k.generation k.at there)).durable
]
  where
    from : (o : Option SeedContent) → IfSome o (IsSeedAt c h e) → is_some o ≡ true → k.generation.seeded_to ≤ seeded_to_of o
    from None j d = absurd (cc)
    from (Some s) j d =
        let two : Some k.generation ≡ Some j.generation = sym k.at ∙ j.of in
        let same : k.generation ≡ j.generation = cc in
        let e = ap (λ (g : LogGeneration). g.seeded_to) same in
        omega (arith, e, j.seeded_to)

-- what a log of an epoch knows is not above what any seeded log of it holds
pub known_is_durable : Laws → (c : Config) (h : List Turn) → IsRun c h → (e i j : ℕ) → i < logs_at c h e → j < logs_at c h e → IsSome (log_at c h e j).seed → known_of (log_at c h e i) ≤ durable_of (log_at c h e j)
known_is_durable laws c h run e i j here there seeded = below_is_durable laws c h run e (known_of (log_at c h e i)) (log_known_below laws c h run e i here) j there seeded

-- ---- the next epoch

low_fold : (v w : ℕ) (rs : List Reply) → v ≤ w → All (λ r. v ≤ r.durable) rs → v ≤ fold (λ x (q : Reply). min x q.durable) w rs
low_fold v w [] l all = l
low_fold v w (r ∷ rs) l all = low_fold v (min w r.durable) rs (let k = All-head (λ r. v ≤ r.durable) r rs all in omega (arith, k, l)) (All-tail (λ r. v ≤ r.durable) r rs all)

-- what is not above the durable version of any reply is not above the least
pub low_least : (v m k : ℕ) (rs : List Reply) → covers m k (map (λ (x : Reply). x.log) rs) ≡ true → All (λ r. v ≤ r.durable) rs → v ≤ least_durable rs
low_least v m k [] cov all = let d : false ≡ true = sym (none_cover m k) ∙ cov in absurd (cc)
low_least v m k (r ∷ rs) cov all = low_fold v r.durable rs (All-head (λ r. v ≤ r.durable) r rs all) (All-tail (λ r. v ≤ r.durable) r rs all)

-- a version that is below in the parent's epoch is not above what a plan is seeded to
pub below_is_taken_over : Laws → (c : Config) (h : List Turn) → IsRun c h → (b : ℕ) (r : RecState) (p : Parent) (q : Plan) → rec_at c h b ≡ Some r → r.parent ≡ Some p → r.plan ≡ Some q → (v : ℕ) → IsBelow c h p.last.epoch v
    → v ≤ q.generation.seeded_to
below_is_taken_over laws c h run b r p q at parent planned v k =
    let end = end_is_of_replies laws c h run b r q at planned in
    let stand = replies_stand_still laws c h run b r p at parent in
    let each : All (λ x. v ≤ x.durable) (tally r).replies = All-weaker (λ x. StandsAt c h p.last.epoch x.log x.durable x.known) (λ x. v ≤ x.durable)
    (λ x s. (let l = below_is_durable laws c h run p.last.epoch v k x.log s.there s.seeded in omega (arith, l, s.durable_is))) (tally r).replies stand in
    let low = low_least v (tally r).m (tally r).k (tally r).replies end.covered each in
    omega (arith, low, end.seeded_to)

-- so what is acknowledged in an epoch is taken over by each plan over it
pub acknowledged_is_taken_over : Laws → (c : Config) (h : List Turn) → IsRun c h → (b : ℕ) (r : RecState) (p : Parent) (q : Plan) → rec_at c h b ≡ Some r → r.parent ≡ Some p → r.plan ≡ Some q → (v : ℕ) → IsAcknowledged h p.last.epoch v
    → v ≤ q.generation.seeded_to
acknowledged_is_taken_over laws c h run b r p q at parent planned v acked =
    let k = acknowledged_is_safe laws c h run p.last.epoch v acked in
    below_is_taken_over laws c h run b r p q at parent planned v (record { generation = k.generation; at = k.of; below = inr k.reached })

-- ---- replies

pub known_fold : (v w : ℕ) (rs : List Reply) → w ≤ v → All (λ r. r.known ≤ v) rs → fold (λ x (q : Reply). max x q.known) w rs ≤ v
known_fold v w [] l all = l
known_fold v w (r ∷ rs) l all = known_fold v (max w r.known) rs (let k = All-head (λ r. r.known ≤ v) r rs all in omega (arith, k, l)) (All-tail (λ r. r.known ≤ v) r rs all)

-- the greatest known of replies that cover is not above the least durable, so no recoverer finds them at odds
pub replies_agree : Laws → (c : Config) (h : List Turn) → IsRun c h → (b : ℕ) (r : RecState) (p : Parent) → rec_at c h b ≡ Some r → r.parent ≡ Some p → covers (tally r).m (tally r).k (map (λ (x : Reply). x.log) (tally r).replies) ≡ true → pev_of (tally r) ≤ rv_of (tally r)
replies_agree laws c h run b r p at parent cov = low_least (pev_of (tally r)) (tally r).m (tally r).k (tally r).replies cov (All-weaker (λ x. StandsAt c h p.last.epoch x.log x.durable x.known) (λ x. pev_of (tally r) ≤ x.durable) (λ x s. one x s) (tally r).replies stand)
  where
    stand : All (λ x. StandsAt c h p.last.epoch x.log x.durable x.known) (tally r).replies
    stand = replies_stand_still laws c h run b r p at parent

    one : (x : Reply) → StandsAt c h p.last.epoch x.log x.durable x.known → pev_of (tally r) ≤ x.durable
    one x s = known_fold x.durable 0 (tally r).replies (omega arith) (All-weaker (λ y. StandsAt c h p.last.epoch y.log y.durable y.known) (λ y. y.known ≤ x.durable)
        (λ y z. (let l = known_is_durable laws c h run p.last.epoch y.log x.log z.there s.there s.seeded in omega (arith, l, z.known_is, s.durable_is))) (tally r).replies stand)
