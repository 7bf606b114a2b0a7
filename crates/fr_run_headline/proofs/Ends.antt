-- What a plan is seeded to is held by a log of its parent, so it is not above what the parent's epoch numbered.
use Rattle.std.proofs.Common.{◌≡◌, ℕ, ◌+◌, ◌-◌, ◌≤◌, Bool, true, false, cond, min, List, [], ◌∷◌, map, None, Some, refl, sym, ◌∙◌, ap, subst, arith}
use Rattle.std.specs.List.{All, range_with_len}
use Rattle.std.specs.Prelude.{IfSome, fold}
use Rattle.std.proofs.lemmas.Bool.{le-ltb}
use Rattle.std.proofs.lemmas.List.Elements.{All-head}
use Rattle.fr_tags.specs.Placement.{is_among, log_count, covers}
use Rattle.fr_tail.specs.Tail.{after_hear as after_peeked}
use Rattle.fr_proxy.specs.Sequencer.{new_sequencer}
use Rattle.fr_epoch.specs.declared.reply.Reply.{Reply}
use Rattle.fr_epoch.specs.EndTally.{is_covered, least_durable, pev_of, rv_of}
use Rattle.fr_epoch.specs.Recoverer.{RecState, Plan, Locking}
use Rattle.fr_epoch.specs.Hear as rec
use Rattle.fr_epoch.specs.Hear.{plan_of}
use Rattle.fr_epoch.specs.Words.{Word, word_of}
use Rattle.fr_epoch.specs.Change.{replied, Change, Stands, LosesReads, Reads, Finds, Locks, LosesLocks, Plans, Copies, Seeds, SeedsAll, Writes, LosesWrites, Chooses, Marks}
use Rattle.fr_epoch.specs.Law.{IsRecoverer}
use Rattle.fr_run.specs.Config.{Config}
use Rattle.fr_run.specs.Turn.{Turn}
use Rattle.fr_run.specs.Nodes.{rec_at, generation_at, mark_version, is_open, log_at}
use Rattle.fr_run_headline.specs.Numbers.{numbers, top_of, AreChained}
use Rattle.fr_run.specs.Run.{IsRun}
use Rattle.fr_run.specs.Laws.{Laws}
use Rattle.fr_run_headline.specs.LogLaws.{tally, StandsAt, IsEndOf, EndIsOfReplies, SeedIsReached}
use Rattle.fr_run.proofs.ByTurn.{rec_by_turn}
use Rattle.fr_run.proofs.Growth.{rec_is}
use Rattle.fr_run_headline.proofs.Numbers.{numbers_chain, closed}
use Rattle.fr_run_headline.proofs.Logs.{durable_below, logs_are_own}
use Rattle.fr_run_headline.proofs.Locks.{replies_stand_still}

-- ---- plans

abbrev HasEnd : RecState → Type 0
HasEnd r = (q : Plan) → r.plan ≡ Some q → IsEndOf r q

unplanned : (r : RecState) → IsRecoverer r → r.phase ≡ Locking → (q : Plan) → r.plan ≡ Some q → ⊥
unplanned r come_by ph q e = let k : None ≡ Some q = sym (come_by.locking ph) ∙ e in absurd (cc)

keeps : (r n : RecState) → tally n ≡ tally r → (q : Plan) → IsEndOf r q → IsEndOf n q
keeps r n e q k = record { covered = ap is_covered e ∙ k.covered; within = subst (λ s. pev_of s ≤ rv_of s) (sym e) k.within; first = k.first ∙ ap (λ s. pev_of s + 1) (sym e); seeded_to = k.seeded_to ∙ ap rv_of (sym e) }

change : (w : Word) (r n : RecState) → Change r w n → IsRecoverer r → HasEnd r → HasEnd n
change w r n Stands come_by k = k
change w r n (LosesReads i t why is) come_by k = λ q e. keeps r n refl q (k q e)
change w r n (Reads i t is) come_by k = λ q e. keeps r n refl q (k q e)
change w r n (Finds i t s g heard is) come_by k = λ q e. absurd (let d : None ≡ Some q = sym (come_by.parentless (come_by.reading heard.phase)) ∙ e in absurd (cc))
change w r n (Locks p end i durable known popped is) come_by k = λ q e. absurd (unplanned r come_by is.phase q e)
change w r n (LosesLocks p end i durable known popped why is) come_by k = λ q e. absurd (unplanned r come_by is.phase q e)
change w r n (Plans p end i durable known popped s heard is) come_by k = λ q e. (
    let d : plan_of r p (replied end i durable known) s ≡ q = cc in
    subst (IsEndOf n) d (record { covered = is.covered; within = is.within; first = refl; seeded_to = refl }))
change w r n (Copies parent p i peeked is) come_by k = λ q e. (
    let m : Plan = record { state = p.state; generation = p.generation; tail = after_peeked p.tail i peeked.tag peeked } in
    let d : m ≡ q = cc in
    let j = k p is.plan in
    subst (IsEndOf n) d (record { covered = j.covered; within = j.within; first = j.first; seeded_to = j.seeded_to }))
change w r n (Seeds p i is l) come_by k = λ q e. keeps r n refl q (k q e)
change w r n (SeedsAll p i is l) come_by k = λ q e. keeps r n refl q (k q e)
change w r n (Writes i t is) come_by k = λ q e. keeps r n refl q (k q e)
change w r n (LosesWrites i t why is) come_by k = λ q e. keeps r n refl q (k q e)
change w r n (Chooses i t is m) come_by k = λ q e. keeps r n refl q (k q e)
change w r n (Marks p i is) come_by k = λ q e. keeps r n refl q (k q e)

have_ends : Laws → (c : Config) (h : List Turn) → IsRun c h → (b : ℕ) → IfSome (rec_at c h b) HasEnd
have_ends laws c [] run b = tt
have_ends laws c (t ∷ h) run b =
    rec_by_turn c h t run.0 b (λ o. IfSome o HasEnd) (have_ends laws c h run.1 b) (λ shape none may is q e. absurd (cc)) (λ r from u at told.
    change (word_of from u) r (rec.after_hear r from u) (laws.rec_change r from u) (rec_is laws c h run.1 b r at).kept.come_by (subst (λ o. IfSome o HasEnd) at (have_ends laws c h run.1 b)))

pub end_is_of_replies : Laws → EndIsOfReplies
end_is_of_replies laws c h run b r q at e = (let k : HasEnd r = subst (λ o. IfSome o HasEnd) at (have_ends laws c h run b) in k q e)

-- ---- bounds

-- no reply does not cover
none_counted : (a : ℕ) (xs : List ℕ) → fold (λ v x. v + cond (is_among [] x) 1 0) a xs ≡ a
none_counted a [] = refl
none_counted a (x ∷ xs) = let k = none_counted (a + 0) xs in omega (arith, k)

pub none_cover : (m k : ℕ) → covers m k [] ≡ false
none_cover m k = le-ltb (m - k) (log_count m []) (let e = none_counted 0 (range_with_len 0 m) in omega (arith, e))

least_is_below : (v : ℕ) (rs : List Reply) → fold (λ w (q : Reply). min w q.durable) v rs ≤ v
least_is_below v [] = omega arith
least_is_below v (r ∷ rs) = let k = least_is_below (min v r.durable) rs in omega (arith, k)

-- the numbers of each epoch are a chain, whether or not it is open
pub always_chained : Laws → (c : Config) (h : List Turn) → IsRun c h → (e : ℕ) → AreChained (mark_version (generation_at c h e)) (numbers h e)
always_chained laws c h run e = go (is_open c h e) refl
  where
    go : (b : Bool) → is_open c h e ≡ b → AreChained (mark_version (generation_at c h e)) (numbers h e)
    go true o = (numbers_chain laws c h run e o).chain
    go false o = subst (AreChained (mark_version (generation_at c h e))) (sym (closed laws c h run e o (new_sequencer e 0)).1) tt

-- what a log told to be durable is not above the last version of its epoch
reply_below : Laws → (c : Config) (h : List Turn) → IsRun c h → (e i durable known : ℕ) → StandsAt c h e i durable known → durable ≤ top_of (mark_version (generation_at c h e)) (numbers h e)
reply_below laws c h run e i durable known k =
    let b = durable_below c h e (always_chained laws c h run e) (log_at c h e i) (logs_are_own laws c h run e i k.there) in
    omega (arith, b, k.durable_is)

-- the least durable of replies that cover is not above the last version of their epoch
pub least_is_reached : Laws → (c : Config) (h : List Turn) → IsRun c h → (e m k : ℕ) (rs : List Reply) → All (λ x. StandsAt c h e x.log x.durable x.known) rs → covers m k (map (λ (x : Reply). x.log) rs) ≡ true
    → least_durable rs ≤ top_of (mark_version (generation_at c h e)) (numbers h e)
least_is_reached laws c h run e m k [] all cov = let d : false ≡ true = sym (none_cover m k) ∙ cov in absurd (cc)
least_is_reached laws c h run e m k (x ∷ rs) all cov =
    let s = All-head (λ x. StandsAt c h e x.log x.durable x.known) x rs all in
    let one = reply_below laws c h run e x.log x.durable x.known s in
    let low = least_is_below x.durable rs in
    omega (arith, one, low)

pub seed_is_reached : Laws → SeedIsReached
seed_is_reached laws c h config run b r p q at parent planned =
    let end = end_is_of_replies laws c h run b r q at planned in
    let low = least_is_reached laws c h run p.last.epoch (tally r).m (tally r).k (tally r).replies (replies_stand_still laws c h run b r p at parent) end.covered in
    omega (arith, low, end.seeded_to)
