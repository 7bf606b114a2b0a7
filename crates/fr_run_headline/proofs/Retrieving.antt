-- Each committed version can be retrieved while fewer than k logs of each generation are lost.
use Rattle.std.proofs.Common.{◌≡◌, ℕ, zero, suc, drop, ◌+◌, ◌-◌, ◌<◌, ◌≤◌, Bool, true, false, cond, nat_lt, nat_le, ◌==◌, max, filter, map, List, [], ◌∷◌, ◌++◌, append_assoc, length, length-append, Option, None, Some, inl, inr, refl, sym, ◌∙◌, ap, subst, arith}
use Rattle.std.specs.Prelude.{IfSome, IsSome, is_some, slice_get}
use Rattle.std.specs.List.{All, Contains}
use Rattle.std.specs.Option.{option_map}
use Rattle.std.proofs.lemmas.Bool.{cases_lt, eq-eqb, ltb-true, ltb-false}
use Rattle.std.proofs.lemmas.List.{same_from_push}
use Rattle.std.proofs.lemmas.List.Elements.{All-contains, All-weaker, Contains-append_left, Contains-append_right}
use Rattle.fr_base.specs.declared.place.NodeId.{NodeId}
use Rattle.fr_base.specs.declared.place.NodeId.TheVariants as node
use Rattle.fr_state.specs.Generations.{LogGeneration, IsGeneration, IsCoordinatedState, last_of}
use Rattle.fr_state.specs.LookUp.{next_of, end_of, cut_of, source_of}
use Rattle.fr_tags.specs.Placement.{is_held, log_count}
use Rattle.fr_log.specs.Seed.{SeedContent}
use Rattle.fr_log.specs.Left.{popped_at}
use Rattle.fr_log.specs.LogState.{LogState, durable_of, records_of, swept}
use Rattle.fr_epoch.specs.EndTally.{pev_of}
use Rattle.fr_epoch.specs.Recoverer.{RecState, Parent, Plan}
use Rattle.fr_storage.specs.Storage.{epoch_of}
use Rattle.fr_storage.proofs.Generations.{greatest}
use Rattle.fr_run.specs.Config.{Config, first_epoch, first_generation}
use Rattle.fr_run.specs.Turn.{Turn, Begun, CellTurn, LogTurn, SeqTurn, Submitted, ProxyHeard, RecHeard, StorageHeard, Gone, Crashed}
use Rattle.fr_run.specs.Nodes.{rec_at, generation_at, logs_at, log_at, storage_at}
use Rattle.fr_run.specs.Run.{IsRun}
use Rattle.fr_run.specs.States.{state_of, line_of}
use Rattle.fr_run.specs.StateLaws.{IsConfig}
use Rattle.fr_run.specs.LineLaws.{IsView}
use Rattle.fr_run.proofs.Cells.{Contains-here, Contains-later, Contains-none, Contains-cases}
use Rattle.fr_run.proofs.Chosen.{first_is_chosen, chosen_is_planned}
use Rattle.fr_run.proofs.Lines.{parent_is, plan_line, chosen_are_chain, states_are_views, lines_within}
use Rattle.fr_run.proofs.States.{last_more, state_is}
use Rattle.fr_run_headline.specs.Bounds.{HasReached, AllReach, IsSeedAt}
use Rattle.fr_run_headline.specs.LogLaws.{tally, StandsAt}
use Rattle.fr_run_headline.specs.SeededLaws.{IsSeededEpoch}
use Rattle.fr_run.proofs.Parents.{planned_by}
use Rattle.fr_run_headline.proofs.Behind.{front_is_state, behind_is_seeded}
use Rattle.fr_run_headline.proofs.Ends.{end_is_of_replies}
use Rattle.fr_run_headline.proofs.Known.{logs_know}
use Rattle.fr_run_headline.proofs.Locks.{replies_stand_still}
use Rattle.fr_run_headline.proofs.Named.{IsNamed, log_named}
use Rattle.fr_run_headline.proofs.Orders.{below_is_durable, known_fold, known_is_durable}
use Rattle.fr_run_headline.specs.Issued.{issued, least_durable}
use Rattle.fr_run_headline.specs.Contents.{HasLeft, part_records}
use Rattle.fr_run_headline.proofs.Lists.{HasList, planned_list}
use Rattle.fr_run_headline.proofs.PartLists.{part_of, part_above, part_through, part_same}
use Rattle.fr_run_headline.proofs.PeekLists.{record_of, kept_records}
use Rattle.fr_run_headline.proofs.Truths.{logs_have_left}
use Rattle.fr_run_headline.specs.Retrievable.{lost_with, lost_after, lost_logs, records_at, IsRetrievable, CommittedIsRetrievable}
use Rattle.fr_run_headline.specs.Laws.{Laws}
use Rattle.fr_run_headline.proofs.Agreement.{split_at, front_issues}
use Rattle.fr_run_headline.proofs.Following.{visible_is_safe, nothing_removed}
use Rattle.fr_run_headline.proofs.Durables.{seeded_logs, least_is_below}

-- ---- lost logs

lost_stays : (who : NodeId) (e : ℕ) (logs : List ℕ) (i : ℕ) → Contains logs i → Contains (lost_with who e logs) i
lost_stays (node.Cell j) e logs i k = k
lost_stays (node.Log x j) e logs i k = go (x == e)
  where
    go : (b : Bool) → Contains (cond b (j ∷ logs) logs) i
    go true = Contains-later j logs i k
    go false = k
lost_stays (node.Sequencer x) e logs i k = k
lost_stays (node.Proxy x p) e logs i k = k
lost_stays (node.Recoverer b) e logs i k = k
lost_stays (node.Storage t) e logs i k = k

lost_on : (t : Turn) (e : ℕ) (logs : List ℕ) (i : ℕ) → Contains logs i → Contains (lost_after t e logs) i
lost_on (Begun b shape asks) e logs i k = k
lost_on (CellTurn from j a u) e logs i k = k
lost_on (LogTurn from x j a u) e logs i k = k
lost_on (SeqTurn from x a u) e logs i k = k
lost_on (Submitted x p n batch asks) e logs i k = k
lost_on (ProxyHeard x p from u outcome asks) e logs i k = k
lost_on (RecHeard b from u asks) e logs i k = k
lost_on (StorageHeard y from u taken fault) e logs i k = k
lost_on (Gone who) e logs i k = lost_stays who e logs i k
lost_on (Crashed who) e logs i k = k

-- a log that is gone is among the lost ones
gone_is_lost : (h : List Turn) (e i : ℕ) → Contains h (Gone (node.Log e i)) → Contains (lost_logs h e) i
gone_is_lost [] e i k = absurd (Contains-none k)
gone_is_lost (t ∷ h) e i k = elim (Contains-cases t h (Gone (node.Log e i)) k) [
  | inl now ↦ subst (λ u. Contains (lost_after u e (lost_logs h e)) i) (sym now) (subst (λ b. Contains (cond b (i ∷ lost_logs h e) (lost_logs h e)) i) (sym (eq-eqb e e refl)) (Contains-here i (lost_logs h e)))
  | inr before ↦ lost_on t e (lost_logs h e) i (gone_is_lost h e i before)
]

-- ---- a generation that has a next one was known through its end

-- so each of its logs has come that far
end_is_reached : Laws → (c : Config) (h : List Turn) → IsConfig c → IsRun c h → (e : ℕ) (g : LogGeneration) → generation_at c h e ≡ Some g
    → (front : List LogGeneration) (own next : LogGeneration) (rest : List LogGeneration) → line_of c h e ≡ front ++ own ∷ next ∷ rest
    → (i : ℕ) → i < logs_at c h own.epoch → IsSome (log_at c h own.epoch i).seed → next.first ≤ durable_of (log_at c h own.epoch i) + 1
end_is_reached laws c h config run e g at front own next rest is i there seeded = elim (planned_by c h next.epoch next own_next) [
  | inl first ↦ absurd (no_first first.0)
  | inr k ↦ by_plan k.recoverer k.at k.plan k.planned k.is
]
  where
    list : HasList c h e g
    list = planned_list laws.contents.nodes c h config run e g at

    all : line_of c h e ≡ (front ++ own ∷ []) ++ next ∷ rest
    all = is ∙ sym (append_assoc front (own ∷ []) (next ∷ rest))

    own_next : generation_at c h next.epoch ≡ Some next
    own_next = All-contains (λ x. generation_at c h x.epoch ≡ Some x) (line_of c h e) next list.each (subst (λ xs. Contains xs next) (sym all) (Contains-append_right (front ++ own ∷ []) (next ∷ rest) next (Contains-here next rest)))

    mine : line_of c h next.epoch ≡ (front ++ own ∷ []) ++ next ∷ []
    mine = front_is_state laws.contents.nodes c h config run e g at (front ++ own ∷ []) next rest all

    -- the first generation has none behind it
    no_first : next.epoch ≡ first_epoch → ⊥
    no_first first =
        let one : line_of c h next.epoch ≡ first_generation c ∷ [] = ap (line_of c h) first in
        let same : (front ++ own ∷ []) ++ next ∷ [] ≡ first_generation c ∷ [] = sym mine ∙ one in
        let many = ap length same in
        let a = length-append (front ++ own ∷ []) (next ∷ []) in
        let b = length-append front (own ∷ []) in
        omega (arith, many, a, b)

    by_plan : (r : RecState) → rec_at c h next.epoch ≡ Some r → (q : Plan) → r.plan ≡ Some q → q.generation ≡ next → next.first ≤ durable_of (log_at c h own.epoch i) + 1
    by_plan r here q planned same =
        let line = plan_line laws.contents.nodes c h config run next.epoch r q here planned in
        let p : Parent = line.parent in
        let parent : r.parent ≡ Some p = line.is in
        let gens : (front ++ own ∷ []) ++ next ∷ [] ≡ line_of c h p.last.epoch ++ q.generation ∷ [] = sym mine ∙ line.line in
        let behind : front ++ own ∷ [] ≡ line_of c h p.last.epoch = (same_from_push (front ++ own ∷ []) (line_of c h p.last.epoch) next q.generation gens).0 in
        let found : last_of (line_of c h p.last.epoch) ≡ Some p.last = (parent_is laws.contents.nodes c h config run next.epoch r p here parent).last in
        let lasts : Some own ≡ Some p.last = sym (last_more front own) ∙ ap last_of behind ∙ found in
        let last : own ≡ p.last = cc in
        let epoch : own.epoch ≡ p.last.epoch = ap (λ (x : LogGeneration). x.epoch) last in
        let end = end_is_of_replies laws.contents.nodes c h run next.epoch r q here planned in
        let stand = replies_stand_still laws.contents.nodes c h run next.epoch r p here parent in
        let low : pev_of (tally r) ≤ durable_of (log_at c h p.last.epoch i) =
        known_fold (durable_of (log_at c h p.last.epoch i)) 0 (tally r).replies (omega arith) (All-weaker (λ y. StandsAt c h p.last.epoch y.log y.durable y.known) (λ y. y.known ≤ durable_of (log_at c h p.last.epoch i))
        (λ y z. (
        let l = known_is_durable laws.contents.nodes c h run p.last.epoch y.log i z.there (subst (λ x. i < logs_at c h x) epoch there) (subst (λ x. IsSome (log_at c h x i).seed) epoch seeded) in
        let k = z.known_is in
        omega (arith, l, k))) (tally r).replies stand) in
        let first = end.first in
        let at_next = ap (λ (x : LogGeneration). x.first) same in
        let durable = ap (λ x. durable_of (log_at c h x i)) epoch in
        omega (arith, low, first, at_next, durable)

-- ---- one log

-- what a log of a generation has left at a version that is not popped is the generation's part there
log_has : Laws → (c : Config) (h : List Turn) → IsConfig c → IsRun c h → (g : LogGeneration) → generation_at c h g.epoch ≡ Some g → (i tag version : ℕ) → tag < length c.begins → i < logs_at c h g.epoch → is_held tag g.m g.k i ≡ true
    → g.first ≤ version → popped_at (log_at c h g.epoch i).popped tag < version → version ≤ durable_of (log_at c h g.epoch i) → (o : Option SeedContent) → (log_at c h g.epoch i).seed ≡ o → is_some o ≡ true
    → records_at version (records_of (swept (log_at c h g.epoch i)) tag) ≡ part_records c h g.epoch tag (version - 1) version
log_has laws c h config run g at i tag version inside there held first unpopped durable None seeded some = absurd (cc)
log_has laws c h config run g at i tag version inside there held first unpopped durable (Some s) seeded some =
    ap (records_at version) whole
    ∙ ap (filter (λ r. nat_le r.version version)) (kept_records (nat_lt (version - 1)) (part_of c tag bottom (durable_of l) (issued c h g.epoch)) ∙ ap (map record_of) (part_above c tag bottom (version - 1) (durable_of l) (issued c h g.epoch) (omega (arith, low, first, unpopped))))
    ∙ kept_records (λ v. nat_le v version) (part_of c tag (version - 1) (durable_of l) (issued c h g.epoch))
    ∙ ap (map record_of) (part_through c tag (version - 1) version (durable_of l) (issued c h g.epoch) durable)
  where
    l : LogState
    l = log_at c h g.epoch i

    bottom : ℕ
    bottom = max (s.first - 1) (popped_at l.popped tag)

    named : IsNamed c h g.epoch i (log_at c h g.epoch i)
    named = log_named laws.contents.nodes c h run g.epoch i there

    generation : named.generation ≡ g
    generation = (let two : Some named.generation ≡ Some g = sym named.of ∙ at in cc)

    holds : is_held tag l.m l.k i ≡ true
    holds =
        ap (λ m. is_held tag m l.k i) (named.m ∙ ap (λ (x : LogGeneration). x.m) generation)
        ∙ ap (λ k. is_held tag g.m k i) (named.k ∙ ap (λ (x : LogGeneration). x.k) generation)
        ∙ held

    left : HasLeft c h g.epoch i l s
    left = subst (λ o. IfSome o (HasLeft c h g.epoch i l)) seeded (logs_have_left laws.contents c h config run g.epoch i there)

    whole : records_of (swept l) tag ≡ part_records c h g.epoch tag bottom (durable_of l)
    whole = left tag inside ∙ ap (λ b. cond b (part_records c h g.epoch tag bottom (durable_of l)) []) holds

    seed : IsSeedAt c h g.epoch s
    seed = subst (λ o. IfSome o (IsSeedAt c h g.epoch)) seeded (logs_know laws.contents.nodes c h run g.epoch i there).seed

    low : s.first ≡ g.first
    low = seed.first ∙ (let two : Some seed.generation ≡ Some g = sym seed.of ∙ at in let one : seed.generation ≡ g = cc in ap (λ (x : LogGeneration). x.first) one)

-- a holder that is left serves the version
served : Laws → (c : Config) (h : List Turn) → IsConfig c → IsRun c h → (e tag version : ℕ) → tag < length c.begins → (src : LogGeneration) → source_of (state_of c h e).gens version ≡ Some src → generation_at c h src.epoch ≡ Some src
    → (storage_at c h tag).store.floor < version → src.first ≤ version → src.k ≤ src.m → log_count src.m (lost_logs h src.epoch) < src.k → AllReach c h src.epoch src version
    → part_records c h src.epoch tag (version - 1) version ≡ part_records c h e tag (version - 1) version → IsRetrievable c h e tag version
served laws c h config run e tag version inside src is at above first le few all same =
    let left = laws.holder_left tag src.m src.k (lost_logs h src.epoch) le few in
    let k = all left.0 left.1 in
    let popped = nothing_removed laws c h config run src.epoch left.0 tag k.there in
    record {
      source = src;
      is_source = is;
      first = first;
      log = left.0;
      there = k.there;
      up = λ gone. left.3 (gone_is_lost h src.epoch left.0 gone);
      held = left.2;
      seeded = k.seeded;
      durable = k.durable;
      left = omega (arith, popped, above);
      records = log_has laws c h config run src at left.0 tag version inside k.there left.2 first (omega (arith, popped, above)) k.durable (log_at c h src.epoch left.0).seed refl k.seeded ∙ same;
    }

-- ---- each version

-- what stands first of what is left is left
got_drop : (n : ℕ) (xs : List LogGeneration) (x : LogGeneration) → slice_get xs n ≡ Some x → Contains (drop n xs) x
got_drop zero [] x e = absurd (cc)
got_drop zero (y ∷ xs) x e = let same : y ≡ x = cc in subst (λ z. Contains (y ∷ xs) z) same (Contains-here y xs)
got_drop (suc n) [] x e = absurd (cc)
got_drop (suc n) (y ∷ xs) x e = got_drop n xs x e

pub committed_is_retrievable : Laws → CommittedIsRetrievable
committed_is_retrievable laws c h config run e latest few tag inside version floor high = go (source_of gens version) refl
  where
    gens : List LogGeneration
    gens = line_of c h e

    low : 1 ≤ version
    low = omega (arith, floor)

    is : IsCoordinatedState (state_of c h e)
    is = state_is laws.contents.nodes c h config run e

    g : (g : LogGeneration) × (generation_at c h e ≡ Some g)
    g = chosen_is_planned laws.contents.nodes c h run e latest.chosen

    list : HasList c h e g.0
    list = planned_list laws.contents.nodes c h config run e g.0 g.1

    own_is : (x : LogGeneration) → Contains gens x → generation_at c h x.epoch ≡ Some x
    own_is x there = All-contains (λ y. generation_at c h y.epoch ≡ Some y) gens x list.each there

    -- the list begins with the first generation, which starts at 1
    first_there : Contains gens (first_generation c)
    first_there =
        let front = chosen_are_chain laws.contents.nodes c h config run first_epoch e (first_is_chosen c h) latest.chosen (latest.greatest first_epoch (first_is_chosen c h)) in
        subst (λ (xs : List LogGeneration). Contains xs (first_generation c)) front.1 (Contains-append_left (first_generation c ∷ []) front.0 (first_generation c) (Contains-here (first_generation c) []))

    view : IsView (line_of c h e) (state_of c h e)
    view = states_are_views laws.contents.nodes c h config run e g.0 g.1

    all : All IsGeneration (line_of c h e)
    all = (lines_within laws.contents.nodes c h config run e g.0 g.1).0

    -- a generation that is left starts at or below the version
    starts : (x : LogGeneration) × Contains (drop (state_of c h e).dropped (line_of c h e)) x × (x.first ≤ version)
    starts = pick (nat_lt 0 (state_of c h e).dropped) refl
      where
        pick : (b : Bool) → nat_lt 0 (state_of c h e).dropped ≡ b → (x : LogGeneration) × Contains (drop (state_of c h e).dropped (line_of c h e)) x × (x.first ≤ version)
        pick true k =
            let v = visible_is_safe laws c h config run e g.0 g.1 (ltb-true 0 (state_of c h e).dropped k) tag inside in
            let low = v.floor in
            (v.first, got_drop (state_of c h e).dropped (line_of c h e) v.first v.left, omega (arith, low, floor))
        pick false k =
            let le = ltb-false 0 (state_of c h e).dropped k in
            let none : 0 ≡ (state_of c h e).dropped = omega (arith, le) in
            (first_generation c, subst (λ n. Contains (drop n (line_of c h e)) (first_generation c)) none first_there, omega (arith, floor))

    -- so the version's source is left
    same_source : source_of (state_of c h e).gens version ≡ source_of (line_of c h e) version
    same_source = ap (λ xs. source_of xs version) view.is ∙ laws.keeps_source (line_of c h e) (state_of c h e).dropped version starts.0 starts.1 starts.2

    few_of : (src : LogGeneration) → source_of gens version ≡ Some src → log_count src.m (lost_logs h src.epoch) < src.k
    few_of src at = All-contains (λ x. log_count x.m (lost_logs h x.epoch) < x.k) (state_of c h e).gens src few ((laws.stores.source (state_of c h e).gens version src is.ordered is.limits).0 (same_source ∙ at)).0

    -- the last generation
    last_one : (src : LogGeneration) → Contains gens src → end_of gens src.epoch ≡ None → src ≡ g.0
    last_one src there none = elim (cases_lt src.epoch g.0.epoch) [
      | inl lt ↦ (
          let k : IsSome (end_of gens src.epoch) = (laws.stores.earlier gens src g.0 list.ordered there list.last lt).0 in
          let j : false ≡ true = sym (ap is_some none) ∙ k in
          absurd (cc))
      | inr ge ↦ (
          let most = greatest gens src list.ordered there in
          let top : epoch_of (last_of gens) ≡ g.0.epoch = ap epoch_of list.last in
          let same : src.epoch ≡ g.0.epoch = omega (arith, ge, most, top) in
          let two : Some src ≡ Some g.0 = sym (own_is src there) ∙ ap (generation_at c h) (same ∙ list.own) ∙ g.1 in
          cc)
    ]

    limits : (src : LogGeneration) → Contains gens src → src.k ≤ src.m
    limits src there = (All-contains IsGeneration gens src all there).k_high

    found : (src : LogGeneration) → source_of gens version ≡ Some src → Contains gens src → src.first ≤ version → IfSome (end_of gens src.epoch) (λ end. version ≤ end) → (o : Option LogGeneration) → next_of gens src.epoch ≡ o → IsRetrievable c h e tag version
    found src at there first within None next =
        let none : end_of gens src.epoch ≡ None = ap (option_map (λ (n : LogGeneration). n.first - 1)) next in
        let same : src ≡ g.0 = last_one src there none in
        let epoch : src.epoch ≡ e = ap (λ (x : LogGeneration). x.epoch) same ∙ list.own in
        let below = least_is_below laws c h config run e g.0 latest.chosen g.1 in
        served laws c h config run e tag version inside src (same_source ∙ at) (own_is src there) floor first (limits src there) (few_of src at)
        (λ i l. subst (λ x. HasReached c h x i version) (sym epoch) (reached i (subst (λ (x : LogGeneration). i < x.m) same l)))
        (ap (λ x. part_records c h x tag (version - 1) version) epoch)
      where
        reached : (i : ℕ) → i < g.0.m → HasReached c h e i version
        reached i l =
            let k = seeded_logs laws c h config run e g.0 latest.chosen g.1 i l in
            let below = least_is_below laws c h config run e g.0 latest.chosen g.1 in
            let d = below_is_durable laws.contents.nodes c h run e (least_durable c h e) below i k.0 k.1 in
            record { there = k.0; seeded = k.1; durable = omega (arith, d, high) }
    found src at there first within (Some next) is_next =
        let s = split_at gens src.epoch next is_next in
        let own_there : Contains gens s.own = subst (λ (xs : List LogGeneration). Contains xs s.own) (sym s.are) (Contains-append_right s.before (s.own ∷ next ∷ s.after) s.own (Contains-here s.own (next ∷ s.after))) in
        let two : Some s.own ≡ Some src = sym (own_is s.own own_there) ∙ ap (generation_at c h) s.is ∙ own_is src there in
        let same : s.own ≡ src = cc in
        let are : gens ≡ s.before ++ src ∷ next ∷ s.after = s.are ∙ ap (λ (x : LogGeneration). s.before ++ x ∷ next ∷ s.after) same in
        let end : end_of gens src.epoch ≡ Some (next.first - 1) = ap (option_map (λ (n : LogGeneration). n.first - 1)) is_next in
        let cut : cut_of gens src.epoch ≡ Some next.seeded_to = ap (option_map (λ (n : LogGeneration). n.seeded_to)) is_next in
        let upto : version ≤ next.first - 1 = subst (λ (o : Option ℕ). IfSome o (λ n. version ≤ n)) end within in
        let above = laws.stores.above_end gens src.epoch (next.first - 1) next.seeded_to all end cut in
        let seeded = behind_is_seeded laws.contents.nodes c h config run e g.0 g.1 s.before src next s.after are in
        served laws c h config run e tag version inside src (same_source ∙ at) (own_is src there) floor first (limits src there) (few_of src at)
        (λ i l. behind_reached src (own_is src there) seeded i l (λ here is. (let d = end_is_reached laws c h config run e g.0 g.1 s.before src next s.after are i here is in omega (arith, d, upto, low))))
        (ap (map record_of) (part_same c tag (version - 1) version version (issued c h src.epoch) (issued c h e) (omega arith) (front_issues laws c h config run e g.0 g.1 s.before src next s.after are version (omega (arith, upto, above)))))
      where
        behind_reached : (src : LogGeneration) → generation_at c h src.epoch ≡ Some src → IsSeededEpoch c h src.epoch → (i : ℕ) → i < src.m → (i < logs_at c h src.epoch → IsSome (log_at c h src.epoch i).seed → version ≤ durable_of (log_at c h src.epoch i)) → HasReached c h src.epoch i version
        behind_reached src at k i l reach =
            let two : Some src ≡ Some k.generation = sym at ∙ k.of in
            let same : src ≡ k.generation = cc in
            let m = ap (λ (x : LogGeneration). x.m) same in
            let logs = k.logs in
            let here : i < logs_at c h src.epoch = omega (arith, l, m, logs) in
            record { there = here; seeded = k.seeded i here; durable = reach here (k.seeded i here) }

    go : (o : Option LogGeneration) → source_of gens version ≡ o → IsRetrievable c h e tag version
    go None at =
        let above = All-contains (λ x. version < x.first) gens (first_generation c) ((laws.source_none gens version).0 at) first_there in
        absurd (omega (arith, above, low))
    go (Some src) at =
        let k = (laws.stores.source gens version src list.ordered all).0 at in
        found src at k.0 k.1 k.2 (next_of gens src.epoch) refl
