-- A full list is no dead end where a log of its last generation is up and has the epoch's mark.
use Rattle.std.proofs.Common.{◌≡◌, ℕ, ◌+◌, ◌-◌, ◌<◌, ◌≤◌, ◌^◌, Bool, true, false, cond, nat_lt, drop, ◌==◌, List, [], ◌∷◌, length, Option, None, Some, inl, inr, refl, sym, ◌∙◌, ap, subst, arith}
use Rattle.std.specs.Prelude.{IfSome, Ok}
use Rattle.std.specs.List.{Contains, All, range_with_len}
use Rattle.std.proofs.lemmas.Bool.{eqb-true, lt-ltb, ltb-true, ltb-false, true≢false}
use Rattle.std.proofs.lemmas.List.Elements.{All-cons, All-contains, All-weaker}
use Rattle.std.proofs.lemmas.List.FromFn.{length-range_with_len}
use Rattle.fr_base.specs.Shape.{ShapeContent, IsShape}
use Rattle.fr_base.specs.declared.place.NodeId.TheVariants as node
use Rattle.fr_register.specs.CellState.{CellState}
use Rattle.fr_register.specs.Chosen.{IsMajority, IsHeldBy}
use Rattle.fr_register.specs.History as register
use Rattle.fr_register.specs.History.{written_turn}
use Rattle.fr_register.specs.Poll.{Stamped}
use Rattle.fr_register.proofs.Majorities.{shared}
use Rattle.fr_state.specs.Generations.{LogGeneration, CoordinatedState, last_of}
use Rattle.fr_state.specs.Laws.{DroppedBeginsThere}
use Rattle.fr_state.specs.Reading.{reading}
use Rattle.fr_tags.specs.CoverLaw.{CoveringMeetsEachTag}
use Rattle.fr_tags.specs.Placement.{covers, is_held, log_count}
use Rattle.fr_log.specs.Law.{AskIsChange}
use Rattle.fr_log.specs.LogState.{durable_of, mark_among}
use Rattle.fr_log.specs.Push.{PushContent}
use Rattle.fr_log.specs.declared.ask.LogTell.TheVariants.{Locked}
use Rattle.fr_ask.specs.declared.tell.Tell.TheVariants as tell
use Rattle.fr_epoch.specs.declared.reply.Reply.{Reply}
use Rattle.fr_epoch.specs.declared.why.LostWhy.TheVariants as why
use Rattle.fr_epoch.specs.Change.{IsFound}
use Rattle.fr_epoch.specs.DroppingLaws.{IsShownFrom}
use Rattle.fr_epoch.specs.EndTally.{EndState, is_covered, responders, rv_of}
use Rattle.fr_epoch.specs.Hear.{left_of}
use Rattle.fr_epoch.specs.Recoverer.{RecState, Parent, Lost}
use Rattle.fr_run.specs.AskLaws.{SentIsAccounted}
use Rattle.fr_run.specs.CellLaws.{CellsAreOrdered, IsWriter}
use Rattle.fr_run.specs.ChosenLaws.{FirstIsLeast}
use Rattle.fr_run.specs.Config.{Config, first_epoch, first_generation, first_state, first_cell}
use Rattle.fr_run.specs.Laws as nodes
use Rattle.fr_run.specs.Nodes.{cell_at, rec_at, plan_in, plan_at, generation_in, generation_at, logs_at, log_at}
use Rattle.fr_run.specs.ParentLaws.{ParentIsRead}
use Rattle.fr_run.specs.Run.{MayBegin, IsRun}
use Rattle.fr_run.specs.StateLaws.{IsConfig}
use Rattle.fr_run.specs.States.{state_of, pair_of, IsChosenEpoch, IsLatest}
use Rattle.fr_run.specs.Turn.{Turn, Told, cell_turns}
use Rattle.fr_run.proofs.Cells.{Contains-here, written_is_state}
use Rattle.fr_run.proofs.Chosen.{generation_planned, state_planned}
use Rattle.fr_run.proofs.Growth.{rec_is}
use Rattle.fr_run.proofs.Register.{has_found}
use Rattle.fr_run.proofs.States.{first_is, last_more, recoverers_have_states}
use Rattle.fr_run_headline.specs.Laws.{Laws}
use Rattle.fr_run_headline.specs.LogLaws.{tally, tally_in, StandsAt}
use Rattle.fr_run_headline.specs.Order.{HeldIsChosen}
use Rattle.fr_run_headline.specs.Retrievable.{AreFewLost}
use Rattle.fr_run_headline.specs.SeededLaws.{IsSeededEpoch, ChosenIsSeeded}
use Rattle.fr_run_headline.proofs.Locks.{replies_stand_still}
use Rattle.fr_run_outcomes.specs.Full.{ArePopped, PopsOn, MarkedIsPopped, CanMakeRoom, MakesRoomOn, FullIsNoDeadEnd, TooManyIsUnpopped}
use Rattle.fr_run_outcomes.specs.Going.{GoesOn, LeavesChosen}
use Rattle.fr_run_outcomes.specs.Locking.{IsFewLost}
use Rattle.fr_run_outcomes.specs.Recovering.{FillsOn}
use Rattle.fr_run_outcomes.specs.Returning.{HasEachLeft, ServesOn, ServiceReturnsOrIsFull}
use Rattle.fr_run_outcomes.proofs.Copies.{begins_same, made_from, least_of}
use Rattle.fr_run_outcomes.proofs.Counts.{below_all}
use Rattle.fr_run_outcomes.proofs.Emptying.{generation_left}
use Rattle.fr_run_outcomes.proofs.LockAnswers.{left_fits, low_enough, not_spent, other_last}
use Rattle.fr_run_outcomes.proofs.Making.{room_made}
use Rattle.fr_run_outcomes.proofs.Popped.{IsToldSince, told_since}
use Rattle.fr_run_outcomes.proofs.Left.{left_latest}
use Rattle.fr_run_outcomes.proofs.Reasons.{IsFull, IsSpent, has_reason, IsShown, are_shown}
use Rattle.fr_run_outcomes.proofs.Rooms.{durable_left, moved}

-- what holds of the nodes
pub record FullRules : Type 0 where
  pub laws : Laws
  pub changes : AskIsChange
  pub accounted : SentIsAccounted
  pub order : CellsAreOrdered
  pub least : FirstIsLeast
  pub read : ParentIsRead
  pub seeded : ChosenIsSeeded
  pub held : HeldIsChosen
  pub meets : CoveringMeetsEachTag
  pub begins : DroppedBeginsThere
  pub popped : MarkedIsPopped
  pub returns : ServiceReturnsOrIsFull

-- ---- replies that cover

-- a log that replied to a recoverer and holds a tag
record Replier (r : RecState) (p : Parent) (tag : ℕ) : Type 0 where
  reply : Reply
  among : Contains (tally r).replies reply
  below : reply.log < p.last.m
  held : is_held tag p.last.m p.last.k reply.log ≡ true

replier : nodes.Laws → CoveringMeetsEachTag → (c : Config) (h : List Turn) → IsRun c h → (b : ℕ) (r : RecState) (p : Parent) → rec_at c h b ≡ Some r → r.parent ≡ Some p → is_covered (tally r) ≡ true → (tag : ℕ) → Replier r p tag
replier laws meets c h run b r p at parent covers_all tag = record {
  reply = from.0;
  among = from.1;
  below = subst (λ i. i < p.last.m) (sym from.2) met.1;
  held = subst (λ i. is_held tag p.last.m p.last.k i ≡ true) (sym from.2) met.3;
}
  where
    tallied : (e : EndState) × (r.end ≡ Some e) × (e.m ≡ p.last.m) × (e.k ≡ p.last.k)
    tallied = (rec_is laws c h run b r at).kept.come_by.tallied p parent

    covered : covers p.last.m p.last.k (responders (tally r)) ≡ true
    covered =
        ap (λ m. covers m p.last.k (responders (tally r))) (sym (ap (λ (s : EndState). s.m) (ap tally_in tallied.1) ∙ tallied.2))
        ∙ ap (λ k. covers (tally r).m k (responders (tally r))) (sym (ap (λ (s : EndState). s.k) (ap tally_in tallied.1) ∙ tallied.3))
        ∙ covers_all

    met : (log : ℕ) × (log < p.last.m) × Contains (responders (tally r)) log × (is_held tag p.last.m p.last.k log ≡ true)
    met = meets tag p.last.m p.last.k (responders (tally r)) ((rec_is laws c h run b r at).kept.parent p parent).k_high covered

    from : (x : Reply) × Contains (tally r).replies x × (x.log ≡ met.0)
    from = made_from (λ (x : Reply). x.log) (tally r).replies met.0 met.2

one_parent : (o : Option Parent) (p q : Parent) → o ≡ Some p → o ≡ Some q → p ≡ q
one_parent o p q a b = (let two : Some p ≡ Some q = sym a ∙ b in cc)

-- ---- a list that is full

-- each tag is shown popped so far: then there is room for one generation more
shown_has_room : FullRules → (c : Config) (h : List Turn) → IsConfig c → IsRun c h → 1 ≤ length c.begins → (b : ℕ) (r : RecState) (p : Parent) → rec_at c h b ≡ Some r → r.parent ≡ Some p
    → ((tag : ℕ) → tag < length c.begins → IsShownFrom r.shown tag (p.last.first - 1)) → nat_lt (length (left_of r p).gens) 64 ≡ true
shown_has_room rules c h config run some b r p at parent each =
    room_made rules.laws.stores.source rules.laws.stores.last_open rules.begins p.state p.last r.shown (range_with_len 0 (length r.begins))
    ((recoverers_have_states rules.laws.contents.nodes c h config run b r at).parent p parent).0 ((has_found rules.laws.contents.nodes c h run b r at).found p parent).last
    (let n = length-range_with_len 0 (length r.begins) in omega (arith, n, same, some))
    (λ tag there. each tag (let less = All-contains (λ i. i < length r.begins) (range_with_len 0 (length r.begins)) tag (below_all (length r.begins)) there in omega (arith, less, same)))
  where
    same : length r.begins ≡ length c.begins
    same = ap (λ (xs : List (List ℕ)). length xs) (begins_same rules.laws.contents.nodes c h run b r at)

pub too_many_is_unpopped : FullRules → TooManyIsUnpopped
too_many_is_unpopped rules c h config run b r p at lost parent = record {
  full = full (nat_lt (length p.state.gens) 64) refl;
  unpopped = λ some each. true≢false (sym (shown_has_room rules c h config run some b r p at parent each) ∙ no_room);
}
  where
    found : IsFull r
    found = (has_reason rules.laws.contents.nodes c h run b r at).many lost

    no_room : nat_lt (length (left_of r p).gens) 64 ≡ false
    no_room = ap (λ q. nat_lt (length (left_of r q).gens) 64) (one_parent r.parent p found.parent parent found.parent_is) ∙ found.full

    full : (x : Bool) → nat_lt (length p.state.gens) 64 ≡ x → 64 ≤ length p.state.gens
    full false e = ltb-false (length p.state.gens) 64 e
    full true e =
        absurd (true≢false (sym (left_fits rules.laws.contents.nodes p.state r.shown (range_with_len 0 (length r.begins)) ((recoverers_have_states rules.laws.contents.nodes c h config run b r at).parent p parent).0
        (ltb-true (length p.state.gens) 64 e)) ∙ no_room))

-- ---- once all is popped

-- a moment at which a ballot has not begun, and the logs of a generation are there and popped
record IsReady (c : Config) (h : List Turn) (b : ℕ) (g : LogGeneration) : Type 0 where
  run : IsRun c h
  none : rec_at c h b ≡ None
  there : (i : ℕ) → i < g.m → i < logs_at c h g.epoch
  popped : ArePopped c h g
  versions : (i : ℕ) → i < g.m → durable_of (log_at c h g.epoch i) + 1 < 2 ^ 62

-- its recoverer is shown that each tag is
is_shown : FullRules → (c : Config) (h later : List Turn) → IsConfig c → (b : ℕ) → GoesOn c b h later → (r : RecState) (p : Parent) → rec_at c later b ≡ Some r → r.parent ≡ Some p → IsReady c h b p.last
    → is_covered (tally r) ≡ true → (tag : ℕ) → tag < length c.begins → IsShownFrom r.shown tag (p.last.first - 1)
is_shown rules c h later config b k r p at parent ready covered tag inside = record {
  entry = entry.entry;
  there = told.each entry.entry entry.there;
  tag_is = entry.tag_is;
  high = entry.high;
}
  where
    from : Replier r p tag
    from = replier rules.laws.contents.nodes rules.meets c later k.is_run b r p at parent covered tag

    told : IsShown later b p.last.epoch r.shown from.reply
    told = are_shown rules.laws.contents.nodes c later k.is_run b r at p parent from.reply from.among

    since : IsToldSince c h p.last.epoch from.reply.log told.popped
    since = told_since rules.laws.contents.nodes rules.accounted c k.more h (subst (IsRun c) (sym k.is) k.is_run) b ready.none p.last.epoch from.reply.log from.reply.durable from.reply.known told.popped
        (subst (λ l. Told l (node.Log p.last.epoch from.reply.log) (node.Recoverer b) (tell.Log (Locked from.reply.durable from.reply.known told.popped))) (sym k.is) told.told)

    there : from.reply.log < logs_at c h p.last.epoch
    there = ready.there from.reply.log from.below

    entry : IsShownFrom told.popped tag (p.last.first - 1)
    entry = since.shown tag (p.last.first - 1) (record {
      there = there;
      popped = ready.popped from.reply.log tag (record { there = lt-ltb from.reply.log (logs_at c h p.last.epoch) there; up = since.up }) inside from.held;
    })

-- so it does not find that there is no room
never_full : FullRules → (c : Config) (h later : List Turn) → IsConfig c → 1 ≤ length c.begins → (b : ℕ) → GoesOn c b h later → (r : RecState) (p : Parent) → rec_at c later b ≡ Some r → r.parent ≡ Some p → IsReady c h b p.last
    → r.phase ≡ Lost why.TooMany → ⊥
never_full rules c h later config some b k r p at parent ready lost =
    (too_many_is_unpopped rules c later config k.is_run b r p at lost parent).unpopped some (is_shown rules c h later config b k r p at parent ready found.covered)
  where
    found : IsFull r
    found = (has_reason rules.laws.contents.nodes c later k.is_run b r at).many lost

never_spent : FullRules → (c : Config) (h later : List Turn) → IsConfig c → (b : ℕ) → GoesOn c b h later → (r : RecState) (p : Parent) → rec_at c later b ≡ Some r → r.parent ≡ Some p → IsReady c h b p.last → r.phase ≡ Lost why.Spent → ⊥
never_spent rules c h later config b k r p at parent ready lost =
    true≢false (sym found.spent ∙ not_spent (2 ^ 62) (rv_of (tally r) + 1)
    (low_enough (2 ^ 62) (rv_of (tally r)) from.reply.durable (durable_of (log_at c h p.last.epoch from.reply.log)) (least_of (tally r).replies from.reply from.among) same (ready.versions from.reply.log from.below)))
  where
    found : IsSpent r
    found = (has_reason rules.laws.contents.nodes c later k.is_run b r at).spent lost

    from : Replier r p 0
    from = replier rules.laws.contents.nodes rules.meets c later k.is_run b r p at parent found.covered 0

    stand : StandsAt c later p.last.epoch from.reply.log from.reply.durable from.reply.known
    stand = All-contains (λ (x : Reply). StandsAt c later p.last.epoch x.log x.durable x.known) (tally r).replies from.reply (replies_stand_still rules.laws.contents.nodes c later k.is_run b r p at parent) from.among

    same : from.reply.durable ≡ durable_of (log_at c h p.last.epoch from.reply.log)
    same = sym stand.durable_is ∙ durable_left rules.laws.contents.nodes rules.changes rules.accounted c b h later k p.last.epoch from.reply.log (other_last rules.laws.contents.nodes c later config k.is_run b r p at parent)

-- ---- what a cell has

-- a cell has the state of an epoch, whose last generation is the epoch's own
record CellHas (c : Config) (h : List Turn) (i : ℕ) : Type 0 where
  state : CoordinatedState
  generation : LogGeneration
  read : reading (cell_at c h i).value ≡ Ok state
  last : last_of state.gens ≡ Some generation
  epoch : generation.epoch ≡ (cell_at c h i).written
  of : generation_at c h generation.epoch ≡ Some generation
  own : state ≡ state_of c h generation.epoch

cell_has : FullRules → (c : Config) (h : List Turn) → IsConfig c → IsRun c h → (i : ℕ) → CellHas c h i
cell_has rules c h config run i = held (rules.order c h run i).holds
  where
    held : IsHeldBy (first_cell c) (cell_turns h) i (record { ballot = (cell_at c h i).written; value = (cell_at c h i).value }) → CellHas c h i
    held (inl start) = record {
      state = first_state c;
      generation = first_generation c;
      read = ap (λ (x : Stamped). reading x.value) start ∙ rules.laws.contents.nodes.spelled_is_read (first_state c) (first_is c config);
      last = refl;
      epoch = sym (ap (λ (x : Stamped). x.ballot) start);
      of = refl;
      own = refl;
    }
    held (inr w) = written (written_is_state rules.laws.contents.nodes c h run (record { ballot = (cell_at c h i).written; value = (cell_at c h i).value }) (record { cell = i; tell = _; comes = w }))
      where
        written : IsWriter c h (record { ballot = (cell_at c h i).written; value = (cell_at c h i).value }) → CellHas c h i
        written k =
            let states = (recoverers_have_states rules.laws.contents.nodes c h config run (cell_at c h i).written k.recoverer k.at).plan k.plan k.planned in
            let rec = rec_is rules.laws.contents.nodes c h run (cell_at c h i).written k.recoverer k.at in
            let epoch : k.plan.generation.epoch ≡ (cell_at c h i).written = (rec.kept.plan k.plan k.planned).epoch ∙ rec.ballot in
            record {
              state = k.plan.state;
              generation = k.plan.generation;
              read = ap reading k.value ∙ rules.laws.contents.nodes.spelled_is_read k.plan.state states.0;
              last = ap (λ (x : CoordinatedState). last_of x.gens) states.1.2.is ∙ last_more (drop states.1.2.number states.1.0.state.gens) k.plan.generation;
              epoch = epoch;
              of = subst (λ x. generation_at c h x ≡ Some k.plan.generation) (sym epoch) (generation_planned rules.laws.contents.nodes c h run (cell_at c h i).written k.recoverer k.at k.plan k.planned);
              own = subst (λ x. k.plan.state ≡ state_of c h x) (sym epoch) (sym (state_planned rules.laws.contents.nodes c h run (cell_at c h i).written k.recoverer k.at k.plan k.planned));
            }

-- of the greatest pair of a majority the epoch is the latest, if it is chosen
greatest_is_latest : FullRules → (c : Config) (h : List Turn) → IsRun c h → (e first : ℕ) (others : List ℕ) → IsChosenEpoch c h e → e ≡ (cell_at c h first).written → IsMajority c.cells (first ∷ others)
    → All (λ i. (cell_at c h i).written ≤ (cell_at c h first).written) others → IsLatest c h e
greatest_is_latest rules c h run e first others chosen is majority below = record { chosen = chosen; greatest = go }
  where
    all : All (λ i. (cell_at c h i).written ≤ (cell_at c h first).written) (first ∷ others)
    all = All-cons (λ i. (cell_at c h i).written ≤ (cell_at c h first).written) first others (omega arith) below

    both : (d : ℕ) → (i : ℕ) × ((cell_at c h i).written ≤ (cell_at c h first).written) × Contains (cell_turns h) (written_turn i (pair_of c h d)) → d ≤ e
    both d k =
        let took = (rules.order c h run k.0).took (pair_of c h d) k.2 in
        let le = k.1 in
        omega (arith, took, le, is)

    go : (d : ℕ) → IsChosenEpoch c h d → d ≤ e
    go d (inl start) = (let at : d ≡ first_epoch = ap (λ (p : Stamped). p.ballot) start in let at_least = rules.least c h run e chosen in omega (arith, at, at_least))
    go d (inr w) = both d (shared c.cells (λ i. (cell_at c h i).written ≤ (cell_at c h first).written) (λ i. Contains (cell_turns h) (written_turn i (pair_of c h d))) (first ∷ others) w.who majority w.majority all w.each)

-- a log's mark is that of a chosen epoch
marked_is_chosen : FullRules → (c : Config) (h : List Turn) → IsConfig c → IsRun c h → (e i : ℕ) (x : CoordinatedState) → i < logs_at c h e → (ps : List PushContent) → (log_at c h e i).pushes ≡ ps → mark_among ps ≡ Some x → IsChosenEpoch c h e
marked_is_chosen rules c h config run e i x there [] is mark = absurd (cc)
marked_is_chosen rules c h config run e i x there (p ∷ ps) is mark = (rules.held c h config run e i p there (subst (λ qs. Contains qs p) (sym is) (Contains-here p ps))).0

-- ---- the law

-- a ballot that has not begun has no generation
no_generation : (c : Config) (h : List Turn) (b : ℕ) (g : LogGeneration) → MayBegin b → rec_at c h b ≡ None → generation_at c h b ≡ Some g → ⊥
no_generation c h b g may none of = go (b == first_epoch) refl of
  where
    go : (x : Bool) → (b == first_epoch) ≡ x → cond x (Some (first_generation c)) (generation_in (plan_at c h b)) ≡ Some g → ⊥
    go true e k = may.0 (eqb-true b first_epoch e)
    go false e k = (let d : None ≡ Some g = sym (ap (λ o. generation_in (plan_in o)) none) ∙ k in absurd (cc))

-- what a recoverer read of a cell is what the cell had
same_last : (v : List ℕ) (s x : CoordinatedState) (g y : LogGeneration) → reading v ≡ Ok s → reading v ≡ Ok x → last_of s.gens ≡ Some g → last_of x.gens ≡ Some y → y ≡ g
same_last v s x g y one other last own =
    let two : Ok x ≡ Ok s = sym other ∙ one in
    let same : x ≡ s = cc in
    let three : Some y ≡ Some g = sym own ∙ (ap (λ (z : CoordinatedState). last_of z.gens) same ∙ last) in
    cc

-- the cells are as they were
same_cell : (c : Config) (h later : List Turn) → LeavesChosen c h later → (i : ℕ) → cell_at c later i ≡ cell_at c h i
same_cell c h later k i = ap (λ ts. register.cell_at (first_cell c) ts i) k.cells

-- once all is popped the ballot comes to serve
serves_then : FullRules → (c : Config) (h : List Turn) → IsConfig c → IsRun c h → 1 ≤ length c.begins → (b : ℕ) (shape : Option ShapeContent) → rec_at c h b ≡ None → MayBegin b → IfSome shape IsShape
    → (first : ℕ) (others : List ℕ) → IsMajority c.cells (first ∷ others) → All (λ i. (cell_at c h i).promised ≤ b) (first ∷ others) → All (λ i. (cell_at c h i).written ≤ (cell_at c h first).written) others → HasEachLeft c h first
    → (s : CoordinatedState) (g : LogGeneration) → reading (cell_at c h first).value ≡ Ok s → last_of s.gens ≡ Some g → IsReady c h b g → ServesOn c h b first
serves_then rules c h config run some b shape none may is_shape first others majority low below left s g read last ready =
    elim (rules.returns c h config run b shape none may is_shape first others majority low below left) [
      | inl serves ↦ serves
      | inr fills ↦ absurd (never fills)
    ]
  where
    own : (fills : FillsOn c h b first) (p : Parent) → fills.recoverer.parent ≡ Some p → p.last ≡ g
    own fills p parent =
        let was : IsFound fills.recoverer p.state p.last = rules.read c fills.later fills.goes_on.is_run b fills.recoverer p fills.at parent in
        same_last (cell_at c h first).value s p.state g p.last read (ap (λ (x : Stamped). reading x.value) (sym fills.found) ∙ was.value) last was.last

    full : (fills : FillsOn c h b first) → IsFull fills.recoverer → fills.recoverer.phase ≡ Lost why.TooMany → ⊥
    full fills k lost = never_full rules c h fills.later config some b fills.goes_on fills.recoverer k.parent fills.at k.parent_is (subst (IsReady c h b) (sym (own fills k.parent k.parent_is)) ready) lost

    spent : (fills : FillsOn c h b first) → IsSpent fills.recoverer → fills.recoverer.phase ≡ Lost why.Spent → ⊥
    spent fills k lost = never_spent rules c h fills.later config b fills.goes_on fills.recoverer k.parent fills.at k.parent_is (subst (IsReady c h b) (sym (own fills k.parent k.parent_is)) ready) lost

    never : FillsOn c h b first → ⊥
    never fills = elim fills.room [
      | inl lost ↦ full fills ((has_reason rules.laws.contents.nodes c fills.later fills.goes_on.is_run b fills.recoverer fills.at).many lost) lost
      | inr lost ↦ spent fills ((has_reason rules.laws.contents.nodes c fills.later fills.goes_on.is_run b fills.recoverer fills.at).spent lost) lost
    ]

pub full_is_no_dead_end : FullRules → FullIsNoDeadEnd
full_is_no_dead_end rules c h config run some b shape none may is_shape first others majority low below left room = after (rules.popped c h config run has.generation.epoch make.log make.mark has.generation latest few has.of make.up make.marked)
  where
    has : CellHas c h first
    has = cell_has rules c h config run first

    make : CanMakeRoom c h has.generation
    make = room has.state has.generation has.read has.last

    latest : IsLatest c h has.generation.epoch
    latest = greatest_is_latest rules c h run has.generation.epoch first others
        (marked_is_chosen rules c h config run has.generation.epoch make.log make.mark (ltb-true make.log (logs_at c h has.generation.epoch) make.up.there) (log_at c h has.generation.epoch make.log).pushes refl make.marked)
        has.epoch majority below

    few : AreFewLost c h has.generation.epoch
    few = subst (λ (x : CoordinatedState). All (IsFewLost h) x.gens) has.own (left has.state has.read)

    after : PopsOn c h has.generation → MakesRoomOn c h b first
    after o = record {
      later = o.later;
      goes_on = o.goes_on;
      leaves = o.leaves;
      serves = serves_then rules c o.later config (o.goes_on b).is_run some b shape unbegun may is_shape first others majority
          (All-weaker (λ i. (cell_at c h i).promised ≤ b) (λ i. (cell_at c o.later i).promised ≤ b) (λ i le. subst (λ (x : CellState). x.promised ≤ b) (sym (same_cell c h o.later o.leaves i)) le) (first ∷ others) low)
          (All-weaker (λ i. (cell_at c h i).written ≤ (cell_at c h first).written) (λ i. (cell_at c o.later i).written ≤ (cell_at c o.later first).written)
          (λ i le. (let one = ap (λ (x : CellState). x.written) (same_cell c h o.later o.leaves i) in let top = ap (λ (x : CellState). x.written) (same_cell c h o.later o.leaves first) in omega (arith, le, one, top))) others below)
          (λ s read. All-weaker (IsFewLost h) (IsFewLost o.later) (λ g less. subst (λ xs. log_count g.m xs < g.k) (sym (o.leaves.lost g.epoch)) less) s.gens (left s (ap (λ (x : CellState). reading x.value) (sym (same_cell c h o.later o.leaves first)) ∙ read)))
          has.state has.generation (ap (λ (x : CellState). reading x.value) (same_cell c h o.later o.leaves first) ∙ has.read) has.last ready;
    }
      where
        unbegun : rec_at c o.later b ≡ None
        unbegun = o.leaves.recoverers b ∙ none

        still : IsLatest c o.later has.generation.epoch
        still = left_latest c h o.later o.leaves has.generation.epoch latest

        seeded : IsSeededEpoch c o.later has.generation.epoch
        seeded = rules.seeded c o.later config (o.goes_on b).is_run has.generation.epoch still.chosen

        mine : seeded.generation ≡ has.generation
        mine = (let two : Some seeded.generation ≡ Some has.generation = sym seeded.of ∙ (generation_left c h o.later o.leaves has.generation.epoch ∙ has.of) in cc)

        other : has.generation.epoch ≡ b → ⊥
        other same = no_generation c h b has.generation may none (subst (λ x. generation_at c h x ≡ Some has.generation) same has.of)

        ready : IsReady c o.later b has.generation
        ready = record {
          run = (o.goes_on b).is_run;
          none = unbegun;
          there = λ i l. (let logs = seeded.logs in let m = ap (λ (x : LogGeneration). x.m) mine in omega (arith, l, logs, m));
          popped = o.popped;
          versions = λ i l. (
              let left = durable_left rules.laws.contents.nodes rules.changes rules.accounted c b h o.later (o.goes_on b) has.generation.epoch i other in
              let was = make.versions i l in
              moved (2 ^ 62) (durable_of (log_at c h has.generation.epoch i)) (durable_of (log_at c o.later has.generation.epoch i)) left was);
        }
