-- A storage server that keeps the latest state, and has come to its last generation, has a log of that pop what is before it.
use Rattle.std.proofs.Common.{◌≡◌, ℕ, ◌+◌, ◌-◌, ◌<◌, ◌≤◌, Bool, true, false, cond, not, min, max, ◌==◌, ◌&&◌, ◌||◌, List, [], ◌∷◌, length, Option, None, Some, inl, inr, ◌⊎◌, refl, sym, ◌∙◌, ap, subst, arith}
use Rattle.std.specs.Prelude.{IfSome, is_some, is_none}
use Rattle.std.specs.List.{Contains, list_any}
use Rattle.std.specs.Option.{option_map_or}
use Rattle.std.proofs.lemmas.Bool.{cases_eq, eq-eqb, eqb-true, le-ltb, lt-ltb, ltb-true, true≢false}
use Rattle.std.proofs.lemmas.List.Elements.{All-nil, All-cons}
use Rattle.fr_base.specs.declared.place.NodeId.{NodeId}
use Rattle.fr_base.specs.declared.place.NodeId.TheVariants as node
use Rattle.fr_state.specs.Generations.{LogGeneration, CoordinatedState, last_of}
use Rattle.fr_state.specs.LookUp.{source_of}
use Rattle.fr_tags.specs.Placement.{is_held}
use Rattle.fr_log.specs.Law.{RaisedIs}
use Rattle.fr_log.specs.Left.{popped_of, popped_at, raised}
use Rattle.fr_log.specs.LogState.{LogState, first_of, known_of, holds}
use Rattle.fr_log.specs.Refusal.{pop_refusal}
use Rattle.fr_log.specs.Seed.{SeedContent}
use Rattle.fr_log.specs.Step.{answer_of, answer_unless, next_of, next_unless, popped_to, is_popped_to, with_popped}
use Rattle.fr_log.specs.declared.ask.LogAsk.{LogAsk}
use Rattle.fr_log.specs.declared.ask.LogAsk.TheVariants.{Peek, Pop}
use Rattle.fr_log.specs.declared.ask.LogRefusal.TheVariants.{WrongEpoch, Unseeded, NotMine}
use Rattle.fr_log.specs.declared.ask.LogTell.{LogTell}
use Rattle.fr_log.specs.declared.ask.LogTell.TheVariants.{Peeked, Popped}
use Rattle.fr_log.specs.declared.popped.PoppedTag.{PoppedTag}
use Rattle.fr_ask.specs.declared.tell.Tell.{Tell}
use Rattle.fr_ask.specs.declared.tell.Tell.TheVariants as tell
use Rattle.fr_epoch.specs.DroppingLaws.{IsShownFrom}
use Rattle.fr_storage.specs.declared.fault.StorageFault.{StorageFault}
use Rattle.fr_storage.specs.Position.{PeekedRises, PeekedFloor}
use Rattle.fr_storage.specs.Storage.{StorageState, after_peeked, peeked_fault}
use Rattle.fr_run.specs.Config.{Config}
use Rattle.fr_run.specs.Nodes.{generation_at, logs_at, log_at, storage_hear, storage_at}
use Rattle.fr_run.specs.Run.{IsOwnEpoch, IsUp, IsRun}
use Rattle.fr_run.specs.StateLaws.{IsConfig}
use Rattle.fr_run.specs.States.{state_of, line_of, IsLatest}
use Rattle.fr_run.specs.Turn.{Turn, LogTurn, StorageHeard, Gone, Told}
use Rattle.fr_run.proofs.Cells.{Contains-here, Contains-later, Contains-none, Contains-cases}
use Rattle.fr_run.proofs.Lines.{states_are_views}
use Rattle.fr_run_headline.specs.Bounds.{IsSeedAt}
use Rattle.fr_run_headline.specs.Laws.{Laws}
use Rattle.fr_run_headline.specs.LetGo.{NothingRemovedAboveFloor}
use Rattle.fr_run_headline.specs.SeededLaws.{ChosenIsSeeded}
use Rattle.fr_run_headline.specs.Storages.{IsStorageOf, StoragesFollow}
use Rattle.fr_run_headline.proofs.Known.{logs_know}
use Rattle.fr_run_headline.proofs.Lists.{planned_list}
use Rattle.fr_run_headline.proofs.Named.{IsNamed, log_named}
use Rattle.fr_run_outcomes.specs.Going.{IsOwn, GoesOn, LeavesChosen}
use Rattle.fr_run_outcomes.proofs.Copying.{peeks}
use Rattle.fr_run_outcomes.proofs.Hearing.{no_storage_gone}
use Rattle.fr_run_outcomes.proofs.Later.{push_from}
use Rattle.fr_run_outcomes.proofs.LockAnswers.{some_not_none}
use Rattle.fr_run_outcomes.proofs.Making.{last_there, source_is_last}
use Rattle.fr_run_outcomes.proofs.Popped.{HasPopped}
use Rattle.fr_run_outcomes.proofs.Left.{left_latest, state_kept, not_refused}
use Rattle.fr_run_outcomes.proofs.Pulling.{told_by, asks, hears, log_same, other_same}

-- ---- a pop

-- a log grants the pop of a tag that it holds
granted : (l : LogState) (e tag : ℕ) → l.epoch ≡ e → is_some l.seed ≡ true → holds l tag ≡ true → pop_refusal l e tag ≡ None
granted l e tag own seeded held =
    ap (λ x. cond (not x) (Some WrongEpoch) (cond (is_none l.seed) (Some Unseeded) (cond (not (holds l tag)) (Some NotMine) None))) (eq-eqb e l.epoch (sym own))
    ∙ ap (λ x. cond x (Some Unseeded) (cond (not (holds l tag)) (Some NotMine) None)) (some_not_none l.seed seeded)
    ∙ ap (λ x. cond (not x) (Some NotMine) None) held

-- what is popped of a tag is an entry
entry_of : (ps : List PoppedTag) (tag w v : ℕ) → popped_of ps tag ≡ Some w → v ≤ w → IsShownFrom ps tag v
entry_of [] tag w v e le = absurd (cc)
entry_of (p ∷ ps) tag w v e le = go (p.tag == tag) refl e (entry_of ps tag w v)
  where
    go : (s : Bool) → (p.tag == tag) ≡ s → cond s (Some p.version) (popped_of ps tag) ≡ Some w → (popped_of ps tag ≡ Some w → v ≤ w → IsShownFrom ps tag v) → IsShownFrom (p ∷ ps) tag v
    go true same is rest = (let at : p.version ≡ w = cc in record { entry = p; there = Contains-here p ps; tag_is = eqb-true p.tag tag same; high = omega (arith, at, le) })
    go false other is rest = (let k = rest is le in record { entry = k.entry; there = Contains-later p ps k.entry k.there; tag_is = k.tag_is; high = k.high })

-- after a pop that it grants a log has the tag popped so far
popped_then : RaisedIs → (l : LogState) (e tag through v : ℕ) → pop_refusal l e tag ≡ None → v ≤ popped_to l tag through → IsShownFrom (next_of l (Pop e tag through)).popped tag v
popped_then raises l e tag through v none le =
    subst (λ o. IsShownFrom (next_unless o l (cond (is_popped_to l tag (popped_to l tag through)) l (with_popped l tag (popped_to l tag through)))).popped tag v) (sym none)
    (go (is_popped_to l tag (popped_to l tag through)) refl)
  where
    was : (o : Option ℕ) → popped_of l.popped tag ≡ o → option_map_or (λ x. x == popped_to l tag through) o false ≡ true → IsShownFrom l.popped tag v
    was None at e' = absurd (true≢false (sym e'))
    was (Some x) at e' = (let same = eqb-true x (popped_to l tag through) e' in entry_of l.popped tag x v at (omega (arith, same, le)))

    go : (b : Bool) → is_popped_to l tag (popped_to l tag through) ≡ b → IsShownFrom (cond b l (with_popped l tag (popped_to l tag through))).popped tag v
    go true e' = was (popped_of l.popped tag) refl e'
    go false e' = entry_of (raised l.popped tag (popped_to l tag through)) tag (popped_to l tag through) v (raises l.popped tag (popped_to l tag through)).here le

-- a log knows that the versions before its first are committed
known_low : (l : LogState) → first_of l.seed - 1 ≤ known_of l
known_low l = push_from (first_of l.seed - 1) (first_of l.seed - 1) l.pushes (omega arith)

any_epoch : (gens : List LogGeneration) (g : LogGeneration) → Contains gens g → list_any (λ (x : LogGeneration). x.epoch == g.epoch) gens ≡ true
any_epoch [] g k = absurd (Contains-none k)
any_epoch (x ∷ gens) g k = go (Contains-cases x gens g k) (any_epoch gens g)
  where
    or_true : (b : Bool) → (b || true) ≡ true
    or_true true = refl
    or_true false = refl

    go : (x ≡ g) ⊎ Contains gens g → (Contains gens g → list_any (λ (y : LogGeneration). y.epoch == g.epoch) gens ≡ true) → ((x.epoch == g.epoch) || list_any (λ (y : LogGeneration). y.epoch == g.epoch) gens) ≡ true
    go (inl same) rest = ap (λ b. b || list_any (λ (y : LogGeneration). y.epoch == g.epoch) gens) (eq-eqb x.epoch g.epoch (ap (λ (y : LogGeneration). y.epoch) same))
    go (inr later) rest = ap (λ b. (x.epoch == g.epoch) || b) (rest later) ∙ or_true (x.epoch == g.epoch)

-- ---- the way

-- what holds of the nodes
pub record EmptyRules : Type 0 where
  pub laws : Laws
  pub seeded : ChosenIsSeeded
  pub storages : StoragesFollow
  pub removed : NothingRemovedAboveFloor
  pub rises : PeekedRises
  pub floor : PeekedFloor
  pub raises : RaisedIs

-- a storage server keeps the state of a generation's epoch, and has come to that generation
pub record HasCome (c : Config) (h : List Turn) (g : LogGeneration) (tag : ℕ) : Type 0 where
  pub keeps : (storage_at c h tag).state ≡ state_of c h g.epoch
  pub come : g.first ≤ (storage_at c h tag).store.applied + 1

-- a moment at which each has, and the epoch is the latest
pub record HaveCome (c : Config) (g : LogGeneration) (h : List Turn) : Type 0 where
  pub run : IsRun c h
  pub latest : IsLatest c h g.epoch
  pub of : generation_at c h g.epoch ≡ Some g
  pub each : (tag : ℕ) → tag < length c.begins → HasCome c h g tag

pub record EmptiesSo (c : Config) (g : LogGeneration) (h : List Turn) (test : List Turn → Type 0) : Type 0 where
  pub later : List Turn
  pub goes_on : (b : ℕ) → GoesOn c b h later
  pub leaves : LeavesChosen c h later
  pub come : HaveCome c g later
  pub passes : test later

-- what is so of a log of the generation that holds a tag
record IsHolder (l : LogState) (g : LogGeneration) (tag : ℕ) : Type 0 where
  epoch : l.epoch ≡ g.epoch
  seeded : is_some l.seed ≡ true
  held : holds l tag ≡ true
  starts : first_of l.seed ≡ g.first

is_holder : EmptyRules → (c : Config) (h : List Turn) → IsConfig c → (g : LogGeneration) → HaveCome c g h → (i tag : ℕ) → i < logs_at c h g.epoch → is_held tag g.m g.k i ≡ true → IsHolder (log_at c h g.epoch i) g tag
is_holder rules c h config g k i tag there held = record {
  epoch = name.epoch;
  seeded = seeded;
  held =
      ap (λ m. is_held tag m (log_at c h g.epoch i).k (log_at c h g.epoch i).index) (name.m ∙ ap (λ (x : LogGeneration). x.m) mine)
      ∙ ap (λ n. is_held tag g.m n (log_at c h g.epoch i).index) (name.k ∙ ap (λ (x : LogGeneration). x.k) mine)
      ∙ ap (is_held tag g.m g.k) name.index
      ∙ held;
  starts = go (log_at c h g.epoch i).seed refl seeded;
}
  where
    name : IsNamed c h g.epoch i (log_at c h g.epoch i)
    name = log_named rules.laws.contents.nodes c h k.run g.epoch i there

    mine : name.generation ≡ g
    mine = (let two : Some name.generation ≡ Some g = sym name.of ∙ k.of in cc)

    seeded : is_some (log_at c h g.epoch i).seed ≡ true
    seeded = (rules.seeded c h config k.run g.epoch k.latest.chosen).seeded i there

    go : (o : Option SeedContent) → (log_at c h g.epoch i).seed ≡ o → is_some o ≡ true → first_of (log_at c h g.epoch i).seed ≡ g.first
    go None is some = absurd (true≢false (sym some))
    go (Some s) is some =
        let seed : IsSeedAt c h g.epoch s = subst (λ o. IfSome o (IsSeedAt c h g.epoch)) is (logs_know rules.laws.contents.nodes c h k.run g.epoch i there).seed in
        let two : Some seed.generation ≡ Some g = sym seed.of ∙ k.of in
        let one : seed.generation ≡ g = cc in
        ap first_of is ∙ seed.first ∙ ap (λ (x : LogGeneration). x.first) one

-- ---- a peek

heard_stays : (tag : ℕ) (from : NodeId) (t : Tell) (taken : Option ℕ) (fault : Option StorageFault) (who : NodeId) → StorageHeard tag from t taken fault ≡ Gone who → ⊥
heard_stays tag from t taken fault who e = absurd (cc)

asked_stays : (from : NodeId) (e i : ℕ) (a : LogAsk) (t : LogTell) (who : NodeId) → LogTurn from e i a t ≡ Gone who → ⊥
asked_stays from e i a t who d = absurd (cc)

abbrev twice : Config → List Turn → ℕ → ℕ → ℕ → List Turn
twice c h e i tag = hears c h e i tag ∷ asks c h e i tag ∷ h

-- nothing is lost in them
never_gone : (c : Config) (h : List Turn) (e i tag : ℕ) (who : NodeId) → (Contains h (Gone who) → ⊥) → Contains (twice c h e i tag) (Gone who) → ⊥
never_gone c h e i tag who up gone = elim (Contains-cases (hears c h e i tag) (asks c h e i tag ∷ h) (Gone who) gone) [
  | inl now ↦ heard_stays tag (node.Log e i) (tell.Log (Peeked (told_by c h e i tag))) None (peeked_fault (storage_at c h tag) e (told_by c h e i tag)) who now
  | inr before ↦ elim (Contains-cases (asks c h e i tag) h (Gone who) before) [
    | inl now ↦ asked_stays (node.Storage tag) e i (Peek e tag (storage_at c h tag).store.applied 100) (Peeked (told_by c h e i tag)) who now
    | inr old ↦ up old
  ]
]

-- a storage server once it heard a log of its last generation
record HasPeeked (c : Config) (h : List Turn) (g : LogGeneration) (i tag : ℕ) : Type 0 where
  run : IsRun c (twice c h g.epoch i tag)
  state : (storage_at c (twice c h g.epoch i tag) tag).state ≡ (storage_at c h tag).state
  applied : (storage_at c h tag).store.applied ≤ (storage_at c (twice c h g.epoch i tag) tag).store.applied
  floor : g.first - 1 ≤ (storage_at c (twice c h g.epoch i tag) tag).store.floor

-- the last generation of the latest state is its epoch's own
last_own : EmptyRules → (c : Config) (h : List Turn) → IsConfig c → (g : LogGeneration) → HaveCome c g h → last_of (state_of c h g.epoch).gens ≡ Some g
last_own rules c h config g k =
    let list = planned_list rules.laws.contents.nodes c h config k.run g.epoch g k.of in
    let view = states_are_views rules.laws.contents.nodes c h config k.run g.epoch g k.of in
    ap last_of view.is ∙ rules.laws.stores.drop_last (line_of c h g.epoch) (state_of c h g.epoch).dropped view.short ∙ list.last

peek_one : EmptyRules → (c : Config) (h : List Turn) → IsConfig c → (g : LogGeneration) → HaveCome c g h → (i tag : ℕ) → tag < length c.begins → IsUp c h (node.Log g.epoch i) → is_held tag g.m g.k i ≡ true → HasPeeked c h g i tag
peek_one rules c h config g k i tag inside up held = record {
  run = whole;
  state = ap (λ (s : StorageState). s.state) now ∙ state_kept (storage_at c h tag) g.epoch (told_by c h g.epoch i tag);
  applied = (let high = rules.rises (storage_at c h tag) g.epoch (told_by c h g.epoch i tag) in let is = ap (λ (s : StorageState). s.store.applied) now in omega (arith, high, is));
  floor = floor;
}
  where
    there : i < logs_at c h g.epoch
    there = ltb-true i (logs_at c h g.epoch) up.there

    holder : IsHolder (log_at c h g.epoch i) g tag
    holder = is_holder rules c h config g k i tag there held

    server : IsStorageOf c h tag (storage_at c h tag)
    server = rules.storages c h config k.run tag

    has : HasCome c h g tag
    has = k.each tag inside

    last : last_of (storage_at c h tag).state.gens ≡ Some g
    last = ap (λ (s : CoordinatedState). last_of s.gens) has.keeps ∙ last_own rules c h config g k

    source : source_of (storage_at c h tag).state.gens ((storage_at c h tag).store.applied + 1) ≡ Some g
    source = source_is_last rules.laws.stores.source rules.laws.stores.last_open (storage_at c h tag).state.gens g ((storage_at c h tag).store.applied + 1) server.follows.state.ordered server.follows.state.limits last has.come

    none : peeked_fault (storage_at c h tag) g.epoch (told_by c h g.epoch i tag) ≡ None
    none = not_refused (storage_at c h tag) g (told_by c h g.epoch i tag) source refl

    tells : answer_of (log_at c h g.epoch i) (Peek g.epoch tag (storage_at c h tag).store.applied 100) ≡ Peeked (told_by c h g.epoch i tag)
    tells = peeks (log_at c h g.epoch i) g.epoch tag (storage_at c h tag).store.applied 100 holder.epoch holder.seeded holder.held (let first = holder.starts in let come = has.come in omega (arith, first, come)) false
        (le-ltb (storage_at c h tag).store.applied (popped_at (log_at c h g.epoch i).popped tag)
        (let low = rules.removed c h config k.run g.epoch i tag there in let floor = server.follows.store.floor in omega (arith, low, floor)))

    asking : IsRun c (asks c h g.epoch i tag ∷ h)
    asking = ((up, inr (refl, inside), sym tells, omega arith), k.run)

    told : Told (asks c h g.epoch i tag ∷ h) (node.Log g.epoch i) (node.Storage tag) (tell.Log (Peeked (told_by c h g.epoch i tag)))
    told = inl (refl, refl, refl)

    whole : IsRun c (twice c h g.epoch i tag)
    whole = ((record { actor = record { there = lt-ltb tag (length c.begins) inside; up = no_storage_gone c (asks c h g.epoch i tag ∷ h) asking tag }; told = told }, refl, tt), asking)

    now : storage_at c (twice c h g.epoch i tag) tag ≡ after_peeked (storage_at c h tag) g.epoch (told_by c h g.epoch i tag)
    now = ap (λ y. cond y (storage_hear None (storage_at c h tag) (node.Log g.epoch i) (tell.Log (Peeked (told_by c h g.epoch i tag)))) (storage_at c h tag)) (eq-eqb tag tag refl)

    floor : g.first - 1 ≤ (storage_at c (twice c h g.epoch i tag) tag).store.floor
    floor =
        let is : (storage_at c (twice c h g.epoch i tag) tag).store.floor
        ≡ max (storage_at c h tag).store.floor (min (known_of (log_at c h g.epoch i)) (after_peeked (storage_at c h tag) g.epoch (told_by c h g.epoch i tag)).store.applied)
        = ap (λ (s : StorageState). s.store.floor) now ∙ rules.floor (storage_at c h tag) g.epoch (told_by c h g.epoch i tag) none in
        let high = rules.rises (storage_at c h tag) g.epoch (told_by c h g.epoch i tag) in
        let known = known_low (log_at c h g.epoch i) in
        let first = holder.starts in
        let come = has.come in
        omega (arith, is, high, known, first, come)

-- ---- a peek and a pop

abbrev pops : Config → List Turn → ℕ → ℕ → ℕ → Turn
pops c h e i tag = LogTurn (node.Storage tag) e i (Pop e tag (storage_at c h tag).store.floor) (Popped (popped_to (log_at c h e i) tag (storage_at c h tag).store.floor))

pub pop_one : EmptyRules → (c : Config) (h : List Turn) → IsConfig c → (g : LogGeneration) → HaveCome c g h → (i tag : ℕ) → tag < length c.begins → IsUp c h (node.Log g.epoch i) → is_held tag g.m g.k i ≡ true
    → EmptiesSo c g h (λ later. HasPopped c later g.epoch i tag (g.first - 1))
pop_one rules c h config g k i tag inside up held = record {
  later = pops c (twice c h g.epoch i tag) g.epoch i tag ∷ twice c h g.epoch i tag;
  goes_on = λ b. record {
    more = pops c (twice c h g.epoch i tag) g.epoch i tag ∷ hears c h g.epoch i tag ∷ asks c h g.epoch i tag ∷ [];
    is = refl;
    is_run = whole;
    own = All-cons (IsOwn b) (pops c (twice c h g.epoch i tag) g.epoch i tag) (hears c h g.epoch i tag ∷ asks c h g.epoch i tag ∷ []) tt
        (All-cons (IsOwn b) (hears c h g.epoch i tag) (asks c h g.epoch i tag ∷ []) refl (All-cons (IsOwn b) (asks c h g.epoch i tag) [] tt (All-nil (IsOwn b))));
    low = λ j le. le;
  };
  leaves = leaves;
  come = record {
    run = whole;
    latest = left_latest c h (pops c (twice c h g.epoch i tag) g.epoch i tag ∷ twice c h g.epoch i tag) leaves g.epoch k.latest;
    of = k.of;
    each = each;
  };
  passes = record { there = there; popped = subst (λ (l : LogState). IsShownFrom l.popped tag (g.first - 1)) (sym is) done };
}
  where
    there : i < logs_at c h g.epoch
    there = ltb-true i (logs_at c h g.epoch) up.there

    holder : IsHolder (log_at c h g.epoch i) g tag
    holder = is_holder rules c h config g k i tag there held

    peeked : HasPeeked c h g i tag
    peeked = peek_one rules c h config g k i tag inside up held

    same : log_at c (twice c h g.epoch i tag) g.epoch i ≡ log_at c h g.epoch i
    same = log_same c h g.epoch i tag g.epoch i

    free : pop_refusal (log_at c (twice c h g.epoch i tag) g.epoch i) g.epoch tag ≡ None
    free = ap (λ l. pop_refusal l g.epoch tag) same ∙ granted (log_at c h g.epoch i) g.epoch tag holder.epoch holder.seeded holder.held

    tells : answer_of (log_at c (twice c h g.epoch i tag) g.epoch i) (Pop g.epoch tag (storage_at c (twice c h g.epoch i tag) tag).store.floor)
        ≡ Popped (popped_to (log_at c (twice c h g.epoch i tag) g.epoch i) tag (storage_at c (twice c h g.epoch i tag) tag).store.floor)
    tells = ap (λ o. answer_unless o (Popped (popped_to (log_at c (twice c h g.epoch i tag) g.epoch i) tag (storage_at c (twice c h g.epoch i tag) tag).store.floor))) free

    mine : IsOwnEpoch (storage_at c (twice c h g.epoch i tag) tag) g.epoch
    mine = any_epoch (storage_at c (twice c h g.epoch i tag) tag).state.gens g
        (last_there (storage_at c (twice c h g.epoch i tag) tag).state.gens g (ap (λ (s : CoordinatedState). last_of s.gens) (peeked.state ∙ (k.each tag inside).keeps) ∙ last_own rules c h config g k))

    still_up : IsUp c (twice c h g.epoch i tag) (node.Log g.epoch i)
    still_up = record { there = up.there; up = never_gone c h g.epoch i tag (node.Log g.epoch i) up.up }

    whole : IsRun c (pops c (twice c h g.epoch i tag) g.epoch i tag ∷ twice c h g.epoch i tag)
    whole = ((still_up, inr (refl, inside, mine, omega arith), sym tells, tt), peeked.run)

    leaves : LeavesChosen c h (pops c (twice c h g.epoch i tag) g.epoch i tag ∷ twice c h g.epoch i tag)
    leaves = record { cells = refl; recoverers = λ b. refl; lost = λ b. refl }

    is : log_at c (pops c (twice c h g.epoch i tag) g.epoch i tag ∷ twice c h g.epoch i tag) g.epoch i
        ≡ next_of (log_at c (twice c h g.epoch i tag) g.epoch i) (Pop g.epoch tag (storage_at c (twice c h g.epoch i tag) tag).store.floor)
    is =
        ap (λ x. cond (x && (i == i)) (next_of (log_at c (twice c h g.epoch i tag) g.epoch i) (Pop g.epoch tag (storage_at c (twice c h g.epoch i tag) tag).store.floor)) (log_at c (twice c h g.epoch i tag) g.epoch i)) (eq-eqb g.epoch g.epoch refl)
        ∙ ap (λ x. cond x (next_of (log_at c (twice c h g.epoch i tag) g.epoch i) (Pop g.epoch tag (storage_at c (twice c h g.epoch i tag) tag).store.floor)) (log_at c (twice c h g.epoch i tag) g.epoch i)) (eq-eqb i i refl)

    far : g.first - 1 ≤ popped_to (log_at c (twice c h g.epoch i tag) g.epoch i) tag (storage_at c (twice c h g.epoch i tag) tag).store.floor
    far =
        let floor = peeked.floor in
        let known = known_low (log_at c h g.epoch i) in
        let first = holder.starts in
        let log : known_of (log_at c (twice c h g.epoch i tag) g.epoch i) ≡ known_of (log_at c h g.epoch i) = ap known_of same in
        omega (arith, floor, known, first, log)

    done : IsShownFrom (next_of (log_at c (twice c h g.epoch i tag) g.epoch i) (Pop g.epoch tag (storage_at c (twice c h g.epoch i tag) tag).store.floor)).popped tag (g.first - 1)
    done = popped_then rules.raises (log_at c (twice c h g.epoch i tag) g.epoch i) g.epoch tag (storage_at c (twice c h g.epoch i tag) tag).store.floor (g.first - 1) free far

    each : (u : ℕ) → u < length c.begins → HasCome c (pops c (twice c h g.epoch i tag) g.epoch i tag ∷ twice c h g.epoch i tag) g u
    each u below = elim (cases_eq u tag) [
      | inl own ↦ subst (HasCome c (pops c (twice c h g.epoch i tag) g.epoch i tag ∷ twice c h g.epoch i tag) g) (sym own) (record {
        keeps = peeked.state ∙ (k.each tag inside).keeps;
        come = (let was = (k.each tag inside).come in let high = peeked.applied in omega (arith, was, high));
      })
      | inr other ↦ (
          let left : storage_at c (twice c h g.epoch i tag) u ≡ storage_at c h u = other_same c h g.epoch i tag u other in
          let applied = ap (λ (s : StorageState). s.store.applied) left in
          let was = (k.each u below).come in
          record { keeps = ap (λ (s : StorageState). s.state) left ∙ (k.each u below).keeps; come = omega (arith, was, applied) })
    ]
