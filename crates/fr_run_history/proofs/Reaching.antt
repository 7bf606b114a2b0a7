-- The abstract machine catches up with a moment of a run: it appends what was committed since, and storage servers settle it.
use Rattle.std.proofs.Common.{◌≡◌, ℕ, ◌≤◌, min, map, List, [], ◌∷◌, ◌++◌, Option, None, Some, inl, inr, refl, sym, ◌∙◌, ap, subst, arith}
use Rattle.std.specs.Prelude.{IfSome, unwrap_or}
use Rattle.std.specs.List.{Contains, filter_map, cons_option}
use Rattle.std.specs.Option.{option_map}
use Rattle.std.proofs.lemmas.Bool.{cases_lt}
use Rattle.std.proofs.lemmas.List.{map-append}
use Rattle.std.proofs.lemmas.List.Elements.{filter_map-append, Contains-append_cases, Contains-append_left, Contains-append_right}
use Rattle.fr_mutation.specs.declared.mutation.Mutation.{Mutation}
use Rattle.fr_undo.specs.Canonical.{Commit, Rises}
use Rattle.fr_state.specs.Generations.{LogGeneration}
use Rattle.fr_state.specs.LookUp.{cut_of}
use Rattle.fr_storage.specs.Storage.{own_epoch}
use Rattle.fr_run.specs.Config.{Config}
use Rattle.fr_run.specs.Turn.{Turn}
use Rattle.fr_run.specs.Nodes.{generation_at, storage_at}
use Rattle.fr_run.specs.Run.{IsRun}
use Rattle.fr_run.specs.States.{line_of, IsChosenEpoch, IsLatest}
use Rattle.fr_run.specs.StateLaws.{IsConfig}
use Rattle.fr_run.proofs.Cells.{Contains-none, Contains-cases, Contains-here, Contains-later}
use Rattle.fr_run.proofs.Chosen.{chosen_is_planned}
use Rattle.fr_run_headline.specs.Numbers.{Numbering, numbers, top_at}
use Rattle.fr_run_headline.specs.BoundLaws.{NumbersAreCounted}
use Rattle.fr_run_headline.specs.Issued.{Entry, issued, least_durable, committed}
use Rattle.fr_run_headline.specs.Committed.{commit_in, commit_at, LatestIsThere}
use Rattle.fr_run_headline.specs.Laws.{Laws}
use Rattle.fr_run_headline.proofs.VersionLists.{RiseIn, between, through, rise_through, rise_between, through_on, through_twice}
use Rattle.fr_run_headline.proofs.IssuedLists.{version_of}
use Rattle.fr_run_headline.proofs.Parts.{issued_rises}
use Rattle.fr_run_headline.proofs.Durables.{IsCommittedThrough, below_is_committed, least_is_below, least_is_numbered}
use Rattle.fr_run_headline.proofs.Later.{run_before, still_chosen, still_below, issued_still}
use Rattle.fr_run_headline.proofs.Numbers.{numbers_stay}
use Rattle.fr_run_headline.proofs.Proxies.{batch_stays}
use Rattle.fr_run_outcomes.specs.Once.{RequestHasOneNumber, IsNumberOf, IsOfRequest, CommittedWasSubmitted}
use Rattle.fr_run_outcomes.specs.Snapshots.{IsSettledAt, FloorIsSettled, SettledStays}
use Rattle.fr_run_history.specs.Machine.{Name, Item, Machine, start, AreNew, IsStep, Appends, Settles}
use Rattle.fr_run_history.specs.Refines.{name_at, settled_through, IsItemOf, Shows}
use Rattle.fr_run_history.proofs.Items.{commit_of, commits_rise, item_within}
use Rattle.fr_run_history.proofs.Names.{taken, taken_has, request_low}

-- the laws on which this rests
pub record Rules : Type 0 where
  pub laws : Laws
  pub latest : LatestIsThere
  pub counted : NumbersAreCounted
  pub number : RequestHasOneNumber
  pub submitted : CommittedWasSubmitted
  pub floor : FloorIsSettled
  pub stays : SettledStays

-- ---- how far a storage server is settled

pub settled_is : FloorIsSettled → (c : Config) (h : List Turn) → IsConfig c → IsRun c h → (latest : ℕ) → IsLatest c h latest → (tag : ℕ) → IsSettledAt c h latest tag (settled_through c h latest tag)
settled_is law c h config run latest is tag = record {
  floor = floor (cut_of (line_of c h latest) own) low.uncut;
  applied = omega arith;
  committed = omega arith;
  uncut = uncut (cut_of (line_of c h latest) own);
}
  where
    own : ℕ
    own = own_epoch (storage_at c h tag).state

    applied : ℕ
    applied = (storage_at c h tag).store.applied

    last : ℕ
    last = least_durable c h latest

    low : IsSettledAt c h latest tag (storage_at c h tag).store.floor
    low = law c h config run latest is tag

    floor : (o : Option ℕ) → IfSome o (λ cut. (storage_at c h tag).store.floor ≤ cut) → (storage_at c h tag).store.floor ≤ min applied (min last (unwrap_or o last))
    floor None k = (let a = low.applied in let b = low.committed in omega (arith, a, b))
    floor (Some cut) k = (let a = low.applied in let b = low.committed in omega (arith, a, b, k))

    uncut : (o : Option ℕ) → IfSome o (λ cut. min applied (min last (unwrap_or o last)) ≤ cut)
    uncut None = tt
    uncut (Some cut) = omega arith

pub settled_within : (c : Config) (h : List Turn) (latest tag v : ℕ) → IsSettledAt c h latest tag v → v ≤ settled_through c h latest tag
settled_within c h latest tag v k = go (cut_of (line_of c h latest) (own_epoch (storage_at c h tag).state)) k.uncut
  where
    go : (o : Option ℕ) → IfSome o (λ cut. v ≤ cut) → v ≤ min (storage_at c h tag).store.applied (min (least_durable c h latest) (unwrap_or o (least_durable c h latest)))
    go None k' = (let a = k.applied in let b = k.committed in omega (arith, a, b))
    go (Some cut) k' = (let a = k.applied in let b = k.committed in omega (arith, a, b, k'))

settled_rises : Rules → (c : Config) (t : Turn) (h : List Turn) → IsConfig c → IsRun c (t ∷ h) → (latest later : ℕ) → IsLatest c h latest → IsLatest c (t ∷ h) later → (tag : ℕ) → settled_through c h latest tag ≤ settled_through c (t ∷ h) later tag
settled_rises rules c t h config run latest later is now tag = elim (cases_lt (settled_through c h latest tag) (storage_at c (t ∷ h) tag).store.floor) [
  | inl below ↦ (
      let k = settled_within c (t ∷ h) later tag (storage_at c (t ∷ h) tag).store.floor (rules.floor c (t ∷ h) config run later now tag) in
      omega (arith, below, k))
  | inr above ↦
      settled_within c (t ∷ h) later tag (settled_through c h latest tag)
      (rules.stays c h (t ∷ []) config run latest later is now tag (settled_through c h latest tag) (settled_is rules.floor c h config run.1 latest is tag) above)
]

-- ---- what was committed since

-- the committed list of a moment rises
pub list_rises : Laws → (c : Config) (h : List Turn) → IsConfig c → IsRun c h → (latest : ℕ) → IsLatest c h latest → RiseIn version_of 0 (committed c h latest) (least_durable c h latest)
list_rises laws c h config run latest is =
    let g = chosen_is_planned laws.contents.nodes c h run latest is.chosen in
    rise_through version_of 0 (top_at c h latest) (least_durable c h latest) (issued c h latest) (issued_rises laws.contents.nodes c h config run latest g.0 g.1) (omega arith)

-- a later one begins with it, and goes on above the version through which it went
record Grown (c : Config) (h w : List Turn) (latest later : ℕ) : Type 0 where
  rest : List Entry
  is : committed c h latest ++ rest ≡ committed c w later
  rises : RiseIn version_of (least_durable c h latest) rest (least_durable c w later)

grown : Laws → (c : Config) (more h : List Turn) → IsConfig c → IsRun c (more ++ h) → (latest later : ℕ) → IsLatest c h latest → IsLatest c (more ++ h) later → Grown c h (more ++ h) latest later
grown laws c more h config run latest now is new = record {
  rest = between version_of low high all;
  is = ap (λ xs. xs ++ between version_of low high all) front ∙ through_on version_of 0 (top_at c w now) low high all sorted through_later.within;
  rises = rise_between version_of 0 (top_at c w now) low high all sorted through_later.within;
}
  where
    w : List Turn
    w = more ++ h

    before : IsRun c h
    before = run_before c more h run

    low : ℕ
    low = least_durable c h latest

    high : ℕ
    high = least_durable c (more ++ h) now

    all : List Entry
    all = issued c (more ++ h) now

    g : (g : LogGeneration) × (generation_at c h latest ≡ Some g)
    g = chosen_is_planned laws.contents.nodes c h before latest is.chosen

    g' : (g : LogGeneration) × (generation_at c (more ++ h) now ≡ Some g)
    g' = chosen_is_planned laws.contents.nodes c (more ++ h) run now new.chosen

    sorted : RiseIn version_of 0 (issued c (more ++ h) now) (top_at c (more ++ h) now)
    sorted = issued_rises laws.contents.nodes c (more ++ h) config run now g'.0 g'.1

    still : IsChosenEpoch c (more ++ h) latest
    still = still_chosen laws c more h config run latest is.chosen

    through_later : IsCommittedThrough c (more ++ h) latest now (least_durable c h latest)
    through_later = below_is_committed laws c (more ++ h) config run latest now still new.chosen (new.greatest latest still) low (still_below laws c more h run latest low (least_is_below laws c h config before latest g.0 is.chosen g.1))

    front : committed c h latest ≡ through version_of low all
    front =
        sym (issued_still laws c more h config run latest g.0 g.1 low (least_is_numbered laws c h config before latest g.0 is.chosen g.1))
        ∙ through_later.same
        ∙ through_twice version_of low high all through_later.within

-- ---- items of entries

record HasItems (c : Config) (w : List Turn) (latest : ℕ) (xs : List Entry) : Type 0 where
  items : List Item
  list : map commit_of items ≡ filter_map commit_in xs
  each : (i : Item) → Contains items i → IsItemOf c w latest i

items_of : CommittedWasSubmitted → (c : Config) (w : List Turn) → IsConfig c → IsRun c w → (latest : ℕ) → IsLatest c w latest → (xs : List Entry) → ((x : Entry) → Contains xs x → Contains (committed c w latest) x) → HasItems c w latest xs
items_of law c w config run latest is [] all = record { items = []; list = refl; each = λ i k. absurd (Contains-none k) }
items_of law c w config run latest is (x ∷ xs) all = go x.batch refl (items_of law c w config run latest is xs (λ y k. all y (Contains-later x xs y k)))
  where
    there : Contains (committed c w latest) x
    there = all x (Contains-here x xs)

    go : (o : Option (List Mutation)) → x.batch ≡ o → HasItems c w latest xs → HasItems c w latest (x ∷ xs)
    go None at rest = record {
      items = rest.items;
      list = rest.list ∙ ap (λ (o : Option (List Mutation)). cons_option (option_map (λ (batch : List Mutation). (x.version, batch)) o) (filter_map commit_in xs)) (sym at);
      each = rest.each;
    }
    go (Some batch) at rest =
        let r : IsOfRequest w x batch = law c w config run latest is x batch there at in
        let one : Item = record { version = x.version; name = name_at x.origin r.proxy r.request; batch = batch } in
        let same : x ≡ commit_at x.origin x.version batch = (λ i. record { version = x.version; origin = x.origin; batch = at i }) in
        let listed : Contains (committed c w latest) (commit_at x.origin x.version batch) = subst (Contains (committed c w latest)) same there in
        let mine : IsItemOf c w latest one = record { number = r.entry.number; of = r.entry.of; version = ap (λ (y : Entry). y.version) r.entry.is; batch = r.taken; listed = listed } in
        record {
          items = one ∷ rest.items;
          list = ap (λ (cs : List Commit). (x.version, batch) ∷ cs) rest.list
              ∙ ap (λ (o : Option (List Mutation)). cons_option (option_map (λ (b : List Mutation). (x.version, b)) o) (filter_map commit_in xs)) (sym at);
          each = λ i k. elim (Contains-cases one rest.items i k) [ inl here ↦ subst (IsItemOf c w latest) here mine | inr later ↦ rest.each i later ];
        }

-- ---- catching up

-- a machine whose list is a front of the committed list of a moment, to which the batches that were submitted by then are submitted
pub record Reaches (c : Config) (w : List Turn) (a : Machine) : Type 0 where
  pub latest : ℕ
  pub is_latest : IsLatest c w latest
  pub front : List Entry
  pub rest : List Entry
  pub are : front ++ rest ≡ committed c w latest
  pub low : RiseIn version_of 0 front a.final
  pub high : RiseIn version_of a.final rest (least_durable c w latest)
  pub list : map commit_of a.list ≡ filter_map commit_in front
  pub items : (i : Item) → Contains a.list i → IsItemOf c w latest i
  pub submitted : a.submitted ≡ taken w
  pub settled : (tag : ℕ) → a.settled tag ≤ settled_through c w latest tag

-- two items of one name have one version
one_version : RequestHasOneNumber → (c : Config) (w : List Turn) → IsRun c w → (latest : ℕ) (i j : Item) → IsItemOf c w latest i → IsItemOf c w latest j → j.name ≡ i.name → j.version ≡ i.version
one_version law c w run latest i j k l same =
    let of : IsNumberOf w i.name.epoch i.name.proxy i.name.request l.number = subst (λ (n : Name). IsNumberOf w n.epoch n.proxy n.request l.number) same l.of in
    let one : l.number ≡ k.number = law c w run i.name.epoch i.name.proxy i.name.request l.number k.number of k.of in
    sym l.version ∙ ap (λ (n : Numbering). n.version) one ∙ k.version

are_new : Rules → (c : Config) (w : List Turn) → IsRun c w → (a : Machine) → (r : Reaches c w a) → (high low : ℕ) (items : List Item) → a.final ≤ low → Rises low (map commit_of items) high
    → ((i : Item) → Contains items i → IsItemOf c w r.latest i) → AreNew a low items high
are_new rules c w run a r high low [] le k each = k
are_new rules c w run a r high low (i ∷ items) le (lt, k) each = (
  lt,
  has,
  absent,
  are_new rules c w run a r high i.version items (omega (arith, le, lt)) k (λ j there. each j (Contains-later i items j there)),
)
  where
    mine : IsItemOf c w r.latest i
    mine = each i (Contains-here i items)

    has : Contains a.submitted (i.name, i.batch)
    has =
        let one = request_low rules.laws.contents.nodes rules.counted c w run i.name.epoch mine.number mine.of.given in
        let asked = mine.of.asked in
        subst (λ ws. Contains ws (i.name, i.batch)) (sym r.submitted) (taken_has w i.name.epoch i.name.proxy i.name.request i.batch (omega (arith, one, asked)) mine.batch)

    old : Rises 0 (map commit_of a.list) a.final
    old = subst (λ (cs : List Commit). Rises 0 cs a.final) (sym r.list) (commits_rise 0 a.final r.front r.low)

    absent : (j : Item) → Contains (a.list ++ items) j → j.name ≡ i.name → ⊥
    absent j there same = elim (Contains-append_cases a.list items j there) [
      | inl before ↦ (
          let at = one_version rules.number c w run r.latest i j mine (r.items j before) same in
          let top = (item_within 0 a.final a.list old j before).1 in
          omega (arith, at, top, le, lt))
      | inr later ↦ (
          let at = one_version rules.number c w run r.latest i j mine (each j (Contains-later i items j later)) same in
          let above = (item_within i.version high items k j later).0 in
          omega (arith, at, above))
    ]

pub record CaughtUp (c : Config) (w : List Turn) (a : Machine) : Type 0 where
  pub middle : Machine
  pub machine : Machine
  pub appends : IsStep a None middle
  pub settles : IsStep middle None machine
  pub shows : Shows c w machine
  pub submitted : machine.submitted ≡ taken w

pub catch_up : Rules → (c : Config) (w : List Turn) → IsConfig c → IsRun c w → (a : Machine) → Reaches c w a → CaughtUp c w a
catch_up rules c w config run a r = record {
  middle = middle;
  machine = record middle { settled = λ tag. settled_through c w r.latest tag };
  appends = Appends new.items last (are_new rules c w run a r last a.final new.items (omega arith) rising new.each);
  settles = Settles (λ tag. settled_through c w r.latest tag) r.settled (λ tag. omega arith);
  shows = record {
    latest = r.latest;
    is_latest = r.is_latest;
    list = map-append commit_of a.list new.items ∙ (λ i. r.list i ++ new.list i) ∙ sym (filter_map-append commit_in r.front r.rest) ∙ ap (filter_map commit_in) r.are;
    items = λ i there. elim (Contains-append_cases a.list new.items i there) [ inl before ↦ r.items i before | inr later ↦ new.each i later ];
    final = refl;
    settled = λ tag. refl;
  };
  submitted = r.submitted;
}
  where
    last : ℕ
    last = least_durable c w r.latest

    new : HasItems c w r.latest r.rest
    new = items_of rules.submitted c w config run r.latest r.is_latest r.rest (λ x k. subst (λ xs. Contains xs x) r.are (Contains-append_right r.front r.rest x k))

    middle : Machine
    middle = record a { list = a.list ++ new.items; final = last }

    rising : Rises a.final (map commit_of new.items) last
    rising = subst (λ (cs : List Commit). Rises a.final cs last) (sym new.list) (commits_rise a.final last r.rest r.high)

-- ---- moments

-- at the start
pub start_reaches : Rules → (c : Config) → IsConfig c → Reaches c [] start
start_reaches rules c config =
    let is = rules.latest c [] tt in
    record {
      latest = is.0;
      is_latest = is.1;
      front = [];
      rest = committed c [] is.0;
      are = refl;
      low = omega arith;
      high = list_rises rules.laws c [] config tt is.0 is.1;
      list = refl;
      items = λ i k. absurd (Contains-none k);
      submitted = refl;
      settled = λ tag. omega arith;
    }

-- after a turn
item_later : (c : Config) (t : Turn) (h : List Turn) (latest later : ℕ) → ((x : Entry) → Contains (committed c h latest) x → Contains (committed c (t ∷ h) later) x) → (i : Item) → IsItemOf c h latest i → IsItemOf c (t ∷ h) later i
item_later c t h latest later keeps i k = record {
  number = k.number;
  of = record { given = numbers_stay t i.name.epoch (numbers h i.name.epoch) k.number k.of.given; by = k.of.by; asked = k.of.asked };
  version = k.version;
  batch = batch_stays t h i.name.epoch i.name.proxy i.name.request i.batch k.batch;
  listed = keeps (commit_at i.name.epoch i.version i.batch) k.listed;
}

pub reaches_next : Rules → (c : Config) (t : Turn) (h : List Turn) → IsConfig c → IsRun c (t ∷ h) → (a : Machine) → Shows c h a → a.submitted ≡ taken (t ∷ h) → Reaches c (t ∷ h) a
reaches_next rules c t h config run a s submitted =
    let now = rules.latest c (t ∷ h) run in
    let g = grown rules.laws c (t ∷ []) h config run s.latest now.0 s.is_latest now.1 in
    record {
      latest = now.0;
      is_latest = now.1;
      front = committed c h s.latest;
      rest = g.rest;
      are = g.is;
      low = subst (RiseIn version_of 0 (committed c h s.latest)) (sym s.final) (list_rises rules.laws c h config run.1 s.latest s.is_latest);
      high = subst (λ v. RiseIn version_of v g.rest (least_durable c (t ∷ h) now.0)) (sym s.final) g.rises;
      list = s.list;
      items = λ i k. item_later c t h s.latest now.0 (λ x l. subst (λ xs. Contains xs x) g.is (Contains-append_left (committed c h s.latest) g.rest x l)) i (s.items i k);
      submitted = submitted;
      settled = λ tag. (
          let at = s.settled tag in
          let le = settled_rises rules c t h config run s.latest now.0 s.is_latest now.1 tag in
          omega (arith, at, le));
    }
