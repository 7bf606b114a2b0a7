-- Ends, cuts, sources and owners.
use Rattle.std.proofs.Common.{◌≡◌, ℕ, ◌-◌, ◌<◌, ◌≤◌, Bool, false, ltb, leb, List, [], ◌∷◌, ◌++◌, Option, Some, None, refl, sym, ap, subst, ◌∙◌, append_assoc, inl, inr, arith}
use Rattle.std.specs.Prelude.{slice_get, find, reverse, ◌⊎◌, ◌≢◌, ◌↔◌, All, Contains, IsSome, IfSome}
use Rattle.std.specs.List.{AllByRecursion}
use Rattle.std.specs.Option.{option_map, option_or}
use Rattle.std.proofs.lemmas.Bool.{leb-true, leb-false, le-leb, lt-leb, ltb-true, ltb-false, lt-ltb, le-ltb}
use Rattle.std.proofs.lemmas.List.Elements.{All-from_recursion, recursion_from_All, All-contains}
use Rattle.fr_state.specs.Generations.{LogGeneration, IsGeneration, AreOrdered, last_of}
use Rattle.fr_state.specs.LookUp.{next_of, end_of, cut_of, source_of, owner_of}
use Rattle.fr_state.specs.Laws.{HasNext, LastIsThere, LastIsWithin, LastOrNext, IsSource, IsOwner, NextTells, LastIsOpen, EarlierIsClosed, AbsentIsOpen, CutIsAtLeastSeed, EndIsAtMostCut, CutIsAtMostLast, FrontKeepsEnd, FrontKeepsCut, FrontKeepsSource, FrontKeepsOwner}
use Rattle.fr_state.proofs.OrderLemmas.{last_of_push}
use Rattle.fr_state.proofs.LastLemmas.{last-append, none_from_fails, fails_from_none, last_from_split, split_from_last}
use Rattle.fr_state.proofs.ListLemmas.{Parts, AreOrdered-back, all_later, parts_of, Contains-parts, front_of, next_of-parts, next_of-absent, next_of-has, next_of-append}

abbrev first_less : LogGeneration → ℕ
first_less next = next.first - 1

abbrev seed : LogGeneration → ℕ
seed next = next.seeded_to

-- what a value told of the generation that stands after one is of
mapped : (f : LogGeneration → ℕ) (o : Option LogGeneration) (n : ℕ) → option_map f o ≡ Some n → (next : LogGeneration) × (o ≡ Some next) × (f next ≡ n)
mapped f None n e = absurd cc
mapped f (Some next) n e = (next, refl, cc)

-- ---- ends and cuts

pub next_tells : NextTells
next_tells before after g next o =
    let e = next_of-parts before g (next ∷ after) o in
    (ap (option_map first_less) e, ap (option_map seed) e)

pub last_is_open : LastIsOpen
last_is_open gens last o e =
    let s = front_of gens last e in
    let n : next_of gens last.epoch ≡ None =
    ap (λ (t : List LogGeneration). next_of t last.epoch) s.are ∙ next_of-parts s.front last [] (subst AreOrdered s.are o)
    in
    (ap (option_map first_less) n, ap (option_map seed) n)

-- the last generation is one of the list
pub last_is_there : LastIsThere
last_is_there gens last e =
    let s = front_of gens last e in
    subst (λ (t : List LogGeneration). Contains t last) (sym s.are) (Contains-parts s.front [] last)

pub last_is_within : LastIsWithin
last_is_within gens last all e = All-contains IsGeneration gens last all (last_is_there gens last e)

pub last_or_next : LastOrNext
last_or_next gens g o has = go s.after s.are
  where
    s : Parts gens g
    s = parts_of gens g has

    go : (after : List LogGeneration) → gens ≡ s.before ++ g ∷ after → (last_of gens ≡ Some g) ⊎ HasNext gens g
    go [] are = inl (ap last_of are ∙ last_of_push s.before g)
    go (next ∷ after) are =
        let o' : AreOrdered (s.before ++ g ∷ next ∷ after) = subst AreOrdered are o in
        inr (record {
          next = next;
          is_next = ap (λ (t : List LogGeneration). next_of t g.epoch) are ∙ next_of-parts s.before g (next ∷ after) o';
          there = subst (λ (t : List LogGeneration). Contains t next) (sym (are ∙ sym (append_assoc s.before (g ∷ []) (next ∷ after)))) (Contains-parts (s.before ++ g ∷ []) after next);
          follows = (AreOrdered-back s.before (g ∷ next ∷ after) o').0;
        })

-- a generation of a lesser epoch than the last one's is not the last one
not_last : (before : List LogGeneration) (g last : LogGeneration) (after : List LogGeneration) → last_of (before ++ g ∷ after) ≡ Some last → g.epoch < last.epoch → IsSome (slice_get after 0)
not_last before g last [] e lt = let k : Some g ≡ Some last = sym (last_of_push before g) ∙ e in let k' : g ≡ last = cc in absurd (omega (arith, ap (λ (x : LogGeneration). x.epoch) k', lt))
not_last before g last (next ∷ after) e lt = refl

some_mapped : (f : LogGeneration → ℕ) (o : Option LogGeneration) → IsSome o → IsSome (option_map f o)
some_mapped f None h = absurd cc
some_mapped f (Some next) h = refl

pub earlier_is_closed : EarlierIsClosed
earlier_is_closed gens g last o has e lt =
    let s = parts_of gens g has in
    let n : next_of gens g.epoch ≡ slice_get s.after 0 =
    ap (λ (t : List LogGeneration). next_of t g.epoch) s.are ∙ next_of-parts s.before g s.after (subst AreOrdered s.are o)
    in
    let there : IsSome (next_of gens g.epoch) = subst IsSome (sym n) (not_last s.before g last s.after (ap last_of (sym s.are) ∙ e) lt) in
    (some_mapped first_less (next_of gens g.epoch) there, some_mapped seed (next_of gens g.epoch) there)

pub absent_is_open : AbsentIsOpen
absent_is_open gens epoch h =
    let n = next_of-absent gens epoch (recursion_from_All (λ g. g.epoch ≢ epoch) gens h) in
    (ap (option_map first_less) n, ap (option_map seed) n)

seed_below : (before : List LogGeneration) (g : LogGeneration) (after : List LogGeneration) (cut : ℕ) → AreOrdered (before ++ g ∷ after) → option_map seed (slice_get after 0) ≡ Some cut → g.seeded_to ≤ cut
seed_below before g [] cut o e = absurd cc
seed_below before g (next ∷ after) cut o e =
    let f = (AreOrdered-back before (g ∷ next ∷ after) o).0 in
    let k : next.seeded_to ≡ cut = cc in
    omega (arith, f.seeded_to)

pub cut_is_at_least_seed : CutIsAtLeastSeed
cut_is_at_least_seed gens g cut o has e =
    let s = parts_of gens g has in
    let o' : AreOrdered (s.before ++ g ∷ s.after) = subst AreOrdered s.are o in
    let n : next_of gens g.epoch ≡ slice_get s.after 0 = ap (λ (t : List LogGeneration). next_of t g.epoch) s.are ∙ next_of-parts s.before g s.after o' in
    seed_below s.before g s.after cut o' (sym (ap (option_map seed) n) ∙ e)

pub end_is_at_most_cut : EndIsAtMostCut
end_is_at_most_cut gens epoch end cut limits e c =
    let m = mapped first_less (next_of gens epoch) end e in
    let l = next_of-has IsGeneration gens epoch m.0 limits m.1 in
    let k : Some m.0.seeded_to ≡ Some cut = sym (ap (option_map seed) m.1) ∙ c in
    let k' : m.0.seeded_to ≡ cut = cc in
    omega (arith, m.2, l.seeded_to_low, k')

upto_last : (gens : List LogGeneration) (last : LogGeneration) → AreOrdered gens → last_of gens ≡ Some last → AllByRecursion (λ g. g.seeded_to ≤ last.seeded_to) gens
upto_last [] last o e = tt
upto_last (g ∷ []) last o e = let k : g ≡ last = cc in (subst (λ (x : LogGeneration). g.seeded_to ≤ x.seeded_to) k (omega arith), tt)
upto_last (g ∷ next ∷ gens) last o e =
    let rest = upto_last (next ∷ gens) last o.1 e in
    (omega (arith, o.0.seeded_to, rest.0), rest)

pub cut_is_at_most_last : CutIsAtMostLast
cut_is_at_most_last gens last epoch cut o e c =
    let m = mapped seed (next_of gens epoch) cut c in
    let P : LogGeneration → Type 0 = λ g. g.seeded_to ≤ last.seeded_to in
    let l : m.0.seeded_to ≤ last.seeded_to = next_of-has P gens epoch m.0 (All-from_recursion P gens (upto_last gens last o e)) m.1 in
    omega (arith, m.2, l)

-- ---- the last generation that passes a test by versions

all_weaker : {P Q : LogGeneration → Type 0} → ((g : LogGeneration) → P g → Q g) → (gens : List LogGeneration) → AllByRecursion P gens → AllByRecursion Q gens
all_weaker f [] h = tt
all_weaker f (g ∷ gens) h = (f g h.0, all_weaker f gens h.1)

-- what a list says of the generation after g, told of the whole list
told_of : (f : LogGeneration → ℕ) (P : ℕ → Type 0) (before : List LogGeneration) (g : LogGeneration) (after : List LogGeneration) → AreOrdered (before ++ g ∷ after)
    → IfSome (option_map f (slice_get after 0)) P → IfSome (option_map f (next_of (before ++ g ∷ after) g.epoch)) P
told_of f P before g after o h = subst (λ (n : Option LogGeneration). IfSome (option_map f n) P) (sym (next_of-parts before g after o)) h

told_after : (f : LogGeneration → ℕ) (P : ℕ → Type 0) (before : List LogGeneration) (g : LogGeneration) (after : List LogGeneration) → AreOrdered (before ++ g ∷ after)
    → IfSome (option_map f (next_of (before ++ g ∷ after) g.epoch)) P → IfSome (option_map f (slice_get after 0)) P
told_after f P before g after o h = subst (λ (n : Option LogGeneration). IfSome (option_map f n) P) (next_of-parts before g after o) h

-- ---- the source

abbrev starts_by : ℕ → LogGeneration → Bool
starts_by version g = leb g.first version

-- generations that start above a version, from the first of them on
pub all_above : (next : LogGeneration) (after : List LogGeneration) (version : ℕ) → AreOrdered (next ∷ after) → version < next.first → AllByRecursion (λ g. starts_by version g ≡ false) (next ∷ after)
all_above next after version o lt =
    (lt-leb next.first version lt, all_weaker (λ g f. lt-leb g.first version (omega (arith, f.first))) after (all_later next after o))

pub source_none : (gens : List LogGeneration) (version : ℕ) → (source_of gens version ≡ None) ↔ All (λ g. version < g.first) gens
source_none gens version = (
  λ e. All-from_recursion (λ g. version < g.first) gens (all_weaker (λ g h. leb-false g.first version h) gens (fails_from_none (starts_by version) gens e)),
  λ h. none_from_fails (starts_by version) gens (all_weaker (λ g lt. lt-leb g.first version lt) gens (recursion_from_All (λ g. version < g.first) gens h)),
)

end_reaches : (after : List LogGeneration) (version : ℕ) → AllByRecursion (λ g. starts_by version g ≡ false) after → IfSome (option_map first_less (slice_get after 0)) (λ end. version ≤ end)
end_reaches [] version rest = tt
end_reaches (next ∷ after) version rest = omega (arith, leb-false next.first version rest.0)

none_starts : (after : List LogGeneration) (version : ℕ) → AreOrdered after → AllByRecursion IsGeneration after → IfSome (option_map first_less (slice_get after 0)) (λ end. version ≤ end)
    → AllByRecursion (λ g. starts_by version g ≡ false) after
none_starts [] version o limits h = tt
none_starts (next ∷ after) version o limits h = all_above next after version o (omega (arith, limits.0.first_low, h))

back : (P : LogGeneration → Type 0) (before after : List LogGeneration) → AllByRecursion P (before ++ after) → AllByRecursion P after
back P [] after h = h
back P (g ∷ before) after h = back P before after h.1

pub source_is : (gens : List LogGeneration) (version : ℕ) (g : LogGeneration) → AreOrdered gens → All IsGeneration gens → (source_of gens version ≡ Some g) ↔ IsSource gens version g
source_is gens version g o limits = (
  λ e.
      let s = split_from_last (starts_by version) gens g e in
      let o' : AreOrdered (s.before ++ g ∷ s.after) = subst AreOrdered s.parts o in
      subst (λ (t : List LogGeneration). IsSource t version g) (sym s.parts)
      (Contains-parts s.before s.after g, leb-true g.first version s.passes, told_of first_less (λ end. version ≤ end) s.before g s.after o' (end_reaches s.after version s.rest)),
  λ h.
      let s = parts_of gens g h.0 in
      let o' : AreOrdered (s.before ++ g ∷ s.after) = subst AreOrdered s.are o in
      let o'' : AreOrdered s.after = AreOrdered-back (g ∷ []) s.after (AreOrdered-back s.before (g ∷ s.after) o') in
      let limits' : AllByRecursion IsGeneration (s.before ++ g ∷ s.after) = subst (AllByRecursion IsGeneration) s.are (recursion_from_All IsGeneration gens limits) in
      let ends : IfSome (end_of (s.before ++ g ∷ s.after) g.epoch) (λ end. version ≤ end) = subst (λ (t : List LogGeneration). IfSome (end_of t g.epoch) (λ end. version ≤ end)) s.are h.2 in
      ap (λ (t : List LogGeneration). source_of t version) s.are
      ∙ last_from_split (starts_by version) s.before s.after g (le-leb g.first version h.1)
      (none_starts s.after version o'' (back IsGeneration s.before (g ∷ s.after) limits').1 (told_after first_less (λ end. version ≤ end) s.before g s.after o' ends)),
)

-- ---- the owner

abbrev numbers : ℕ → LogGeneration → Bool
numbers version g = ltb g.seeded_to version

-- generations that were seeded with a version, from the first of them on
pub all_seeded : (next : LogGeneration) (after : List LogGeneration) (version : ℕ) → AreOrdered (next ∷ after) → version ≤ next.seeded_to → AllByRecursion (λ g. numbers version g ≡ false) (next ∷ after)
all_seeded next after version o le =
    (le-ltb next.seeded_to version le, all_weaker (λ g f. le-ltb g.seeded_to version (omega (arith, f.seeded_to))) after (all_later next after o))

pub owner_none : (gens : List LogGeneration) (version : ℕ) → (owner_of gens version ≡ None) ↔ All (λ g. version ≤ g.seeded_to) gens
owner_none gens version = (
  λ e. All-from_recursion (λ g. version ≤ g.seeded_to) gens (all_weaker (λ g h. ltb-false g.seeded_to version h) gens (fails_from_none (numbers version) gens e)),
  λ h. none_from_fails (numbers version) gens (all_weaker (λ g le. le-ltb g.seeded_to version le) gens (recursion_from_All (λ g. version ≤ g.seeded_to) gens h)),
)

cut_reaches : (after : List LogGeneration) (version : ℕ) → AllByRecursion (λ g. numbers version g ≡ false) after → IfSome (option_map seed (slice_get after 0)) (λ cut. version ≤ cut)
cut_reaches [] version rest = tt
cut_reaches (next ∷ after) version rest = ltb-false next.seeded_to version rest.0

none_numbers : (after : List LogGeneration) (version : ℕ) → AreOrdered after → IfSome (option_map seed (slice_get after 0)) (λ cut. version ≤ cut) → AllByRecursion (λ g. numbers version g ≡ false) after
none_numbers [] version o h = tt
none_numbers (next ∷ after) version o h = all_seeded next after version o h

pub owner_is : (gens : List LogGeneration) (version : ℕ) (g : LogGeneration) → AreOrdered gens → (owner_of gens version ≡ Some g) ↔ IsOwner gens version g
owner_is gens version g o = (
  λ e.
      let s = split_from_last (numbers version) gens g e in
      let o' : AreOrdered (s.before ++ g ∷ s.after) = subst AreOrdered s.parts o in
      subst (λ (t : List LogGeneration). IsOwner t version g) (sym s.parts)
      (Contains-parts s.before s.after g, ltb-true g.seeded_to version s.passes, told_of seed (λ cut. version ≤ cut) s.before g s.after o' (cut_reaches s.after version s.rest)),
  λ h.
      let s = parts_of gens g h.0 in
      let o' : AreOrdered (s.before ++ g ∷ s.after) = subst AreOrdered s.are o in
      let o'' : AreOrdered s.after = AreOrdered-back (g ∷ []) s.after (AreOrdered-back s.before (g ∷ s.after) o') in
      let cuts : IfSome (cut_of (s.before ++ g ∷ s.after) g.epoch) (λ cut. version ≤ cut) = subst (λ (t : List LogGeneration). IfSome (cut_of t g.epoch) (λ cut. version ≤ cut)) s.are h.2 in
      ap (λ (t : List LogGeneration). owner_of t version) s.are
      ∙ last_from_split (numbers version) s.before s.after g (lt-ltb g.seeded_to version h.1) (none_numbers s.after version o'' (told_after seed (λ cut. version ≤ cut) s.before g s.after o' cuts)),
)

-- ---- a list and a longer one

kept : (f : LogGeneration → ℕ) (front more : List LogGeneration) (epoch n : ℕ) → option_map f (next_of front epoch) ≡ Some n → option_map f (next_of (front ++ more) epoch) ≡ Some n
kept f front more epoch n e =
    let m = mapped f (next_of front epoch) n e in
    ap (option_map f) (next_of-append front more epoch m.0 m.1) ∙ ap Some m.2

pub front_keeps_end : FrontKeepsEnd
front_keeps_end = kept first_less

pub front_keeps_cut : FrontKeepsCut
front_keeps_cut = kept seed

-- the generation that stands after the front's last one
after_front : (front more : List LogGeneration) (last : LogGeneration) → AreOrdered (front ++ more) → last_of front ≡ Some last → next_of (front ++ more) last.epoch ≡ slice_get more 0
after_front front more last o e =
    let s = front_of front last e in
    let are : front ++ more ≡ s.front ++ last ∷ more = ap (λ (t : List LogGeneration). t ++ more) s.are ∙ append_assoc s.front (last ∷ []) more in
    ap (λ (t : List LogGeneration). next_of t last.epoch) are ∙ next_of-parts s.front last more (subst AreOrdered are o)

-- where nothing after the front passes, the front decides
front_decides : (p : LogGeneration → Bool) (front more : List LogGeneration) → AllByRecursion (λ g. p g ≡ false) more → find p (reverse (front ++ more)) ≡ find p (reverse front)
front_decides p front more h = last-append p front more ∙ ap (λ (o : Option LogGeneration). option_or o (find p (reverse front))) (none_from_fails p more h)

if_some : (o : Option ℕ) (bound version : ℕ) → o ≡ Some bound → version ≤ bound → IfSome o (λ n. version ≤ n)
if_some o bound version e le = rw e le

pub front_keeps_source : FrontKeepsSource
front_keeps_source front more last end version o limits e c le =
    let told : option_map first_less (slice_get more 0) ≡ Some end = sym (ap (option_map first_less) (after_front front more last o e)) ∙ c in
    front_decides (starts_by version) front more
    (none_starts more version (AreOrdered-back front more o) (back IsGeneration front more (recursion_from_All IsGeneration (front ++ more) limits)) (if_some (option_map first_less (slice_get more 0)) end version told le))

pub front_keeps_owner : FrontKeepsOwner
front_keeps_owner front more last cut version o e c le =
    let told : option_map seed (slice_get more 0) ≡ Some cut = sym (ap (option_map seed) (after_front front more last o e)) ∙ c in
    front_decides (numbers version) front more (none_numbers more version (AreOrdered-back front more o) (if_some (option_map seed (slice_get more 0)) cut version told le))
