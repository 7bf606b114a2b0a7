-- What is left of a list of generations without its first ones.
use Rattle.std.proofs.Common.{◌≡◌, ℕ, zero, suc, ◌+◌, ◌-◌, ◌<◌, ◌≤◌, ◌^◌, ◌&&◌, Bool, true, false, cond, leb, ltb, List, [], ◌∷◌, ◌++◌, length, take, drop, Option, Some, None, refl, sym, ap, subst, ◌∙◌, append_assoc, take-append-drop, arith}
use Rattle.std.specs.Prelude.{◌≢◌, ◌==◌, All, Contains, position, find, reverse}
use Rattle.std.specs.List.{position_or_len, AllByRecursion}
use Rattle.std.specs.Option.{option_map, option_or}
use Rattle.std.proofs.lemmas.Bool.{true≢false, and_parts, and_from, eq-eqb, ne_eqb, eqb-true, leb-true, ltb-true, le-leb, lt-ltb}
use Rattle.std.proofs.lemmas.List.{length-drop, length-append, take_at}
use Rattle.std.proofs.lemmas.List.Elements.{All-drop, All-head, All-from_recursion, All-contains}
use Rattle.fr_state.specs.Generations.{LogGeneration, CoordinatedState, IsGeneration, IsCoordinatedState, Follows, AreOrdered, first_epoch_of}
use Rattle.fr_state.specs.LookUp.{next_of, source_of}
use Rattle.fr_state.specs.Order.{without_first}
use Rattle.fr_state.specs.Same.{begins_with, goes_on, GoesOn}
use Rattle.fr_state.specs.Laws.{DropIsState, DroppedIsWithout, IsWithoutFirst, DroppedBeginsThere, DropKeepsLast, DropKeepsOrder, DropKeepsBounds, DropHasEnd, DropHasCut, DropHasSource, DropKeepsSource, GoesOnIsExact, ExtensionGoesOn}
use Rattle.fr_state.proofs.LastLemmas.{last-append, fails_from_none}
use Rattle.fr_state.proofs.ListLemmas.{AreOrdered-back, all_later, follows_front, parts_of, next_of-cons, next_of-parts, next_of-absent}
use Rattle.fr_state.proofs.SameLemmas.{begins_is_exact}

-- ---- order, and the last one

pub drop_keeps_order : DropKeepsOrder
drop_keeps_order gens n o = AreOrdered-back (take n gens) (drop n gens) (subst AreOrdered (sym (take-append-drop n gens)) o)

pub drop_keeps_last : DropKeepsLast
drop_keeps_last gens zero lt = refl
drop_keeps_last [] (suc n) lt = absurd (omega arith)
drop_keeps_last (g ∷ []) (suc n) lt = absurd (omega arith)
drop_keeps_last (g ∷ next ∷ gens) (suc n) lt = drop_keeps_last (next ∷ gens) n (omega arith)

-- epochs rise by one at least
first_rises : (gens : List LogGeneration) (n d : ℕ) → AreOrdered gens → n < length gens → d < first_epoch_of gens → d + n < first_epoch_of (drop n gens)
first_rises gens zero d o lt below = omega arith
first_rises [] (suc n) d o lt below = absurd (omega arith)
first_rises (g ∷ []) (suc n) d o lt below = absurd (omega arith)
first_rises (g ∷ next ∷ gens) (suc n) d o lt below =
    let f = o.0 in
    let k = first_rises (next ∷ gens) n (d + 1) o.1 (omega arith) (omega (arith, f.epoch, below)) in
    omega (arith, k)

pub drop_is_state : DropIsState
drop_is_state s n sound lt = record {
  limits = All-drop IsGeneration n s.gens sound.limits;
  ordered = drop_keeps_order s.gens n sound.ordered;
  some = omega (arith, length-drop n s.gens);
  few = let few = sound.few in omega (arith, length-drop n s.gens);
  below = first_rises s.gens n s.dropped sound.ordered lt sound.below;
}

-- ---- where an epoch stands

placed : (s t : CoordinatedState) (n : ℕ) (b : Bool) → ltb n (length s.gens) ≡ b → option_map (without_first s) (cond b (Some n) None) ≡ Some t → IsWithoutFirst s t
placed s t n true e is = record { number = n; fewer = ltb-true n (length s.gens) e; is = let k : Some (without_first s n) ≡ Some t = is in let k' : without_first s n ≡ t = cc in sym k' }
placed s t n false e is = absurd cc

pub dropped_is_without : DroppedIsWithout
dropped_is_without s t epoch e =
    let n : ℕ = position_or_len (λ g. g.epoch == epoch) s.gens in
    placed s t n (ltb n (length s.gens)) refl e

place_of : (before : List LogGeneration) (g : LogGeneration) (after : List LogGeneration) → AreOrdered (before ++ g ∷ after)
    → position_or_len (λ x. x.epoch == g.epoch) (before ++ g ∷ after) ≡ length before
place_of [] g after o = rw (eq-eqb g.epoch g.epoch refl) refl
place_of (x ∷ before) g after o =
    let f = follows_front x before g after o in
    let k = place_of before g after (AreOrdered-back (x ∷ []) (before ++ g ∷ after) o) in
    rw (ne_eqb x.epoch g.epoch (λ e. omega (arith, f.epoch)), k) (omega arith)

drop_front : (before rest : List LogGeneration) → drop (length before) (before ++ rest) ≡ rest
drop_front [] rest = refl
drop_front (x ∷ before) rest = drop_front before rest

pub dropped_begins_there : DroppedBeginsThere
dropped_begins_there s g o has =
    let p = parts_of s.gens g has in
    let n : ℕ = length p.before in
    let o' : AreOrdered (p.before ++ g ∷ p.after) = subst AreOrdered p.are o in
    let at : position_or_len (λ x. x.epoch == g.epoch) s.gens ≡ n = ap (position_or_len (λ x. x.epoch == g.epoch)) p.are ∙ place_of p.before g p.after o' in
    let lt : n < length s.gens = omega (arith, ap length p.are, length-append p.before (g ∷ p.after)) in
    let found : position (λ x. x.epoch == g.epoch) s.gens ≡ Some n = rw (at, lt-ltb n (length s.gens) lt) refl in
    let left : drop n s.gens ≡ g ∷ p.after = ap (drop n) p.are ∙ drop_front p.before (g ∷ p.after) in (
      without_first s n,
      ap (option_map (without_first s)) found,
      record {
        before = p.before;
        after = p.after;
        were = p.are;
        are = ap (λ (gens : List LogGeneration). let t : CoordinatedState = record { dropped = s.dropped + n; gens = gens } in t) left;
      },
    )

-- ---- ends and cuts

pub drop_keeps_next : (gens : List LogGeneration) (n : ℕ) (g : LogGeneration) → AreOrdered gens → Contains (drop n gens) g → next_of (drop n gens) g.epoch ≡ next_of gens g.epoch
drop_keeps_next gens n g o has =
    let p = parts_of (drop n gens) g has in
    let all : gens ≡ (take n gens ++ p.before) ++ g ∷ p.after =
    sym (take-append-drop n gens) ∙ ap (λ (t : List LogGeneration). take n gens ++ t) p.are ∙ sym (append_assoc (take n gens) p.before (g ∷ p.after))
    in
    let left = ap (λ (t : List LogGeneration). next_of t g.epoch) p.are ∙ next_of-parts p.before g p.after (subst AreOrdered p.are (drop_keeps_order gens n o)) in
    let whole = ap (λ (t : List LogGeneration). next_of t g.epoch) all ∙ next_of-parts (take n gens ++ p.before) g p.after (subst AreOrdered all o) in
    left ∙ sym whole

pub drop_keeps_bounds : DropKeepsBounds
drop_keeps_bounds gens n g o has =
    let e = drop_keeps_next gens n g o has in
    (ap (option_map (λ next. next.first - 1)) e, ap (option_map (λ next. next.seeded_to)) e)

absent_later : (n : ℕ) (g : LogGeneration) (gens : List LogGeneration) → AllByRecursion (Follows g) gens → AllByRecursion (λ x. x.epoch ≢ g.epoch) (drop n gens)
absent_later zero g [] h = tt
absent_later zero g (x ∷ gens) h = let f = h.0 in (λ e. omega (arith, f.epoch, e), absent_later zero g gens h.1)
absent_later (suc n) g [] h = tt
absent_later (suc n) g (x ∷ gens) h = absent_later n g gens h.1

pub drop_has_next : (gens : List LogGeneration) (n epoch : ℕ) (next : LogGeneration) → AreOrdered gens → next_of (drop n gens) epoch ≡ Some next → next_of gens epoch ≡ Some next
drop_has_next gens zero epoch next o e = e
drop_has_next [] (suc n) epoch next o e = e
drop_has_next (g ∷ gens) (suc n) epoch next o e = go (drop_has_next gens n epoch next (AreOrdered-back (g ∷ []) gens o) e) (g.epoch == epoch) refl
  where
    go : next_of gens epoch ≡ Some next → (b : Bool) → (g.epoch == epoch) ≡ b → next_of (g ∷ gens) epoch ≡ Some next
    go later true is =
        let same : g.epoch ≡ epoch = eqb-true g.epoch epoch is in
        let none : next_of (drop n gens) epoch ≡ None = subst (λ (x : ℕ). next_of (drop n gens) x ≡ None) same (next_of-absent (drop n gens) g.epoch (absent_later n g gens (all_later g gens o))) in
        let k : Some next ≡ None = sym e ∙ none in
        absurd cc
    go later false is = next_of-cons g gens epoch ∙ rw is later

has_mapped : (f : LogGeneration → ℕ) (gens : List LogGeneration) (n epoch v : ℕ) → AreOrdered gens → option_map f (next_of (drop n gens) epoch) ≡ Some v → option_map f (next_of gens epoch) ≡ Some v
has_mapped f gens n epoch v o e = go (next_of (drop n gens) epoch) refl
  where
    go : (found : Option LogGeneration) → next_of (drop n gens) epoch ≡ found → option_map f (next_of gens epoch) ≡ Some v
    go None is = let k : None ≡ Some v = sym (ap (option_map f) is) ∙ e in absurd cc
    go (Some next) is = ap (option_map f) (drop_has_next gens n epoch next o is) ∙ sym (ap (option_map f) is) ∙ e

pub drop_has_end : DropHasEnd
drop_has_end gens n epoch end o e = has_mapped (λ next. next.first - 1) gens n epoch end o e

pub drop_has_cut : DropHasCut
drop_has_cut gens n epoch cut o e = has_mapped (λ next. next.seeded_to) gens n epoch cut o e

-- ---- sources

abbrev starts_by : ℕ → LogGeneration → Bool
starts_by version g = leb g.first version

pub drop_has_source : DropHasSource
drop_has_source gens n version g e =
    ap (λ (t : List LogGeneration). source_of t version) (sym (take-append-drop n gens)) ∙ last-append (starts_by version) (take n gens) (drop n gens)
    ∙ ap (λ (o : Option LogGeneration). option_or o (find (starts_by version) (reverse (take n gens)))) e

pub drop_keeps_source : DropKeepsSource
drop_keeps_source gens n version g has le = go (source_of (drop n gens) version) refl
  where
    go : (found : Option LogGeneration) → source_of (drop n gens) version ≡ found → source_of (drop n gens) version ≡ source_of gens version
    go None is =
        let P : LogGeneration → Type 0 = λ x. starts_by version x ≡ false in
        let fails = All-contains P (drop n gens) g (All-from_recursion P (drop n gens) (fails_from_none (starts_by version) (drop n gens) is)) has in
        absurd (true≢false (sym (le-leb g.first version le) ∙ fails))
    go (Some x) is = is ∙ sym (drop_has_source gens n version x is)

-- ---- going on

pub goes_on_is_exact : GoesOnIsExact
goes_on_is_exact own s = (yes_goes, goes_yes)
  where
    left : List LogGeneration
    left = drop (s.dropped - own.dropped) own.gens

    yes_goes : goes_on own s ≡ true → GoesOn own s
    yes_goes e =
        let a = and_parts (leb own.dropped s.dropped) (ltb s.dropped (own.dropped + length own.gens) && begins_with s.gens left) e in
        let b = and_parts (ltb s.dropped (own.dropped + length own.gens)) (begins_with s.gens left) a.1 in
        record {
          no_fewer = leb-true own.dropped s.dropped a.0;
          one_left = ltb-true s.dropped (own.dropped + length own.gens) b.0;
          front = (begins_is_exact s.gens left).0 b.1;
        }

    goes_yes : GoesOn own s → goes_on own s ≡ true
    goes_yes h =
        and_from (leb own.dropped s.dropped) (ltb s.dropped (own.dropped + length own.gens) && begins_with s.gens left) (le-leb own.dropped s.dropped h.no_fewer)
        (and_from (ltb s.dropped (own.dropped + length own.gens)) (begins_with s.gens left) (lt-ltb s.dropped (own.dropped + length own.gens) h.one_left) ((begins_is_exact s.gens left).1 h.front))

pub extension_goes_on : ExtensionGoesOn
extension_goes_on s n g lt =
    let is : s.dropped + n - s.dropped ≡ n = omega arith in
    record {
      no_fewer = omega arith;
      one_left = omega (arith, lt);
      front = (g ∷ [], ap (λ (k : ℕ). drop k s.gens ++ g ∷ []) (sym is));
    }

-- the tests of the code, which all passed
pub goes_where : (own s : CoordinatedState) (r : Bool) → own.dropped ≤ s.dropped → s.dropped < own.dropped + length own.gens → r ≡ begins_with s.gens (drop (s.dropped - own.dropped) own.gens) → r ≡ goes_on own s
goes_where own s r no_fewer one_left e = e ∙ sym (rw (le-leb own.dropped s.dropped no_fewer, lt-ltb s.dropped (own.dropped + length own.gens) one_left) refl)

-- ---- the numbers, and the list that is turned and cut

-- fewer were dropped than any epoch says
pub few_dropped : (s : CoordinatedState) → IsCoordinatedState s → s.dropped < 2 ^ 48
few_dropped s sound = go s.gens sound.limits sound.below
  where
    go : (gens : List LogGeneration) → All IsGeneration gens → s.dropped < first_epoch_of gens → s.dropped < 2 ^ 48
    go [] limits below = omega (arith, below)
    go (g ∷ gens) limits below = let h = All-head IsGeneration g gens limits in omega (arith, below, h.epoch_high)

pub turned : (gens : List LogGeneration) (n left : ℕ) → n ≤ length gens → left ≡ length gens - n → take left (drop n gens ++ take n gens) ≡ drop n gens
turned gens n left le e =
    let k : left ≡ length (drop n gens) = omega (arith, e, length-drop n gens) in
    ap (λ (i : ℕ). take i (drop n gens ++ take n gens)) k ∙ take_at (drop n gens) (take n gens) (length (drop n gens)) refl
