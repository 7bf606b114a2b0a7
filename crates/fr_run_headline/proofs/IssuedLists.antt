-- What lists of generations issue: in the order of versions, and the same for a list and a longer one that begins with it.
use Rattle.std.proofs.Common.{◌≡◌, ℕ, ◌≤◌, nat_le, List, [], ◌∷◌, ◌++◌, refl, sym, ◌∙◌, ap, subst, arith}
use Rattle.std.specs.Prelude.{Some}
use Rattle.std.specs.List.{AllByRecursion}
use Rattle.std.proofs.lemmas.List.{append_assoc, append-nil}
use Rattle.std.proofs.lemmas.List.Elements.{filter-append}
use Rattle.fr_state.specs.Generations.{LogGeneration, AreOrdered}
use Rattle.fr_state.specs.LookUp.{cut_of}
use Rattle.fr_state.specs.Laws.{NextTells}
use Rattle.fr_run_headline.specs.Issued.{Entry, issued_of}
use Rattle.fr_run_headline.proofs.VersionLists.{RiseIn, between, through, through_on, rise_on, rise_through, through_again, through_twice, through_none}

abbrev pub version_of : Entry → ℕ
version_of x = x.version

-- the entries of an epoch rise above what it was seeded to, and through its last version
abbrev pub EntriesRise : (ℕ → List Entry) → (ℕ → ℕ) → LogGeneration → Type 0
EntriesRise entries top g = RiseIn version_of g.seeded_to (entries g.epoch) (top g.epoch)

-- the last version of the last generation
abbrev pub top_in : (ℕ → ℕ) → List LogGeneration → ℕ
top_in top [] = 0
top_in top (g ∷ []) = top g.epoch
top_in top (g ∷ next ∷ gens) = top_in top (next ∷ gens)

-- ---- order

-- the versions of what is issued rise strictly
pub issued_sorted : (entries : ℕ → List Entry) (top : ℕ → ℕ) (g : LogGeneration) (gens : List LogGeneration) → AreOrdered (g ∷ gens) → AllByRecursion (EntriesRise entries top) (g ∷ gens)
    → RiseIn version_of g.seeded_to (issued_of entries (g ∷ gens)) (top_in top (g ∷ gens))
issued_sorted entries top g [] order (rise, rest) = rise
issued_sorted entries top g (next ∷ gens) (follows, order) (rise, rest) =
    rise_on version_of g.seeded_to next.seeded_to (top_in top (next ∷ gens)) (through version_of next.seeded_to (entries g.epoch)) (issued_of entries (next ∷ gens))
    (rise_through version_of g.seeded_to (top g.epoch) next.seeded_to (entries g.epoch) rise follows.seeded_to)
    (issued_sorted entries top next gens order rest)

-- ---- a list and a longer one

order_of_back : (g : LogGeneration) (front : List LogGeneration) (next : LogGeneration) (more : List LogGeneration) → AreOrdered ((g ∷ front) ++ next ∷ more) → (g.seeded_to ≤ next.seeded_to) × AreOrdered (next ∷ more)
order_of_back g [] next more (follows, order) = (follows.seeded_to, order)
order_of_back g (h ∷ front) next more (follows, order) =
    let k = order_of_back h front next more order in
    let le = follows.seeded_to in
    ((omega (arith, le, k.0)), k.1)

-- a longer list issues what its front does, through what the next generation was seeded to, and then what the others do
pub issued_on : (entries : ℕ → List Entry) (g : LogGeneration) (front : List LogGeneration) (next : LogGeneration) (more : List LogGeneration) → AreOrdered ((g ∷ front) ++ next ∷ more)
    → issued_of entries ((g ∷ front) ++ next ∷ more) ≡ through version_of next.seeded_to (issued_of entries (g ∷ front)) ++ issued_of entries (next ∷ more)
issued_on entries g [] next more order = refl
issued_on entries g (h ∷ front) next more (follows, order) =
    let k = order_of_back h front next more order in
    let own = entries g.epoch in
    ap (λ xs. through version_of h.seeded_to own ++ xs) (issued_on entries h front next more order)
    ∙ sym (append_assoc (through version_of h.seeded_to own) (through version_of next.seeded_to (issued_of entries (h ∷ front))) (issued_of entries (next ∷ more)))
    ∙ ap (λ xs. (xs ++ through version_of next.seeded_to (issued_of entries (h ∷ front))) ++ issued_of entries (next ∷ more)) (sym (through_again version_of h.seeded_to next.seeded_to own k.0))
    ∙ ap (λ xs. xs ++ issued_of entries (next ∷ more)) (sym (filter-append (λ x. nat_le x.version next.seeded_to) (through version_of h.seeded_to own) (issued_of entries (h ∷ front))))

-- a list with one generation more issues what it did, through what that was seeded to, and then that generation's entries
pub issued_one_more : (entries : ℕ → List Entry) (g : LogGeneration) (front : List LogGeneration) (next : LogGeneration) → AreOrdered ((g ∷ front) ++ next ∷ [])
    → issued_of entries ((g ∷ front) ++ next ∷ []) ≡ through version_of next.seeded_to (issued_of entries (g ∷ front)) ++ entries next.epoch
issued_one_more entries g front next order = issued_on entries g front next [] order

-- a list and a longer one issue the same through what the next generation was seeded to
pub agree : (entries : ℕ → List Entry) (top : ℕ → ℕ) (g : LogGeneration) (front : List LogGeneration) (next : LogGeneration) (more : List LogGeneration) → AreOrdered ((g ∷ front) ++ next ∷ more)
    → AllByRecursion (EntriesRise entries top) (next ∷ more) → (upto : ℕ) → upto ≤ next.seeded_to
    → through version_of upto (issued_of entries ((g ∷ front) ++ next ∷ more)) ≡ through version_of upto (issued_of entries (g ∷ front))
agree entries top g front next more order rise upto le =
    let own = issued_of entries (g ∷ front) in
    let k = order_of_back g front next more order in
    let later = issued_sorted entries top next more k.1 rise in
    ap (through version_of upto) (issued_on entries g front next more order)
    ∙ filter-append (λ x. nat_le x.version upto) (through version_of next.seeded_to own) (issued_of entries (next ∷ more))
    ∙ ap (λ xs. xs ++ through version_of upto (issued_of entries (next ∷ more))) (through_twice version_of upto next.seeded_to own le)
    ∙ ap (λ xs. through version_of upto own ++ xs) (through_none version_of next.seeded_to (top_in top (next ∷ more)) upto (issued_of entries (next ∷ more)) later le)
    ∙ append-nil (through version_of upto own)

-- ---- growth

-- what is issued through a version counts entries through the last version of each epoch alone
abbrev pub Reaches : (ℕ → ℕ) → List LogGeneration → ℕ → Type 0
Reaches top [] upto = Unit {0}
Reaches top (g ∷ []) upto = upto ≤ top g.epoch
Reaches top (g ∷ next ∷ gens) upto = (next.seeded_to ≤ top g.epoch) × Reaches top (next ∷ gens) upto

-- the entries of an epoch are the same through its last version
abbrev pub GainsAbove : (old new : ℕ → List Entry) → (ℕ → ℕ) → LogGeneration → Type 0
GainsAbove old new top g = through version_of (top g.epoch) (old g.epoch) ≡ through version_of (top g.epoch) (new g.epoch)

-- entries that are added above a version leave those through it
pub added_above : (top high : ℕ) (old more : List Entry) → RiseIn version_of top more high → through version_of top (old ++ more) ≡ through version_of top old
added_above top high old more rise =
    filter-append (λ x. nat_le x.version top) old more
    ∙ ap (λ xs. through version_of top old ++ xs) (through_none version_of top high top more rise (omega arith))
    ∙ append-nil (through version_of top old)

-- those through a lower version are the same too
same_below : (old new : List Entry) (upto top : ℕ) → upto ≤ top → through version_of top old ≡ through version_of top new → through version_of upto old ≡ through version_of upto new
same_below old new upto top le same = sym (through_twice version_of upto top old le) ∙ ap (through version_of upto) same ∙ through_twice version_of upto top new le

-- where entries are gained only above the last versions, what is issued through a version that they reach stays
pub issued_stays : (old new : ℕ → List Entry) (top : ℕ → ℕ) (gens : List LogGeneration) (upto : ℕ) → AllByRecursion (GainsAbove old new top) gens → Reaches top gens upto
    → through version_of upto (issued_of new gens) ≡ through version_of upto (issued_of old gens)
issued_stays old new top [] upto gains reaches = refl
issued_stays old new top (g ∷ []) upto (same, rest) reaches = sym (same_below (old g.epoch) (new g.epoch) upto (top g.epoch) reaches same)
issued_stays old new top (g ∷ next ∷ gens) upto (same, rest) (here, reaches) =
    let front = same_below (old g.epoch) (new g.epoch) next.seeded_to (top g.epoch) here same in
    let later = issued_stays old new top (next ∷ gens) upto rest reaches in
    filter-append (λ x. nat_le x.version upto) (through version_of next.seeded_to (new g.epoch)) (issued_of new (next ∷ gens))
    ∙ ap (λ xs. through version_of upto xs ++ through version_of upto (issued_of new (next ∷ gens))) (sym front)
    ∙ ap (λ xs. through version_of upto (through version_of next.seeded_to (old g.epoch)) ++ xs) later
    ∙ sym (filter-append (λ x. nat_le x.version upto) (through version_of next.seeded_to (old g.epoch)) (issued_of old (next ∷ gens)))

-- ---- cuts

-- where one list of generations is the front of a longer one, both issue the same through the cut of its last generation
pub agree_through_cut : NextTells → (entries : ℕ → List Entry) (top : ℕ → ℕ) (before : List LogGeneration) (last next : LogGeneration) (more : List LogGeneration) → AreOrdered (before ++ last ∷ next ∷ more)
    → AllByRecursion (EntriesRise entries top) (next ∷ more) → (cut upto : ℕ) → cut_of (before ++ last ∷ next ∷ more) last.epoch ≡ Some cut → upto ≤ cut
    → through version_of upto (issued_of entries (before ++ last ∷ next ∷ more)) ≡ through version_of upto (issued_of entries (before ++ last ∷ []))
agree_through_cut tells entries top before last next more order rise cut upto is le =
    let k : Some next.seeded_to ≡ Some cut = sym (tells before more last next order).1 ∙ is in
    let same : next.seeded_to ≡ cut = cc in
    let low : upto ≤ next.seeded_to = omega (arith, same, le) in
    go before order low
  where
    go : (before : List LogGeneration) → AreOrdered (before ++ last ∷ next ∷ more) → upto ≤ next.seeded_to
        → through version_of upto (issued_of entries (before ++ last ∷ next ∷ more)) ≡ through version_of upto (issued_of entries (before ++ last ∷ []))
    go [] order low = agree entries top last [] next more order rise upto low
    go (g ∷ before) order low =
        ap (λ gens. through version_of upto (issued_of entries (g ∷ gens))) (sym (append_assoc before (last ∷ []) (next ∷ more)))
        ∙ agree entries top g (before ++ last ∷ []) next more (subst (λ gens. AreOrdered (g ∷ gens)) (sym (append_assoc before (last ∷ []) (next ∷ more))) order) rise upto low

-- ---- longer cuts

-- where two lists are the same through a version, the first one's cut there is the front of the second one's cut at each later version
pub cut_is_front : (a b low high : ℕ) (xs ys : List Entry) → RiseIn version_of a ys b → low ≤ high → through version_of low xs ≡ through version_of low ys
    → through version_of low xs ++ between version_of low high ys ≡ through version_of high ys
cut_is_front a b low high xs ys rise le same = ap (λ zs. zs ++ between version_of low high ys) same ∙ through_on version_of a b low high ys rise le
