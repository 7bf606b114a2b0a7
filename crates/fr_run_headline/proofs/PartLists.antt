-- A tag's part of what is issued: one part after another, the first records of a part, and parts that agree.
use Rattle.std.proofs.Common.{◌≡◌, ℕ, suc, ◌<◌, ◌≤◌, Bool, true, false, cond, nat_lt, nat_le, ◌&&◌, max, List, [], ◌∷◌, ◌++◌, Option, None, Some, length, take, get_or, filter, filter_map, refl, sym, ◌∙◌, ap, inl, inr, arith, min}
use Rattle.std.specs.List.{AllByRecursion, cons_option}
use Rattle.std.proofs.lemmas.List.Elements.{filter_map-append}
use Rattle.std.proofs.lemmas.Bool.{and_parts, cases_lt, cond-false, cond-true, leb-false, ltb-true, lt-ltb}
use Rattle.fr_mutation.specs.declared.mutation.Mutation.{Mutation}
use Rattle.fr_undo.specs.Canonical.{Commit, Rises, commits_through}
use Rattle.fr_state.specs.Generations.{LogGeneration, AreOrdered}
use Rattle.fr_run.specs.Config.{Config}
use Rattle.fr_run_headline.specs.Issued.{Entry, issued_of, part_in}
use Rattle.fr_run_headline.proofs.VersionLists.{RiseIn, through, between, rise_wider, rise_between, kept_again, above_between, between_from_low, between_none, between_one, through_between, through_between_all, between_through, between_on, through_none, first_are_through, rise_within}
use Rattle.fr_run_headline.proofs.IssuedLists.{version_of, EntriesRise, GainsAbove, Reaches, agree, issued_stays}

abbrev pub commit_version : Commit → ℕ
commit_version x = x.0

abbrev pub commit_of : Config → ℕ → Entry → Option Commit
commit_of c tag x = part_in c tag x.version x.batch

-- what entries have of a tag
abbrev pub parts_of : Config → ℕ → List Entry → List Commit
parts_of c tag xs = filter_map (commit_of c tag) xs

-- what entries have of a tag above a version and through another
abbrev pub part_of : Config → ℕ → ℕ → ℕ → List Entry → List Commit
part_of c tag after upto xs = parts_of c tag (between version_of after upto xs)

-- ---- versions

-- the part of an entry has its version
same_version : (c : Config) (tag : ℕ) (x : Entry) (y : Commit) → commit_of c tag x ≡ Some y → y.0 ≡ x.version
same_version c tag x y e = whole x.batch e
  where
    some : (b : Bool) (batch : List Mutation) → cond b (Some (x.version, batch)) None ≡ Some y → y.0 ≡ x.version
    some true batch e = let z : Commit = (x.version, batch) in let k : z ≡ y = cc in sym (ap (λ (u : Commit). u.0) k)
    some false batch e = absurd (cc)

    whole : (o : Option (List Mutation)) → part_in c tag x.version o ≡ Some y → y.0 ≡ x.version
    whole None e = absurd (cc)
    whole (Some batch) e = some _ _ e

-- what entries have of a tag rises as they do
pub parts_rise : (c : Config) (tag a b : ℕ) (xs : List Entry) → RiseIn version_of a xs b → RiseIn commit_version a (parts_of c tag xs) b
parts_rise c tag a b [] r = r
parts_rise c tag a b (x ∷ xs) (lt, r) = go (commit_of c tag x) refl (parts_rise c tag x.version b xs r)
  where
    go : (o : Option Commit) → commit_of c tag x ≡ o → RiseIn commit_version x.version (parts_of c tag xs) b → RiseIn commit_version a (cons_option o (parts_of c tag xs)) b
    go None e rest = rise_wider commit_version a x.version b b (parts_of c tag xs) (omega arith) (omega arith) rest
    go (Some y) e rest =
        let same = same_version c tag x y e in
        ((omega (arith, same, lt)), rise_wider commit_version y.0 x.version b b (parts_of c tag xs) (omega (arith, same)) (omega arith) rest)

-- a part rises, above the version above which and through the one through which it is
pub part_rises : (c : Config) (tag a b after upto : ℕ) (xs : List Entry) → RiseIn version_of a xs b → after ≤ upto → RiseIn commit_version after (part_of c tag after upto xs) upto
part_rises c tag a b after upto xs r le = parts_rise c tag after upto (between version_of after upto xs) (rise_between version_of a b after upto xs r le)

-- as commits to a store
pub commits_rise : (a b : ℕ) (ys : List Commit) → RiseIn commit_version a ys b → Rises a ys b
commits_rise a b [] r = r
commits_rise a b (y ∷ ys) (lt, r) = (lt, commits_rise y.0 b ys r)

-- ---- one part after another

pub part_concat : (c : Config) (tag a b after mid upto : ℕ) (xs : List Entry) → RiseIn version_of a xs b → after ≤ mid → mid ≤ upto
    → part_of c tag after mid xs ++ part_of c tag mid upto xs ≡ part_of c tag after upto xs
part_concat c tag a b after mid upto xs r le lf =
    sym (filter_map-append (commit_of c tag) (between version_of after mid xs) (between version_of mid upto xs))
    ∙ ap (parts_of c tag) (between_on version_of a b after mid upto xs r le lf)

-- ---- cuts

-- of what entries have of a tag, those whose versions pass a test are what the entries have whose versions pass it
pub kept_parts : (c : Config) (tag : ℕ) (p : ℕ → Bool) (xs : List Entry) → filter (λ y. p y.0) (parts_of c tag xs) ≡ parts_of c tag (filter (λ x. p x.version) xs)
kept_parts c tag p [] = refl
kept_parts c tag p (x ∷ xs) = go (commit_of c tag x) refl (p x.version) refl (kept_parts c tag p xs)
  where
    go : (o : Option Commit) → commit_of c tag x ≡ o → (s : Bool) → p x.version ≡ s → filter (λ y. p y.0) (parts_of c tag xs) ≡ parts_of c tag (filter (λ x. p x.version) xs)
        → filter (λ y. p y.0) (cons_option o (parts_of c tag xs)) ≡ parts_of c tag (cond s (x ∷ filter (λ x. p x.version) xs) (filter (λ x. p x.version) xs))
    go None e false f rest = rest
    go None e true f rest = rw e rest
    go (Some y) e false f rest = cond-false (p y.0) (y ∷ filter (λ y. p y.0) (parts_of c tag xs)) (filter (λ y. p y.0) (parts_of c tag xs)) (ap p (same_version c tag x y e) ∙ f) ∙ rest
    go (Some y) e true f rest =
        cond-true (p y.0) (y ∷ filter (λ y. p y.0) (parts_of c tag xs)) (filter (λ y. p y.0) (parts_of c tag xs)) (ap p (same_version c tag x y e) ∙ f)
        ∙ ap (λ ys. y ∷ ys) rest
        ∙ ap (λ o. cons_option o (parts_of c tag (filter (λ x. p x.version) xs))) (sym e)

-- a cut of a part
pub part_through : (c : Config) (tag after mid upto : ℕ) (xs : List Entry) → mid ≤ upto → through commit_version mid (part_of c tag after upto xs) ≡ part_of c tag after mid xs
part_through c tag after mid upto xs le =
    kept_parts c tag (λ v. nat_le v mid) (between version_of after upto xs)
    ∙ ap (parts_of c tag) (through_between version_of after mid upto xs le)

-- a cut of a part, at whatever version
pub part_cut : (c : Config) (tag after upto end : ℕ) (xs : List Entry) → through commit_version end (part_of c tag after upto xs) ≡ part_of c tag after (min upto end) xs
part_cut c tag after upto end xs = elim (cases_lt upto end) [
  | inl short ↦
      let same : min upto end ≡ upto = omega (arith, short) in
      kept_parts c tag (λ v. nat_le v end) (between version_of after upto xs)
      ∙ ap (parts_of c tag) (through_between_all version_of after upto end xs (omega (arith, short)))
      ∙ ap (λ v. part_of c tag after v xs) (sym same)
  | inr long ↦
      let same : min upto end ≡ end = omega (arith, long) in
      part_through c tag after end upto xs long
      ∙ ap (λ v. part_of c tag after v xs) (sym same)
]

-- what is above a version of a part
pub part_above : (c : Config) (tag low after upto : ℕ) (xs : List Entry) → low ≤ after → filter (λ y. nat_lt after y.0) (part_of c tag low upto xs) ≡ part_of c tag after upto xs
part_above c tag low after upto xs le =
    kept_parts c tag (nat_lt after) (between version_of low upto xs)
    ∙ ap (parts_of c tag) (above_between version_of low after upto xs le)

-- of a part what is above a version, at whatever version
pub part_above_both : (c : Config) (tag low after upto : ℕ) (xs : List Entry) → filter (λ y. nat_lt after y.0) (part_of c tag low upto xs) ≡ part_of c tag (max low after) upto xs
part_above_both c tag low after upto xs = elim (cases_lt after low) [
  | inl below ↦
      let same : low ≡ max low after = omega (arith, below) in
      kept_parts c tag (nat_lt after) (between version_of low upto xs)
      ∙ ap (parts_of c tag) (kept_again (λ (x : Entry). nat_lt after x.version) (λ (x : Entry). nat_lt low x.version && nat_le x.version upto) xs (λ x k. above x (and_parts (nat_lt low x.version) (nat_le x.version upto) k).0 below))
      ∙ ap (λ v. part_of c tag v upto xs) same
  | inr beyond ↦
      let same : after ≡ max low after = omega (arith, beyond) in
      part_above c tag low after upto xs (omega (arith, beyond)) ∙ ap (λ v. part_of c tag v upto xs) same
]
  where
    above : (x : Entry) → nat_lt low x.version ≡ true → after < low → nat_lt after x.version ≡ true
    above x k below = lt-ltb after x.version (let l = ltb-true low x.version k in omega (arith, l, below))

-- there is no part between a version and one that is not above it
pub part_none : (c : Config) (tag after upto : ℕ) (xs : List Entry) → upto ≤ after → part_of c tag after upto xs ≡ []
part_none c tag after upto xs le = ap (parts_of c tag) (between_none version_of after upto xs le)

-- the part from the version before an entry's through its own is what that entry has
pub part_one : (c : Config) (tag a mid b : ℕ) (before : List Entry) (x : Entry) (after : List Entry) → RiseIn version_of a before mid → mid < x.version → RiseIn version_of x.version after b
    → part_of c tag mid x.version (before ++ x ∷ after) ≡ parts_of c tag (x ∷ [])
part_one c tag a mid b before x after low lt high = ap (parts_of c tag) (between_one version_of a mid b before x after low lt high)

-- the part from the version above which all rises is that of all through the other
pub part_from_low : (c : Config) (tag a b upto : ℕ) (xs : List Entry) → RiseIn version_of a xs b → part_of c tag a upto xs ≡ parts_of c tag (through version_of upto xs)
part_from_low c tag a b upto xs r = ap (parts_of c tag) (between_from_low version_of a b upto xs r)

-- the first records of a part are the part through the last of them
pub part_most : (c : Config) (tag a b after upto : ℕ) (xs : List Entry) → RiseIn version_of a xs b → after ≤ upto → (n : ℕ) (d : Commit) → n < length (part_of c tag after upto xs)
    → take (suc n) (part_of c tag after upto xs) ≡ part_of c tag after (get_or (part_of c tag after upto xs) n d).0 xs
part_most c tag a b after upto xs r le n d l =
    let ys = part_of c tag after upto xs in
    let rise = part_rises c tag a b after upto xs r le in
    first_are_through commit_version after upto ys n d rise l
    ∙ part_through c tag after (get_or ys n d).0 upto xs (rise_within commit_version after upto ys n d rise l)

-- ---- parts that agree

-- lists that are the same through a version have the same part through each lower one
pub part_same : (c : Config) (tag after upto cut : ℕ) (xs ys : List Entry) → upto ≤ cut → through version_of cut xs ≡ through version_of cut ys → part_of c tag after upto xs ≡ part_of c tag after upto ys
part_same c tag after upto cut xs ys le same =
    ap (parts_of c tag) (sym (between_through version_of after upto cut xs le) ∙ ap (between version_of after upto) same ∙ between_through version_of after upto cut ys le)

-- the commits through a version, of those that rise
pub commits_are_through : (a b upto : ℕ) (ys : List Commit) → RiseIn commit_version a ys b → commits_through upto ys ≡ through commit_version upto ys
commits_are_through a b upto [] r = refl
commits_are_through a b upto (y ∷ ys) (lt, r) = go (nat_le y.0 upto) refl (commits_are_through y.0 b upto ys r)
  where
    go : (s : Bool) → nat_le y.0 upto ≡ s → commits_through upto ys ≡ through commit_version upto ys
        → cond s (y ∷ commits_through upto ys) [] ≡ cond s (y ∷ through commit_version upto ys) (through commit_version upto ys)
    go true e rest = ap (λ zs. y ∷ zs) rest
    go false e rest = sym (through_none commit_version y.0 b upto ys r (let k = leb-false y.0 upto e in omega (arith, k)))

-- a list of generations and a longer one have the same parts through what the next generation was seeded to
pub part_agree : (entries : ℕ → List Entry) (top : ℕ → ℕ) (g : LogGeneration) (front : List LogGeneration) (next : LogGeneration) (more : List LogGeneration) → AreOrdered ((g ∷ front) ++ next ∷ more)
    → AllByRecursion (EntriesRise entries top) (next ∷ more) → (c : Config) (tag after upto : ℕ) → upto ≤ next.seeded_to
    → part_of c tag after upto (issued_of entries ((g ∷ front) ++ next ∷ more)) ≡ part_of c tag after upto (issued_of entries (g ∷ front))
part_agree entries top g front next more order rise c tag after upto le =
    part_same c tag after upto upto (issued_of entries ((g ∷ front) ++ next ∷ more)) (issued_of entries (g ∷ front)) (omega arith) (agree entries top g front next more order rise upto le)

-- where entries are gained only above the last versions, parts through a version that they reach stay
pub part_stays : (old new : ℕ → List Entry) (top : ℕ → ℕ) (gens : List LogGeneration) (c : Config) (tag after upto : ℕ) → AllByRecursion (GainsAbove old new top) gens → Reaches top gens upto
    → part_of c tag after upto (issued_of new gens) ≡ part_of c tag after upto (issued_of old gens)
part_stays old new top gens c tag after upto gains reaches =
    part_same c tag after upto upto (issued_of new gens) (issued_of old gens) (omega arith) (issued_stays old new top gens upto gains reaches)
