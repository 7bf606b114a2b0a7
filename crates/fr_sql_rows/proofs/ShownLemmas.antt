-- What the two queries show.
use Rattle.std.proofs.Common.{◌≡◌, ℕ, List, [], ◌∷◌, map, filter, length, true, Result, Ok, Err, OnOk, IfOk, inl, refl, ap, subst, ◌∙◌}
use Rattle.sqlite.specs.declared.error.Error.{Error}
use Rattle.sqlite.specs.Listing.{understood}
use Rattle.std.specs.List.{AllByRecursion}
use Rattle.std.specs.List.Sorted.{IsPermutation}
use Rattle.std.proofs.lemmas.List.Sorted.{length_permutation, IsPermutation-sym}
use Rattle.sqlite.specs.declared.types.Value.TheVariants.{Null}
use Rattle.sqlite.specs.Order.{Row}
use Rattle.sqlite.specs.Term.{Term, col, eval_all}
use Rattle.sqlite.specs.Query.{IsSureAnswer}
use Rattle.sqlite.specs.Tree.{Trees}
use Rattle.sqlite.specs.Program.{overlay}
use Rattle.sqlite.specs.State.{State, Shown}
use Rattle.sqlite.proofs.Callers.{IsPlain, reads_as, one_permutation}
use Rattle.sqlite_trees.proofs.ListLemmas.{all-permutation}
use Rattle.fr_sql_rows.specs.Schema.{schema}
use Rattle.fr_sql_rows.specs.Connection.{IsAtRest, Keeps}
use Rattle.fr_sql_rows.proofs.TextLemmas.{plain_query}
use Rattle.fr_sql_rows.proofs.FaultLemmas.{keeps, shown}
use Rattle.fr_sql_rows.proofs.QueryLemmas.{found_where, plain_permutation}
use Rattle.fr_sql_rows.proofs.ListLemmas.{map_length}
use Rattle.fr_sql_rows.specs.Found.{ObeysStore, versions_of, version_of, IsBetween}
use Rattle.fr_sql_rows.proofs.OpenTexts.{versions_text, versions_is, versions_plain, versions_unlisted, undo_text, undo_is, undo_plain, undo_unlisted}

all_there : (rows : List Row) → filter (λ r. true) rows ≡ rows
all_there [] = refl
all_there (r ∷ rows) = ap (λ rs. r ∷ rs) (all_there rows)

any_rows : (rows : List Row) → AllByRecursion (λ r. Unit {0}) rows
any_rows [] = tt
any_rows (r ∷ rows) = (tt, any_rows rows)

mapped : (project : List Term) (f : Row → Row) → ((r : Row) → eval_all project ([] ∷ r ∷ []) ≡ f r) → (rows : List Row) → map (eval_all project) (map (λ r. [] ∷ r ∷ []) rows) ≡ map f rows
mapped project f same [] = refl
mapped project f same (r ∷ rows) = (λ j. same r j ∷ mapped project f same rows j)

-- a query with no condition and no order shows of each row what it asks for
pub shows_all : (tree : ℕ) (project : List Term) (f : Row → Row) (db : Trees) (rows shown : List Row) → ((r : Row) → eval_all project ([] ∷ r ∷ []) ≡ f r) → db tree ≡ rows
    → IsSureAnswer (plain_query tree [] project) db [] shown → IsPermutation (map f rows) shown
shows_all tree project f db rows shown same is answer =
    let found = found_where (λ r. Unit {0}) (λ r. true) [] Null [] db (λ r shape. refl) (db tree) (any_rows (db tree)) in
    subst (λ xs. IsPermutation xs shown) (ap (λ rs. map (eval_all project) (map (λ r. [] ∷ r ∷ []) rs)) (all_there (db tree)) ∙ mapped project f same (db tree) ∙ ap (map f) is)
    (plain_permutation tree [] project db [] shown _ found answer)

pub shows_versions : (old new : State) (shown : List Row) → ObeysStore old.now → Shown versions_text [] old new shown → IsPermutation (map versions_of (old.now.trees 4)) shown
shows_versions old new shown o h =
    shows_all 4 (col 1 2 ∷ col 1 3 ∷ []) versions_of (overlay old.now.trees []) (old.now.trees 4) shown (λ r. refl) refl
    (reads_as versions_text [] old new schema o.schema _ versions_is versions_plain versions_unlisted shown h).answer

pub shows_undo : (old new : State) (shown : List Row) → ObeysStore old.now → Shown undo_text [] old new shown → IsPermutation (map version_of (old.now.trees 2)) shown
shows_undo old new shown o h =
    shows_all 2 (col 1 1 ∷ []) version_of (overlay old.now.trees []) (old.now.trees 2) shown (λ r. refl) refl
    (reads_as undo_text [] old new schema o.schema _ undo_is undo_plain undo_unlisted shown h).answer

-- where one row is shown there is one
pub one_there : (f : Row → Row) (rows : List Row) (row : Row) → IsPermutation (map f rows) (row ∷ []) → (r : Row) × (rows ≡ r ∷ []) × (row ≡ f r)
one_there f [] row same = absurd (let e = length_permutation _ _ same in cc)
one_there f (r ∷ []) row same = let e = one_permutation (f r) (row ∷ []) same in (r, refl, let first : row ≡ f r = cc in first)
one_there f (r ∷ s ∷ rows) row same = absurd (let e = length_permutation _ _ same in cc)

unmapped : (P Q : Row → Type 0) (f : Row → Row) → ((r : Row) → P (f r) → Q r) → (rows : List Row) → AllByRecursion P (map f rows) → AllByRecursion Q rows
unmapped P Q f step [] all = tt
unmapped P Q f step (r ∷ rows) all = (step r all.0, unmapped P Q f step rows all.1)

-- what holds of each version that is shown holds of each row
pub between_all : (floor applied : ℕ) (rows shown : List Row) → IsPermutation (map version_of rows) shown → AllByRecursion (IsBetween floor applied 0) shown → AllByRecursion (IsBetween floor applied 1) rows
between_all floor applied rows shown same all =
    unmapped (IsBetween floor applied 0) (IsBetween floor applied 1) version_of (λ r h. h) rows (all-permutation (IsBetween floor applied 0) shown (map version_of rows) (IsPermutation-sym _ _ same) all)

pub shown_count : (rows shown : List Row) → IsPermutation (map version_of rows) shown → length shown ≡ length rows
shown_count rows shown same = length_permutation _ _ same ∙ map_length version_of rows

-- a query that is answered changes nothing, and shows what it is to show
pub kept_ok : {V : Type 0} (items : V → List Row) (text : List ℕ) (old new : State) (r : Result V Error) → IsAtRest old → ObeysStore old.now → IsPlain (understood schema text)
    → IfOk r (λ v. Shown text [] old new (items v)) → OnOk r (Keeps old new)
kept_ok items text old new (Err e) rest o plain h = tt
kept_ok items text old new (Ok v) rest o plain h = let same = shown old new text [] schema (items v) o.schema plain h in keeps old new rest (inl same) same.0.is_open

pub shown_ok : {V : Type 0} (items : V → List Row) (P Q : List Row → Type 0) (r : Result V Error) → ((rows : List Row) → P rows → Q rows) → IfOk r (λ v. P (items v)) → IfOk r (λ v. Q (items v))
shown_ok items P Q (Err e) step h = tt
shown_ok items P Q (Ok v) step h = step (items v) h
