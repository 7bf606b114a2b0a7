-- What a query answers.
use Rattle.std.proofs.Common.{◌≡◌, ◌≤◌, ◌&&◌, ℕ, List, [], ◌∷◌, map, filter, flat_map, length, Bool, true, false, Some, refl, sym, ap, subst, ◌∙◌, arith}
use Rattle.std.specs.List.{AllByRecursion, list_all}
use Rattle.sqlite.specs.declared.types.Value.{Value}
use Rattle.sqlite.specs.declared.types.Value.TheVariants.{Null}
use Rattle.sqlite.specs.Order.{Row}
use Rattle.sqlite.specs.Term.{Term, col, holds, Env, eval_all}
use Rattle.sqlite.specs.Ops.{is_true, from_truth}
use Rattle.sqlite.specs.Query.{inner, end, matches_as, IsSureAnswer, output, page, Output}
use Rattle.sqlite.specs.Tree.{Trees}
use Rattle.std.specs.List.Sorted.{IsPermutation}
use Rattle.std.proofs.lemmas.List.Sorted.{length_permutation, list_any-IsPermutation, IsPermutation-map}
use Rattle.sqlite.proofs.Callers.{one_permutation}
use Rattle.sqlite_rules.specs.Calls.{ids_of}
use Rattle.sqlite.specs.Tree.{has_rowid}
use Rattle.fr_sql_rows.proofs.TextLemmas.{plain_query}
use Rattle.fr_sql_rows.proofs.TableLemmas.{id_of, has_some}
use Rattle.fr_sql_rows.proofs.ListLemmas.{map_length}

pub truth_is : (b : Bool) → is_true (from_truth (Some b)) ≡ b
truth_is true = refl
truth_is false = refl

pub truth_and : (b : Bool) → (is_true (from_truth (Some b)) && true) ≡ b
truth_and true = refl
truth_and false = refl

pub truth_both : (a b : Bool) → (is_true (from_truth (Some a)) && (is_true (from_truth (Some b)) && true)) ≡ (a && b)
truth_both true true = refl
truth_both true false = refl
truth_both false b = refl

-- each way to fill the slots is a row that passes
pub found_where : (P : Row → Type 0) (c : Row → Bool) (terms : List Term) (lost : Value) (params : Row) (db : Trees) → ((r : Row) → P r → list_all (holds (params ∷ r ∷ [])) terms ≡ c r)
    → (rows : List Row) → AllByRecursion P rows → flat_map (λ r. matches_as lost db terms end (params ∷ r ∷ [])) rows ≡ map (λ r. params ∷ r ∷ []) (filter c rows)
found_where P c terms lost params db test [] all = refl
found_where P c terms lost params db test (r ∷ rows) all = step (c r) (test r all.0) refl (found_where P c terms lost params db test rows all.1)
  where
    step : (b : Bool) → list_all (holds (params ∷ r ∷ [])) terms ≡ c r → c r ≡ b → flat_map (λ r. matches_as lost db terms end (params ∷ r ∷ [])) rows ≡ map (λ r. params ∷ r ∷ []) (filter c rows)
        → flat_map (λ r. matches_as lost db terms end (params ∷ r ∷ [])) (r ∷ rows) ≡ map (λ r. params ∷ r ∷ []) (filter c (r ∷ rows))
    step true h e more = rw (h, e) (ap (λ xs. (params ∷ r ∷ []) ∷ xs) more)
    step false h e more = rw (h, e) more

no_permutation : {X : Type 0} (ys : List X) → IsPermutation [] ys → ys ≡ []
no_permutation [] h = refl
no_permutation (y ∷ ys) h = absurd (let e = length_permutation [] (y ∷ ys) h in cc)

-- the answer of a query with no order, if at most one way to fill its slots passes
pub plain_answer : (tree : ℕ) (filter project : List Term) (db : Trees) (params : Row) (rows : List Row) (m : List Env) → matches_as Null db filter (inner tree end) (params ∷ []) ≡ m → length m ≤ 1
    → IsSureAnswer (plain_query tree filter project) db params rows → rows ≡ map (eval_all project) m
plain_answer tree filter project db params rows m e few h = go m e few
  where
    go : (m : List Env) → matches_as Null db filter (inner tree end) (params ∷ []) ≡ m → length m ≤ 1 → rows ≡ map (eval_all project) m
    go [] e few =
        let a = h Null in
        let kept : a.kept ≡ [] = a.distinct ∙ ap (map (output (plain_query tree filter project))) (a.grouped ∙ e) in
        let ordered = no_permutation a.ordered (subst (λ k. IsPermutation k a.ordered) kept a.same) in
        a.shown ∙ ap (λ xs. page (plain_query tree filter project) params (map (λ (p : Output). p.1) xs)) ordered
    go (x ∷ []) e few =
        let a = h Null in
        let kept : a.kept ≡ output (plain_query tree filter project) x ∷ [] = a.distinct ∙ ap (map (output (plain_query tree filter project))) (a.grouped ∙ e) in
        let ordered = one_permutation (output (plain_query tree filter project) x) a.ordered (subst (λ k. IsPermutation k a.ordered) kept a.same) in
        a.shown ∙ ap (λ xs. page (plain_query tree filter project) params (map (λ (p : Output). p.1) xs)) ordered
    go (x ∷ y ∷ m) e few = absurd (omega arith)

-- the answer of a query with no order shows what was found, in some order
pub plain_permutation : (tree : ℕ) (filter project : List Term) (db : Trees) (params : Row) (rows : List Row) (m : List Env) → matches_as Null db filter (inner tree end) (params ∷ []) ≡ m
    → IsSureAnswer (plain_query tree filter project) db params rows → IsPermutation (map (eval_all project) m) rows
plain_permutation tree filter project db params rows m e h =
    let q = plain_query tree filter project in
    let a = h Null in
    let kept : a.kept ≡ map (output q) m = a.distinct ∙ ap (map (output q)) (a.grouped ∙ e) in
    let same : IsPermutation (map (output q) m) a.ordered = subst (λ k. IsPermutation k a.ordered) kept a.same in
    subst (IsPermutation (map (eval_all project) m)) (sym a.shown) (subst (λ xs. IsPermutation xs (map (λ (p : Output). p.1) a.ordered)) (seconds m) (IsPermutation-map (λ (p : Output). p.1) _ _ same))
  where
    seconds : (m : List Env) → map (λ (p : Output). p.1) (map (output (plain_query tree filter project)) m) ≡ map (eval_all project) m
    seconds [] = refl
    seconds (x ∷ m) = ap (λ xs. eval_all project x ∷ xs) (seconds m)

ids_same : (params : Row) (found : List Row) → ids_of (map (eval_all (col 1 0 ∷ [])) (map (λ r. params ∷ r ∷ []) found)) ≡ map id_of found
ids_same params [] = refl
ids_same params (r ∷ rs) = ap (λ l. id_of r ∷ l) (ids_same params rs)

-- the rowids that a query of rowids shows are those of the rows found
pub shown_ids : (tree : ℕ) (filter : List Term) (db : Trees) (params : Row) (rows found : List Row) → matches_as Null db filter (inner tree end) (params ∷ []) ≡ map (λ r. params ∷ r ∷ []) found
    → IsSureAnswer (plain_query tree filter (col 1 0 ∷ [])) db params rows → (x : Row) → has_some (ids_of rows) x ≡ has_some (map id_of found) x
shown_ids tree filter db params rows found e h x =
    let same = plain_permutation tree filter (col 1 0 ∷ []) db params rows _ e h in
    sym (list_any-IsPermutation (λ id. has_rowid id x) (map id_of found) (ids_of rows) (subst (λ ids. IsPermutation ids (ids_of rows)) (ids_same params found) (IsPermutation-map id_of _ _ same)))

-- and it shows as many as were found
pub shown_length : (tree : ℕ) (filter : List Term) (db : Trees) (params : Row) (rows found : List Row) → matches_as Null db filter (inner tree end) (params ∷ []) ≡ map (λ r. params ∷ r ∷ []) found
    → IsSureAnswer (plain_query tree filter (col 1 0 ∷ [])) db params rows → length rows ≡ length found
shown_length tree filter db params rows found e h =
    length_permutation _ rows (plain_permutation tree filter (col 1 0 ∷ []) db params rows _ e h) ∙ map_length _ (map (λ r. params ∷ r ∷ []) found) ∙ map_length _ found
