-- How many undo rows there are.
use Rattle.std.proofs.Common.{◌≡◌, ◌≤◌, ℕ, ◌+◌, ◌-◌, suc, length, map as list_map, filter, slice_get, option_map, List, [], ◌∷◌, Bool, true, false, cond, Option, None, Some, refl, sym, ap, ◌∙◌, arith}
use Rattle.std.specs.Prelude.{is_some}
use Rattle.std.specs.List.{AllByRecursion, list_any}
use Rattle.std.specs.Ordering.{eq_by_cmp, is_eq}
use Rattle.std.specs.Cmp.{eq_by_cmp_equiv, tied_itself}
use Rattle.std.specs.FinMap as map
use Rattle.sqlite.specs.Order.{Row}
use Rattle.sqlite.specs.Effect.{Database}
use Rattle.sqlite_rules.specs.Lists.{Has}
use Rattle.sqlite_rules.proofs.ListLemmas.{all_from, has_kept}
use Rattle.fr_base.specs.Map.{map_by, put}
use Rattle.fr_base.proofs.MapLemmas.{get-map_by}
use Rattle.fr_undo.specs.State.{Place, place_cmp, UndoRows}
use Rattle.fr_undo.proofs.UndoLemmas.{place_total, place_exact}
use Rattle.fr_sql_rows.specs.Rows.{AreUndoRows, undo_in, before_in, before_of, place_of, is_at_place}
use Rattle.fr_sql_rows.specs.Connection.{IsLaidOut}

own_place : (r : Row) → is_at_place (place_of r) r ≡ true
own_place r = ap is_eq (tied_itself place_total (place_of r))

none_more : (p : Place) (rows : List Row) → length (filter (is_at_place p) rows) ≤ 0 → list_any (eq_by_cmp place_cmp p) (list_map place_of rows) ≡ false
none_more p [] few = refl
none_more p (r ∷ rows) few = go (is_at_place p r) refl (none_more p rows)
  where
    go : (b : Bool) → is_at_place p r ≡ b → (length (filter (is_at_place p) rows) ≤ 0 → list_any (eq_by_cmp place_cmp p) (list_map place_of rows) ≡ false) → list_any (eq_by_cmp place_cmp p) (list_map place_of (r ∷ rows)) ≡ false
    go true e more = absurd (let most : suc (length (filter (is_at_place p) rows)) ≤ 0 = rw e at few in omega arith)
    go false e more =
        let apart : eq_by_cmp place_cmp p (place_of r) ≡ false = sym ((eq_by_cmp_equiv place_total).symm (place_of r) p) ∙ e in
        rw apart (more (rw e at few))

single_rest : (r : Row) (rows : List Row) → ((p : Place) → length (filter (is_at_place p) (r ∷ rows)) ≤ 1) → (p : Place) → length (filter (is_at_place p) rows) ≤ 1
single_rest r rows single p = go (is_at_place p r) refl
  where
    go : (b : Bool) → is_at_place p r ≡ b → length (filter (is_at_place p) rows) ≤ 1
    go true e = let most : suc (length (filter (is_at_place p) rows)) ≤ 1 = rw e at (single p) in omega arith
    go false e = rw e at (single p)

first_alone : (r : Row) (rows : List Row) → ((p : Place) → length (filter (is_at_place p) (r ∷ rows)) ≤ 1) → length (filter (is_at_place (place_of r)) rows) ≤ 0
first_alone r rows single = let most : suc (length (filter (is_at_place (place_of r)) rows)) ≤ 1 = rw (own_place r) at (single (place_of r)) in omega arith

-- a map of places that have one row each has as many entries
len_by : (f : Place → Option (Option (List ℕ))) (rows : List Row) → ((p : Place) → length (filter (is_at_place p) rows) ≤ 1) → AllByRecursion (λ r. is_some (f (place_of r)) ≡ true) rows
    → map.len (map_by {R = place_cmp} f (list_map place_of rows)) ≡ length rows
unfolding map_by
len_by f [] single has = map.len-empty place_cmp _
len_by f (r ∷ rows) single has = put_one (len_by f rows (single_rest r rows single) has.1) (f (place_of r)) has.0
  where
    more : UndoRows
    more = map_by f (list_map place_of rows)

    absent : map.get more (place_of r) ≡ None
    absent =
        get-map_by place_total place_exact f (list_map place_of rows) (place_of r)
        ∙ ap (λ b. cond b (f (place_of r)) None) (none_more (place_of r) rows (first_alone r rows single))

    put_one : map.len more ≡ length rows → (o : Option (Option (List ℕ))) → is_some o ≡ true → map.len (put more (place_of r) o) ≡ suc (length rows)
    put_one more_len None h = absurd cc
    put_one more_len (Some v) h =
        map.len-insert place_total more (place_of r) v
        ∙ ap (λ o. cond (is_some o) (map.len more) (map.len more + 1)) absent
        ∙ ap (λ n. n + 1) more_len
        ∙ omega arith

some_first : (xs : List Row) (x : Row) → Has xs x → is_some (option_map before_of (slice_get xs 0)) ≡ true
some_first [] x has = absurd has
some_first (y ∷ xs) x has = refl

-- there are as many undo rows as the table has rows
pub undo_len : (rows : List Row) → AreUndoRows rows → map.len (undo_in rows) ≡ length rows
undo_len rows are =
    len_by (before_in rows) rows are.single (all_from _ rows (λ x has. some_first (filter (is_at_place (place_of x)) rows) x (has_kept (is_at_place (place_of x)) rows x has (own_place x))))

-- what is left once some are gone
pub left_len : (old new : Database) (gone rows : ℕ) → IsLaidOut old → IsLaidOut new → gone + length (new.trees 2) ≡ length (old.trees 2) → rows ≡ map.len (undo_in (old.trees 2)) → rows - gone ≡ map.len (undo_in (new.trees 2))
left_len old new gone rows before after counted is =
    let first = is ∙ undo_len (old.trees 2) before.undo in
    let last = undo_len (new.trees 2) after.undo in
    let left : rows - gone ≡ length (new.trees 2) = omega (arith, first, counted) in
    left ∙ sym last
