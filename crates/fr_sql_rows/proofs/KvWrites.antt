-- What a statement that writes makes of the keys.
use Rattle.std.proofs.Common.{◌≡◌, ◌≤◌, ℕ, ℤ, length, filter, map, slice_get, option_map, List, [], ◌∷◌, inl, Bool, true, false, cond, not, ◌&&◌, Some, None, Ok, refl, sym, ap, subst, ◌∙◌, arith}
use Rattle.std.specs.List.{AllByRecursion, list_all}
use Rattle.std.specs.declared.cmp.Ordering.{Ordering}
use Rattle.std.specs.declared.cmp.Ordering.TheVariants.{Less, Equal, Greater}
use Rattle.std.specs.Ordering.{is_le, is_lt, is_ge, ordering_reverse}
use Rattle.sqlite.specs.declared.types.Value.TheVariants.{Null, Int, Blob}
use Rattle.sqlite.specs.Order.{Row, column}
use Rattle.sqlite.specs.Term.{Term, lit, col, holds}
use Rattle.sqlite.specs.Ops.{binary}
use Rattle.sqlite.specs.Edit.{edit_of, next_rowid, is_taken, without_all}
use Rattle.sqlite.specs.Rowids.TheVariants.{Given, Chosen}
use Rattle.sqlite.specs.Tree.{Trees, put_row, rowid}
use Rattle.sqlite.specs.Program.{overlay}
use Rattle.sqlite.specs.Effect.{Database}
use Rattle.sqlite.specs.State.{State, Executes}
use Rattle.sqlite_rules.specs.Calls.{ids_of}
use Rattle.sqlite_rules.specs.Lists.{Has}
use Rattle.std.specs.declared.cmp.Ordering.{Ordering}
use Rattle.sqlite_rules.proofs.ListLemmas.{all_has, has_filtered}
use Rattle.sqlite_trees.proofs.ListLemmas.{all_weaker, all-filter}
use Rattle.sqlite_trees.proofs.TreeLemmas.{IsTable-put_row, all-put_row}
use Rattle.sqlite_value.proofs.OrderLemmas.{value_cmp-Blob}
use Rattle.fr_base.specs.Bytes.{bytes_cmp, is_same, bytes_exact, bytes_total}
use Rattle.fr_base.proofs.MapLemmas.{one_key, is_same-comm}
use Rattle.fr_mutation.specs.Mutation.{is_between}
use Rattle.fr_sql_rows.specs.Rows.{kv_row, IsKvRow, AreKvRows, AreUndoRows, key_of, value_of, is_at_key, value_in}
use Rattle.fr_sql_rows.specs.Connection.{IsLaidOut, Sets}
use Rattle.fr_sql_rows.proofs.StepLemmas.{cast_null, cast_int}
use Rattle.fr_sql_rows.proofs.TextLemmas.{plain_query, has_key, in_range, put_text, put_is, put_plain, change_text, change_is, change_plain, remove_text, remove_is, remove_plain}
use Rattle.fr_sql_rows.proofs.TableLemmas.{HasId, id_of, has_some, filter_table, left_is, one_put, absent, single_in, none_left, rest_left, put_in, single_put, taken_out}
use Rattle.fr_sql_rows.proofs.QueryLemmas.{truth_and, truth_both, found_where, plain_answer, shown_ids}
use Rattle.fr_sql_rows.proofs.WriteLemmas.{kv_table, Takes, inserts_kv, updates_kv, deletes_kv}

pub exact_key : (a b : List ℕ) → is_same a b ≡ true → a ≡ b
exact_key a b e = one_key bytes_exact a b e

pub have_ids : (rows : List Row) → AllByRecursion IsKvRow rows → AllByRecursion HasId rows
have_ids rows all = all_weaker IsKvRow HasId (λ r h. (h.0, ap rowid h.3)) rows all

pub AreKvRows-put : (rest : List Row) (id : ℤ) (k v : List ℕ) → AreKvRows rest → is_taken rest (kv_row id k v) ≡ false → filter (is_at_key k) rest ≡ [] → AreKvRows (put_row (kv_row id k v) rest)
AreKvRows-put rest id k v all fresh none = record {
  shaped = all-put_row IsKvRow (kv_row id k v) rest (id, k, v, refl) all.shaped;
  single = single_put key_of value_of is_same exact_key is_same-comm rest (kv_row id k v) fresh none all.single;
  table = IsTable-put_row (kv_row id k v) rest all.table;
}

pub AreKvRows-filter : (g : Row → Bool) (rows : List Row) → AreKvRows rows → AreKvRows (filter g rows)
AreKvRows-filter g rows all = record {
  shaped = all-filter IsKvRow g rows all.shaped;
  single = single_in key_of value_of is_same exact_key is_same-comm g rows all.single;
  table = filter_table g rows all.table;
}

-- ---- what the conditions say

pub where_key : (params row : Row) (q : List ℕ) → column params 0 ≡ Blob q → IsKvRow row → list_all (holds (params ∷ row ∷ [])) (has_key ∷ []) ≡ is_at_key q row
unfolding binary
where_key params row q given (id, k, v, is) = rw (is, given, value_cmp-Blob k q) (truth_and _)

pub ge_is_le : (a b : List ℕ) → is_ge (bytes_cmp a b) ≡ is_le (bytes_cmp b a)
ge_is_le a b = rw (bytes_total.antisymm b a) (turned (bytes_cmp a b))
  where
    turned : (o : Ordering) → is_ge o ≡ is_le (ordering_reverse o)
    turned Less = refl
    turned Equal = refl
    turned Greater = refl

pub where_between : (row : Row) (begin end : List ℕ) → IsKvRow row → list_all (holds ((Blob begin ∷ Blob end ∷ []) ∷ row ∷ [])) in_range ≡ is_between begin end (key_of row)
unfolding binary
where_between row begin end (id, k, v, is) = rw (is, value_cmp-Blob k begin, value_cmp-Blob k end) (truth_both _ _ ∙ ap (λ b. b && is_lt (bytes_cmp k end)) (ge_is_le k begin))

-- ---- the statements

put_news : (db : Trees) (k v : List ℕ) → (edit_of db kv_table [] Chosen 0 ((Null ∷ Blob k ∷ Blob v ∷ []) ∷ [])).news ≡ kv_row (next_rowid (db 0)) k v ∷ []
put_news db k v = rw cast_null refl

pub puts : (old new : State) (k v : List ℕ) (count : ℕ) → IsLaidOut old.now → value_in (old.now.trees 0) k ≡ None → Executes put_text (Blob k ∷ Blob v ∷ []) old new (Ok count) → Sets k (Some v) old.now new.now
puts old new k v count laid lacks h =
    let params = Blob k ∷ Blob v ∷ [] in
    let db = old.now.trees in
    let rows = db 0 in
    let e = (inserts_kv put_text params old new laid.schema put_plain count (lit Null ∷ col 0 0 ∷ col 0 1 ∷ []) put_is h).edits in
    let news = put_news db k v in
    let id = next_rowid rows in
    let put = one_put _ _ rows (kv_row id k v) refl news e.applies.fresh in
    let fresh = put.0 in
    let none = absent key_of value_of is_same exact_key is_same-comm rows k lacks in
    let all : new.now.trees 0 ≡ put_row (kv_row id k v) rows = e.applies.rows ∙ put.1 in
    let undo = e.applies.tables.1.0 (λ e. absurd (omega (arith, e))) in
    let meta = e.applies.tables.1.1.0 (λ e. absurd (omega (arith, e))) in
    record {
      laid = record { schema = e.laid; kv = subst AreKvRows (sym all) (AreKvRows-put rows id k v laid.kv fresh none); undo = subst AreUndoRows (sym undo) laid.undo; meta = (laid.meta.0, laid.meta.1, laid.meta.2, meta ∙ laid.meta.3) };
      values = λ q. ap (λ rs. value_in rs q) all ∙ put_in key_of value_of is_same exact_key is_same-comm rows rows (kv_row id k v) fresh none (λ q apart. refl) q;
      undo = undo;
      meta = meta;
    }

-- a key that has a value has one row
pub held_row : (rows : List Row) (k w : List ℕ) → AreKvRows rows → value_in rows k ≡ Some w → (id : ℤ) × (v : List ℕ) × (filter (is_at_key k) rows ≡ kv_row id k v ∷ [])
held_row rows k w all some = go (filter (is_at_key k) rows) refl some (all.single k)
  where
    go : (fs : List Row) → filter (is_at_key k) rows ≡ fs → option_map value_of (slice_get fs 0) ≡ Some w → length fs ≤ 1 → (id : ℤ) × (v : List ℕ) × (filter (is_at_key k) rows ≡ kv_row id k v ∷ [])
    go [] e some few = absurd (let clash = some in cc)
    go (r ∷ []) e some few =
        let own : Has (filter (is_at_key k) rows) r = subst (λ rs. Has rs r) (sym e) (inl refl) in
        let both = has_filtered (is_at_key k) rows r own in
        let shape = all_has IsKvRow rows r all.shaped both.0 in
        let key : shape.1 ≡ k = exact_key shape.1 k (subst (λ row. is_at_key k row ≡ true) shape.3 both.1) in
        (shape.0, shape.2, e ∙ ap (λ row. row ∷ []) (shape.3 ∙ ap (λ key. kv_row shape.0 key shape.2) key))
    go (r ∷ s ∷ fs) e some few = absurd (omega (arith, few))

change_news : (db : Trees) (id : ℤ) (k v : List ℕ) (rows : List Row) → rows ≡ (Int id ∷ kv_row id k v) ∷ [] → (edit_of db kv_table (ids_of rows) Given 1 rows).news ≡ kv_row id k v ∷ []
change_news db id k v rows is = rw (is, cast_int id) refl

pub changes : (old new : State) (k v w : List ℕ) (count : ℕ) → IsLaidOut old.now → value_in (old.now.trees 0) k ≡ Some w → Executes change_text (Blob k ∷ Blob v ∷ []) old new (Ok count) → Sets k (Some v) old.now new.now
changes old new k v w count laid holds_it h =
    let params = Blob k ∷ Blob v ∷ [] in
    let db = old.now.trees in
    let rows = db 0 in
    let r = updates_kv change_text params old new laid.schema change_plain count _ change_is h in
    let one = held_row rows k w laid.kv holds_it in
    let id = one.0 in
    let found = found_where IsKvRow (is_at_key k) (has_key ∷ []) Null params (overlay db []) (λ row shape. where_key params row k refl shape) rows laid.kv.shaped ∙ ap (map (λ row. params ∷ row ∷ [])) one.2 in
    let shown = plain_answer 0 (has_key ∷ []) (col 1 0 ∷ col 1 0 ∷ col 1 1 ∷ col 0 1 ∷ []) (overlay db []) params r.rows ((params ∷ kv_row id k one.1 ∷ []) ∷ []) found (omega arith) r.answer in
    let e = r.edits in
    let news = change_news db id k v r.rows shown in
    let rest = filter (λ row. not (is_at_key k row)) rows in
    let left : without_all rows (ids_of r.rows) ≡ rest =
    left_is (is_at_key k) rows (ids_of r.rows) laid.kv.table (have_ids rows laid.kv.shaped) (λ x. ap (λ rs. has_some (ids_of rs) x) shown ∙ ap (λ rs. has_some (map id_of rs) x) (sym one.2)) in
    let put = one_put _ _ rest (kv_row id k v) left news e.applies.fresh in
    let fresh = put.0 in
    let none = none_left key_of value_of is_same exact_key is_same-comm k rows in
    let all : new.now.trees 0 ≡ put_row (kv_row id k v) rest = e.applies.rows ∙ put.1 in
    let undo = e.applies.tables.1.0 (λ e. absurd (omega (arith, e))) in
    let meta = e.applies.tables.1.1.0 (λ e. absurd (omega (arith, e))) in
    record {
      laid = record { schema = e.laid; kv = subst AreKvRows (sym all) (AreKvRows-put rest id k v (AreKvRows-filter _ rows laid.kv) fresh none); undo = subst AreUndoRows (sym undo) laid.undo; meta = (laid.meta.0, laid.meta.1, laid.meta.2, meta ∙ laid.meta.3) };
      values = λ q. ap (λ rs. value_in rs q) all ∙ put_in key_of value_of is_same exact_key is_same-comm rest rows (kv_row id k v) fresh none (λ q apart. rest_left key_of value_of is_same exact_key is_same-comm k rows q apart) q;
      undo = undo;
      meta = meta;
    }

-- the keys that pass a test lose their values
pub record Loses (c : List ℕ → Bool) (old new : Database) : Type 0 where
  pub laid : IsLaidOut new
  pub values : (q : List ℕ) → value_in (new.trees 0) q ≡ cond (c q) None (value_in (old.trees 0) q)
  pub undo : new.trees 2 ≡ old.trees 2
  pub meta : new.trees 4 ≡ old.trees 4

loses : (terms : List Term) (params : Row) (count : ℕ) (old new : Database) (c : List ℕ → Bool) → IsLaidOut old → ((r : Row) → IsKvRow r → list_all (holds (params ∷ r ∷ [])) terms ≡ c (key_of r))
    → Takes kv_table (plain_query 0 terms (col 1 0 ∷ [])) params count old new → Loses c old new
loses terms params count old new c laid test t =
    let db = old.trees in
    let rows = db 0 in
    let found = found_where IsKvRow (λ r. c (key_of r)) terms Null params (overlay db []) test rows laid.kv.shaped in
    let same = shown_ids 0 terms (overlay db []) params t.rows (filter (λ r. c (key_of r)) rows) found t.answer in
    let ids = have_ids rows laid.kv.shaped in
    let e = t.edits in
    let all : new.trees 0 ≡ without_all rows (ids_of t.rows) = e.applies.rows in
    let left = left_is (λ r. c (key_of r)) rows (ids_of t.rows) laid.kv.table ids same in
    let undo = e.applies.tables.1.0 (λ e. absurd (omega (arith, e))) in
    let meta = e.applies.tables.1.1.0 (λ e. absurd (omega (arith, e))) in
    record {
      laid = record { schema = e.laid; kv = subst AreKvRows (sym (all ∙ left)) (AreKvRows-filter _ rows laid.kv); undo = subst AreUndoRows (sym undo) laid.undo; meta = (laid.meta.0, laid.meta.1, laid.meta.2, meta ∙ laid.meta.3) };
      values = λ q. ap (λ rs. value_in rs q) all ∙ taken_out key_of value_of is_same exact_key is_same-comm c rows (ids_of t.rows) laid.kv.table ids same q;
      undo = undo;
      meta = meta;
    }

pub removes : (old new : State) (k : List ℕ) (count : ℕ) → IsLaidOut old.now → Executes remove_text (Blob k ∷ []) old new (Ok count) → Sets k None old.now new.now
removes old new k count laid h =
    let l = loses (has_key ∷ []) (Blob k ∷ []) count old.now new.now (λ q. is_same q k) laid (λ r shape. where_key (Blob k ∷ []) r k refl shape)
    (deletes_kv remove_text (Blob k ∷ []) old new laid.schema remove_plain count _ remove_is h) in
    record { laid = l.laid; values = λ q. l.values q ∙ ap (λ b. cond b None (value_in (old.now.trees 0) q)) (is_same-comm q k); undo = l.undo; meta = l.meta }
