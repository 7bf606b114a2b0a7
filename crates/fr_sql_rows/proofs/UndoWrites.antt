-- What a statement that writes makes of the undo rows.
use Rattle.std.proofs.Common.{◌≡◌, ◌<◌, ◌+◌, length, inl, inr, ℕ, ℤ, pos, filter, List, [], ◌∷◌, Bool, true, false, cond, not, Option, Some, None, Ok, refl, sym, ap, subst, ◌∙◌, arith}
use Rattle.std.specs.Prelude.{nat_le, nat_lt}
use Rattle.std.specs.List.{AllByRecursion, list_all}
use Rattle.std.specs.Ordering.{is_eq, is_le, is_gt, int_cmp}
use Rattle.std.proofs.lemmas.List.Filters.{length-filter_both}
use Rattle.std.proofs.lemmas.Bool.Decides.{leb_tells}
use Rattle.std.proofs.lemmas.Bool.{ltb-true, lt-ltb, leb-true}
use Rattle.std.proofs.lemmas.Cmp.{eq_by_cmp_equiv}
use Rattle.sqlite.specs.declared.types.Value.TheVariants.{Null, Int, Blob}
use Rattle.sqlite.specs.Order.{Row}
use Rattle.sqlite.specs.Term.{Term, lit, col, holds}
use Rattle.sqlite.specs.Ops.{binary}
use Rattle.sqlite.specs.Edit.{edit_of, next_rowid, is_taken, without_all}
use Rattle.sqlite.specs.Rowids.TheVariants.{Chosen}
use Rattle.sqlite.specs.Tree.{Trees, put_row, rowid}
use Rattle.sqlite.specs.Program.{overlay}
use Rattle.sqlite.specs.Effect.{Database}
use Rattle.sqlite.specs.State.{State, Executes}
use Rattle.sqlite_rules.specs.Calls.{ids_of}
use Rattle.sqlite_trees.proofs.ListLemmas.{all_weaker, all-filter}
use Rattle.sqlite_trees.proofs.TreeLemmas.{IsTable-put_row, all-put_row}
use Rattle.sqlite_value.proofs.OrderLemmas.{value_cmp-Int}
use Rattle.fr_base.proofs.MapLemmas.{one_key}
use Rattle.fr_undo.specs.State.{Place, place_cmp}
use Rattle.fr_undo.proofs.UndoLemmas.{place_total, place_exact}
use Rattle.fr_sql_rows.specs.Rows.{undo_row, as_value, blob_in, IsUndoRow, AreKvRows, AreUndoRows, place_of, before_of, is_at_place, before_in}
use Rattle.fr_sql_rows.specs.Connection.{IsLaidOut, Notes, Retains}
use Rattle.fr_sql_rows.proofs.StepLemmas.{cast_null, cast_int}
use Rattle.fr_sql_rows.proofs.TextLemmas.{plain_query, note_text, note_is, note_plain, note_none_text, note_none_is, note_none_plain, is_above, drop_above_text, drop_above_is, drop_above_plain, is_through, drop_through_text, drop_through_is, drop_through_plain}
use Rattle.fr_sql_rows.proofs.TableLemmas.{HasId, filter_table, left_is, one_put, absent, single_in, put_in, single_put, taken_out}
use Rattle.fr_sql_rows.proofs.QueryLemmas.{truth_and, found_where, shown_ids, shown_length}
use Rattle.fr_sql_rows.proofs.WriteLemmas.{undo_table, Puts, Takes, inserts_undo, deletes_undo}

abbrev pub same_place : Place → Place → Bool
same_place a b = is_eq (place_cmp a b)

pub exact_place : (a b : Place) → same_place a b ≡ true → a ≡ b
exact_place a b e = one_key place_exact a b e

pub same_place-comm : (a b : Place) → same_place a b ≡ same_place b a
same_place-comm a b = (eq_by_cmp_equiv place_total).symm a b

have_ids : (rows : List Row) → AllByRecursion IsUndoRow rows → AllByRecursion HasId rows
have_ids rows all = all_weaker IsUndoRow HasId (λ r h. (h.0, ap rowid h.4)) rows all

pub blob_of_value : (before : Option (List ℕ)) → blob_in (as_value before) ≡ before
blob_of_value None = refl
blob_of_value (Some b) = refl

AreUndoRows-put : (rest : List Row) (id : ℤ) (version : ℕ) (k : List ℕ) (before : Option (List ℕ)) → AreUndoRows rest → is_taken rest (undo_row id version k before) ≡ false → filter (is_at_place (version, k)) rest ≡ []
    → AreUndoRows (put_row (undo_row id version k before) rest)
AreUndoRows-put rest id version k before all fresh none = record {
  shaped = all-put_row IsUndoRow (undo_row id version k before) rest (id, version, k, as_value before ∷ [], refl) all.shaped;
  single = single_put place_of before_of same_place exact_place same_place-comm rest (undo_row id version k before) fresh none all.single;
  table = IsTable-put_row (undo_row id version k before) rest all.table;
}

AreUndoRows-filter : (g : Row → Bool) (rows : List Row) → AreUndoRows rows → AreUndoRows (filter g rows)
AreUndoRows-filter g rows all = record {
  shaped = all-filter IsUndoRow g rows all.shaped;
  single = single_in place_of before_of same_place exact_place same_place-comm g rows all.single;
  table = filter_table g rows all.table;
}

note_news : (db : Trees) (version : ℕ) (k b : List ℕ) → (edit_of db undo_table [] Chosen 0 ((Null ∷ Int (pos version) ∷ Blob k ∷ Blob b ∷ []) ∷ [])).news ≡ undo_row (next_rowid (db 2)) version k (Some b) ∷ []
note_news db version k b = rw (cast_null, cast_int (pos version)) refl

note_none_news : (db : Trees) (version : ℕ) (k : List ℕ) → (edit_of db undo_table [] Chosen 0 ((Null ∷ Int (pos version) ∷ Blob k ∷ Null ∷ []) ∷ [])).news ≡ undo_row (next_rowid (db 2)) version k None ∷ []
note_none_news db version k = rw (cast_null, cast_int (pos version)) refl

noted : (old new : Database) (version : ℕ) (k : List ℕ) (before : Option (List ℕ)) (rows : List Row) → IsLaidOut old → before_in (old.trees 2) (version, k) ≡ None
    → (edit_of old.trees undo_table [] Chosen 0 rows).news ≡ undo_row (next_rowid (old.trees 2)) version k before ∷ [] → Puts undo_table rows old new → Notes version k before old new
noted old new version k before sources laid lacks news p =
    let e = p.edits in
    let rows = old.trees 2 in
    let row = undo_row (next_rowid rows) version k before in
    let put = one_put _ _ rows row refl news e.applies.fresh in
    let none = absent place_of before_of same_place exact_place same_place-comm rows (version, k) lacks in
    let all : new.trees 2 ≡ put_row row rows = e.applies.rows ∙ put.1 in
    let kv = e.applies.tables.0 (λ e. absurd (omega (arith, e))) in
    let meta = e.applies.tables.1.1.0 (λ e. absurd (omega (arith, e))) in
    record {
      laid = record { schema = e.laid; kv = subst AreKvRows (sym kv) laid.kv; undo = subst AreUndoRows (sym all) (AreUndoRows-put rows (next_rowid rows) version k before laid.undo put.0 none); meta = (laid.meta.0, laid.meta.1, laid.meta.2, meta ∙ laid.meta.3) };
      kv = kv;
      rows = λ p. ap (λ rs. before_in rs p) all ∙ put_in place_of before_of same_place exact_place same_place-comm rows rows row put.0 none (λ q apart. refl) p
          ∙ ap (λ b. cond (same_place (version, k) p) (Some b) (before_in rows p)) (blob_of_value before);
      meta = meta;
    }

pub notes : (old new : State) (version : ℕ) (k b : List ℕ) (count : ℕ) → IsLaidOut old.now → before_in (old.now.trees 2) (version, k) ≡ None → Executes note_text (Int (pos version) ∷ Blob k ∷ Blob b ∷ []) old new (Ok count)
    → Notes version k (Some b) old.now new.now
notes old new version k b count laid lacks h =
    noted old.now new.now version k (Some b) _ laid lacks (note_news old.now.trees version k b)
    (inserts_undo note_text (Int (pos version) ∷ Blob k ∷ Blob b ∷ []) old new laid.schema note_plain count (lit Null ∷ col 0 0 ∷ col 0 1 ∷ col 0 2 ∷ []) note_is h)

pub notes_none : (old new : State) (version : ℕ) (k : List ℕ) (count : ℕ) → IsLaidOut old.now → before_in (old.now.trees 2) (version, k) ≡ None → Executes note_none_text (Int (pos version) ∷ Blob k ∷ []) old new (Ok count)
    → Notes version k None old.now new.now
notes_none old new version k count laid lacks h =
    noted old.now new.now version k None _ laid lacks (note_none_news old.now.trees version k)
    (inserts_undo note_none_text (Int (pos version) ∷ Blob k ∷ []) old new laid.schema note_none_plain count (lit Null ∷ col 0 0 ∷ col 0 1 ∷ lit Null ∷ []) note_none_is h)

-- ---- rows dropped

pub keeps_if : {X : Type 0} (b : Bool) (x y : X) → cond (not b) y x ≡ cond b x y
keeps_if true x y = refl
keeps_if false x y = refl

retains : (terms : List Term) (params : Row) (count : ℕ) (old new : Database) (test : Place → Bool) → IsLaidOut old → ((r : Row) → IsUndoRow r → list_all (holds (params ∷ r ∷ [])) terms ≡ not (test (place_of r)))
    → Takes undo_table (plain_query 2 terms (col 1 0 ∷ [])) params count old new → Retains test old new
retains terms params count old new test laid says t =
    let db = old.trees in
    let rows = db 2 in
    let c = λ (p : Place). not (test p) in
    let found = found_where IsUndoRow (λ r. c (place_of r)) terms Null params (overlay db []) says rows laid.undo.shaped in
    let same = shown_ids 2 terms (overlay db []) params t.rows (filter (λ r. c (place_of r)) rows) found t.answer in
    let ids = have_ids rows laid.undo.shaped in
    let e = t.edits in
    let all : new.trees 2 ≡ without_all rows (ids_of t.rows) = e.applies.rows in
    let left = left_is (λ r. c (place_of r)) rows (ids_of t.rows) laid.undo.table ids same in
    let kv = e.applies.tables.0 (λ e. absurd (omega (arith, e))) in
    let meta = e.applies.tables.1.1.0 (λ e. absurd (omega (arith, e))) in
    record {
      laid = record { schema = e.laid; kv = subst AreKvRows (sym kv) laid.kv; undo = subst AreUndoRows (sym (all ∙ left)) (AreUndoRows-filter _ rows laid.undo); meta = (laid.meta.0, laid.meta.1, laid.meta.2, meta ∙ laid.meta.3) };
      kv = kv;
      rows = λ p. ap (λ rs. before_in rs p) all ∙ taken_out place_of before_of same_place exact_place same_place-comm c rows (ids_of t.rows) laid.undo.table ids same p ∙ keeps_if (test p) (before_in rows p) None;
      meta = meta;
    }

-- so many rows go as are counted
goes : (terms : List Term) (params : Row) (count : ℕ) (old new : Database) (test : Place → Bool) → IsLaidOut old → ((r : Row) → IsUndoRow r → list_all (holds (params ∷ r ∷ [])) terms ≡ not (test (place_of r)))
    → Takes undo_table (plain_query 2 terms (col 1 0 ∷ [])) params count old new → count + length (new.trees 2) ≡ length (old.trees 2)
goes terms params count old new test laid says t =
    let db = old.trees in
    let rows = db 2 in
    let c = λ (r : Row). not (test (place_of r)) in
    let found = found_where IsUndoRow c terms Null params (overlay db []) says rows laid.undo.shaped in
    let same = shown_ids 2 terms (overlay db []) params t.rows (filter c rows) found t.answer in
    let left = t.edits.applies.rows ∙ left_is c rows (ids_of t.rows) laid.undo.table (have_ids rows laid.undo.shaped) same in
    let gone = t.counted ∙ shown_length 2 terms (overlay db []) params t.rows (filter c rows) found t.answer in
    (λ i. gone i + length (left i)) ∙ length-filter_both c (λ r. not (c r)) (λ r. refl) rows

not_le : (a b : ℕ) → nat_le a b ≡ false → b < a
not_le a b e = elim (leb_tells a b) [ inl h ↦ absurd (let clash = sym e ∙ h.0 in cc) | inr h ↦ h.1 ]

pub above_is : (a b : ℕ) → is_gt (int_cmp (pos a) (pos b)) ≡ not (nat_le a b)
above_is a b = go (nat_lt a b) refl (nat_lt b a) refl (nat_le a b) refl
  where
    go : (s : Bool) → nat_lt a b ≡ s → (t : Bool) → nat_lt b a ≡ t → (u : Bool) → nat_le a b ≡ u → is_gt (int_cmp (pos a) (pos b)) ≡ not (nat_le a b)
    go true e t f true g = rw (e, g) refl
    go true e t f false g = absurd (omega (arith, ltb-true a b e, not_le a b g))
    go false e true f true g = absurd (omega (arith, ltb-true b a f, leb-true a b g))
    go false e true f false g = rw (e, f, g) refl
    go false e false f true g = rw (e, f, g) refl
    go false e false f false g = absurd (let clash = sym f ∙ lt-ltb b a (not_le a b g) in cc)

pub where_above : (r : Row) (t : ℕ) → IsUndoRow r → list_all (holds ((Int (pos t) ∷ []) ∷ r ∷ [])) is_above ≡ not (nat_le (place_of r).0 t)
unfolding binary
where_above r t (id, version, k, before, is) = rw (is, value_cmp-Int (pos version) (pos t)) (truth_and _ ∙ above_is version t)

pub drops_above : (old new : State) (t count : ℕ) → IsLaidOut old.now → Executes drop_above_text (Int (pos t) ∷ []) old new (Ok count) → Retains (λ p. nat_le p.0 t) old.now new.now
drops_above old new t count laid h =
    retains is_above (Int (pos t) ∷ []) count old.now new.now (λ p. nat_le p.0 t) laid (λ r shape. where_above r t shape)
    (deletes_undo drop_above_text (Int (pos t) ∷ []) old new laid.schema drop_above_plain count _ drop_above_is h)

pub counts_above : (old new : State) (t count : ℕ) → IsLaidOut old.now → Executes drop_above_text (Int (pos t) ∷ []) old new (Ok count) → count + length (new.now.trees 2) ≡ length (old.now.trees 2)
counts_above old new t count laid h =
    goes is_above (Int (pos t) ∷ []) count old.now new.now (λ p. nat_le p.0 t) laid (λ r shape. where_above r t shape)
    (deletes_undo drop_above_text (Int (pos t) ∷ []) old new laid.schema drop_above_plain count _ drop_above_is h)

through_is : (a b : ℕ) → is_le (int_cmp (pos a) (pos b)) ≡ not (nat_lt b a)
through_is a b = go (nat_lt a b) refl (nat_lt b a) refl
  where
    go : (s : Bool) → nat_lt a b ≡ s → (t : Bool) → nat_lt b a ≡ t → is_le (int_cmp (pos a) (pos b)) ≡ not (nat_lt b a)
    go true e true f = absurd (omega (arith, ltb-true a b e, ltb-true b a f))
    go true e false f = rw (e, f) refl
    go false e true f = rw (e, f) refl
    go false e false f = rw (e, f) refl

where_through : (r : Row) (t : ℕ) → IsUndoRow r → list_all (holds ((Int (pos t) ∷ []) ∷ r ∷ [])) is_through ≡ not (nat_lt t (place_of r).0)
unfolding binary
where_through r t (id, version, k, before, is) = rw (is, value_cmp-Int (pos version) (pos t)) (truth_and _ ∙ through_is version t)

pub drops_through : (old new : State) (f count : ℕ) → IsLaidOut old.now → Executes drop_through_text (Int (pos f) ∷ []) old new (Ok count) → Retains (λ p. nat_lt f p.0) old.now new.now
drops_through old new f count laid h =
    retains is_through (Int (pos f) ∷ []) count old.now new.now (λ p. nat_lt f p.0) laid (λ r shape. where_through r f shape)
    (deletes_undo drop_through_text (Int (pos f) ∷ []) old new laid.schema drop_through_plain count _ drop_through_is h)

pub counts_through : (old new : State) (f count : ℕ) → IsLaidOut old.now → Executes drop_through_text (Int (pos f) ∷ []) old new (Ok count) → count + length (new.now.trees 2) ≡ length (old.now.trees 2)
counts_through old new f count laid h =
    goes is_through (Int (pos f) ∷ []) count old.now new.now (λ p. nat_lt f p.0) laid (λ r shape. where_through r f shape)
    (deletes_undo drop_through_text (Int (pos f) ∷ []) old new laid.schema drop_through_plain count _ drop_through_is h)
