-- What a statement that writes makes of the row of meta.
use Rattle.std.proofs.Common.{slice_get, Some, None, ◌≡◌, ℕ, pos, List, [], ◌∷◌, Ok, Err, Result, OnOk, refl, sym, ap, subst, ◌∙◌, arith}
use Rattle.sqlite.specs.declared.types.Value.TheVariants.{Null, Int, Blob}
use Rattle.sqlite.specs.declared.error.Error.{Error}
use Rattle.sqlite.specs.Order.{Row, column, bytes}
use Rattle.sqlite.specs.Effect.{Database}
use Rattle.sqlite.specs.Term.{Term, lit, col}
use Rattle.sqlite.specs.Query.{IsSureAnswer}
use Rattle.sqlite.specs.Edit.{edit_of, edited}
use Rattle.sqlite.specs.Rowids.TheVariants.{Given, Chosen}
use Rattle.sqlite.specs.Tree.{Trees}
use Rattle.sqlite.specs.Program.{overlay}
use Rattle.sqlite.specs.State.{State, Executes, ExecutesInside, Shown}
use Rattle.sqlite.proofs.Callers.{reads_as}
use Rattle.sqlite_rules.specs.Calls.{ids_of}
use Rattle.sqlite_value.proofs.OrderLemmas.{value_cmp-Int}
use Rattle.fr_sql_rows.specs.Schema.{schema}
use Rattle.fr_sql_rows.specs.Rows.{bytes_in, AreKvRows, AreUndoRows, meta_row}
use Rattle.fr_sql_rows.specs.Connection.{IsLaidOut, IsBegun, BeginsMeta, Versions, HoldsBytes}
use Rattle.fr_sql_rows.proofs.StepLemmas.{cast_null, cast_int}
use Rattle.fr_sql_rows.proofs.TextLemmas.{plain_query, begin_text, begin_is, begin_plain, versions_text, versions_is, versions_plain, bytes_text, bytes_is, bytes_plain, state_text, state_is, state_plain, state_unlisted}
use Rattle.fr_sql_rows.proofs.QueryLemmas.{plain_answer}
use Rattle.fr_sql_rows.proofs.WriteLemmas.{meta_table, inserts_meta, updates_meta}

abbrev own_row : ℕ → ℕ → List ℕ → Row
own_row applied floor bytes = Int (pos 1) ∷ meta_row applied floor bytes

-- the row edited to another
edited_to : (db : Trees) (a f applied floor : ℕ) (before bytes : List ℕ) (rows : List Row) → db 4 ≡ meta_row a f before ∷ [] → rows ≡ own_row applied floor bytes ∷ []
    → edited db (edit_of db meta_table (ids_of rows) Given 1 rows) ≡ meta_row applied floor bytes ∷ []
edited_to db a f applied floor before bytes rows is shown = rw (is, shown, value_cmp-Int (pos 1) (pos 1), cast_null, cast_int (pos 1), cast_int (pos applied), cast_int (pos floor)) refl

-- what an update shows of the one row
one_shown : (project : List Term) (params : Row) (db : Trees) (a f : ℕ) (before : List ℕ) (rows : List Row) → db 4 ≡ meta_row a f before ∷ [] → IsSureAnswer (plain_query 4 [] project) (overlay db []) params rows
    → rows ≡ Rattle.std.specs.Prelude.map (Rattle.sqlite.specs.Term.eval_all project) ((params ∷ meta_row a f before ∷ []) ∷ [])
one_shown project params db a f before rows is h = plain_answer 4 [] project (overlay db []) params rows ((params ∷ meta_row a f before ∷ []) ∷ []) (rw is refl) (omega arith) h

pub versions : (old new : State) (applied floor count : ℕ) → IsLaidOut old.now → Executes versions_text (Int (pos applied) ∷ Int (pos floor) ∷ []) old new (Ok count) → Versions applied floor old.now new.now
versions old new applied floor count laid h =
    let params = Int (pos applied) ∷ Int (pos floor) ∷ [] in
    let db = old.now.trees in
    let project = col 1 0 ∷ col 1 0 ∷ lit Null ∷ col 0 0 ∷ col 0 1 ∷ col 1 4 ∷ [] in
    let r = updates_meta versions_text params old new laid.schema versions_plain count (plain_query 4 [] project) versions_is h in
    let e = r.edits in
    let kv = e.applies.tables.0 (λ e. absurd (omega (arith, e))) in
    let undo = e.applies.tables.1.0 (λ e. absurd (omega (arith, e))) in
    let meta = λ (a f : ℕ) (bytes : List ℕ) (is : db 4 ≡ meta_row a f bytes ∷ []).
    e.applies.rows ∙ edited_to db a f applied floor bytes bytes r.rows is (one_shown project params db a f bytes r.rows is r.answer) in
    record {
      laid = record { schema = e.laid; kv = subst AreKvRows (sym kv) laid.kv; undo = subst AreUndoRows (sym undo) laid.undo; meta = (applied, floor, laid.meta.2, meta laid.meta.0 laid.meta.1 laid.meta.2 laid.meta.3) };
      kv = kv;
      undo = undo;
      meta = meta;
    }

pub holds_bytes : (old new : State) (bytes : List ℕ) (count : ℕ) → IsLaidOut old.now → Executes bytes_text (Blob bytes ∷ []) old new (Ok count) → HoldsBytes bytes old.now new.now
holds_bytes old new bytes count laid h =
    let params = Blob bytes ∷ [] in
    let db = old.now.trees in
    let project = col 1 0 ∷ col 1 0 ∷ lit Null ∷ col 1 2 ∷ col 1 3 ∷ col 0 0 ∷ [] in
    let r = updates_meta bytes_text params old new laid.schema bytes_plain count (plain_query 4 [] project) bytes_is h in
    let e = r.edits in
    let kv = e.applies.tables.0 (λ e. absurd (omega (arith, e))) in
    let undo = e.applies.tables.1.0 (λ e. absurd (omega (arith, e))) in
    let meta = λ (a f : ℕ) (before : List ℕ) (is : db 4 ≡ meta_row a f before ∷ []).
    e.applies.rows ∙ edited_to db a f a f before bytes r.rows is (one_shown project params db a f before r.rows is r.answer) in
    record {
      laid = record { schema = e.laid; kv = subst AreKvRows (sym kv) laid.kv; undo = subst AreUndoRows (sym undo) laid.undo; meta = (laid.meta.0, laid.meta.1, bytes, meta laid.meta.0 laid.meta.1 laid.meta.2 laid.meta.3) };
      kv = kv;
      undo = undo;
      meta = meta;
    }

begun_with : (db : Trees) (rows : List Row) → db 4 ≡ [] → rows ≡ meta_row 0 0 [] ∷ []
    → edited db (edit_of db meta_table [] Chosen 0 rows) ≡ meta_row 0 0 [] ∷ []
begun_with db rows is given = rw (is, given, cast_null, cast_int (pos 1), cast_int (pos 0)) refl

pub begins_meta : (old new : State) (r : Result ℕ Error) → old.now.schema ≡ schema → old.now.trees 4 ≡ [] → ExecutesInside 0 begin_text [] old new r → OnOk r (BeginsMeta old.now new.now)
begins_meta old new (Err e) has empty h = tt
begins_meta old new (Ok count) has empty h =
    let e = (inserts_meta begin_text [] old new has begin_plain count (lit (Int (pos 1)) ∷ lit Null ∷ lit (Int (pos 0)) ∷ lit (Int (pos 0)) ∷ lit (Blob []) ∷ []) begin_is h.0).edits in
    record {
      schema = e.laid ∙ sym has;
      kv = e.applies.tables.0 (λ e. absurd (omega (arith, e)));
      undo = e.applies.tables.1.0 (λ e. absurd (omega (arith, e)));
      meta = e.applies.rows ∙ begun_with old.now.trees _ empty refl;
    }

-- the query of the state shows it
pub shows_state : (old new : State) (rows : List Row) → IsLaidOut old.now → Shown state_text [] old new rows → rows ≡ (Blob (bytes_in (old.now.trees 4)) ∷ []) ∷ []
shows_state old new rows laid h =
    let read = reads_as state_text [] old new schema laid.schema _ state_is state_plain state_unlisted rows h in
    let is = laid.meta.3 in
    one_shown (col 1 4 ∷ []) [] old.now.trees laid.meta.0 laid.meta.1 laid.meta.2 rows is read.answer ∙ ap (λ (bytes : List ℕ). (Blob bytes ∷ []) ∷ []) (sym (ap bytes_in is))

pub state_some : (old new : State) (rows : List Row) (row : Row) (v : List ℕ) → IsLaidOut old.now → Shown state_text [] old new rows → slice_get rows 0 ≡ Some row → column row 0 ≡ Blob v → v ≡ bytes_in (old.now.trees 4)
state_some old new rows row v laid h some is =
    let shows = shows_state old new rows laid h in
    let first : Some row ≡ Some (Blob (bytes_in (old.now.trees 4)) ∷ []) = sym some ∙ ap (λ rs. slice_get rs 0) shows in
    let same : row ≡ Blob (bytes_in (old.now.trees 4)) ∷ [] = cc in
    ap bytes (sym is ∙ ap (λ r. column r 0) same)

pub state_none : (old new : State) (rows : List Row) → IsLaidOut old.now → Shown state_text [] old new rows → slice_get rows 0 ≡ None → ⊥
state_none old new rows laid h none = let clash = sym none ∙ ap (λ rs. slice_get rs 0) (shows_state old new rows laid h) in cc

no_kv : (rows : List Row) → rows ≡ [] → AreKvRows rows
no_kv rows is = subst AreKvRows (sym is) (record { shaped = tt; single = λ q. omega arith; table = tt })

no_undo : (rows : List Row) → rows ≡ [] → AreUndoRows rows
no_undo rows is = subst AreUndoRows (sym is) (record { shaped = tt; single = λ p. omega arith; table = tt })

-- the tables just made are those of a store
pub laid_out : (db : Database) → IsBegun db → IsLaidOut db
laid_out db b = record { schema = b.schema; kv = no_kv _ b.kv; undo = no_undo _ b.undo; meta = (0, 0, [], b.meta) }
