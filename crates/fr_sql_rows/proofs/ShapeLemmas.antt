-- Rows that obey the schema of a store have the form of its rows.
use Rattle.std.proofs.Common.{◌≡◌, ℕ, ℤ, pos, Bool, true, false, not, List, [], ◌∷◌, None, Some, IsTrue, drop, true≢false, refl, sym, ap, subst, subst₂, ◌∙◌}
use Rattle.std.specs.Prelude.{◌&&◌}
use Rattle.std.specs.List.{AllByRecursion, list_any}
use Rattle.std.specs.declared.cmp.Ordering.TheVariants.{Less}
use Rattle.std.proofs.lemmas.Bool.{and_parts, not-true}
use Rattle.sqlite.specs.declared.types.Value.TheVariants.{Int, Blob}
use Rattle.sqlite.specs.Order.{Row, column}
use Rattle.sqlite.specs.Tree.{Trees, rowid}
use Rattle.sqlite.specs.Effect.{Database}
use Rattle.sqlite_value.specs.Order.{value_cmp}
use Rattle.sqlite_value.specs.Keys.{first_key}
use Rattle.sqlite_trees.specs.View.{is_int}
use Rattle.std.specs.Ordering.{is_eq}
use Rattle.sqlite.specs.Kind.TheVariants as kind
use Rattle.sqlite_sql.specs.Ops.{binary, is_null, is_false, from_truth}
use Rattle.sqlite_schema.specs.declared.schema.Constraint.TheVariants.{Datatype, NotNull, Check, Unique}
use Rattle.sqlite_schema.specs.Rules.{passes, are_typed, is_of, agree, differ}
use Rattle.sqlite_schema.specs.declared.schema.Table.{Table}
use Rattle.sqlite_catalog.specs.Listing.{IsSound}
use Rattle.fr_undo.specs.State.{Place}
use Rattle.fr_sql_rows.specs.Schema.{schema, kv, undo, meta}
use Rattle.fr_sql_rows.specs.Rows.{kv_row, key_of, IsKvRow, AreKvRows, IsUndoRow, place_of, AreUndoRows, meta_row}
use Rattle.fr_sql_rows.proofs.KvWrites.{exact_key}
use Rattle.fr_sql_rows.proofs.UndoWrites.{same_place, exact_place, same_place-comm}
use Rattle.fr_base.specs.Bytes.{is_same}
use Rattle.fr_base.proofs.MapLemmas.{is_same-comm}
use Rattle.fr_sql_rows.specs.OpenSchema.{by_bytes}
use Rattle.fr_sql_rows.specs.Found.{AreRows, ObeysStore, IsBetween}
use Rattle.fr_sql_rows.proofs.ValueLemmas.{int_of, blob_of, null_of, equals_int, equals_blob, differs, checked_one}
use Rattle.fr_sql_rows.proofs.SingleLemmas.{none_of, single_of, apart_of}

-- the two other tables with the numbers of their trees
abbrev pub undo_table : Table
undo_table = record undo { tree = 2 }

abbrev pub meta_table : Table
meta_table = record meta { tree = 4 }

-- ---- one row

pub kv_shaped : (db : Trees) (row : Row) → IsTrue (is_int (rowid row)) → passes Datatype schema db kv row ≡ true → passes NotNull schema db kv row ≡ true → IsKvRow row
kv_shaped db [] id typed present = absurd (true≢false (sym id))
kv_shaped db (i ∷ []) id typed present = absurd (true≢false (sym present))
kv_shaped db (i ∷ k ∷ []) id typed present = absurd (true≢false (sym (and_parts (not (is_null k)) false present).1))
kv_shaped db (i ∷ k ∷ v ∷ []) id typed present =
    let types = and_parts (is_of kind.Blob k) (is_of kind.Blob v && true) (and_parts (is_of kind.Blob k && (is_of kind.Blob v && true)) true typed).0 in
    let some = and_parts (not (is_null k)) (not (is_null v) && true) present in
    let n = int_of i id in
    let key = blob_of k types.0 some.0 in
    let value = blob_of v (and_parts (is_of kind.Blob v) true types.1).0 (and_parts (not (is_null v)) true some.1).0 in
    (n.0, key.0, value.0, λ j. n.1 j ∷ key.1 j ∷ value.1 j ∷ [])
kv_shaped db (i ∷ k ∷ v ∷ w ∷ more) id typed present =
    let types = and_parts (is_of kind.Blob k) (is_of kind.Blob v && false) (and_parts (is_of kind.Blob k && (is_of kind.Blob v && false)) true typed).0 in
    absurd (true≢false (sym (and_parts (is_of kind.Blob v) false types.1).1))

abbrev rest_typed : Row → Bool
rest_typed rest = are_typed None 2 (drop 2 undo.columns) rest

pub undo_shaped : (db : Trees) (floor applied : ℕ) (row : Row) → IsTrue (is_int (rowid row)) → passes Datatype schema db undo_table row ≡ true → passes NotNull schema db undo_table row ≡ true
    → IsBetween floor applied 1 row → IsUndoRow row
undo_shaped db floor applied [] id typed present between = absurd (true≢false (sym id))
undo_shaped db floor applied (i ∷ []) id typed present between = absurd (true≢false (sym present))
undo_shaped db floor applied (i ∷ v ∷ []) id typed present between = absurd (true≢false (sym (and_parts (not (is_null v)) false present).1))
undo_shaped db floor applied (i ∷ v ∷ k ∷ rest) id typed present between =
    let types = and_parts (is_of kind.Integer v) (is_of kind.Blob k && rest_typed rest) (and_parts (is_of kind.Integer v && (is_of kind.Blob k && rest_typed rest)) true typed).0 in
    let some = and_parts (not (is_null v)) (not (is_null k) && true) present in
    let n = int_of i id in
    let key = blob_of k (and_parts (is_of kind.Blob k) (rest_typed rest) types.1).0 (and_parts (not (is_null k)) true some.1).0 in
    (n.0, between.0, key.0, rest, λ j. n.1 j ∷ between.1 j ∷ key.1 j ∷ rest)

pub meta_shaped : (db : Trees) (applied floor : ℕ) (row : Row) → IsTrue (is_int (rowid row)) → passes Datatype schema db meta_table row ≡ true → passes NotNull schema db meta_table row ≡ true
    → passes Check schema db meta_table row ≡ true → column row 2 ≡ Int (pos applied) → column row 3 ≡ Int (pos floor) → (bytes : List ℕ) × (row ≡ meta_row applied floor bytes)
unfolding binary
meta_shaped db applied floor [] id typed present check a f = absurd (true≢false (sym id))
meta_shaped db applied floor (i ∷ []) id typed present check a f = absurd (true≢false (sym present))
meta_shaped db applied floor (i ∷ k ∷ []) id typed present check a f = absurd (true≢false (sym present))
meta_shaped db applied floor (i ∷ k ∷ v ∷ []) id typed present check a f = absurd (true≢false (sym (and_parts (not (is_null v)) false present).1))
meta_shaped db applied floor (i ∷ k ∷ v ∷ w ∷ []) id typed present check a f =
    absurd (true≢false (sym (and_parts (not (is_null w)) false (and_parts (not (is_null v)) (not (is_null w) && false) present).1).1))
meta_shaped db applied floor (i ∷ k ∷ v ∷ w ∷ s ∷ []) id typed present check a f =
    let A = is_null k in
    let B = is_of kind.Integer v in
    let C = is_of kind.Integer w in
    let D = is_of kind.Blob s in
    let one_type = and_parts (A && (B && (C && (D && true)))) true typed in
    let types = and_parts A (B && (C && (D && true))) one_type.0 in
    let last_type = and_parts D true (and_parts C (D && true) (and_parts B (C && (D && true)) types.1).1).1 in
    let X = not (is_null v) in
    let Y = not (is_null w) in
    let Z = not (is_null s) in
    let last_some = and_parts Z true (and_parts Y (Z && true) (and_parts X (Y && (Z && true)) present).1).1 in
    let n = int_of i id in
    let none = null_of k types.0 in
    let state = blob_of s last_type.0 last_some.0 in
    let checked : passes Check schema db meta_table (Int n.0 ∷ k ∷ v ∷ w ∷ s ∷ []) ≡ true = subst (λ x. passes Check schema db meta_table (x ∷ k ∷ v ∷ w ∷ s ∷ []) ≡ true) n.1 check in
    let one : n.0 ≡ pos 1 = checked_one n.0 (and_parts (not (is_false (from_truth (Some (is_eq (value_cmp (Int n.0) (Int (pos 1)))))))) true checked).0 in
    let first : i ≡ Int (pos 1) = n.1 ∙ ap Int one in
    (state.0, λ j. first j ∷ none j ∷ a j ∷ f j ∷ state.1 j ∷ [])
meta_shaped db applied floor (i ∷ k ∷ v ∷ w ∷ s ∷ x ∷ more) id typed present check a f =
    let A = is_null k in
    let B = is_of kind.Integer v in
    let C = is_of kind.Integer w in
    let D = is_of kind.Blob s in
    let types = and_parts A (B && (C && (D && false))) (and_parts (A && (B && (C && (D && false)))) true typed).0 in
    absurd (true≢false (sym (and_parts D false (and_parts C (D && false) (and_parts B (C && (D && false)) types.1).1).1).1))

-- ---- two rows

abbrev kv_clash : Row → Row → Bool
kv_clash x y = agree by_bytes (1 ∷ []) x (1 ∷ []) y && differ (rowid x) (rowid y)

abbrev undo_clash : Row → Row → Bool
undo_clash x y = agree by_bytes (1 ∷ 2 ∷ []) x (1 ∷ 2 ∷ []) y && differ (rowid x) (rowid y)

kv_apart-rows : (i j : ℤ) (k l v w : List ℕ) → value_cmp (Int i) (Int j) ≡ Less → kv_clash (kv_row i k v) (kv_row j l w) ≡ false → is_same k l ≡ false
unfolding first_key
kv_apart-rows i j k l v w less none = go (is_same k l) refl
  where
    go : (b : Bool) → is_same k l ≡ b → is_same k l ≡ false
    go false e = e
    go true e =
        let here = subst (λ q. kv_clash (kv_row i k v) (kv_row j q w) ≡ false) (sym (exact_key k l e)) none in
        absurd (let clash = rw (equals_blob k, differs i j less) at here in cc)

pub kv_apart : (x y : Row) → IsKvRow x → IsKvRow y → value_cmp (rowid x) (rowid y) ≡ Less → kv_clash x y ≡ false → is_same (key_of x) (key_of y) ≡ false
kv_apart x y (i, k, v, is) (j, l, w, it) =
    subst₂ (λ a b. value_cmp (rowid a) (rowid b) ≡ Less → kv_clash a b ≡ false → is_same (key_of a) (key_of b) ≡ false) (sym is) (sym it) (kv_apart-rows i j k l v w)

abbrev long : ℤ → Place → Row → Row
long i p rest = Int i ∷ Int (pos p.0) ∷ Blob p.1 ∷ rest

undo_apart-rows : (i j : ℤ) (p q : Place) (r s : Row) → value_cmp (Int i) (Int j) ≡ Less → undo_clash (long i p r) (long j q s) ≡ false → same_place p q ≡ false
unfolding first_key
undo_apart-rows i j p q r s less none = go (same_place p q) refl
  where
    go : (b : Bool) → same_place p q ≡ b → same_place p q ≡ false
    go false e = e
    go true e =
        let here = subst (λ (z : Place). undo_clash (long i p r) (long j z s) ≡ false) (sym (exact_place p q e)) none in
        absurd (let clash = rw (equals_int (pos p.0), equals_blob p.1, differs i j less) at here in cc)

pub undo_apart : (x y : Row) → IsUndoRow x → IsUndoRow y → value_cmp (rowid x) (rowid y) ≡ Less → undo_clash x y ≡ false → same_place (place_of x) (place_of y) ≡ false
undo_apart x y (i, v, k, r, is) (j, w, l, s, it) =
    subst₂ (λ a b. value_cmp (rowid a) (rowid b) ≡ Less → undo_clash a b ≡ false → same_place (place_of a) (place_of b) ≡ false) (sym is) (sym it) (undo_apart-rows i j (v, k) (w, l) r s)

-- ---- all rows

kv_clashes : (db : Trees) (rows : List Row) → AllByRecursion (λ y. passes Unique schema db kv y ≡ true) rows → AllByRecursion (λ y. AllByRecursion (λ x. kv_clash x y ≡ false) (db 0)) rows
kv_clashes db [] all = tt
kv_clashes db (y ∷ ys) all = (none_of (λ x. kv_clash x y) (db 0) (not-true _ (and_parts (not (list_any (λ x. kv_clash x y) (db 0))) true all.0).0), kv_clashes db ys all.1)

undo_clashes : (db : Trees) (rows : List Row) → AllByRecursion (λ y. passes Unique schema db undo_table y ≡ true) rows → AllByRecursion (λ y. AllByRecursion (λ x. undo_clash x y ≡ false) (db 2)) rows
undo_clashes db [] all = tt
undo_clashes db (y ∷ ys) all = (none_of (λ x. undo_clash x y) (db 2) (not-true _ (and_parts (not (list_any (λ x. undo_clash x y) (db 2))) true all.0).0), undo_clashes db ys all.1)

kv_shapes : (db : Trees) (rows : List Row) → AllByRecursion (λ r. IsTrue (is_int (rowid r))) rows → AllByRecursion (λ r. passes Datatype schema db kv r ≡ true) rows
    → AllByRecursion (λ r. passes NotNull schema db kv r ≡ true) rows → AllByRecursion IsKvRow rows
kv_shapes db [] ids typed present = tt
kv_shapes db (r ∷ rows) ids typed present = (kv_shaped db r ids.0 typed.0 present.0, kv_shapes db rows ids.1 typed.1 present.1)

undo_shapes : (db : Trees) (floor applied : ℕ) (rows : List Row) → AllByRecursion (λ r. IsTrue (is_int (rowid r))) rows → AllByRecursion (λ r. passes Datatype schema db undo_table r ≡ true) rows
    → AllByRecursion (λ r. passes NotNull schema db undo_table r ≡ true) rows → AllByRecursion (IsBetween floor applied 1) rows → AllByRecursion IsUndoRow rows
undo_shapes db floor applied [] ids typed present between = tt
undo_shapes db floor applied (r ∷ rows) ids typed present between =
    (undo_shaped db floor applied r ids.0 typed.0 present.0 between.0, undo_shapes db floor applied rows ids.1 typed.1 present.1 between.1)

pub sound_as : (db : Database) → ObeysStore db → IsSound schema db.trees
sound_as db o = subst (λ s. IsSound s db.trees) o.schema o.held.sound

pub rows_as : (db : Database) → ObeysStore db → AllByRecursion (λ t. AreRows (db.trees t.tree)) schema.tables
rows_as db o = subst (λ s. AllByRecursion (λ t. AreRows (db.trees t.tree)) s.tables) o.schema o.held.rows

pub are_kv : (db : Database) → ObeysStore db → AreKvRows (db.trees 0)
are_kv db o =
    let rules = (sound_as db o).obeys.rules in
    let rows = (rows_as db o).0 in
    let shaped = kv_shapes db.trees (db.trees 0) rows.1 (rules Datatype).0 (rules NotNull).0 in
    record {
      shaped = shaped;
      single = single_of key_of is_same exact_key is_same-comm (db.trees 0) (apart_of IsKvRow kv_clash (λ x y. is_same (key_of x) (key_of y)) kv_apart (db.trees 0) rows.0 shaped (kv_clashes db.trees (db.trees 0) (rules Unique).0));
      table = rows.0;
    }

pub are_undo : (db : Database) (floor applied : ℕ) → ObeysStore db → AllByRecursion (IsBetween floor applied 1) (db.trees 2) → AreUndoRows (db.trees 2)
are_undo db floor applied o between =
    let rules = (sound_as db o).obeys.rules in
    let rows = (rows_as db o).1.0 in
    let shaped = undo_shapes db.trees floor applied (db.trees 2) rows.1 (rules Datatype).1.0 (rules NotNull).1.0 between in
    record {
      shaped = shaped;
      single = single_of place_of same_place exact_place same_place-comm (db.trees 2) (apart_of IsUndoRow undo_clash (λ x y. same_place (place_of x) (place_of y)) undo_apart (db.trees 2) rows.0 shaped (undo_clashes db.trees (db.trees 2) (rules Unique).1.0));
      table = rows.0;
    }

pub is_meta : (db : Database) (applied floor : ℕ) (row : Row) → ObeysStore db → db.trees 4 ≡ row ∷ [] → column row 2 ≡ Int (pos applied) → column row 3 ≡ Int (pos floor)
    → (bytes : List ℕ) × (db.trees 4 ≡ meta_row applied floor bytes ∷ [])
is_meta db applied floor row o is a f =
    let rules = (sound_as db o).obeys.rules in
    let rows = (rows_as db o).1.1.0 in
    let first = λ (P : Row → Type 0) (all : AllByRecursion P (db.trees 4)). (subst (AllByRecursion P) is all).0 in
    let shaped = meta_shaped db.trees applied floor row (first (λ r. IsTrue (is_int (rowid r))) rows.1) (first (λ r. passes Datatype schema db.trees meta_table r ≡ true) (rules Datatype).1.1.0)
    (first (λ r. passes NotNull schema db.trees meta_table r ≡ true) (rules NotNull).1.1.0) (first (λ r. passes Check schema db.trees meta_table r ≡ true) (rules Check).1.1.0) a f in
    (shaped.0, is ∙ ap (λ r. r ∷ []) shaped.1)
