-- What was read makes the tables those of a store.
use Rattle.std.proofs.Common.{◌≡◌, ◌≤◌, ◌<◌, ◌+◌, ℕ, pos, Bool, true, false, List, [], ◌∷◌, ◌++◌, map, take, length, slice_index_or, Option, None, Some, Result, Ok, Err, IfOk, IfSome, IsSome, refl, sym, ap, subst, ◌∙◌}
use Rattle.std.specs.List.{AllByRecursion}
use Rattle.sqlite.specs.declared.types.Value.TheVariants.{Int}
use Rattle.sqlite.specs.Order.{Row, column}
use Rattle.sqlite.specs.Effect.{Database}
use Rattle.sqlite.specs.State.{State}
use Rattle.fr_sql_rows.specs.Connection.{Keeps}
use Rattle.fr_undo.specs.State.{Place}
use Rattle.fr_sql_rows.specs.Rows.{place_of, is_at_place, before_in, number_in}
use Rattle.fr_sql_rows.proofs.UndoWrites.{exact_place}
use Rattle.std.specs.List.Sorted.{IsPermutation}
use Rattle.sqlite.specs.declared.error.Error.{Error}
use Rattle.std.proofs.lemmas.List.{take_more}
use Rattle.fr_sql_rows.specs.Found.{ObeysStore, ShowsVersions, versions_of, version_of, IsBetween, HasMeta, HasUndo, IsFound}
use Rattle.fr_sql_rows.proofs.ShapeLemmas.{are_kv, are_undo, is_meta}
use Rattle.fr_sql_rows.proofs.ShownLemmas.{one_there, between_all, shown_count}

-- a place that has a row is between, if all rows are
within_all : (floor applied : ℕ) (rows : List Row) (p : Place) → AllByRecursion (IsBetween floor applied 1) rows → IsSome (before_in rows p) → (floor < p.0) × (p.0 ≤ applied)
within_all floor applied [] p all some = absurd (let e = some in cc)
within_all floor applied (r ∷ rows) p all some = go (is_at_place p r) refl (within_all floor applied rows p all.1)
  where
    go : (b : Bool) → is_at_place p r ≡ b → (IsSome (before_in rows p) → (floor < p.0) × (p.0 ≤ applied)) → (floor < p.0) × (p.0 ≤ applied)
    go true e more =
        let same : place_of r ≡ p = exact_place (place_of r) p e in
        let version : all.0.0 ≡ p.0 = sym (ap number_in all.0.1) ∙ ap (λ (q : Place). q.0) same in
        (subst (λ v. floor < v) version all.0.2, subst (λ v. v ≤ applied) version all.0.3)
    go false e more = more (rw e at some)

pub found_all : (db : Database) (applied floor rows : ℕ) → ObeysStore db → HasMeta applied floor db → HasUndo floor applied rows db → IsFound applied floor rows db
found_all db applied floor rows o meta undo = record {
  laid = record { schema = o.schema; kv = are_kv db o; undo = are_undo db floor applied o undo.between; meta = (applied, floor, meta.row.0, meta.row.1) };
  meta = meta.row;
  order = meta.order;
  within = λ p some. within_all floor applied (db.trees 2) p undo.between some;
  count = undo.count;
}

-- the one row that is shown is that of meta
pub meta_found : (db : Database) (shown : List Row) (row : Row) (r : Result (Option (ℕ × ℕ)) Error) → ObeysStore db → IsPermutation (map versions_of (db.trees 4)) shown → shown ≡ row ∷ []
    → IfOk r (λ found. IfSome found (λ pair. ShowsVersions pair.0 pair.1 row)) → IfOk r (λ found. IfSome found (λ pair. HasMeta pair.0 pair.1 db))
meta_found db shown row (Err e) o same is h = tt
meta_found db shown row (Ok None) o same is h = tt
meta_found db shown row (Ok (Some pair)) o same is h =
    let there = one_there versions_of (db.trees 4) row (subst (IsPermutation (map versions_of (db.trees 4))) is same) in
    let a : column there.0 2 ≡ Int (pos pair.0) = sym (ap (λ r. column r 0) there.2) ∙ h.0 in
    let f : column there.0 3 ≡ Int (pos pair.1) = sym (ap (λ r. column r 1) there.2) ∙ h.1 in
    record { row = is_meta db pair.0 pair.1 there.0 o there.1 a f; order = h.2 }

pub undo_found : (db : Database) (floor applied : ℕ) (shown slice : List Row) (r : Result (Option ℕ) Error) → IsPermutation (map version_of (db.trees 2)) shown → slice ≡ shown
    → IfOk r (λ found. IfSome found (λ count. count ≡ length slice)) → IfOk r (λ found. IfSome found (λ _. AllByRecursion (IsBetween floor applied 0) slice)) → IfOk r (λ found. IfSome found (λ rows. HasUndo floor applied rows db))
undo_found db floor applied shown slice (Err e) same is count all = tt
undo_found db floor applied shown slice (Ok None) same is count all = tt
undo_found db floor applied shown slice (Ok (Some n)) same is count all = record {
  between = between_all floor applied (db.trees 2) shown same (subst (AllByRecursion (IsBetween floor applied 0)) is all);
  count = count ∙ ap length is ∙ shown_count (db.trees 2) shown same;
}

-- one more row
pub one_more : (P : Row → Type 0) (rows : List Row) (i : ℕ) (row : Row) → i < length rows → row ≡ slice_index_or rows i row → AllByRecursion P (take i rows) → P row → AllByRecursion P (take (i + 1) rows)
one_more P rows i row within is all p = subst (AllByRecursion P) (sym (take_more rows i row within)) (pushed (take i rows) (slice_index_or rows i row) all (subst P is p))
  where
    pushed : (xs : List Row) (x : Row) → AllByRecursion P xs → P x → AllByRecursion P (xs ++ x ∷ [])
    pushed [] x all p = (p, tt)
    pushed (y ∷ ys) x all p = (all.0, pushed ys x all.1 p)

-- what the two queries said, one after the other
pub read_all : (old mid : State) (applied floor rows : ℕ) → ObeysStore old.now → HasMeta applied floor old.now → Keeps old mid → HasUndo floor applied rows mid.now → IsFound applied floor rows old.now
read_all old mid applied floor rows o meta k undo = found_all old.now applied floor rows o meta (subst (HasUndo floor applied rows) k.now undo)
