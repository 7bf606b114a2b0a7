-- What the queries of kv show.
use Rattle.std.proofs.lemmas.List.{take_more, map-append}
use Rattle.std.proofs.Common.{◌<◌, ◌+◌, ◌++◌, length, take, slice_index_or, ◌≡◌, ℕ, List, [], ◌∷◌, map, true, Result, Ok, Err, OnOk, IfOk, refl, sym, ap, ◌∙◌}
use Rattle.std.specs.List.{list_all}
use Rattle.std.specs.Ordering.{is_le}
use Rattle.std.specs.FinMap.{retain_keys, entries, same_map, get-retain_keys}
use Rattle.sqlite.specs.declared.types.Value.TheVariants.{Null, Blob}
use Rattle.sqlite.specs.Order.{Row, column, bytes}
use Rattle.sqlite.specs.Term.{holds}
use Rattle.sqlite.specs.Ops.{binary}
use Rattle.sqlite.specs.Program.{overlay}
use Rattle.sqlite.specs.State.{State, Shown}
use Rattle.sqlite.proofs.Callers.{reads_as}
use Rattle.sqlite_value.proofs.OrderLemmas.{value_cmp-Blob}
use Rattle.fr_base.specs.Bytes.{bytes_cmp, bytes_total, bytes_exact}
use Rattle.fr_mutation.specs.Mutation.{is_between}
use Rattle.fr_sql_rows.specs.Schema.{schema}
use Rattle.fr_sql_rows.specs.Rows.{IsKvRow, key_of, contents_in, pair_of}
use Rattle.fr_sql_rows.specs.Connection.{IsLaidOut}
use Rattle.fr_sql_rows.proofs.TextLemmas.{in_range, is_from, between_text, between_is, between_plain, between_unlisted, from_text, from_is, from_plain, from_unlisted, all_text, all_is, all_plain, all_unlisted}
use Rattle.fr_sql_rows.proofs.QueryLemmas.{truth_and, found_where}
use Rattle.fr_sql_rows.proofs.KvWrites.{where_between, ge_is_le}
use Rattle.fr_sql_rows.proofs.ReadLemmas.{sorted_entries}

where_from : (row : Row) (begin : List ℕ) → IsKvRow row → list_all (holds ((Blob begin ∷ []) ∷ row ∷ [])) is_from ≡ is_le (bytes_cmp begin (key_of row))
unfolding binary
where_from row begin (id, k, v, is) = rw (is, value_cmp-Blob k begin) (truth_and _ ∙ ge_is_le k begin)

pub shows_between : (old new : State) (begin end : List ℕ) (rows : List Row) → IsLaidOut old.now → Shown between_text (Blob begin ∷ Blob end ∷ []) old new rows
    → map pair_of rows ≡ entries (retain_keys (contents_in (old.now.trees 0)) (is_between begin end))
shows_between old new begin end rows laid h =
    let params = Blob begin ∷ Blob end ∷ [] in
    let db = overlay old.now.trees [] in
    let read = reads_as between_text params old new schema laid.schema _ between_is between_plain between_unlisted rows h in
    sorted_entries in_range db params (old.now.trees 0) rows (is_between begin end) laid.kv
    (found_where IsKvRow (λ r. is_between begin end (key_of r)) in_range Null params db (λ r shape. where_between r begin end shape) (old.now.trees 0) laid.kv.shaped) read.answer

pub shows_from : (old new : State) (begin : List ℕ) (rows : List Row) → IsLaidOut old.now → Shown from_text (Blob begin ∷ []) old new rows
    → map pair_of rows ≡ entries (retain_keys (contents_in (old.now.trees 0)) (λ q. is_le (bytes_cmp begin q)))
shows_from old new begin rows laid h =
    let params = Blob begin ∷ [] in
    let db = overlay old.now.trees [] in
    let read = reads_as from_text params old new schema laid.schema _ from_is from_plain from_unlisted rows h in
    sorted_entries is_from db params (old.now.trees 0) rows (λ q. is_le (bytes_cmp begin q)) laid.kv
    (found_where IsKvRow (λ r. is_le (bytes_cmp begin (key_of r))) is_from Null params db (λ r shape. where_from r begin shape) (old.now.trees 0) laid.kv.shaped) read.answer

pub shows_all : (old new : State) (rows : List Row) → IsLaidOut old.now → Shown all_text [] old new rows → map pair_of rows ≡ entries (contents_in (old.now.trees 0))
shows_all old new rows laid h =
    let db = overlay old.now.trees [] in
    let m = contents_in (old.now.trees 0) in
    let read = reads_as all_text [] old new schema laid.schema _ all_is all_plain all_unlisted rows h in
    sorted_entries [] db [] (old.now.trees 0) rows (λ q. true) laid.kv
    (found_where IsKvRow (λ r. true) [] Null [] db (λ r shape. refl) (old.now.trees 0) laid.kv.shaped) read.answer
    ∙ ap entries (same_map bytes_total bytes_exact (retain_keys m (λ q. true)) m (λ q. get-retain_keys m (λ q. true) q (λ x tie. refl)))

pub at_ok : {A E : Type 0} {P : Type 0} (r : Result A E) → P → OnOk r P
at_ok (Ok a) p = p
at_ok (Err e) p = tt

pub ok_then : {A E : Type 0} {P Q : A → Type 0} (r : Result A E) → ((a : A) → P a → Q a) → IfOk r P → IfOk r Q
ok_then (Ok a) f p = f a p
ok_then (Err e) f p = tt

-- one more row's key and value
pub one_pair : (rows : List Row) (i : ℕ) (row : Row) (k v : List ℕ) (done made : List (List ℕ × List ℕ)) → i < length rows → row ≡ slice_index_or rows i row → done ≡ map pair_of (take i rows)
    → made ≡ done ++ (k, v) ∷ [] → column row 0 ≡ Blob k → column row 1 ≡ Blob v → made ≡ map pair_of (take (i + 1) rows)
one_pair rows i row k v done made within is so_far pushed key value =
    let pair : pair_of row ≡ (k, v) = λ j. (bytes (key j), bytes (value j)) in
    pushed ∙ ap (λ es. es ++ (k, v) ∷ []) so_far ∙ ap (λ e. map pair_of (take i rows) ++ e ∷ []) (sym pair ∙ ap pair_of is)
    ∙ sym (map-append pair_of (take i rows) (slice_index_or rows i row ∷ [])) ∙ ap (map pair_of) (sym (take_more rows i row within))
