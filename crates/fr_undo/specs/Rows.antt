-- The list in which a store in memory keeps its undo rows.
use Rattle.std.specs.Prelude.{ℕ, ◌≤◌, List, [], ◌∷◌, Option, None, Some, IsSome, nat_le, nat_lt}
use Rattle.std.specs.List.{filter}
use Rattle.std.specs.Ordering.{is_le}
use Rattle.std.specs.List.Sorted.{IsStrictlySortedBy}
use Rattle.std.specs.Map.{lookup, keys_of}
use Rattle.std.specs.FinMap.{from_entries}
use Rattle.std.specs.BTreeMap.{is_at}
use Rattle.fr_undo.specs.State.{Place, place_cmp, UndoRows}
use Rattle.fr_undo.specs.declared.write.Fate.{Fate}
use Rattle.fr_undo.specs.Plan.{row_left}
use Rattle.fr_undo.specs.Undo.{before_if_changed}

-- places with what their keys held before their versions
abbrev pub RowList : Type 0
RowList = List (Place × Option (List ℕ))

-- what the row at a place holds
abbrev pub row_in : RowList → Place → Option (Option (List ℕ))
row_in rows place = lookup (is_at (place_cmp place)) rows

-- the rows as a map
unfoldable pub map_of_rows : RowList → UndoRows
map_of_rows rows = from_entries rows

-- each row's place is after those of the rows before it
abbrev pub IsInOrder : RowList → Type 0
IsInOrder rows = IsStrictlySortedBy place_cmp (keys_of rows)

-- the rows of the versions through t
abbrev pub rows_to : RowList → ℕ → RowList
rows_to rows t = filter (λ (row : Place × Option (List ℕ)). nat_le row.0.0 t) rows

-- the rows of the versions above f
abbrev pub rows_beyond : RowList → ℕ → RowList
rows_beyond rows f = filter (λ (row : Place × Option (List ℕ)). nat_lt f row.0.0) rows

-- the rows at a place and after it
abbrev pub rows_from : RowList → Place → RowList
rows_from rows place = filter (λ (row : Place × Option (List ℕ)). is_le (place_cmp place row.0)) rows

-- no row is above the version
abbrev pub AreThrough : RowList → ℕ → Type 0
AreThrough rows t = (version : ℕ) (key : List ℕ) → IsSome (row_in rows (version, key)) → version ≤ t

-- rows with one before them, if there is one
abbrev pub with_row : Place → Option (Option (List ℕ)) → RowList → RowList
with_row place None rows = rows
with_row place (Some before) rows = (place, before) ∷ rows

-- the rows at version v of keys that the rest of a plan leaves with something else than they held, in the order of the keys
abbrev pub rows_left : ℕ → (List ℕ → Option (List ℕ)) → List (List ℕ × Fate) → RowList
rows_left v held [] = []
rows_left v held (e ∷ es) = with_row (v, e.0) (row_left e.1 (held e.0)) (rows_left v held es)

-- the rows that a plan at version v makes, of what keys held, in the order of the keys
abbrev pub rows_made : ℕ → (List ℕ → Option (List ℕ)) → List (List ℕ × Option (List ℕ)) → RowList
rows_made v held [] = []
rows_made v held (e ∷ es) = with_row (v, e.0) (before_if_changed (held e.0) e.1) (rows_made v held es)
