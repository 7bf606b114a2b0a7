use Rattle.std.proofs.Common.{◌≡◌, map, take}
use Rattle.fr_sql_rows.specs.Rows.{shown_row}
use Rattle.fr_sql_rows.proofs.undo.undo_rows.Given as goal

-- the rows shown so far are those of the rows so far
abbrev pub invariant-loop-row : goal.invariant-loop-row
invariant-loop-row l = l.shown.items ≡ map shown_row (take l.row-index l.rows)
