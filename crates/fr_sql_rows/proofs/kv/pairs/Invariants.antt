use Rattle.std.proofs.Common.{◌≡◌, map, take}
use Rattle.fr_sql_rows.specs.Rows.{pair_of}
use Rattle.fr_sql_rows.proofs.kv.pairs.Given as goal

-- the pairs so far are those of the rows so far
abbrev pub invariant-loop-row : goal.invariant-loop-row
invariant-loop-row l = l.pairs.items ≡ map pair_of (take l.row-index l.rows)
