use Rattle.std.proofs.Common.{take}
use Rattle.std.specs.List.{AllByRecursion}
use Rattle.fr_sql_rows.specs.Found.{IsBetween}
use Rattle.fr_sql_rows.proofs.found.count_between.Given as goal

-- the rows so far are between
abbrev pub invariant-loop-row : goal.invariant-loop-row
invariant-loop-row l = AllByRecursion (IsBetween l.floor l.applied 0) (take l.row-index l.rows)
