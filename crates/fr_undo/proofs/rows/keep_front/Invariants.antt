use Rattle.std.proofs.Common.{◌≡◌, take, length}
use Rattle.fr_undo.specs.Rows.{IsInOrder}
use Rattle.fr_undo.specs.Index.{IsIndex}
use Rattle.fr_undo.proofs.rows.keep_front.Given as goal

-- the first rows are there, and the places of those that are gone are too
abbrev pub invariant-loop-rows : goal.invariant-loop-rows
invariant-loop-rows l = record {
  front : take l.count l.rows.items ≡ take l.count l.initial.rows.items;
  order : IsInOrder l.rows.items;
  index : IsIndex l.index l.rows.items;
  through : l.index.through ≡ l.initial.index.through;
}

abbrev pub decreases-loop-rows : goal.decreases-loop-rows
decreases-loop-rows l = length l.rows.items
