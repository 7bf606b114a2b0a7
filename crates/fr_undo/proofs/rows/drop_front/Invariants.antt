use Rattle.std.proofs.Common.{◌≡◌, drop}
use Rattle.fr_undo.specs.Rows.{IsInOrder}
use Rattle.fr_undo.specs.Index.{IsIndex}
use Rattle.fr_undo.proofs.rows.drop_front.Given as goal

-- the first rows, as many as there were turns, are gone, and their places
abbrev pub invariant-loop : goal.invariant-loop
invariant-loop l = record {
  rows : l.rows.items ≡ drop l.counter l.initial.rows.items;
  order : IsInOrder l.rows.items;
  index : IsIndex l.index l.rows.items;
  through : l.index.through ≡ l.initial.index.through;
}
