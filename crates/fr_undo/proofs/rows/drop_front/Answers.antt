use Rattle.std.proofs.Common.{ap, drop, ◌∙◌}
use Rattle.std.proofs.lemmas.List.{drop-drop}
use Rattle.fr_undo.proofs.rows.drop_front.Goals as goal

pub loop-preserved : goal.loop-preserved
loop-preserved c = record {
  rows = c.drop_first.ensures.rows ∙ ap (drop 1) c.loop.invariant.rows ∙ drop-drop 1 c.loop.counter c.args.rows.now.items;
  order = c.drop_first.ensures.order;
  index = c.drop_first.ensures.index;
  through = c.drop_first.ensures.through ∙ c.loop.invariant.through;
}
