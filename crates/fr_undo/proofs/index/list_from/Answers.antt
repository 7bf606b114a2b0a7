use Rattle.std.proofs.Common.{inl, inr, ⊎_elim, ap, ◌∙◌, subst, IsSome}
use Rattle.std.specs.VecDeque.Iter.{deque_iter_rest}
use Rattle.fr_undo.specs.Rows.{RowList, row_in}
use Rattle.fr_undo.proofs.IndexLemmas.{kept_step, all_step, only_step, part_in, first_at, later_in}
use Rattle.fr_undo.proofs.index.list_from.Goals as goal

pub loop-row-init : goal.loop-row-init
loop-row-init c = record {
  can = tt;
  ends = tt;
  kept = λ q w h. h;
  all = λ w q some. inr some;
  only = λ only. only;
  behind = λ w q some.
      part_in c.args.rows.now.items c.args.first _ w q (subst (λ (l : RowList). IsSome (row_in l (w, q))) (ap deque_iter_rest c.into_iter-row-iterator.ensures.into_iter_gives ∙ c.range-row-items.ensures.rest) some);
}

pub loop-row-preserved : goal.loop-row-preserved
loop-row-preserved c =
    let old = c.loop-row.places in
    let new = c.list.new.places in
    let row = c.in-Some.row.now in
    let listed = c.in_ok-list.ensures.ok in
    let rest = deque_iter_rest c.loop-row.row-iterator in
    let more = deque_iter_rest c.next.new.self in
    let step = c.in-Some.ensures.steps in
    let inv = c.loop-row.invariant in
    record {
      can = tt;
      ends = tt;
      kept = λ q w h. kept_step old new row listed q w (inv.kept q w h);
      all = λ w q some. ⊎_elim (λ h. inl (kept_step old new row listed q w h)) (λ h. all_step old new row listed rest more step w q h) (inv.all w q some);
      only = λ only. only_step old new row listed c.args.rows.now.items (inv.only only) (λ w q e. inv.behind w q (first_at rest more row step w q e));
      behind = λ w q some. inv.behind w q (later_in rest more row step w q some);
    }
