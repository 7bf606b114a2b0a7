use Rattle.std.proofs.Common.{true, ap, cond, ◌∙◌}
use Rattle.std.specs.Ordering.{is_eq}
use Rattle.fr_undo.specs.Index.{by_key, is_listed}
use Rattle.fr_undo.proofs.index.list.Goals as goal

pub returns-clause-ok : goal.returns-clause-ok
returns-clause-ok c = λ q w. c.in_ok-insert.ensures.updates.0 (q, w) ∙ ap (λ k. cond (is_eq (by_key (k, c.args.row.now.0.0) (q, w))) true (is_listed c.args.places.now q w)) c.in_ok-copy.ensures
