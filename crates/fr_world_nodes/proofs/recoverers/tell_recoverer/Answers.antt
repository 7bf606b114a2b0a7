use Rattle.std.proofs.Common.{◌≡◌, Some, ap, sym, ◌∙◌}
use Rattle.std.specs.Prelude.{is_some}
use Rattle.std.specs.Ordering.{nat_cmp}
use Rattle.std.specs.FinMap.{nat_cmp-IsAntisymmetric}
use Rattle.std.specs.BTreeMap as tree
use Rattle.fr_world_nodes.proofs.Keys.{put_same, on_err}
use Rattle.fr_world_nodes.proofs.recoverers.tell_recoverer.Goals as goal

pub returns-clause-err : goal.returns-clause-err
returns-clause-err c =
    let is : tree.get nat_cmp c.args.recoverers.now c.args.ballot ≡ Some c.in-Some.recoverer.now = sym c.in-Some.ensures.value in
    let recoverer = c.hear.new.self in
    on_err c.hear.result
    (λ e. put_same nat_cmp-IsAntisymmetric c.args.recoverers.now (c.get_mut.follows.lender recoverer) c.args.ballot (Some recoverer) (is ∙ ap Some (sym e)) ((c.get_mut.follows.holds recoverer).3 (ap is_some is)).0)
    c.hear.ensures.err
