use Rattle.std.proofs.Common.{◌≡◌, Some, ap, sym, ◌∙◌}
use Rattle.std.specs.Prelude.{is_some}
use Rattle.std.specs.BTreeMap as tree
use Rattle.fr_world_nodes.specs.Parts.{pair_cmp}
use Rattle.fr_world_nodes.proofs.Keys.{pair_cmp-IsAntisymmetric, put_same, on_err}
use Rattle.fr_world_nodes.proofs.logs.ask_log.Goals as goal

pub returns-clause-err : goal.returns-clause-err
returns-clause-err c =
    let is : tree.get pair_cmp c.args.logs.now c.args.id ≡ Some c.in-Some.log.now = sym c.in-Some.ensures.value in
    let log = c.ask.new.log in
    on_err c.ask.result (λ e. put_same pair_cmp-IsAntisymmetric c.args.logs.now (c.get_mut.follows.lender log) c.args.id (Some log) (is ∙ ap Some (sym e)) ((c.get_mut.follows.holds log).3 (ap is_some is)).0)
    c.ask.ensures.err
