use Rattle.std.proofs.Common.{◌≡◌, ◌==◌, ap, sym, ◌∙◌}
use Rattle.std.specs.Ordering.{nat_cmp}
use Rattle.std.specs.BTreeMap as tree
use Rattle.fr_run.specs.Config.{first_epoch}
use Rattle.fr_world_nodes.proofs.Asked.{there_in}
use Rattle.fr_world_nodes.proofs.nodes.Nodes.new_log.Goals as goal

pub new_log-requires : goal.new_log-requires
new_log-requires c =
    let n = c.args.self.now in
    let e : c.ballot.result ≡ c.args.id.epoch = c.ballot.ensures in
    let first : c.first_epoch.result ≡ first_epoch = c.first_epoch.ensures in
    there_in n.config n.turns.turns c.args.id.epoch c.args.id.index c.in-Some.recoverer.now (ap (λ x. c.args.id.epoch == x) (sym first) ∙ sym c.if-eq.ensures)
    (sym (c.requires.kept.recoverers_are c.args.id.epoch) ∙ (ap (λ b. tree.get nat_cmp n.recoverers b) (sym e) ∙ sym c.in-Some.ensures.value))
    c.requires.there
