use Rattle.std.proofs.Common.{◌≡◌, ap, sym, ◌∙◌}
use Rattle.std.specs.Ordering.{nat_cmp}
use Rattle.std.specs.BTreeMap as tree
use Rattle.fr_world_nodes.proofs.Asked.{has_room}
use Rattle.fr_world_nodes.proofs.nodes.Nodes.mark_version.Goals as goal

pub mark_version-requires : goal.mark_version-requires
mark_version-requires c =
    let n = c.args.self.now in
    let e : c.ballot.result ≡ c.args.epoch = c.ballot.ensures in
    has_room c.node_laws.ensures c.write_law.ensures.made n.config n.turns.turns c.requires.run c.args.epoch c.in-Some.recoverer.now
    (sym (c.requires.recoverers_are c.args.epoch) ∙ (ap (λ b. tree.get nat_cmp n.recoverers b) (sym e) ∙ sym c.in-Some.ensures.value))
