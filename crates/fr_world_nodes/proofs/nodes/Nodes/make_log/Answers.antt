use Rattle.std.proofs.Common.{rules, ◌≡◌, None}
use Rattle.std.specs.BTreeMap as tree
use Rattle.fr_world_nodes.specs.Parts.{pair_cmp}
use Rattle.fr_world_nodes.proofs.Asked.{made_world}
use Rattle.fr_world_nodes.proofs.nodes.Nodes.make_log.Goals as goal

pub returns-clause-stays : goal.returns-clause-stays
returns-clause-stays c =
    let n = c.args.self.now in
    let none : tree.get pair_cmp n.logs (c.args.id.epoch, c.args.id.index) ≡ None = search rules in
    made_world c.keep_log.result n.config n.turns.turns c.args.id.epoch c.args.id.index c.in_ok-new.new n.cells.items n.logs c.keep_log.new.logs n.sequencers n.proxies n.recoverers n.storages.items c.requires.kept c.requires.there
    none c.in_ok-new.ensures c.keep_log.ensures.after c.keep_log.ensures.err
