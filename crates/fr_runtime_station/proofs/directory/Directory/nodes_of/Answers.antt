use Rattle.std.proofs.Common.{sym, ◌∙◌, arith}
use Rattle.std.proofs.lemmas.Grind.{common_steps}
use Rattle.fr_runtime_station.proofs.Places.{epoch-among}
use Rattle.fr_runtime_station.proofs.directory.Directory.nodes_of.Goals as goal

pub returns-then-eq : goal.returns-then-eq
returns-then-eq g c unknown =
    let same = sym c.eq.ensures ∙ c.if-eq.true in
    let among = epoch-among (λ nodes. nodes.epoch) c.deref-nodes-items.result.now c.loop-nodes.nodes-index c.nodes-item.result c.epoch.result c.args.epoch c.loop-nodes-test.true c.nodes-item.is c.epoch.ensures same in
    grind (arith, common_steps, among)
