use Rattle.fr_base.specs.declared.place.NodeId.TheVariants.{Log}
use Rattle.fr_runtime_station.proofs.Named.{place-lent}
use Rattle.fr_runtime_station.proofs.first_nodes.FirstNodes.log.Goals as goal

pub returns-clause-found : goal.returns-clause-found
returns-clause-found g c =
    place-lent (λ log. log.place) (λ index. Log c.args.self.now.chosen.generation.epoch index) c.args.self.now.logs.items c.deref.result.now c.args.index c.from.result c.get.result c.args.self.now.logs_named
    c.deref.ensures.value c.from.ensures c.get.ensures.lookup
