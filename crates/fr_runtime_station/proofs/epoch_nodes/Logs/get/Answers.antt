use Rattle.fr_base.specs.declared.place.NodeId.TheVariants.{Log}
use Rattle.fr_runtime_station.proofs.Named.{place-lent}
use Rattle.fr_runtime_station.proofs.epoch_nodes.Logs.get.Goals as goal

pub returns : goal.returns
returns g c =
    place-lent (λ log. log.place) (λ index. Log c.args.self.now.epoch index) c.args.self.now.stations.items c.deref.result.now c.args.index c.from.result c.get.result c.args.self.now.named c.deref.ensures.value
    c.from.ensures c.get.ensures.lookup
