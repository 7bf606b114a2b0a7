use Rattle.fr_base.specs.declared.place.NodeId.TheVariants.{Cell}
use Rattle.fr_runtime_station.proofs.Named.{place-lent}
use Rattle.fr_runtime_station.proofs.cells.Cells.get.Goals as goal

pub returns-clause-found : goal.returns-clause-found
returns-clause-found g c =
    place-lent (λ cell. cell.place) (λ index. Cell index) c.args.self.now.stations.items c.deref.result.now c.args.index c.from.result c.get.result c.args.self.now.named c.deref.ensures.value c.from.ensures
    c.get.ensures.lookup
