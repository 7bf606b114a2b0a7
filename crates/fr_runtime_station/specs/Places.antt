-- Which nodes a directory has.
use Rattle.std.specs.Prelude.{length, map}
use Rattle.fr_base.specs.declared.node.Node as node
use Rattle.fr_log.specs.declared.ask.LogAsk.{LogAsk}
use Rattle.fr_log.specs.declared.ask.LogTell.{LogTell}
use Rattle.fr_log.specs.declared.log.Log.{Log}
use Rattle.fr_register.specs.declared.ask.CellAsk.{CellAsk}
use Rattle.fr_register.specs.declared.ask.CellTell.{CellTell}
use Rattle.fr_register.specs.declared.cell.Cell.{Cell}
use Rattle.fr_runtime_station.specs.Called.{Places}
use Rattle.fr_runtime_station.specs.declared.directory.Directory.{Directory}

-- the places of a directory of these cells and logs
abbrev pub places_of : {C L : Type 0} {c : node.Ghosts C Cell CellAsk CellTell} {l : node.Ghosts L Log LogAsk LogTell} → Directory C L c l → Places
places_of d = record { cells = length d.cells.stations.items; start = d.first.chosen; logs = length d.first.logs.items; later = map (λ nodes. nodes.epoch) d.later.items }
