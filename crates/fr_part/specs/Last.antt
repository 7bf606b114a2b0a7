-- Where a machine of any kind stands, as others see it.
use Rattle.std.specs.Prelude.{Option, None, Some}
use Rattle.fr_ask.specs.declared.last.Last.{Last}
use Rattle.fr_ask.specs.Named.{last_of_cell, last_of_log}
use Rattle.fr_proxy.specs.Sequencer.{last_of_sequencer}
use Rattle.fr_run.specs.Last.{last_of_proxy, last_of_recoverer, last_of_storage}
use Rattle.fr_part.specs.Hear.{standing}
use Rattle.fr_part.specs.declared.part.Part.{Part}
use Rattle.fr_part.specs.declared.part.Part.TheVariants as part

abbrev pub last_of : Part → Option Last
last_of (part.Cell c) = Some (last_of_cell c)
last_of (part.Log l) = Some (last_of_log l)
last_of (part.Sequencer s) = Some (last_of_sequencer s)
last_of (part.Proxy p) = Some (last_of_proxy p)
last_of (part.Recoverer r) = Some (last_of_recoverer r)
last_of (part.Storage s) = Some (last_of_storage (standing s))
last_of (part.Store s) = None
