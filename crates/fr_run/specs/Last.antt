-- What others see of the last state of proxies, recoverers and storage servers.
use Rattle.std.specs.FinMap as map
use Rattle.fr_ask.specs.declared.last.Last.{Last}
use Rattle.fr_ask.specs.declared.last.Last.TheVariants as last
use Rattle.fr_proxy.specs.Proxy.{ProxyState}
use Rattle.fr_epoch.specs.Recoverer.{RecState}
use Rattle.fr_epoch.specs.Standing.{told_phase}
use Rattle.fr_storage.specs.Storage.{StorageState, own_epoch}
use Rattle.fr_run.specs.Phase.{phase_text}

abbrev pub last_of_proxy : ProxyState → Last
last_of_proxy s = last.Proxy s.known

abbrev pub last_of_recoverer : RecState → Last
last_of_recoverer r = last.Recoverer (phase_text (told_phase r))

abbrev pub last_of_storage : StorageState → Last
last_of_storage s = last.Storage (own_epoch s.state) s.store.applied s.store.floor (map.entries s.store.contents)
