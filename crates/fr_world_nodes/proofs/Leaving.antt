-- What a world keeps, where nodes leave or crash.
use Rattle.std.proofs.Common.{◌≡◌, List, ◌∷◌, refl}
use Rattle.fr_base.specs.declared.place.NodeId.{NodeId}
use Rattle.fr_register.specs.CellState.{CellState}
use Rattle.fr_run.specs.Config.{Config}
use Rattle.fr_run.specs.Turn.{Turn, Gone, Crashed}
use Rattle.fr_run.specs.Run.{IsTurn}
use Rattle.fr_run.specs.Laws.{Laws}
use Rattle.fr_world_nodes.specs.Parts.{IsWorld, Logs, Sequencers, Proxies, Recoverers, Storages}
use Rattle.fr_world_nodes.proofs.Quiet.{quiet_world}

pub left_world : Laws → (c : Config) (h later : List Turn) (who : NodeId) (cells : List CellState) (logs : Logs) (sequencers : Sequencers) (proxies : Proxies) (recoverers : Recoverers) (storages : Storages)
    → IsWorld c h cells logs sequencers proxies recoverers storages → IsTurn c h (Gone who) → later ≡ Gone who ∷ h → IsWorld c later cells logs sequencers proxies recoverers storages
left_world laws c h later who cells logs sequencers proxies recoverers storages w is entered =
    quiet_world laws c h later (Gone who) (record { cells = λ ts. refl; logs = λ e i l. refl; sequencers = λ e s. refl; proxies = λ e p s. refl; storages = λ tag s. refl }) cells logs sequencers proxies recoverers recoverers storages w is w.recoverers_are entered

pub crashed_world : Laws → (c : Config) (h later : List Turn) (who : NodeId) (cells : List CellState) (logs : Logs) (sequencers : Sequencers) (proxies : Proxies) (recoverers : Recoverers) (storages : Storages)
    → IsWorld c h cells logs sequencers proxies recoverers storages → IsTurn c h (Crashed who) → later ≡ Crashed who ∷ h → IsWorld c later cells logs sequencers proxies recoverers storages
crashed_world laws c h later who cells logs sequencers proxies recoverers storages w is entered =
    quiet_world laws c h later (Crashed who) (record { cells = λ ts. refl; logs = λ e i l. refl; sequencers = λ e s. refl; proxies = λ e p s. refl; storages = λ tag s. refl }) cells logs sequencers proxies recoverers recoverers storages w is w.recoverers_are entered
