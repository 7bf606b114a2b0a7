-- That each node grows at each turn of a run.
use Rattle.std.specs.Prelude.{◌≡◌, ◌<◌, ◌≤◌, ℕ, true, List, ◌∷◌, Some}
use Rattle.fr_register.specs.CellState.{CellState}
use Rattle.fr_log.specs.Law.{Grows}
use Rattle.fr_proxy.specs.Law as proxy
use Rattle.fr_epoch.specs.Recoverer.{RecState}
use Rattle.fr_epoch.specs.Law as rec
use Rattle.fr_run.specs.Config.{Config}
use Rattle.fr_run.specs.Turn.{Turn}
use Rattle.fr_run.specs.Nodes.{cell_at, rec_at, is_open, logs_at, log_at, proxy_at}
use Rattle.fr_run.specs.Run.{IsTurn, IsRun}

-- d is c, or c later on
pub record CellGrows (c d : CellState) : Type 0 where
  pub promised : c.promised ≤ d.promised
  pub written : c.written ≤ d.written
  pub value : c.written ≡ d.written → c.value ≡ d.value

-- each cell, each log that is there, each recoverer and each proxy of an open epoch grows at each turn
abbrev pub CellsGrow : Type 0
CellsGrow = (c : Config) (h : List Turn) (t : Turn) → IsRun c h → IsTurn c h t → (i : ℕ) → CellGrows (cell_at c h i) (cell_at c (t ∷ h) i)

abbrev pub LogsGrow : Type 0
LogsGrow = (c : Config) (h : List Turn) (t : Turn) → IsRun c h → IsTurn c h t → (e i : ℕ) → i < logs_at c h e → Grows (log_at c h e i) (log_at c (t ∷ h) e i)

abbrev pub RecoverersGrow : Type 0
RecoverersGrow =
    (c : Config) (h : List Turn) (t : Turn) → IsRun c h → IsTurn c h t → (b : ℕ) (r : RecState) → rec_at c h b ≡ Some r
    → (n : RecState) × (rec_at c (t ∷ h) b ≡ Some n) × rec.RecGrows r n

abbrev pub ProxiesGrow : Type 0
ProxiesGrow =
    (c : Config) (h : List Turn) (t : Turn) → IsRun c h → IsTurn c h t → (e p : ℕ) → is_open c h e ≡ true → proxy.ProxyGrows (proxy_at c h e p) (proxy_at c (t ∷ h) e p)
