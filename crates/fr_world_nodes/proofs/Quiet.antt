-- What a world keeps at a turn that changes no cell, log, sequencer, proxy or storage server.
use Rattle.std.proofs.Common.{◌≡◌, ℕ, List, ◌∷◌, sym, ◌∙◌, ap, subst}
use Rattle.fr_register.specs.CellState.{CellState}
use Rattle.fr_register.specs.History as register
use Rattle.fr_log.specs.LogState.{LogState}
use Rattle.fr_proxy.specs.Sequencer.{SeqState}
use Rattle.fr_proxy.specs.Proxy.{ProxyState}
use Rattle.fr_storage.specs.Storage.{StorageState}
use Rattle.fr_run.specs.Config.{Config, first_cell}
use Rattle.fr_run.specs.Turn.{Turn, cell_turn, cell_turns}
use Rattle.fr_run.specs.Nodes.{log_after, seq_after, proxy_after, storage_after, storage_at}
use Rattle.fr_run.specs.Run.{IsTurn}
use Rattle.fr_run.specs.Laws.{Laws}
use Rattle.fr_world_nodes.specs.Parts.{IsWorld, AreRecoverers, Logs, Sequencers, Proxies, Recoverers, Storages}
use Rattle.fr_world_nodes.proofs.Stands.{logs_next, sequencers_next, proxies_next}

pub record IsQuiet (t : Turn) : Type 0 where
  pub cells : (ts : List register.Turn) → cell_turn t ts ≡ ts
  pub logs : (e i : ℕ) (l : LogState) → log_after t e i l ≡ l
  pub sequencers : (e : ℕ) (s : SeqState) → seq_after t e s ≡ s
  pub proxies : (e p : ℕ) (s : ProxyState) → proxy_after t e p s ≡ s
  pub storages : (tag : ℕ) (s : StorageState) → storage_after t tag s ≡ s

pub quiet_world : Laws → (c : Config) (h later : List Turn) (t : Turn) → IsQuiet t → (cells : List CellState) (logs : Logs) (sequencers : Sequencers) (proxies : Proxies) (recoverers new : Recoverers) (storages : Storages)
    → IsWorld c h cells logs sequencers proxies recoverers storages → IsTurn c h t → AreRecoverers c (t ∷ h) new → later ≡ t ∷ h → IsWorld c later cells logs sequencers proxies new storages
quiet_world laws c h later t quiet cells logs sequencers proxies recoverers new storages w is are entered =
    subst (λ x. IsWorld c x cells logs sequencers proxies new storages) (sym entered) (record {
      within = w.within;
      run = (is, w.run);
      cells_are = record { all = w.cells_are.all; each = λ i x at. w.cells_are.each i x at ∙ ap (λ ts. register.cell_at (first_cell c) ts i) (sym (quiet.cells (cell_turns h))) };
      logs_are = logs_next laws c h t w.run is logs logs w.logs_are (record { each = λ e i l. sym (quiet.logs e i _); there = w.logs_are.there });
      sequencers_are = sequencers_next laws c h t w.run is sequencers sequencers w.sequencers_are (record { each = λ e o. sym (quiet.sequencers e _); there = w.sequencers_are.there });
      proxies_are = proxies_next laws c h t w.run is proxies proxies w.proxies_are (record { each = λ e p o. sym (quiet.proxies e p _); there = w.proxies_are.there });
      recoverers_are = are;
      storages_are = record { all = w.storages_are.all; each = λ tag s at. w.storages_are.each tag s at ∙ sym (quiet.storages tag (storage_at c h tag)); work = w.storages_are.work };
    })
