-- What a world keeps of its nodes, as functions of what happened. Logs, sequencers and proxies are made when they are first asked: one that
-- is not kept is as it was made.
use Rattle.std.specs.Prelude.{◌≡◌, ◌<◌, ℕ, Bool, true, false, List, length, slice_get, Some, IsSome, unwrap_or, Result, Ok, Err}
use Rattle.std.specs.Ordering.{nat_cmp, ordering_then}
use Rattle.std.specs.declared.cmp.Ordering.{Ordering}
use Rattle.std.specs.BTreeMap as tree
use Rattle.std.specs.BTreeMap.{BTreeMap}
use Rattle.fr_register.specs.CellState.{CellState}
use Rattle.fr_undo.specs.State.{StoreState}
use Rattle.fr_log.specs.LogState.{LogState}
use Rattle.fr_proxy.specs.Sequencer.{SeqState, new_sequencer}
use Rattle.fr_proxy.specs.Proxy.{ProxyState}
use Rattle.fr_epoch.specs.Recoverer.{RecState}
use Rattle.fr_storage.specs.Server.{Server, storage_of}
use Rattle.fr_storage.specs.Storage.{StorageState}
use Rattle.fr_run.specs.Config.{Config}
use Rattle.fr_run.specs.Turn.{Turn}
use Rattle.fr_run.specs.Nodes.{cell_at, rec_at, log_at, logs_at, new_log, seq_at, mark_version, generation_at, is_open, proxy_at, new_proxy_in, storage_at}
use Rattle.fr_run.specs.Run.{IsRun}
use Rattle.fr_run.specs.ConfigLimits.{IsWithin}

-- logs and proxies are under their epoch and their number there
abbrev pub pair_cmp : ℕ × ℕ → ℕ × ℕ → Ordering
pair_cmp p q = ordering_then (nat_cmp p.0 q.0) (nat_cmp p.1 q.1)

abbrev pub Logs : Type 0
Logs = BTreeMap (ℕ × ℕ) LogState

abbrev pub Sequencers : Type 0
Sequencers = BTreeMap ℕ SeqState

abbrev pub Proxies : Type 0
Proxies = BTreeMap (ℕ × ℕ) ProxyState

abbrev pub Recoverers : Type 0
Recoverers = BTreeMap ℕ RecState

abbrev pub Storages : Type 0
Storages = List (Server StoreState)

pub record AreCells (c : Config) (h : List Turn) (cells : List CellState) : Type 0 where
  pub all : length cells ≡ c.cells
  pub each : (i : ℕ) (x : CellState) → slice_get cells i ≡ Some x → x ≡ cell_at c h i

pub record AreLogs (c : Config) (h : List Turn) (logs : Logs) : Type 0 where
  pub there : (e i : ℕ) → IsSome (tree.get pair_cmp logs (e, i)) → i < logs_at c h e
  pub each : (e i : ℕ) → i < logs_at c h e → unwrap_or (tree.get pair_cmp logs (e, i)) (new_log c h e i) ≡ log_at c h e i

abbrev pub new_seq : Config → List Turn → ℕ → SeqState
new_seq c h e = new_sequencer e (mark_version (generation_at c h e))

pub record AreSequencers (c : Config) (h : List Turn) (sequencers : Sequencers) : Type 0 where
  pub there : (e : ℕ) → IsSome (tree.get nat_cmp sequencers e) → is_open c h e ≡ true
  pub each : (e : ℕ) → is_open c h e ≡ true → unwrap_or (tree.get nat_cmp sequencers e) (new_seq c h e) ≡ seq_at c h e

abbrev pub new_proxy : Config → List Turn → ℕ → ℕ → ProxyState
new_proxy c h e p = new_proxy_in c (generation_at c h e) e p

pub record AreProxies (c : Config) (h : List Turn) (proxies : Proxies) : Type 0 where
  pub there : (e p : ℕ) → IsSome (tree.get pair_cmp proxies (e, p)) → is_open c h e ≡ true
  pub each : (e p : ℕ) → is_open c h e ≡ true → unwrap_or (tree.get pair_cmp proxies (e, p)) (new_proxy c h e p) ≡ proxy_at c h e p

abbrev pub AreRecoverers : Config → List Turn → Recoverers → Type 0
AreRecoverers c h recoverers = (b : ℕ) → tree.get nat_cmp recoverers b ≡ rec_at c h b

-- a server in memory, as data
abbrev pub server_of : Server StoreState → StorageState
server_of s = storage_of (λ store. store) s

pub record AreStorages (c : Config) (h : List Turn) (storages : Storages) : Type 0 where
  pub all : length storages ≡ length c.begins
  pub each : (tag : ℕ) (s : Server StoreState) → slice_get storages tag ≡ Some s → server_of s ≡ storage_at c h tag
  pub work : (tag : ℕ) (s : Server StoreState) → slice_get storages tag ≡ Some s → s.failed ≡ false

-- whether an answer is yes
abbrev pub is_ok_true : {E : Type 0} → Result Bool E → Bool
is_ok_true (Ok b) = b
is_ok_true (Err e) = false

-- what a world keeps, after a run
pub record IsWorld (c : Config) (h : List Turn) (cells : List CellState) (logs : Logs) (sequencers : Sequencers) (proxies : Proxies) (recoverers : Recoverers) (storages : Storages) : Type 0 where
  pub within : IsWithin c
  pub run : IsRun c h
  pub cells_are : AreCells c h cells
  pub logs_are : AreLogs c h logs
  pub sequencers_are : AreSequencers c h sequencers
  pub proxies_are : AreProxies c h proxies
  pub recoverers_are : AreRecoverers c h recoverers
  pub storages_are : AreStorages c h storages
