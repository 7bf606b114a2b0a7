-- How a run goes on.
use Rattle.std.specs.Prelude.{◌≡◌, ◌≤◌, ℕ, List, ◌++◌, None, All}
use Rattle.fr_base.specs.declared.place.NodeId.{NodeId}
use Rattle.fr_base.specs.declared.place.NodeId.TheVariants as node
use Rattle.fr_run.specs.Config.{Config}
use Rattle.fr_run.specs.Turn.{Turn, Begun, CellTurn, LogTurn, SeqTurn, Submitted, ProxyHeard, RecHeard, StorageHeard, Gone, Crashed, cell_turns}
use Rattle.fr_run.specs.Nodes.{cell_at, rec_at, log_at, storage_at}
use Rattle.fr_run.specs.Run.{IsRun}
use Rattle.fr_run_headline.specs.Retrievable.{lost_logs}

-- the recoverer of a ballot, or a storage server
abbrev pub IsAsker : ℕ → NodeId → Type 0
IsAsker b (node.Cell i) = ⊥
IsAsker b (node.Log e i) = ⊥
IsAsker b (node.Sequencer e) = ⊥
IsAsker b (node.Proxy e p) = ⊥
IsAsker b (node.Recoverer x) = x ≡ b
IsAsker b (node.Storage t) = Unit {0}

-- the own turns of a ballot: of its recoverer, of a cell or a log that it or a storage server asks, and of a storage server
-- that hears the whole of a tell. Nothing is lost or crashes
abbrev pub IsOwn : ℕ → Turn → Type 0
IsOwn b (Begun x shape asks) = x ≡ b
IsOwn b (CellTurn from i a t) = IsAsker b from
IsOwn b (LogTurn from e i a t) = IsAsker b from
IsOwn b (SeqTurn from e a t) = ⊥
IsOwn b (Submitted e p step batch asks) = ⊥
IsOwn b (ProxyHeard e p from t outcome asks) = ⊥
IsOwn b (RecHeard x from t asks) = x ≡ b
IsOwn b (StorageHeard tag from t taken fault) = taken ≡ None
IsOwn b (Gone who) = ⊥
IsOwn b (Crashed who) = ⊥

-- a run goes on to a later moment by own turns of a ballot alone, and no cell that promised no greater one comes to promise one
pub record GoesOn (c : Config) (b : ℕ) (h later : List Turn) : Type 0 where
  pub more : List Turn
  pub is : more ++ h ≡ later
  pub is_run : IsRun c later
  pub own : All (IsOwn b) more
  pub low : (i : ℕ) → (cell_at c h i).promised ≤ b → (cell_at c later i).promised ≤ b

-- on the way no cell was asked, no recoverer began or heard anything, and no log was lost. So the same states are chosen
pub record LeavesChosen (c : Config) (h later : List Turn) : Type 0 where
  pub cells : cell_turns later ≡ cell_turns h
  pub recoverers : (b : ℕ) → rec_at c later b ≡ rec_at c h b
  pub lost : (e : ℕ) → lost_logs later e ≡ lost_logs h e

-- nor did a log change, or the storage server of another tag
pub record LeavesOthers (c : Config) (h later : List Turn) (tag : ℕ) : Type 0 where
  pub logs : (e i : ℕ) → log_at c later e i ≡ log_at c h e i
  pub storages : (other : ℕ) → (other ≡ tag → ⊥) → storage_at c later other ≡ storage_at c h other
