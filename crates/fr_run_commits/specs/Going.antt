-- How a run goes on to a commit.
use Rattle.std.specs.Prelude.{◌≡◌, ℕ, List, ◌++◌, All}
use Rattle.fr_base.specs.declared.place.NodeId.{NodeId}
use Rattle.fr_base.specs.declared.place.NodeId.TheVariants as node
use Rattle.fr_mutation.specs.declared.mutation.Mutation.{Mutation}
use Rattle.fr_run.specs.Config.{Config}
use Rattle.fr_run.specs.Turn.{Turn, Begun, CellTurn, LogTurn, SeqTurn, Submitted, ProxyHeard, RecHeard, StorageHeard, Gone, Crashed}
use Rattle.fr_run.specs.Run.{IsRun}

-- this proxy of an epoch
abbrev pub IsProxy : ℕ → ℕ → NodeId → Type 0
IsProxy e p (node.Cell i) = ⊥
IsProxy e p (node.Log x i) = ⊥
IsProxy e p (node.Sequencer x) = ⊥
IsProxy e p (node.Proxy x q) = (x ≡ e) × (q ≡ p)
IsProxy e p (node.Recoverer b) = ⊥
IsProxy e p (node.Storage t) = ⊥

-- the own turns of a batch: a proxy takes it, and hears what it is told; a log or the sequencer is asked by the proxy
abbrev pub IsOwnOf : ℕ → ℕ → List Mutation → Turn → Type 0
IsOwnOf e p batch (Begun b shape asks) = ⊥
IsOwnOf e p batch (CellTurn from i a t) = ⊥
IsOwnOf e p batch (LogTurn from x i a t) = IsProxy e p from
IsOwnOf e p batch (SeqTurn from x a t) = IsProxy e p from
IsOwnOf e p batch (Submitted x q step taken asks) = (x ≡ e) × (q ≡ p) × (taken ≡ batch)
IsOwnOf e p batch (ProxyHeard x q from t outcome asks) = (x ≡ e) × (q ≡ p)
IsOwnOf e p batch (RecHeard b from t asks) = ⊥
IsOwnOf e p batch (StorageHeard tag from t taken fault) = ⊥
IsOwnOf e p batch (Gone who) = ⊥
IsOwnOf e p batch (Crashed who) = ⊥

-- a run goes on to a later moment by own turns of a batch alone
pub record TurnsOf (c : Config) (e p : ℕ) (batch : List Mutation) (h later : List Turn) : Type 0 where
  pub more : List Turn
  pub is : more ++ h ≡ later
  pub is_run : IsRun c later
  pub own : All (IsOwnOf e p batch) more
