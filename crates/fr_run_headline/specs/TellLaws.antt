-- What a log told, against what is chosen and what it was asked.
use Rattle.std.specs.Prelude.{◌≡◌, ◌<◌, ◌≤◌, ◌⊎◌, ℕ, List, length}
use Rattle.fr_base.specs.declared.place.NodeId.{NodeId}
use Rattle.fr_base.specs.declared.place.NodeId.TheVariants as node
use Rattle.fr_state.specs.Generations.{CoordinatedState}
use Rattle.fr_log.specs.Peeked.{PeekedContent}
use Rattle.fr_log.specs.declared.ask.LogAsk.TheVariants.{Peek}
use Rattle.fr_log.specs.declared.ask.LogTell.TheVariants.{Marked, Peeked}
use Rattle.fr_ask.specs.declared.ask.Ask.TheVariants as ask
use Rattle.fr_ask.specs.declared.tell.Tell.TheVariants as tell
use Rattle.fr_run.specs.Config.{Config}
use Rattle.fr_run.specs.Turn.{Turn, Sent, Told}
use Rattle.fr_run.specs.Run.{IsRun, StorageMayAsk}
use Rattle.fr_run.specs.States.{state_of, IsChosenEpoch}

-- a state that a log told as its mark is that of its epoch, which is chosen
abbrev pub MarkedIsChosen : Type 0
MarkedIsChosen =
    (c : Config) (h : List Turn) → IsRun c h → (e i : ℕ) (to : NodeId) (x : CoordinatedState) → Told h (node.Log e i) to (tell.Log (Marked x))
    → IsChosenEpoch c h e × (x ≡ state_of c h e)

-- a node asked a log for records of this tag above this version, or is the storage server of the tag, which may
pub record IsPeekAsked (c : Config) (h : List Turn) (e i : ℕ) (from : NodeId) (tag after : ℕ) : Type 0 where
  pub most : ℕ
  pub some : 1 ≤ most
  pub asked : Sent h from (node.Log e i) (ask.Log (Peek e tag after most)) ⊎ StorageMayAsk c h from (Peek e tag after most)

-- records that a log told to a node were asked for by it
abbrev pub PeekedIsAsked : Type 0
PeekedIsAsked =
    (c : Config) (h : List Turn) → IsRun c h → (e i : ℕ) (to : NodeId) (p : PeekedContent) → Told h (node.Log e i) to (tell.Log (Peeked p))
    → IsPeekAsked c h e i to p.tag p.after

-- those that it told to a storage server are of the server's own tag, which is one of a shard
abbrev pub PeekedIsOwn : Type 0
PeekedIsOwn =
    (c : Config) (h : List Turn) → IsRun c h → (e i t : ℕ) (p : PeekedContent) → Told h (node.Log e i) (node.Storage t) (tell.Log (Peeked p))
    → (p.tag ≡ t) × (t < length c.begins)
