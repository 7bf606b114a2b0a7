-- What a tell is to a recoverer.
use Rattle.std.specs.Prelude.{ℕ, ◌+◌, Bool, nat_lt, ◌==◌, ◌&&◌, not, List, Option, None, Some, if◌then◌else◌}
use Rattle.std.specs.List.{list_any}
use Rattle.fr_base.specs.declared.place.NodeId.{NodeId}
use Rattle.fr_base.specs.declared.place.NodeId.TheVariants as node
use Rattle.fr_register.specs.declared.ask.CellTell.{CellTell}
use Rattle.fr_log.specs.declared.ask.LogTell.{LogTell}
use Rattle.fr_log.specs.declared.ask.LogTell.TheVariants as log
use Rattle.fr_log.specs.declared.popped.PoppedTag.{PoppedTag}
use Rattle.fr_log.specs.Peeked.{PeekedContent}
use Rattle.fr_ask.specs.declared.tell.Tell.{Tell}
use Rattle.fr_ask.specs.declared.tell.Tell.TheVariants as tell
use Rattle.fr_epoch.specs.EndTally.{EndState}
use Rattle.fr_epoch.specs.Recoverer.{RecState, Phase, Parent, Plan, Reading, Locking, Copying, Writing, Chosen, Lost, is_copied}

-- a tell with the node that gave it
pub data Word : Type 0 where
  OfCell : (cell : ℕ) (tell : CellTell) → Word
  OfLog : (epoch log : ℕ) (tell : LogTell) → Word
  -- no recoverer wants it
  Other : Word

abbrev pub word_of_cell : ℕ → Tell → Word
word_of_cell i (tell.Cell t) = OfCell i t
word_of_cell i (tell.Log t) = Other
word_of_cell i (tell.Seq t) = Other

abbrev pub word_of_log : ℕ → ℕ → Tell → Word
word_of_log e i (tell.Cell t) = Other
word_of_log e i (tell.Log t) = OfLog e i t
word_of_log e i (tell.Seq t) = Other

abbrev pub word_of : NodeId → Tell → Word
word_of (node.Cell i) t = word_of_cell i t
word_of (node.Log e i) t = word_of_log e i t
word_of (node.Sequencer e) t = Other
word_of (node.Proxy e p) t = Other
word_of (node.Recoverer b) t = Other
word_of (node.Storage s) t = Other

-- what a tell is to a recoverer in its phase
pub data Heed : Type 0 where
  -- it wants no such tell now
  Nothing : Heed
  -- what a cell told while it reads
  Promised : (cell : ℕ) (tell : CellTell) → Heed
  -- a log of the parent's last generation is locked
  Replied : (p : Parent) (end : EndState) (log durable known : ℕ) (popped : List PoppedTag) → Heed
  -- what a log of that generation gave of a tag
  Given : (p : Plan) (log : ℕ) (peeked : PeekedContent) → Heed
  -- one more log of the new generation is seeded
  IsSeeded : (p : Plan) (log : ℕ) → Heed
  -- what a cell told while it writes
  Voted : (cell : ℕ) (tell : CellTell) → Heed
  -- one more log of the new generation holds the mark
  IsMarked : (p : Plan) (log : ℕ) → Heed

-- whether a log is among these
abbrev pub is_in : List ℕ → ℕ → Bool
is_in logs log = list_any (λ other. other == log) logs

abbrev pub heed_cell_reading : Word → Heed
heed_cell_reading (OfCell i t) = Promised i t
heed_cell_reading (OfLog e i t) = Nothing
heed_cell_reading Other = Nothing

abbrev pub heed_locked : Option Parent → Option EndState → ℕ → ℕ → ℕ → ℕ → List PoppedTag → Heed
heed_locked None end e i durable known popped = Nothing
heed_locked (Some p) None e i durable known popped = Nothing
heed_locked (Some p) (Some end) e i durable known popped = if e == p.last.epoch then Replied p end i durable known popped else Nothing

abbrev pub heed_lock : RecState → ℕ → ℕ → LogTell → Heed
heed_lock r e i (log.Locked durable known popped) = heed_locked r.parent r.end e i durable known popped
heed_lock r e i t = Nothing

abbrev pub heed_peeked : Option Parent → Option Plan → ℕ → ℕ → PeekedContent → Heed
heed_peeked None plan e i peeked = Nothing
heed_peeked (Some parent) None e i peeked = Nothing
heed_peeked (Some parent) (Some p) e i peeked = if e == parent.last.epoch then Given p i peeked else Nothing

-- only a log of the new generation that was not heard counts, and none before the copy is complete
abbrev pub is_newly_seeded : RecState → Plan → ℕ → ℕ → Bool
is_newly_seeded r p e i = ((e == r.ballot) && nat_lt i p.generation.m) && (is_copied r && not (is_in r.seeded i))

abbrev pub heed_seeded : RecState → Option Plan → ℕ → ℕ → Heed
heed_seeded r None e i = Nothing
heed_seeded r (Some p) e i = if is_newly_seeded r p e i then IsSeeded p i else Nothing

abbrev pub heed_copy : RecState → ℕ → ℕ → LogTell → Heed
heed_copy r e i log.Seeded = heed_seeded r r.plan e i
heed_copy r e i (log.Peeked peeked) = heed_peeked r.parent r.plan e i peeked
heed_copy r e i t = Nothing

abbrev pub heed_cell_writing : Word → Heed
heed_cell_writing (OfCell i t) = Voted i t
heed_cell_writing (OfLog e i t) = Nothing
heed_cell_writing Other = Nothing

abbrev pub is_newly_marked : RecState → Plan → ℕ → ℕ → ℕ → Bool
is_newly_marked r p e i version =
    ((e == r.ballot) && nat_lt i p.generation.m) && ((version == p.generation.seeded_to + 1) && not (is_in r.marked i))

abbrev pub heed_held : RecState → Option Plan → ℕ → ℕ → ℕ → Heed
heed_held r None e i version = Nothing
heed_held r (Some p) e i version = if is_newly_marked r p e i version then IsMarked p i else Nothing

abbrev pub heed_mark : RecState → ℕ → ℕ → LogTell → Heed
heed_mark r e i (log.Held version) = heed_held r r.plan e i version
heed_mark r e i t = Nothing

-- what a log told
abbrev pub of_log : (ℕ → ℕ → LogTell → Heed) → Word → Heed
of_log f (OfCell i t) = Nothing
of_log f (OfLog e i t) = f e i t
of_log f Other = Nothing

abbrev pub heed_in : Phase → RecState → Word → Heed
heed_in Reading r w = heed_cell_reading w
heed_in Locking r w = of_log (heed_lock r) w
heed_in Copying r w = of_log (heed_copy r) w
heed_in Writing r w = heed_cell_writing w
heed_in Chosen r w = of_log (heed_mark r) w
heed_in (Lost why) r w = Nothing

-- what a tell is to a recoverer: one that is lost heeds none
abbrev pub heed : RecState → Word → Heed
heed r w = heed_in r.phase r w
