-- A turn as the code has it, as a turn of a history.
use Rattle.std.specs.Prelude.{Bool, false, ◌==◌, ◌&&◌, List, [], ◌∷◌, fold}
use Rattle.fr_base.specs.Node.{is_same_node, is_same_log}
use Rattle.fr_log.specs.Same.{is_same_log_tell}
use Rattle.fr_ask.specs.Cells.{is_same_cell_tell}
use Rattle.fr_ask.specs.Same.{is_same_seq_tell}
use Rattle.fr_run.specs.Turn as history
use Rattle.fr_world_turns.specs.declared.turn.Turn.{Turn}
use Rattle.fr_world_turns.specs.declared.turn.Turn.TheVariants as turn

abbrev pub turn_of : Turn → history.Turn
turn_of (turn.Begun ballot shape asks) = history.Begun ballot shape asks.items
turn_of (turn.Cell from index a t) = history.CellTurn from index a t
turn_of (turn.Log from log a t) = history.LogTurn from log.epoch log.index a t
turn_of (turn.Sequencer from epoch a t) = history.SeqTurn from epoch a t
turn_of (turn.Submitted epoch proxy step batch asks) = history.Submitted epoch proxy step batch asks.items
turn_of (turn.Proxy epoch proxy from t outcome asks) = history.ProxyHeard epoch proxy from t outcome asks.items
turn_of (turn.Recoverer ballot from t asks) = history.RecHeard ballot from t asks.items
turn_of (turn.Storage tag from t taken fault) = history.StorageHeard tag from t taken fault
turn_of (turn.Gone who) = history.Gone who
turn_of (turn.Crashed who) = history.Crashed who

-- turns, the oldest first, as a history, which has the newest first
abbrev pub history_of : List Turn → List history.Turn
history_of turns = fold (λ h t. turn_of t ∷ h) [] turns

-- whether a turn's node tells in it what a node told in another turn: the turns are of one node, and the tells to one
abbrev pub retells : history.Turn → history.Turn → Bool
retells (history.CellTurn from i a t) (history.CellTurn asker j b u) = (i == j) && (is_same_node from asker && is_same_cell_tell t u)
retells (history.LogTurn from e i a t) (history.LogTurn asker f j b u) = is_same_log (record { epoch = e; index = i }) (record { epoch = f; index = j }) && (is_same_node from asker && is_same_log_tell t u)
retells (history.SeqTurn from e a t) (history.SeqTurn asker f b u) = (e == f) && (is_same_node from asker && is_same_seq_tell t u)
retells t u = false
