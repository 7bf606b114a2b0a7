-- Keys of what happened: what one node asked or told another, and the two nodes, each as one number. Equal ones have one key; different ones may.
use Rattle.std.specs.Prelude.{ℕ, ◌+◌, ◌*◌, ◌%◌, ◌^◌, Option, None, Some}
use Rattle.fr_base.specs.declared.place.NodeId.{NodeId}
use Rattle.fr_base.specs.declared.place.NodeId.TheVariants as node
use Rattle.fr_register.specs.declared.ask.CellAsk.{CellAsk}
use Rattle.fr_register.specs.declared.ask.CellAsk.TheVariants as cask
use Rattle.fr_register.specs.declared.ask.CellTell.{CellTell}
use Rattle.fr_register.specs.declared.ask.CellTell.TheVariants as ctell
use Rattle.fr_log.specs.declared.ask.LogAsk.{LogAsk}
use Rattle.fr_log.specs.declared.ask.LogAsk.TheVariants as lask
use Rattle.fr_log.specs.declared.ask.LogTell.{LogTell}
use Rattle.fr_log.specs.declared.ask.LogTell.TheVariants as ltell
use Rattle.fr_log.specs.declared.ask.LogRefusal.{LogRefusal}
use Rattle.fr_log.specs.declared.ask.LogRefusal.TheVariants as why
use Rattle.fr_ask.specs.declared.sequencer.SeqAsk.{SeqAsk}
use Rattle.fr_ask.specs.declared.sequencer.SeqAsk.TheVariants as sask
use Rattle.fr_ask.specs.declared.sequencer.SeqTell.{SeqTell}
use Rattle.fr_ask.specs.declared.sequencer.SeqTell.TheVariants as stell
use Rattle.fr_ask.specs.declared.sequencer.SeqRefusal.TheVariants.{Spent, OutOfTurn}
use Rattle.fr_ask.specs.declared.ask.Ask.{Ask}
use Rattle.fr_ask.specs.declared.ask.Ask.TheVariants as ask
use Rattle.fr_ask.specs.declared.tell.Tell.{Tell}
use Rattle.fr_ask.specs.declared.tell.Tell.TheVariants as tell
use Rattle.fr_run.specs.Turn as history
use Rattle.fr_world_turns.specs.Places.{Key}

-- the first number times a factor, and the second one: the last 64 bits of that
abbrev pub joined : ℕ → ℕ → ℕ → ℕ
joined first factor second = ((first * factor) % 2 ^ 64 + second) % 2 ^ 64

-- a node of a kind, of an epoch or a ballot if it has one, and its place there
abbrev pub node_of : ℕ → ℕ → ℕ → ℕ
node_of kind epoch place = joined (joined epoch 256 place) 8 kind

-- a node as a number: no two have one, if epochs and ballots are below 2^53
abbrev pub node_number : NodeId → ℕ
node_number (node.Cell i) = node_of 0 0 i
node_number (node.Log e i) = node_of 1 e i
node_number (node.Sequencer e) = node_of 2 e 0
node_number (node.Proxy e p) = node_of 3 e p
node_number (node.Recoverer b) = node_of 4 b 0
node_number (node.Storage t) = node_of 5 0 t

-- an ask or a tell: its kind, and numbers that tell it from others between the same nodes
abbrev pub WordRow : Type 0
WordRow = ℕ × ℕ × ℕ × ℕ × ℕ

-- a row's numbers, each spread before the next one is added, by 2^64 over the golden ratio: rows that differ seldom make one number
abbrev pub spread : ℕ → ℕ → ℕ
spread word n = joined word 11400714819323198485 n

abbrev pub word_number : WordRow → ℕ
word_number w = spread (spread (spread (spread w.0 w.1) w.2) w.3) w.4

-- what differs most often comes first, so that two keys are mostly told apart by their first numbers
abbrev pub key_of : NodeId → NodeId → WordRow → Key
key_of from to w = (word_number w, node_number to, node_number from)

-- ---- asks, which go to a log of their epoch, and to a sequencer from the proxy that they name

abbrev pub cell_ask_row : CellAsk → WordRow
cell_ask_row (cask.Read b) = (1, b, 0, 0, 0)
cell_ask_row (cask.Write b v) = (2, b, 0, 0, 0)

abbrev pub log_ask_row : LogAsk → WordRow
log_ask_row (lask.Seed s) = (3, s.first, s.seeded_to, 0, 0)
log_ask_row (lask.Push p) = (4, p.version, p.known, 0, 0)
log_ask_row (lask.Lock e) = (5, 0, 0, 0, 0)
log_ask_row (lask.Peek e t after most) = (6, after, t, most, 0)
log_ask_row (lask.MarkAsked e) = (7, 0, 0, 0, 0)
log_ask_row (lask.Pop e t through) = (21, through, t, 0, 0)

abbrev pub seq_ask_row : SeqAsk → WordRow
seq_ask_row (sask.Next p r s) = (8, r, s, 0, 0)

abbrev pub ask_row : Ask → WordRow
ask_row (ask.Cell a) = cell_ask_row a
ask_row (ask.Log a) = log_ask_row a
ask_row (ask.Seq a) = seq_ask_row a

-- ---- tells

abbrev pub cell_tell_row : CellTell → WordRow
cell_tell_row (ctell.Promise b v) = (9, b, 0, 0, 0)
cell_tell_row (ctell.Written b) = (10, b, 0, 0, 0)
cell_tell_row (ctell.Refused b) = (11, b, 0, 0, 0)
cell_tell_row ctell.TwoValues = (12, 0, 0, 0, 0)

abbrev pub refusal_row : LogRefusal → WordRow
refusal_row why.WrongEpoch = (18, 0, 0, 0, 0)
refusal_row why.Unseeded = (18, 1, 0, 0, 0)
refusal_row why.Stopped = (18, 2, 0, 0, 0)
refusal_row why.Stale = (18, 3, 0, 0, 0)
refusal_row (why.Gap durable) = (18, 4, durable, 0, 0)
refusal_row why.NotMine = (18, 5, 0, 0, 0)
refusal_row (why.TooEarly first) = (18, 6, first, 0, 0)
refusal_row why.SeedDiffers = (18, 7, 0, 0, 0)
refusal_row why.NoMark = (18, 8, 0, 0, 0)
refusal_row (why.Removed through) = (18, 9, through, 0, 0)

abbrev pub log_tell_row : LogTell → WordRow
log_tell_row ltell.Seeded = (13, 0, 0, 0, 0)
log_tell_row (ltell.Held v) = (14, v, 0, 0, 0)
log_tell_row (ltell.Locked durable known popped) = (15, durable, known, 0, 0)
log_tell_row (ltell.Peeked p) = (16, p.after, p.upto, p.known, p.tag)
log_tell_row (ltell.Marked state) = (17, 0, 0, 0, 0)
log_tell_row (ltell.Popped through) = (22, through, 0, 0, 0)
log_tell_row (ltell.Refused reason) = refusal_row reason

abbrev pub seq_tell_row : SeqTell → WordRow
seq_tell_row (stell.Numbered r p v) = (19, v, r, 0, 0)
seq_tell_row (stell.Refused Spent) = (20, 0, 0, 0, 0)
seq_tell_row (stell.Refused OutOfTurn) = (20, 1, 0, 0, 0)

abbrev pub tell_row : Tell → WordRow
tell_row (tell.Cell t) = cell_tell_row t
tell_row (tell.Log t) = log_tell_row t
tell_row (tell.Seq t) = seq_tell_row t

-- ---- keys

-- of the turn that took a node away
abbrev pub gone_key : NodeId → Key
gone_key who = key_of who who (0, 0, 0, 0, 0)

-- of the turns in which a node gave an ask to another
abbrev pub ask_key : NodeId → NodeId → Ask → Key
ask_key from to a = key_of from to (ask_row a)

-- of the turns in which a node told this to another
abbrev pub tell_key : NodeId → NodeId → Tell → Key
tell_key by to t = key_of by to (tell_row t)

-- of what was told in a turn
abbrev pub told_key : history.Turn → Option Key
told_key (history.CellTurn from i a t) = Some (tell_key (node.Cell i) from (tell.Cell t))
told_key (history.LogTurn from e i a t) = Some (tell_key (node.Log e i) from (tell.Log t))
told_key (history.SeqTurn from e a t) = Some (tell_key (node.Sequencer e) from (tell.Seq t))
told_key t = None
