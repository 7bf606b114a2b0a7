-- What each kind of node finds among all asks and tells, and what others see of its last state.
use Rattle.std.specs.Prelude.{Option, None, Some, is_some}
use Rattle.fr_register.specs.declared.ask.CellAsk.{CellAsk}
use Rattle.fr_register.specs.declared.ask.CellTell.{CellTell}
use Rattle.fr_register.specs.CellState.{CellState}
use Rattle.fr_log.specs.declared.ask.LogAsk.{LogAsk}
use Rattle.fr_log.specs.declared.ask.LogTell.{LogTell}
use Rattle.fr_log.specs.LogState.{LogState, durable_of, known_of}
use Rattle.fr_ask.specs.declared.sequencer.SeqAsk.{SeqAsk}
use Rattle.fr_ask.specs.declared.sequencer.SeqTell.{SeqTell}
use Rattle.fr_ask.specs.declared.ask.Ask.{Ask}
use Rattle.fr_ask.specs.declared.ask.Ask.TheVariants as ask
use Rattle.fr_ask.specs.declared.tell.Tell.{Tell}
use Rattle.fr_ask.specs.declared.tell.Tell.TheVariants as tell
use Rattle.fr_ask.specs.declared.last.Last.{Last}
use Rattle.fr_ask.specs.declared.last.Last.TheVariants as last

-- the ask of a cell, a log or a sequencer that an ask is, if it is one

abbrev pub cell_ask_of : Ask → Option CellAsk
cell_ask_of (ask.Cell a) = Some a
cell_ask_of (ask.Log a) = None
cell_ask_of (ask.Seq a) = None

abbrev pub log_ask_of : Ask → Option LogAsk
log_ask_of (ask.Cell a) = None
log_ask_of (ask.Log a) = Some a
log_ask_of (ask.Seq a) = None

abbrev pub seq_ask_of : Ask → Option SeqAsk
seq_ask_of (ask.Cell a) = None
seq_ask_of (ask.Log a) = None
seq_ask_of (ask.Seq a) = Some a

-- the tell of a cell, a log or a sequencer that a tell is, if it is one

abbrev pub cell_tell_of : Tell → Option CellTell
cell_tell_of (tell.Cell t) = Some t
cell_tell_of (tell.Log t) = None
cell_tell_of (tell.Seq t) = None

abbrev pub log_tell_of : Tell → Option LogTell
log_tell_of (tell.Cell t) = None
log_tell_of (tell.Log t) = Some t
log_tell_of (tell.Seq t) = None

abbrev pub seq_tell_of : Tell → Option SeqTell
seq_tell_of (tell.Cell t) = None
seq_tell_of (tell.Log t) = None
seq_tell_of (tell.Seq t) = Some t

-- what others see of a cell and of a log

abbrev pub last_of_cell : CellState → Last
last_of_cell c = last.Cell c.promised c.written c.value

abbrev pub last_of_log : LogState → Last
last_of_log l = last.Log (is_some l.seed) (durable_of l) (known_of l) l.stopped l.popped
