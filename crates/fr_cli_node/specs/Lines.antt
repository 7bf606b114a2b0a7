-- How a line ends that is not done, and how a node's process ends.
use Rattle.std.specs.Prelude.{◌≡◌, ◌<◌, ◌⊎◌, ⊤, Option, None, Some, Result, Ok, Err}
use Rattle.fr_cli_json.specs.Calls.{Counts}
use Rattle.fr_cli_json.specs.declared.fault.CliFault.TheVariants as cli
use Rattle.fr_node.specs.declared.reply.NodeReply.{NodeReply}
use Rattle.fr_node.specs.declared.fault.Crash.{Crash}
use Rattle.fr_node.specs.declared.fault.Crash.TheVariants as crash
use Rattle.fr_node.specs.declared.fault.NodeTurnFault.TheVariants as turn
use Rattle.fr_node_lines.specs.declared.fault.BadLine.TheVariants as bad
use Rattle.fr_node_lines.specs.declared.fault.LineFault.{LineFault}
use Rattle.fr_node_lines.specs.declared.fault.LineFault.TheVariants as line
use Rattle.fr_cli_node.specs.declared.fault.NodeEnd.{NodeEnd}
use Rattle.fr_cli_node.specs.declared.fault.NodeEnd.TheVariants as end

-- why a node cannot go on, if it cannot: there is no memory, or it said so
abbrev pub crash_in_fault : LineFault → Option Crash
crash_in_fault (line.Bad bad.Memory) = Some crash.Memory
crash_in_fault (line.Bad b) = None
crash_in_fault (line.Turn (turn.Crashed why)) = Some why
crash_in_fault (line.Turn (turn.Refused why)) = None

abbrev pub crash_in : Result NodeReply LineFault → Option Crash
crash_in (Ok reply) = None
crash_in (Err f) = crash_in_fault f

-- what is so of a node that can go on

abbrev pub IfNone : Option Crash → Type 0 → Type 0
IfNone None P = P
IfNone (Some why) P = ⊤

abbrev pub UnlessEnded : Result NodeReply LineFault → Type 0 → Type 0
UnlessEnded done P = IfNone (crash_in done) P

-- what is so if a line was not done, and the node can go on
abbrev pub IfUndone : Result NodeReply LineFault → Type 0 → Type 0
IfUndone (Ok reply) P = ⊤
IfUndone (Err f) P = IfNone (crash_in_fault f) P

-- a process ends out of memory, or by what its node can say
abbrev pub IsEnd : (Crash → Type 0) → Crash → Type 0
IsEnd CanCrash why = (why ≡ crash.Memory) ⊎ CanCrash why

-- it ends early by a crash of these, or by what any command can meet
abbrev pub EndsBy : (Crash → Type 0) → NodeEnd → Type 0
EndsBy CanCrash (end.Command f) = ⊤
EndsBy CanCrash end.NoConfig = ⊥
EndsBy CanCrash end.NotThere = ⊥
EndsBy CanCrash end.NoFile = ⊥
EndsBy CanCrash end.Busy = ⊥
EndsBy CanCrash end.Unmade = ⊥
EndsBy CanCrash end.Missing = ⊥
EndsBy CanCrash end.There = ⊥
EndsBy CanCrash end.Stranger = ⊥
EndsBy CanCrash end.NoRoom = ⊥
EndsBy CanCrash (end.Crashed why) = IsEnd CanCrash why

-- an answer is not written out of memory, or if a call of the writer failed
abbrev pub IsPutFault : Counts → NodeEnd → Type 0
IsPutFault calls (end.Command f) = (f ≡ cli.Output) × (0 < calls.failed_writes)
IsPutFault calls end.NoConfig = ⊥
IsPutFault calls end.NotThere = ⊥
IsPutFault calls end.NoFile = ⊥
IsPutFault calls end.Busy = ⊥
IsPutFault calls end.Unmade = ⊥
IsPutFault calls end.Missing = ⊥
IsPutFault calls end.There = ⊥
IsPutFault calls end.Stranger = ⊥
IsPutFault calls end.NoRoom = ⊥
IsPutFault calls (end.Crashed why) = why ≡ crash.Memory

-- a line is not answered if the node cannot go on, out of memory, or if a call of the writer failed
abbrev pub IsAnswerFault : (Crash → Type 0) → Counts → NodeEnd → Type 0
IsAnswerFault CanCrash calls (end.Command f) = (f ≡ cli.Output) × (0 < calls.failed_writes)
IsAnswerFault CanCrash calls end.NoConfig = ⊥
IsAnswerFault CanCrash calls end.NotThere = ⊥
IsAnswerFault CanCrash calls end.NoFile = ⊥
IsAnswerFault CanCrash calls end.Busy = ⊥
IsAnswerFault CanCrash calls end.Unmade = ⊥
IsAnswerFault CanCrash calls end.Missing = ⊥
IsAnswerFault CanCrash calls end.There = ⊥
IsAnswerFault CanCrash calls end.Stranger = ⊥
IsAnswerFault CanCrash calls end.NoRoom = ⊥
IsAnswerFault CanCrash calls (end.Crashed why) = IsEnd CanCrash why
