-- The line that an audit prints, and the status that it ends with.
use Rattle.std.specs.Prelude.{ℕ, List, [], ◌++◌, codes, decimal, Result, Ok, Err}
use Rattle.fr_audit_journal.specs.Names.{node_text}
use Rattle.fr_run.specs.Turn.{Turn}
use Rattle.fr_audit.specs.declared.fault.AuditFault.{AuditFault}
use Rattle.fr_audit.specs.declared.fault.AuditFault.TheVariants.{NotARun, TellDiffers, StateDiffers, Memory}

-- a fault; `Memory` prints no line
abbrev pub fault_line : AuditFault → List ℕ
fault_line (NotARun at) = codes "not a run at " ++ (decimal at ++ codes "\n")
fault_line (TellDiffers at) = codes "tell differs at " ++ (decimal at ++ codes "\n")
fault_line (StateDiffers who) = codes "state differs at " ++ (node_text who ++ codes "\n")
fault_line Memory = []

-- what an audit answers
abbrev pub line_of : Result (List Turn) AuditFault → List ℕ
line_of (Ok h) = codes "audit ok\n"
line_of (Err fault) = fault_line fault

-- 0 if the journals are a run, and else 1
abbrev pub status_of : Result (List Turn) AuditFault → ℕ
status_of (Ok h) = 0
status_of (Err fault) = 1
