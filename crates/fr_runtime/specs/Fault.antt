-- Why a cluster's run has no report.
use Rattle.std.specs.Prelude.{◌≢◌, ℕ, Bool, true, false, List, Option}
use Rattle.std.specs.Global.{Vec}
use Rattle.fr_base.specs.Shape.{ShapeContent}
use Rattle.fr_proxy.specs.declared.outcome.Outcome.{Outcome}
use Rattle.fr_run.specs.Config.{Config}
use Rattle.fr_audit.specs.declared.fault.AuditFault.{AuditFault}
use Rattle.fr_audit.specs.declared.fault.AuditFault.TheVariants as audit
use Rattle.fr_audit_journal.specs.Journal.{JournalState}
use Rattle.fr_runtime_threads.specs.declared.order.Order.{Order}
use Rattle.fr_runtime.specs.Handed.{IsFaultIn}
use Rattle.fr_runtime.specs.Heard.{AllBegin, AreHeard}
use Rattle.fr_runtime.specs.declared.fault.RunFault.{RunFault}
use Rattle.fr_runtime.specs.declared.fault.RunFault.TheVariants.{Audit, Memory, Thread, Rack}

-- whether it is one of the audit
abbrev pub is_audit : RunFault → Bool
is_audit (Audit fault) = true
is_audit Memory = false
is_audit Thread = false
is_audit Rack = false

-- the journals that the nodes handed back, which are no run for this: by them workloads and ballots are what they are by those of a run
pub record HasFault {W : Type 0} (given : W → List Order) (heard : W → List Outcome) (begun : ℕ → ℕ → Bool) (turns : ℕ) (c : Config) (before : List W) (ballots : List (ℕ × Option ShapeContent)) (fault : AuditFault) : Type 0 where
  pub journals : List JournalState
  pub works : List W
  pub told : List (Vec Outcome)
  pub are_heard : AreHeard given heard journals 0 before works told
  pub have_begun : AllBegin begun turns journals ballots
  pub found : IsFaultIn c journals fault

-- a fault of the audit, but `Memory`, is one of the journals that the nodes handed back
abbrev pub IsExplained : {W : Type 0} → (W → List Order) → (W → List Outcome) → (ℕ → ℕ → Bool) → ℕ → Config → List W → List (ℕ × Option ShapeContent) → RunFault → Type 0
IsExplained given heard begun turns c before ballots (Audit fault) = fault ≢ audit.Memory → HasFault given heard begun turns c before ballots fault
IsExplained given heard begun turns c before ballots Memory = Unit {0}
IsExplained given heard begun turns c before ballots Thread = Unit {0}
IsExplained given heard begun turns c before ballots Rack = Unit {0}
