-- What is said of a run that has no report.
use Rattle.std.proofs.Common.{◌≡◌, ℕ, Bool, false, List, Option}
use Rattle.fr_base.specs.Shape.{ShapeContent}
use Rattle.fr_proxy.specs.declared.outcome.Outcome.{Outcome}
use Rattle.fr_run.specs.Config.{Config}
use Rattle.fr_runtime_threads.specs.declared.order.Order.{Order}
use Rattle.fr_runtime.specs.Fault.{IsExplained, is_audit}
use Rattle.fr_runtime.specs.declared.fault.RunFault.{RunFault}
use Rattle.fr_runtime.specs.declared.fault.RunFault.TheVariants.{Audit, Memory, Thread, Rack}

-- of what is no fault of the audit nothing is to be explained
pub no-audit : {W : Type 0} (given : W → List Order) (heard : W → List Outcome) (begun : ℕ → ℕ → Bool) (turns : ℕ) (c : Config) (before : List W) (ballots : List (ℕ × Option ShapeContent)) (fault : RunFault)
    → is_audit fault ≡ false → IsExplained given heard begun turns c before ballots fault
no-audit given heard begun turns c before ballots (Audit fault) other = absurd (cc)
no-audit given heard begun turns c before ballots Memory other = tt
no-audit given heard begun turns c before ballots Thread other = tt
no-audit given heard begun turns c before ballots Rack other = tt
