-- The fault of a run's audit is one of the journals that the nodes of its words handed back.
use Rattle.std.proofs.Common.{◌≡◌, subst, Bool, ℕ, List, Option}
use Rattle.fr_base.specs.Shape.{ShapeContent}
use Rattle.fr_run.specs.Config.{Config}
use Rattle.fr_audit.specs.declared.fault.AuditFault.{AuditFault}
use Rattle.fr_audit_journal.specs.Journal.{JournalState}
use Rattle.fr_runtime.specs.Handed.{IsFaultIn}
use Rattle.fr_runtime.specs.Heard.{AllBegin}
use Rattle.fr_cli_cluster.specs.declared.options.ClusterWords.{ClusterWords}
use Rattle.fr_cli_cluster.specs.Setting.{ballots_of, config_of}
use Rattle.fr_cli_cluster.specs.Report.{IsBad}

pub bad-of : (begun : ℕ → ℕ → Bool) (w : ClusterWords) (shapes : List ShapeContent) (c : Config) (ballots : List (ℕ × Option ShapeContent)) (journals : List JournalState) (fault : AuditFault)
    → IsFaultIn c journals fault → AllBegin begun w.turns journals ballots
    → c ≡ config_of w → ballots ≡ ballots_of shapes w.recoveries → IsBad begun w shapes fault
bad-of begun w shapes _ _ journals fault found begins config-is ballots-are = record {
  journals = journals;
  found = subst (λ (c : Config). IsFaultIn c journals fault) config-is found;
  have_begun = subst (λ (ballots : List (ℕ × Option ShapeContent)). AllBegin begun w.turns journals ballots) ballots-are begins;
}
