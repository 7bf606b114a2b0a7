-- What a cluster prints, and the status that it ends with.
use Rattle.std.specs.Prelude.{◌≡◌, ◌⊎◌, Bool, true, false, ℕ, List, ◌++◌, codes}
use Rattle.serde_json.specs.Data.{Data}
use Rattle.fr_base.specs.Shape.{ShapeContent}
use Rattle.serde_json.specs.Written.{IsInOrder}
use Rattle.fr_run.specs.Turn.{Turn}
use Rattle.fr_audit_journal.specs.Journal.{JournalState}
use Rattle.fr_audit.specs.Run.{IsRunOf}
use Rattle.fr_audit.specs.declared.fault.AuditFault.{AuditFault}
use Rattle.fr_runtime.specs.Handed.{IsFaultIn, IsHanded}
use Rattle.fr_runtime.specs.Heard.{AllBegin}
use Rattle.fr_cli_json.specs.declared.fault.CliFault.{CliFault}
use Rattle.fr_cli_json.specs.declared.fault.CliFault.TheVariants.{Memory, Output}
use Rattle.fr_cli_audit.specs.Lines.{fault_line}
use Rattle.fr_cli_cluster.specs.declared.options.ClusterWords.{ClusterWords}
use Rattle.fr_cli_cluster.specs.Setting.{ballots_of, config_of}

-- a text of JSON on a line
pub record IsScriptLine (text : List ℕ) : Type 0 where
  pub script : List ℕ
  pub value : Data
  pub written : IsInOrder script value
  pub line : text ≡ script ++ codes "\n"

-- what is printed of a run: one line, or a script if the journals are asked for
abbrev pub IsRunText : Bool → List ℕ → Type 0
IsRunText false text = text ≡ codes "audit ok\n"
IsRunText true text = IsScriptLine text

-- the journals are a run of the config, each node that is there at the start or took a turn has its own among them, so has the recoverer of
-- each recovery that was to begin, and the status is 0
pub record IsRunReport (begun : ℕ → ℕ → Bool) (w : ClusterWords) (shapes : List ShapeContent) (status : ℕ) (text : List ℕ) : Type 0 where
  pub journals : List JournalState
  pub turns : List Turn
  pub run : IsRunOf (config_of w) journals turns
  pub handed : IsHanded (config_of w) journals turns
  pub have_begun : AllBegin begun w.turns journals (ballots_of shapes w.recoveries)
  pub status_is : status ≡ 0
  pub text_is : IsRunText w.journal text

-- the journals of such a cluster are no run of the config for this fault, and the status is 1
pub record IsFaultReport (begun : ℕ → ℕ → Bool) (w : ClusterWords) (shapes : List ShapeContent) (status : ℕ) (text : List ℕ) : Type 0 where
  pub journals : List JournalState
  pub fault : AuditFault
  pub found : IsFaultIn (config_of w) journals fault
  pub have_begun : AllBegin begun w.turns journals (ballots_of shapes w.recoveries)
  pub status_is : status ≡ 1
  pub text_is : text ≡ fault_line fault

-- what a cluster of these words prints, and its status, if this says when recoverers begin, to open generations of these shapes
abbrev pub IsReport : (ℕ → ℕ → Bool) → ClusterWords → List ShapeContent → ℕ → List ℕ → Type 0
IsReport begun w shapes status text = IsRunReport begun w shapes status text ⊎ IsFaultReport begun w shapes status text

-- what is known of the journals of a run, and of the fault of others

pub record IsGood (begun : ℕ → ℕ → Bool) (w : ClusterWords) (shapes : List ShapeContent) (journals : List JournalState) (turns : List Turn) : Type 0 where
  pub run : IsRunOf (config_of w) journals turns
  pub handed : IsHanded (config_of w) journals turns
  pub have_begun : AllBegin begun w.turns journals (ballots_of shapes w.recoveries)

pub record IsBad (begun : ℕ → ℕ → Bool) (w : ClusterWords) (shapes : List ShapeContent) (fault : AuditFault) : Type 0 where
  pub journals : List JournalState
  pub found : IsFaultIn (config_of w) journals fault
  pub have_begun : AllBegin begun w.turns journals (ballots_of shapes w.recoveries)

-- the output is at fault, or there is no memory
abbrev pub IsNoInputFault : CliFault → Type 0
IsNoInputFault fault = (fault ≡ Output) ⊎ (fault ≡ Memory)
