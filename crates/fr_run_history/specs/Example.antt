-- That the law of real time needs what it asks for: a request that comes late, and is not committed, may have a lower version.
use Rattle.std.specs.Prelude.{◌≡◌, List, ◌++◌}
use Rattle.fr_run.specs.Config.{Config}
use Rattle.fr_run.specs.Turn.{Turn}
use Rattle.fr_run.specs.Run.{IsRun}
use Rattle.fr_run.specs.Batches.{IsAcknowledged}
use Rattle.fr_run.specs.StateLaws.{IsConfig}
use Rattle.fr_run_headline.specs.Numbers.{Numbering}
use Rattle.fr_run_outcomes.specs.Once.{IsNumberOf}
use Rattle.fr_run_history.specs.RealTime.{IsToCome}

-- a run in which version 3 was acknowledged in epoch 513, at a moment at which proxy 0 of epoch 257 had taken no batch. Then it took one, whose number is version 2
pub record LateIsNumberedLow : Type 0 where
  pub config : Config
  pub early : List Turn
  pub more : List Turn
  pub is_config : IsConfig config
  pub is_run : IsRun config (more ++ early)
  pub acknowledged : IsAcknowledged early 513 3
  pub to_come : IsToCome early 257 0 1
  pub number : Numbering
  pub of : IsNumberOf (more ++ early) 257 0 1 number
  pub low : number.version ≡ 2
