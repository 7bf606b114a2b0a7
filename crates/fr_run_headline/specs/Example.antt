-- That the main theorem says something: a run in which a storage server ran ahead of what survived and rolled back,
-- while what was acknowledged stays; and one in which an acknowledged commit survives two recoveries.
use Rattle.std.specs.Prelude.{◌≡◌, true, List, Contains}
use Rattle.fr_base.specs.declared.place.NodeId.TheVariants as node
use Rattle.fr_mutation.specs.declared.mutation.Mutation.{Mutation}
use Rattle.fr_run.specs.Config.{Config}
use Rattle.fr_run.specs.Turn.{Turn, Gone}
use Rattle.fr_run.specs.Nodes.{is_open, logs_at}
use Rattle.fr_run.specs.Run.{IsRun}
use Rattle.fr_run.specs.StateLaws.{IsConfig}
use Rattle.fr_run_headline.specs.Issued.{committed}
use Rattle.fr_run_headline.specs.Committed.{HasRolledBack, applied_at, IsAcknowledgedBatch, commit_at}

-- a run of a generation of two logs. A batch was acknowledged at version 2. Storage server 0 had applied version 3 too,
-- which one log alone held; that log was lost, and the other one locked. After the recovery the storage server is at
-- version 2
pub record RollbackHappens : Type 0 where
  pub config : Config
  pub run : List Turn
  pub is_config : IsConfig config
  pub is_run : IsRun config run
  pub rolled_back : HasRolledBack config run 0
  pub ahead : applied_at config rolled_back.before 0 ≡ 3
  pub now : applied_at config run 0 ≡ 2
  pub lost : Contains run (Gone (node.Log 257 0))
  pub batch : List Mutation
  pub acknowledged : IsAcknowledgedBatch config run 257 2 batch

-- the same run, with another recovery in place of the rollback: a batch was acknowledged at version 2 of epoch 257, and
-- a log was lost. The epochs 513 and 769 were opened one after the other, the last one with three logs in place of two.
-- By it the batch is in the committed list at its version
pub record SurvivesTwoRecoveries : Type 0 where
  pub config : Config
  pub run : List Turn
  pub is_config : IsConfig config
  pub is_run : IsRun config run
  pub batch : List Mutation
  pub acknowledged : IsAcknowledgedBatch config run 257 2 batch
  pub first : is_open config run 513 ≡ true
  pub second : is_open config run 769 ≡ true
  pub two : logs_at config run 513 ≡ 2
  pub three : logs_at config run 769 ≡ 3
  pub stands : Contains (committed config run 769) (commit_at 257 2 batch)
