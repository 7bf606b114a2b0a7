-- That the statements of shapes, of pops and of dropped generations say something: a run that has all of them.
use Rattle.std.specs.Prelude.{◌≡◌, true, List, [], ◌∷◌, length, map, Contains}
use Rattle.fr_base.specs.declared.place.NodeId.TheVariants as node
use Rattle.fr_mutation.specs.declared.mutation.Mutation.{Mutation}
use Rattle.fr_log.specs.declared.ask.LogAsk.TheVariants.{Peek}
use Rattle.fr_log.specs.declared.ask.LogTell.TheVariants.{Peeked}
use Rattle.fr_log.specs.LogState.{records_of, swept}
use Rattle.fr_log.specs.Peeked.{PeekedContent}
use Rattle.fr_log.specs.Left.{popped_at}
use Rattle.fr_storage.specs.Storage.{own_epoch}
use Rattle.fr_run.specs.Config.{Config}
use Rattle.fr_run.specs.Turn.{Turn, LogTurn}
use Rattle.fr_run.specs.Nodes.{is_open, logs_at, log_at, storage_at}
use Rattle.fr_run.specs.Run.{IsRun}
use Rattle.fr_run.specs.States.{state_of}
use Rattle.fr_run.specs.StateLaws.{IsConfig}
use Rattle.fr_run_headline.specs.Issued.{committed}
use Rattle.fr_run_headline.specs.Committed.{IsAcknowledgedBatch, commit_at}

-- a run whose first generation has one log and whose second one, 513, has two. A batch was acknowledged there at
-- version 3, and one more followed at version 4. The storage server applied both, its floor rose to 3, and it let the
-- log pop its tag through 3: so of the log's two records one is left. A recovery locked both logs, copied from the
-- popped one what is above 3, dropped the first generation and opened 769. The storage server keeps its state, and the
-- batch is in the committed list
pub record PopsAndDrops : Type 0 where
  pub config : Config
  pub run : List Turn
  pub is_config : IsConfig config
  pub is_run : IsRun config run
  pub batch : List Mutation
  pub acknowledged : IsAcknowledgedBatch config run 513 3 batch
  pub before : logs_at config run 257 ≡ 1
  pub after : logs_at config run 513 ≡ 2
  pub popped : popped_at (log_at config run 513 0).popped 0 ≡ 3
  pub all : length (records_of (log_at config run 513 0) 0) ≡ 2
  pub rest : length (records_of (swept (log_at config run 513 0)) 0) ≡ 1
  pub floor : (storage_at config run 0).store.floor ≡ 3
  pub copy : PeekedContent
  pub copied : Contains run (LogTurn (node.Recoverer 769) 513 0 (Peek 513 0 3 100) (Peeked copy))
  pub open_last : is_open config run 769 ≡ true
  pub dropped : (state_of config run 769).dropped ≡ 1
  pub left : map (λ g. g.epoch) (state_of config run 769).gens ≡ 513 ∷ 769 ∷ []
  pub kept : own_epoch (storage_at config run 0).state ≡ 769
  pub stands : Contains (committed config run 769) (commit_at 513 3 batch)
