-- The main theorem, over every run.
use Rattle.std.specs.Prelude.{List}
use Rattle.fr_run.specs.Config.{Config}
use Rattle.fr_run.specs.Turn.{Turn}
use Rattle.fr_run.specs.Run.{IsRun}
use Rattle.fr_run.specs.StateLaws.{IsConfig}
use Rattle.fr_run_headline.specs.Committed.{RolledBackIsExact, AcknowledgedIsNeverUndone}

-- Over every list of commits, pulls, crashes, recoveries and losses of logs: a storage server that has rolled back
-- holds exactly its shard of the map given by the committed batches through its applied version. That version is at
-- most the recovery version. No acknowledged commit is ever undone.
abbrev pub Headline : Type 0
Headline = (c : Config) (h : List Turn) → IsConfig c → IsRun c h → RolledBackIsExact c h × AcknowledgedIsNeverUndone c h
