-- That the laws of commits say something: there is an epoch that serves.
use Rattle.std.specs.Prelude.{[]}
use Rattle.fr_run.specs.Config.{Config, first_epoch}
use Rattle.fr_run.specs.StateLaws.{IsConfig}
use Rattle.fr_run_commits.specs.Committing.{IsServing}

-- where nothing happened yet the first epoch serves
abbrev pub FirstServes : Type 0
FirstServes = (c : Config) → IsConfig c → IsServing c [] first_epoch
