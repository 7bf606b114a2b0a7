use Rattle.std.proofs.Common.{◌≡◌}
use Rattle.fr_cli_cluster.specs.Setting.{ballots_of}
use Rattle.fr_cli_cluster.proofs.setting.ballots.Given as goal

-- the ballot of each number so far
abbrev pub invariant-loop-number : goal.invariant-loop-number
invariant-loop-number l = l.all.items ≡ ballots_of l.shapes l.number
