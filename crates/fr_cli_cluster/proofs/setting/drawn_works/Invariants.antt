use Rattle.std.proofs.Common.{◌≡◌, map}
use Rattle.fr_cli_cluster.specs.Setting.{drawn_by}
use Rattle.fr_cli_cluster.proofs.setting.drawn_works.Given as goal

-- a workload for each number so far
abbrev pub invariant-loop-number : goal.invariant-loop-number
invariant-loop-number l = map (λ work. (work.seed, work.shards)) l.all.items ≡ drawn_by l.fn.words.seed l.fn.words.storages l.number
