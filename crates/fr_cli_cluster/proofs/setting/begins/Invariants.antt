use Rattle.std.proofs.Common.{◌≡◌, [], ◌∷◌}
use Rattle.fr_cli_cluster.specs.Setting.{begins_after}
use Rattle.fr_cli_cluster.proofs.setting.begins.Given as goal

-- the first begin, and so many after it
abbrev pub invariant-loop-before : goal.invariant-loop-before
invariant-loop-before l = l.begins.items ≡ [] ∷ begins_after l.before
