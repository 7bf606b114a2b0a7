use Rattle.std.proofs.Common.{◌≡◌, map}
use Rattle.std.specs.List.{range_with_len}
use Rattle.fr_tags.specs.Split.{bodies_for}
use Rattle.fr_tags.proofs.map.ShardMap.split.Given as goal

-- the first logs have their bodies
abbrev pub invariant-loop-log : goal.invariant-loop-log
invariant-loop-log l = map (λ log. log.items) l.logs.items ≡ map (bodies_for l.bodies.items l.m l.k) (range_with_len 0 l.log)
