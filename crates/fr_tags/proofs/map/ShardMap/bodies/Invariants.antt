use Rattle.std.proofs.Common.{◌≡◌, map}
use Rattle.std.specs.List.{filter, range_with_len}
use Rattle.fr_tags.specs.Split.{body_of, is_filled_body}
use Rattle.fr_tags.proofs.map.ShardMap.bodies.Given as goal

-- the bodies of the tags below the number stand there
abbrev pub invariant-loop-number : goal.invariant-loop-number
invariant-loop-number l = l.bodies.items ≡ filter is_filled_body (map (body_of l.self l.batch) (range_with_len 0 l.number))
