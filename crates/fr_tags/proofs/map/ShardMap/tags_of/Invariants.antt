use Rattle.std.proofs.Common.{◌≡◌, ◌-◌}
use Rattle.std.specs.List.{range_with_len}
use Rattle.fr_tags.proofs.map.ShardMap.tags_of.Given as goal

-- the tags from the first one up to the number stand there
abbrev pub invariant-loop-number : goal.invariant-loop-number
invariant-loop-number l = l.tags.items ≡ range_with_len l.initial.number (l.number - l.initial.number)
