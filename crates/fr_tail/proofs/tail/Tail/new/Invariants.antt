use Rattle.std.proofs.Common.{◌≡◌, map}
use Rattle.std.specs.List.{range_with_len}
use Rattle.fr_tail.specs.Tail.{new_part}
use Rattle.fr_tail.proofs.tail.Tail.new.Given as goal

-- nothing is copied of the tags so far
abbrev pub invariant-loop : goal.invariant-loop
invariant-loop l = l.parts.items ≡ map (λ t. new_part l.pev) (range_with_len 0 l.counter)
