use Rattle.std.proofs.Common.{◌≡◌}
use Rattle.fr_tags.specs.Placement.{holders}
use Rattle.fr_tags.proofs.placement.holders.Given as goal

-- the first i holders stand there
abbrev pub invariant-loop-i : goal.invariant-loop-i
invariant-loop-i l = l.logs.items ≡ holders l.tag l.m l.i
