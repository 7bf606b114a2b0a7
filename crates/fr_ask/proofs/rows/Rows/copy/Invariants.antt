use Rattle.std.proofs.Common.{◌≡◌, take}
use Rattle.fr_ask.proofs.rows.Rows.copy.Given as goal

-- the pairs so far
abbrev pub invariant-loop-key : goal.invariant-loop-key
invariant-loop-key l = l.pairs.items ≡ take l.key-index l.key-items
