use Rattle.std.proofs.Common.{◌≡◌, take}
use Rattle.fr_base.proofs.order.order_by_bytes.Given as goal

-- the bytes so far are equal
abbrev pub invariant-loop-at : goal.invariant-loop-at
invariant-loop-at l = take l.at l.a ≡ take l.at l.b
