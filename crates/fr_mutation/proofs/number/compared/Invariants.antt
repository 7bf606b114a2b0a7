use Rattle.fr_mutation.proofs.Digits.{AgreeFrom}
use Rattle.fr_mutation.proofs.number.compared.Given as goal

-- the bytes above agree
abbrev pub invariant-loop-i : goal.invariant-loop-i
invariant-loop-i l = AgreeFrom l.i l.old l.param
