use Rattle.std.proofs.Common.{◌≡◌, ◌++◌}
use Rattle.std.specs.Map.{keys_of}
use Rattle.fr_undo.proofs.plan.keys_between.Given as goal

-- the keys so far, and those still to come
abbrev pub invariant-loop-key : goal.invariant-loop-key
invariant-loop-key l = l.keys.items ++ keys_of l.key-iterator ≡ keys_of l.initial.key-iterator
