use Rattle.std.proofs.Common.{◌≡◌, take}
use Rattle.fr_tags.specs.Split.{bodies_for}
use Rattle.fr_tags.proofs.split.bodies_for.Given as goal

-- the held ones of a front of the bodies are copied
abbrev pub invariant-loop-body : goal.invariant-loop-body
invariant-loop-body l = l.held.items ≡ bodies_for (take l.body-index l.bodies) l.shape.m l.shape.k l.log
