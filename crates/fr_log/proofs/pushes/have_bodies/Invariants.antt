use Rattle.std.proofs.Common.{◌≡◌, drop}
use Rattle.std.specs.Cmp.Lexicographic.{pointwise}
use Rattle.fr_tags.specs.Bodies.{is_same_body}
use Rattle.fr_log.specs.Left.{left_bodies, IsBodyLeftAtFirst}
use Rattle.fr_log.specs.Pushes.{bodies_from}
use Rattle.fr_log.proofs.pushes.have_bodies.Given as goal

-- the answer is that of the bodies and shelves that are left
abbrev pub invariant-loop-number : goal.invariant-loop-number
invariant-loop-number l = record {
  so_far : pointwise is_same_body (left_bodies l.popped l.version l.left) (left_bodies l.popped l.version (bodies_from l.version l.number (drop l.number l.shelves)))
      ≡ pointwise is_same_body (left_bodies l.popped l.version l.bodies) (left_bodies l.popped l.version (bodies_from l.version 0 l.shelves));
  first : IsBodyLeftAtFirst l.popped l.version l.left;
}
