use Rattle.std.proofs.Common.{◌≡◌, ℕ, ◌<◌, ◌≤◌, length}
use Rattle.fr_tail.specs.Tail.{records_for}
use Rattle.fr_tail.specs.Merging.{taken_of, left_of}
use Rattle.fr_tail.proofs.tail.Tail.untaken.Given as goal

-- of the tags so far the log's records are left, and nothing is taken of the others
abbrev pub invariant-loop-number : goal.invariant-loop-number
invariant-loop-number l = record {
  done : (t : ℕ) → t < l.number → left_of l.self l.taken t ≡ records_for l.self l.shape.m l.shape.k l.log t;
  size : length l.taken ≡ 32;
  rest : (t : ℕ) → l.number ≤ t → taken_of l.taken t ≡ 0;
}
