use Rattle.std.proofs.Common.{◌≡◌, ◌++◌}
use Rattle.std.specs.Vec.Iter.{into_iter_items}
use Rattle.fr_runtime_threads.specs.Late.{due_of, left_of}
use Rattle.fr_runtime_threads.proofs.late.Late.next.Given as goal

-- what comes and what is left so far, with that of the others
abbrev pub invariant-loop-letter : goal.invariant-loop-letter
invariant-loop-letter l = record {
  can : goal.iterator-loop-letter.can_next l.letter-iterator;
  ends : goal.iterator-loop-letter.is_finite l.letter-iterator;
  due : l.due.items ++ due_of (into_iter_items l.letter-iterator) ≡ due_of l.fn.self.letters.items;
  left : l.self.letters.items ++ left_of (into_iter_items l.letter-iterator) ≡ left_of l.fn.self.letters.items;
}
