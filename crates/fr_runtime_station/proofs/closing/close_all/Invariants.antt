use Rattle.std.proofs.Common.{◌≡◌, ◌≤◌, ◌+◌, length, true}
use Rattle.std.specs.Vec.Iter.{into_iter_items}
use Rattle.fr_runtime_station.specs.Answering.{all_answer}
use Rattle.fr_runtime_station.proofs.closing.close_all.Given as goal

-- with the stations that are left, each has a journal where each is to have one
abbrev pub invariant-loop-station : goal.invariant-loop-station
invariant-loop-station g l = record {
  can : (goal.iterator-loop-station g).can_next l.station-iterator;
  ends : (goal.iterator-loop-station g).is_finite l.station-iterator;
  answers : all_answer l.journals.items ≡ true;
  more : length l.fn.journals.items ≤ length l.journals.items;
  each : l.fn.is_each ≡ true → length l.journals.items + length (into_iter_items l.station-iterator) ≡ length l.fn.journals.items + length l.fn.stations.items;
}
