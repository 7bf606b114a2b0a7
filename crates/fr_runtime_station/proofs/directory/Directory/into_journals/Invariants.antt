use Rattle.std.proofs.Common.{◌≡◌, ◌≤◌, ◌+◌, length, true}
use Rattle.fr_runtime_station.specs.Answering.{all_answer}
use Rattle.fr_runtime_station.proofs.directory.Directory.into_journals.Given as goal

abbrev pub invariant-loop-nodes : goal.invariant-loop-nodes
invariant-loop-nodes g l = record {
  answers : all_answer l.journals.items ≡ true;
  start : length l.fn.self.cells.stations.items + (length l.fn.self.first.logs.items + 1) ≤ length l.journals.items;
}
