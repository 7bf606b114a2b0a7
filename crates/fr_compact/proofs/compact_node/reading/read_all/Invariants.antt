use Rattle.std.proofs.Common.{◌≡◌, Some, false, length, take}
use Rattle.fr_record_node.specs.Replay.{replayed}
use Rattle.fr_compact.proofs.compact_node.reading.read_all.Given as goal

abbrev pub invariant-loop-i : goal.invariant-loop-i
invariant-loop-i g l = record {
  records : g.F.GroupFile.records l.file ≡ g.F.GroupFile.records l.initial.file;
  works : g.F.GroupFile.is_failed l.file ≡ false;
  sound : g.M.Recorded.IsSound l.machine;
  same : g.M.Recorded.fresh l.machine ≡ g.M.Recorded.fresh l.initial.machine;
  failures : g.F.GroupFile.failures l.file ≡ g.F.GroupFile.failures l.initial.file;
  sizes : (g.F.GroupFile.room l.file ≡ g.F.GroupFile.room l.initial.file) × (g.F.GroupFile.used l.file ≡ g.F.GroupFile.used l.initial.file) × (g.F.GroupFile.next_room l.file ≡ g.F.GroupFile.next_room l.initial.file) × (g.F.GroupFile.front l.file ≡ g.F.GroupFile.front l.initial.file);
  always : g.F.GroupFile.Throughout (λ rs. rs ≡ g.F.GroupFile.records l.initial.file) l.initial.file l.file;
  end : l.i-end ≡ length (g.F.GroupFile.records l.initial.file);
  so_far : replayed g.M.Recorded.replay (Some l.initial.machine) (take l.i (g.F.GroupFile.records l.initial.file)) ≡ Some l.machine;
}
