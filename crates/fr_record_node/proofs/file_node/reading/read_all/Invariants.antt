use Rattle.std.proofs.Common.{◌≡◌, Some, false, length, take}
use Rattle.fr_record_node.specs.Replay.{replayed}
use Rattle.fr_record_node.specs.Reading.{IsRead}
use Rattle.fr_record_node.proofs.file_node.reading.read_all.Given as goal

abbrev pub invariant-loop-i : goal.invariant-loop-i
invariant-loop-i g l = record {
  records : l.file.records ≡ l.initial.file.records;
  works : l.file.is_failed ≡ false;
  sound : g.M.Recorded.IsSound l.machine;
  same : g.M.Recorded.fresh l.machine ≡ g.M.Recorded.fresh l.initial.machine;
  failures : g.D.Device.failures_of l.file.device ≡ g.D.Device.failures_of l.initial.file.device;
  still : IsRead g.D.Device.Led g.D.Device.disk l.initial.file.device l.file.device;
  capacity : g.D.Device.capacity_of l.file.device ≡ g.D.Device.capacity_of l.initial.file.device;
  end : l.i-end ≡ length l.initial.file.records;
  so_far : replayed g.M.Recorded.replay (Some l.initial.machine) (take l.i l.initial.file.records) ≡ Some l.machine;
}
