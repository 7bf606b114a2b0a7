use Rattle.std.proofs.Common.{rules, ◌≤◌, length}
use Rattle.fr_host.proofs.Left.{done, written_once, marked_written, left_written}
use Rattle.fr_host.proofs.device.DiskDeviceDevice.write_at.Goals as goal

-- src/device.rt:77:12
pub invariant_of-self-else-is_err : goal.invariant_of-self-else-is_err
invariant_of-self-else-is_err g c =
    let at = c.args.at in
    let n = length c.args.bytes.now in
    let self = c.args.self.now in
    let old = c.args.self.now.bytes.items in
    let new = c.overwrite.new.bytes.items in
    let low : at ≤ length old = search rules in
    record {
      marked = marked_written at n self.from c.min-self.result self.kept_len old new self.marks.items c.mark.new.marks.items self.marked low
          c.min-self.ensures c.overwrite.ensures.len c.mark.ensures.len c.mark.ensures.inside c.mark.ensures.outside;
      within = search rules;
      room = search rules;
      usable = λ opened. c.write_at.ensures.usable;
      same = λ clean opened. written_once at c.args.bytes.now old _ _ new (self.same (c.write_at.ensures.clean clean) opened) low c.write_at.ensures.others
          (done c.write_at.result c.if-is_err.ensures.value c.write_at.ensures.written (search rules)) c.overwrite.ensures.len c.overwrite.ensures.holds c.overwrite.ensures.outside;
      leaves = λ clean. left_written at n self.from c.min-self.result self.kept_len old new self.marks.items c.mark.new.marks.items self.marked low
          c.min-self.ensures c.overwrite.ensures.len c.mark.ensures.len c.mark.ensures.inside c.mark.ensures.outside _ _ c.write_at.ensures.crash
          c.overwrite.ensures.outside (self.leaves (c.write_at.ensures.clean clean));
    }
