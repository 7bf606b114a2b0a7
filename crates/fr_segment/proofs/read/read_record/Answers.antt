use Rattle.fr_segment.proofs.ReadRun.{still, reads}
use Rattle.fr_segment.proofs.read.read_record.Goals as goal

pub returns-in_err-read_at-clause-any_moment : goal.returns-in_err-read_at-clause-any_moment
returns-in_err-read_at-clause-any_moment g c =
    (reads g.D.Device.Led g.D.Device.disk c.args.device.now c.args.device.now c.read_at.new.self (still g.D.Device.Led g.D.Device.disk c.args.device.now) c.read_at.ensures.led c.read_at.ensures.stands).always

pub returns-clause-any_moment : goal.returns-clause-any_moment
returns-clause-any_moment g c =
    (reads g.D.Device.Led g.D.Device.disk c.args.device.now c.args.device.now c.read_at.new.self (still g.D.Device.Led g.D.Device.disk c.args.device.now) c.read_at.ensures.led c.read_at.ensures.stands).always
