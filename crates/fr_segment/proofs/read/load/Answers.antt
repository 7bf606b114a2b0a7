use Rattle.fr_segment.proofs.ReadRun.{still, reads}
use Rattle.fr_segment.proofs.read.load.Goals as goal

pub returns-in_err-sync-clause-any_moment : goal.returns-in_err-sync-clause-any_moment
returns-in_err-sync-clause-any_moment g c =
    let start = still g.D.Device.Led g.D.Device.disk c.args.device.now in
    (reads g.D.Device.Led g.D.Device.disk c.args.device.now c.args.device.now c.sync.new.self start c.sync.ensures.led c.sync.ensures.stands).always

pub returns-in_err-len-clause-any_moment : goal.returns-in_err-len-clause-any_moment
returns-in_err-len-clause-any_moment g c =
    let start = still g.D.Device.Led g.D.Device.disk c.args.device.now in
    let synced = reads g.D.Device.Led g.D.Device.disk c.args.device.now c.args.device.now c.sync.new.self start c.sync.ensures.led c.sync.ensures.stands in
    (reads g.D.Device.Led g.D.Device.disk c.args.device.now c.sync.new.self c.len.new.self synced c.len.ensures.led c.len.ensures.stands).always

pub returns-in_err-bytes-clause-any_moment : goal.returns-in_err-bytes-clause-any_moment
returns-in_err-bytes-clause-any_moment g c =
    let start = still g.D.Device.Led g.D.Device.disk c.args.device.now in
    let synced = reads g.D.Device.Led g.D.Device.disk c.args.device.now c.args.device.now c.sync.new.self start c.sync.ensures.led c.sync.ensures.stands in
    (reads g.D.Device.Led g.D.Device.disk c.args.device.now c.sync.new.self c.len.new.self synced c.len.ensures.led c.len.ensures.stands).always

pub returns-in_err-read_at-clause-any_moment : goal.returns-in_err-read_at-clause-any_moment
returns-in_err-read_at-clause-any_moment g c =
    let start = still g.D.Device.Led g.D.Device.disk c.args.device.now in
    let synced = reads g.D.Device.Led g.D.Device.disk c.args.device.now c.args.device.now c.sync.new.self start c.sync.ensures.led c.sync.ensures.stands in
    let measured = reads g.D.Device.Led g.D.Device.disk c.args.device.now c.sync.new.self c.len.new.self synced c.len.ensures.led c.len.ensures.stands in
    (reads g.D.Device.Led g.D.Device.disk c.args.device.now c.len.new.self c.read_at.new.self measured c.read_at.ensures.led c.read_at.ensures.stands).always

pub returns-clause-any_moment : goal.returns-clause-any_moment
returns-clause-any_moment g c =
    let start = still g.D.Device.Led g.D.Device.disk c.args.device.now in
    let synced = reads g.D.Device.Led g.D.Device.disk c.args.device.now c.args.device.now c.sync.new.self start c.sync.ensures.led c.sync.ensures.stands in
    let measured = reads g.D.Device.Led g.D.Device.disk c.args.device.now c.sync.new.self c.len.new.self synced c.len.ensures.led c.len.ensures.stands in
    (reads g.D.Device.Led g.D.Device.disk c.args.device.now c.len.new.self c.read_at.new.self measured c.read_at.ensures.led c.read_at.ensures.stands).always
