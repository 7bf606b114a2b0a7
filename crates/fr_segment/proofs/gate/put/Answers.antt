use Rattle.fr_segment.proofs.PutRun.{unchanged, put_behind, synced_behind, gate_put, gate_synced, is_open}
use Rattle.fr_segment.proofs.gate.put.Goals as goal

pub returns-then-new-room-clause-any_moment : goal.returns-then-new-room-clause-any_moment
returns-then-new-room-clause-any_moment g c =
    unchanged g.D.Device.Led g.D.Device.disk c.args.gate c.args.new.now c.args.device.now c.requires.within c.requires.durable

pub returns-in_err-write_at-clause-any_moment : goal.returns-in_err-write_at-clause-any_moment
returns-in_err-write_at-clause-any_moment g c =
    put_behind g.D.Device.Led g.D.Device.disk c.args.gate c.args.new.now c.args.device.now c.requires.within c.requires.durable
    c.write_at.new.self c.write_at.ensures.led c.write_at.ensures.torn

pub returns-in_err-sync-clause-any_moment : goal.returns-in_err-sync-clause-any_moment
returns-in_err-sync-clause-any_moment g c =
    synced_behind g.D.Device.Led g.D.Device.disk c.args.gate c.args.new.now c.args.device.now c.requires.within c.requires.durable
    c.write_at.new.self c.write_at.ensures.led c.write_at.ensures.torn c.sync.new.self c.sync.ensures.led c.sync.ensures.stands

pub returns-in_err-write_at-2-clause-any_moment : goal.returns-in_err-write_at-2-clause-any_moment
returns-in_err-write_at-2-clause-any_moment g c =
    gate_put g.D.Device.Led g.D.Device.disk c.args.gate c.args.new.now c.args.device.now c.requires.within c.requires.durable
    c.write_at.new.self c.write_at.ensures.led c.write_at.ensures.torn c.sync.new.self c.sync.ensures.led c.sync.ensures.stands
    c.in_ok-write_at.ensures.ok c.in_ok-sync.ensures.durable c.write_at-2.new.self c.write_at-2.ensures.led c.write_at-2.ensures.torn

pub returns-in_err-sync-2-clause-any_moment : goal.returns-in_err-sync-2-clause-any_moment
returns-in_err-sync-2-clause-any_moment g c =
    gate_synced g.D.Device.Led g.D.Device.disk c.args.gate c.args.new.now c.args.device.now c.requires.within c.requires.durable
    c.write_at.new.self c.write_at.ensures.led c.write_at.ensures.torn c.sync.new.self c.sync.ensures.led c.sync.ensures.stands
    c.in_ok-write_at.ensures.ok c.in_ok-sync.ensures.durable c.write_at-2.new.self c.write_at-2.ensures.led c.write_at-2.ensures.torn
    c.sync-2.new.self c.sync-2.ensures.led c.sync-2.ensures.stands

pub returns-clause-ok : goal.returns-clause-ok
returns-clause-ok g c =
    is_open g.D.Device.Led g.D.Device.disk c.args.gate c.args.new.now c.args.device.now c.requires.within c.requires.durable
    c.write_at.new.self c.write_at.ensures.led c.write_at.ensures.torn c.sync.new.self c.sync.ensures.led c.sync.ensures.stands
    c.in_ok-write_at.ensures.ok c.in_ok-sync.ensures.durable c.write_at-2.new.self c.write_at-2.ensures.led c.write_at-2.ensures.torn
    c.sync-2.new.self c.in_ok-write_at-2.ensures.ok c.sync-2.ensures.stands

pub returns-clause-any_moment : goal.returns-clause-any_moment
returns-clause-any_moment g c =
    gate_synced g.D.Device.Led g.D.Device.disk c.args.gate c.args.new.now c.args.device.now c.requires.within c.requires.durable
    c.write_at.new.self c.write_at.ensures.led c.write_at.ensures.torn c.sync.new.self c.sync.ensures.led c.sync.ensures.stands
    c.in_ok-write_at.ensures.ok c.in_ok-sync.ensures.durable c.write_at-2.new.self c.write_at-2.ensures.led c.write_at-2.ensures.torn
    c.sync-2.new.self c.sync-2.ensures.led c.sync-2.ensures.stands
