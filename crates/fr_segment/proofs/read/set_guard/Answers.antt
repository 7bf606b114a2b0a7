use Rattle.std.proofs.Common.{◌+◌, ◌≤◌, arith}
use Rattle.fr_segment.proofs.GuardRun.{guard_put, guard_synced}
use Rattle.fr_segment.proofs.read.set_guard.Goals as goal

pub returns-in_err-write_at-clause-any_moment : goal.returns-in_err-write_at-clause-any_moment
returns-in_err-write_at-clause-any_moment g c = guard_put g.D.Device.Led g.D.Device.disk c.args.device.now c.args.end _ (omega (arith, c.requires.within)) c.requires.durable c.write_at.new.self c.write_at.ensures.led c.write_at.ensures.torn

pub returns-in_err-sync-clause-any_moment : goal.returns-in_err-sync-clause-any_moment
returns-in_err-sync-clause-any_moment g c = guard_synced g.D.Device.Led g.D.Device.disk c.args.device.now c.args.end _ (omega (arith, c.requires.within)) c.requires.durable c.write_at.new.self c.sync.new.self c.write_at.ensures.led c.write_at.ensures.torn c.sync.ensures.led c.sync.ensures.stands

pub returns-clause-any_moment : goal.returns-clause-any_moment
returns-clause-any_moment g c = guard_synced g.D.Device.Led g.D.Device.disk c.args.device.now c.args.end _ (omega (arith, c.requires.within)) c.requires.durable c.write_at.new.self c.sync.new.self c.write_at.ensures.led c.write_at.ensures.torn c.sync.ensures.led c.sync.ensures.stands
