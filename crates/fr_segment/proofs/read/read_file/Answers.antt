use Rattle.std.proofs.Common.{◌+◌, ◌≤◌, ap, sym, ◌∙◌, subst, arith}
use Rattle.fr_segment.specs.Table.{IsGuarded}
use Rattle.fr_segment.proofs.GuardBytes.{now_guarded}
use Rattle.fr_segment.proofs.GuardRun.{while_guarded, never_rest, front_guarded, guarded_again, stands_again}
use Rattle.fr_segment.proofs.read.read_file.Goals as goal

pub returns-in-Ok-set_guard-clause-any_moment : goal.returns-in-Ok-set_guard-clause-any_moment
returns-in-Ok-set_guard-clause-any_moment g c before h short leaves = while_guarded g.D.Device.Led g.D.Device.disk c.args.device.now c.read_groups.new.device c.set_guard.new.device c.in-Ok.it.0.table.items c.in-Ok.it.0.end c.in-Ok.it.0.count c.in-Ok.ensures.file c.set_guard.ensures.any_moment before h short (c.read_groups.ensures.any_moment before h short leaves)

pub returns-in-Ok-set_guard-clause-at_rest : goal.returns-in-Ok-set_guard-clause-at_rest
returns-in-Ok-set_guard-clause-at_rest g c before leaves = absurd (never_rest g.D.Device.Led g.D.Device.disk c.args.device.now c.read_groups.new.device c.set_guard.new.device c.in-Ok.it.0.table.items c.in-Ok.it.0.end c.in-Ok.it.0.count c.in-Ok.ensures.file c.set_guard.ensures.any_moment (c.in-Ok.ensures.unguarded c.if-guarded.false).0 before (c.read_groups.ensures.at_rest before leaves))

pub returns-in-Ok-set_guard-clause-front : goal.returns-in-Ok-set_guard-clause-front
returns-in-Ok-set_guard-clause-front g c = front_guarded g.D.Device.Led g.D.Device.disk c.args.device.now c.read_groups.new.device c.set_guard.new.device c.in-Ok.it.0.table.items c.in-Ok.it.0.end c.in-Ok.it.0.count c.in-Ok.ensures.file c.set_guard.ensures.any_moment c.read_groups.ensures.front

pub returns-in-Err-set_guard-clause-any_moment : goal.returns-in-Err-set_guard-clause-any_moment
returns-in-Err-set_guard-clause-any_moment g c before h short leaves = while_guarded g.D.Device.Led g.D.Device.disk c.args.device.now c.read_groups.new.device c.set_guard.new.device c.in-Ok.it.0.table.items c.in-Ok.it.0.end c.in-Ok.it.0.count c.in-Ok.ensures.file c.set_guard.ensures.any_moment before h short (c.read_groups.ensures.any_moment before h short leaves)

pub returns-in-Err-set_guard-clause-at_rest : goal.returns-in-Err-set_guard-clause-at_rest
returns-in-Err-set_guard-clause-at_rest g c before leaves = absurd (never_rest g.D.Device.Led g.D.Device.disk c.args.device.now c.read_groups.new.device c.set_guard.new.device c.in-Ok.it.0.table.items c.in-Ok.it.0.end c.in-Ok.it.0.count c.in-Ok.ensures.file c.set_guard.ensures.any_moment (c.in-Ok.ensures.unguarded c.if-guarded.false).0 before (c.read_groups.ensures.at_rest before leaves))

pub returns-in-Err-set_guard-clause-front : goal.returns-in-Err-set_guard-clause-front
returns-in-Err-set_guard-clause-front g c = front_guarded g.D.Device.Led g.D.Device.disk c.args.device.now c.read_groups.new.device c.set_guard.new.device c.in-Ok.it.0.table.items c.in-Ok.it.0.end c.in-Ok.it.0.count c.in-Ok.ensures.file c.set_guard.ensures.any_moment c.read_groups.ensures.front

pub returns-in-Ok-set_guard-clause-file : goal.returns-in-Ok-set_guard-clause-file
returns-in-Ok-set_guard-clause-file g c = guarded_again g.D.Device.Led g.D.Device.disk c.args.device.now c.read_groups.new.device c.set_guard.new.device c.in-Ok.it.0.table.items c.in-Ok.it.0.end c.in-Ok.it.0.count c.in-Ok.ensures.file c.set_guard.ensures.any_moment c.in-Ok-set_guard.ensures.durable

pub returns-in-Ok-set_guard-clause-stands_for : goal.returns-in-Ok-set_guard-clause-stands_for
returns-in-Ok-set_guard-clause-stands_for g c = stands_again g.D.Device.Led g.D.Device.disk c.args.device.now c.read_groups.new.device c.set_guard.new.device c.in-Ok.it.0.table.items c.in-Ok.it.0.end c.in-Ok.it.0.count c.in-Ok.ensures.file c.set_guard.ensures.any_moment c.in-Ok.ensures.stands_for

pub returns-in-Ok-set_guard-clause-guarded : goal.returns-in-Ok-set_guard-clause-guarded
returns-in-Ok-set_guard-clause-guarded g c =
    let long = (c.in-Ok.ensures.unguarded c.if-guarded.false).1 in
    subst (λ l. IsGuarded l c.in-Ok.it.0.end c.in-Ok.it.0.count) (sym c.in-Ok-set_guard.ensures.ok) (now_guarded (g.D.Device.disk c.read_groups.new.device).content c.in-Ok.it.0.end c.in-Ok.it.0.count (omega (arith, long)))
