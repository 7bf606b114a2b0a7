use Rattle.fr_segment.proofs.RenewRun.{while_closing, while_renewing, at_first}
use Rattle.fr_segment.proofs.gate.renew.Goals as goal

pub returns-in_err-close_first-clause-any_moment : goal.returns-in_err-close_first-clause-any_moment
returns-in_err-close_first-clause-any_moment g c =
    while_closing g.D.Device.Led g.D.Device.disk c.args.device.now c.args.new.now c.close_first.new.device c.close_first.ensures.any_moment

pub returns-in_err-put-clause-any_moment : goal.returns-in_err-put-clause-any_moment
returns-in_err-put-clause-any_moment g c =
    while_renewing g.D.Device.Led g.D.Device.disk c.args.device.now c.args.new.now c.close_first.new.device c.close_first.ensures.any_moment c.put.new.device c.close_first.ensures.long c.in_ok-close_first.ensures.closed c.put.ensures.any_moment

pub returns-clause-any_moment : goal.returns-clause-any_moment
returns-clause-any_moment g c =
    while_renewing g.D.Device.Led g.D.Device.disk c.args.device.now c.args.new.now c.close_first.new.device c.close_first.ensures.any_moment c.put.new.device c.close_first.ensures.long c.in_ok-close_first.ensures.closed c.put.ensures.any_moment

pub returns-clause-ok : goal.returns-clause-ok
returns-clause-ok g c =
    at_first (g.D.Device.disk c.args.device.now).content (g.D.Device.disk c.close_first.new.device).content c.args.new.now (g.D.Device.disk c.put.new.device).content c.in_ok-put.ensures.ok
