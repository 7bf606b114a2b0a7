use Rattle.std.proofs.Common.{◌≡◌, sym, subst, ◌∙◌}
use Rattle.fr_segment.specs.File.{IsClosedAt}
use Rattle.fr_segment.proofs.RenewRun.{gate_shut, shut_gate, gate_read, gate_written, gate_closed}
use Rattle.fr_segment.proofs.gate.close_first.Goals as goal

pub returns-in_err-read_at-clause-any_moment : goal.returns-in_err-read_at-clause-any_moment
returns-in_err-read_at-clause-any_moment g c =
    gate_read g.D.Device.Led g.D.Device.disk c.args.device.now c.requires.within c.requires.durable c.read_at.new.self c.read_at.ensures.led c.read_at.ensures.stands

pub returns-then-is_closed-clause-any_moment : goal.returns-then-is_closed-clause-any_moment
returns-then-is_closed-clause-any_moment g c =
    gate_read g.D.Device.Led g.D.Device.disk c.args.device.now c.requires.within c.requires.durable c.read_at.new.self c.read_at.ensures.led c.read_at.ensures.stands

pub returns-then-is_closed-clause-closed : goal.returns-then-is_closed-clause-closed
returns-then-is_closed-clause-closed g c =
    subst (λ l. IsClosedAt l 0) (sym c.read_at.ensures.stands.same) (gate_shut (g.D.Device.disk c.args.device.now).content _ c.in_ok-read_at.ensures.read (c.is_closed.ensures.0 c.if-is_closed.true).1)

pub returns-in_err-write_at-clause-any_moment : goal.returns-in_err-write_at-clause-any_moment
returns-in_err-write_at-clause-any_moment g c =
    let opens : IsClosedAt (g.D.Device.disk c.args.device.now).content 0 → ⊥ = λ shut. (let is = c.is_closed.ensures.1 (shut_gate (g.D.Device.disk c.args.device.now).content _ c.requires.within c.in_ok-read_at.ensures.read shut) in absurd (cc (is, c.if-is_closed.false))) in
    gate_written g.D.Device.Led g.D.Device.disk c.args.device.now c.requires.within c.requires.durable c.read_at.new.self c.read_at.ensures.led c.read_at.ensures.stands opens c.write_at.new.self c.write_at.ensures.led c.write_at.ensures.torn

pub returns-in_err-sync-clause-any_moment : goal.returns-in_err-sync-clause-any_moment
returns-in_err-sync-clause-any_moment g c =
    let opens : IsClosedAt (g.D.Device.disk c.args.device.now).content 0 → ⊥ = λ shut. (let is = c.is_closed.ensures.1 (shut_gate (g.D.Device.disk c.args.device.now).content _ c.requires.within c.in_ok-read_at.ensures.read shut) in absurd (cc (is, c.if-is_closed.false))) in
    gate_closed g.D.Device.Led g.D.Device.disk c.args.device.now c.requires.within c.requires.durable c.read_at.new.self c.read_at.ensures.led c.read_at.ensures.stands opens c.write_at.new.self c.write_at.ensures.led c.write_at.ensures.torn
    c.sync.new.self c.sync.ensures.led c.sync.ensures.stands

pub returns-clause-any_moment : goal.returns-clause-any_moment
returns-clause-any_moment g c =
    let opens : IsClosedAt (g.D.Device.disk c.args.device.now).content 0 → ⊥ = λ shut. (let is = c.is_closed.ensures.1 (shut_gate (g.D.Device.disk c.args.device.now).content _ c.requires.within c.in_ok-read_at.ensures.read shut) in absurd (cc (is, c.if-is_closed.false))) in
    gate_closed g.D.Device.Led g.D.Device.disk c.args.device.now c.requires.within c.requires.durable c.read_at.new.self c.read_at.ensures.led c.read_at.ensures.stands opens c.write_at.new.self c.write_at.ensures.led c.write_at.ensures.torn
    c.sync.new.self c.sync.ensures.led c.sync.ensures.stands
