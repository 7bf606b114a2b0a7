use Rattle.std.proofs.Common.{◌≡◌, suc, ◌+◌, ◌*◌, ◌≤◌, [], ◌∷◌, ◌++◌, sym, ◌∙◌, ap, arith}
use Rattle.std.proofs.Math.Nat.{suc-mul}
use Rattle.fr_log.specs.Fields.{two}
use Rattle.fr_log.specs.Headers.{evenly, is_numbered}
use Rattle.fr_log.proofs.Runs.{evenly_taken, evenly_restepped}
use Rattle.fr_log.proofs.pushes.run.Run.add.Goals as goal
use Rattle.fr_log.proofs.pushes.run.Run.add.Goals.{then-self-eq0, else-self-eq0}

pub invariant_of-self : goal.invariant_of-self
invariant_of-self c =
    let some : 1 ≤ c.if-self-eq0.step = elim c.if-self-eq0.branch [
      | then-self-eq0 w ↦ omega (arith, w.step-is, w.step_to-step.ensures.some)
      | else-self-eq0 w ↦ omega (arith, w.step-is, c.self.invariant.steps)
    ]
    in
    let up = suc-mul c.self.inside.more c.if-self-eq0.step in
    let one : suc c.self.inside.more * c.if-self-eq0.step ≡ (c.self.inside.more + 1) * c.if-self-eq0.step = ap (λ n. n * c.if-self-eq0.step) (omega arith) in
    record { steps = some; within = omega (arith, up, one, c.get.ensures.value, c.if-get-last.false, c.get-3.ensures.within) }

pub returns-then-is_numbered-clause-yes : goal.returns-then-is_numbered-clause-yes
returns-then-is_numbered-clause-yes c = λ _.
    let h = c.self.inside.first in
    let g = c.args.header.now in
    let step = c.if-self-eq0.step in
    let more = c.self.inside.more in
    let at : g.version ≡ h.version + more * step + step = omega (arith, c.if-get-last.false, c.get-3.ensures.value, c.get.ensures.value) in
    let numbers = two (λ u v. is_numbered g h.epoch (u + more * step) (v + more * step + step)) (sym c.get.ensures.value) (sym c.get-2.ensures.value) ∙ sym c.is_numbered.ensures ∙ c.if-is_numbered.true in
    let same : evenly h step more ≡ c.args.self.now = elim c.if-self-eq0.branch [
      | then-self-eq0 w ↦ evenly_restepped h c.self.inside.step step more w.if-self-eq0.true ∙ c.self.view_is
      | else-self-eq0 w ↦ ap (λ s. evenly h s more) w.step-is ∙ c.self.view_is
    ]
    in
    evenly_taken h g step more at numbers ∙ ap (λ hs. hs ++ g ∷ []) same
