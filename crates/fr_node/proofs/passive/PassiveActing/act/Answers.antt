-- A node that served an ask, and entered it, is where its journal leads.
use Rattle.std.proofs.Common.{ap, refl, ◌∙◌}
use Rattle.fr_audit_journal.specs.Replays.{ends_by_crash, steps}
use Rattle.fr_node.proofs.Served.{served-entered}
use Rattle.fr_node.proofs.passive.PassiveActing.act.Goals as goal

pub invariant_of-self-2 : goal.invariant_of-self-2
invariant_of-self-2 g c =
    let N = g.N.Plain.Named in
    let M = g.N.Plain.Machine in
    let m = steps N.wrapped N.unwrapped N.wrapped_tell M.told M.after in
    let node = c.enter.ensures.node ∙ c.reserve.ensures.node in (
      served-entered m _ _ _ _ _ _ _ c.in-Some-stamp_above.stamp c.in-Ask.from c.in-Some.own c.in_ok-served.served c.wrap.result c.wrap_tell.result c.self.invariant.0
          node (c.enter.ensures.entries ∙ rw c.reserve.ensures.entries refl)
          c.wrap.ensures.value c.wrap.ensures.back c.in_ok-served.ensures (c.wrap_tell.ensures.value ∙ ap N.wrapped_tell c.in_ok-tell.ensures.told) c.in_ok-tell.ensures.after,
      λ files. ap ends_by_crash node ∙ c.self.invariant.1 files,
    )
