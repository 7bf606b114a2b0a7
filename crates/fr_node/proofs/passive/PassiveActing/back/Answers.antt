-- A node that was started again is where its journal leads.
use Rattle.std.proofs.Common.{ap, ◌∙◌}
use Rattle.fr_audit_journal.specs.Replays.{ends_by_crash, steps}
use Rattle.fr_node.proofs.Served.{served-back}
use Rattle.fr_node.proofs.passive.PassiveActing.back.Goals as goal

pub invariant_of-self : goal.invariant_of-self
invariant_of-self g c =
    let N = g.N.Plain.Named in
    let M = g.N.Plain.Machine in
    let m = steps N.wrapped N.unwrapped N.wrapped_tell M.told M.after in
    let e = c.started_again.ensures in (
      served-back (λ v. v.items) m _ _ _ _ _ _ c.self.inside.has_files c.started_again.result c.self.invariant.0 c.self.invariant.1 e.place e.entries e.only e.files e.err,
      λ files. ap ends_by_crash e.place ∙ c.self.invariant.1 files,
    )
