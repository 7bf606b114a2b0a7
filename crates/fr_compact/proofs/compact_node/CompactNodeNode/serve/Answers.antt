use Rattle.std.proofs.Common.{◌≡◌, ◌⊎◌, subst}
use Rattle.fr_record_node.specs.Several.{after_all}
use Rattle.fr_compact.specs.Leading.{LeadsTo}
use Rattle.fr_compact.proofs.compact_node.CompactNodeNode.serve.Goals as goal

pub returns-in-Some-clause-any_moment : goal.returns-in-Some-clause-any_moment
returns-in-Some-clause-any_moment g c works =
    let m = c.args.self.now.machine in
    subst (λ asks. g.F.GroupFile.Throughout (LeadsTo g.M.Recorded.replay (g.M.Recorded.fresh m) (λ x. (x ≡ m) ⊎ (x ≡ after_all g.M.Machine.after m asks))) c.args.self.now.file c.serve_all.new.self.file) c.in-Ok.ensures.ok
    (c.serve_all.ensures.any_moment works)

pub returns-in-Err-serve_all-clause-any_moment : goal.returns-in-Err-serve_all-clause-any_moment
returns-in-Err-serve_all-clause-any_moment g c works =
    let m = c.args.self.now.machine in
    subst (λ asks. g.F.GroupFile.Throughout (LeadsTo g.M.Recorded.replay (g.M.Recorded.fresh m) (λ x. (x ≡ m) ⊎ (x ≡ after_all g.M.Machine.after m asks))) c.args.self.now.file c.serve_all.new.self.file) c.in-Ok.ensures.ok
    (c.serve_all.ensures.any_moment works)
