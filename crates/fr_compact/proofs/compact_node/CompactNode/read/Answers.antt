use Rattle.std.proofs.Common.{◌≡◌, refl, Some, None, Err, ap, ◌∙◌}
use Rattle.fr_base.specs.declared.node.NodeFault.TheVariants as node
use Rattle.fr_record_node.specs.Replay.{replayed}
use Rattle.fr_compact.specs.Node.{written_held, AreAsks, is_in_flight}
use Rattle.fr_compact.proofs.NodeLemmas.{free_node, kept_leads, left_kept}
use Rattle.fr_compact.proofs.compact_node.CompactNode.read.Goals as goal

pub invariant_of-result : goal.invariant_of-result
invariant_of-result g c =
    let m = c.read_all.new.machine in
    let file = c.read_all.new.file in
    let replays : replayed g.M.Recorded.replay (Some (g.M.Recorded.fresh m)) (g.F.GroupFile.records file) ≡ Some m =
    ap (λ f. replayed g.M.Recorded.replay (Some f) (g.F.GroupFile.records file)) (c.read_all.ensures.same ∙ c.requires.fresh)
    ∙ ap (λ l. replayed g.M.Recorded.replay (Some c.args.machine) l) c.read_all.ensures.records ∙ c.in-Ok.ensures.ok in
    free_node g.F.GroupFile.records g.F.GroupFile.is_failed g.F.GroupFile.owed g.F.GroupFile.Throughout g.M.Recorded.fresh g.M.Recorded.replay (written_held g.M.Machine.after g.M.Recorded.written) (AreAsks g.M.Recorded.IsAsk) g.M.Recorded.IsSound is_in_flight None file m refl replays c.read_all.ensures.sound
    (left_kept g.F.GroupFile.records g.F.GroupFile.owed g.F.GroupFile.Throughout g.F.GroupFile.weaker file (c.is_failed-works.ensures.kept c.in-Ok.ensures.works)) (c.is_failed-works.ensures.free c.in-Ok.ensures.works)

pub returns-clause-kept : goal.returns-clause-kept
returns-clause-kept g c =
    let m = c.read_all.new.machine in
    let file = c.read_all.new.file in
    let replays : replayed g.M.Recorded.replay (Some (g.M.Recorded.fresh m)) (g.F.GroupFile.records file) ≡ Some m =
    ap (λ f. replayed g.M.Recorded.replay (Some f) (g.F.GroupFile.records file)) (c.read_all.ensures.same ∙ c.requires.fresh)
    ∙ ap (λ l. replayed g.M.Recorded.replay (Some c.args.machine) l) c.read_all.ensures.records ∙ c.in-Ok.ensures.ok in
    kept_leads g.F.GroupFile.records g.F.GroupFile.owed g.F.GroupFile.Throughout g.F.GroupFile.weaker g.M.Recorded.replay (g.M.Recorded.fresh m) m (λ x. x ≡ m) file replays refl (c.is_failed-works.ensures.kept c.in-Ok.ensures.works)

pub returns-in-Err-clause-gone : goal.returns-in-Err-clause-gone
returns-in-Err-clause-gone g c = (c.read_all.new.file, c.read_all.ensures.any_moment, λ e. let told : c.in-Err.fault ≡ node.Device = cc e in c.read_all.ensures.device (c.in-Err.is ∙ ap (λ f. Err f) told))
