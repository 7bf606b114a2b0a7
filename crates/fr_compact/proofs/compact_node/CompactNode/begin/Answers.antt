use Rattle.std.proofs.Common.{◌≡◌, refl, Some, None, ap, ◌∙◌}
use Rattle.fr_record_node.specs.Replay.{replayed}
use Rattle.fr_compact.specs.Node.{written_held, AreAsks, is_in_flight}
use Rattle.fr_compact.proofs.NodeLemmas.{free_node, kept_leads, left_kept}
use Rattle.fr_compact.proofs.compact_node.CompactNode.begin.Goals as goal

pub invariant_of-result : goal.invariant_of-result
invariant_of-result g c =
    let m = c.args.machine in
    let replays : replayed g.M.Recorded.replay (Some (g.M.Recorded.fresh m)) (g.F.GroupFile.records c.args.file) ≡ Some m = ap (λ l. replayed g.M.Recorded.replay (Some (g.M.Recorded.fresh m)) l) c.requires.none ∙ ap (λ x. Some x) c.requires.fresh in
    free_node g.F.GroupFile.records g.F.GroupFile.is_failed g.F.GroupFile.owed g.F.GroupFile.Throughout g.M.Recorded.fresh g.M.Recorded.replay (written_held g.M.Machine.after g.M.Recorded.written) (AreAsks g.M.Recorded.IsAsk) g.M.Recorded.IsSound is_in_flight None c.args.file m refl replays c.requires.sound
    (left_kept g.F.GroupFile.records g.F.GroupFile.owed g.F.GroupFile.Throughout g.F.GroupFile.weaker c.args.file (c.is_failed-works.ensures.kept c.requires.works)) (c.is_failed-works.ensures.free c.requires.works)

pub returns-clause-kept : goal.returns-clause-kept
returns-clause-kept g c =
    let m = c.args.machine in
    let replays : replayed g.M.Recorded.replay (Some (g.M.Recorded.fresh m)) (g.F.GroupFile.records c.args.file) ≡ Some m = ap (λ l. replayed g.M.Recorded.replay (Some (g.M.Recorded.fresh m)) l) c.requires.none ∙ ap (λ x. Some x) c.requires.fresh in
    kept_leads g.F.GroupFile.records g.F.GroupFile.owed g.F.GroupFile.Throughout g.F.GroupFile.weaker g.M.Recorded.replay (g.M.Recorded.fresh m) m (λ x. x ≡ m) c.args.file replays refl (c.is_failed-works.ensures.kept c.requires.works)
