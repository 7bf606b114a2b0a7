use Rattle.std.proofs.Common.{◌≡◌, Some, ap, ◌∙◌}
use Rattle.fr_record_node.specs.Node.{after_held, written_held, AreAsks}
use Rattle.fr_record_node.specs.Replay.{replayed}
use Rattle.fr_record_node.proofs.NodeLemmas.{kept_now}
use Rattle.fr_record_node.proofs.file_node.FileNode.format.Goals as goal

pub returns-in-Ok-clause-kept : goal.returns-in-Ok-clause-kept
returns-in-Ok-clause-kept g c =
    let machine = c.args.machine in
    let replays : replayed g.M.Recorded.replay (Some (g.M.Recorded.fresh machine)) c.in-Ok.file.records ≡ Some machine =
    ap (λ l. replayed g.M.Recorded.replay (Some (g.M.Recorded.fresh machine)) l) c.in-Ok.ensures.records ∙ ap (λ m. Some m) c.requires.fresh in
    kept_now g.D.Device.Led g.D.Device.disk g.M.Recorded.fresh g.M.Recorded.replay (written_held g.M.Machine.after g.M.Recorded.written) (AreAsks g.M.Recorded.IsAsk) g.M.Recorded.IsSound (after_held g.M.Machine.after) c.left_law.ensures.at_rest machine c.in-Ok.file.records c.in-Ok.file.device replays
    c.in-Ok.ensures.kept
