use Rattle.std.proofs.Common.{◌≡◌, Some, Err, ap, sym, ◌∙◌, subst}
use Rattle.fr_base.specs.declared.node.NodeFault.TheVariants as node
use Rattle.fr_record_node.specs.Node.{node_fault, after_held, written_held, AreAsks}
use Rattle.fr_record_node.specs.Replay.{replayed}
use Rattle.fr_record_node.proofs.Lemmas.{is_broken}
use Rattle.fr_record_node.proofs.NodeLemmas.{kept_now}
use Rattle.fr_record_node.proofs.OpeningLemmas.{same_fault, stands_durable, opened_read}
use Rattle.fr_base.specs.Faults as base
use Rattle.fr_record.specs.Opening.{HasGone}
use Rattle.fr_record_node.proofs.file_node.FileNode.open.Goals as goal

pub returns-in-Err-clause-broken : goal.returns-in-Err-clause-broken
returns-in-Err-clause-broken g c e records stands =
    let told : node_fault c.in-Err.fault ≡ node.Broken = cc (sym c.node_fault.ensures, e) in
    absurd (c.open.ensures.broken (c.in-Err.is ∙ ap (λ f. Err f) (is_broken c.in-Err.fault told)) records stands)

pub returns-in-Err-read_all-clause-broken : goal.returns-in-Err-read_all-clause-broken
returns-in-Err-read_all-clause-broken g c e records stands =
    let told : c.in-Err-read_all.fault ≡ node.Broken = cc e in
    ap (λ l. replayed g.M.Recorded.replay (Some c.args.machine) l) (c.left_law.ensures.one_list (g.D.Device.disk c.args.device).content c.in-Ok.file.records records c.in-Ok.ensures.records stands)
    ∙ c.read_all.ensures.broken (c.in-Err-read_all.is ∙ ap (λ f. Err f) told)

pub returns-clause-kept : goal.returns-clause-kept
returns-clause-kept g c =
    let machine = c.read_all.new.machine in
    let records = c.read_all.new.file.records in
    let replays : replayed g.M.Recorded.replay (Some (g.M.Recorded.fresh machine)) records ≡ Some machine =
    ap (λ f. replayed g.M.Recorded.replay (Some f) records) (c.read_all.ensures.same ∙ c.requires.fresh)
    ∙ ap (λ l. replayed g.M.Recorded.replay (Some c.args.machine) l) c.read_all.ensures.records
    ∙ c.in-Ok-read_all.ensures.ok in
    kept_now g.D.Device.Led g.D.Device.disk g.M.Recorded.fresh g.M.Recorded.replay (written_held g.M.Machine.after g.M.Recorded.written) (AreAsks g.M.Recorded.IsAsk) g.M.Recorded.IsSound (after_held g.M.Machine.after) c.left_law.ensures.at_rest machine records c.read_all.new.file.device replays
    (c.is_failed-is_failed.ensures.kept c.in-Ok-read_all.ensures.works)

pub returns-clause-any_moment : goal.returns-clause-any_moment
returns-clause-any_moment g c =
    opened_read g.D.Device.Led g.D.Device.disk c.args.device c.in-Ok.file.device c.read_all.new.file.device c.in-Ok.ensures.any_moment c.read_all.ensures.still

pub returns-in-Err-clause-gone : goal.returns-in-Err-clause-gone
returns-in-Err-clause-gone g c =
    subst (λ b. HasGone g.D.Device.Led g.D.Device.disk b c.args.device) (same_fault c.in-Err.fault ∙ ap base.is_device (sym c.node_fault.ensures)) c.in-Err.ensures.gone

pub returns-in-Err-read_all-clause-gone : goal.returns-in-Err-read_all-clause-gone
returns-in-Err-read_all-clause-gone g c =
    let opening = opened_read g.D.Device.Led g.D.Device.disk c.args.device c.in-Ok.file.device c.read_all.new.file.device c.in-Ok.ensures.any_moment c.read_all.ensures.still in
    (c.read_all.new.file.device, opening, λ e. stands_durable (g.D.Device.disk c.in-Ok.file.device) (g.D.Device.disk c.read_all.new.file.device) c.in-Ok.ensures.durable c.read_all.ensures.still.stands)
