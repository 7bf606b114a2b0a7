use Rattle.std.proofs.Common.{rules, ◌≡◌, ◌⊎◌, Err, true, refl, sym, ap, subst, ◌∙◌}
use Rattle.std.specs.Prelude.{All}
use Rattle.fr_record.specs.Moments.{Throughout, LeavesOnly}
use Rattle.fr_record_node.specs.Several.{after_all, written_all}
use Rattle.fr_record_node.specs.Replay.{Opens}
use Rattle.fr_record_node.specs.Node.{InFlight, owed_of, after_held, written_held, AreAsks}
use Rattle.fr_record_node.proofs.NodeLemmas.{kept_now, still, failing}
use Rattle.fr_record_node.proofs.file_node.FileNode.serve_all.Goals as goal

pub returns-then-is_empty-clause-any_moment : goal.returns-then-is_empty-clause-any_moment
returns-then-is_empty-clause-any_moment g c works =
    subst (λ n. Throughout g.D.Device.Led g.D.Device.disk (Opens g.M.Recorded.replay (g.M.Recorded.fresh n.machine) (λ x. (x ≡ n.machine) ⊎ (x ≡ after_all g.M.Machine.after n.machine c.args.asks.items))) n.device n.device) c.self.view_is
    (still g.D.Device.Led g.D.Device.disk g.M.Recorded.fresh g.M.Recorded.replay (written_held g.M.Machine.after g.M.Recorded.written) (AreAsks g.M.Recorded.IsAsk) g.M.Recorded.IsSound (after_held g.M.Machine.after) c.self.inside.held (record { device = c.self.inside.file.device; records = c.self.inside.file.records; is_failed = c.self.inside.file.is_failed; machine = c.self.inside.machine; owed = owed_of (after_held g.M.Machine.after) c.self.inside.machine c.self.inside.held }) c.self.invariant c.left_law.ensures.at_rest c.args.asks (c.is_failed.ensures.kept (sym c.is_failed.ensures.value ∙ c.if-is_failed.false)))

pub returns-then-is_empty-clause-kept : goal.returns-then-is_empty-clause-kept
returns-then-is_empty-clause-kept g c =
    subst (λ n. Throughout g.D.Device.Led g.D.Device.disk (Opens g.M.Recorded.replay (g.M.Recorded.fresh n.machine) (λ x. x ≡ n.machine)) n.device n.device) c.self.view_is
    (kept_now g.D.Device.Led g.D.Device.disk g.M.Recorded.fresh g.M.Recorded.replay (written_held g.M.Machine.after g.M.Recorded.written) (AreAsks g.M.Recorded.IsAsk) g.M.Recorded.IsSound (after_held g.M.Machine.after) c.left_law.ensures.at_rest c.self.inside.machine c.self.inside.file.records c.self.inside.file.device c.self.invariant.replays (c.is_failed.ensures.kept (sym c.is_failed.ensures.value ∙ c.if-is_failed.false)))

pub returns-in-Ok-clause-any_moment : goal.returns-in-Ok-clause-any_moment
returns-in-Ok-clause-any_moment g c works = subst (λ n. Throughout g.D.Device.Led g.D.Device.disk (Opens g.M.Recorded.replay (g.M.Recorded.fresh n.machine) (λ x. (x ≡ n.machine) ⊎ (x ≡ after_all g.M.Machine.after n.machine c.args.asks.items))) n.device c.put_all.new.file.device) c.self.view_is
    (subst (λ l. Throughout g.D.Device.Led g.D.Device.disk (Opens g.M.Recorded.replay (g.M.Recorded.fresh c.self.inside.machine) (λ x. (x ≡ c.self.inside.machine) ⊎ (x ≡ after_all g.M.Machine.after c.self.inside.machine l))) c.self.inside.file.device c.put_all.new.file.device) c.as_slice.ensures.value c.put_all.ensures.any_moment)

pub returns-in-Err-Device-clause-any_moment : goal.returns-in-Err-Device-clause-any_moment
returns-in-Err-Device-clause-any_moment g c works = subst (λ n. Throughout g.D.Device.Led g.D.Device.disk (Opens g.M.Recorded.replay (g.M.Recorded.fresh n.machine) (λ x. (x ≡ n.machine) ⊎ (x ≡ after_all g.M.Machine.after n.machine c.args.asks.items))) n.device c.put_all.new.file.device) c.self.view_is
    (subst (λ l. Throughout g.D.Device.Led g.D.Device.disk (Opens g.M.Recorded.replay (g.M.Recorded.fresh c.self.inside.machine) (λ x. (x ≡ c.self.inside.machine) ⊎ (x ≡ after_all g.M.Machine.after c.self.inside.machine l))) c.self.inside.file.device c.put_all.new.file.device) c.as_slice.ensures.value c.put_all.ensures.any_moment)

pub returns-in-Err-clause-any_moment : goal.returns-in-Err-clause-any_moment
returns-in-Err-clause-any_moment g c works = subst (λ n. Throughout g.D.Device.Led g.D.Device.disk (Opens g.M.Recorded.replay (g.M.Recorded.fresh n.machine) (λ x. (x ≡ n.machine) ⊎ (x ≡ after_all g.M.Machine.after n.machine c.args.asks.items))) n.device c.put_all.new.file.device) c.self.view_is
    (subst (λ l. Throughout g.D.Device.Led g.D.Device.disk (Opens g.M.Recorded.replay (g.M.Recorded.fresh c.self.inside.machine) (λ x. (x ≡ c.self.inside.machine) ⊎ (x ≡ after_all g.M.Machine.after c.self.inside.machine l))) c.self.inside.file.device c.put_all.new.file.device) c.as_slice.ensures.value c.put_all.ensures.any_moment)

pub returns-in-Ok-clause-kept : goal.returns-in-Ok-clause-kept
returns-in-Ok-clause-kept g c =
    kept_now g.D.Device.Led g.D.Device.disk g.M.Recorded.fresh g.M.Recorded.replay (written_held g.M.Machine.after g.M.Recorded.written) (AreAsks g.M.Recorded.IsAsk) g.M.Recorded.IsSound (after_held g.M.Machine.after) c.left_law.ensures.at_rest c.put_all.new.machine c.put_all.new.file.records c.put_all.new.file.device c.in-Ok.ensures.replays c.in-Ok.ensures.kept

pub invariant_of-self-in-Err-Device : goal.invariant_of-self-in-Err-Device
invariant_of-self-in-Err-Device g c =
    let fails : c.put_all.new.file.is_failed ≡ true = search rules in
    let met = c.in-Err-Device.is ∙ ap (λ f. Err f) c.in-Err-Device.field-0-is in
    failing g.D.Device.Led g.D.Device.disk g.M.Recorded.fresh g.M.Recorded.replay (written_held g.M.Machine.after g.M.Recorded.written) (AreAsks g.M.Recorded.IsAsk) g.M.Recorded.IsSound (after_held g.M.Machine.after) c.self.inside.held (record { device = c.self.inside.file.device; records = c.self.inside.file.records; is_failed = c.self.inside.file.is_failed; machine = c.self.inside.machine; owed = owed_of (after_held g.M.Machine.after) c.self.inside.machine c.self.inside.held }) c.self.invariant c.args.asks (subst (λ l. All g.M.Recorded.IsAsk l) c.as_slice.ensures.value (c.put_all.ensures.asked met)) c.put_all.new.file.device (subst (λ l. LeavesOnly g.D.Device.Led g.D.Device.disk (InFlight c.self.inside.file.records (written_all g.M.Machine.after g.M.Recorded.written c.self.inside.machine l)) c.put_all.new.file.device) c.as_slice.ensures.value (c.put_all.ensures.left met)) c.put_all.new.file.records c.put_all.new.file.is_failed c.put_all.new.machine c.args.asks
    c.in-Err-Device.ensures.err_records fails c.in-Err-Device.ensures.err refl (subst g.M.Recorded.IsSound (sym c.in-Err-Device.ensures.err) c.self.invariant.sound)
