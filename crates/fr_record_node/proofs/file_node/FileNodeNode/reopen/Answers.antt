use Rattle.std.proofs.Common.{rules, ◌≡◌, ◌⊎◌, ◌||◌, None, Some, true, inl, refl, ap, subst, ◌∙◌}
use Rattle.fr_record.specs.Moments.{Throughout}
use Rattle.fr_base.specs.Faults.{is_device}
use Rattle.fr_record_node.specs.Replay.{Opens}
use Rattle.fr_record_node.specs.Several.{written_all}
use Rattle.fr_record_node.specs.Node.{InFlight, owed_of, after_held, written_held, AreAsks}
use Rattle.fr_record_node.proofs.Lemmas.{on_ok}
use Rattle.fr_record_node.proofs.SeveralLemmas.{all_replay}
use Rattle.fr_record_node.proofs.NodeLemmas.{kept_now, same, idle_again, idle_claim, is_failing, held_again, held_claim}
use Rattle.fr_record_node.proofs.file_node.FileNodeNode.reopen.Goals as goal

pub invariant_of-self : goal.invariant_of-self
invariant_of-self g c =
    let none : c.self.inside.held ≡ None = search rules in
    idle_again g.D.Device.Led g.D.Device.disk g.M.Recorded.fresh g.M.Recorded.replay (written_held g.M.Machine.after g.M.Recorded.written) (AreAsks g.M.Recorded.IsAsk) g.M.Recorded.IsSound (after_held g.M.Machine.after) c.self.inside.held (record { device = c.self.inside.file.device; records = c.self.inside.file.records; is_failed = c.self.inside.file.is_failed; machine = c.self.inside.machine; owed = owed_of (after_held g.M.Machine.after) c.self.inside.machine c.self.inside.held }) c.self.invariant none c.reopen_idle.new.file.device c.reopen_idle.new.file.records c.reopen_idle.new.file.is_failed c.reopen_idle.ensures.same c.reopen_idle.ensures.any_moment

pub returns-in_default-clause-any_moment : goal.returns-in_default-clause-any_moment
returns-in_default-clause-any_moment g c =
    subst (λ n. Throughout g.D.Device.Led g.D.Device.disk (Opens g.M.Recorded.replay (g.M.Recorded.fresh n.machine) (λ x. (x ≡ n.machine) ⊎ (n.owed ≡ Some x))) n.device c.reopen_idle.new.file.device) c.self.view_is
    (idle_claim g.D.Device.Led g.D.Device.disk g.M.Recorded.fresh g.M.Recorded.replay (written_held g.M.Machine.after g.M.Recorded.written) (AreAsks g.M.Recorded.IsAsk) g.M.Recorded.IsSound (after_held g.M.Machine.after) c.self.inside.held (record { device = c.self.inside.file.device; records = c.self.inside.file.records; is_failed = c.self.inside.file.is_failed; machine = c.self.inside.machine; owed = owed_of (after_held g.M.Machine.after) c.self.inside.machine c.self.inside.held }) c.self.invariant c.left_law.ensures.at_rest _ (inl refl) c.reopen_idle.new.file.device c.reopen_idle.ensures.any_moment)

pub returns-in_default-clause-kept : goal.returns-in_default-clause-kept
returns-in_default-clause-kept g c =
    on_ok c.reopen_idle.result _ _ (λ leaves. kept_now g.D.Device.Led g.D.Device.disk g.M.Recorded.fresh g.M.Recorded.replay (written_held g.M.Machine.after g.M.Recorded.written) (AreAsks g.M.Recorded.IsAsk) g.M.Recorded.IsSound (after_held g.M.Machine.after) c.left_law.ensures.at_rest c.self.inside.machine c.reopen_idle.new.file.records c.reopen_idle.new.file.device (same g.D.Device.Led g.D.Device.disk g.M.Recorded.fresh g.M.Recorded.replay (written_held g.M.Machine.after g.M.Recorded.written) (AreAsks g.M.Recorded.IsAsk) g.M.Recorded.IsSound (after_held g.M.Machine.after) c.self.inside.held (record { device = c.self.inside.file.device; records = c.self.inside.file.records; is_failed = c.self.inside.file.is_failed; machine = c.self.inside.machine; owed = owed_of (after_held g.M.Machine.after) c.self.inside.machine c.self.inside.held }) c.self.invariant c.self.inside.machine c.reopen_idle.new.file.records refl c.reopen_idle.ensures.same) leaves) c.reopen_idle.ensures.kept

pub invariant_of-self-in-Err : goal.invariant_of-self-in-Err
invariant_of-self-in-Err g c =
    let fails : c.reopen_held.new.file.is_failed ≡ true = c.in-Err.ensures.fails ∙ ap (λ b. b || is_device c.in-Err.fault) (is_failing g.D.Device.Led g.D.Device.disk g.M.Recorded.fresh g.M.Recorded.replay (written_held g.M.Machine.after g.M.Recorded.written) (AreAsks g.M.Recorded.IsAsk) g.M.Recorded.IsSound (after_held g.M.Machine.after) c.self.inside.held (record { device = c.self.inside.file.device; records = c.self.inside.file.records; is_failed = c.self.inside.file.is_failed; machine = c.self.inside.machine; owed = owed_of (after_held g.M.Machine.after) c.self.inside.machine c.self.inside.held }) c.self.invariant _ c.in-Some.is) in
    held_again g.D.Device.Led g.D.Device.disk g.M.Recorded.fresh g.M.Recorded.replay (written_held g.M.Machine.after g.M.Recorded.written) (AreAsks g.M.Recorded.IsAsk) g.M.Recorded.IsSound (after_held g.M.Machine.after) c.self.inside.held (record { device = c.self.inside.file.device; records = c.self.inside.file.records; is_failed = c.self.inside.file.is_failed; machine = c.self.inside.machine; owed = owed_of (after_held g.M.Machine.after) c.self.inside.machine c.self.inside.held }) c.self.invariant _ c.in-Some.is c.reopen_held.new.file.device c.reopen_held.new.file.records c.reopen_held.new.file.is_failed c.reopen_held.new.machine
    c.in-Err.ensures.err_records c.in-Err.ensures.err fails c.in-Err.ensures.sound (subst (λ l. Throughout g.D.Device.Led g.D.Device.disk (InFlight c.self.inside.file.records (written_all g.M.Machine.after g.M.Recorded.written c.self.inside.machine l)) c.self.inside.file.device c.reopen_held.new.file.device) c.as_slice.ensures.value c.in-Err.ensures.any_moment)

pub returns-in-Ok-clause-any_moment : goal.returns-in-Ok-clause-any_moment
returns-in-Ok-clause-any_moment g c =
    subst (λ n. Throughout g.D.Device.Led g.D.Device.disk (Opens g.M.Recorded.replay (g.M.Recorded.fresh n.machine) (λ x. (x ≡ n.machine) ⊎ (n.owed ≡ Some x))) n.device c.reopen_held.new.file.device) c.self.view_is
    (held_claim g.D.Device.Led g.D.Device.disk g.M.Recorded.fresh g.M.Recorded.replay (written_held g.M.Machine.after g.M.Recorded.written) (AreAsks g.M.Recorded.IsAsk) g.M.Recorded.IsSound (after_held g.M.Machine.after) c.self.inside.held (record { device = c.self.inside.file.device; records = c.self.inside.file.records; is_failed = c.self.inside.file.is_failed; machine = c.self.inside.machine; owed = owed_of (after_held g.M.Machine.after) c.self.inside.machine c.self.inside.held }) c.self.invariant _ c.in-Some.is (λ s asks. all_replay g.M.Machine.after g.M.Recorded.IsSound g.M.Recorded.IsAsk g.met.M.Recorded.stays_sound g.M.Recorded.replay g.M.Recorded.written g.met.M.Recorded.replays s asks.items) c.left_law.ensures.whole_or_not c.left_law.ensures.at_rest c.reopen_held.new.file.device (subst (λ l. Throughout g.D.Device.Led g.D.Device.disk (InFlight c.self.inside.file.records (written_all g.M.Machine.after g.M.Recorded.written c.self.inside.machine l)) c.self.inside.file.device c.reopen_held.new.file.device) c.as_slice.ensures.value c.reopen_held.ensures.any_moment))

pub returns-in-Err-clause-any_moment : goal.returns-in-Err-clause-any_moment
returns-in-Err-clause-any_moment g c =
    subst (λ n. Throughout g.D.Device.Led g.D.Device.disk (Opens g.M.Recorded.replay (g.M.Recorded.fresh n.machine) (λ x. (x ≡ n.machine) ⊎ (n.owed ≡ Some x))) n.device c.reopen_held.new.file.device) c.self.view_is
    (held_claim g.D.Device.Led g.D.Device.disk g.M.Recorded.fresh g.M.Recorded.replay (written_held g.M.Machine.after g.M.Recorded.written) (AreAsks g.M.Recorded.IsAsk) g.M.Recorded.IsSound (after_held g.M.Machine.after) c.self.inside.held (record { device = c.self.inside.file.device; records = c.self.inside.file.records; is_failed = c.self.inside.file.is_failed; machine = c.self.inside.machine; owed = owed_of (after_held g.M.Machine.after) c.self.inside.machine c.self.inside.held }) c.self.invariant _ c.in-Some.is (λ s asks. all_replay g.M.Machine.after g.M.Recorded.IsSound g.M.Recorded.IsAsk g.met.M.Recorded.stays_sound g.M.Recorded.replay g.M.Recorded.written g.met.M.Recorded.replays s asks.items) c.left_law.ensures.whole_or_not c.left_law.ensures.at_rest c.reopen_held.new.file.device (subst (λ l. Throughout g.D.Device.Led g.D.Device.disk (InFlight c.self.inside.file.records (written_all g.M.Machine.after g.M.Recorded.written c.self.inside.machine l)) c.self.inside.file.device c.reopen_held.new.file.device) c.as_slice.ensures.value c.reopen_held.ensures.any_moment))

pub returns-in-Ok-clause-kept : goal.returns-in-Ok-clause-kept
returns-in-Ok-clause-kept g c =
    kept_now g.D.Device.Led g.D.Device.disk g.M.Recorded.fresh g.M.Recorded.replay (written_held g.M.Machine.after g.M.Recorded.written) (AreAsks g.M.Recorded.IsAsk) g.M.Recorded.IsSound (after_held g.M.Machine.after) c.left_law.ensures.at_rest c.reopen_held.new.machine c.reopen_held.new.file.records c.reopen_held.new.file.device c.in-Ok.ensures.replays c.in-Ok.ensures.kept
