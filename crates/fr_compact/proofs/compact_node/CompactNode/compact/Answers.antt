use Rattle.std.proofs.Common.{◌≡◌, inl, inr, List, ℕ, Some, refl, sym, ap, subst, ◌∙◌}
use Rattle.fr_record_node.specs.Replay.{replayed}
use Rattle.fr_compact.specs.Leading.{LeadsTo}
use Rattle.fr_compact.specs.Node.{written_held, AreAsks, is_in_flight}
use Rattle.fr_compact.proofs.NodeLemmas.{idle_node, ok_or_err, either_owed, kept_leads, moved_leads, on_ok}
use Rattle.fr_compact.proofs.compact_node.CompactNode.compact.Goals as goal

pub invariant_of-self : goal.invariant_of-self
invariant_of-self g c =
    let works = sym c.is_failed.ensures.value ∙ c.if-is_failed.false in
    let m = c.self.inside.machine in
    let spelled = g.M.Compact.spelled m in
    let leads_back : replayed g.M.Recorded.replay (Some (g.M.Recorded.fresh m)) spelled ≡ Some m = c.leads_back.ensures m c.self.invariant.sound in
    let replays : replayed g.M.Recorded.replay (Some (g.M.Recorded.fresh m)) (g.F.GroupFile.records c.let_go.new.file) ≡ Some m = elim (ok_or_err c.let_go.result _ _ c.let_go.ensures.ok c.let_go.ensures.err) [
      | inl e ↦ ap (λ l. replayed g.M.Recorded.replay (Some (g.M.Recorded.fresh m)) l) e ∙ leads_back
      | inr e ↦ ap (λ l. replayed g.M.Recorded.replay (Some (g.M.Recorded.fresh m)) l) e ∙ c.self.invariant.replays
    ] in
    let alone : (rs : List (List ℕ)) → g.F.GroupFile.owed c.let_go.new.file ≡ Some rs → replayed g.M.Recorded.replay (Some (g.M.Recorded.fresh m)) rs ≡ Some m = λ rs owes. elim (either_owed c.let_go.result (g.F.GroupFile.owed c.let_go.new.file) (Some spelled) (g.F.GroupFile.owed c.self.inside.file) c.let_go.ensures.owes c.let_go.ensures.owes_still) [
      | inl e ↦ (let is : rs ≡ spelled = cc (owes, e) in ap (λ l. replayed g.M.Recorded.replay (Some (g.M.Recorded.fresh m)) l) is ∙ leads_back)
      | inr e ↦ (let free = c.is_failed.ensures.free works in absurd (cc (owes, e, free)))
    ] in
    idle_node g.F.GroupFile.records g.F.GroupFile.is_failed g.F.GroupFile.owed g.F.GroupFile.Throughout g.M.Recorded.fresh g.M.Recorded.replay (written_held g.M.Machine.after g.M.Recorded.written) (AreAsks g.M.Recorded.IsAsk) g.M.Recorded.IsSound is_in_flight c.self.inside.held c.let_go.new.file m (c.self.invariant.idle works) replays c.self.invariant.sound (c.let_go.ensures.leaves works) alone

pub returns-clause-any_moment : goal.returns-clause-any_moment
returns-clause-any_moment g c works_then =
    let works = sym c.is_failed.ensures.value ∙ c.if-is_failed.false in
    let m = c.self.inside.machine in
    let spelled = g.M.Compact.spelled m in
    let leads_back : replayed g.M.Recorded.replay (Some (g.M.Recorded.fresh m)) spelled ≡ Some m = c.leads_back.ensures m c.self.invariant.sound in
    subst (λ n. g.F.GroupFile.Throughout (LeadsTo g.M.Recorded.replay (g.M.Recorded.fresh n.machine) (λ x. x ≡ n.machine)) n.file c.let_go.new.file) c.self.view_is
    (moved_leads g.F.GroupFile.records g.F.GroupFile.owed g.F.GroupFile.Throughout g.F.GroupFile.weaker g.M.Recorded.replay (g.M.Recorded.fresh m) m m (λ x. x ≡ m) c.self.inside.file c.let_go.new.file spelled c.self.invariant.replays refl leads_back refl (c.let_go.ensures.any_moment works))

pub returns-clause-kept : goal.returns-clause-kept
returns-clause-kept g c =
    let works = sym c.is_failed.ensures.value ∙ c.if-is_failed.false in
    let m = c.self.inside.machine in
    let spelled = g.M.Compact.spelled m in
    let leads_back : replayed g.M.Recorded.replay (Some (g.M.Recorded.fresh m)) spelled ≡ Some m = c.leads_back.ensures m c.self.invariant.sound in
    let replays : replayed g.M.Recorded.replay (Some (g.M.Recorded.fresh m)) (g.F.GroupFile.records c.let_go.new.file) ≡ Some m = elim (ok_or_err c.let_go.result _ _ c.let_go.ensures.ok c.let_go.ensures.err) [
      | inl e ↦ ap (λ l. replayed g.M.Recorded.replay (Some (g.M.Recorded.fresh m)) l) e ∙ leads_back
      | inr e ↦ ap (λ l. replayed g.M.Recorded.replay (Some (g.M.Recorded.fresh m)) l) e ∙ c.self.invariant.replays
    ] in
    on_ok c.let_go.result _ _ (kept_leads g.F.GroupFile.records g.F.GroupFile.owed g.F.GroupFile.Throughout g.F.GroupFile.weaker g.M.Recorded.replay (g.M.Recorded.fresh m) m (λ x. x ≡ m) c.let_go.new.file replays refl) c.let_go.ensures.kept
