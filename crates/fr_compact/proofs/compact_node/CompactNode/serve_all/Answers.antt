use Rattle.std.proofs.Common.{rules, ◌≡◌, ◌⊎◌, inl, true, Some, ◌++◌, refl, sym, ap, subst, ◌∙◌}
use Rattle.std.specs.Prelude.{All}
use Rattle.fr_base.specs.Faults.{is_device}
use Rattle.fr_base.specs.declared.node.NodeFault.TheVariants as node
use Rattle.fr_record_node.specs.Several.{after_all, written_all}
use Rattle.fr_record_node.specs.Replay.{replayed}
use Rattle.fr_compact.specs.Leading.{LeadsTo}
use Rattle.fr_compact.specs.Node.{written_held, AreAsks, is_in_flight, met_fault}
use Rattle.fr_compact.proofs.NodeLemmas.{failed_node, kept_leads}
use Rattle.fr_compact.proofs.compact_node.CompactNode.serve_all.Goals as goal

pub returns-then-is_empty-clause-any_moment : goal.returns-then-is_empty-clause-any_moment
returns-then-is_empty-clause-any_moment g c works =
    subst (λ n. g.F.GroupFile.Throughout (LeadsTo g.M.Recorded.replay (g.M.Recorded.fresh n.machine) (λ x. (x ≡ n.machine) ⊎ (x ≡ after_all g.M.Machine.after n.machine c.args.asks.items))) n.file n.file) c.self.view_is
    (kept_leads g.F.GroupFile.records g.F.GroupFile.owed g.F.GroupFile.Throughout g.F.GroupFile.weaker g.M.Recorded.replay (g.M.Recorded.fresh c.self.inside.machine) c.self.inside.machine _ c.self.inside.file c.self.invariant.replays (inl refl) (c.is_failed.ensures.kept (sym c.is_failed.ensures.value ∙ c.if-is_failed.false)))

pub returns-then-is_empty-clause-kept : goal.returns-then-is_empty-clause-kept
returns-then-is_empty-clause-kept g c =
    subst (λ n. g.F.GroupFile.Throughout (LeadsTo g.M.Recorded.replay (g.M.Recorded.fresh n.machine) (λ x. x ≡ n.machine)) n.file n.file) c.self.view_is
    (kept_leads g.F.GroupFile.records g.F.GroupFile.owed g.F.GroupFile.Throughout g.F.GroupFile.weaker g.M.Recorded.replay (g.M.Recorded.fresh c.self.inside.machine) c.self.inside.machine _ c.self.inside.file c.self.invariant.replays refl (c.is_failed.ensures.kept (sym c.is_failed.ensures.value ∙ c.if-is_failed.false)))

pub returns-in-Ok-clause-any_moment : goal.returns-in-Ok-clause-any_moment
returns-in-Ok-clause-any_moment g c works =
    subst (λ n. g.F.GroupFile.Throughout (LeadsTo g.M.Recorded.replay (g.M.Recorded.fresh n.machine) (λ x. (x ≡ n.machine) ⊎ (x ≡ after_all g.M.Machine.after n.machine c.args.asks.items))) n.file c.serve_group.new.file) c.self.view_is
    (subst (λ l. g.F.GroupFile.Throughout (LeadsTo g.M.Recorded.replay (g.M.Recorded.fresh c.self.inside.machine) (λ x. (x ≡ c.self.inside.machine) ⊎ (x ≡ after_all g.M.Machine.after c.self.inside.machine l))) c.self.inside.file c.serve_group.new.file) c.as_slice-2.ensures.value c.serve_group.ensures.any_moment)

pub returns-in-Err-Device-clause-any_moment : goal.returns-in-Err-Device-clause-any_moment
returns-in-Err-Device-clause-any_moment g c works =
    subst (λ n. g.F.GroupFile.Throughout (LeadsTo g.M.Recorded.replay (g.M.Recorded.fresh n.machine) (λ x. (x ≡ n.machine) ⊎ (x ≡ after_all g.M.Machine.after n.machine c.args.asks.items))) n.file c.serve_group.new.file) c.self.view_is
    (subst (λ l. g.F.GroupFile.Throughout (LeadsTo g.M.Recorded.replay (g.M.Recorded.fresh c.self.inside.machine) (λ x. (x ≡ c.self.inside.machine) ⊎ (x ≡ after_all g.M.Machine.after c.self.inside.machine l))) c.self.inside.file c.serve_group.new.file) c.as_slice-2.ensures.value c.serve_group.ensures.any_moment)

pub returns-in-Err-clause-any_moment : goal.returns-in-Err-clause-any_moment
returns-in-Err-clause-any_moment g c works =
    subst (λ n. g.F.GroupFile.Throughout (LeadsTo g.M.Recorded.replay (g.M.Recorded.fresh n.machine) (λ x. (x ≡ n.machine) ⊎ (x ≡ after_all g.M.Machine.after n.machine c.args.asks.items))) n.file c.serve_group.new.file) c.self.view_is
    (subst (λ l. g.F.GroupFile.Throughout (LeadsTo g.M.Recorded.replay (g.M.Recorded.fresh c.self.inside.machine) (λ x. (x ≡ c.self.inside.machine) ⊎ (x ≡ after_all g.M.Machine.after c.self.inside.machine l))) c.self.inside.file c.serve_group.new.file) c.as_slice-2.ensures.value c.serve_group.ensures.any_moment)

pub returns-in-Ok-clause-kept : goal.returns-in-Ok-clause-kept
returns-in-Ok-clause-kept g c =
    kept_leads g.F.GroupFile.records g.F.GroupFile.owed g.F.GroupFile.Throughout g.F.GroupFile.weaker g.M.Recorded.replay (g.M.Recorded.fresh c.serve_group.new.machine) c.serve_group.new.machine _ c.serve_group.new.file c.serve_group.ensures.replays refl c.in-Ok.ensures.kept

pub invariant_of-self-in-Err-Device : goal.invariant_of-self-in-Err-Device
invariant_of-self-in-Err-Device g c =
    let m = c.self.inside.machine in
    let n = c.serve_group.new.machine in
    let file = c.serve_group.new.file in
    let records = g.F.GroupFile.records file in
    let spelled = g.M.Compact.spelled m in
    let unserved = c.in-Err-Device.field-0 in
    let device : unserved.fault ≡ node.Device = search rules in
    let fails : g.F.GroupFile.is_failed file ≡ true = c.serve_group.ensures.fails ∙ ap met_fault c.in-Err-Device.is ∙ ap is_device device in
    let same : n ≡ m = c.in-Err-Device.ensures.err in
    let leads_back : replayed g.M.Recorded.replay (Some (g.M.Recorded.fresh n)) spelled ≡ Some n = subst (λ x. replayed g.M.Recorded.replay (Some (g.M.Recorded.fresh x)) spelled ≡ Some x) (sym same) (c.leads_back.ensures m c.self.invariant.sound) in
    failed_node g.F.GroupFile.records g.F.GroupFile.is_failed g.F.GroupFile.owed g.F.GroupFile.Throughout g.M.Recorded.fresh g.M.Recorded.replay (written_held g.M.Machine.after g.M.Recorded.written) (AreAsks g.M.Recorded.IsAsk) g.M.Recorded.IsSound is_in_flight (record { asks = c.args.asks; is_in_flight = unserved.is_in_flight }) file n
    (subst (λ l. All g.M.Recorded.IsAsk l) c.as_slice-2.ensures.value (c.in-Err-Device.ensures.asked device)) fails c.serve_group.ensures.replays c.serve_group.ensures.sound c.serve_group.ensures.leaves
    (λ rests rs owes. let owed = c.in-Err-Device.ensures.resting device rests in let is : rs ≡ spelled = cc (owes, owed) in ap (λ l. replayed g.M.Recorded.replay (Some (g.M.Recorded.fresh n)) l) is ∙ leads_back)
    (λ flies rs owes. let owed = c.in-Err-Device.ensures.flying device flies in let is : rs ≡ records ++ written_all g.M.Machine.after g.M.Recorded.written m c.as_slice-2.result.now = cc (owes, owed) in
    is ∙ ap (λ x. records ++ written_all g.M.Machine.after g.M.Recorded.written x c.as_slice-2.result.now) (sym same) ∙ ap (λ l. records ++ written_all g.M.Machine.after g.M.Recorded.written n l) c.as_slice-2.ensures.value)
