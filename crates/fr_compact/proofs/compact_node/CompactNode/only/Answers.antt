use Rattle.std.proofs.Common.{◌≡◌, ◌⊎◌, inl, refl, sym, subst, ◌∙◌}
use Rattle.fr_compact.specs.Leading.{LeadsTo}
use Rattle.fr_compact.proofs.NodeLemmas.{kept_leads}
use Rattle.fr_compact.proofs.compact_node.CompactNode.only.Goals as goal

pub returns-in-Ok-clause-still : goal.returns-in-Ok-clause-still
returns-in-Ok-clause-still g c works =
    subst (λ n. g.F.GroupFile.Throughout (LeadsTo g.M.Recorded.replay (g.M.Recorded.fresh n.machine) (λ x. (x ≡ n.machine) ⊎ (x ≡ g.M.Machine.after n.machine c.args.ask))) n.file n.file) c.self.view_is
    (kept_leads g.F.GroupFile.records g.F.GroupFile.owed g.F.GroupFile.Throughout g.F.GroupFile.weaker g.M.Recorded.replay (g.M.Recorded.fresh c.self.inside.machine) c.self.inside.machine _ c.self.inside.file c.self.invariant.replays (inl refl) (c.is_failed.ensures.kept (sym c.is_failed.ensures.value ∙ c.if-is_failed.false)))

pub returns-in-Err-clause-still : goal.returns-in-Err-clause-still
returns-in-Err-clause-still g c works =
    subst (λ n. g.F.GroupFile.Throughout (LeadsTo g.M.Recorded.replay (g.M.Recorded.fresh n.machine) (λ x. (x ≡ n.machine) ⊎ (x ≡ g.M.Machine.after n.machine c.args.ask))) n.file n.file) c.self.view_is
    (kept_leads g.F.GroupFile.records g.F.GroupFile.owed g.F.GroupFile.Throughout g.F.GroupFile.weaker g.M.Recorded.replay (g.M.Recorded.fresh c.self.inside.machine) c.self.inside.machine _ c.self.inside.file c.self.invariant.replays (inl refl) (c.is_failed.ensures.kept (sym c.is_failed.ensures.value ∙ c.if-is_failed.false)))
