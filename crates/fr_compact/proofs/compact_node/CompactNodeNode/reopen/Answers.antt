use Rattle.std.proofs.Common.{rules, ◌≡◌, ◌⊎◌, None, Some, refl, subst}
use Rattle.fr_base.specs.Faults.{is_device}
use Rattle.fr_record_node.specs.Node.{owed_of}
use Rattle.fr_compact.specs.Leading.{LeadsTo}
use Rattle.fr_compact.specs.Node.{after_held, written_held, AreAsks, is_in_flight}
use Rattle.fr_compact.proofs.AskLemmas.{all_replay}
use Rattle.fr_compact.proofs.NodeLemmas.{idle_node, free_node, still_node, own_leads, found_idle, alone_still, kept_leads, on_ok, worked}
use Rattle.fr_compact.proofs.compact_node.CompactNodeNode.reopen.Goals as goal

pub invariant_of-self : goal.invariant_of-self
invariant_of-self g c =
    let none : c.self.inside.held ≡ None = search rules in
    idle_node g.F.GroupFile.records g.F.GroupFile.is_failed g.F.GroupFile.owed g.F.GroupFile.Throughout g.M.Recorded.fresh g.M.Recorded.replay (written_held g.M.Machine.after g.M.Recorded.written) (AreAsks g.M.Recorded.IsAsk) g.M.Recorded.IsSound is_in_flight c.self.inside.held c.reopen_idle.new.file c.self.inside.machine none
    (found_idle g.F.GroupFile.records g.F.GroupFile.owed g.M.Recorded.replay (g.M.Recorded.fresh c.self.inside.machine) c.self.inside.machine c.self.inside.file c.reopen_idle.new.file c.self.invariant.replays (c.self.invariant.alone none) c.reopen_idle.result c.reopen_idle.ensures.left c.reopen_idle.ensures.err) c.self.invariant.sound c.reopen_idle.ensures.leaves
    (alone_still g.F.GroupFile.records g.F.GroupFile.owed g.M.Recorded.replay (g.M.Recorded.fresh c.self.inside.machine) c.self.inside.machine c.self.inside.file c.reopen_idle.new.file c.self.invariant.replays (c.self.invariant.alone none) c.reopen_idle.result c.reopen_idle.ensures.free c.reopen_idle.ensures.owes_still)

pub returns-in_default-clause-any_moment : goal.returns-in_default-clause-any_moment
returns-in_default-clause-any_moment g c =
    subst (λ n. g.F.GroupFile.Throughout (LeadsTo g.M.Recorded.replay (g.M.Recorded.fresh n.machine) (λ x. (x ≡ n.machine) ⊎ (n.owed ≡ Some x))) n.file c.reopen_idle.new.file) c.self.view_is
    (g.F.GroupFile.weaker (λ rs. (rs ≡ g.F.GroupFile.records c.self.inside.file) ⊎ (g.F.GroupFile.owed c.self.inside.file ≡ Some rs)) (LeadsTo g.M.Recorded.replay (g.M.Recorded.fresh c.self.inside.machine) (λ x. (x ≡ c.self.inside.machine) ⊎ (owed_of (after_held g.M.Machine.after) c.self.inside.machine c.self.inside.held ≡ Some x))) c.self.inside.file c.reopen_idle.new.file
    (own_leads g.F.GroupFile.records g.F.GroupFile.is_failed g.F.GroupFile.owed g.F.GroupFile.Throughout g.M.Recorded.fresh g.M.Recorded.replay (written_held g.M.Machine.after g.M.Recorded.written) (AreAsks g.M.Recorded.IsAsk) g.M.Recorded.IsSound is_in_flight c.self.inside.held c.self.inside.file c.self.inside.machine c.self.invariant (after_held g.M.Machine.after) (λ ask asks. all_replay g.M.Machine.after g.M.Recorded.IsSound g.M.Recorded.IsAsk g.met.M.Recorded.stays_sound g.M.Recorded.replay g.M.Recorded.written g.met.M.Recorded.replays c.self.inside.machine ask.asks.items c.self.invariant.sound (c.self.invariant.asked ask asks))) c.reopen_idle.ensures.any_moment)

pub returns-in_default-clause-kept : goal.returns-in_default-clause-kept
returns-in_default-clause-kept g c =
    let none : c.self.inside.held ≡ None = search rules in
    on_ok c.reopen_idle.result _ _
    (kept_leads g.F.GroupFile.records g.F.GroupFile.owed g.F.GroupFile.Throughout g.F.GroupFile.weaker g.M.Recorded.replay (g.M.Recorded.fresh c.self.inside.machine) c.self.inside.machine (λ x. x ≡ c.self.inside.machine) c.reopen_idle.new.file
    (found_idle g.F.GroupFile.records g.F.GroupFile.owed g.M.Recorded.replay (g.M.Recorded.fresh c.self.inside.machine) c.self.inside.machine c.self.inside.file c.reopen_idle.new.file c.self.invariant.replays (c.self.invariant.alone none) c.reopen_idle.result c.reopen_idle.ensures.left c.reopen_idle.ensures.err) refl) c.reopen_idle.ensures.kept

pub invariant_of-self-in-Ok : goal.invariant_of-self-in-Ok
invariant_of-self-in-Ok g c =
    free_node g.F.GroupFile.records g.F.GroupFile.is_failed g.F.GroupFile.owed g.F.GroupFile.Throughout g.M.Recorded.fresh g.M.Recorded.replay (written_held g.M.Machine.after g.M.Recorded.written) (AreAsks g.M.Recorded.IsAsk) g.M.Recorded.IsSound is_in_flight None c.reopen_held.new.file c.reopen_held.new.machine refl c.reopen_held.ensures.replays c.reopen_held.ensures.sound c.reopen_held.ensures.leaves c.in-Ok.ensures.free

pub invariant_of-self-in-Err : goal.invariant_of-self-in-Err
invariant_of-self-in-Err g c =
    still_node g.F.GroupFile.records g.F.GroupFile.is_failed g.F.GroupFile.owed g.F.GroupFile.Throughout g.M.Recorded.fresh g.M.Recorded.replay (written_held g.M.Machine.after g.M.Recorded.written) (AreAsks g.M.Recorded.IsAsk) g.M.Recorded.IsSound is_in_flight c.self.inside.held c.self.inside.file c.self.inside.machine c.self.invariant c.reopen_held.new.file c.reopen_held.new.machine c.in-Err.ensures.err c.in-Err.ensures.err_records c.in-Err.ensures.owes_still
    (worked (g.F.GroupFile.is_failed c.reopen_held.new.file) (g.F.GroupFile.is_failed c.self.inside.file) (is_device c.in-Err.fault) c.in-Err.ensures.fails) c.reopen_held.ensures.sound c.reopen_held.ensures.leaves

pub returns-in-Ok-clause-any_moment : goal.returns-in-Ok-clause-any_moment
returns-in-Ok-clause-any_moment g c =
    subst (λ n. g.F.GroupFile.Throughout (LeadsTo g.M.Recorded.replay (g.M.Recorded.fresh n.machine) (λ x. (x ≡ n.machine) ⊎ (n.owed ≡ Some x))) n.file c.reopen_held.new.file) c.self.view_is
    (g.F.GroupFile.weaker (λ rs. (rs ≡ g.F.GroupFile.records c.self.inside.file) ⊎ (g.F.GroupFile.owed c.self.inside.file ≡ Some rs)) (LeadsTo g.M.Recorded.replay (g.M.Recorded.fresh c.self.inside.machine) (λ x. (x ≡ c.self.inside.machine) ⊎ (owed_of (after_held g.M.Machine.after) c.self.inside.machine c.self.inside.held ≡ Some x))) c.self.inside.file c.reopen_held.new.file
    (own_leads g.F.GroupFile.records g.F.GroupFile.is_failed g.F.GroupFile.owed g.F.GroupFile.Throughout g.M.Recorded.fresh g.M.Recorded.replay (written_held g.M.Machine.after g.M.Recorded.written) (AreAsks g.M.Recorded.IsAsk) g.M.Recorded.IsSound is_in_flight c.self.inside.held c.self.inside.file c.self.inside.machine c.self.invariant (after_held g.M.Machine.after) (λ ask asks. all_replay g.M.Machine.after g.M.Recorded.IsSound g.M.Recorded.IsAsk g.met.M.Recorded.stays_sound g.M.Recorded.replay g.M.Recorded.written g.met.M.Recorded.replays c.self.inside.machine ask.asks.items c.self.invariant.sound (c.self.invariant.asked ask asks))) c.reopen_held.ensures.any_moment)

pub returns-in-Err-clause-any_moment : goal.returns-in-Err-clause-any_moment
returns-in-Err-clause-any_moment g c =
    subst (λ n. g.F.GroupFile.Throughout (LeadsTo g.M.Recorded.replay (g.M.Recorded.fresh n.machine) (λ x. (x ≡ n.machine) ⊎ (n.owed ≡ Some x))) n.file c.reopen_held.new.file) c.self.view_is
    (g.F.GroupFile.weaker (λ rs. (rs ≡ g.F.GroupFile.records c.self.inside.file) ⊎ (g.F.GroupFile.owed c.self.inside.file ≡ Some rs)) (LeadsTo g.M.Recorded.replay (g.M.Recorded.fresh c.self.inside.machine) (λ x. (x ≡ c.self.inside.machine) ⊎ (owed_of (after_held g.M.Machine.after) c.self.inside.machine c.self.inside.held ≡ Some x))) c.self.inside.file c.reopen_held.new.file
    (own_leads g.F.GroupFile.records g.F.GroupFile.is_failed g.F.GroupFile.owed g.F.GroupFile.Throughout g.M.Recorded.fresh g.M.Recorded.replay (written_held g.M.Machine.after g.M.Recorded.written) (AreAsks g.M.Recorded.IsAsk) g.M.Recorded.IsSound is_in_flight c.self.inside.held c.self.inside.file c.self.inside.machine c.self.invariant (after_held g.M.Machine.after) (λ ask asks. all_replay g.M.Machine.after g.M.Recorded.IsSound g.M.Recorded.IsAsk g.met.M.Recorded.stays_sound g.M.Recorded.replay g.M.Recorded.written g.met.M.Recorded.replays c.self.inside.machine ask.asks.items c.self.invariant.sound (c.self.invariant.asked ask asks))) c.reopen_held.ensures.any_moment)

pub returns-in-Ok-clause-kept : goal.returns-in-Ok-clause-kept
returns-in-Ok-clause-kept g c =
    kept_leads g.F.GroupFile.records g.F.GroupFile.owed g.F.GroupFile.Throughout g.F.GroupFile.weaker g.M.Recorded.replay (g.M.Recorded.fresh c.reopen_held.new.machine) c.reopen_held.new.machine (λ x. x ≡ c.reopen_held.new.machine) c.reopen_held.new.file c.reopen_held.ensures.replays refl c.in-Ok.ensures.kept
