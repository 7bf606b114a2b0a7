use Rattle.std.proofs.Common.{◌≡◌, ◌⊎◌, inl, Some, refl, ap, ◌∙◌}
use Rattle.fr_record_node.specs.Several.{after_all}
use Rattle.fr_record_node.specs.Replay.{replayed}
use Rattle.fr_compact.specs.Leading.{LeadsTo}
use Rattle.fr_compact.proofs.NodeLemmas.{moved_leads}
use Rattle.fr_compact.proofs.compact_node.serving.put_behind_state.Goals as goal

pub put_all-requires-clause-replays : goal.put_all-requires-clause-replays
put_all-requires-clause-replays g c =
    let m = c.args.machine.now in
    let spelled = g.M.Compact.spelled m in
    let leads_back : replayed g.M.Recorded.replay (Some (g.M.Recorded.fresh m)) spelled ≡ Some m = c.leads_back.ensures m c.requires.sound in
    ap (λ l. replayed g.M.Recorded.replay (Some (g.M.Recorded.fresh m)) l) c.in-Ok.ensures.ok ∙ leads_back

pub returns-in-Err-clause-any_moment : goal.returns-in-Err-clause-any_moment
returns-in-Err-clause-any_moment g c =
    let m = c.args.machine.now in
    let spelled = g.M.Compact.spelled m in
    let leads_back : replayed g.M.Recorded.replay (Some (g.M.Recorded.fresh m)) spelled ≡ Some m = c.leads_back.ensures m c.requires.sound in
    moved_leads g.F.GroupFile.records g.F.GroupFile.owed g.F.GroupFile.Throughout g.F.GroupFile.weaker g.M.Recorded.replay (g.M.Recorded.fresh m) m m (λ x. (x ≡ m) ⊎ (x ≡ after_all g.M.Machine.after m c.args.asks.now)) c.args.file.now c.make_room.new.file spelled c.requires.replays (inl refl) leads_back (inl refl) c.make_room.ensures.any_moment

pub returns-in-Ok-put_all-clause-any_moment : goal.returns-in-Ok-put_all-clause-any_moment
returns-in-Ok-put_all-clause-any_moment g c =
    let m = c.args.machine.now in
    let spelled = g.M.Compact.spelled m in
    let leads_back : replayed g.M.Recorded.replay (Some (g.M.Recorded.fresh m)) spelled ≡ Some m = c.leads_back.ensures m c.requires.sound in
    g.F.GroupFile.joined (LeadsTo g.M.Recorded.replay (g.M.Recorded.fresh m) (λ x. (x ≡ m) ⊎ (x ≡ after_all g.M.Machine.after m c.args.asks.now))) c.args.file.now c.make_room.new.file c.put_all.new.file
    (moved_leads g.F.GroupFile.records g.F.GroupFile.owed g.F.GroupFile.Throughout g.F.GroupFile.weaker g.M.Recorded.replay (g.M.Recorded.fresh m) m m (λ x. (x ≡ m) ⊎ (x ≡ after_all g.M.Machine.after m c.args.asks.now)) c.args.file.now c.make_room.new.file spelled c.requires.replays (inl refl) leads_back (inl refl) c.make_room.ensures.any_moment)
    c.put_all.ensures.any_moment

pub returns-in-Err-put_all-clause-any_moment : goal.returns-in-Err-put_all-clause-any_moment
returns-in-Err-put_all-clause-any_moment g c =
    let m = c.args.machine.now in
    let spelled = g.M.Compact.spelled m in
    let leads_back : replayed g.M.Recorded.replay (Some (g.M.Recorded.fresh m)) spelled ≡ Some m = c.leads_back.ensures m c.requires.sound in
    g.F.GroupFile.joined (LeadsTo g.M.Recorded.replay (g.M.Recorded.fresh m) (λ x. (x ≡ m) ⊎ (x ≡ after_all g.M.Machine.after m c.args.asks.now))) c.args.file.now c.make_room.new.file c.put_all.new.file
    (moved_leads g.F.GroupFile.records g.F.GroupFile.owed g.F.GroupFile.Throughout g.F.GroupFile.weaker g.M.Recorded.replay (g.M.Recorded.fresh m) m m (λ x. (x ≡ m) ⊎ (x ≡ after_all g.M.Machine.after m c.args.asks.now)) c.args.file.now c.make_room.new.file spelled c.requires.replays (inl refl) leads_back (inl refl) c.make_room.ensures.any_moment)
    c.put_all.ensures.any_moment
