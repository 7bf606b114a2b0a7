use Rattle.std.proofs.Common.{◌≡◌, ◌⊎◌, inl, inr, refl, Some, Err, [], ◌++◌, sym, ap, ◌∙◌, subst}
use Rattle.fr_record.specs.declared.fault.RecordFault.TheVariants as record_fault
use Rattle.fr_segment.specs.Group.{records_of}
use Rattle.fr_segment.specs.Room.{group_size}
use Rattle.fr_record_node.specs.Several.{after_all, written_all}
use Rattle.fr_record_node.specs.Replay.{replayed}
use Rattle.fr_compact.proofs.AskLemmas.{all_sound, all_replay, all_fresh}
use Rattle.fr_compact.proofs.NodeLemmas.{has_spare, replays_more, no_group, kept_leads, moved_leads, left_kept, left_refused}
use Rattle.fr_compact.proofs.compact_node.serving.put_all.Goals as goal

pub returns-in_default-clause-any_moment : goal.returns-in_default-clause-any_moment
returns-in_default-clause-any_moment g c =
    let m = c.args.machine.now in
    kept_leads g.F.GroupFile.records g.F.GroupFile.owed g.F.GroupFile.Throughout g.F.GroupFile.weaker g.M.Recorded.replay (g.M.Recorded.fresh m) m (λ x. (x ≡ m) ⊎ (x ≡ after_all g.M.Machine.after m c.args.asks.now)) c.args.file.now c.requires.replays (inl refl)
    (c.is_failed-works.ensures.kept c.requires.works)

pub returns-in_default-take_all-clause-any_moment : goal.returns-in_default-take_all-clause-any_moment
returns-in_default-take_all-clause-any_moment g c =
    let m = c.args.machine.now in
    kept_leads g.F.GroupFile.records g.F.GroupFile.owed g.F.GroupFile.Throughout g.F.GroupFile.weaker g.M.Recorded.replay (g.M.Recorded.fresh m) m (λ x. (x ≡ m) ⊎ (x ≡ after_all g.M.Machine.after m c.args.asks.now)) c.args.file.now c.requires.replays (inl refl)
    (c.is_failed-works.ensures.kept c.requires.works)

pub returns-in-Ok-append_group-clause-replays : goal.returns-in-Ok-append_group-clause-replays
returns-in-Ok-append_group-clause-replays g c =
    let m = c.args.machine.now in
    let asks = c.args.asks.now in
    let before = g.F.GroupFile.records c.args.file.now in
    let group = written_all g.M.Machine.after g.M.Recorded.written m asks in
    let within = c.in-Ok-take_all.ensures.asked in
    let is : records_of c.as_slice.result.now ≡ group = ap records_of c.as_slice.ensures.value ∙ c.in-Ok-take_all.ensures.records in
    let moved : c.settle.new.self ≡ after_all g.M.Machine.after m asks = c.settle.ensures ∙ ap g.M.Recorded.settled c.in-Ok-take_all.ensures.after ∙ g.met.M.Recorded.settles m asks c.requires.sound within in
    let now : g.F.GroupFile.records c.append_group.new.self ≡ before ++ group = c.in-Ok-append_group.ensures.ok ∙ ap (λ l. before ++ l) is in
    ap (λ f. replayed g.M.Recorded.replay (Some f) (g.F.GroupFile.records c.append_group.new.self)) (ap g.M.Recorded.fresh moved ∙ all_fresh g.M.Machine.after g.M.Recorded.fresh g.met.M.Recorded.same_fresh m asks)
    ∙ ap (λ l. replayed g.M.Recorded.replay (Some (g.M.Recorded.fresh m)) l) now
    ∙ replays_more g.M.Recorded.replay (g.M.Recorded.fresh m) before m c.requires.replays group (after_all g.M.Machine.after m asks)
    (all_replay g.M.Machine.after g.M.Recorded.IsSound g.M.Recorded.IsAsk g.met.M.Recorded.stays_sound g.M.Recorded.replay g.M.Recorded.written g.met.M.Recorded.replays m asks c.requires.sound within)
    ∙ ap (λ x. Some x) (sym moved)

pub returns-in-Ok-append_group-clause-sound : goal.returns-in-Ok-append_group-clause-sound
returns-in-Ok-append_group-clause-sound g c =
    let m = c.args.machine.now in
    let asks = c.args.asks.now in
    let within = c.in-Ok-take_all.ensures.asked in
    let moved : c.settle.new.self ≡ after_all g.M.Machine.after m asks = c.settle.ensures ∙ ap g.M.Recorded.settled c.in-Ok-take_all.ensures.after ∙ g.met.M.Recorded.settles m asks c.requires.sound within in
    subst g.M.Recorded.IsSound (sym moved) (all_sound g.M.Machine.after g.M.Recorded.IsSound g.M.Recorded.IsAsk g.met.M.Recorded.stays_sound m asks c.requires.sound within)

pub returns-in-Ok-append_group-clause-spare : goal.returns-in-Ok-append_group-clause-spare
returns-in-Ok-append_group-clause-spare g c changes =
    let group = written_all g.M.Machine.after g.M.Recorded.written c.args.machine.now c.args.asks.now in
    let is : records_of c.as_slice.result.now ≡ group = ap records_of c.as_slice.ensures.value ∙ c.in-Ok-take_all.ensures.records in
    let some : c.as_slice.result.now ≡ [] → ⊥ = λ e. changes (sym is ∙ ap records_of e) in
    has_spare (g.F.GroupFile.room c.args.file.now) (g.F.GroupFile.used c.args.file.now) (group_size (records_of c.as_slice.result.now)) c.args.spare (g.F.GroupFile.room c.append_group.new.self) (g.F.GroupFile.used c.append_group.new.self) c.append_group.ensures.sizes.0 c.in-Ok-append_group.ensures.used
    (λ less. let full = c.append_group.ensures.full.1 (c.requires.works, some, less) in let ok = c.in-Ok-append_group.is in absurd (cc (full, ok)))

pub returns-in-Ok-append_group-clause-still : goal.returns-in-Ok-append_group-clause-still
returns-in-Ok-append_group-clause-still g c none =
    let is = ap records_of c.as_slice.ensures.value ∙ c.in-Ok-take_all.ensures.records in
    (c.append_group.ensures.none (no_group c.as_slice.result.now (is ∙ none)) c.requires.works).1

pub returns-in-Ok-append_group-clause-leaves : goal.returns-in-Ok-append_group-clause-leaves
returns-in-Ok-append_group-clause-leaves g c =
    left_kept g.F.GroupFile.records g.F.GroupFile.owed g.F.GroupFile.Throughout g.F.GroupFile.weaker c.append_group.new.self c.in-Ok-append_group.ensures.kept

pub returns-in-Ok-append_group-clause-any_moment : goal.returns-in-Ok-append_group-clause-any_moment
returns-in-Ok-append_group-clause-any_moment g c =
    let m = c.args.machine.now in
    let asks = c.args.asks.now in
    let before = g.F.GroupFile.records c.args.file.now in
    let group = written_all g.M.Machine.after g.M.Recorded.written m asks in
    let n = after_all g.M.Machine.after m asks in
    let is : records_of c.as_slice.result.now ≡ group = ap records_of c.as_slice.ensures.value ∙ c.in-Ok-take_all.ensures.records in
    moved_leads g.F.GroupFile.records g.F.GroupFile.owed g.F.GroupFile.Throughout g.F.GroupFile.weaker g.M.Recorded.replay (g.M.Recorded.fresh m) m n (λ x. (x ≡ m) ⊎ (x ≡ n)) c.args.file.now c.append_group.new.self (before ++ records_of c.as_slice.result.now) c.requires.replays (inl refl)
    (ap (λ l. replayed g.M.Recorded.replay (Some (g.M.Recorded.fresh m)) (before ++ l)) is
    ∙ replays_more g.M.Recorded.replay (g.M.Recorded.fresh m) before m c.requires.replays group n
    (all_replay g.M.Machine.after g.M.Recorded.IsSound g.M.Recorded.IsAsk g.met.M.Recorded.stays_sound g.M.Recorded.replay g.M.Recorded.written g.met.M.Recorded.replays m asks c.requires.sound c.in-Ok-take_all.ensures.asked))
    (inr refl) (c.append_group.ensures.any_moment c.requires.works)

pub returns-in-Err-clause-still : goal.returns-in-Err-clause-still
returns-in-Err-clause-still g c none =
    let is = ap records_of c.as_slice.ensures.value ∙ c.in-Ok-take_all.ensures.records in
    (c.append_group.ensures.none (no_group c.as_slice.result.now (is ∙ none)) c.requires.works).1

pub returns-in-Err-clause-leaves : goal.returns-in-Err-clause-leaves
returns-in-Err-clause-leaves g c =
    let works = c.requires.works in
    let failed : c.append_group.result ≡ Err record_fault.Failed → ⊥ = λ e. let fails = c.append_group.ensures.failed.0 e in cc (fails, works) in
    left_refused g.F.GroupFile.records g.F.GroupFile.owed g.F.GroupFile.Throughout g.F.GroupFile.weaker g.F.GroupFile.ends c.args.file.now c.append_group.new.self c.in-Err.ensures.err c.in-Err.fault
    (λ e. failed (c.in-Err.is ∙ ap (λ f. Err f) e)) (λ e. c.append_group.ensures.never_broken (c.in-Err.is ∙ ap (λ f. Err f) e))
    (left_kept g.F.GroupFile.records g.F.GroupFile.owed g.F.GroupFile.Throughout g.F.GroupFile.weaker c.args.file.now (c.is_failed-works.ensures.kept works))
    (λ e. c.append_group.ensures.untouched (elim e [ inl x ↦ inl (c.in-Err.is ∙ ap (λ f. Err f) x) | inr x ↦ inr (c.in-Err.is ∙ ap (λ f. Err f) x) ]))
    (g.F.GroupFile.records c.args.file.now ++ records_of c.as_slice.result.now) (λ e. c.append_group.ensures.owes (c.in-Err.is ∙ ap (λ f. Err f) e)) (c.append_group.ensures.any_moment works)

pub returns-in-Err-clause-any_moment : goal.returns-in-Err-clause-any_moment
returns-in-Err-clause-any_moment g c =
    let m = c.args.machine.now in
    let asks = c.args.asks.now in
    let before = g.F.GroupFile.records c.args.file.now in
    let group = written_all g.M.Machine.after g.M.Recorded.written m asks in
    let n = after_all g.M.Machine.after m asks in
    let is : records_of c.as_slice.result.now ≡ group = ap records_of c.as_slice.ensures.value ∙ c.in-Ok-take_all.ensures.records in
    moved_leads g.F.GroupFile.records g.F.GroupFile.owed g.F.GroupFile.Throughout g.F.GroupFile.weaker g.M.Recorded.replay (g.M.Recorded.fresh m) m n (λ x. (x ≡ m) ⊎ (x ≡ n)) c.args.file.now c.append_group.new.self (before ++ records_of c.as_slice.result.now) c.requires.replays (inl refl)
    (ap (λ l. replayed g.M.Recorded.replay (Some (g.M.Recorded.fresh m)) (before ++ l)) is
    ∙ replays_more g.M.Recorded.replay (g.M.Recorded.fresh m) before m c.requires.replays group n
    (all_replay g.M.Machine.after g.M.Recorded.IsSound g.M.Recorded.IsAsk g.met.M.Recorded.stays_sound g.M.Recorded.replay g.M.Recorded.written g.met.M.Recorded.replays m asks c.requires.sound c.in-Ok-take_all.ensures.asked))
    (inr refl) (c.append_group.ensures.any_moment c.requires.works)
