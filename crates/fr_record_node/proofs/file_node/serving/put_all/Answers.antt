use Rattle.std.proofs.Common.{◌≡◌, ◌++◌, Some, sym, ap, ◌∙◌, subst}
use Rattle.fr_record.specs.Moments.{Throughout}
use Rattle.fr_record.specs.Group.{records_of}
use Rattle.fr_record_node.specs.Node.{InFlight}
use Rattle.fr_record_node.specs.Several.{after_all, written_all}
use Rattle.fr_record_node.specs.Replay.{replayed}
use Rattle.fr_record_node.proofs.Lemmas.{at_last, unmoved, moved, replays_more}
use Rattle.fr_record_node.proofs.SeveralLemmas.{all_sound, all_replay, all_fresh}
use Rattle.fr_record_node.proofs.file_node.serving.put_all.Goals as goal

pub returns-in_default-clause-any_moment : goal.returns-in_default-clause-any_moment
returns-in_default-clause-any_moment g c =
    unmoved g.D.Device.Led g.D.Device.disk g.M.Recorded.replay (g.M.Recorded.fresh c.args.machine.now) c.args.machine.now (after_all g.M.Machine.after c.args.machine.now c.args.asks.now) c.args.file.now.records c.requires.replays
    c.left_law.ensures.at_rest c.args.file.now.device (c.is_failed-is_failed.ensures.kept c.requires.works)

pub returns-in_default-take_all-clause-any_moment : goal.returns-in_default-take_all-clause-any_moment
returns-in_default-take_all-clause-any_moment g c =
    unmoved g.D.Device.Led g.D.Device.disk g.M.Recorded.replay (g.M.Recorded.fresh c.args.machine.now) c.args.machine.now (after_all g.M.Machine.after c.args.machine.now c.args.asks.now) c.args.file.now.records c.requires.replays
    c.left_law.ensures.at_rest c.args.file.now.device (c.is_failed-is_failed.ensures.kept c.requires.works)

pub returns-in-Ok-put_group-clause-replays : goal.returns-in-Ok-put_group-clause-replays
returns-in-Ok-put_group-clause-replays g c =
    let m = c.args.machine.now in
    let asks = c.args.asks.now in
    let before = c.args.file.now.records in
    let within = c.in-Ok-take_all.ensures.asked in
    let is : c.settle.new.self ≡ after_all g.M.Machine.after m asks = c.settle.ensures ∙ ap g.M.Recorded.settled c.in-Ok-take_all.ensures.after ∙ g.met.M.Recorded.settles m asks c.requires.sound within in
    let records : c.put_group.new.file.records ≡ before ++ written_all g.M.Machine.after g.M.Recorded.written m asks =
    c.in-Ok-put_group.ensures.ok ∙ ap (λ l. before ++ records_of l) c.as_slice.ensures.value ∙ ap (λ l. before ++ l) c.in-Ok-take_all.ensures.records in
    ap (λ f. replayed g.M.Recorded.replay (Some f) c.put_group.new.file.records) (ap g.M.Recorded.fresh is ∙ all_fresh g.M.Machine.after g.M.Recorded.fresh g.met.M.Recorded.same_fresh m asks)
    ∙ ap (λ rs. replayed g.M.Recorded.replay (Some (g.M.Recorded.fresh m)) rs) records
    ∙ replays_more g.M.Recorded.replay (g.M.Recorded.fresh m) before m c.requires.replays (written_all g.M.Machine.after g.M.Recorded.written m asks) (after_all g.M.Machine.after m asks)
    (all_replay g.M.Machine.after g.M.Recorded.IsSound g.M.Recorded.IsAsk g.met.M.Recorded.stays_sound g.M.Recorded.replay g.M.Recorded.written g.met.M.Recorded.replays m asks c.requires.sound within)
    ∙ ap (λ x. Some x) (sym is)

pub returns-in-Ok-put_group-clause-sound : goal.returns-in-Ok-put_group-clause-sound
returns-in-Ok-put_group-clause-sound g c =
    let m = c.args.machine.now in
    let asks = c.args.asks.now in
    let within = c.in-Ok-take_all.ensures.asked in
    let is : c.settle.new.self ≡ after_all g.M.Machine.after m asks = c.settle.ensures ∙ ap g.M.Recorded.settled c.in-Ok-take_all.ensures.after ∙ g.met.M.Recorded.settles m asks c.requires.sound within in
    subst g.M.Recorded.IsSound (sym is) (all_sound g.M.Machine.after g.M.Recorded.IsSound g.M.Recorded.IsAsk g.met.M.Recorded.stays_sound m asks c.requires.sound within)

pub returns-in-Ok-put_group-clause-any_moment : goal.returns-in-Ok-put_group-clause-any_moment
returns-in-Ok-put_group-clause-any_moment g c =
    let m = c.args.machine.now in
    let asks = c.args.asks.now in
    let before = c.args.file.now.records in
    let group = written_all g.M.Machine.after g.M.Recorded.written m asks in
    let is : records_of c.as_slice.result.now ≡ group = ap records_of c.as_slice.ensures.value ∙ c.in-Ok-take_all.ensures.records in
    moved g.D.Device.Led g.D.Device.disk g.M.Recorded.replay (g.M.Recorded.fresh m) m (after_all g.M.Machine.after m asks) before c.requires.replays c.left_law.ensures.whole_or_not c.left_law.ensures.at_rest group
    (all_replay g.M.Machine.after g.M.Recorded.IsSound g.M.Recorded.IsAsk g.met.M.Recorded.stays_sound g.M.Recorded.replay g.M.Recorded.written g.met.M.Recorded.replays m asks c.requires.sound c.in-Ok-take_all.ensures.asked)
    c.args.file.now.device c.put_group.new.file.device (subst (λ l. Throughout g.D.Device.Led g.D.Device.disk (InFlight before l) c.args.file.now.device c.put_group.new.file.device) is c.put_group.ensures.any_moment)

pub returns-in-Err-clause-left : goal.returns-in-Err-clause-left
returns-in-Err-clause-left g c e =
    let group = written_all g.M.Machine.after g.M.Recorded.written c.args.machine.now c.args.asks.now in
    let before = c.args.file.now.records in
    let is : records_of c.as_slice.result.now ≡ group = ap records_of c.as_slice.ensures.value ∙ c.in-Ok-take_all.ensures.records in
    at_last g.D.Device.Led g.D.Device.disk (InFlight before group) c.args.file.now.device c.put_group.new.file.device (subst (λ l. Throughout g.D.Device.Led g.D.Device.disk (InFlight before l) c.args.file.now.device c.put_group.new.file.device) is c.put_group.ensures.any_moment)

pub returns-in-Err-clause-any_moment : goal.returns-in-Err-clause-any_moment
returns-in-Err-clause-any_moment g c =
    let m = c.args.machine.now in
    let asks = c.args.asks.now in
    let before = c.args.file.now.records in
    let group = written_all g.M.Machine.after g.M.Recorded.written m asks in
    let is : records_of c.as_slice.result.now ≡ group = ap records_of c.as_slice.ensures.value ∙ c.in-Ok-take_all.ensures.records in
    moved g.D.Device.Led g.D.Device.disk g.M.Recorded.replay (g.M.Recorded.fresh m) m (after_all g.M.Machine.after m asks) before c.requires.replays c.left_law.ensures.whole_or_not c.left_law.ensures.at_rest group
    (all_replay g.M.Machine.after g.M.Recorded.IsSound g.M.Recorded.IsAsk g.met.M.Recorded.stays_sound g.M.Recorded.replay g.M.Recorded.written g.met.M.Recorded.replays m asks c.requires.sound c.in-Ok-take_all.ensures.asked)
    c.args.file.now.device c.put_group.new.file.device (subst (λ l. Throughout g.D.Device.Led g.D.Device.disk (InFlight before l) c.args.file.now.device c.put_group.new.file.device) is c.put_group.ensures.any_moment)
