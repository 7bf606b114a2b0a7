use Rattle.std.proofs.Common.{rules, ◌≡◌, ◌<◌, ◌≤◌, length, Some, Err, ap, sym, ◌∙◌, subst, inl, inr}
use Rattle.fr_record.specs.declared.fault.RecordFault.TheVariants.{Broken}
use Rattle.fr_record_node.specs.Several.{after_all, written_all}
use Rattle.fr_record_node.specs.Replay.{replayed}
use Rattle.fr_record_node.proofs.SeveralLemmas.{all_sound, all_replay, all_fresh}
use Rattle.fr_record_node.proofs.Lemmas.{content_left, reopened, flight_stands, found_more, found_same, replays_more}
use Rattle.fr_record_node.proofs.file_node.reopening.reopen_held.Goals as goal

pub returns-then-len-before-clause-replays : goal.returns-then-len-before-clause-replays
returns-then-len-before-clause-replays g c =
    let s = c.args.machine.now in
    let asks = c.args.asks.now in
    let before = c.args.file.now.records in
    let disk = g.D.Device.disk c.args.file.now.device in
    let group = written_all g.M.Machine.after g.M.Recorded.written s asks in
    let more : length before < length c.reopen.new.self.records = search rules in
    let now = found_more c.left_law.ensures.one_list c.left_law.ensures.whole_or_not c.left_law.ensures.at_rest before group c.reopen.new.self.records disk.content
    (c.requires.owed disk.content (content_left disk)) c.in-Ok-reopen.ensures.records more in
    let moved : c.settle.new.self ≡ after_all g.M.Machine.after s asks = c.settle.ensures ∙ ap g.M.Recorded.settled c.in-Ok-take_all.ensures.after ∙ g.met.M.Recorded.settles s asks c.requires.sound c.requires.asked in
    let fresh : g.M.Recorded.fresh c.settle.new.self ≡ g.M.Recorded.fresh s = ap g.M.Recorded.fresh moved ∙ all_fresh g.M.Machine.after g.M.Recorded.fresh g.met.M.Recorded.same_fresh s asks in
    let goes = all_replay g.M.Machine.after g.M.Recorded.IsSound g.M.Recorded.IsAsk g.met.M.Recorded.stays_sound g.M.Recorded.replay g.M.Recorded.written g.met.M.Recorded.replays s asks c.requires.sound c.requires.asked in
    ap (λ f. replayed g.M.Recorded.replay (Some f) c.reopen.new.self.records) fresh
    ∙ ap (λ rs. replayed g.M.Recorded.replay (Some (g.M.Recorded.fresh s)) rs) now
    ∙ replays_more g.M.Recorded.replay (g.M.Recorded.fresh s) before s c.requires.replays group (after_all g.M.Machine.after s asks) goes
    ∙ ap (λ x. Some x) (sym moved)

pub returns-then-len-before-clause-sound : goal.returns-then-len-before-clause-sound
returns-then-len-before-clause-sound g c =
    let s = c.args.machine.now in
    let asks = c.args.asks.now in
    let moved : c.settle.new.self ≡ after_all g.M.Machine.after s asks = c.settle.ensures ∙ ap g.M.Recorded.settled c.in-Ok-take_all.ensures.after ∙ g.met.M.Recorded.settles s asks c.requires.sound c.requires.asked in
    subst g.M.Recorded.IsSound (sym moved) (all_sound g.M.Machine.after g.M.Recorded.IsSound g.M.Recorded.IsAsk g.met.M.Recorded.stays_sound s asks c.requires.sound c.requires.asked)

pub returns-then-len-before-clause-any_moment : goal.returns-then-len-before-clause-any_moment
returns-then-len-before-clause-any_moment g c =
    reopened g.D.Device.Led g.D.Device.disk c.args.file.now.device c.reopen.new.self.device c.args.file.now.records (written_all g.M.Machine.after g.M.Recorded.written c.args.machine.now c.args.asks.now)
    (c.reopen.ensures.any_moment c.args.file.now.records) (c.reopen.ensures.at_rest c.args.file.now.records) c.requires.owed

pub returns-else-len-before-clause-replays : goal.returns-else-len-before-clause-replays
returns-else-len-before-clause-replays g c =
    let s = c.args.machine.now in
    let asks = c.args.asks.now in
    let before = c.args.file.now.records in
    let disk = g.D.Device.disk c.args.file.now.device in
    let group = written_all g.M.Machine.after g.M.Recorded.written s asks in
    let less : length c.reopen.new.self.records ≤ length before = search rules in
    let now = found_same c.left_law.ensures.one_list c.left_law.ensures.whole_or_not c.left_law.ensures.at_rest before group c.reopen.new.self.records disk.content
    (c.requires.owed disk.content (content_left disk)) c.in-Ok-reopen.ensures.records less in
    let back : c.go_back-in-Ok-reopen.new.self ≡ s = search rules in
    ap (λ m. replayed g.M.Recorded.replay (Some (g.M.Recorded.fresh m)) c.reopen.new.self.records) back
    ∙ ap (λ rs. replayed g.M.Recorded.replay (Some (g.M.Recorded.fresh s)) rs) now
    ∙ c.requires.replays ∙ ap (λ x. Some x) (sym back)

pub returns-else-len-before-clause-any_moment : goal.returns-else-len-before-clause-any_moment
returns-else-len-before-clause-any_moment g c =
    reopened g.D.Device.Led g.D.Device.disk c.args.file.now.device c.reopen.new.self.device c.args.file.now.records (written_all g.M.Machine.after g.M.Recorded.written c.args.machine.now c.args.asks.now)
    (c.reopen.ensures.any_moment c.args.file.now.records) (c.reopen.ensures.at_rest c.args.file.now.records) c.requires.owed

pub returns-in-Err-reopen-clause-any_moment : goal.returns-in-Err-reopen-clause-any_moment
returns-in-Err-reopen-clause-any_moment g c =
    reopened g.D.Device.Led g.D.Device.disk c.args.file.now.device c.reopen.new.self.device c.args.file.now.records (written_all g.M.Machine.after g.M.Recorded.written c.args.machine.now c.args.asks.now)
    (c.reopen.ensures.any_moment c.args.file.now.records) (c.reopen.ensures.at_rest c.args.file.now.records) c.requires.owed

pub returns-in-Err-reopen-clause-trouble : goal.returns-in-Err-reopen-clause-trouble
returns-in-Err-reopen-clause-trouble g c =
    let disk = g.D.Device.disk c.args.file.now.device in
    let before = c.args.file.now.records in
    let group = written_all g.M.Machine.after g.M.Recorded.written c.args.machine.now c.args.asks.now in
    let never : c.reopen.result ≡ Err Broken → ⊥ = λ e. elim (flight_stands c.left_law.ensures.one_list c.left_law.ensures.whole_or_not c.left_law.ensures.at_rest before group disk.content (c.requires.owed disk.content (content_left disk))) [
      | inl stands ↦ c.reopen.ensures.broken e before stands
      | inr stands ↦ c.reopen.ensures.broken e _ stands
    ] in
    search rules
