use Rattle.std.proofs.Common.{rules, ◌≡◌, ◌<◌, ◌≤◌, length, Some, true, false, ap, sym, ◌∙◌, subst}
use Rattle.fr_record_node.specs.Several.{after_all, written_all}
use Rattle.fr_record_node.specs.Replay.{replayed}
use Rattle.fr_compact.proofs.AskLemmas.{all_sound, all_replay, all_fresh}
use Rattle.fr_compact.proofs.NodeLemmas.{replays_more, found_more, found_same, found_idle, left_kept, left_again}
use Rattle.fr_compact.proofs.compact_node.reopening.reopen_held.Goals as goal

pub returns-then-not-held-clause-replays : goal.returns-then-not-held-clause-replays
returns-then-not-held-clause-replays g c =
    let rests : c.args.held.now.is_in_flight ≡ false = search rules in
    found_idle g.F.GroupFile.records g.F.GroupFile.owed g.M.Recorded.replay (g.M.Recorded.fresh c.args.machine.now) c.args.machine.now c.args.file.now c.reopen_idle.new.file c.requires.replays (c.requires.resting rests) c.reopen_idle.result c.reopen_idle.ensures.left c.reopen_idle.ensures.err

pub returns-then-len-before-clause-replays : goal.returns-then-len-before-clause-replays
returns-then-len-before-clause-replays g c =
    let s = c.args.machine.now in
    let asks = c.args.held.now.asks.items in
    let before = g.F.GroupFile.records c.args.file.now in
    let group = written_all g.M.Machine.after g.M.Recorded.written s asks in
    let flies : c.args.held.now.is_in_flight ≡ true = search rules in
    let more : length before < length (g.F.GroupFile.records c.reopen.new.self) = search rules in
    let now = found_more before group (g.F.GroupFile.records c.reopen.new.self) (g.F.GroupFile.owed c.args.file.now) (c.requires.flying flies) c.in-Ok-reopen.ensures.left more in
    let taken : c.take_all.new.machine ≡ after_all g.M.Recorded.kept s asks = c.in-Ok-take_all.ensures.after ∙ ap (λ l. after_all g.M.Recorded.kept s l) c.as_slice.ensures.value in
    let moved : c.settle.new.self ≡ after_all g.M.Machine.after s asks = c.settle.ensures ∙ ap g.M.Recorded.settled taken ∙ g.met.M.Recorded.settles s asks c.requires.sound c.requires.asked in
    let fresh : g.M.Recorded.fresh c.settle.new.self ≡ g.M.Recorded.fresh s = ap g.M.Recorded.fresh moved ∙ all_fresh g.M.Machine.after g.M.Recorded.fresh g.met.M.Recorded.same_fresh s asks in
    let goes = all_replay g.M.Machine.after g.M.Recorded.IsSound g.M.Recorded.IsAsk g.met.M.Recorded.stays_sound g.M.Recorded.replay g.M.Recorded.written g.met.M.Recorded.replays s asks c.requires.sound c.requires.asked in
    ap (λ f. replayed g.M.Recorded.replay (Some f) (g.F.GroupFile.records c.reopen.new.self)) fresh
    ∙ ap (λ rs. replayed g.M.Recorded.replay (Some (g.M.Recorded.fresh s)) rs) now
    ∙ replays_more g.M.Recorded.replay (g.M.Recorded.fresh s) before s c.requires.replays group (after_all g.M.Machine.after s asks) goes
    ∙ ap (λ x. Some x) (sym moved)

pub returns-then-len-before-clause-sound : goal.returns-then-len-before-clause-sound
returns-then-len-before-clause-sound g c =
    let s = c.args.machine.now in
    let asks = c.args.held.now.asks.items in
    let taken : c.take_all.new.machine ≡ after_all g.M.Recorded.kept s asks = c.in-Ok-take_all.ensures.after ∙ ap (λ l. after_all g.M.Recorded.kept s l) c.as_slice.ensures.value in
    let moved : c.settle.new.self ≡ after_all g.M.Machine.after s asks = c.settle.ensures ∙ ap g.M.Recorded.settled taken ∙ g.met.M.Recorded.settles s asks c.requires.sound c.requires.asked in
    subst g.M.Recorded.IsSound (sym moved) (all_sound g.M.Machine.after g.M.Recorded.IsSound g.M.Recorded.IsAsk g.met.M.Recorded.stays_sound s asks c.requires.sound c.requires.asked)

pub returns-then-len-before-clause-leaves : goal.returns-then-len-before-clause-leaves
returns-then-len-before-clause-leaves g c = left_kept g.F.GroupFile.records g.F.GroupFile.owed g.F.GroupFile.Throughout g.F.GroupFile.weaker c.reopen.new.self c.in-Ok-reopen.ensures.kept

pub returns-else-len-before-clause-replays : goal.returns-else-len-before-clause-replays
returns-else-len-before-clause-replays g c =
    let s = c.args.machine.now in
    let before = g.F.GroupFile.records c.args.file.now in
    let group = written_all g.M.Machine.after g.M.Recorded.written s c.args.held.now.asks.items in
    let flies : c.args.held.now.is_in_flight ≡ true = search rules in
    let less : length (g.F.GroupFile.records c.reopen.new.self) ≤ length before = search rules in
    let now = found_same before group (g.F.GroupFile.records c.reopen.new.self) (g.F.GroupFile.owed c.args.file.now) (c.requires.flying flies) c.in-Ok-reopen.ensures.left less in
    let back : c.go_back-in-Ok-reopen.new.self ≡ s = search rules in
    ap (λ m. replayed g.M.Recorded.replay (Some (g.M.Recorded.fresh m)) (g.F.GroupFile.records c.reopen.new.self)) back
    ∙ ap (λ rs. replayed g.M.Recorded.replay (Some (g.M.Recorded.fresh s)) rs) now
    ∙ c.requires.replays ∙ ap (λ x. Some x) (sym back)

pub returns-else-len-before-clause-leaves : goal.returns-else-len-before-clause-leaves
returns-else-len-before-clause-leaves g c = left_kept g.F.GroupFile.records g.F.GroupFile.owed g.F.GroupFile.Throughout g.F.GroupFile.weaker c.reopen.new.self c.in-Ok-reopen.ensures.kept

pub returns-in-Err-reopen-clause-leaves : goal.returns-in-Err-reopen-clause-leaves
returns-in-Err-reopen-clause-leaves g c =
    left_again g.F.GroupFile.records g.F.GroupFile.owed g.F.GroupFile.Throughout g.F.GroupFile.weaker g.F.GroupFile.ends c.args.file.now c.reopen.new.self c.in-Err-reopen.ensures.err c.in-Err-reopen.ensures.owes_still c.reopen.ensures.any_moment
