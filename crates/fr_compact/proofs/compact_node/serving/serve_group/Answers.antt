use Rattle.std.proofs.Common.{◌≡◌, ◌⊎◌, ◌+◌, ◌-◌, ◌^◌, ◌++◌, min, true, false, Err, Some, IfOk, OnOk, OnErr, [], ap, ◌∙◌, subst}
use Rattle.std.specs.Prelude.{IfErr, All}
use Rattle.fr_base.specs.declared.node.NodeFault.TheVariants as node
use Rattle.fr_record_node.specs.Several.{after_all, told_all, written_all}
use Rattle.fr_compact.specs.Leading.{LeadsTo}
use Rattle.fr_compact.specs.Room.{IsNoHelp, HasSpare}
use Rattle.fr_compact.proofs.NodeLemmas.{on_if_err, at_err}
use Rattle.fr_compact.proofs.compact_node.serving.serve_group.Goals as goal

pub returns-in-Err-Full-clause-told : goal.returns-in-Err-Full-clause-told
returns-in-Err-Full-clause-told g c =
    let full = c.in-Err-Full.is ∙ ap (λ f. Err f) c.in-Err-Full.field-0-is in
    let same_file : c.put_all.new.file ≡ c.args.file.now = c.put_all.ensures.untouched full in
    let same_machine : c.put_all.new.machine ≡ c.args.machine.now = c.in-Err-Full.ensures.err in
    subst (λ m. IfOk c.put_behind_state.result (λ tells. tells.items ≡ told_all g.M.Machine.after g.M.Machine.told m c.args.asks.now)) same_machine c.put_behind_state.ensures.told

pub returns-in-Err-Full-clause-after : goal.returns-in-Err-Full-clause-after
returns-in-Err-Full-clause-after g c =
    let full = c.in-Err-Full.is ∙ ap (λ f. Err f) c.in-Err-Full.field-0-is in
    let same_file : c.put_all.new.file ≡ c.args.file.now = c.put_all.ensures.untouched full in
    let same_machine : c.put_all.new.machine ≡ c.args.machine.now = c.in-Err-Full.ensures.err in
    subst (λ m. OnOk c.put_behind_state.result (c.put_behind_state.new.machine ≡ after_all g.M.Machine.after m c.args.asks.now)) same_machine c.put_behind_state.ensures.after

pub returns-in-Err-Full-clause-spare : goal.returns-in-Err-Full-clause-spare
returns-in-Err-Full-clause-spare g c =
    let full = c.in-Err-Full.is ∙ ap (λ f. Err f) c.in-Err-Full.field-0-is in
    let same_machine : c.put_all.new.machine ≡ c.args.machine.now = c.in-Err-Full.ensures.err in
    subst (λ m. OnOk c.put_behind_state.result ((written_all g.M.Machine.after g.M.Recorded.written m c.args.asks.now ≡ [] → ⊥) → HasSpare g.F.GroupFile.room g.F.GroupFile.used c.put_behind_state.new.file c.args.spare)) same_machine c.put_behind_state.ensures.spare

pub returns-in-Err-Full-clause-err : goal.returns-in-Err-Full-clause-err
returns-in-Err-Full-clause-err g c =
    let full = c.in-Err-Full.is ∙ ap (λ f. Err f) c.in-Err-Full.field-0-is in
    let same_file : c.put_all.new.file ≡ c.args.file.now = c.put_all.ensures.untouched full in
    let same_machine : c.put_all.new.machine ≡ c.args.machine.now = c.in-Err-Full.ensures.err in
    subst (λ m. OnErr c.put_behind_state.result (c.put_behind_state.new.machine ≡ m)) same_machine c.put_behind_state.ensures.err

pub returns-in-Err-Full-clause-still : goal.returns-in-Err-Full-clause-still
returns-in-Err-Full-clause-still g c none =
    let full = c.in-Err-Full.is ∙ ap (λ f. Err f) c.in-Err-Full.field-0-is in
    let same_file : c.put_all.new.file ≡ c.args.file.now = c.put_all.ensures.untouched full in
    let same_machine : c.put_all.new.machine ≡ c.args.machine.now = c.in-Err-Full.ensures.err in
    absurd (c.put_all.ensures.some full none)

pub returns-in-Err-Full-clause-device : goal.returns-in-Err-Full-clause-device
returns-in-Err-Full-clause-device g c =
    let full = c.in-Err-Full.is ∙ ap (λ f. Err f) c.in-Err-Full.field-0-is in
    let same_file : c.put_all.new.file ≡ c.args.file.now = c.put_all.ensures.untouched full in
    let same_machine : c.put_all.new.machine ≡ c.args.machine.now = c.in-Err-Full.ensures.err in
    subst (λ f. IfErr c.put_behind_state.result (λ unserved. (unserved.fault ≡ node.Device) → g.F.GroupFile.failures c.put_behind_state.new.file ≡ min (g.F.GroupFile.failures f + 1) (2 ^ 64 - 1))) same_file c.put_behind_state.ensures.device

pub returns-in-Err-Full-clause-full : goal.returns-in-Err-Full-clause-full
returns-in-Err-Full-clause-full g c =
    let full = c.in-Err-Full.is ∙ ap (λ f. Err f) c.in-Err-Full.field-0-is in
    let same_file : c.put_all.new.file ≡ c.args.file.now = c.put_all.ensures.untouched full in
    let same_machine : c.put_all.new.machine ≡ c.args.machine.now = c.in-Err-Full.ensures.err in
    on_if_err c.put_behind_state.result _ _ (λ unserved no_help is. (c.put_all.ensures.full full, subst (λ f. IsNoHelp g.F.GroupFile.room g.F.GroupFile.used g.F.GroupFile.next_room g.F.GroupFile.front f (g.M.Compact.spelled c.args.machine.now) (written_all g.M.Machine.after g.M.Recorded.written c.args.machine.now c.args.asks.now) c.args.spare) same_file (subst (λ m. IsNoHelp g.F.GroupFile.room g.F.GroupFile.used g.F.GroupFile.next_room g.F.GroupFile.front c.put_all.new.file (g.M.Compact.spelled m) (written_all g.M.Machine.after g.M.Recorded.written m c.args.asks.now) c.args.spare) same_machine (no_help is)))) c.put_behind_state.ensures.full

pub returns-in-Err-Full-clause-asked : goal.returns-in-Err-Full-clause-asked
returns-in-Err-Full-clause-asked g c =
    let full = c.in-Err-Full.is ∙ ap (λ f. Err f) c.in-Err-Full.field-0-is in
    let same_file : c.put_all.new.file ≡ c.args.file.now = c.put_all.ensures.untouched full in
    let same_machine : c.put_all.new.machine ≡ c.args.machine.now = c.in-Err-Full.ensures.err in
    at_err c.put_behind_state.result (λ unserved. (unserved.fault ≡ node.Device) → All g.M.Recorded.IsAsk c.args.asks.now) (λ unserved is. c.put_all.ensures.asked (λ memory. cc (full, memory)))

pub returns-in-Err-Full-clause-resting : goal.returns-in-Err-Full-clause-resting
returns-in-Err-Full-clause-resting g c =
    let full = c.in-Err-Full.is ∙ ap (λ f. Err f) c.in-Err-Full.field-0-is in
    let same_file : c.put_all.new.file ≡ c.args.file.now = c.put_all.ensures.untouched full in
    let same_machine : c.put_all.new.machine ≡ c.args.machine.now = c.in-Err-Full.ensures.err in
    subst (λ m. IfErr c.put_behind_state.result (λ unserved. (unserved.fault ≡ node.Device) → unserved.is_in_flight ≡ false → g.F.GroupFile.owed c.put_behind_state.new.file ≡ Some (g.M.Compact.spelled m))) same_machine c.put_behind_state.ensures.resting

pub returns-in-Err-Full-clause-flying : goal.returns-in-Err-Full-clause-flying
returns-in-Err-Full-clause-flying g c =
    let full = c.in-Err-Full.is ∙ ap (λ f. Err f) c.in-Err-Full.field-0-is in
    let same_file : c.put_all.new.file ≡ c.args.file.now = c.put_all.ensures.untouched full in
    let same_machine : c.put_all.new.machine ≡ c.args.machine.now = c.in-Err-Full.ensures.err in
    subst (λ m. IfErr c.put_behind_state.result (λ unserved. (unserved.fault ≡ node.Device) → unserved.is_in_flight ≡ true → g.F.GroupFile.owed c.put_behind_state.new.file ≡ Some (g.F.GroupFile.records c.put_behind_state.new.file ++ written_all g.M.Machine.after g.M.Recorded.written m c.args.asks.now))) same_machine c.put_behind_state.ensures.flying

pub returns-in-Err-Full-clause-owes_still : goal.returns-in-Err-Full-clause-owes_still
returns-in-Err-Full-clause-owes_still g c none =
    let full = c.in-Err-Full.is ∙ ap (λ f. Err f) c.in-Err-Full.field-0-is in
    let same_file : c.put_all.new.file ≡ c.args.file.now = c.put_all.ensures.untouched full in
    let same_machine : c.put_all.new.machine ≡ c.args.machine.now = c.in-Err-Full.ensures.err in
    c.put_behind_state.ensures.owes_still none ∙ ap g.F.GroupFile.owed same_file

pub returns-in-Err-Full-clause-any_moment : goal.returns-in-Err-Full-clause-any_moment
returns-in-Err-Full-clause-any_moment g c =
    let full = c.in-Err-Full.is ∙ ap (λ f. Err f) c.in-Err-Full.field-0-is in
    let same_file : c.put_all.new.file ≡ c.args.file.now = c.put_all.ensures.untouched full in
    let same_machine : c.put_all.new.machine ≡ c.args.machine.now = c.in-Err-Full.ensures.err in
    let m = c.args.machine.now in
    g.F.GroupFile.joined (LeadsTo g.M.Recorded.replay (g.M.Recorded.fresh m) (λ x. (x ≡ m) ⊎ (x ≡ after_all g.M.Machine.after m c.args.asks.now))) c.args.file.now c.put_all.new.file c.put_behind_state.new.file c.put_all.ensures.any_moment
    (subst (λ n. g.F.GroupFile.Throughout (LeadsTo g.M.Recorded.replay (g.M.Recorded.fresh n) (λ x. (x ≡ n) ⊎ (x ≡ after_all g.M.Machine.after n c.args.asks.now))) c.put_all.new.file c.put_behind_state.new.file) same_machine c.put_behind_state.ensures.any_moment)
