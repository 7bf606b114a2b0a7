use Rattle.std.proofs.Common.{rules, ◌≡◌, true, [], subst, sym}
use Rattle.std.specs.Prelude.{IfOk, if◌then◌else◌}
use Rattle.fr_record.specs.Group.{records_of}
use Rattle.fr_log.specs.Seeding.{changes}
use Rattle.fr_record_log.specs.Spelling.{spelled_ask}
use Rattle.fr_record_log.proofs.log_file.FileLogRecorded.records.Goals as goal

pub returns-then-is_changed_by-clause-ask : goal.returns-then-is_changed_by-clause-ask
returns-then-is_changed_by-clause-ask c = c.file_ask_law.ensures c.args.ask.now c.ask_within_limits.ensures

pub returns-else-is_changed_by-clause-ask : goal.returns-else-is_changed_by-clause-ask
returns-else-is_changed_by-clause-ask c = c.file_ask_law.ensures c.args.ask.now c.ask_within_limits.ensures

pub returns-then-is_changed_by-clause-records : goal.returns-then-is_changed_by-clause-records
returns-then-is_changed_by-clause-records c =
    let l = c.args.self.now in
    let yes : changes l c.args.ask.now ≡ true = search rules in
    let spelled : IfOk c.spelled_ask.result (λ group. records_of group.items ≡ spelled_ask l c.args.ask.now) =
    subst (λ n. IfOk c.spelled_ask.result (λ group. records_of group.items ≡ spelled_ask n c.args.ask.now)) c.self.view_is c.spelled_ask.ensures.records in
    subst (λ b. IfOk c.spelled_ask.result (λ group. records_of group.items ≡ (if b then spelled_ask l c.args.ask.now else []))) (sym yes) spelled
