use Rattle.std.proofs.Common.{rules, ◌≡◌, ◌<◌, [], length, sym, subst}
use Rattle.fr_record.specs.Moments.{Throughout}
use Rattle.fr_record.specs.Group.{records_of}
use Rattle.fr_record_node.specs.Node.{InFlight}
use Rattle.fr_record_node.proofs.Lemmas.{started, put_flight, group_short, some_records, no_records}
use Rattle.fr_record_node.proofs.file_node.serving.put_group.Goals as goal

pub returns-then-is_empty-clause-any_moment : goal.returns-then-is_empty-clause-any_moment
returns-then-is_empty-clause-any_moment g c =
    let none : length c.args.group.now ≡ 0 = search rules in
    subst (λ group. Throughout g.D.Device.Led g.D.Device.disk (InFlight c.args.file.now.records group) c.args.file.now.device c.args.file.now.device) (sym (no_records c.args.group.now none))
    (started g.D.Device.Led g.D.Device.disk (InFlight c.args.file.now.records []) c.args.file.now.device (λ left may. c.is_failed-is_failed.ensures.kept c.requires.works left may))

pub returns-in-Ok-clause-any_moment : goal.returns-in-Ok-clause-any_moment
returns-in-Ok-clause-any_moment g c =
    let some : 0 < length c.args.group.now = search rules in
    put_flight g.D.Device.Led g.D.Device.disk c.args.file.now.device c.append_group.new.self.device c.args.file.now.records (records_of c.args.group.now) (λ e. some_records c.args.group.now some e) (group_short c.args.group.now c.requires.short)
    (c.is_failed-is_failed.ensures.kept c.requires.works) (c.append_group.ensures.any_moment c.requires.works)

pub returns-in-Err-clause-any_moment : goal.returns-in-Err-clause-any_moment
returns-in-Err-clause-any_moment g c =
    let some : 0 < length c.args.group.now = search rules in
    put_flight g.D.Device.Led g.D.Device.disk c.args.file.now.device c.append_group.new.self.device c.args.file.now.records (records_of c.args.group.now) (λ e. some_records c.args.group.now some e) (group_short c.args.group.now c.requires.short)
    (c.is_failed-is_failed.ensures.kept c.requires.works) (c.append_group.ensures.any_moment c.requires.works)
