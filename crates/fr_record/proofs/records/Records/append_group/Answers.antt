use Rattle.std.proofs.Common.{rules, ◌+◌, ◌≡◌, ◌<◌, ◌-◌, ap, sym, subst, ◌∙◌, ◌++◌, length}
use Rattle.std.specs.List.{between}
use Rattle.fr_record.specs.Moments.{LeavesOnly, Throughout}
use Rattle.fr_record.specs.File.{IsLeft, IsAtRest}
use Rattle.fr_record.specs.Group.{records_of, places_of}
use Rattle.fr_record.specs.Table.{IsFile, records_at}
use Rattle.fr_record.proofs.Grown.{kept, at_rest, while_put, failed_file, failed_records}
use Rattle.fr_record.proofs.GroupLemmas.{unframed, unframed_long, group_short, group_found, group_file}
use Rattle.fr_record.proofs.records.Records.append_group.Goals as goal

pub returns-then-is_empty-clause-any_moment : goal.returns-then-is_empty-clause-any_moment
returns-then-is_empty-clause-any_moment g c works =
    subst (λ s. Throughout g.D.Device.Led g.D.Device.disk (IsLeft s.records (records_of c.args.group.now)) s.device s.device) c.self.view_is
    (at_rest g.D.Device.Led g.D.Device.disk c.self.inside.device c.self.inside.table.items c.self.inside.end c.self.inside.is_failed c.self.invariant c.if-self.false (records_of c.args.group.now))

pub returns-in_err-bytes-clause-any_moment : goal.returns-in_err-bytes-clause-any_moment
returns-in_err-bytes-clause-any_moment g c works =
    subst (λ s. Throughout g.D.Device.Led g.D.Device.disk (IsLeft s.records (records_of c.args.group.now)) s.device s.device) c.self.view_is
    (at_rest g.D.Device.Led g.D.Device.disk c.self.inside.device c.self.inside.table.items c.self.inside.end c.self.inside.is_failed c.self.invariant c.if-self.false (records_of c.args.group.now))

pub returns-in_err-reserve-clause-any_moment : goal.returns-in_err-reserve-clause-any_moment
returns-in_err-reserve-clause-any_moment g c works =
    subst (λ s. Throughout g.D.Device.Led g.D.Device.disk (IsLeft s.records (records_of c.args.group.now)) s.device c.self.inside.device) c.self.view_is
    (at_rest g.D.Device.Led g.D.Device.disk c.self.inside.device c.self.inside.table.items c.self.inside.end c.self.inside.is_failed c.self.invariant c.if-self.false (records_of c.args.group.now))

pub returns-in-Err-Device-clause-any_moment : goal.returns-in-Err-Device-clause-any_moment
returns-in-Err-Device-clause-any_moment g c works =
    let some : 0 < length c.args.group.now = search rules in
    subst (λ s. Throughout g.D.Device.Led g.D.Device.disk (IsLeft s.records (records_of c.args.group.now)) s.device c.put.new.device) c.self.view_is
    (while_put g.D.Device.Led g.D.Device.disk c.self.inside.device c.self.inside.table.items c.self.inside.end c.self.inside.is_failed c.self.invariant _ c.put.new.device c.put.ensures.any_moment c.if-self.false (records_of c.args.group.now) (ap (λ l. between 1 (length l) l) c.deref.ensures.value ∙ unframed c.args.group.now c.in_ok-bytes.bytes.items some c.in_ok-bytes.ensures))

pub returns-clause-any_moment : goal.returns-clause-any_moment
returns-clause-any_moment g c works =
    let some : 0 < length c.args.group.now = search rules in
    subst (λ s. Throughout g.D.Device.Led g.D.Device.disk (IsLeft s.records (records_of c.args.group.now)) s.device c.put.new.device) c.self.view_is
    (while_put g.D.Device.Led g.D.Device.disk c.self.inside.device c.self.inside.table.items c.self.inside.end c.self.inside.is_failed c.self.invariant _ c.put.new.device c.put.ensures.any_moment c.if-self.false (records_of c.args.group.now) (ap (λ l. between 1 (length l) l) c.deref.ensures.value ∙ unframed c.args.group.now c.in_ok-bytes.bytes.items some c.in_ok-bytes.ensures))

pub invariant_of-self-in-Err-Device : goal.invariant_of-self-in-Err-Device
invariant_of-self-in-Err-Device g c =
    subst (λ t. IsFile (g.D.Device.disk c.put.new.device) t c.self.inside.end _) (sym c.reserve.ensures.items)
    (failed_file g.D.Device.Led g.D.Device.disk c.self.inside.device c.self.inside.table.items c.self.inside.end c.self.inside.is_failed c.self.invariant _ c.put.new.device c.put.ensures.any_moment)

pub returns-in-Err-Device-clause-err : goal.returns-in-Err-Device-clause-err
returns-in-Err-Device-clause-err g c =
    ap (λ t. records_at (g.D.Device.disk c.put.new.device).content t) c.reserve.ensures.items
    ∙ failed_records g.D.Device.Led g.D.Device.disk c.self.inside.device c.self.inside.table.items c.self.inside.end c.self.inside.is_failed c.self.invariant _ c.put.new.device c.put.ensures.any_moment
    ∙ ap (λ s. s.records) c.self.view_is

pub invariant_of-self-2 : goal.invariant_of-self-2
invariant_of-self-2 g c =
    let some : 0 < length c.args.group.now = search rules in
    let long_is : c.len.result ≡ length c.in_ok-bytes.bytes.items = search rules in
    let items = c.add_places.ensures ∙ ap (λ t. t ++ places_of c.self.inside.end c.args.group.now) c.reserve.ensures.items in
    group_file g.D.Device.Led g.D.Device.disk c.self.inside.device c.self.inside.table.items c.self.inside.end c.self.inside.is_failed c.self.invariant _ c.put.new.device c.args.group.now some (ap (λ l. between 1 (length l) l) c.deref.ensures.value ∙ unframed c.args.group.now c.in_ok-bytes.bytes.items some c.in_ok-bytes.ensures) c.in-Ok.ensures.ok (group_short c.args.group.now c.requires) c.in-Ok.ensures.durable
    c.add_places.new.table.items items (c.len.result - 1) (unframed_long c.args.group.now c.in_ok-bytes.bytes.items some c.in_ok-bytes.ensures c.len.result long_is)

pub returns-clause-ok : goal.returns-clause-ok
returns-clause-ok g c =
    let some : 0 < length c.args.group.now = search rules in
    let items = c.add_places.ensures ∙ ap (λ t. t ++ places_of c.self.inside.end c.args.group.now) c.reserve.ensures.items in
    group_found g.D.Device.Led g.D.Device.disk c.self.inside.device c.self.inside.table.items c.self.inside.end c.self.inside.is_failed c.self.invariant _ c.put.new.device c.args.group.now some (ap (λ l. between 1 (length l) l) c.deref.ensures.value ∙ unframed c.args.group.now c.in_ok-bytes.bytes.items some c.in_ok-bytes.ensures) c.in-Ok.ensures.ok c.add_places.new.table.items items
    ∙ ap (λ s. s.records ++ (records_of c.args.group.now)) c.self.view_is

pub returns-clause-kept : goal.returns-clause-kept
returns-clause-kept g c = kept (g.D.Device.disk c.put.new.device) c.add_places.new.table.items (c.self.inside.end + (c.len.result - 1)) c.self.inside.is_failed (invariant_of-self-2 g c) c.if-self.false

pub returns-then-not-has_room-clause-any_moment : goal.returns-then-not-has_room-clause-any_moment
returns-then-not-has_room-clause-any_moment g c works =
    subst (λ s. Throughout g.D.Device.Led g.D.Device.disk (IsLeft s.records (records_of c.args.group.now)) s.device s.device) c.self.view_is
    (at_rest g.D.Device.Led g.D.Device.disk c.self.inside.device c.self.inside.table.items c.self.inside.end c.self.inside.is_failed c.self.invariant c.if-self.false (records_of c.args.group.now))

pub returns-then-is_empty-clause-kept : goal.returns-then-is_empty-clause-kept
returns-then-is_empty-clause-kept g c =
    subst (λ s. LeavesOnly g.D.Device.Led g.D.Device.disk (IsAtRest s.records) s.device) c.self.view_is
    (kept (g.D.Device.disk c.self.inside.device) c.self.inside.table.items c.self.inside.end c.self.inside.is_failed c.self.invariant c.if-self.false)
