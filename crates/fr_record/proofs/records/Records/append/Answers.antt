use Rattle.std.proofs.Common.{rules, ◌+◌, length, ◌≡◌, ap, sym, subst, ◌∙◌, ◌∷◌, [], ◌++◌}
use Rattle.fr_record.specs.Moments.{Throughout}
use Rattle.fr_record.specs.File.{IsLeft, behind}
use Rattle.fr_record.specs.Table.{IsFile, records_at, places}
use Rattle.fr_record.proofs.Grown.{kept, at_rest, while_put, failed_file, failed_records, grown_file, grown_found, one_short}
use Rattle.fr_record.proofs.records.Records.append.Goals as goal

pub returns-in_err-new-clause-any_moment : goal.returns-in_err-new-clause-any_moment
returns-in_err-new-clause-any_moment g c works =
    subst (λ s. Throughout g.D.Device.Led g.D.Device.disk (IsLeft s.records (c.args.payload.now ∷ [])) s.device s.device) c.self.view_is
    (at_rest g.D.Device.Led g.D.Device.disk c.self.inside.device c.self.inside.table.items c.self.inside.end c.self.inside.is_failed c.self.invariant c.if-self.false (c.args.payload.now ∷ []))

pub returns-in_err-reserve-clause-any_moment : goal.returns-in_err-reserve-clause-any_moment
returns-in_err-reserve-clause-any_moment g c works =
    subst (λ s. Throughout g.D.Device.Led g.D.Device.disk (IsLeft s.records (c.args.payload.now ∷ [])) s.device c.self.inside.device) c.self.view_is
    (at_rest g.D.Device.Led g.D.Device.disk c.self.inside.device c.self.inside.table.items c.self.inside.end c.self.inside.is_failed c.self.invariant c.if-self.false (c.args.payload.now ∷ []))

pub invariant_of-self-in-Err-Device : goal.invariant_of-self-in-Err-Device
invariant_of-self-in-Err-Device g c =
    subst (λ t. IsFile (g.D.Device.disk c.put.new.device) t c.self.inside.end _) (sym c.reserve.ensures.items)
    (failed_file g.D.Device.Led g.D.Device.disk c.self.inside.device c.self.inside.table.items c.self.inside.end c.self.inside.is_failed c.self.invariant _ c.put.new.device c.put.ensures.any_moment)

pub returns-in-Err-Device-clause-err : goal.returns-in-Err-Device-clause-err
returns-in-Err-Device-clause-err g c =
    ap (λ t. records_at (g.D.Device.disk c.put.new.device).content t) c.reserve.ensures.items
    ∙ failed_records g.D.Device.Led g.D.Device.disk c.self.inside.device c.self.inside.table.items c.self.inside.end c.self.inside.is_failed c.self.invariant _ c.put.new.device c.put.ensures.any_moment
    ∙ ap (λ s. s.records) c.self.view_is

pub returns-in-Err-Device-clause-any_moment : goal.returns-in-Err-Device-clause-any_moment
returns-in-Err-Device-clause-any_moment g c works =
    subst (λ s. Throughout g.D.Device.Led g.D.Device.disk (IsLeft s.records (c.args.payload.now ∷ [])) s.device c.put.new.device) c.self.view_is
    (while_put g.D.Device.Led g.D.Device.disk c.self.inside.device c.self.inside.table.items c.self.inside.end c.self.inside.is_failed c.self.invariant _ c.put.new.device c.put.ensures.any_moment c.if-self.false (c.args.payload.now ∷ []) (c.deref.ensures.value ∙ c.in_ok-new.ensures))

pub invariant_of-self-2 : goal.invariant_of-self-2
invariant_of-self-2 g c =
    let items : c.push.new.self.items ≡ c.self.inside.table.items ++ places c.self.inside.end (c.args.payload.now ∷ []) =
    c.in-Ok-push.ensures.items ∙ ap (λ t. t ++ places c.self.inside.end (c.args.payload.now ∷ [])) c.reserve.ensures.items in
    let len_is : length (behind (c.args.payload.now ∷ [])) ≡ c.len.result = search rules in
    grown_file g.D.Device.Led g.D.Device.disk c.self.inside.device c.self.inside.table.items c.self.inside.end c.self.inside.is_failed c.self.invariant _ c.put.new.device c.args.payload.now [] (c.deref.ensures.value ∙ c.in_ok-new.ensures) c.in-Ok.ensures.ok
    (one_short c.args.payload.now c.requires) c.in-Ok.ensures.durable c.push.new.self.items items c.len.result len_is

pub returns-clause-ok : goal.returns-clause-ok
returns-clause-ok g c =
    let items : c.push.new.self.items ≡ c.self.inside.table.items ++ places c.self.inside.end (c.args.payload.now ∷ []) =
    c.in-Ok-push.ensures.items ∙ ap (λ t. t ++ places c.self.inside.end (c.args.payload.now ∷ [])) c.reserve.ensures.items in
    grown_found g.D.Device.Led g.D.Device.disk c.self.inside.device c.self.inside.table.items c.self.inside.end c.self.inside.is_failed c.self.invariant _ c.put.new.device c.args.payload.now [] (c.deref.ensures.value ∙ c.in_ok-new.ensures) c.in-Ok.ensures.ok
    c.push.new.self.items items
    ∙ ap (λ s. s.records ++ c.args.payload.now ∷ []) c.self.view_is

pub returns-clause-any_moment : goal.returns-clause-any_moment
returns-clause-any_moment g c works =
    subst (λ s. Throughout g.D.Device.Led g.D.Device.disk (IsLeft s.records (c.args.payload.now ∷ [])) s.device c.put.new.device) c.self.view_is
    (while_put g.D.Device.Led g.D.Device.disk c.self.inside.device c.self.inside.table.items c.self.inside.end c.self.inside.is_failed c.self.invariant _ c.put.new.device c.put.ensures.any_moment c.if-self.false (c.args.payload.now ∷ []) (c.deref.ensures.value ∙ c.in_ok-new.ensures))

pub returns-clause-kept : goal.returns-clause-kept
returns-clause-kept g c = kept (g.D.Device.disk c.put.new.device) c.push.new.self.items (c.self.inside.end + c.len.result) c.self.inside.is_failed (invariant_of-self-2 g c) c.if-self.false

pub returns-then-not-has_room-clause-any_moment : goal.returns-then-not-has_room-clause-any_moment
returns-then-not-has_room-clause-any_moment g c works =
    subst (λ s. Throughout g.D.Device.Led g.D.Device.disk (IsLeft s.records (c.args.payload.now ∷ [])) s.device s.device) c.self.view_is
    (at_rest g.D.Device.Led g.D.Device.disk c.self.inside.device c.self.inside.table.items c.self.inside.end c.self.inside.is_failed c.self.invariant c.if-self.false (c.args.payload.now ∷ []))
