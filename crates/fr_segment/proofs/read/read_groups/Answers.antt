use Rattle.std.proofs.Common.{◌≡◌, ap, sym, subst, ◌∙◌, Err}
use Rattle.fr_record.specs.declared.fault.RecordFault.TheVariants.{Broken}
use Rattle.fr_record.specs.Fault.{is_device}
use Rattle.fr_segment.specs.File.{StandsFor, IsLeft, IsAtRest}
use Rattle.fr_segment.specs.Parse.{mended}
use Rattle.fr_segment.specs.Table.{groups_in, IsGuarded}
use Rattle.fr_segment.proofs.ReadLemmas.{while_read, while_mended, never_at_rest, front_mended, none_file, none_stands, some_file, some_stands, some_torn}
use Rattle.fr_segment.proofs.GuardRun.{Bare, none_guarded, none_bare, some_guarded, some_bare}
use Rattle.fr_segment.proofs.FaultLemmas.{only_memory, only_full}
use Rattle.fr_segment.proofs.read.read_groups.Goals as goal

pub returns-in-Err-clause-any_moment : goal.returns-in-Err-clause-any_moment
returns-in-Err-clause-any_moment g c before h short leaves =
    while_read g.D.Device.Led g.D.Device.disk c.args.device.now c.load.new.device c.load.ensures.any_moment (IsLeft before h) leaves

pub returns-in-Err-parse-clause-any_moment : goal.returns-in-Err-parse-clause-any_moment
returns-in-Err-parse-clause-any_moment g c before h short leaves =
    while_read g.D.Device.Led g.D.Device.disk c.args.device.now c.load.new.device c.load.ensures.any_moment (IsLeft before h) leaves

pub returns-in-None-clause-any_moment : goal.returns-in-None-clause-any_moment
returns-in-None-clause-any_moment g c before h short leaves =
    while_read g.D.Device.Led g.D.Device.disk c.args.device.now c.load.new.device c.load.ensures.any_moment (IsLeft before h) leaves

pub returns-in-Err-clause-at_rest : goal.returns-in-Err-clause-at_rest
returns-in-Err-clause-at_rest g c before leaves =
    while_read g.D.Device.Led g.D.Device.disk c.args.device.now c.load.new.device c.load.ensures.any_moment (IsAtRest before) leaves

pub returns-in-Err-parse-clause-at_rest : goal.returns-in-Err-parse-clause-at_rest
returns-in-Err-parse-clause-at_rest g c before leaves =
    while_read g.D.Device.Led g.D.Device.disk c.args.device.now c.load.new.device c.load.ensures.any_moment (IsAtRest before) leaves

pub returns-in-None-clause-at_rest : goal.returns-in-None-clause-at_rest
returns-in-None-clause-at_rest g c before leaves =
    while_read g.D.Device.Led g.D.Device.disk c.args.device.now c.load.new.device c.load.ensures.any_moment (IsAtRest before) leaves

pub returns-in-Err-parse-clause-broken : goal.returns-in-Err-parse-clause-broken
returns-in-Err-parse-clause-broken g c e gs stands =
    let same : c.in-Err-parse.fault ≡ Broken = cc e in
    c.parse.ensures.broken (c.in-Err-parse.is ∙ ap (λ f. Err f) same) gs (subst (λ l. StandsFor l gs) (sym (c.deref.ensures.value ∙ c.in-Ok.ensures.bytes)) stands)

pub returns-in-None-clause-file : goal.returns-in-None-clause-file
returns-in-None-clause-file g c =
    none_file g.D.Device.disk c.args.device.now c.load.new.device c.load.ensures.stands c.deref.result.now (c.deref.ensures.value ∙ c.in-Ok.ensures.bytes) c.in-Ok-parse.found.torn c.in-Ok-parse.found.table.items c.in-Ok-parse.found.end c.in-Ok-parse.found.count
    c.in-Ok-parse.ensures.parsed c.in-Ok-parse.ensures.stands c.in-None.is c.in-Ok.ensures.durable

pub returns-in-None-clause-stands_for : goal.returns-in-None-clause-stands_for
returns-in-None-clause-stands_for g c =
    none_stands g.D.Device.disk c.args.device.now c.load.new.device c.load.ensures.stands c.deref.result.now (c.deref.ensures.value ∙ c.in-Ok.ensures.bytes) c.in-Ok-parse.found.torn c.in-Ok-parse.found.table.items c.in-Ok-parse.found.end c.in-Ok-parse.found.count
    c.in-Ok-parse.ensures.parsed c.in-Ok-parse.ensures.stands c.in-None.is

pub returns-in-Ok-mend-clause-file : goal.returns-in-Ok-mend-clause-file
returns-in-Ok-mend-clause-file g c =
    some_file g.D.Device.disk c.args.device.now c.load.new.device c.load.ensures.stands c.deref.result.now (c.deref.ensures.value ∙ c.in-Ok.ensures.bytes) c.in-Ok-parse.found.torn c.in-Ok-parse.found.table.items c.in-Ok-parse.found.end c.in-Ok-parse.found.count
    c.in-Ok-parse.ensures.parsed c.in-Ok-parse.ensures.stands c.in-Some.gate c.mend.new.device c.in-Some.is c.in-Ok-mend.ensures.ok c.in-Ok-mend.ensures.durable

pub returns-in-Ok-mend-clause-stands_for : goal.returns-in-Ok-mend-clause-stands_for
returns-in-Ok-mend-clause-stands_for g c =
    some_stands g.D.Device.disk c.args.device.now c.load.new.device c.load.ensures.stands c.deref.result.now (c.deref.ensures.value ∙ c.in-Ok.ensures.bytes) c.in-Ok-parse.found.torn c.in-Ok-parse.found.table.items c.in-Ok-parse.found.end c.in-Ok-parse.found.count
    c.in-Ok-parse.ensures.parsed c.in-Ok-parse.ensures.stands c.in-Some.gate c.mend.new.device c.in-Some.is c.in-Ok-mend.ensures.ok

pub returns-in-Ok-mend-clause-any_moment : goal.returns-in-Ok-mend-clause-any_moment
returns-in-Ok-mend-clause-any_moment g c before h short leaves =
    while_mended g.D.Device.Led g.D.Device.disk c.args.device.now c.load.new.device c.load.ensures.any_moment c.mend.new.device c.load.ensures.stands c.deref.result.now (c.deref.ensures.value ∙ c.in-Ok.ensures.bytes) c.in-Some.gate (groups_in c.in-Ok-parse.found.count (mended c.deref.result.now c.in-Ok-parse.found.torn))
    (some_torn c.deref.result.now c.in-Ok-parse.found.torn (groups_in c.in-Ok-parse.found.count (mended c.deref.result.now c.in-Ok-parse.found.torn)) c.in-Some.gate c.in-Some.is c.in-Ok-parse.ensures.torn) c.in-Ok-parse.ensures.stands c.mend.ensures.any_moment before h short leaves

pub returns-in-Ok-mend-clause-at_rest : goal.returns-in-Ok-mend-clause-at_rest
returns-in-Ok-mend-clause-at_rest g c before leaves =
    absurd (never_at_rest g.D.Device.Led g.D.Device.disk c.args.device.now c.load.new.device c.load.ensures.any_moment c.mend.new.device c.load.ensures.stands c.deref.result.now (c.deref.ensures.value ∙ c.in-Ok.ensures.bytes) c.in-Some.gate (groups_in c.in-Ok-parse.found.count (mended c.deref.result.now c.in-Ok-parse.found.torn))
    (some_torn c.deref.result.now c.in-Ok-parse.found.torn (groups_in c.in-Ok-parse.found.count (mended c.deref.result.now c.in-Ok-parse.found.torn)) c.in-Some.gate c.in-Some.is c.in-Ok-parse.ensures.torn) c.in-Ok-parse.ensures.stands c.mend.ensures.any_moment before leaves)

pub returns-in-Ok-mend-clause-front : goal.returns-in-Ok-mend-clause-front
returns-in-Ok-mend-clause-front g c =
    front_mended g.D.Device.Led g.D.Device.disk c.args.device.now c.load.new.device c.load.ensures.any_moment c.mend.new.device c.load.ensures.stands c.deref.result.now (c.deref.ensures.value ∙ c.in-Ok.ensures.bytes) c.in-Some.gate (groups_in c.in-Ok-parse.found.count (mended c.deref.result.now c.in-Ok-parse.found.torn))
    (some_torn c.deref.result.now c.in-Ok-parse.found.torn (groups_in c.in-Ok-parse.found.count (mended c.deref.result.now c.in-Ok-parse.found.torn)) c.in-Some.gate c.in-Some.is c.in-Ok-parse.ensures.torn) c.in-Ok-parse.ensures.stands c.mend.ensures.any_moment c.mend.ensures.long

pub returns-clause-any_moment : goal.returns-clause-any_moment
returns-clause-any_moment g c before h short leaves =
    while_mended g.D.Device.Led g.D.Device.disk c.args.device.now c.load.new.device c.load.ensures.any_moment c.mend.new.device c.load.ensures.stands c.deref.result.now (c.deref.ensures.value ∙ c.in-Ok.ensures.bytes) c.in-Some.gate (groups_in c.in-Ok-parse.found.count (mended c.deref.result.now c.in-Ok-parse.found.torn))
    (some_torn c.deref.result.now c.in-Ok-parse.found.torn (groups_in c.in-Ok-parse.found.count (mended c.deref.result.now c.in-Ok-parse.found.torn)) c.in-Some.gate c.in-Some.is c.in-Ok-parse.ensures.torn) c.in-Ok-parse.ensures.stands c.mend.ensures.any_moment before h short leaves

pub returns-clause-at_rest : goal.returns-clause-at_rest
returns-clause-at_rest g c before leaves =
    absurd (never_at_rest g.D.Device.Led g.D.Device.disk c.args.device.now c.load.new.device c.load.ensures.any_moment c.mend.new.device c.load.ensures.stands c.deref.result.now (c.deref.ensures.value ∙ c.in-Ok.ensures.bytes) c.in-Some.gate (groups_in c.in-Ok-parse.found.count (mended c.deref.result.now c.in-Ok-parse.found.torn))
    (some_torn c.deref.result.now c.in-Ok-parse.found.torn (groups_in c.in-Ok-parse.found.count (mended c.deref.result.now c.in-Ok-parse.found.torn)) c.in-Some.gate c.in-Some.is c.in-Ok-parse.ensures.torn) c.in-Ok-parse.ensures.stands c.mend.ensures.any_moment before leaves)

pub returns-clause-front : goal.returns-clause-front
returns-clause-front g c =
    front_mended g.D.Device.Led g.D.Device.disk c.args.device.now c.load.new.device c.load.ensures.any_moment c.mend.new.device c.load.ensures.stands c.deref.result.now (c.deref.ensures.value ∙ c.in-Ok.ensures.bytes) c.in-Some.gate (groups_in c.in-Ok-parse.found.count (mended c.deref.result.now c.in-Ok-parse.found.torn))
    (some_torn c.deref.result.now c.in-Ok-parse.found.torn (groups_in c.in-Ok-parse.found.count (mended c.deref.result.now c.in-Ok-parse.found.torn)) c.in-Some.gate c.in-Some.is c.in-Ok-parse.ensures.torn) c.in-Ok-parse.ensures.stands c.mend.ensures.any_moment c.mend.ensures.long

pub returns-in-Err-clause-durable : goal.returns-in-Err-clause-durable
returns-in-Err-clause-durable g c e =
    c.load.ensures.memory (c.in-Err.is ∙ ap (λ f. Err f) (only_memory c.in-Err.fault e (λ f. c.load.ensures.never_full (c.in-Err.is ∙ ap (λ f. Err f) f)) (λ f. c.load.ensures.never_failed (c.in-Err.is ∙ ap (λ f. Err f) f)) (λ f. c.load.ensures.never_broken (c.in-Err.is ∙ ap (λ f. Err f) f))))

pub returns-clause-durable : goal.returns-clause-durable
returns-clause-durable g c e = absurd (c.mend.ensures.never_full (c.in-Err-mend.is ∙ ap (λ f. Err f) (only_full c.in-Err-mend.fault (ap is_device (sym c.from.ensures) ∙ e))))

pub returns-in-None-clause-guarded : goal.returns-in-None-clause-guarded
returns-in-None-clause-guarded g c e = none_guarded g.D.Device.disk c.args.device.now c.load.new.device c.load.ensures.stands c.deref.result.now (c.deref.ensures.value ∙ c.in-Ok.ensures.bytes) c.in-Ok-parse.found.end c.in-Ok-parse.found.count (subst (λ l. IsGuarded l c.in-Ok-parse.found.end c.in-Ok-parse.found.count) (c.deref-2.ensures.value ∙ sym c.deref.ensures.value) (c.is_guarded-guarded.ensures.yes e))

pub returns-in-None-clause-unguarded : goal.returns-in-None-clause-unguarded
returns-in-None-clause-unguarded g c e = none_bare g.D.Device.disk c.args.device.now c.load.new.device c.load.ensures.stands c.deref.result.now (c.deref.ensures.value ∙ c.in-Ok.ensures.bytes) c.in-Ok-parse.found.end c.in-Ok-parse.found.count (subst (Bare c.in-Ok-parse.found.end c.in-Ok-parse.found.count) (c.deref-2.ensures.value ∙ sym c.deref.ensures.value) (c.is_guarded-guarded.ensures.no e))

pub returns-in-Ok-mend-clause-guarded : goal.returns-in-Ok-mend-clause-guarded
returns-in-Ok-mend-clause-guarded g c e = some_guarded g.D.Device.disk c.args.device.now c.load.new.device c.load.ensures.stands c.deref.result.now (c.deref.ensures.value ∙ c.in-Ok.ensures.bytes) c.in-Ok-parse.found.end c.in-Ok-parse.found.count c.in-Ok-parse.found.torn c.in-Ok-parse.found.table.items c.in-Ok-parse.ensures.parsed c.in-Some.gate c.in-Some.is c.in-Ok-parse.ensures.torn c.mend.new.device c.in-Ok-mend.ensures.ok (subst (λ l. IsGuarded l c.in-Ok-parse.found.end c.in-Ok-parse.found.count) (c.deref-2.ensures.value ∙ sym c.deref.ensures.value) (c.is_guarded-guarded.ensures.yes e))

pub returns-in-Ok-mend-clause-unguarded : goal.returns-in-Ok-mend-clause-unguarded
returns-in-Ok-mend-clause-unguarded g c e = some_bare g.D.Device.disk c.args.device.now c.load.new.device c.load.ensures.stands c.deref.result.now (c.deref.ensures.value ∙ c.in-Ok.ensures.bytes) c.in-Ok-parse.found.end c.in-Ok-parse.found.count c.in-Ok-parse.found.torn c.in-Ok-parse.found.table.items c.in-Ok-parse.ensures.parsed c.in-Some.gate c.in-Some.is c.in-Ok-parse.ensures.torn c.mend.new.device c.in-Ok-mend.ensures.ok (subst (Bare c.in-Ok-parse.found.end c.in-Ok-parse.found.count) (c.deref-2.ensures.value ∙ sym c.deref.ensures.value) (c.is_guarded-guarded.ensures.no e))
