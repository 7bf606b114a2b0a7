use Rattle.std.proofs.Common.{refl, ap, sym, subst, ◌∙◌, get_or, length, ◌<◌, Err}
use Rattle.std.proofs.lemmas.List.{get_or_read}
use Rattle.fr_record.specs.File.{StandsFor}
use Rattle.fr_record.specs.Table.{IsParsed, records_at}
use Rattle.fr_record.proofs.ReadLemmas.{closed_file, closed_records, parsed_stands, while_read, while_closed, front_closed}
use Rattle.fr_record.proofs.RestLemmas.{rest_read, rest_found}
use Rattle.fr_record.proofs.FaultLemmas.{only_memory}
use Rattle.fr_record.proofs.read.read_file.Goals as goal

pub returns-in-Err-clause-any_moment : goal.returns-in-Err-clause-any_moment
returns-in-Err-clause-any_moment g c before first others short leaves =
    while_read g.D.Device.Led g.D.Device.disk c.args.device.now c.load.new.device c.load.new.device _ refl c.load.ensures.stands c.load.ensures.any_moment before first others short leaves

pub returns-in-Err-parse-clause-any_moment : goal.returns-in-Err-parse-clause-any_moment
returns-in-Err-parse-clause-any_moment g c before first others short leaves =
    while_read g.D.Device.Led g.D.Device.disk c.args.device.now c.load.new.device c.load.new.device _ refl c.load.ensures.stands c.load.ensures.any_moment before first others short leaves

pub returns-then-index-eq0-clause-any_moment : goal.returns-then-index-eq0-clause-any_moment
returns-then-index-eq0-clause-any_moment g c before first others short leaves =
    while_read g.D.Device.Led g.D.Device.disk c.args.device.now c.load.new.device c.load.new.device _ refl c.load.ensures.stands c.load.ensures.any_moment before first others short leaves

pub returns-in-Err-parse-clause-broken : goal.returns-in-Err-parse-clause-broken
returns-in-Err-parse-clause-broken g c e rs stands =
    c.parse.ensures.broken (c.in-Err-parse.is ∙ e) rs (subst (λ l. StandsFor l rs) (sym (c.deref.ensures.value ∙ c.in-Ok.ensures.bytes)) stands)

pub returns-then-index-eq0-clause-stands_for : goal.returns-then-index-eq0-clause-stands_for
returns-then-index-eq0-clause-stands_for g c =
    let content = (g.D.Device.disk c.args.device.now).content in
    let parsed = subst (λ l. IsParsed l c.in-Ok-parse.found.0.items c.in-Ok-parse.found.1) (c.deref.ensures.value ∙ c.in-Ok.ensures.bytes) c.in-Ok-parse.ensures.parsed in
    subst (λ l. StandsFor content (records_at l c.in-Ok-parse.found.0.items)) (sym c.load.ensures.stands.same) (parsed_stands content c.in-Ok-parse.found.0.items c.in-Ok-parse.found.1 parsed)

pub returns-in-Ok-close-clause-file : goal.returns-in-Ok-close-clause-file
returns-in-Ok-close-clause-file g c =
    let parsed = subst (λ l. IsParsed l c.in-Ok-parse.found.0.items c.in-Ok-parse.found.1) (c.deref.ensures.value ∙ c.in-Ok.ensures.bytes ∙ sym c.load.ensures.stands.same) c.in-Ok-parse.ensures.parsed in
    closed_file (g.D.Device.disk c.load.new.device) (g.D.Device.disk c.close.new.device) c.in-Ok-parse.found.0.items c.in-Ok-parse.found.1 parsed c.in-Ok-close.ensures.ok c.in-Ok-close.ensures.durable

pub returns-in-Ok-close-clause-stands_for : goal.returns-in-Ok-close-clause-stands_for
returns-in-Ok-close-clause-stands_for g c =
    let content = (g.D.Device.disk c.load.new.device).content in
    let parsed = subst (λ l. IsParsed l c.in-Ok-parse.found.0.items c.in-Ok-parse.found.1) (c.deref.ensures.value ∙ c.in-Ok.ensures.bytes ∙ sym c.load.ensures.stands.same) c.in-Ok-parse.ensures.parsed in
    let records = closed_records (g.D.Device.disk c.load.new.device) (g.D.Device.disk c.close.new.device) c.in-Ok-parse.found.0.items c.in-Ok-parse.found.1 parsed c.in-Ok-close.ensures.ok in
    subst (λ l. StandsFor l (records_at (g.D.Device.disk c.close.new.device).content c.in-Ok-parse.found.0.items)) c.load.ensures.stands.same (subst (λ xs. StandsFor content xs) (sym records) (parsed_stands content c.in-Ok-parse.found.0.items c.in-Ok-parse.found.1 parsed))

pub returns-in-Ok-close-clause-any_moment : goal.returns-in-Ok-close-clause-any_moment
returns-in-Ok-close-clause-any_moment g c before first others short leaves =
    let end = c.in-Ok-parse.found.1 in
    let parsed = c.in-Ok-parse.ensures.parsed in
    let within : end < length c.in-Ok.bytes.items = subst (λ l. end < length l) c.deref.ensures.value parsed.long in
    while_closed g.D.Device.Led g.D.Device.disk c.args.device.now c.load.new.device c.close.new.device c.deref.result.now (c.deref.ensures.value ∙ c.in-Ok.ensures.bytes) c.load.ensures.stands c.load.ensures.any_moment before first others short leaves
    c.in-Ok-parse.found.0.items end parsed (λ zero. c.if-index-eq0.false (get_or_read c.in-Ok.bytes.items end c.index.result.now within c.index.ensures 1 ∙ ap (λ l. get_or l end 1) (sym c.deref.ensures.value) ∙ zero)) c.close.ensures.any_moment

pub returns-clause-any_moment : goal.returns-clause-any_moment
returns-clause-any_moment g c before first others short leaves =
    let end = c.in-Ok-parse.found.1 in
    let parsed = c.in-Ok-parse.ensures.parsed in
    let within : end < length c.in-Ok.bytes.items = subst (λ l. end < length l) c.deref.ensures.value parsed.long in
    while_closed g.D.Device.Led g.D.Device.disk c.args.device.now c.load.new.device c.close.new.device c.deref.result.now (c.deref.ensures.value ∙ c.in-Ok.ensures.bytes) c.load.ensures.stands c.load.ensures.any_moment before first others short leaves
    c.in-Ok-parse.found.0.items end parsed (λ zero. c.if-index-eq0.false (get_or_read c.in-Ok.bytes.items end c.index.result.now within c.index.ensures 1 ∙ ap (λ l. get_or l end 1) (sym c.deref.ensures.value) ∙ zero)) c.close.ensures.any_moment

pub returns-in-Ok-close-clause-front : goal.returns-in-Ok-close-clause-front
returns-in-Ok-close-clause-front g c =
    front_closed g.D.Device.Led g.D.Device.disk c.args.device.now c.load.new.device c.close.new.device c.deref.result.now (c.deref.ensures.value ∙ c.in-Ok.ensures.bytes) c.load.ensures.stands
    c.in-Ok-parse.found.0.items c.in-Ok-parse.found.1 c.in-Ok-parse.ensures.parsed c.close.ensures.any_moment c.close.ensures.long

pub returns-clause-front : goal.returns-clause-front
returns-clause-front g c =
    front_closed g.D.Device.Led g.D.Device.disk c.args.device.now c.load.new.device c.close.new.device c.deref.result.now (c.deref.ensures.value ∙ c.in-Ok.ensures.bytes) c.load.ensures.stands
    c.in-Ok-parse.found.0.items c.in-Ok-parse.found.1 c.in-Ok-parse.ensures.parsed c.close.ensures.any_moment c.close.ensures.long

pub returns-in-Err-clause-at_rest : goal.returns-in-Err-clause-at_rest
returns-in-Err-clause-at_rest g c before leaves = rest_read g.D.Device.Led g.D.Device.disk c.args.device.now before leaves c.load.new.device c.load.ensures.any_moment

pub returns-in-Err-parse-clause-at_rest : goal.returns-in-Err-parse-clause-at_rest
returns-in-Err-parse-clause-at_rest g c before leaves = rest_read g.D.Device.Led g.D.Device.disk c.args.device.now before leaves c.load.new.device c.load.ensures.any_moment

pub returns-then-index-eq0-clause-at_rest : goal.returns-then-index-eq0-clause-at_rest
returns-then-index-eq0-clause-at_rest g c before leaves = rest_read g.D.Device.Led g.D.Device.disk c.args.device.now before leaves c.load.new.device c.load.ensures.any_moment

pub returns-in-Ok-close-clause-at_rest : goal.returns-in-Ok-close-clause-at_rest
returns-in-Ok-close-clause-at_rest g c before leaves =
    let end = c.in-Ok-parse.found.1 in
    let parsed = c.in-Ok-parse.ensures.parsed in
    let within : end < length c.in-Ok.bytes.items = subst (λ l. end < length l) c.deref.ensures.value parsed.long in
    let zero = rest_found g.D.Device.Led g.D.Device.disk c.args.device.now before leaves c.deref.result.now (c.deref.ensures.value ∙ c.in-Ok.ensures.bytes) c.in-Ok-parse.found.0.items end parsed in
    absurd (c.if-index-eq0.false (get_or_read c.in-Ok.bytes.items end c.index.result.now within c.index.ensures 1 ∙ ap (λ l. get_or l end 1) (sym c.deref.ensures.value) ∙ zero))

pub returns-clause-at_rest : goal.returns-clause-at_rest
returns-clause-at_rest g c before leaves =
    let end = c.in-Ok-parse.found.1 in
    let parsed = c.in-Ok-parse.ensures.parsed in
    let within : end < length c.in-Ok.bytes.items = subst (λ l. end < length l) c.deref.ensures.value parsed.long in
    let zero = rest_found g.D.Device.Led g.D.Device.disk c.args.device.now before leaves c.deref.result.now (c.deref.ensures.value ∙ c.in-Ok.ensures.bytes) c.in-Ok-parse.found.0.items end parsed in
    absurd (c.if-index-eq0.false (get_or_read c.in-Ok.bytes.items end c.index.result.now within c.index.ensures 1 ∙ ap (λ l. get_or l end 1) (sym c.deref.ensures.value) ∙ zero))

pub returns-in-Err-clause-durable : goal.returns-in-Err-clause-durable
returns-in-Err-clause-durable g c e =
    c.load.ensures.memory (c.in-Err.is ∙ ap (λ f. Err f) (only_memory c.in-Err.fault e (λ f. c.load.ensures.never_full (c.in-Err.is ∙ ap (λ f. Err f) f)) (λ f. c.load.ensures.never_failed (c.in-Err.is ∙ ap (λ f. Err f) f)) (λ f. c.load.ensures.never_broken (c.in-Err.is ∙ ap (λ f. Err f) f))))

pub returns-clause-durable : goal.returns-clause-durable
returns-clause-durable g c e =
    let is = c.in-Err-close.is in
    absurd (c.close.ensures.never_memory (is ∙ ap (λ f. Err f) (only_memory c.in-Err-close.fault e (λ f. c.close.ensures.never_full (is ∙ ap (λ f. Err f) f)) (λ f. c.close.ensures.never_failed (is ∙ ap (λ f. Err f) f)) (λ f. c.close.ensures.never_broken (is ∙ ap (λ f. Err f) f)))))
