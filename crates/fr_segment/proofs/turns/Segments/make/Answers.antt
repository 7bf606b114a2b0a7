use Rattle.std.proofs.Common.{rules, ◌≡◌, inl, ◌+◌, ◌-◌, ◌^◌, ◌<◌, ◌||◌, min, [], List, ℕ, length, false, Err, refl, sym, ap, ◌∙◌, subst, ◌∷◌, arith}
use Rattle.std.proofs.lemmas.Result.{err_from_is_err_and}
use Rattle.fr_record.specs.Disk.{IsDurable}
use Rattle.fr_record.specs.declared.fault.RecordFault.TheVariants.{Device}
use Rattle.fr_segment.specs.declared.health.Health.TheVariants.{Works}
use Rattle.fr_segment.specs.File.{with_group}
use Rattle.fr_segment.specs.Header.{header}
use Rattle.fr_segment.specs.Turns.{own_records}
use Rattle.fr_segment.specs.Way.{IsWay}
use Rattle.fr_segment.proofs.InTurn.{state, resting}
use Rattle.fr_segment.proofs.Opened.{made}
use Rattle.fr_segment.proofs.turns.Segments.make.Goals as goal

pub returns-in_err-append_group-clause-device : goal.returns-in_err-append_group-clause-device
returns-in_err-append_group-clause-device g c e =
    let p = err_from_is_err_and c.from_residual-in_err-append_group.result c.from_residual-in_err-append_group.ensures.1 in
    let same : c.in_err-append_group.field-0.0 ≡ Device = cc (p.1, p.2, e) in
    let fails = c.append_group.ensures.device (c.in_err-append_group.was ∙ ap (λ f. Err f) same) in
    inl (c.append_group.new.self.device, fails ∙ ap (λ (n : ℕ). min (n + 1) (2 ^ 64 - 1)) c.in_ok-current.ensures.failures)

pub invariant_of-result : goal.invariant_of-result
invariant_of-result g c =
    let who : c.as_slice-2.result.now ≡ c.args.identity = search rules in
    let who_first : c.as_slice.result.now ≡ c.args.identity = search rules in
    let long = ap length who_first in
    let brief : length c.args.identity + 19 < 2 ^ 32 = omega (arith, c.if-limited-need.false, c.limited.ensures, c.saturating_add-need.ensures, long) in
    let headed : c.in_ok-header.field-0.items ≡ header 1 c.args.identity = c.in_ok-header.ensures ∙ ap (λ l. header 1 l) who in
    let grown : c.append_group.new.self.groups ≡ (header 1 c.args.identity ∷ []) ∷ [] =
    c.in_ok-append_group.ensures.ok ∙ ap (λ gs. with_group gs (c.in_ok-header.field-0.items ∷ [])) c.in_ok-current.ensures.groups ∙ ap (λ (h : List ℕ). (h ∷ []) ∷ []) headed in
    let works : c.append_group.new.self.is_failed ≡ false = c.in_ok-append_group.ensures.fails ∙ ap (λ b. b || false) c.in_ok-current.ensures.works in
    let durable = subst (λ d. IsDurable (g.D.Device.disk d)) (sym c.into_device-other.ensures) c.in_ok-format.ensures.durable in
    let is = ap (λ d. (g.D.Device.disk d).content) c.into_device-other.ensures ∙ c.in_ok-format.ensures.content in
    made g.D.Device.disk c.append_group.new.self c.into_device-other.result 1 c.args.identity works c.in_ok-append_group.ensures.kept durable (g.D.Device.disk c.args.second).content (omega arith) brief grown is

pub returns-clause-kept : goal.returns-clause-kept
returns-clause-kept g c =
    let who : c.as_slice-2.result.now ≡ c.args.identity = search rules in
    let who_first : c.as_slice.result.now ≡ c.args.identity = search rules in
    let long = ap length who_first in
    let brief : length c.args.identity + 19 < 2 ^ 32 = omega (arith, c.if-limited-need.false, c.limited.ensures, c.saturating_add-need.ensures, long) in
    let headed : c.in_ok-header.field-0.items ≡ header 1 c.args.identity = c.in_ok-header.ensures ∙ ap (λ l. header 1 l) who in
    let grown : c.append_group.new.self.groups ≡ (header 1 c.args.identity ∷ []) ∷ [] =
    c.in_ok-append_group.ensures.ok ∙ ap (λ gs. with_group gs (c.in_ok-header.field-0.items ∷ [])) c.in_ok-current.ensures.groups ∙ ap (λ (h : List ℕ). (h ∷ []) ∷ []) headed in
    let works : c.append_group.new.self.is_failed ≡ false = c.in_ok-append_group.ensures.fails ∙ ap (λ b. b || false) c.in_ok-current.ensures.works in
    let durable = subst (λ d. IsDurable (g.D.Device.disk d)) (sym c.into_device-other.ensures) c.in_ok-format.ensures.durable in
    let is = ap (λ d. (g.D.Device.disk d).content) c.into_device-other.ensures ∙ c.in_ok-format.ensures.content in
    let it = made g.D.Device.disk c.append_group.new.self c.into_device-other.result 1 c.args.identity works c.in_ok-append_group.ensures.kept durable (g.D.Device.disk c.args.second).content (omega arith) brief grown is in
    subst (λ l. IsWay g.D.Device.Led g.D.Device.disk (λ rs. rs ≡ l) (state g.D.Device.Led g.D.Device.disk c.append_group.new.self c.into_device-other.result 1 c.args.identity Works) (state g.D.Device.Led g.D.Device.disk c.append_group.new.self c.into_device-other.result 1 c.args.identity Works)) (ap own_records grown)
    (resting g.D.Device.Led g.D.Device.disk c.append_group.new.self c.into_device-other.result 1 c.args.identity Works it refl)
