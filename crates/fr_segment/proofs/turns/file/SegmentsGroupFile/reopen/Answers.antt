use Rattle.std.proofs.Common.{◌≡◌, ◌⊎◌, inr, ◌<◌, ℕ, false, Some, None, Ok, Err, sym, ap, subst, ◌∙◌, arith}
use Rattle.std.specs.Prelude.{OnOk, OnErr}
use Rattle.fr_record.specs.declared.fault.RecordFault.TheVariants.{Device, Full, Failed, Broken}
use Rattle.fr_segment.specs.declared.health.Health.TheVariants.{Works}
use Rattle.fr_segment.specs.Health.{has_failed, failed_now, owed_by}
use Rattle.fr_segment.specs.PairLaws.{way_joined}
use Rattle.fr_segment.specs.Turns.{BeginsWith, own_records}
use Rattle.fr_segment.specs.Way.{IsWay}
use Rattle.fr_segment.proofs.ReopenFaults.{on_ok, on_err, not_of, never_of, owes_err, fails_err, owes_still, fails_so, owes_same, fails_same}
use Rattle.fr_segment.proofs.Reopening.{older_same, begins_same}
use Rattle.fr_segment.proofs.RenewRun.{err_tells}
use Rattle.fr_segment.proofs.turns.file.SegmentsGroupFile.reopen.Goals as goal

pub returns-in-Err-clause-err : goal.returns-in-Err-clause-err
returns-in-Err-clause-err g c =
    ap own_records c.in-Err.ensures.groups

pub returns-in-Err-clause-owes_still : goal.returns-in-Err-clause-owes_still
returns-in-Err-clause-owes_still g c =
    owes_err c.in-Err.fault c.turn.new.self.groups c.args.self.now.groups c.turn.new.self.health c.args.self.now.health c.in-Err.ensures.groups (λ never. c.in-Err.ensures.health (λ e. never (cc e))) (λ e. c.in-Err.ensures.fails (ap (λ f. Err f) e))

pub returns-in-Err-clause-fails : goal.returns-in-Err-clause-fails
returns-in-Err-clause-fails g c =
    fails_err c.in-Err.fault c.turn.new.self.health c.args.self.now.health (λ never. c.in-Err.ensures.health (λ e. never (cc e))) (λ e. c.in-Err.ensures.fails (ap (λ f. Err f) e))

pub returns-in-Err-clause-never_full : goal.returns-in-Err-clause-never_full
returns-in-Err-clause-never_full g c e =
    let is : c.in-Err.fault ≡ Full = cc e in not_of c.in-Err.fault Full c.in-Err.ensures.only (λ x. cc x) (λ x. cc x) is

pub returns-in-Err-clause-never_failed : goal.returns-in-Err-clause-never_failed
returns-in-Err-clause-never_failed g c e =
    let is : c.in-Err.fault ≡ Failed = cc e in not_of c.in-Err.fault Failed c.in-Err.ensures.only (λ x. cc x) (λ x. cc x) is

pub returns-in-Err-clause-never_broken : goal.returns-in-Err-clause-never_broken
returns-in-Err-clause-never_broken g c e =
    let is : c.in-Err.fault ≡ Broken = cc e in not_of c.in-Err.fault Broken c.in-Err.ensures.only (λ x. cc x) (λ x. cc x) is

pub returns-in-Err-clause-device : goal.returns-in-Err-clause-device
returns-in-Err-clause-device g c e =
    let is : c.in-Err.fault ≡ Device = cc e in c.in-Err.ensures.device (ap (λ f. Err f) is)

pub returns-in-Err-clause-any_moment : goal.returns-in-Err-clause-any_moment
returns-in-Err-clause-any_moment g c =
    c.in-Err.ensures.any_moment

pub reopen_current-requires-clause-older : goal.reopen_current-requires-clause-older
reopen_current-requires-clause-older g c =
    older_same c.args.self.now.number c.turn.new.self.number c.args.self.now.identity c.turn.new.self.identity (g.D.Device.disk c.args.self.now.other).content (g.D.Device.disk c.turn.new.self.other).content c.in-Ok.ensures.number c.in-Ok.ensures.identity c.in-Ok.ensures.other.same (c.in-Ok.ensures.former c.in-Former.field-0 (ap (λ t. Ok t) c.in-Former.is))

pub reopen_current-requires-clause-durable : goal.reopen_current-requires-clause-durable
reopen_current-requires-clause-durable g c =
    c.in-Ok.ensures.durable.1

pub reopen_other-requires-clause-newer : goal.reopen_other-requires-clause-newer
reopen_other-requires-clause-newer g c =
    begins_same c.in-Latter.number c.args.self.now.identity c.turn.new.self.identity (g.D.Device.disk c.args.self.now.other).content (g.D.Device.disk c.turn.new.self.other).content c.in-Ok.ensures.identity c.in-Ok.ensures.other.same (c.in-Ok.ensures.latter c.in-Latter.number (ap (λ t. Ok t) c.in-Latter.is)).0

pub reopen_other-requires-clause-greater : goal.reopen_other-requires-clause-greater
reopen_other-requires-clause-greater g c =
    subst (λ (k : ℕ). k < c.in-Latter.number) (sym c.in-Ok.ensures.number) (c.in-Ok.ensures.latter c.in-Latter.number (ap (λ t. Ok t) c.in-Latter.is)).1

pub reopen_other-requires-clause-older : goal.reopen_other-requires-clause-older
reopen_other-requires-clause-older g c =
    subst (λ (k : ℕ). BeginsWith k c.turn.new.self.identity (g.D.Device.disk c.turn.new.self.current).content) (sym c.in-Ok.ensures.number) (begins_same c.args.self.now.number c.args.self.now.identity c.turn.new.self.identity (g.D.Device.disk c.args.self.now.current).content (g.D.Device.disk c.turn.new.self.current).content c.in-Ok.ensures.identity c.in-Ok.ensures.current.same (c.in-Ok.ensures.latter c.in-Latter.number (ap (λ t. Ok t) c.in-Latter.is)).2)

pub reopen_other-requires-clause-durable : goal.reopen_other-requires-clause-durable
reopen_other-requires-clause-durable g c =
    c.in-Ok.ensures.durable.0

pub reopen_other-requires-clause-durable_other : goal.reopen_other-requires-clause-durable_other
reopen_other-requires-clause-durable_other g c =
    c.in-Ok.ensures.durable.1

pub returns-in-Former-clause-left : goal.returns-in-Former-clause-left
returns-in-Former-clause-left g c =
    let still : c.turn.new.self.health ≡ c.args.self.now.health = c.in-Ok.ensures.health (λ e. cc e) in
    subst (λ h. OnOk c.reopen_current.result ((own_records c.reopen_current.new.self.groups ≡ own_records c.args.self.now.groups) ⊎ (owed_by (own_records c.args.self.now.groups) h ≡ Some (own_records c.reopen_current.new.self.groups)))) still
    (subst (λ gs. OnOk c.reopen_current.result ((own_records c.reopen_current.new.self.groups ≡ own_records gs) ⊎ (owed_by (own_records gs) c.turn.new.self.health ≡ Some (own_records c.reopen_current.new.self.groups)))) c.in-Ok.ensures.groups c.reopen_current.ensures.left)

pub returns-in-Former-clause-works : goal.returns-in-Former-clause-works
returns-in-Former-clause-works g c =
    on_ok (c.reopen_current.new.self.health ≡ Works) (has_failed c.reopen_current.new.self.health ≡ false) c.reopen_current.result (λ e. ap has_failed e) c.reopen_current.ensures.works

pub returns-in-Former-clause-free : goal.returns-in-Former-clause-free
returns-in-Former-clause-free g c =
    on_ok (c.reopen_current.new.self.health ≡ Works) (owed_by (own_records c.reopen_current.new.self.groups) c.reopen_current.new.self.health ≡ None) c.reopen_current.result (λ e. ap (λ h. owed_by (own_records c.reopen_current.new.self.groups) h) e) c.reopen_current.ensures.works

pub returns-in-Former-clause-kept : goal.returns-in-Former-clause-kept
returns-in-Former-clause-kept g c =
    c.reopen_current.ensures.kept

pub returns-in-Former-clause-err : goal.returns-in-Former-clause-err
returns-in-Former-clause-err g c =
    on_err (c.reopen_current.new.self.groups ≡ c.turn.new.self.groups) (own_records c.reopen_current.new.self.groups ≡ own_records c.args.self.now.groups) c.reopen_current.result (λ e. ap own_records (e ∙ c.in-Ok.ensures.groups)) c.reopen_current.ensures.err

pub returns-in-Former-clause-owes_still : goal.returns-in-Former-clause-owes_still
returns-in-Former-clause-owes_still g c =
    let still : c.turn.new.self.health ≡ c.args.self.now.health = c.in-Ok.ensures.health (λ e. cc e) in
    owes_still c.reopen_current.result c.reopen_current.new.self.groups c.args.self.now.groups c.reopen_current.new.self.health c.args.self.now.health (on_err (c.reopen_current.new.self.groups ≡ c.turn.new.self.groups) (c.reopen_current.new.self.groups ≡ c.args.self.now.groups) c.reopen_current.result (λ e. e ∙ c.in-Ok.ensures.groups) c.reopen_current.ensures.err) (subst (λ h. OnErr c.reopen_current.result ((c.reopen_current.result ≡ Err Device → ⊥) → c.reopen_current.new.self.health ≡ h)) still c.reopen_current.ensures.health) (λ e. c.reopen_current.ensures.fails e ∙ ap failed_now still)

pub returns-in-Former-clause-fails : goal.returns-in-Former-clause-fails
returns-in-Former-clause-fails g c =
    let still : c.turn.new.self.health ≡ c.args.self.now.health = c.in-Ok.ensures.health (λ e. cc e) in
    fails_so c.reopen_current.result c.reopen_current.new.self.groups c.args.self.now.groups c.reopen_current.new.self.health c.args.self.now.health (subst (λ h. OnErr c.reopen_current.result ((c.reopen_current.result ≡ Err Device → ⊥) → c.reopen_current.new.self.health ≡ h)) still c.reopen_current.ensures.health) (λ e. c.reopen_current.ensures.fails e ∙ ap failed_now still)

pub returns-in-Former-clause-never_full : goal.returns-in-Former-clause-never_full
returns-in-Former-clause-never_full g c =
    never_of c.reopen_current.result Full c.reopen_current.ensures.only (λ x. cc x) (λ x. cc x)

pub returns-in-Former-clause-never_failed : goal.returns-in-Former-clause-never_failed
returns-in-Former-clause-never_failed g c =
    never_of c.reopen_current.result Failed c.reopen_current.ensures.only (λ x. cc x) (λ x. cc x)

pub returns-in-Former-clause-never_broken : goal.returns-in-Former-clause-never_broken
returns-in-Former-clause-never_broken g c =
    never_of c.reopen_current.result Broken c.reopen_current.ensures.only (λ x. cc x) (λ x. cc x)

pub returns-in-Former-clause-device : goal.returns-in-Former-clause-device
returns-in-Former-clause-device g c e =
    let fails = c.reopen_current.ensures.device e in
    let other = ap (λ x. g.D.Device.failures_of x) c.reopen_current.ensures.other in
    let none = c.in-Ok.ensures.no_failure in
    omega (arith, fails, other, none.0, none.1)

pub returns-in-Former-clause-any_moment : goal.returns-in-Former-clause-any_moment
returns-in-Former-clause-any_moment g c =
    let still : c.turn.new.self.health ≡ c.args.self.now.health = c.in-Ok.ensures.health (λ e. cc e) in
    way_joined g.D.Device.Led g.D.Device.disk (λ rs. (rs ≡ own_records c.args.self.now.groups) ⊎ (owed_by (own_records c.args.self.now.groups) c.args.self.now.health ≡ Some rs)) c.args.self.now c.turn.new.self c.reopen_current.new.self c.in-Ok.ensures.any_moment
    (subst (λ h. IsWay g.D.Device.Led g.D.Device.disk (λ rs. (rs ≡ own_records c.args.self.now.groups) ⊎ (owed_by (own_records c.args.self.now.groups) h ≡ Some rs)) c.turn.new.self c.reopen_current.new.self) still
    (subst (λ gs. IsWay g.D.Device.Led g.D.Device.disk (λ rs. (rs ≡ own_records gs) ⊎ (owed_by (own_records gs) c.turn.new.self.health ≡ Some rs)) c.turn.new.self c.reopen_current.new.self) c.in-Ok.ensures.groups c.reopen_current.ensures.any_moment))

pub returns-in-Latter-clause-left : goal.returns-in-Latter-clause-left
returns-in-Latter-clause-left g c =
    let still : c.turn.new.self.health ≡ c.args.self.now.health = c.in-Ok.ensures.health (λ e. cc e) in
    on_ok (owed_by (own_records c.args.self.now.groups) c.args.self.now.health ≡ Some (own_records c.reopen_other.new.self.groups)) ((own_records c.reopen_other.new.self.groups ≡ own_records c.args.self.now.groups) ⊎ (owed_by (own_records c.args.self.now.groups) c.args.self.now.health ≡ Some (own_records c.reopen_other.new.self.groups))) c.reopen_other.result (λ x. inr x)
    (subst (λ h. OnOk c.reopen_other.result (owed_by (own_records c.args.self.now.groups) h ≡ Some (own_records c.reopen_other.new.self.groups))) still (subst (λ gs. OnOk c.reopen_other.result (owed_by (own_records gs) c.turn.new.self.health ≡ Some (own_records c.reopen_other.new.self.groups))) c.in-Ok.ensures.groups c.reopen_other.ensures.left))

pub returns-in-Latter-clause-works : goal.returns-in-Latter-clause-works
returns-in-Latter-clause-works g c =
    on_ok (c.reopen_other.new.self.health ≡ Works) (has_failed c.reopen_other.new.self.health ≡ false) c.reopen_other.result (λ e. ap has_failed e) c.reopen_other.ensures.works

pub returns-in-Latter-clause-free : goal.returns-in-Latter-clause-free
returns-in-Latter-clause-free g c =
    on_ok (c.reopen_other.new.self.health ≡ Works) (owed_by (own_records c.reopen_other.new.self.groups) c.reopen_other.new.self.health ≡ None) c.reopen_other.result (λ e. ap (λ h. owed_by (own_records c.reopen_other.new.self.groups) h) e) c.reopen_other.ensures.works

pub returns-in-Latter-clause-kept : goal.returns-in-Latter-clause-kept
returns-in-Latter-clause-kept g c =
    c.reopen_other.ensures.kept

pub returns-in-Latter-clause-err : goal.returns-in-Latter-clause-err
returns-in-Latter-clause-err g c =
    on_err (c.reopen_other.new.self.groups ≡ c.turn.new.self.groups) (own_records c.reopen_other.new.self.groups ≡ own_records c.args.self.now.groups) c.reopen_other.result (λ e. ap own_records (e ∙ c.in-Ok.ensures.groups)) c.reopen_other.ensures.err

pub returns-in-Latter-clause-owes_still : goal.returns-in-Latter-clause-owes_still
returns-in-Latter-clause-owes_still g c =
    let still : c.turn.new.self.health ≡ c.args.self.now.health = c.in-Ok.ensures.health (λ e. cc e) in
    owes_same c.reopen_other.result c.reopen_other.new.self.groups c.args.self.now.groups c.reopen_other.new.self.health c.args.self.now.health (on_err (c.reopen_other.new.self.groups ≡ c.turn.new.self.groups) (c.reopen_other.new.self.groups ≡ c.args.self.now.groups) c.reopen_other.result (λ e. e ∙ c.in-Ok.ensures.groups) c.reopen_other.ensures.err) (on_err (c.reopen_other.new.self.health ≡ c.turn.new.self.health) (c.reopen_other.new.self.health ≡ c.args.self.now.health) c.reopen_other.result (λ e. e ∙ still) c.reopen_other.ensures.health)

pub returns-in-Latter-clause-fails : goal.returns-in-Latter-clause-fails
returns-in-Latter-clause-fails g c =
    let still : c.turn.new.self.health ≡ c.args.self.now.health = c.in-Ok.ensures.health (λ e. cc e) in
    fails_same c.reopen_other.result c.reopen_other.new.self.groups c.args.self.now.groups c.reopen_other.new.self.health c.args.self.now.health (ap has_failed (sym still) ∙ c.reopen_other.ensures.failed) (on_err (c.reopen_other.new.self.health ≡ c.turn.new.self.health) (c.reopen_other.new.self.health ≡ c.args.self.now.health) c.reopen_other.result (λ e. e ∙ still) c.reopen_other.ensures.health)

pub returns-in-Latter-clause-never_full : goal.returns-in-Latter-clause-never_full
returns-in-Latter-clause-never_full g c =
    never_of c.reopen_other.result Full c.reopen_other.ensures.only (λ x. cc x) (λ x. cc x)

pub returns-in-Latter-clause-never_failed : goal.returns-in-Latter-clause-never_failed
returns-in-Latter-clause-never_failed g c =
    never_of c.reopen_other.result Failed c.reopen_other.ensures.only (λ x. cc x) (λ x. cc x)

pub returns-in-Latter-clause-never_broken : goal.returns-in-Latter-clause-never_broken
returns-in-Latter-clause-never_broken g c =
    never_of c.reopen_other.result Broken c.reopen_other.ensures.only (λ x. cc x) (λ x. cc x)

pub returns-in-Latter-clause-device : goal.returns-in-Latter-clause-device
returns-in-Latter-clause-device g c e =
    let fails = c.reopen_other.ensures.device e in
    let current = ap (λ x. g.D.Device.failures_of x) (err_tells (c.reopen_other.new.self.current ≡ c.turn.new.self.current) c.reopen_other.result Device e c.reopen_other.ensures.same) in
    let none = c.in-Ok.ensures.no_failure in
    omega (arith, fails, current, none.0, none.1)

pub returns-in-Latter-clause-any_moment : goal.returns-in-Latter-clause-any_moment
returns-in-Latter-clause-any_moment g c =
    let still : c.turn.new.self.health ≡ c.args.self.now.health = c.in-Ok.ensures.health (λ e. cc e) in
    way_joined g.D.Device.Led g.D.Device.disk (λ rs. (rs ≡ own_records c.args.self.now.groups) ⊎ (owed_by (own_records c.args.self.now.groups) c.args.self.now.health ≡ Some rs)) c.args.self.now c.turn.new.self c.reopen_other.new.self c.in-Ok.ensures.any_moment
    (subst (λ h. IsWay g.D.Device.Led g.D.Device.disk (λ rs. (rs ≡ own_records c.args.self.now.groups) ⊎ (owed_by (own_records c.args.self.now.groups) h ≡ Some rs)) c.turn.new.self c.reopen_other.new.self) still
    (subst (λ gs. IsWay g.D.Device.Led g.D.Device.disk (λ rs. (rs ≡ own_records gs) ⊎ (owed_by (own_records gs) c.turn.new.self.health ≡ Some rs)) c.turn.new.self c.reopen_other.new.self) c.in-Ok.ensures.groups c.reopen_other.ensures.any_moment))
