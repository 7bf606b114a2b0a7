use Rattle.std.proofs.Common.{rules, ◌≡◌, true, false, None, refl, sym, ap, ◌∙◌, subst}
use Rattle.fr_undo.specs.State.{StoreState}
use Rattle.fr_storage.specs.declared.fault.StorageFault.TheVariants.{Stranger, BelowFloor}
use Rattle.fr_storage.specs.Server.{Server, IsServer, refusal_of}
use Rattle.fr_storage.specs.Course.{IsChosenBy}
use Rattle.fr_storage.proofs.Standing.{not_some, finds, failed_stands, opened_stands}
use Rattle.fr_storage.proofs.storage.Storage.reopen.Goals as goal

pub returns-in_err-reopen-clause-stands : goal.returns-in_err-reopen-clause-stands
returns-in_err-reopen-clause-stands g c pieces is_chosen are one trues standing =
    let store = g.S.ShardStore in
    let old = c.args.self.now in
    let new : Server g.row.S.Denot = record { tag = c.self.inside.tag; state = c.self.inside.state; applied = c.self.inside.applied; floor = c.self.inside.floor; store = c.reopen.new.self; failed = true } in
    let is : IsServer store.state store.is_failed store.MayLeave old = subst (IsServer store.state store.is_failed store.MayLeave) c.self.view_is c.self.invariant in
    let none : refusal_of c.from_residual.result ≡ None = search rules in (
      failed_stands store.state store.is_failed store.MayLeave pieces (IsChosenBy is_chosen) old new
          (finds store.state store.is_failed store.MayLeave pieces (IsChosenBy is_chosen) c.store_laws.ensures old is standing)
          (ap (λ (v : Server g.row.S.Denot). v.tag) c.self.view_is) refl
          (λ x may. subst (λ (v : Server g.row.S.Denot). store.MayLeave v.store x) c.self.view_is (c.reopen.ensures.leaves x may)),
      not_some (refusal_of c.from_residual.result) Stranger none,
      not_some (refusal_of c.from_residual.result) BelowFloor none,
    )

pub returns-in_err-state-clause-stands : goal.returns-in_err-state-clause-stands
returns-in_err-state-clause-stands g c pieces is_chosen are one trues standing =
    let store = g.S.ShardStore in
    let old = c.args.self.now in
    let new : Server g.row.S.Denot = record { tag = c.self.inside.tag; state = c.self.inside.state; applied = c.self.inside.applied; floor = c.self.inside.floor; store = c.kept_state.new.store; failed = true } in
    let is : IsServer store.state store.is_failed store.MayLeave old = subst (IsServer store.state store.is_failed store.MayLeave) c.self.view_is c.self.invariant in
    let none : refusal_of c.from_residual-in_err-state.result ≡ None = search rules in (
      failed_stands store.state store.is_failed store.MayLeave pieces (IsChosenBy is_chosen) old new
          (finds store.state store.is_failed store.MayLeave pieces (IsChosenBy is_chosen) c.store_laws.ensures old is standing)
          (ap (λ (v : Server g.row.S.Denot). v.tag) c.self.view_is) refl
          (λ x may. subst (λ (v : Server g.row.S.Denot). store.MayLeave v.store x) c.self.view_is (c.reopen.ensures.leaves x (c.kept_state.ensures.leaves x may))),
      not_some (refusal_of c.from_residual-in_err-state.result) Stranger none,
      not_some (refusal_of c.from_residual-in_err-state.result) BelowFloor none,
    )

pub returns-clause-stands : goal.returns-clause-stands
returns-clause-stands g c pieces is_chosen are one trues standing =
    let store = g.S.ShardStore in
    let old = c.args.self.now in
    let new : Server g.row.S.Denot =
    record { tag = c.self.inside.tag; state = c.in_ok-state.state; applied = c.applied-self-inside.result; floor = c.floor-self-inside.result; store = c.kept_state.new.store; failed = false } in
    let is : IsServer store.state store.is_failed store.MayLeave old = subst (IsServer store.state store.is_failed store.MayLeave) c.self.view_is c.self.invariant in
    let same : store.state c.kept_state.new.store ≡ store.state c.reopen.new.self = c.in_ok-state.ensures.same in (
      opened_stands store.state store.is_failed store.MayLeave pieces (IsChosenBy is_chosen) old new
          (finds store.state store.is_failed store.MayLeave pieces (IsChosenBy is_chosen) c.store_laws.ensures old is standing)
          (ap (λ (v : Server g.row.S.Denot). v.tag) c.self.view_is) refl
          (subst (λ (v : Server g.row.S.Denot). store.MayLeave v.store (store.state c.kept_state.new.store)) c.self.view_is (subst (store.MayLeave c.self.inside.store) (sym same) c.in_ok-reopen.ensures.ok))
          c.in_ok-state.ensures.spelled.0 (ap (λ (t : StoreState). t.bytes) same ∙ c.in_ok-state.ensures.spelled.1),
      (λ e. cc),
      (λ e. cc),
    )
