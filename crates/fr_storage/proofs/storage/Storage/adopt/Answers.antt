use Rattle.std.proofs.Common.{sym, ap, ◌∙◌}
use Rattle.fr_undo.specs.State.{StoreState}
use Rattle.fr_storage.proofs.Servers.{opened}
use Rattle.fr_storage.proofs.storage.Storage.adopt.Goals as goal

pub invariant_of-result : goal.invariant_of-result
invariant_of-result g c =
    let store = g.S.ShardStore in
    opened store.state store.is_failed store.MayLeave (record { tag = c.args.tag; state = c.in_ok-state.state; applied = c.applied.result; floor = c.floor.result; store = c.kept_state.new.store; failed = _ })
    c.in_ok-state.ensures.spelled.0 c.in_ok-state.ensures.whole (ap (λ (t : StoreState). t.bytes) c.in_ok-state.ensures.same ∙ c.in_ok-state.ensures.spelled.1) (sym c.applied.ensures.value) (sym c.floor.ensures.value)
