use Rattle.std.proofs.Common.{rules, ◌≡◌, ℕ, Bool, true, cond, min, nat_lt, [], ◌∷◌, subst, sym}
use Rattle.fr_storage.specs.Storage.{Forget, forget_calls}
use Rattle.fr_storage.specs.Server.{LeavesStages}
use Rattle.fr_storage.proofs.Left.{on_err, refused_stages}
use Rattle.fr_storage.proofs.storage.peeked.forget_known.Goals as goal

pub returns-in_err-forget_through-clause-leaves : goal.returns-in_err-forget_through-clause-leaves
returns-in_err-forget_through-clause-leaves g c =
    let store = g.S.ShardStore in
    let s = store.state c.args.store.now in
    let M = store.MayLeave c.forget_through.new.self in
    let through = c.min-through.result in
    let is : through ≡ min c.args.known s.applied = search rules in
    let above : nat_lt s.floor through ≡ true = search rules in
    on_err c.from_residual.result (subst (λ (n : ℕ). LeavesStages M s (forget_calls s.floor n)) is
    (subst (λ (b : Bool). LeavesStages M s (cond b (Forget through ∷ []) [])) (sym above)
    (refused_stages store.state store.is_failed store.MayLeave c.args.store.now c.forget_through.new.self (Forget through) [] c.forget_through.result c.in_err-forget_through.field-0.0 c.in_err-forget_through.was c.requires.whole c.forget_through.ensures.writes)))
