use Rattle.std.proofs.Common.{◌≡◌, ℕ, [], List, map, min, subst, ap, ◌∙◌}
use Rattle.fr_storage.specs.Storage.{Call, after_calls, records_between, apply_of, advance_calls, forget_calls, cut_at}
use Rattle.fr_storage.specs.Server.{LeavesStages}
use Rattle.fr_storage.proofs.Left.{on_err, not_ok}
use Rattle.fr_storage.proofs.Pulls.{rise, applies, advances, ends, at_records, at_advance, at_forget, no_records, no_advance, no_forget}
use Rattle.fr_storage.proofs.storage.peeked.pull.Goals as goal

pub apply_new-requires-clause-rise : goal.apply_new-requires-clause-rise
apply_new-requires-clause-rise g c = rw c.records.ensures.value (rise c.args.peeked.now c.records.ensures.sound)

pub returns-in_err-apply_new-clause-idle : goal.returns-in_err-apply_new-clause-idle
returns-in_err-apply_new-clause-idle g c none =
    let s = g.S.ShardStore.state c.args.store.now in
    let end = c.args.reach.now.end in
    let new : records_between c.args.reach.now.applied end c.records.result.now ≡ [] =
    (λ i. records_between (c.requires.applied i) end (c.records.ensures.value i)) ∙ no_records s end c.args.peeked.now none in
    not_ok c.apply_new.result c.in_err-apply_new.field-0.0 c.in_err-apply_new.was (c.apply_new.ensures.idle new)

pub returns-in_err-apply_new-clause-leaves : goal.returns-in_err-apply_new-clause-leaves
returns-in_err-apply_new-clause-leaves g c =
    let s = g.S.ShardStore.state c.args.store.now in
    let end = c.args.reach.now.end in
    let M = g.S.ShardStore.MayLeave c.apply_new.new.store in
    let calls : map apply_of (records_between c.args.reach.now.applied end c.records.result.now) ≡ applies s end c.args.peeked.now =
    λ i. map apply_of (records_between (c.requires.applied i) end (c.records.ensures.value i)) in
    on_err c.from_residual.result (at_records s end c.args.peeked.now M (subst (λ (cs : List Call). LeavesStages M s cs) calls c.in_err-apply_new.ensures.leaves))

pub returns-in_err-advance_to-clause-idle : goal.returns-in_err-advance_to-clause-idle
returns-in_err-advance_to-clause-idle g c none =
    let s = g.S.ShardStore.state c.args.store.now in
    let end = c.args.reach.now.end in
    let first = g.S.ShardStore.state c.apply_new.new.store in
    let first_is : first ≡ after_calls s (applies s end c.args.peeked.now) =
    c.in_ok-apply_new.ensures.ok ∙ (λ i. after_calls s (map apply_of (records_between (c.requires.applied i) end (c.records.ensures.value i)))) in
    let target : c.cut.result ≡ cut_at end c.args.peeked.now.upto = c.cut.ensures ∙ ap (cut_at end) c.upto.ensures.value in
    let nothing : advance_calls first.applied c.cut.result ≡ [] = ap (advance_calls first.applied) target ∙ no_advance s end c.args.peeked.now first first_is none in
    not_ok c.advance_to.result c.in_err-advance_to.field-0.0 c.in_err-advance_to.was (c.advance_to.ensures.idle nothing)

pub returns-in_err-advance_to-clause-leaves : goal.returns-in_err-advance_to-clause-leaves
returns-in_err-advance_to-clause-leaves g c =
    let s = g.S.ShardStore.state c.args.store.now in
    let end = c.args.reach.now.end in
    let M = g.S.ShardStore.MayLeave c.advance_to.new.store in
    let first = g.S.ShardStore.state c.apply_new.new.store in
    let first_is : first ≡ after_calls s (applies s end c.args.peeked.now) =
    c.in_ok-apply_new.ensures.ok ∙ (λ i. after_calls s (map apply_of (records_between (c.requires.applied i) end (c.records.ensures.value i)))) in
    let target : c.cut.result ≡ cut_at end c.args.peeked.now.upto = c.cut.ensures ∙ ap (cut_at end) c.upto.ensures.value in
    on_err c.from_residual-in_err-advance_to.result
    (at_advance s end c.args.peeked.now M first first_is (subst (λ (n : ℕ). LeavesStages M first (advance_calls first.applied n)) target c.in_err-advance_to.ensures.leaves))

pub returns-in_err-forget_known-clause-idle : goal.returns-in_err-forget_known-clause-idle
returns-in_err-forget_known-clause-idle g c none =
    let s = g.S.ShardStore.state c.args.store.now in
    let end = c.args.reach.now.end in
    let first = g.S.ShardStore.state c.apply_new.new.store in
    let second = g.S.ShardStore.state c.advance_to.new.store in
    let first_is : first ≡ after_calls s (applies s end c.args.peeked.now) =
    c.in_ok-apply_new.ensures.ok ∙ (λ i. after_calls s (map apply_of (records_between (c.requires.applied i) end (c.records.ensures.value i)))) in
    let target : c.cut.result ≡ cut_at end c.args.peeked.now.upto = c.cut.ensures ∙ ap (cut_at end) c.upto.ensures.value in
    let second_is : second ≡ after_calls first (advances s end c.args.peeked.now first) = c.in_ok-advance_to.ensures.ok ∙ ap (λ (n : ℕ). after_calls first (advance_calls first.applied n)) target in
    let nothing : forget_calls second.floor (min c.known.result second.applied) ≡ [] =
    ap (λ (n : ℕ). forget_calls second.floor (min n second.applied)) c.known.ensures.value ∙ no_forget s end c.args.peeked.now first second first_is second_is none in
    not_ok c.forget_known.result c.in_err-forget_known.field-0.0 c.in_err-forget_known.was (c.forget_known.ensures.idle nothing)

pub returns-in_err-forget_known-clause-leaves : goal.returns-in_err-forget_known-clause-leaves
returns-in_err-forget_known-clause-leaves g c =
    let s = g.S.ShardStore.state c.args.store.now in
    let end = c.args.reach.now.end in
    let M = g.S.ShardStore.MayLeave c.forget_known.new.store in
    let first = g.S.ShardStore.state c.apply_new.new.store in
    let second = g.S.ShardStore.state c.advance_to.new.store in
    let first_is : first ≡ after_calls s (applies s end c.args.peeked.now) =
    c.in_ok-apply_new.ensures.ok ∙ (λ i. after_calls s (map apply_of (records_between (c.requires.applied i) end (c.records.ensures.value i)))) in
    let target : c.cut.result ≡ cut_at end c.args.peeked.now.upto = c.cut.ensures ∙ ap (cut_at end) c.upto.ensures.value in
    let second_is : second ≡ after_calls first (advances s end c.args.peeked.now first) = c.in_ok-advance_to.ensures.ok ∙ ap (λ (n : ℕ). after_calls first (advance_calls first.applied n)) target in
    on_err c.from_residual-in_err-forget_known.result
    (at_forget s end c.args.peeked.now M first second first_is second_is
    (subst (λ (n : ℕ). LeavesStages M second (forget_calls second.floor (min n second.applied))) c.known.ensures.value c.in_err-forget_known.ensures.leaves))

pub returns-clause-ok : goal.returns-clause-ok
returns-clause-ok g c =
    let s = g.S.ShardStore.state c.args.store.now in
    let end = c.args.reach.now.end in
    let first = g.S.ShardStore.state c.apply_new.new.store in
    let second = g.S.ShardStore.state c.advance_to.new.store in
    let first_is : first ≡ after_calls s (applies s end c.args.peeked.now) =
    c.in_ok-apply_new.ensures.ok ∙ (λ i. after_calls s (map apply_of (records_between (c.requires.applied i) end (c.records.ensures.value i)))) in
    let target : c.cut.result ≡ cut_at end c.args.peeked.now.upto = c.cut.ensures ∙ ap (cut_at end) c.upto.ensures.value in
    let second_is : second ≡ after_calls first (advances s end c.args.peeked.now first) = c.in_ok-advance_to.ensures.ok ∙ ap (λ (n : ℕ). after_calls first (advance_calls first.applied n)) target in
    ends s end c.args.peeked.now first second (g.S.ShardStore.state c.forget_known.new.store) first_is second_is
    (c.in_ok-forget_known.ensures.ok ∙ ap (λ (n : ℕ). after_calls second (forget_calls second.floor (min n second.applied))) c.known.ensures.value)
