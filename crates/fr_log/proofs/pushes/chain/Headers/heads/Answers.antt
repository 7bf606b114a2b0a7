use Rattle.std.proofs.Common.{rules, ◌+◌, ◌-◌, ◌<◌, length, get_or, leb, leb-true, leb-false, sym, ◌∙◌, ap, subst, arith}
use Rattle.std.specs.List.{list_any}
use Rattle.std.proofs.lemmas.List.Sorted.{IsPartitionPoint-from_clause, IsPartitionedBy-leb}
use Rattle.fr_log.specs.Pushes.{RiseFrom, is_headed}
use Rattle.fr_log.specs.Headers.{begins}
use Rattle.fr_log.proofs.Chaining.{begins_sorted, headed_in, headed_none}
use Rattle.fr_log.proofs.pushes.chain.Headers.heads.Goals as goal

pub returns-then-after-eq0 : goal.returns-then-after-eq0
returns-then-after-eq0 c =
    let p = c.args.push.now in
    let rs = c.self.inside.runs.items in
    let rises = subst (RiseFrom 0) (sym c.self.view_is) c.requires in
    let sorted = begins_sorted 0 rs c.self.invariant.0 rises in
    let parted = IsPartitionedBy-leb begins c.deref.result.now c.version-version.result (subst (Rattle.std.specs.List.Sorted.IsNonDecreasingBy begins) (sym c.deref.ensures.value) sorted) in
    let point = IsPartitionPoint-from_clause (λ r. leb (begins r) c.version-version.result) _ _ c.partition_point-after.ensures.partitioned parted (λ a r q k. search rules) in
    let count = ap length c.deref.ensures.value in
    let version = c.version-version.ensures.value in
    headed_none p 0 rs c.self.invariant.0 rises (λ d some.
    let high = leb-false _ _ (point.1 0 d (omega (arith, c.if-after-eq0.true)) (omega (arith, count, some))) in
    let same = ap (λ xs. begins (get_or xs 0 d)) c.deref.ensures.value in
    omega (arith, high, same, version))
    ∙ ap (list_any (is_headed p)) c.self.view_is

pub returns : goal.returns
returns c =
    let p = c.args.push.now in
    let rs = c.self.inside.runs.items in
    let n = c.partition_point-after.result - 1 in
    let rises = subst (RiseFrom 0) (sym c.self.view_is) c.requires in
    let sorted = begins_sorted 0 rs c.self.invariant.0 rises in
    let parted = IsPartitionedBy-leb begins c.deref.result.now c.version-version.result (subst (Rattle.std.specs.List.Sorted.IsNonDecreasingBy begins) (sym c.deref.ensures.value) sorted) in
    let point = IsPartitionPoint-from_clause (λ r. leb (begins r) c.version-version.result) _ _ c.partition_point-after.ensures.partitioned parted (λ a r q k. search rules) in
    let count = ap length c.deref.ensures.value in
    let bound = c.partition_point-after.ensures.bound in
    let version = c.version-version.ensures.value in
    let d = c.index.result.now in
    let within : n < length rs = omega (arith, bound, count, c.if-after-eq0.false) in
    let low = leb-true _ _ (point.0 n d (omega (arith, bound, count)) (omega (arith, c.if-after-eq0.false))) in
    let here = ap (λ xs. begins (get_or xs n d)) c.deref.ensures.value in
    c.heads.ensures ∙ ap (list_any (is_headed p)) c.index.ensures
    ∙ headed_in p 0 rs n d c.self.invariant.0 rises within (omega (arith, low, here, version)) (λ e more.
    let high = leb-false _ _ (point.1 (n + 1) e (omega (arith, c.if-after-eq0.false)) (omega (arith, count, more))) in
    let same = ap (λ xs. begins (get_or xs (n + 1) e)) c.deref.ensures.value in
    omega (arith, high, same, version))
    ∙ ap (list_any (is_headed p)) c.self.view_is
