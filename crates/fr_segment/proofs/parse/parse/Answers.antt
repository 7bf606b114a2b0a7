use Rattle.std.proofs.Common.{rules, ◌≡◌, ◌+◌, ◌-◌, ◌<◌, ◌≤◌, ℕ, List, true, false, length, refl, ap, sym, subst, ◌∙◌, take, drop, get_or, arith, Err}
use Rattle.fr_record.specs.declared.fault.RecordFault.TheVariants.{Broken}
use Rattle.fr_segment.specs.File.{IsClosedAt, body}
use Rattle.fr_segment.proofs.FileLemmas.{groups_long}
use Rattle.fr_segment.proofs.ReadMore.{at_is}
use Rattle.fr_segment.proofs.ParseLemmas.{IsSoFar, nothing_read, all_read, all_stand, no_gate, next, block_same, one_more, last_closed, torn_parsed, torn_stands, torn_gate}
use Rattle.fr_segment.proofs.parse.parse.Goals as goal

pub returns-then-is_closed-clause-parsed : goal.returns-then-is_closed-clause-parsed
returns-then-is_closed-clause-parsed c =
    let closed = c.is_closed.ensures.0 c.if-is_closed.true in
    all_read c.args.bytes.now c.loop-at.table.items c.loop-at.at c.loop-at.count c.loop-at.invariant.so_far closed.0 closed.1

pub returns-then-is_closed-clause-stands : goal.returns-then-is_closed-clause-stands
returns-then-is_closed-clause-stands c =
    let closed = c.is_closed.ensures.0 c.if-is_closed.true in
    all_stand c.args.bytes.now c.loop-at.table.items c.loop-at.at c.loop-at.count c.loop-at.invariant.so_far closed.0 closed.1

pub returns-in-None-clause-broken : goal.returns-in-None-clause-broken
returns-in-None-clause-broken c e gs stands =
    let within : c.loop-at.at + 1 < length c.args.bytes.now = omega (arith, c.loop-at-test.true) in
    let opens : IsClosedAt c.args.bytes.now c.loop-at.at → ⊥ = λ shut. (let is = c.is_closed.ensures.1 (within, shut) in absurd (cc (is, c.if-is_closed.false))) in
    let it = next c.args.bytes.now c.loop-at.table.items c.loop-at.at c.loop-at.count c.loop-at.invariant.so_far within opens gs stands in
    c.block_at.ensures.none c.in-None.is (body it.g) it.rest it.short it.is

pub returns-in-Err-clause-broken : goal.returns-in-Err-clause-broken
returns-in-Err-clause-broken c e gs stands =
    let at = c.loop-at.at in
    let n = c.in-Some.len in
    let within : at + 1 < length c.args.bytes.now = omega (arith, c.loop-at-test.true) in
    let opens : IsClosedAt c.args.bytes.now c.loop-at.at → ⊥ = λ shut. (let is = c.is_closed.ensures.1 (within, shut) in absurd (cc (is, c.if-is_closed.false))) in
    let it = next c.args.bytes.now c.loop-at.table.items c.loop-at.at c.loop-at.count c.loop-at.invariant.so_far within opens gs stands in
    let ten : at + 2 + 8 ≡ at + 10 = omega arith in
    let long : at + 10 + n - (at + 10) ≡ n = omega arith in
    let same = block_same c.args.bytes.now (at + 2) c.loop-at.count n c.in-Some.ensures.some (body it.g) it.rest it.short it.is in
    let fault : c.in-Err.fault ≡ Broken = cc e in
    c.add_records.ensures.broken (c.in-Err.is ∙ ap (λ f. Err f) fault) it.g it.short (ap (λ k. take k (drop (at + 10) c.args.bytes.now)) long ∙ ap (λ k. take n (drop k c.args.bytes.now)) (sym ten) ∙ same)

pub returns-then-not-is_closed-clause-broken : goal.returns-then-not-is_closed-clause-broken
returns-then-not-is_closed-clause-broken c e gs stands =
    let at = c.loop-at.at in
    let n = c.in-Some.len in
    let within : at + 1 < length c.args.bytes.now = omega (arith, c.loop-at-test.true) in
    let opens : IsClosedAt c.args.bytes.now c.loop-at.at → ⊥ = λ shut. (let is = c.is_closed.ensures.1 (within, shut) in absurd (cc (is, c.if-is_closed.false))) in
    let torn : (get_or c.args.bytes.now at 0 ≡ 1) × (get_or c.args.bytes.now (at + 1) 0 ≡ 1) → ⊥ = λ both. (let is = c.is_opened.ensures.1 both in absurd (cc (is, c.if-not-is_opened.true))) in
    let end = last_closed c.args.bytes.now c.loop-at.table.items at c.loop-at.count c.loop-at.invariant.so_far n c.in-Some.ensures.some c.add_records.new.table.items c.in-Ok.ensures.ok within torn opens gs stands in
    let is = c.is_closed-then-not-is_opened.ensures.1 end in
    absurd (cc (is, c.if-not-is_closed.true))

pub returns-then-not-is_opened-clause-parsed : goal.returns-then-not-is_opened-clause-parsed
returns-then-not-is_opened-clause-parsed c =
    let at = c.loop-at.at in
    let n = c.in-Some.len in
    let within : at + 1 < length c.args.bytes.now = omega (arith, c.loop-at-test.true) in
    let opens : IsClosedAt c.args.bytes.now c.loop-at.at → ⊥ = λ shut. (let is = c.is_closed.ensures.1 (within, shut) in absurd (cc (is, c.if-is_closed.false))) in
    let torn : (get_or c.args.bytes.now at 0 ≡ 1) × (get_or c.args.bytes.now (at + 1) 0 ≡ 1) → ⊥ = λ both. (let is = c.is_opened.ensures.1 both in absurd (cc (is, c.if-not-is_opened.true))) in
    let end = c.is_closed-then-not-is_opened.ensures.0 c.if-not-is_closed.false in
    torn_parsed c.args.bytes.now c.loop-at.table.items at c.loop-at.count c.loop-at.invariant.so_far n c.in-Some.ensures.some c.add_records.new.table.items c.in-Ok.ensures.ok within torn opens end.0 end.1

pub returns-then-not-is_opened-clause-torn : goal.returns-then-not-is_opened-clause-torn
returns-then-not-is_opened-clause-torn c =
    let at = c.loop-at.at in
    let n = c.in-Some.len in
    let within : at + 1 < length c.args.bytes.now = omega (arith, c.loop-at-test.true) in
    let opens : IsClosedAt c.args.bytes.now c.loop-at.at → ⊥ = λ shut. (let is = c.is_closed.ensures.1 (within, shut) in absurd (cc (is, c.if-is_closed.false))) in
    let torn : (get_or c.args.bytes.now at 0 ≡ 1) × (get_or c.args.bytes.now (at + 1) 0 ≡ 1) → ⊥ = λ both. (let is = c.is_opened.ensures.1 both in absurd (cc (is, c.if-not-is_opened.true))) in
    let end = c.is_closed-then-not-is_opened.ensures.0 c.if-not-is_closed.false in
    torn_gate c.args.bytes.now c.loop-at.table.items at c.loop-at.count c.loop-at.invariant.so_far n c.in-Some.ensures.some c.add_records.new.table.items c.in-Ok.ensures.ok within torn opens end.0 end.1

pub returns-then-not-is_opened-clause-stands : goal.returns-then-not-is_opened-clause-stands
returns-then-not-is_opened-clause-stands c =
    let at = c.loop-at.at in
    let n = c.in-Some.len in
    let within : at + 1 < length c.args.bytes.now = omega (arith, c.loop-at-test.true) in
    let opens : IsClosedAt c.args.bytes.now c.loop-at.at → ⊥ = λ shut. (let is = c.is_closed.ensures.1 (within, shut) in absurd (cc (is, c.if-is_closed.false))) in
    let torn : (get_or c.args.bytes.now at 0 ≡ 1) × (get_or c.args.bytes.now (at + 1) 0 ≡ 1) → ⊥ = λ both. (let is = c.is_opened.ensures.1 both in absurd (cc (is, c.if-not-is_opened.true))) in
    let end = c.is_closed-then-not-is_opened.ensures.0 c.if-not-is_closed.false in
    torn_stands c.args.bytes.now c.loop-at.table.items at c.loop-at.count c.loop-at.invariant.so_far n c.in-Some.ensures.some c.add_records.new.table.items c.in-Ok.ensures.ok within torn opens end.0 end.1

pub loop-at-preserved : goal.loop-at-preserved
loop-at-preserved c =
    let within : c.loop-at.at + 1 < length c.args.bytes.now = omega (arith, c.loop-at-test.true) in
    let both = c.is_opened.ensures.0 c.if-not-is_opened.false in
    record { so_far = one_more c.args.bytes.now c.loop-at.table.items c.loop-at.at c.loop-at.count c.loop-at.invariant.so_far c.in-Some.len c.in-Some.ensures.some c.add_records.new.table.items c.in-Ok.ensures.ok within both.0 both.1 }

pub returns-clause-broken : goal.returns-clause-broken
returns-clause-broken c e gs stands =
    omega (arith, no_gate c.args.bytes.now c.loop-at.table.items c.loop-at.at c.loop-at.count c.loop-at.invariant.so_far gs stands, c.loop-at-test.false)

pub returns-then-is_closed-clause-within : goal.returns-then-is_closed-clause-within
returns-then-is_closed-clause-within c = (c.is_closed.ensures.0 c.if-is_closed.true).0

pub returns-then-not-is_opened-clause-within : goal.returns-then-not-is_opened-clause-within
returns-then-not-is_opened-clause-within c = (c.is_closed-then-not-is_opened.ensures.0 c.if-not-is_closed.false).0

pub overflow_add-result : goal.overflow_add-result
overflow_add-result c =
    let so_far = c.loop-at.invariant.so_far in
    record { fits = omega (arith, at_is c.args.bytes.now c.loop-at.table.items c.loop-at.at so_far.groups so_far.read, groups_long 0 so_far.groups, so_far.count_is, c.loop-at.auto.at-fits) }

pub overflow_add-count : goal.overflow_add-count
overflow_add-count c =
    let so_far = c.loop-at.invariant.so_far in
    record { fits = omega (arith, at_is c.args.bytes.now c.loop-at.table.items c.loop-at.at so_far.groups so_far.read, groups_long 0 so_far.groups, so_far.count_is, c.loop-at.auto.at-fits) }
