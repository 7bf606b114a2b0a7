use Rattle.std.proofs.Common.{rules, ◌≡◌, ◌+◌, ◌-◌, ◌<◌, ◌≤◌, ℕ, List, refl, take, drop, length, ap, sym, subst, ◌∙◌, arith}
use Rattle.fr_segment.specs.File.{IsClosedAt}
use Rattle.fr_segment.specs.Header.{header}
use Rattle.fr_segment.specs.Turns.{BeginsWith, HoldsNothing}
use Rattle.fr_segment.proofs.FirstLemmas.{rest_whole, first_found, header_long, header_length, header_read}
use Rattle.fr_segment.proofs.first.first_in.Goals as goal

pub returns-then-len-lt4-clause-foreign : goal.returns-then-len-lt4-clause-foreign
returns-then-len-lt4-clause-foreign c = (
  λ shut. (let is = c.is_closed.ensures.1 shut in absurd (cc (is, c.if-is_closed.false))),
  λ n begins. omega (arith, header_long c.args.bytes.now c.args.identity.now c.in-Some.len n c.in-Some.ensures.some begins, c.if-len-lt4.true),
)

pub returns-then-record-len-clause-foreign : goal.returns-then-record-len-clause-foreign
returns-then-record-len-clause-foreign c = (
  λ shut. (let is = c.is_closed.ensures.1 shut in absurd (cc (is, c.if-is_closed.false))),
  λ n begins. omega (
    arith,
    header_long c.args.bytes.now c.args.identity.now c.in-Some.len n c.in-Some.ensures.some begins,
    header_length c.args.bytes.now c.args.identity.now c.in-Some.len n c.in-Some.ensures.some begins c.read_u32-record.result c.read_u32-record.type_inv c.read_u32-record.ensures,
    c.if-record-len.true,
  ),
)

pub returns-in-None-header_number-clause-foreign : goal.returns-in-None-header_number-clause-foreign
returns-in-None-header_number-clause-foreign c = (
  λ shut. (let is = c.is_closed.ensures.1 shut in absurd (cc (is, c.if-is_closed.false))),
  λ n begins.
      let record_len = c.read_u32-record.result in
      let same : 14 + c.read_u32-record.result - 14 ≡ c.read_u32-record.result = omega arith in
      c.in-None-header_number.ensures.none refl n c.args.identity.now
      (ap (λ k. take k (drop 14 c.args.bytes.now)) same ∙ header_read c.args.bytes.now c.args.identity.now c.in-Some.len n c.in-Some.ensures.some begins record_len c.read_u32-record.type_inv c.read_u32-record.ensures),
)

pub returns-then-not-is_same-clause-foreign : goal.returns-then-not-is_same-clause-foreign
returns-then-not-is_same-clause-foreign c = (
  λ shut. (let is = c.is_closed.ensures.1 shut in absurd (cc (is, c.if-is_closed.false))),
  λ n begins.
      let record_len = c.read_u32-record.result in
      let same : 14 + c.read_u32-record.result - 14 ≡ c.read_u32-record.result = omega arith in
      let there =
      rest_whole 15 (take (14 + c.read_u32-record.result - 14) (drop 14 c.args.bytes.now))
      ∙ ap (λ k. drop 15 (take k (drop 14 c.args.bytes.now))) same
      ∙ ap (λ l. drop 15 l) (header_read c.args.bytes.now c.args.identity.now c.in-Some.len n c.in-Some.ensures.some begins record_len c.read_u32-record.type_inv c.read_u32-record.ensures) in
      let is = c.is_same.ensures.1 there in
      absurd (cc (is, c.if-not-is_same.true)),
)

pub returns-clause-file : goal.returns-clause-file
returns-clause-file c n e =
    let record_len = c.read_u32-record.result in
    let number = c.in-Some-header_number.number in
    let same : 14 + c.read_u32-record.result - 14 ≡ c.read_u32-record.result = omega arith in
    let slice = take c.read_u32-record.result (drop 14 c.args.bytes.now) in
    let opens : IsClosedAt c.args.bytes.now 0 → ⊥ = λ shut. (let is = c.is_closed.ensures.1 (omega (arith, c.if-bytes-lt2.false), shut) in absurd (cc (is, c.if-is_closed.false))) in
    let identity_is = sym (rest_whole 15 (take (14 + c.read_u32-record.result - 14) (drop 14 c.args.bytes.now))) ∙ c.is_same.ensures.0 c.if-not-is_same.false in
    let header_is : take c.read_u32-record.result (drop 14 c.args.bytes.now) ≡ header c.in-Some-header_number.number c.args.identity.now =
    ap (λ k. take k (drop 14 c.args.bytes.now)) (sym same) ∙ c.in-Some-header_number.ensures.some ∙ ap (λ l. header c.in-Some-header_number.number l) identity_is in
    let it = first_found c.args.bytes.now c.args.identity.now c.in-Some.len record_len number (omega (arith, c.if-bytes-lt2.false)) opens c.in-Some.ensures.some (omega (arith, c.if-len-lt4.false)) (omega (arith, c.if-record-len.false)) c.read_u32-record.ensures
    (search rules) header_is in
    let k : c.in-Some-header_number.number ≡ n = cc e in
    subst (λ (m : ℕ). BeginsWith m c.args.identity.now c.args.bytes.now) k it
