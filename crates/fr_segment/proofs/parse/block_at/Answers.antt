use Rattle.std.proofs.Common.{◌≡◌, ◌+◌, ◌-◌, ◌<◌, ◌^◌, ℕ, ap, sym, subst, ◌∙◌, take, drop, arith}
use Rattle.std.specs.List.{between}
use Rattle.fr_segment.proofs.ParseLemmas.{block_found, block_long, length_read, first_read, second_read}
use Rattle.fr_segment.proofs.parse.block_at.Goals as goal

pub returns-then-bytes-at-lt12-clause-none : goal.returns-then-bytes-at-lt12-clause-none
returns-then-bytes-at-lt12-clause-none c e content rest short is =
    omega (arith, block_long c.args.bytes.now c.args.at c.args.number content rest short is, c.if-bytes-at-lt12.true)

pub returns-then-read_u32-sum-clause-none : goal.returns-then-read_u32-sum-clause-none
returns-then-read_u32-sum-clause-none c e content rest short is =
    let four : c.args.at + 4 - c.args.at ≡ 4 = omega arith in
    let x = between c.args.at (c.args.at + 4) c.args.bytes.now in
    c.if-read_u32-sum.true (first_read c.args.bytes.now c.args.at c.args.number content rest short is c.read_u32.result x c.read_u32.type_inv (subst (λ (k : ℕ). k < 2 ^ 32) c.sum.ensures c.sum.type_inv)
    (ap (λ k. take k (drop c.args.at c.args.bytes.now)) four) c.read_u32.ensures ∙ sym c.sum.ensures)

pub returns-then-len-bytes-clause-none : goal.returns-then-len-bytes-clause-none
returns-then-len-bytes-clause-none c e content rest short is =
    let n = length_read c.args.bytes.now c.args.at c.args.number content rest short is c.read_u32-len.result c.read_u32-len.type_inv c.read_u32-len.ensures in
    omega (arith, n, block_long c.args.bytes.now c.args.at c.args.number content rest short is, c.if-len-bytes.true)

pub returns-then-read_u32-sum-2-clause-none : goal.returns-then-read_u32-sum-2-clause-none
returns-then-read_u32-sum-2-clause-none c e content rest short is =
    let n = c.read_u32-len.result in
    let at = c.args.at in
    let n_is = length_read c.args.bytes.now c.args.at c.args.number content rest short is c.read_u32-len.result c.read_u32-len.type_inv c.read_u32-len.ensures in
    let long : at + 8 + n - (at + 8) ≡ n = omega arith in
    let y = between (at + 8) (at + 8 + n) c.args.bytes.now in
    c.if-read_u32-sum-2.true (second_read c.args.bytes.now c.args.at c.args.number content rest short is n c.read_u32-2.result y n_is c.read_u32-2.type_inv (subst (λ (k : ℕ). k < 2 ^ 32) c.sum-2.ensures c.sum-2.type_inv)
    (ap (λ k. take k (drop (at + 8) c.args.bytes.now)) long) c.read_u32-2.ensures ∙ sym c.sum-2.ensures)

pub returns-clause-some : goal.returns-clause-some
returns-clause-some c =
    let n = c.read_u32-len.result in
    let at = c.args.at in
    let four : at + 4 - at ≡ 4 = omega arith in
    let long : at + 8 + n - (at + 8) ≡ n = omega arith in
    block_found c.args.bytes.now at c.args.number n c.read_u32.result c.read_u32-2.result (between at (at + 4) c.args.bytes.now) (between (at + 8) (at + 8 + n) c.args.bytes.now)
    (omega (arith, c.if-len-bytes.false, c.if-bytes-at-lt12.false)) c.read_u32-len.type_inv c.read_u32-len.ensures (ap (λ k. take k (drop at c.args.bytes.now)) four)
    c.read_u32.ensures (c.if-read_u32-sum.false ∙ c.sum.ensures) (ap (λ k. take k (drop (at + 8) c.args.bytes.now)) long) c.read_u32-2.ensures (c.if-read_u32-sum-2.false ∙ c.sum-2.ensures)
