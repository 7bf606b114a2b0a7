use Rattle.std.proofs.Common.{rules, ◌≡◌, ◌+◌, ◌≤◌, [], ◌∷◌, take, arith}
use Rattle.fr_segment.proofs.HeaderLemmas.{header_there}
use Rattle.fr_segment.proofs.whose.header_number.Goals as goal

pub returns-clause-some : goal.returns-clause-some
returns-clause-some c =
    let magic : take 7 c.args.first.now ≡ 102 ∷ 100 ∷ 98 ∷ 114 ∷ 101 ∷ 99 ∷ 2 ∷ [] = search rules in
    header_there c.args.first.now (λ i. (c.type_inv.first i).fits) magic (omega (arith, c.if-first-lt15.false)) c.from_be_bytes.result c.from_be_bytes.ensures
