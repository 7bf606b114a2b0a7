use Rattle.std.proofs.Common.{◌≡◌, ℕ, ◌+◌, ◌<◌, length, ap, ap₂, ◌∙◌, sym, subst, rules}
use Rattle.fr_log.specs.Seed.{IsSeed}
use Rattle.fr_tail.specs.Shape.{IsTail}
use Rattle.fr_tail.specs.Tail.{records_for}
use Rattle.fr_tail.specs.Merging.{left_of}
use Rattle.fr_tail.proofs.Shapes.{seed_is_seed, seed_is}
use Rattle.fr_tail.proofs.tail.Tail.seeds_for.Goals as goal

pub unreachable-requires-in-None : goal.unreachable-requires-in-None
unreachable-requires-in-None c =
    let s = c.args.self.now in
    let shape = subst IsTail c.self.view_is c.self.invariant in
    let m : c.in-Some.shape.m ≡ c.args.m = search rules in
    let k : c.in-Some.shape.k ≡ c.args.k = search rules in
    let untaken : (t : ℕ) → t < length s.parts → left_of s c.untaken.result t ≡ records_for s c.args.m c.args.k c.args.id.index t = (λ t below. c.untaken.ensures t below ∙ ap₂ (λ m k. records_for s m k c.args.id.index t) m k) in
    let is = seed_is s c.args.id.epoch c.args.m c.args.k c.args.id.index c.untaken.result c.after.result _ _ (c.after.ensures ∙ ap (λ t. t.pev + 1) c.self.view_is) (ap (λ t. t.rv) c.self.view_is) untaken c.in_ok-records.ensures in
    let no = c.in-None.ensures.within.1 (subst IsSeed (sym is) (seed_is_seed s c.args.id.epoch c.args.m c.args.k c.args.id.index shape)) in
    absurd (cc)
