use Rattle.std.proofs.Common.{◌≡◌, ◌<◌, drop, length, ap, ◌∙◌, arith}
use Rattle.fr_state.specs.Generations.{CoordinatedState}
use Rattle.fr_state.proofs.DropLemmas.{drop_is_state, few_dropped, turned}
use Rattle.fr_state.proofs.state.CoordState.drop_first.Goals as goal

pub overflow_add-self : goal.overflow_add-self
overflow_add-self c =
    let s : CoordinatedState = record { dropped = c.self.inside.dropped; gens = c.self.inside.gens.items } in
    let below = few_dropped s c.self.invariant in
    let few = c.self.invariant.few in
    let is = ap (λ (t : CoordinatedState). length t.gens) c.self.view_is in
    let within = c.requires in
    omega (arith, below, few, is, within)

pub invariant_of-self : goal.invariant_of-self
invariant_of-self c =
    let s : CoordinatedState = record { dropped = c.self.inside.dropped; gens = c.self.inside.gens.items } in
    let is = ap (λ (t : CoordinatedState). length t.gens) c.self.view_is in
    let within : c.args.number < length s.gens = omega (arith, is, c.requires) in
    let items : c.truncate.new.self.items ≡ drop c.args.number s.gens =
    c.truncate.ensures.items ∙ rw c.rotate_left.ensures.items (turned s.gens c.args.number _ (omega (arith, within)) (omega arith))
    in
    rw items (drop_is_state s c.args.number c.self.invariant within)
