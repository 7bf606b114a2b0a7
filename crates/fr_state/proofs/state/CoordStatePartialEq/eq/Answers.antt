use Rattle.std.proofs.Common.{◌≡◌, ◌&&◌, true, nat_eq, ap, sym, ◌∙◌}
use Rattle.std.specs.Cmp.Lexicographic.{pointwise}
use Rattle.std.proofs.lemmas.Bool.{eq-eqb}
use Rattle.fr_state.specs.Same.{is_same_generation}
use Rattle.fr_state.proofs.state.CoordStatePartialEq.eq.Goals as goal

pub returns-then-self-other : goal.returns-then-self-other
returns-then-self-other c =
    let same : nat_eq c.args.self.now.dropped c.args.other.now.dropped ≡ true = rw (← c.self.view_is, ← c.other.view_is) (eq-eqb c.self.inside.dropped c.other.inside.dropped c.if-self-other.true) in
    c.has_gens.ensures ∙ ap (λ b. b && pointwise is_same_generation c.args.self.now.gens c.args.other.now.gens) (sym same)
