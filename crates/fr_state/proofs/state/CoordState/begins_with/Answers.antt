use Rattle.std.proofs.Common.{◌≡◌, ◌-◌, drop, sym, ◌∙◌, arith, rules}
use Rattle.std.proofs.lemmas.List.{take_rest}
use Rattle.fr_state.specs.Generations.{CoordinatedState}
use Rattle.fr_state.specs.Same.{begins_with}
use Rattle.fr_state.proofs.DropLemmas.{goes_where, goes_on_is_exact}
use Rattle.fr_state.proofs.state.CoordState.begins_with.Goals as goal

pub returns-clause-value : goal.returns-clause-value
returns-clause-value c =
    let s : CoordinatedState = record { dropped = c.self.inside.dropped; gens = c.self.inside.gens.items } in
    let own : CoordinatedState = record { dropped = c.own.inside.dropped; gens = c.own.inside.gens.items } in
    let is : c.starts_with.result ≡ begins_with s.gens (drop (s.dropped - own.dropped) own.gens) = search (rules, take_rest c.deref-2.result.now (s.dropped - own.dropped)) in
    rw (← c.self.view_is, ← c.own.view_is) (goes_where own s c.starts_with.result (omega (arith, c.if-self-own.false)) (omega (arith, c.if-len-more.false)) is)

pub returns-clause-exact : goal.returns-clause-exact
returns-clause-exact c =
    let s : CoordinatedState = record { dropped = c.self.inside.dropped; gens = c.self.inside.gens.items } in
    let own : CoordinatedState = record { dropped = c.own.inside.dropped; gens = c.own.inside.gens.items } in
    let is : c.starts_with.result ≡ begins_with s.gens (drop (s.dropped - own.dropped) own.gens) = search (rules, take_rest c.deref-2.result.now (s.dropped - own.dropped)) in
    let goes = goes_where own s c.starts_with.result (omega (arith, c.if-self-own.false)) (omega (arith, c.if-len-more.false)) is in
    let exact = goes_on_is_exact own s in
    rw (← c.self.view_is, ← c.own.view_is) (λ e. exact.0 (sym goes ∙ e), λ h. goes ∙ exact.1 h)
