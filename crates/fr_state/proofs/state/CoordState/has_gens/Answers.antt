use Rattle.std.proofs.Common.{◌≡◌, List, ap, ◌∙◌, rules}
use Rattle.std.specs.Cmp.Lexicographic.{pointwise}
use Rattle.fr_state.specs.Generations.{LogGeneration, CoordinatedState}
use Rattle.fr_state.specs.Same.{is_same_generation}
use Rattle.fr_state.proofs.state.CoordState.has_gens.Goals as goal

pub returns : goal.returns
returns c =
    let is : c.eq.result ≡ pointwise is_same_generation c.as_slice.result.now c.as_slice-2.result.now = search (rules, Rattle.fr_state.specs.contracts.generation.GenerationPartialEq.TheImpl.eq-value) in
    is
    ∙ ap (λ (xs : List LogGeneration). pointwise is_same_generation xs c.as_slice-2.result.now) (c.as_slice.ensures.value ∙ ap (λ (s : CoordinatedState). s.gens) c.self.view_is)
    ∙ ap (λ (xs : List LogGeneration). pointwise is_same_generation c.args.self.now.gens xs) (c.as_slice-2.ensures.value ∙ ap (λ (s : CoordinatedState). s.gens) c.other.view_is)
