-- That states for which `==` answers yes are the same.
use Rattle.std.specs.Prelude.{◌≡◌, true, nat_eq, slice_index, refl}
use Rattle.std.specs.Cmp.Lexicographic.{pointwise}
use Rattle.std.proofs.lemmas.Bool.{and_parts, eq-eqb, eqb-true}
use Rattle.std.proofs.Common.{ap}
use Rattle.fr_base.specs.Same.{IsSameness, pointwise-IsSameness, bytes_eq-IsSameness}
use Rattle.fr_log.specs.Fields.{two, five}
use Rattle.fr_state.specs.Generations.{LogGeneration, CoordinatedState}
use Rattle.fr_state.specs.Same.{numbers_of, is_same_generation, is_same_state}

generations : IsSameness is_same_generation
generations = record { itself = λ g. bytes_eq-IsSameness.itself (numbers_of g); same = same }
  where
    same : (g h : LogGeneration) → is_same_generation g h ≡ true → g ≡ h
    same g h e =
        let k = bytes_eq-IsSameness.same (numbers_of g) (numbers_of h) e in
        five (λ epoch m k first seeded_to. record { epoch = epoch; m = m; k = k; first = first; seeded_to = seeded_to })
        (ap (λ xs. slice_index xs 0) k) (ap (λ xs. slice_index xs 1) k) (ap (λ xs. slice_index xs 2) k) (ap (λ xs. slice_index xs 3) k) (ap (λ xs. slice_index xs 4) k)

pub is_same_state-IsSameness : IsSameness is_same_state
is_same_state-IsSameness = record { itself = itself; same = same }
  where
    itself : (s : CoordinatedState) → is_same_state s s ≡ true
    itself s = rw (eq-eqb s.dropped s.dropped refl) ((pointwise-IsSameness generations).itself s.gens)

    same : (s t : CoordinatedState) → is_same_state s t ≡ true → s ≡ t
    same s t e =
        let k = and_parts (nat_eq s.dropped t.dropped) (pointwise is_same_generation s.gens t.gens) e in
        two (λ dropped gens. record { dropped = dropped; gens = gens }) (eqb-true s.dropped t.dropped k.0) ((pointwise-IsSameness generations).same s.gens t.gens k.1)
