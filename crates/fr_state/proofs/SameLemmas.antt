-- Two states that `==` calls the same are one, and a list begins with another where the test says so.
use Rattle.std.proofs.Common.{◌≡◌, ℕ, true, eqb, List, [], ◌∷◌, ◌++◌, length, take, get_or, refl, sym, ap, subst, ◌∙◌, take-append-drop}
use Rattle.std.specs.Cmp.Lexicographic.{pointwise, same_text, lists_equiv, on_texts_equal}
use Rattle.std.proofs.lemmas.Bool.{and_parts, eqb-true}
use Rattle.fr_state.specs.Generations.{LogGeneration, CoordinatedState}
use Rattle.fr_state.specs.Same.{numbers_of, is_same_generation, is_same_state, is_same_state_equiv, begins_with, IsFront}
use Rattle.fr_state.specs.Laws.{BeginsIsExact}
use Rattle.std.proofs.lemmas.List.{take_at}
use Rattle.std.specs.Prelude.{drop}

-- the generation of five numbers
abbrev generation_of : List ℕ → LogGeneration
generation_of ns = record { epoch = get_or ns 0 0; m = get_or ns 1 0; k = get_or ns 2 0; first = get_or ns 3 0; seeded_to = get_or ns 4 0 }

same_generation : (g h : LogGeneration) → is_same_generation g h ≡ true → g ≡ h
same_generation g h e = ap generation_of (same_text (numbers_of g) (numbers_of h) (sym e))

same_generations : (gens more : List LogGeneration) → pointwise is_same_generation gens more ≡ true → gens ≡ more
same_generations [] [] e = refl
same_generations [] (h ∷ more) e = absurd cc
same_generations (g ∷ gens) [] e = absurd cc
same_generations (g ∷ gens) (h ∷ more) e =
    let p = and_parts (is_same_generation g h) (pointwise is_same_generation gens more) e in
    let first = same_generation g h p.0 in
    let rest = same_generations gens more p.1 in
    cc

same_parts : (d e : ℕ) (gens more : List LogGeneration) → d ≡ e → gens ≡ more
    → ◌≡◌ {A = CoordinatedState} (record { dropped = d; gens = gens }) (record { dropped = e; gens = more })
same_parts d e gens more p q = rw (p, q) refl

pub same_state : (s t : CoordinatedState) → is_same_state s t ≡ true → s ≡ t
same_state s t e =
    let p = and_parts (eqb s.dropped t.dropped) (pointwise is_same_generation s.gens t.gens) e in
    same_parts s.dropped t.dropped s.gens t.gens (eqb-true s.dropped t.dropped p.0) (same_generations s.gens t.gens p.1)

pub is_same_itself : (s t : CoordinatedState) → s ≡ t → is_same_state s t ≡ true
is_same_itself s t e = subst (λ (u : CoordinatedState). is_same_state s u ≡ true) e (is_same_state_equiv.refl s)

pub begins_is_exact : BeginsIsExact
begins_is_exact gens front = (begins, begun)
  where
    begins : begins_with gens front ≡ true → IsFront front gens
    begins e =
        let same : front ≡ take (length front) gens = same_generations front (take (length front) gens) e in
        (drop (length front) gens, sym (take-append-drop (length front) gens) ∙ ap (λ (xs : List LogGeneration). xs ++ drop (length front) gens) (sym same))

    begun : IsFront front gens → begins_with gens front ≡ true
    begun (more, is) =
        let same : take (length front) gens ≡ front = ap (take (length front)) is ∙ take_at front more (length front) refl in
        ap (pointwise is_same_generation front) same ∙ (lists_equiv (on_texts_equal numbers_of)).refl front
