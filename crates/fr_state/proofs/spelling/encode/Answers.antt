use Rattle.std.proofs.Common.{ap, refl, ◌∙◌}
use Rattle.fr_state.specs.Spelling.{spelled_start}
use Rattle.fr_state.proofs.SpellingLemmas.{spelled_whole, spelled_size, spelling_fits}
use Rattle.std.proofs.Common.{length, subst, sym, ◌≤◌, ℕ}
use Rattle.fr_state.proofs.spelling.encode.Goals as goal

pub returns-clause-size : goal.returns-clause-size
returns-clause-size c =
    let s = c.args.state.now in
    let whole = spelled_whole c.loop-generation.bytes.items (spelled_start s.dropped) s c.gens-gens.result.now c.loop-generation.generation-index c.loop-generation.invariant c.loop-generation-test.false c.gens-gens.ensures.value refl in
    ap length whole ∙ spelled_size s

pub returns-clause-fits : goal.returns-clause-fits
returns-clause-fits c =
    let s = c.args.state.now in
    let whole = spelled_whole c.loop-generation.bytes.items (spelled_start s.dropped) s c.gens-gens.result.now c.loop-generation.generation-index c.loop-generation.invariant c.loop-generation-test.false c.gens-gens.ensures.value refl in
    subst (λ (n : ℕ). n ≤ 4096) (sym (ap length whole)) (spelling_fits s c.gens-gens.ensures.sound).1
