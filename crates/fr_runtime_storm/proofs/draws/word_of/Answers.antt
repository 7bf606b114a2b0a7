use Rattle.std.proofs.Common.{ℕ, ap, ◌∙◌}
use Rattle.rand_pcg.specs.Lcg.{Lcg}
use Rattle.rand_pcg.specs.Pcg.{pcg32}
use Rattle.fr_runtime_storm.proofs.draws.word_of.Goals as goal

pub returns : goal.returns
returns c = ap (λ (p : ℕ × Lcg). p.0) c.next_word.ensures ∙ ap (λ (g : Lcg). (pcg32 g).0) c.seed_from_u64-rng.ensures
