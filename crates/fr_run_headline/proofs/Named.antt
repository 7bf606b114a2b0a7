-- Each log has its own name, and the m and k of its generation.
use Rattle.std.proofs.Common.{◌≡◌, ℕ, ◌<◌, false, cond, ◌==◌, List, Option, None, Some, refl, ◌∙◌, ap, arith}
use Rattle.fr_state.specs.Generations.{LogGeneration}
use Rattle.fr_log.specs.LogState.{LogState}
use Rattle.fr_epoch.specs.Recoverer.{Plan}
use Rattle.fr_run.specs.Config.{Config, first_epoch, first_generation}
use Rattle.fr_run.specs.Turn.{Turn}
use Rattle.fr_run.specs.Nodes.{plan_at, generation_in, generation_at, logs_in, logs_at, log_at, new_log_in}
use Rattle.fr_run.specs.Run.{IsRun}
use Rattle.fr_run.specs.Laws.{Laws}
use Rattle.fr_run.proofs.Growth.{generation_stays}
use Rattle.fr_run_headline.proofs.LogRule.{IsLogRule, log_holds}

pub record IsNamed (c : Config) (h : List Turn) (e i : ℕ) (l : LogState) : Type 0 where
  pub generation : LogGeneration
  pub of : generation_at c h e ≡ Some generation
  pub epoch : l.epoch ≡ e
  pub index : l.index ≡ i
  pub m : l.m ≡ generation.m
  pub k : l.k ≡ generation.k

rule : Laws → (c : Config) → IsLogRule c (λ h e i l. IsNamed c h e i l)
rule laws c = record {
  starts = λ i. record { generation = first_generation c; of = refl; epoch = refl; index = refl; m = refl; k = refl };
  made = λ h run e i o at other below. made h e i o at other below;
  lasts = λ h t run is e i below l k. record { generation = k.generation; of = generation_stays laws c h t run is e k.generation k.of; epoch = k.epoch; index = k.index; m = k.m; k = k.k };
  takes = λ h run e i below k from a came. (
      let g = laws.log_grows (log_at c h e i) a in
      record { generation = k.generation; of = k.of; epoch = g.epoch ∙ k.epoch; index = g.index ∙ k.index; m = g.m ∙ k.m; k = g.k ∙ k.k });
}
  where
    made : (h : List Turn) (e i : ℕ) (o : Option Plan) → plan_at c h e ≡ o → (e == first_epoch) ≡ false → i < logs_in o → IsNamed c h e i (new_log_in o e i)
    made h e i None at other below = absurd (omega (arith, below))
    made h e i (Some p) at other below = record {
      generation = p.generation;
      of = ap (λ s. cond s (Some (first_generation c)) (generation_in (plan_at c h e))) other ∙ ap generation_in at;
      epoch = refl;
      index = refl;
      m = refl;
      k = refl;
    }

pub log_named : Laws → (c : Config) (h : List Turn) → IsRun c h → (e i : ℕ) → i < logs_at c h e → IsNamed c h e i (log_at c h e i)
log_named laws c = log_holds laws c (λ h e i l. IsNamed c h e i l) (rule laws c)
