-- A planned epoch and the one that it goes on from have the same parts through what it was seeded to.
use Rattle.std.proofs.Common.{◌≡◌, ℕ, ◌≤◌, List, [], ◌∷◌, ◌++◌, Some, sym, ◌∙◌, ap, subst}
use Rattle.std.specs.List.{AllByRecursion}
use Rattle.std.proofs.lemmas.List.Elements.{All-nil, All-push}
use Rattle.fr_state.specs.Generations.{LogGeneration, AreOrdered, last_of}
use Rattle.fr_epoch.specs.Recoverer.{RecState, Parent, Plan}
use Rattle.fr_run.specs.Config.{Config}
use Rattle.fr_run.specs.Turn.{Turn}
use Rattle.fr_run.specs.Nodes.{rec_at, generation_at}
use Rattle.fr_run.specs.Run.{IsRun}
use Rattle.fr_run.specs.States.{line_of}
use Rattle.fr_run.specs.StateLaws.{IsConfig}
use Rattle.fr_run.specs.Laws.{Laws}
use Rattle.fr_run.proofs.Chosen.{generation_planned}
use Rattle.fr_run.proofs.Lines.{parent_is, line_of_plan}
use Rattle.fr_run_headline.specs.Numbers.{top_at}
use Rattle.fr_run_headline.specs.Issued.{entries, issued_of, issued}
use Rattle.fr_run_headline.proofs.IssuedLists.{EntriesRise}
use Rattle.fr_run_headline.proofs.PartLists.{part_of, part_agree}
use Rattle.fr_run_headline.proofs.Lists.{planned_list, list_rises}

-- a planned epoch and its parent's have the same parts through what it was seeded to
pub part_of_parent : Laws → (c : Config) (h : List Turn) → IsConfig c → IsRun c h → (b : ℕ) (r : RecState) (p : Parent) (q : Plan) → rec_at c h b ≡ Some r → r.parent ≡ Some p → r.plan ≡ Some q → (tag after upto : ℕ) → upto ≤ q.generation.seeded_to
    → part_of c tag after upto (issued c h b) ≡ part_of c tag after upto (issued c h p.last.epoch)
part_of_parent laws c h config run b r p q at parent planned tag after upto le =
    let of = parent_is laws c h config run b r p at parent in
    let own = generation_planned laws c h run b r at q planned in
    let mine = (planned_list laws c h config run b q.generation own) in
    let all : line_of c h b ≡ line_of c h p.last.epoch ++ q.generation ∷ [] = line_of_plan laws c h config run b r p q at parent planned in
    let ordered : AreOrdered (line_of c h p.last.epoch ++ q.generation ∷ []) = subst AreOrdered all mine.ordered in
    let each : generation_at c h q.generation.epoch ≡ Some q.generation = subst (λ e. generation_at c h e ≡ Some q.generation) (sym mine.own) own in
    ap (λ gs. part_of c tag after upto (issued_of (entries c h) gs)) all
    ∙ go (line_of c h p.last.epoch) of.last ordered (list_rises laws c h run (q.generation ∷ []) (All-push (λ x. generation_at c h x.epoch ≡ Some x) [] q.generation (All-nil (λ x. generation_at c h x.epoch ≡ Some x)) each))
  where
    go : (gens : List LogGeneration) → last_of gens ≡ Some p.last → AreOrdered (gens ++ q.generation ∷ []) → AllByRecursion (EntriesRise (entries c h) (top_at c h)) (q.generation ∷ [])
        → part_of c tag after upto (issued_of (entries c h) (gens ++ q.generation ∷ [])) ≡ part_of c tag after upto (issued_of (entries c h) gens)
    go [] last order rise = absurd (cc)
    go (g ∷ gens) last order rise = part_agree (entries c h) (top_at c h) g gens q.generation [] order rise c tag after upto le
