-- What a planned epoch issues: in the order of versions, and the same from then on through its last version.
use Rattle.std.proofs.Common.{◌≡◌, ℕ, ◌≤◌, List, [], ◌∷◌, Some, sym, ◌∙◌, ap, subst, arith}
use Rattle.std.specs.List.{All}
use Rattle.fr_state.specs.Generations.{LogGeneration, AreOrdered, last_of}
use Rattle.fr_run.specs.Config.{Config}
use Rattle.fr_run.specs.Turn.{Turn}
use Rattle.fr_run.specs.Nodes.{generation_at}
use Rattle.fr_run.specs.Run.{IsTurn, IsRun}
use Rattle.fr_run.specs.States.{line_of}
use Rattle.fr_run.specs.StateLaws.{IsConfig}
use Rattle.fr_run.specs.Laws.{Laws}
use Rattle.fr_run_headline.specs.Numbers.{top_at}
use Rattle.fr_run_headline.specs.Issued.{entries, issued_of, issued}
use Rattle.fr_run_headline.proofs.VersionLists.{RiseIn, through, rise_wider}
use Rattle.fr_run_headline.proofs.IssuedLists.{version_of, top_in, issued_sorted, issued_stays}
use Rattle.fr_run_headline.proofs.PartLists.{part_of, part_stays}
use Rattle.fr_run_headline.proofs.Lists.{planned_list, list_rises, list_gains, reaches, planned_line_stays}

top_in_last : (top : ℕ → ℕ) (gens : List LogGeneration) (g : LogGeneration) → last_of gens ≡ Some g → top_in top gens ≡ top g.epoch
top_in_last top [] g last = absurd (cc)
top_in_last top (x ∷ []) g last = let same : x ≡ g = cc in ap (λ (y : LogGeneration). top y.epoch) same
top_in_last top (x ∷ y ∷ gens) g last = top_in_last top (y ∷ gens) g last

-- the versions of what is issued rise
pub issued_rises : Laws → (c : Config) (h : List Turn) → IsConfig c → IsRun c h → (e : ℕ) (g : LogGeneration) → generation_at c h e ≡ Some g → RiseIn version_of 0 (issued c h e) (top_at c h e)
issued_rises laws c h config run e g at =
    let k = planned_list laws c h config run e g at in
    go (line_of c h e) k.last k.ordered k.each k.own
  where
    go : (gens : List LogGeneration) → last_of gens ≡ Some g → AreOrdered gens → All (λ x. generation_at c h x.epoch ≡ Some x) gens → g.epoch ≡ e → RiseIn version_of 0 (issued_of (entries c h) gens) (top_at c h e)
    go [] last order each own = absurd (cc)
    go (x ∷ gens) last order each own =
        let rise = issued_sorted (entries c h) (top_at c h) x gens order (list_rises laws c h run (x ∷ gens) each) in
        let same : top_in (top_at c h) (x ∷ gens) ≡ top_at c h e = top_in_last (top_at c h) (x ∷ gens) g last ∙ ap (top_at c h) own in
        rise_wider version_of 0 x.seeded_to (top_in (top_at c h) (x ∷ gens)) (top_at c h e) (issued_of (entries c h) (x ∷ gens)) (omega arith) (omega (arith, same)) rise

-- what is issued through a version that the epoch reached stays
pub issued_lasts : Laws → (c : Config) (h : List Turn) (t : Turn) → IsConfig c → IsRun c h → IsTurn c h t → (e : ℕ) (g : LogGeneration) → generation_at c h e ≡ Some g → (upto : ℕ) → upto ≤ top_at c h e
    → through version_of upto (issued c (t ∷ h) e) ≡ through version_of upto (issued c h e)
issued_lasts laws c h t config run is e g at upto le =
    let k = planned_list laws c h config run e g at in
    let low : upto ≤ top_at c h g.epoch = subst (λ x. upto ≤ top_at c h x) (sym k.own) le in
    ap (λ gens. through version_of upto (issued_of (entries c (t ∷ h)) gens)) (planned_line_stays laws c h t config run is e g at)
    ∙ issued_stays (entries c h) (entries c (t ∷ h)) (top_at c h) (line_of c h e) upto (list_gains laws c h t run is (line_of c h e) k.each) (reaches (top_at c h) (line_of c h e) g upto k.last low k.reached)

-- so does each part through it
pub part_lasts : Laws → (c : Config) (h : List Turn) (t : Turn) → IsConfig c → IsRun c h → IsTurn c h t → (e : ℕ) (g : LogGeneration) → generation_at c h e ≡ Some g → (tag after upto : ℕ) → upto ≤ top_at c h e
    → part_of c tag after upto (issued c (t ∷ h) e) ≡ part_of c tag after upto (issued c h e)
part_lasts laws c h t config run is e g at tag after upto le =
    let k = planned_list laws c h config run e g at in
    let low : upto ≤ top_at c h g.epoch = subst (λ x. upto ≤ top_at c h x) (sym k.own) le in
    ap (λ gens. part_of c tag after upto (issued_of (entries c (t ∷ h)) gens)) (planned_line_stays laws c h t config run is e g at)
    ∙ part_stays (entries c h) (entries c (t ∷ h)) (top_at c h) (line_of c h e) c tag after upto (list_gains laws c h t run is (line_of c h e) k.each) (reaches (top_at c h) (line_of c h e) g upto k.last low k.reached)
