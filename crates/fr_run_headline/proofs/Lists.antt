-- The generations of each epoch that is planned: in order, each one its ballot's, and each numbered through what the next was seeded to.
use Rattle.std.proofs.Common.{◌≡◌, ℕ, zero, suc, ◌<◌, ◌≤◌, Bool, true, false, cond, ◌==◌, List, [], ◌∷◌, ◌++◌, Option, None, Some, inl, inr, refl, sym, ◌∙◌, ap, subst, arith}
use Rattle.std.specs.List.{All, AllByRecursion}
use Rattle.std.proofs.lemmas.Bool.{eqb-true}
use Rattle.std.proofs.lemmas.List.Elements.{All-weaker, recursion_from_All}
use Rattle.fr_state.specs.Generations.{LogGeneration, AreOrdered, last_of}
use Rattle.fr_epoch.specs.Recoverer.{RecState, Parent, Plan}
use Rattle.fr_run.specs.Config.{Config, first_epoch, first_generation}
use Rattle.fr_run.specs.Turn.{Turn}
use Rattle.fr_run.specs.Nodes.{rec_at, plan_in, plan_at, generation_in, generation_at}
use Rattle.fr_run.specs.Run.{IsTurn, IsRun}
use Rattle.fr_run.specs.States.{state_of, line_of}
use Rattle.fr_run.specs.StateLaws.{IsConfig}
use Rattle.fr_run.specs.Laws.{Laws}
use Rattle.fr_run.proofs.Growth.{rec_is}
use Rattle.fr_run.proofs.States.{last_more}
use Rattle.fr_run.proofs.Chosen.{state_lasts, generation_planned}
use Rattle.fr_run.proofs.Parents.{plan_is, parent_is_planned}
use Rattle.fr_run.proofs.Lines.{parent_is, plan_line, lines_within, line_lasts}
use Rattle.fr_run_headline.specs.Numbers.{top_at}
use Rattle.fr_run_headline.proofs.Ends.{always_chained, seed_is_reached}
use Rattle.fr_run_headline.proofs.Transport.{plans_are_lines, first_line}
use Rattle.fr_run_headline.specs.Issued.{entries}
use Rattle.fr_run_headline.proofs.IssuedLists.{EntriesRise, GainsAbove, Reaches}
use Rattle.fr_run_headline.proofs.EntryLists.{entries_rise}
use Rattle.fr_run_headline.proofs.Stays.{entries_gain}

-- ---- reaching

-- each generation but the last numbered through what the next one was seeded to
abbrev pub AreReached : (ℕ → ℕ) → List LogGeneration → Type 0
AreReached top [] = Unit {0}
AreReached top (g ∷ []) = Unit {0}
AreReached top (g ∷ next ∷ gens) = (next.seeded_to ≤ top g.epoch) × AreReached top (next ∷ gens)

reached_more : (top : ℕ → ℕ) (gens : List LogGeneration) (g n : LogGeneration) → last_of gens ≡ Some g → n.seeded_to ≤ top g.epoch → AreReached top gens → AreReached top (gens ++ n ∷ [])
reached_more top [] g n last l all = absurd (cc)
reached_more top (x ∷ []) g n last l all = let same : x ≡ g = cc in (subst (λ y. n.seeded_to ≤ top y.epoch) (sym same) l, tt)
reached_more top (x ∷ y ∷ gens) g n last l all = (all.0, reached_more top (y ∷ gens) g n last l all.1)

-- so a version through the last one of the last generation is reached
pub reaches : (top : ℕ → ℕ) (gens : List LogGeneration) (g : LogGeneration) (upto : ℕ) → last_of gens ≡ Some g → upto ≤ top g.epoch → AreReached top gens → Reaches top gens upto
reaches top [] g upto last l all = absurd (cc)
reaches top (x ∷ []) g upto last l all = let same : x ≡ g = cc in subst (λ y. upto ≤ top y.epoch) (sym same) l
reaches top (x ∷ y ∷ gens) g upto last l all = (all.0, reaches top (y ∷ gens) g upto last l all.1)

-- ---- plans

plans_are_reached : Laws → (c : Config) (h : List Turn) → IsConfig c → IsRun c h → (n b : ℕ) → b < n → (r : RecState) (q : Plan) → rec_at c h b ≡ Some r → r.plan ≡ Some q → AreReached (top_at c h) (line_of c h b)
plans_are_reached laws c h config run zero b l r q at planned = absurd (omega (arith, l))
plans_are_reached laws c h config run (suc n) b l r q at planned =
    let k = plan_line laws c h config run b r q at planned in
    let p : Parent = k.parent in
    let of = parent_is laws c h config run b r p at k.is in
    let before : AreReached (top_at c h) (line_of c h p.last.epoch) = elim (parent_is_planned laws c h config run b r p at k.is) [
      | inl first ↦ subst (λ e. AreReached (top_at c h) (line_of c h e)) (sym first) tt
      | inr j ↦ plans_are_reached laws c h config run n p.last.epoch (let low = j.below in omega (arith, l, low)) j.recoverer j.plan j.at j.planned
    ] in
    subst (AreReached (top_at c h)) (sym k.line) (reached_more (top_at c h) (line_of c h p.last.epoch) p.last q.generation of.last (seed_is_reached laws c h config run b r p q at k.is planned) before)

-- ---- epochs

-- what is true of the generations of an epoch that is planned
pub record HasList (c : Config) (h : List Turn) (e : ℕ) (g : LogGeneration) : Type 0 where
  pub own : g.epoch ≡ e
  pub last : last_of (line_of c h e) ≡ Some g
  pub ordered : AreOrdered (line_of c h e)
  pub each : All (λ x. generation_at c h x.epoch ≡ Some x) (line_of c h e)
  pub reached : AreReached (top_at c h) (line_of c h e)

pub planned_list : Laws → (c : Config) (h : List Turn) → IsConfig c → IsRun c h → (e : ℕ) (g : LogGeneration) → generation_at c h e ≡ Some g → HasList c h e g
planned_list laws c h config run e g at = go (e == first_epoch) refl at
  where
    first : (e == first_epoch) ≡ true → Some (first_generation c) ≡ Some g → HasList c h e g
    first k at =
        let here : e ≡ first_epoch = eqb-true e first_epoch k in
        let same : first_generation c ≡ g = cc in
        let line = first_line c h in
        record {
          own = ap (λ (x : LogGeneration). x.epoch) (sym same) ∙ sym here;
          last = ap (λ x. last_of (line_of c h x)) here ∙ ap Some same;
          ordered = subst (λ x. AreOrdered (line_of c h x)) (sym here) tt;
          each = subst (λ x. All (λ y. generation_at c h y.epoch ≡ Some y) (line_of c h x)) (sym here) line.each;
          reached = subst (λ x. AreReached (top_at c h) (line_of c h x)) (sym here) tt;
        }

    plan : (e == first_epoch) ≡ false → (o : Option RecState) → rec_at c h e ≡ o → generation_in (plan_in o) ≡ Some g → HasList c h e g
    plan k None at m = absurd (cc)
    plan k (Some r) at m = one r.plan refl m
      where
        one : (o : Option Plan) → r.plan ≡ o → generation_in o ≡ Some g → HasList c h e g
        one None planned m = absurd (cc)
        one (Some q) planned m =
            let same : q.generation ≡ g = cc in
            let line = plan_line laws c h config run e r q at planned in
            record {
              own = ap (λ (x : LogGeneration). x.epoch) (sym same) ∙ (plan_is laws c h run e r at q planned).epoch ∙ (rec_is laws c h run e r at).ballot;
              last = ap last_of line.line ∙ last_more (line_of c h line.parent.last.epoch) q.generation ∙ ap Some same;
              ordered = (lines_within laws c h config run e q.generation (generation_planned laws c h run e r at q planned)).1;
              each = (plans_are_lines laws c h config run e r q at planned).each;
              reached = plans_are_reached laws c h config run (suc e) e (omega arith) r q at planned;
            }

    go : (b : Bool) → (e == first_epoch) ≡ b → cond b (Some (first_generation c)) (generation_in (plan_at c h e)) ≡ Some g → HasList c h e g
    go true k m = first k m
    go false k m = plan k (rec_at c h e) refl m

-- the entries of each generation of the list rise
pub list_rises : Laws → (c : Config) (h : List Turn) → IsRun c h → (gens : List LogGeneration) → All (λ x. generation_at c h x.epoch ≡ Some x) gens → AllByRecursion (EntriesRise (entries c h) (top_at c h)) gens
list_rises laws c h run gens each =
    recursion_from_All (EntriesRise (entries c h) (top_at c h)) gens
    (All-weaker (λ x. generation_at c h x.epoch ≡ Some x) (EntriesRise (entries c h) (top_at c h)) (λ x at. entries_rise c h x at (always_chained laws c h run x.epoch)) gens each)

-- and gain above their last versions alone
pub list_gains : Laws → (c : Config) (h : List Turn) (t : Turn) → IsRun c h → IsTurn c h t → (gens : List LogGeneration) → All (λ x. generation_at c h x.epoch ≡ Some x) gens
    → AllByRecursion (GainsAbove (entries c h) (entries c (t ∷ h)) (top_at c h)) gens
list_gains laws c h t run is gens each =
    recursion_from_All (GainsAbove (entries c h) (entries c (t ∷ h)) (top_at c h)) gens
    (All-weaker (λ x. generation_at c h x.epoch ≡ Some x) (GainsAbove (entries c h) (entries c (t ∷ h)) (top_at c h)) (λ x at. entries_gain laws c h t run is x at) gens each)

-- the state of an epoch that is planned stays
pub planned_state_stays : Laws → (c : Config) (h : List Turn) (t : Turn) → IsRun c h → IsTurn c h t → (e : ℕ) (g : LogGeneration) → generation_at c h e ≡ Some g → state_of c (t ∷ h) e ≡ state_of c h e
planned_state_stays laws c h t run is e g at = (state_lasts laws c h t run is e g at).1

-- and its line
pub planned_line_stays : Laws → (c : Config) (h : List Turn) (t : Turn) → IsConfig c → IsRun c h → IsTurn c h t → (e : ℕ) (g : LogGeneration) → generation_at c h e ≡ Some g → line_of c (t ∷ h) e ≡ line_of c h e
planned_line_stays laws c h t config run is e g at = line_lasts laws c t h config (is, run) e g at
