-- Where the state that a recoverer took over comes from: it is that of the epoch that it ends.
use Rattle.std.proofs.Common.{◌≡◌, ℕ, ◌<◌, Bool, true, false, cond, ◌==◌, List, drop, Option, None, Some, inl, inr, ◌⊎◌, refl, sym, ◌∙◌, ap, subst}
use Rattle.std.proofs.lemmas.Bool.{eqb-true}
use Rattle.fr_register.specs.Poll.{Stamped}
use Rattle.fr_register.specs.Chosen.{IsKept, IsReady}
use Rattle.fr_state.specs.Generations.{LogGeneration, CoordinatedState, IsCoordinatedState, last_of}
use Rattle.fr_state.specs.Spelling.{spelling}
use Rattle.fr_epoch.specs.Recoverer.{RecState, Parent, Plan, is_written}
use Rattle.fr_epoch.specs.Law.{IsPlanOf}
use Rattle.fr_run.specs.Config.{Config, first_epoch, first_generation, first_state, first_cell}
use Rattle.fr_run.specs.Turn.{Turn, cell_turns}
use Rattle.fr_run.specs.Nodes.{rec_at, plan_in, plan_at, generation_in, generation_at}
use Rattle.fr_run.specs.Run.{IsRun}
use Rattle.fr_run.specs.Laws.{Laws}
use Rattle.fr_run.specs.States.{state_of}
use Rattle.fr_run.specs.StateLaws.{IsConfig}
use Rattle.fr_run.specs.LineLaws.{ParentIsPlanned}
use Rattle.fr_run.specs.ParentLaws.{greatest_in, parent_at}
use Rattle.fr_run.proofs.Growth.{rec_is}
use Rattle.fr_run.proofs.Cells.{cells_have_history, first_within, written_is_state}
use Rattle.fr_run.proofs.Register.{has_found, parent_is_greatest}
use Rattle.fr_run.proofs.States.{first_is, last_more, one_spelling, recoverers_have_states}
use Rattle.fr_run.proofs.Chosen.{state_planned, generation_planned}

-- ---- plans

-- the plan of a ballot is of its epoch
pub plan_is : Laws → (c : Config) (h : List Turn) → IsRun c h → (b : ℕ) (r : RecState) → rec_at c h b ≡ Some r → (p : Plan) → r.plan ≡ Some p → IsPlanOf r.ballot p
plan_is laws c h run b r at p e = (rec_is laws c h run b r at).kept.plan p e

-- ---- where a parent comes from

-- a parent state is the first one
pub record IsFirstBelow (c : Config) (h : List Turn) (b : ℕ) (s : CoordinatedState) : Type 0 where
  pub ballot : (parent_at c h b).ballot ≡ first_epoch
  pub below : first_epoch < b
  pub is : first_state c ≡ s

-- or the plan of a lower ballot
pub record IsPlanBelow (c : Config) (h : List Turn) (b : ℕ) (s : CoordinatedState) : Type 0 where
  pub ballot : ℕ
  pub ballot_is : (parent_at c h b).ballot ≡ ballot
  pub below : ballot < b
  pub recoverer : RecState
  pub at : rec_at c h ballot ≡ Some recoverer
  pub plan : Plan
  pub planned : recoverer.plan ≡ Some plan
  pub written : is_written recoverer ≡ true
  pub is : plan.state ≡ s

pub parent_comes : Laws → (c : Config) (h : List Turn) → IsConfig c → IsRun c h → (b : ℕ) (r : RecState) (p : Parent) → rec_at c h b ≡ Some r → r.parent ≡ Some p
    → IsFirstBelow c h b p.state ⊎ IsPlanBelow c h b p.state
parent_comes laws c h config run b r p at parent = elim kept.holds [
  | inl start ↦ inl (record {
    ballot = ap (λ (s : Stamped). s.ballot) start;
    below = subst (λ n. n < b) (ap (λ (s : Stamped). s.ballot) start) ready.below;
    is = one_spelling laws (first_state c) p.state (first_is c config) par.0 (sym (ap (λ (s : Stamped). s.value) start) ∙ greatest);
  })
  | inr w ↦ (
      let k = written_is_state laws c h run (parent_at c h b) (record { cell = ready.read.found.0; tell = _; comes = w }) in
      let states = (recoverers_have_states laws c h config run (parent_at c h b).ballot k.recoverer k.at).plan k.plan k.planned in
      inr (record {
        ballot = (parent_at c h b).ballot;
        ballot_is = refl;
        below = ready.below;
        recoverer = k.recoverer;
        at = k.at;
        plan = k.plan;
        planned = k.planned;
        written = k.written;
        is = one_spelling laws k.plan.state p.state states.0 par.0 (sym k.value ∙ greatest);
      }))
]
  where
    par : IsCoordinatedState p.state × (r.reads.greatest.value ≡ spelling p.state)
    par = (recoverers_have_states laws c h config run b r at).parent p parent

    greatest : (parent_at c h b).value ≡ spelling p.state
    greatest = ap (λ o. (greatest_in o).value) at ∙ par.1

    ready : IsReady c.cells (first_cell c) (cell_turns h) b (parent_at c h b)
    ready = parent_is_greatest laws c h run b r p at parent

    kept : IsKept (first_cell c) (cell_turns h) ready.read.found.0 b (parent_at c h b)
    kept = laws.promises_kept (first_cell c) (cell_turns h) ready.read.found.0 b (parent_at c h b) (first_within c) (cells_have_history c h run) ready.read.found.1

-- ---- the epoch that a recoverer ends

parent_last : Laws → (c : Config) (h : List Turn) → IsRun c h → (b : ℕ) (r : RecState) (p : Parent) → rec_at c h b ≡ Some r → r.parent ≡ Some p → last_of p.state.gens ≡ Some p.last
parent_last laws c h run b r p at parent = ((has_found laws c h run b r at).found p parent).last

first_last : (c : Config) (p : Parent) → last_of p.state.gens ≡ Some p.last → first_state c ≡ p.state → first_generation c ≡ p.last
first_last c p last first = (
    let found : Some (first_generation c) ≡ Some p.last = ap (λ (s : CoordinatedState). last_of s.gens) first ∙ last in
    let same : first_generation c ≡ p.last = cc in
    same)

plan_last : Laws → (c : Config) (h : List Turn) → IsConfig c → IsRun c h → (b : ℕ) (p : Parent) → last_of p.state.gens ≡ Some p.last → (k : IsPlanBelow c h b p.state) → k.plan.generation ≡ p.last
plan_last laws c h config run b p last k = (
    let states = (recoverers_have_states laws c h config run k.ballot k.recoverer k.at).plan k.plan k.planned in
    let more = states.1.2 in
    let gens = ap (λ (s : CoordinatedState). s.gens) more.is in
    let found : Some k.plan.generation ≡ Some p.last = sym (ap last_of gens ∙ last_more (drop more.number states.1.0.state.gens) k.plan.generation) ∙ ap (λ (s : CoordinatedState). last_of s.gens) k.is ∙ last in
    let same : k.plan.generation ≡ p.last = cc in
    same)

plan_ballot : Laws → (c : Config) (h : List Turn) → IsConfig c → IsRun c h → (b : ℕ) (p : Parent) → last_of p.state.gens ≡ Some p.last → (k : IsPlanBelow c h b p.state) → k.ballot ≡ p.last.epoch
plan_ballot laws c h config run b p last k =
    let own : k.plan.generation.epoch ≡ k.ballot = (plan_is laws c h run k.ballot k.recoverer k.at k.plan k.planned).epoch ∙ (rec_is laws c h run k.ballot k.recoverer k.at).ballot in
    sym own ∙ ap (λ (g : LogGeneration). g.epoch) (plan_last laws c h config run b p last k)

-- the state and the generation of the epoch that it ends, and that this is of a lower ballot
pub record IsFromEpoch (c : Config) (h : List Turn) (b : ℕ) (p : Parent) : Type 0 where
  pub state : state_of c h p.last.epoch ≡ p.state
  pub generation : generation_at c h p.last.epoch ≡ Some p.last
  pub ballot : (parent_at c h b).ballot ≡ p.last.epoch
  pub below : p.last.epoch < b

pub parent_from : Laws → (c : Config) (h : List Turn) → IsConfig c → IsRun c h → (b : ℕ) (r : RecState) (p : Parent) → rec_at c h b ≡ Some r → r.parent ≡ Some p → IsFromEpoch c h b p
parent_from laws c h config run b r p at parent = elim (parent_comes laws c h config run b r p at parent) [
  | inl first ↦ (
      let same = first_last c p last first.is in
      let here : first_epoch ≡ p.last.epoch = ap (λ (g : LogGeneration). g.epoch) same in
      record {
        state = subst (λ e. state_of c h e ≡ p.state) here first.is;
        generation = subst (λ e. generation_at c h e ≡ Some p.last) here (ap Some same);
        ballot = first.ballot ∙ here;
        below = subst (λ e. e < b) here first.below;
      })
  | inr k ↦ (
      let same = plan_last laws c h config run b p last k in
      let here = plan_ballot laws c h config run b p last k in
      record {
        state = subst (λ e. state_of c h e ≡ p.state) here (state_planned laws c h run k.ballot k.recoverer k.at k.plan k.planned ∙ k.is);
        generation = subst (λ e. generation_at c h e ≡ Some p.last) here (generation_planned laws c h run k.ballot k.recoverer k.at k.plan k.planned ∙ ap Some same);
        ballot = k.ballot_is ∙ here;
        below = subst (λ e. e < b) here k.below;
      })
]
  where
    last : last_of p.state.gens ≡ Some p.last
    last = parent_last laws c h run b r p at parent

pub parent_is_planned : Laws → ParentIsPlanned
parent_is_planned laws c h config run b r p at parent = elim (parent_comes laws c h config run b r p at parent) [
  | inl first ↦ inl (sym (ap (λ (g : LogGeneration). g.epoch) (first_last c p last first.is)))
  | inr k ↦ (
      let here = plan_ballot laws c h config run b p last k in
      inr (record {
        below = subst (λ e. e < b) here k.below;
        recoverer = k.recoverer;
        at = subst (λ e. rec_at c h e ≡ Some k.recoverer) here k.at;
        plan = k.plan;
        planned = k.planned;
        written = k.written;
      }))
]
  where
    last : last_of p.state.gens ≡ Some p.last
    last = parent_last laws c h run b r p at parent

-- ---- the plan of an epoch

-- an epoch that has a generation and is not the first has it by its ballot's plan
pub record IsPlannedBy (c : Config) (h : List Turn) (e : ℕ) (g : LogGeneration) : Type 0 where
  pub recoverer : RecState
  pub at : rec_at c h e ≡ Some recoverer
  pub plan : Plan
  pub planned : recoverer.plan ≡ Some plan
  pub is : plan.generation ≡ g

pub planned_by : (c : Config) (h : List Turn) (e : ℕ) (g : LogGeneration) → generation_at c h e ≡ Some g → ((e ≡ first_epoch) × (first_generation c ≡ g)) ⊎ IsPlannedBy c h e g
planned_by c h e g at = go (e == first_epoch) refl at
  where
    plan : (r : RecState) → rec_at c h e ≡ Some r → (o : Option Plan) → r.plan ≡ o → generation_in o ≡ Some g → IsPlannedBy c h e g
    plan r at None planned m = absurd (cc)
    plan r at (Some q) planned m = let same : q.generation ≡ g = cc in record { recoverer = r; at = at; plan = q; planned = planned; is = same }

    rec : (o : Option RecState) → rec_at c h e ≡ o → generation_in (plan_in o) ≡ Some g → IsPlannedBy c h e g
    rec None at m = absurd (cc)
    rec (Some r) at m = plan r at r.plan refl m

    go : (s : Bool) → (e == first_epoch) ≡ s → cond s (Some (first_generation c)) (generation_in (plan_at c h e)) ≡ Some g → ((e ≡ first_epoch) × (first_generation c ≡ g)) ⊎ IsPlannedBy c h e g
    go true k m = let same : first_generation c ≡ g = cc in inl (eqb-true e first_epoch k, same)
    go false k m = inr (rec (rec_at c h e) refl m)
