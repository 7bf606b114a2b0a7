-- What is below in an epoch is below in each later one that is chosen, and what was acknowledged is taken over by each greater ballot.
use Rattle.std.proofs.Common.{◌≡◌, ℕ, ◌<◌, ◌≤◌, List, [], ◌∷◌, ◌++◌, append_assoc, Some, inl, inr, sym, ◌∙◌, ap, subst, arith}
use Rattle.std.specs.List.{Contains}
use Rattle.std.proofs.lemmas.List.Elements.{Contains-append_left, Contains-append_right, Contains-push_cases}
use Rattle.fr_state.specs.Generations.{LogGeneration}
use Rattle.fr_run.specs.Config.{Config, first_state}
use Rattle.fr_run.specs.Turn.{Turn}
use Rattle.fr_run.specs.Nodes.{generation_at, logs_at}
use Rattle.fr_run.specs.Run.{IsRun}
use Rattle.fr_run.specs.Laws.{Laws}
use Rattle.fr_run.specs.States.{line_of}
use Rattle.fr_run.specs.StateLaws.{IsConfig}
use Rattle.fr_run.proofs.Cells.{Contains-here, Contains-none, Contains-cases}
use Rattle.fr_run.proofs.Chosen.{open_is_chosen, chosen_is_planned}
use Rattle.fr_run.proofs.Lines.{chosen_are_chain}
use Rattle.fr_run.proofs.Parents.{planned_by}
use Rattle.fr_run.proofs.Lines.{plan_line, chosen_is_front}
use Rattle.fr_run_headline.specs.Bounds.{IsBelow}
use Rattle.fr_run_headline.specs.BehindLaws.{BelowIsHeldBehind, BelowStaysBelow, ChosenStaysBelow, AcknowledgedIsKept}
use Rattle.fr_run_headline.proofs.Acks.{acknowledged_is_safe}
use Rattle.fr_run_headline.proofs.Transport.{below_is_held_later}
use Rattle.fr_run_headline.proofs.Seeds.{chosen_is_seeded}
use Rattle.fr_run_headline.proofs.Behind.{IsState, state_is}

-- the first epoch has nothing behind its generation
first_alone : (c : Config) (front : List LogGeneration) (g n : LogGeneration) (rest : List LogGeneration) → (first_state c).gens ≡ front ++ g ∷ rest → Contains rest n → ⊥
first_alone c [] g n [] e k = Contains-none k
first_alone c [] g n (x ∷ rest) e k = absurd (cc)
first_alone c (x ∷ []) g n rest e k = absurd (cc)
first_alone c (x ∷ y ∷ front) g n rest e k = absurd (cc)

pub below_is_held_behind : Laws → BelowIsHeldBehind
below_is_held_behind laws c h config run e own at front g n rest is later v below = elim (planned_by c h e own at) [
  | inl first ↦ absurd (first_alone c front g n rest (sym (ap (line_of c h) first.0) ∙ is) later)
  | inr k ↦ below_is_held_later laws c h config run e k.recoverer k.plan k.at k.planned front g n rest is later v below
]

-- what is in a list stands between two parts of it
pub record StandsIn (xs : List LogGeneration) (x : LogGeneration) : Type 0 where
  pub front : List LogGeneration
  pub rest : List LogGeneration
  pub is : xs ≡ front ++ x ∷ rest

pub stands_in : (xs : List LogGeneration) (x : LogGeneration) → Contains xs x → StandsIn xs x
stands_in [] x k = absurd (Contains-none k)
stands_in (y ∷ xs) x k = elim (Contains-cases y xs x k) [
  | inl e ↦ record { front = []; rest = xs; is = ap (λ z. z ∷ xs) e }
  | inr m ↦ (let j = stands_in xs x m in record { front = y ∷ j.front; rest = j.rest; is = ap (λ zs. y ∷ zs) j.is })
]

pub below_stays_below : Laws → BelowStaysBelow
below_stays_below laws c h config run e s g there v below = elim (Contains-push_cases k.behind s.generation g (subst (λ xs. Contains xs g) k.is there)) [
  | inl behind ↦ (
      let j = stands_in k.behind g behind in
      let own : List LogGeneration = s.generation ∷ [] in
      let gens : line_of c h e ≡ j.front ++ g ∷ (j.rest ++ own) = k.is ∙ ap (λ xs. xs ++ own) j.is ∙ append_assoc j.front (g ∷ j.rest) own in
      let held = below_is_held_behind laws c h config run e s.generation s.of j.front g s.generation (j.rest ++ own) gens (Contains-append_right j.rest own s.generation (Contains-here s.generation [])) v below in
      all held.0)
  | inr last ↦ (
      let same : g.epoch ≡ e = ap (λ (x : LogGeneration). x.epoch) (sym last) ∙ k.has.own in
      subst (λ x. IsBelow c h x v) same below)
]
  where
    k : IsState c h e s.generation
    k = state_is laws c h config run e s.generation s.of

    all : v ≤ s.generation.seeded_to → IsBelow c h e v
    all low = record {
      generation = s.generation;
      at = s.of;
      below = inr (λ i l. (
          let here : i < logs_at c h e = subst (λ n. i < n) (sym s.logs) l in
          let holds = s.durable i here in
          record { there = here; seeded = s.seeded i here; durable = omega (arith, low, holds) }));
    }

-- the generation of an epoch is in its state
pub own_is_there : Laws → (c : Config) (h : List Turn) → IsConfig c → IsRun c h → (e : ℕ) (g : LogGeneration) → generation_at c h e ≡ Some g → Contains (line_of c h e) g
own_is_there laws c h config run e g at = (let k = state_is laws c h config run e g at in subst (λ xs. Contains xs g) (sym k.is) (Contains-append_right k.behind (g ∷ []) g (Contains-here g [])))

pub chosen_stays_below : Laws → ChosenStaysBelow
chosen_stays_below laws c h config run a b low high le v below =
    let g = chosen_is_planned laws c h run a low in
    let own = (state_is laws c h config run a g.0 g.1).has.own in
    let front = chosen_are_chain laws c h config run a b low high le in
    let there : Contains (line_of c h b) g.0 = subst (λ xs. Contains xs g.0) front.1 (Contains-append_left (line_of c h a) front.0 g.0 (own_is_there laws c h config run a g.0 g.1)) in
    below_stays_below laws c h config run b (chosen_is_seeded laws c h config run b high) g.0 there v (subst (λ x. IsBelow c h x v) (sym own) below)

pub acknowledged_is_kept : Laws → AcknowledgedIsKept
acknowledged_is_kept laws c h config run b r q at planned e v acked less =
    let safe = acknowledged_is_safe laws c h run e v acked in
    let k = state_is laws c h config run e safe.generation safe.of in
    let own = plan_line laws c h config run b r q at planned in
    let mine : List LogGeneration = q.generation ∷ [] in
    let its : List LogGeneration = safe.generation ∷ [] in
    let front = chosen_is_front laws c h config run e b r own.parent (open_is_chosen laws c h run e safe.opened) at own.is less in
    let gens : line_of c h b ≡ k.behind ++ safe.generation ∷ (front.0 ++ mine) =
    own.line ∙ ap (λ xs. xs ++ mine) (sym front.1) ∙ ap (λ xs. (xs ++ front.0) ++ mine) k.is ∙ append_assoc (k.behind ++ its) front.0 mine ∙ append_assoc k.behind its (front.0 ++ mine) in
    let below : IsBelow c h e v = record { generation = safe.generation; at = safe.of; below = inr safe.reached } in
    (below_is_held_later laws c h config run b r q at planned k.behind safe.generation q.generation (front.0 ++ mine) gens (Contains-append_right front.0 mine q.generation (Contains-here q.generation [])) v
    (subst (λ x. IsBelow c h x v) (sym k.has.own) below)).0
