-- Which epochs are chosen, and that they stay so.
use Rattle.std.proofs.Common.{◌≡◌, ℕ, ◌*◌, ◌<◌, Bool, true, false, cond, ◌==◌, ◌||◌, List, [], ◌∷◌, length, Option, None, Some, inl, inr, refl, sym, ◌∙◌, ap, subst, arith}
use Rattle.std.specs.List.{All, Contains}
use Rattle.std.proofs.lemmas.Bool.{eqb-true}
use Rattle.std.proofs.lemmas.List.Elements.{All-head, All-weaker}
use Rattle.fr_register.specs.declared.ask.CellTell.TheVariants.{Written}
use Rattle.fr_register.specs.Poll.{Stamped}
use Rattle.fr_register.specs.History as register
use Rattle.fr_register.specs.Chosen.{IsWrittenByMajority}
use Rattle.fr_state.specs.Generations.{CoordinatedState}
use Rattle.fr_state.specs.Spelling.{spelling}
use Rattle.fr_epoch.specs.Recoverer.{RecState, Plan, Chosen, is_written_in}
use Rattle.fr_run.specs.Config.{Config, first_epoch, first_generation, first_state, first_cell}
use Rattle.fr_run.specs.Turn.{Turn, cell_turns}
use Rattle.fr_run.specs.Nodes.{rec_at, plan_in, plan_at, generation_in, generation_at, is_open_in}
use Rattle.fr_run.specs.Run.{IsTurn, IsRun}
use Rattle.fr_run.specs.States.{state_in, state_of, pair_of, IsChosenEpoch}
use Rattle.fr_run.specs.ParentLaws.{parent_at}
use Rattle.fr_run.specs.ChosenLaws.{OpenIsChosen, FirstIsChosen, FirstIsLeast, ChosenIsWritten, ChosenIsPlanned, StateLasts, ChosenLasts}
use Rattle.fr_run.specs.Laws.{Laws}
use Rattle.fr_run.proofs.Growth.{rec_is, plan_grows, generation_stays, opener}
use Rattle.fr_run.proofs.Cells.{cell_turns_stay, written_is_state}
use Rattle.fr_run.proofs.Register.{run_has_parents}
use Rattle.fr_run.proofs.Votes.{pair_in, has_votes}

-- ---- plans as epochs

-- a ballot that has a recoverer is not that of the first epoch
pub other_epoch : Laws → (c : Config) (h : List Turn) → IsRun c h → (b : ℕ) (r : RecState) → rec_at c h b ≡ Some r → (b == first_epoch) ≡ false
other_epoch laws c h run b r at = go (b == first_epoch) refl
  where
    go : (s : Bool) → (b == first_epoch) ≡ s → s ≡ false
    go true k = absurd ((rec_is laws c h run b r at).other (eqb-true b first_epoch k))
    go false k = refl

-- the state and the generation of a ballot's plan are those of its epoch
pub state_planned : Laws → (c : Config) (h : List Turn) → IsRun c h → (b : ℕ) (r : RecState) → rec_at c h b ≡ Some r → (q : Plan) → r.plan ≡ Some q → state_of c h b ≡ q.state
state_planned laws c h run b r at q planned =
    ap (λ s. cond s (first_state c) (state_in c (plan_at c h b))) (other_epoch laws c h run b r at) ∙ ap (λ o. state_in c (plan_in o)) at ∙ ap (state_in c) planned

pub generation_planned : Laws → (c : Config) (h : List Turn) → IsRun c h → (b : ℕ) (r : RecState) → rec_at c h b ≡ Some r → (q : Plan) → r.plan ≡ Some q → generation_at c h b ≡ Some q.generation
generation_planned laws c h run b r at q planned =
    ap (λ s. cond s (Some (first_generation c)) (generation_in (plan_at c h b))) (other_epoch laws c h run b r at) ∙ ap (λ o. generation_in (plan_in o)) at ∙ ap generation_in planned

-- ---- which are chosen

pub first_is_chosen : FirstIsChosen
first_is_chosen c h = inl refl

-- a recoverer whose state is chosen heard so of a majority
chosen_by : Laws → (c : Config) (h : List Turn) → IsRun c h → (e : ℕ) (r : RecState) → rec_at c h e ≡ Some r → r.phase ≡ Chosen → (o : Option Plan) → r.plan ≡ o → is_written_in o r.seeded ≡ true → IsChosenEpoch c h e
chosen_by laws c h run e r at chosen None d w = absurd (cc)
chosen_by laws c h run e r at chosen (Some q) d w =
    let votes = has_votes laws c h run e r at in
    let pair : pair_in e q ≡ pair_of c h e = ap (λ (s : CoordinatedState). let p : Stamped = record { ballot = e; value = spelling s } in p) (sym (state_planned laws c h run e r at q d)) in
    inr (subst (IsWrittenByMajority c.cells (cell_turns h)) pair (laws.write_majority c.cells (cell_turns h) (pair_in e q) r.writes (votes.planned q d) (votes.majority chosen)))

pub open_is_chosen : Laws → OpenIsChosen
open_is_chosen laws c h run e op = go (e == first_epoch) refl op
  where
    go : (s : Bool) → (e == first_epoch) ≡ s → (s || is_open_in (rec_at c h e)) ≡ true → IsChosenEpoch c h e
    go true k l = subst (IsChosenEpoch c h) (sym (eqb-true e first_epoch k)) (first_is_chosen c h)
    go false k l =
        let o = opener c h e l in
        chosen_by laws c h run e o.recoverer o.at o.chosen o.recoverer.plan refl ((rec_is laws c h run e o.recoverer o.at).kept.come_by.chosen o.chosen)

pub first_is_least : Laws → FirstIsLeast
first_is_least laws c h run e chosen = laws.start_least c.cells (first_cell c) (parent_at c h) (cell_turns h) (pair_of c h e) (run_has_parents laws c h run) chosen

-- what a majority took came to a cell
came_somewhere : (n : ℕ) (turns : List register.Turn) (p : Stamped) → IsWrittenByMajority n turns p → register.IsWritten turns p
came_somewhere n turns p w = go w.who w.majority.more w.each
  where
    go : (who : List ℕ) → n < 2 * length who → All (λ i. Contains turns (register.written_turn i p)) who → register.IsWritten turns p
    go [] more each = absurd (omega (arith, more))
    go (i ∷ who) more each = record { cell = i; tell = Written p.ballot; comes = All-head (λ j. Contains turns (register.written_turn j p)) i who each }

pub chosen_is_written : Laws → ChosenIsWritten
chosen_is_written laws c h run e (inl start) = inl (ap (λ (s : Stamped). s.ballot) start)
chosen_is_written laws c h run e (inr w) = inr (written_is_state laws c h run (pair_of c h e) (came_somewhere c.cells (cell_turns h) (pair_of c h e) w))

pub chosen_is_planned : Laws → ChosenIsPlanned
chosen_is_planned laws c h run e chosen = elim (chosen_is_written laws c h run e chosen) [
  | inl first ↦ (first_generation c, subst (λ x. generation_at c h x ≡ Some (first_generation c)) (sym first) refl)
  | inr k ↦ (k.plan.generation, generation_planned laws c h run e k.recoverer k.at k.plan k.planned)
]

-- ---- they stay so

pub state_lasts : Laws → StateLasts
state_lasts laws c h t run is e g at = (generation_stays laws c h t run is e g at, go (e == first_epoch) at)
  where
    planned : (o : Option Plan) → plan_at c h e ≡ o → generation_in o ≡ Some g → state_in c (plan_at c (t ∷ h) e) ≡ state_in c o
    planned None at k = absurd (cc)
    planned (Some p) at k = let q = plan_grows laws c h t run is e p at in ap (state_in c) q.is ∙ q.grows.state

    go : (s : Bool) → cond s (Some (first_generation c)) (generation_in (plan_at c h e)) ≡ Some g → cond s (first_state c) (state_in c (plan_at c (t ∷ h) e)) ≡ cond s (first_state c) (state_in c (plan_at c h e))
    go true k = refl
    go false k = planned (plan_at c h e) refl k

-- what a majority took it took for good
taken_stays : (c : Config) (h : List Turn) (t : Turn) → IsTurn c h t → (p : Stamped) → IsWrittenByMajority c.cells (cell_turns h) p → IsWrittenByMajority c.cells (cell_turns (t ∷ h)) p
taken_stays c h t is p w = record {
  who = w.who;
  majority = w.majority;
  each = All-weaker (λ i. Contains (cell_turns h) (register.written_turn i p)) (λ i. Contains (cell_turns (t ∷ h)) (register.written_turn i p)) (λ i k. cell_turns_stay c h t is (register.written_turn i p) k) w.who w.each;
}

pub chosen_lasts : Laws → ChosenLasts
chosen_lasts laws c h t run is e chosen =
    let g = chosen_is_planned laws c h run e chosen in
    let same = (state_lasts laws c h t run is e g.0 g.1).1 in
    let pair : pair_of c h e ≡ pair_of c (t ∷ h) e = ap (λ (s : CoordinatedState). let p : Stamped = record { ballot = e; value = spelling s } in p) (sym same) in (
      elim chosen [
        | inl start ↦ inl (sym pair ∙ start)
        | inr w ↦ inr (subst (IsWrittenByMajority c.cells (cell_turns (t ∷ h))) pair (taken_stays c h t is (pair_of c h e) w))
      ],
      same,
    )
