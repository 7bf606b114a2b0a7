-- Versions of a storage server that no later state cuts.
use Rattle.std.proofs.Common.{◌≡◌, ℕ, ◌<◌, ◌≤◌, List, Some, inl, inr, sym, ◌∙◌, ap, subst, arith}
use Rattle.std.specs.Prelude.{IfSome}
use Rattle.std.proofs.lemmas.Bool.{cases_lt}
use Rattle.fr_state.specs.Generations.{LogGeneration}
use Rattle.fr_state.specs.LookUp.{cut_of}
use Rattle.fr_storage.specs.Storage.{StorageState, own_epoch}
use Rattle.fr_run.specs.Config.{Config}
use Rattle.fr_run.specs.Turn.{Turn}
use Rattle.fr_run.specs.Nodes.{generation_at}
use Rattle.fr_run.specs.Run.{IsRun}
use Rattle.fr_run.specs.States.{line_of, IsChosenEpoch}
use Rattle.fr_run.specs.StateLaws.{IsConfig}
use Rattle.fr_run.proofs.Chosen.{chosen_is_planned}
use Rattle.fr_run.proofs.Lines.{chosen_are_chain}
use Rattle.fr_run_headline.specs.Bounds.{IsBelow}
use Rattle.fr_run_headline.specs.BehindLaws.{ChosenStaysBelow}
use Rattle.fr_run_headline.specs.Laws.{Laws}
use Rattle.fr_run_headline.proofs.Splits.{IsLaterSplit, later_split, below_is_within}

-- ---- firm versions

-- a version that a server has applied, and that no recovery cuts off: each log of a chosen epoch has reached it, and where that epoch is later than the server's own,
-- it is not above the cut of the own one there
pub record IsFirm (c : Config) (h : List Turn) (s : StorageState) (version : ℕ) : Type 0 where
  pub epoch : ℕ
  pub chosen : IsChosenEpoch c h epoch
  pub below : IsBelow c h epoch version
  pub applied : version ≤ s.store.applied
  pub uncut : own_epoch s.state < epoch → IfSome (cut_of (line_of c h epoch) (own_epoch s.state)) (λ cut. version ≤ cut)

-- the laws of lines on which this rests
pub record Rules : Type 0 where
  pub laws : Laws
  pub below : ChosenStaysBelow

-- so no chosen epoch cuts it off
pub cut_is_high : Rules → (c : Config) (h : List Turn) → IsConfig c → IsRun c h → (s : StorageState) (version : ℕ) → IsChosenEpoch c h (own_epoch s.state) → IsFirm c h s version
    → (x : ℕ) (g : LogGeneration) → IsChosenEpoch c h x → generation_at c h x ≡ Some g → (k : IsLaterSplit c h (own_epoch s.state) x g) → own_epoch s.state < x → version ≤ k.next.seeded_to
cut_is_high rules c h config run s version own_chosen f x g chosen at k lt = elim (cases_lt own f.epoch) [
  | inl later ↦ (
      let ga = chosen_is_planned rules.laws.contents.nodes c h run f.epoch f.chosen in
      let m = later_split rules.laws c h config run own f.epoch ga.0 own_chosen f.chosen ga.1 later in
      let low : version ≤ m.next.seeded_to = subst (λ o. IfSome o (λ cut. version ≤ cut)) m.cut (f.uncut later) in
      elim (cases_lt f.epoch x) [
        | inl above ↦ (
            let front = chosen_are_chain rules.laws.contents.nodes c h config run f.epoch x f.chosen chosen (omega (arith, above)) in
            let there : cut_of (line_of c h x) own ≡ Some m.next.seeded_to = ap (λ (xs : List LogGeneration). cut_of xs own) (sym front.1) ∙ rules.laws.stores.front_cut (line_of c h f.epoch) front.0 own m.next.seeded_to m.cut in
            same_cut m.next.seeded_to k.next.seeded_to (sym there ∙ k.cut) low)
        | inr upto ↦ (
            let front = chosen_are_chain rules.laws.contents.nodes c h config run x f.epoch chosen f.chosen (omega (arith, upto)) in
            let there : cut_of (line_of c h f.epoch) own ≡ Some k.next.seeded_to = ap (λ (xs : List LogGeneration). cut_of xs own) (sym front.1) ∙ rules.laws.stores.front_cut (line_of c h x) front.0 own k.next.seeded_to k.cut in
            same_cut m.next.seeded_to k.next.seeded_to (sym m.cut ∙ there) low)
      ])
  | inr behind ↦
      below_is_within rules.laws c h config run own x g at k version (rules.below c h config run f.epoch own f.chosen own_chosen (omega (arith, behind)) version f.below)
]
  where
    own : ℕ
    own = own_epoch s.state

    same_cut : (a b : ℕ) → Some a ≡ Some b → version ≤ a → version ≤ b
    same_cut a b e low = let same : a ≡ b = cc in omega (arith, same, low)
