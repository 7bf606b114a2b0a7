-- What is submitted after a moment is committed above what is committed at it.
use Rattle.std.proofs.Common.{◌≡◌, ℕ, ◌≤◌, List, ◌++◌, length, Option, None, Some, inl, inr, refl, sym, ◌∙◌, ap, subst, arith}
use Rattle.std.specs.Prelude.{IfSome}
use Rattle.std.specs.List.{Contains}
use Rattle.std.proofs.lemmas.Bool.{cases_lt}
use Rattle.fr_state.specs.LookUp.{cut_of}
use Rattle.fr_state.specs.Generations.{LogGeneration}
use Rattle.fr_storage.specs.Storage.{own_epoch}
use Rattle.fr_run.specs.Config.{Config}
use Rattle.fr_run.specs.Turn.{Turn}
use Rattle.fr_run.specs.Nodes.{generation_at, mark_version, storage_at}
use Rattle.fr_run.specs.Run.{IsRun}
use Rattle.fr_run.specs.Batches.{batches}
use Rattle.fr_run.specs.States.{line_of, IsChosenEpoch, IsLatest}
use Rattle.fr_run.specs.StateLaws.{IsConfig}
use Rattle.fr_run.specs.ChosenLaws.{OpenIsChosen}
use Rattle.fr_run.proofs.Chosen.{chosen_is_planned}
use Rattle.fr_run_headline.specs.Numbers.{Numbering, numbers}
use Rattle.fr_run_headline.specs.Bounds.{IsBelow}
use Rattle.fr_run_headline.specs.BoundLaws.{AcknowledgedIsSafe}
use Rattle.fr_run_headline.specs.BehindLaws.{ChosenStaysBelow}
use Rattle.fr_run_headline.specs.Issued.{Entry, issued, least_durable, committed}
use Rattle.fr_run_headline.specs.Storages.{StoragesFollow}
use Rattle.fr_run_headline.specs.Committed.{commit_at, LatestIsThere, AcknowledgedIsCommitted}
use Rattle.fr_run_headline.specs.Laws.{Laws}
use Rattle.fr_run_headline.proofs.Ends.{always_chained}
use Rattle.fr_run_headline.proofs.Durables.{below_is_committed}
use Rattle.fr_run_headline.proofs.Later.{run_before}
use Rattle.fr_run_headline.proofs.Lists.{planned_list}
use Rattle.fr_run_headline.proofs.Places.{through_keeps, same_has}
use Rattle.fr_run_headline.proofs.Splits.{later_split, below_is_within}
use Rattle.fr_run_headline.proofs.Taken.{number_has_batch}
use Rattle.fr_run_outcomes.specs.Once.{IsEntryOf, IsOfRequest, CommittedWasSubmitted}
use Rattle.fr_run_outcomes.specs.Reads.{CommittedStays}
use Rattle.fr_run_history.specs.RealTime.{IsToCome, CommittedLater, AcknowledgedBefore, SettledBefore, AcknowledgedIsSettled}
use Rattle.fr_run_history.proofs.Numbered.{chained_once, still_numbered, number_is_taken}

-- ---- what is submitted later

-- the committed list of a moment has no entry of a request that is to come
not_there : Laws → CommittedWasSubmitted → (c : Config) (more h : List Turn) → IsConfig c → IsRun c (more ++ h) → (latest : ℕ) → IsLatest c h latest → (e proxy request : ℕ) → IsToCome h e proxy request
    → (x : Entry) → IsEntryOf (more ++ h) e proxy request x → Contains (committed c h latest) x → ⊥
not_there laws submitted c more h config run latest is e proxy request come x of there =
    let nodes = laws.contents.nodes in
    let before = run_before c more h run in
    let number = of.number in
    let given = of.of.given in
    let b = number_has_batch nodes c (more ++ h) run e number given in
    let has : x.batch ≡ Some b.batch = sym (ap (λ (y : Entry). y.batch) of.is) ∙ b.at in
    let s : IsOfRequest h x b.batch = submitted c h config before latest is x b.batch there has in
    let origin : x.origin ≡ e = sym (ap (λ (y : Entry). y.origin) of.is) in
    let old = s.entry.number in
    let was : Contains (numbers h e) old = subst (λ o. Contains (numbers h o) old) origin s.entry.of.given in
    let version : old.version ≡ number.version = ap (λ (y : Entry). y.version) s.entry.is ∙ sym (ap (λ (y : Entry). y.version) of.is) in
    let same : old ≡ number = chained_once (mark_version (generation_at c (more ++ h) e)) (numbers (more ++ h) e) (always_chained nodes c (more ++ h) run e) old number (still_numbered more h e old was) given version in
    let taken = number_is_taken nodes c h before e old was in
    let mine : number.request ≤ length (batches h e number.proxy) = subst (λ (n : Numbering). n.request ≤ length (batches h e n.proxy)) same taken in
    let by : number.request ≤ length (batches h e proxy) = subst (λ p. number.request ≤ length (batches h e p)) of.of.by mine in
    let asked : number.request ≡ request = of.of.asked in
    omega (arith, by, asked, come)

pub committed_later : Laws → CommittedWasSubmitted → CommittedStays → CommittedLater
committed_later laws submitted stays c h more config run latest later is now e proxy request come x there of = elim (cases_lt (least_durable c h latest) x.version) [
  | inl above ↦ above
  | inr within ↦ (
      let same = stays c h more config run latest later x.version is now within in
      absurd (not_there laws submitted c more h config run latest is e proxy request come x of (same_has x.version (committed c (more ++ h) later) (committed c h latest) x same (omega arith) there)))
]

-- ---- so what was acknowledged or read before

pub acknowledged_before : CommittedLater → LatestIsThere → AcknowledgedIsCommitted → AcknowledgedBefore
acknowledged_before law latest listed c h more config run a version acked later now e proxy request come x there of =
    let before = run_before c more h run in
    let is = latest c h before in
    let k = listed c h config before a version acked in
    let within = (through_keeps (least_durable c h is.0) (issued c h is.0) (commit_at a version k.batch) (k.listed is.0 is.1)).1 in
    let above = law c h more config run is.0 later is.1 now e proxy request come x there of in
    omega (arith, within, above)

pub settled_before : CommittedLater → SettledBefore
settled_before law c h more config run latest tag version is settled later now e proxy request come x there of =
    let within = settled.committed in
    let above = law c h more config run latest later is now e proxy request come x there of in
    omega (arith, within, above)

-- ---- where what was acknowledged can be read

pub acknowledged_is_settled : Laws → OpenIsChosen → AcknowledgedIsSafe → ChosenStaysBelow → StoragesFollow → AcknowledgedIsSettled
acknowledged_is_settled laws opens safe stays follow c h config run latest is e version acked tag le floor applied = record {
  floor = floor;
  applied = applied;
  committed = (below_is_committed laws c h config run own latest chosen is.chosen (is.greatest own chosen) version below).within;
  uncut = uncut (cut_of (line_of c h latest) own) refl;
}
  where
    own : ℕ
    own = own_epoch (storage_at c h tag).state

    chosen : IsChosenEpoch c h own
    chosen = (follow c h config run tag).chosen

    -- each log of the server's own epoch has reached it
    below : IsBelow c h own version
    below =
        let s = safe c h run e version acked in
        stays c h config run e own (opens c h run e s.opened) chosen le version (record { generation = s.generation; at = s.of; below = inr s.reached })

    g : (g : LogGeneration) × (generation_at c h latest ≡ Some g)
    g = chosen_is_planned laws.contents.nodes c h run latest is.chosen

    -- the latest epoch's line does not cut it, and each earlier one's cut is not below it
    mine : own ≡ latest → cut_of (line_of c h latest) own ≡ None
    mine same =
        let list = planned_list laws.contents.nodes c h config run latest g.0 g.1 in
        ap (cut_of (line_of c h latest)) (same ∙ sym list.own) ∙ (laws.stores.last_open (line_of c h latest) g.0 list.ordered list.last).1

    uncut : (o : Option ℕ) → cut_of (line_of c h latest) own ≡ o → IfSome o (λ cut. version ≤ cut)
    uncut None at = tt
    uncut (Some cut) at = elim (cases_lt own latest) [
      | inl lt ↦ (
          let k = later_split laws c h config run own latest g.0 chosen is.chosen g.1 lt in
          let low = below_is_within laws c h config run own latest g.0 g.1 k version below in
          let two : Some cut ≡ Some k.next.seeded_to = sym at ∙ k.cut in
          let same : cut ≡ k.next.seeded_to = cc in
          omega (arith, low, same))
      | inr ge ↦ (
          let most = is.greatest own chosen in
          let none : None ≡ Some cut = sym (mine (omega (arith, ge, most))) ∙ at in
          absurd (cc))
    ]
