-- What is acknowledged stands and is never undone, and the committed list only grows.
use Rattle.std.proofs.Common.{◌≡◌, ℕ, List, [], ◌∷◌, ◌++◌, Some, inr, sym, ◌∙◌, ap, subst, arith}
use Rattle.std.specs.List.{Contains}
use Rattle.fr_mutation.specs.declared.mutation.Mutation.{Mutation}
use Rattle.fr_state.specs.Generations.{LogGeneration}
use Rattle.fr_run.specs.Config.{Config}
use Rattle.fr_run.specs.Turn.{Turn}
use Rattle.fr_run.specs.Nodes.{generation_at, storage_at}
use Rattle.fr_run.specs.Run.{IsRun}
use Rattle.fr_run.specs.States.{line_of, IsChosenEpoch, IsLatest}
use Rattle.fr_run.specs.StateLaws.{IsConfig}
use Rattle.fr_run_headline.specs.Numbers.{Numbering, numbers, top_at}
use Rattle.fr_run_headline.specs.Bounds.{IsBelow}
use Rattle.fr_run_headline.proofs.Acks.{acknowledged_is_safe}
use Rattle.fr_run_headline.specs.Issued.{Entry, entry_of, entries, issued_of, issued, least_durable, committed}
use Rattle.fr_run_headline.proofs.VersionLists.{through, between, through_on, through_twice}
use Rattle.fr_run_headline.proofs.IssuedLists.{version_of}
use Rattle.fr_run_headline.proofs.Lists.{planned_list}
use Rattle.fr_run_headline.proofs.Parts.{issued_rises}
use Rattle.fr_run_headline.specs.Committed.{IsAcknowledgedBatch, commit_at, Stands, IsNeverUndone, AcknowledgedIsNeverUndone, AcknowledgedIsCommitted, CommittedGrows}
use Rattle.fr_run_headline.specs.Headline.{Headline}
use Rattle.fr_run_headline.specs.Laws.{Laws}
use Rattle.fr_run.proofs.Chosen.{open_is_chosen, chosen_is_planned}
use Rattle.fr_run_headline.proofs.Places.{entries_have, issued_has, last_place, same_has}
use Rattle.fr_run_headline.proofs.Keeping.{HasIn}
use Rattle.fr_run_headline.proofs.Acknowledging.{is_acknowledged, acknowledged_number, acknowledged_has_batch}
use Rattle.fr_run_headline.proofs.Following.{keeps_applied}
use Rattle.fr_run_headline.proofs.Later.{run_before, still_chosen, still_below, issued_still, still_acknowledged}
use Rattle.fr_run_headline.proofs.Durables.{least_is_below, least_is_numbered, IsCommittedThrough, below_is_committed}
use Rattle.fr_run_headline.proofs.Exact.{rolled_back_is_exact}

-- ---- what is acknowledged stands

-- what an epoch numbered it issued
own_commit : Laws → (c : Config) (h : List Turn) → IsConfig c → IsRun c h → (e : ℕ) (g : LogGeneration) → generation_at c h e ≡ Some g → (n : Numbering) → Contains (numbers h e) n → Contains (issued c h e) (entry_of h e n)
own_commit laws c h config run e g at n k =
    let list = planned_list laws.contents.nodes c h config run e g at in
    let place = last_place (line_of c h e) g list.last in
    let here : Contains (entries c h g.epoch) (entry_of h e n) = subst (λ x. Contains (entries c h x) (entry_of h e n)) (sym list.own) (entries_have c h e n k) in
    subst (λ gens. Contains (issued_of (entries c h) gens) (entry_of h e n)) (sym place.is) (issued_has (entries c h) place.front g [] (entry_of h e n) here tt)

acknowledged_below : Laws → (c : Config) (h : List Turn) → IsRun c h → (e v : ℕ) (batch : List Mutation) → IsAcknowledgedBatch c h e v batch → IsBelow c h e v
acknowledged_below laws c h run e v batch k = let s = acknowledged_is_safe laws.contents.nodes c h run e v (is_acknowledged c h e v batch k) in record { generation = s.generation; at = s.of; below = inr s.reached }

stands_now : Laws → (c : Config) (h : List Turn) → IsConfig c → IsRun c h → (e v : ℕ) (batch : List Mutation) → IsAcknowledgedBatch c h e v batch → (latest : ℕ) → IsLatest c h latest → Contains (committed c h latest) (commit_at e v batch)
stands_now laws c h config run e v batch acked latest is =
    let s = acknowledged_is_safe laws.contents.nodes c h run e v (is_acknowledged c h e v batch acked) in
    let n = acknowledged_number laws c h run e v batch acked in
    let chosen = open_is_chosen laws.contents.nodes c h run e s.opened in
    let is_entry : entry_of h e n.number ≡ commit_at e v batch = (let at = n.at in let taken = n.taken in λ i. record { version = at i; origin = e; batch = taken i }) in
    let own : Contains (issued c h e) (commit_at e v batch) = subst (Contains (issued c h e)) is_entry (own_commit laws c h config run e s.generation s.of n.number n.given) in
    let all = below_is_committed laws c h config run e latest chosen is.chosen (is.greatest e chosen) v (acknowledged_below laws c h run e v batch acked) in
    same_has v (issued c h e) (committed c h latest) (commit_at e v batch) all.same (omega arith) own

pub acknowledged_stands : Laws → (c : Config) (h : List Turn) → IsConfig c → (e v : ℕ) (batch : List Mutation) → IsAcknowledgedBatch c h e v batch → Stands c h (commit_at e v batch)
acknowledged_stands laws c h config e v batch acked later run latest is = stands_now laws c (later ++ h) config run e v batch (still_acknowledged c later h e v batch acked) latest is

-- with its batch
pub acknowledged_is_committed : Laws → AcknowledgedIsCommitted
acknowledged_is_committed laws c h config run e v acked =
    let k = acknowledged_has_batch laws c h run e v acked in
    record { batch = k.0; acknowledged = k.1; listed = λ latest is. stands_now laws c h config run e v k.0 k.1 latest is }

-- ---- and is not undone

keeps_all : Laws → (c : Config) (after h : List Turn) → IsConfig c → IsRun c (after ++ h) → (tag : ℕ) (entry : Entry) → IsBelow c h entry.origin entry.version → HasIn c h (storage_at c h tag) entry → HasIn c (after ++ h) (storage_at c (after ++ h) tag) entry
keeps_all laws c [] h config run tag entry below has = has
keeps_all laws c (t ∷ after) h config run tag entry below has =
    keeps_applied laws c (after ++ h) t config run.1 run.0 tag entry (still_below laws c after h run.1 entry.origin entry.version below) (keeps_all laws c after h config run.1 tag entry below has)

pub never_undone : Laws → (c : Config) (h : List Turn) → IsConfig c → (e v : ℕ) (batch : List Mutation) → IsAcknowledgedBatch c h e v batch → IsNeverUndone c h (commit_at e v batch)
never_undone laws c h config e v batch acked later after tag run has =
    let below = acknowledged_below laws c (later ++ h) (run_before c after (later ++ h) run) e v batch (still_acknowledged c later h e v batch acked) in
    let k = keeps_all laws c after (later ++ h) config run tag (commit_at e v batch) below (record { issued = has.issued; applied = has.applied }) in
    record { issued = k.issued; applied = k.applied }

-- ---- the committed list grows

pub committed_grows : Laws → CommittedGrows
committed_grows laws c h later config run latest now is new = (
  between version_of low high all,
  ap (λ xs. xs ++ between version_of low high all) front ∙ through_on version_of 0 (top_at c w now) low high all (issued_rises laws.contents.nodes c w config run now g'.0 g'.1) through_later.within,
)
  where
    w : List Turn
    w = later ++ h

    before : IsRun c h
    before = run_before c later h run

    low : ℕ
    low = least_durable c h latest

    high : ℕ
    high = least_durable c (later ++ h) now

    all : List Entry
    all = issued c (later ++ h) now

    g : (g : LogGeneration) × (generation_at c h latest ≡ Some g)
    g = chosen_is_planned laws.contents.nodes c h before latest is.chosen

    g' : (g : LogGeneration) × (generation_at c w now ≡ Some g)
    g' = chosen_is_planned laws.contents.nodes c w run now new.chosen

    still : IsChosenEpoch c w latest
    still = still_chosen laws c later h config run latest is.chosen

    through_later : IsCommittedThrough c w latest now (least_durable c h latest)
    through_later = below_is_committed laws c w config run latest now still new.chosen (new.greatest latest still) low (still_below laws c later h run latest low (least_is_below laws c h config before latest g.0 is.chosen g.1))

    front : committed c h latest ≡ through version_of low all
    front =
        sym (issued_still laws c later h config run latest g.0 g.1 low (least_is_numbered laws c h config before latest g.0 is.chosen g.1))
        ∙ through_later.same
        ∙ through_twice version_of low high all through_later.within

-- ---- the main theorem

pub acknowledged_is_never_undone : Laws → (c : Config) (h : List Turn) → IsConfig c → AcknowledgedIsNeverUndone c h
acknowledged_is_never_undone laws c h config e v batch acked = (acknowledged_stands laws c h config e v batch acked, never_undone laws c h config e v batch acked)

pub headline : Laws → Headline
headline laws c h config run = (rolled_back_is_exact laws c h config run, acknowledged_is_never_undone laws c h config)
