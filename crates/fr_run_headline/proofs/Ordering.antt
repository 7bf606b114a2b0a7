-- What is known, acknowledged or a floor is never cut off, and only chosen epochs have pushes.
use Rattle.std.proofs.Common.{◌≡◌, ℕ, List, Option, None, Some, inr, sym, subst}
use Rattle.std.specs.Prelude.{IfSome}
use Rattle.std.specs.List.{Contains}
use Rattle.std.proofs.lemmas.List.Elements.{All-contains, Contains-push}
use Rattle.fr_state.specs.Generations.{LogGeneration, CoordinatedState}
use Rattle.fr_log.specs.Push.{PushContent}
use Rattle.fr_log.specs.LogState.{known_of}
use Rattle.fr_storage.specs.Storage.{own_epoch}
use Rattle.fr_run.specs.Config.{Config}
use Rattle.fr_run.specs.Turn.{Turn}
use Rattle.fr_run.specs.Nodes.{log_at, storage_at}
use Rattle.fr_run.specs.Run.{IsRun}
use Rattle.fr_run.specs.States.{state_of, line_of}
use Rattle.fr_run.specs.StateLaws.{IsConfig}
use Rattle.fr_run.proofs.Chosen.{open_is_chosen}
use Rattle.fr_run_headline.specs.Bounds.{IsBelow, IsMarkOf}
use Rattle.fr_run_headline.specs.Logs.{IsOfEpoch}
use Rattle.fr_run_headline.proofs.Acks.{acknowledged_is_safe}
use Rattle.fr_run_headline.proofs.Known.{log_known_below}
use Rattle.fr_run_headline.proofs.Logs.{logs_are_own}
use Rattle.fr_run_headline.proofs.Marks.{logs_are_marked}
use Rattle.fr_run_headline.proofs.Replies.{below_is_recovered}
use Rattle.fr_run_headline.proofs.Lists.{planned_list}
use Rattle.fr_run_headline.specs.Storages.{IsSafeFloor}
use Rattle.fr_run_headline.specs.Order.{IsNeverCut, KnownIsNeverCut, AcknowledgedIsNeverCut, FloorIsNeverCut, FloorIsTakenOver, HeldIsChosen}
use Rattle.fr_run_headline.specs.Laws.{Laws}
use Rattle.fr_run_headline.proofs.Floors.{floor_within_cut}
use Rattle.fr_run_headline.proofs.Following.{storages_follow}
use Rattle.fr_run_headline.proofs.Places.{last_place}

-- what is below in a planned epoch is, as a floor, safe there
below_is_safe : Laws → (c : Config) (h : List Turn) → IsConfig c → IsRun c h → (e v : ℕ) → IsBelow c h e v → IsSafeFloor c h (line_of c h e) v
below_is_safe laws c h config run e v k =
    let list = planned_list laws.contents.nodes c h config run e k.generation k.at in
    let place = last_place (line_of c h e) k.generation list.last in
    record {
      generation = k.generation;
      there = subst (λ (xs : List LogGeneration). Contains xs k.generation) (sym place.is) (Contains-push place.front k.generation);
      below = subst (λ x. IsBelow c h x v) (sym list.own) k;
    }

below_is_never_cut : Laws → (c : Config) (h : List Turn) → IsConfig c → IsRun c h → (e v : ℕ) → IsBelow c h e v → IsNeverCut c h e v
below_is_never_cut laws c h config run e v k x g at = floor_within_cut laws c h config run x e g at v (below_is_safe laws c h config run e v k)

pub known_is_never_cut : Laws → KnownIsNeverCut
known_is_never_cut laws c h config run e i there = below_is_never_cut laws c h config run e (known_of (log_at c h e i)) (log_known_below laws.contents.nodes c h run e i there)

pub acknowledged_is_never_cut : Laws → AcknowledgedIsNeverCut
acknowledged_is_never_cut laws c h config run e v acked =
    let s = acknowledged_is_safe laws.contents.nodes c h run e v acked in
    below_is_never_cut laws c h config run e v (record { generation = s.generation; at = s.of; below = inr s.reached })

pub floor_is_never_cut : Laws → FloorIsNeverCut
floor_is_never_cut laws c h config run tag x g at =
    let s = storage_at c h tag in
    let k = storages_follow laws c h config run tag in
    floor_within_cut laws c h config run x (own_epoch s.state) g at s.store.floor k.floor

pub floor_is_taken_over : Laws → FloorIsTakenOver
floor_is_taken_over laws c h config run tag =
    let s = storage_at c h tag in
    let k = storages_follow laws c h config run tag in
    below_is_recovered laws.contents.nodes c h config run (own_epoch s.state) k.chosen k.floor.generation k.floor.there s.store.floor k.floor.below

pub held_is_chosen : Laws → HeldIsChosen
held_is_chosen laws c h config run e i q there held =
    let own = All-contains (IsOfEpoch c h e) (log_at c h e i).pushes q (logs_are_own laws.contents.nodes c h run e i there).each held in
    let mark = All-contains (λ (p : PushContent). IfSome p.mark (IsMarkOf c h e)) (log_at c h e i).pushes q (logs_are_marked laws.contents.nodes c h run e i there) held in
    (open_is_chosen laws.contents.nodes c h run e own.opened, states q.mark mark)
  where
    states : (o : Option CoordinatedState) → IfSome o (IsMarkOf c h e) → IfSome o (λ x. x ≡ state_of c h e)
    states None k = tt
    states (Some x) k = k.state
