-- Storage servers have their shard of what their epochs issued, and after a rollback of what is committed.
use Rattle.std.proofs.Common.{◌≡◌, ℕ, ◌<◌, ◌≤◌, Bool, true, false, cond, ◌==◌, List, ◌∷◌, Option, None, Some, refl, sym, ◌∙◌, ap, subst, arith}
use Rattle.std.specs.Prelude.{unwrap_or, length}
use Rattle.std.proofs.lemmas.Bool.{eq-eqb, ltb-true}
use Rattle.fr_base.specs.declared.place.NodeId.TheVariants as node
use Rattle.fr_undo.specs.State.{StoreState}
use Rattle.fr_state.specs.Generations.{LogGeneration, CoordinatedState}
use Rattle.fr_state.specs.LookUp.{cut_of}
use Rattle.fr_log.specs.Step.{mark_answer}
use Rattle.fr_ask.specs.declared.tell.Tell.TheVariants as tell
use Rattle.fr_storage.specs.Storage.{StorageState, own_epoch, cut_in, after_marked}
use Rattle.fr_storage.specs.Course.{LeavesOne}
use Rattle.fr_storage.specs.Law.{MarkedLeads}
use Rattle.fr_run.specs.Config.{Config}
use Rattle.fr_run.specs.Turn.{Turn, StorageHeard}
use Rattle.fr_run.specs.Nodes.{generation_at, storage_at}
use Rattle.fr_run.specs.Run.{IsRun}
use Rattle.fr_run.specs.States.{state_of, IsChosenEpoch, IsLatest}
use Rattle.fr_run.specs.StateLaws.{IsConfig}
use Rattle.fr_run.proofs.Growth.{generation_stays}
use Rattle.fr_run_headline.specs.Numbers.{top_at}
use Rattle.fr_run_headline.proofs.Asked.{marked_is_chosen}
use Rattle.fr_run_headline.specs.Issued.{issued}
use Rattle.fr_run_headline.proofs.VersionLists.{through}
use Rattle.fr_run_headline.proofs.IssuedLists.{version_of}
use Rattle.fr_run_headline.proofs.Parts.{issued_rises}
use Rattle.fr_run_headline.proofs.ShardFold.{shard_through}
use Rattle.fr_run_headline.specs.Agreement.{pieces_at}
use Rattle.fr_run_headline.specs.Storages.{IsStorageOf}
use Rattle.fr_run_headline.specs.Committed.{map_after, shard_of, EveryStorageFollows, applied_at, HoldsCommitted, RolledBackIsExact}
use Rattle.fr_run_headline.specs.Laws.{Laws}
use Rattle.fr_run.proofs.Chosen.{chosen_is_planned, chosen_lasts}
use Rattle.fr_run_headline.proofs.Agreement.{planned_epoch}
use Rattle.fr_run_headline.proofs.Floors.{below_lower}
use Rattle.fr_run_headline.proofs.Hears.{mark_leads}
use Rattle.fr_run_headline.proofs.Keeping.{viewed_cut}
use Rattle.fr_run_headline.proofs.Splits.{IsLaterSplit, later_split}
use Rattle.fr_run_headline.proofs.Following.{storages_follow, seen_at}
use Rattle.fr_run_headline.proofs.Durables.{seed_is_below, IsCommittedThrough, below_is_committed}

-- ---- every storage server

shard_contents : Laws → (c : Config) (h : List Turn) → IsConfig c → IsRun c h → (tag : ℕ) (s : StorageState) → IsStorageOf c h tag s
    → s.store.contents ≡ shard_of c tag (map_after (through version_of s.store.applied (issued c h (own_epoch s.state))))
shard_contents laws c h config run tag s k =
    let own = own_epoch s.state in
    let g = chosen_is_planned laws.contents.nodes c h run own k.chosen in
    ap (λ (t : StoreState). t.contents) k.follows.store.store
    ∙ shard_through laws.clips laws.values laws.from_nothing c tag (top_at c h own) s.store.applied (issued c h own) (issued_rises laws.contents.nodes c h config run own g.0 g.1)

pub every_storage_follows : Laws → EveryStorageFollows
every_storage_follows laws c h config run tag =
    let s = storage_at c h tag in
    let k = storages_follow laws c h config run tag in
    record {
      chosen = k.chosen;
      state = k.state;
      contents = shard_contents laws c h config run tag s k;
      undo = ap (λ (t : StoreState). t.undo) k.follows.store.store;
      bytes = k.follows.bytes;
      floor = k.follows.store.floor;
    }

-- ---- after a rollback

-- the server after the hear
hear_is : (c : Config) (before : List Turn) (tag epoch log : ℕ) (x : CoordinatedState) → storage_at c (StorageHeard tag (node.Log epoch log) (tell.Log (mark_answer (Some x))) None None ∷ before) tag ≡ after_marked (storage_at c before tag) x
hear_is c before tag epoch log x = go (tag == tag) (eq-eqb tag tag refl)
  where
    go : (b : Bool) → b ≡ true → cond b (after_marked (storage_at c before tag) x) (storage_at c before tag) ≡ after_marked (storage_at c before tag) x
    go true e = refl
    go false e = absurd (cc)

rolled_back_now : Laws → (c : Config) (before : List Turn) (tag epoch log : ℕ) (x : CoordinatedState) → IsConfig c → let h = StorageHeard tag (node.Log epoch log) (tell.Log (mark_answer (Some x))) None None ∷ before in
    IsRun c h → (later : own_epoch (storage_at c before tag).state < own_epoch x) → (latest : ℕ) → IsLatest c h latest
    → HoldsCommitted c h tag latest (own_epoch (storage_at c before tag).state) x
rolled_back_now laws c before tag epoch log x config run later latest is = record {
  kept = ap (λ (n : StorageState). n.state) now ∙ new;
  contents = shard_contents laws c h config run tag (storage_at c h tag) follows ∙ ap (λ xs. shard_of c tag (map_after xs)) (ap (λ y. through version_of (applied_at c h tag) (issued c h y)) mine ∙ through_committed.same);
  recovery = split.next.seeded_to;
  is_cut = ap (λ (y : CoordinatedState). cut_of y.gens own) m.1 ∙ viewed;
  within = within;
  committed = through_committed.within;
}
  where
    turn : Turn
    turn = StorageHeard tag (node.Log epoch log) (tell.Log (mark_answer (Some x))) None None

    h : List Turn
    h = StorageHeard tag (node.Log epoch log) (tell.Log (mark_answer (Some x))) None None ∷ before

    s : StorageState
    s = storage_at c before tag

    own : ℕ
    own = own_epoch (storage_at c before tag).state

    m : IsChosenEpoch c before epoch × (x ≡ state_of c before epoch)
    m = marked_is_chosen laws.contents.nodes c before run.1 epoch log (node.Storage tag) x run.0.0.told

    g : (g : LogGeneration) × (generation_at c before epoch ≡ Some g)
    g = chosen_is_planned laws.contents.nodes c before run.1 epoch m.0

    was : IsStorageOf c before tag (storage_at c before tag)
    was = storages_follow laws c before config run.1 tag

    follows : IsStorageOf c h tag (storage_at c h tag)
    follows = storages_follow laws c h config run tag

    now : storage_at c h tag ≡ after_marked s x
    now = hear_is c before tag epoch log x

    kept : LeavesOne (storage_at c before tag) (state_of c before epoch)
    kept = seen_at laws c before config run.1 tag (ltb-true tag (length c.begins) run.0.0.actor.there) epoch m.0

    leads : MarkedLeads (pieces_at c before tag) s x
    leads = subst (MarkedLeads (pieces_at c before tag) s) (sym m.1) (mark_leads laws c before config run.1 tag s was epoch m.0 kept)

    new : (after_marked s x).state ≡ x
    new = leads.state (omega (arith, later))

    here : own_epoch x ≡ epoch
    here = ap own_epoch m.1 ∙ planned_epoch laws c before config run.1 epoch g.0 g.1

    mine : own_epoch (storage_at c h tag).state ≡ epoch
    mine = ap (λ (n : StorageState). own_epoch n.state) now ∙ ap own_epoch new ∙ here

    split : IsLaterSplit c before own epoch g.0
    split = later_split laws c before config run.1 own epoch g.0 was.chosen m.0 g.1 (omega (arith, later, here))

    viewed : cut_of (state_of c before epoch).gens own ≡ Some split.next.seeded_to
    viewed = viewed_cut laws c before config run.1 tag s was epoch g.0 g.1 m.0 kept (omega (arith, later, here)) split

    cut : cut_in x own ≡ split.next.seeded_to
    cut = ap (λ (y : CoordinatedState). cut_in y own) m.1 ∙ ap (λ (o : Option ℕ). unwrap_or o 0) viewed

    within : applied_at c h tag ≤ split.next.seeded_to
    within = (let at = ap (λ (n : StorageState). n.store.applied) now in let applied = leads.applied later in omega (arith, at, applied, cut))

    still : IsChosenEpoch c h epoch
    still = (chosen_lasts laws.contents.nodes c before turn run.1 run.0 epoch m.0).0

    g' : (g : LogGeneration) × (generation_at c h epoch ≡ Some g)
    g' = chosen_is_planned laws.contents.nodes c h run epoch still

    same_generation : g.0.seeded_to ≡ g'.0.seeded_to
    same_generation = (let two : Some g.0 ≡ Some g'.0 = sym (generation_stays laws.contents.nodes c before turn run.1 run.0 epoch g.0 g.1) ∙ g'.1 in let one : g.0 ≡ g'.0 = cc in ap (λ (y : LogGeneration). y.seeded_to) one)

    through_committed : IsCommittedThrough c h epoch latest (applied_at c h tag)
    through_committed =
        let high = split.high in
        below_is_committed laws c h config run epoch latest still is.chosen (is.greatest epoch still) (applied_at c h tag)
        (below_lower c h epoch (applied_at c h tag) g'.0.seeded_to (omega (arith, within, high, same_generation)) (seed_is_below laws c h config run epoch g'.0 still g'.1))

pub rolled_back_is_exact : Laws → (c : Config) (h : List Turn) → IsConfig c → IsRun c h → RolledBackIsExact c h
rolled_back_is_exact laws c h config run tag latest r is =
    subst (λ w. IsRun c w → IsLatest c w latest → HoldsCommitted c w tag latest (own_epoch (storage_at c r.before tag).state) r.state) r.now
    (λ own_run own_latest. rolled_back_now laws c r.before tag r.epoch r.log r.state config own_run r.later latest own_latest) run is
