-- What a storage server has at a version that is settled is its shard of the committed map there.
use Rattle.std.proofs.Common.{◌≡◌, ℕ, ◌≤◌, min, List, Some, inl, inr, sym, ◌∙◌, ap, subst, arith}
use Rattle.std.specs.Prelude.{IfSome}
use Rattle.std.specs.FinMap.{empty, get}
use Rattle.std.proofs.lemmas.Bool.{cases_lt}
use Rattle.fr_undo.specs.State.{StoreState}
use Rattle.fr_undo.specs.Undo.{contents_undone}
use Rattle.fr_undo.specs.Canonical.{Commit, contents_after}
use Rattle.fr_undo.specs.Law.{LeadsOn}
use Rattle.fr_undo.proofs.UndoLemmas.{get-contents_undone}
use Rattle.fr_state.specs.Generations.{LogGeneration}
use Rattle.fr_storage.specs.Storage.{StorageState, own_epoch}
use Rattle.fr_storage.specs.Follows.{ArePieces}
use Rattle.fr_storage.proofs.Pieces.{piece_through}
use Rattle.fr_run.specs.Config.{Config}
use Rattle.fr_run.specs.Turn.{Turn}
use Rattle.fr_run.specs.Nodes.{generation_at, storage_at}
use Rattle.fr_run.specs.Run.{IsRun}
use Rattle.fr_run.specs.States.{IsLatest}
use Rattle.fr_run.specs.StateLaws.{IsConfig}
use Rattle.fr_run.proofs.Chosen.{chosen_is_planned}
use Rattle.fr_run_headline.specs.Numbers.{top_at}
use Rattle.fr_run_headline.specs.Issued.{issued, least_durable, committed}
use Rattle.fr_run_headline.proofs.VersionLists.{through, through_twice}
use Rattle.fr_run_headline.proofs.IssuedLists.{version_of}
use Rattle.fr_run_headline.proofs.Parts.{issued_rises}
use Rattle.fr_run_headline.proofs.ShardFold.{shard_through}
use Rattle.fr_run_headline.specs.Agreement.{pieces_at}
use Rattle.fr_run_headline.specs.Storages.{IsStorageOf}
use Rattle.fr_run_headline.specs.Committed.{map_after, shard_of}
use Rattle.fr_run_headline.specs.Laws.{Laws}
use Rattle.fr_run_headline.proofs.Agreement.{parts_are_pieces}
use Rattle.fr_run_headline.proofs.Following.{storages_follow}
use Rattle.fr_run_headline.proofs.Splits.{later_split, split_issues}
use Rattle.fr_run_outcomes.specs.Snapshots.{IsSettledAt, SettledIsSnapshot}

-- the contents of a server once all above a version is undone, are those of its own epoch's part through the version
undone_part : Laws → (c : Config) (h : List Turn) → IsConfig c → IsRun c h → (tag version : ℕ) (s : StorageState) → IsStorageOf c h tag s → s.store.floor ≤ version → version ≤ s.store.applied
    → contents_undone s.store version ≡ contents_after empty (pieces_at c h tag (own_epoch s.state) 0 version)
undone_part laws c h config run tag version s k low high =
    ap (λ (t : StoreState). contents_undone t version) k.follows.store.store
    ∙ ap (λ (t : StoreState). t.contents) (leads.undoing version low)
    ∙ ap (contents_after empty) (piece_through pieces are own s.store.applied version)
    ∙ ap (λ v. contents_after empty (pieces own 0 v)) least
  where
    own : ℕ
    own = own_epoch s.state

    pieces : ℕ → ℕ → ℕ → List Commit
    pieces = pieces_at c h tag

    are : ArePieces (pieces_at c h tag)
    are = parts_are_pieces laws c h config run tag

    leads : LeadsOn (pieces_at c h tag (own_epoch s.state) 0 s.store.applied) s.store.applied s.store.floor s.store.bytes
    leads = laws.stores.canonical (pieces_at c h tag (own_epoch s.state) 0 s.store.applied) s.store.applied s.store.floor s.store.bytes (are.rise (own_epoch s.state) 0 s.store.applied (omega arith)) (omega (arith, low, high))

    least : min s.store.applied version ≡ version
    least = omega (arith, high)

-- so they are the server's shard of what its own epoch issued through it
undone_shard : Laws → (c : Config) (h : List Turn) → IsConfig c → IsRun c h → (tag version : ℕ) (s : StorageState) → IsStorageOf c h tag s → s.store.floor ≤ version → version ≤ s.store.applied
    → contents_undone s.store version ≡ shard_of c tag (map_after (through version_of version (issued c h (own_epoch s.state))))
undone_shard laws c h config run tag version s k low high =
    let own = own_epoch s.state in
    let g = chosen_is_planned laws.contents.nodes c h run own k.chosen in
    undone_part laws c h config run tag version s k low high
    ∙ shard_through laws.clips laws.values laws.from_nothing c tag (top_at c h own) version (issued c h own) (issued_rises laws.contents.nodes c h config run own g.0 g.1)

-- through a version that is settled, that is what is committed
settled_issued : Laws → (c : Config) (h : List Turn) → IsConfig c → IsRun c h → (latest : ℕ) → IsLatest c h latest → (tag version : ℕ) → IsSettledAt c h latest tag version → IsStorageOf c h tag (storage_at c h tag)
    → through version_of version (issued c h (own_epoch (storage_at c h tag).state)) ≡ through version_of version (committed c h latest)
settled_issued laws c h config run latest is tag version settled k = elim (cases_lt own latest) [
  | inl lt ↦ (
      let split = later_split laws c h config run own latest g.0 k.chosen is.chosen g.1 lt in
      let low : version ≤ split.next.seeded_to = subst (λ o. IfSome o (λ cut. version ≤ cut)) split.cut settled.uncut in
      split_issues laws c h config run own latest g.0 g.1 split version low ∙ sym (through_twice version_of version (least_durable c h latest) (issued c h latest) settled.committed))
  | inr ge ↦ (
      let most = is.greatest own k.chosen in
      let same : own ≡ latest = omega (arith, ge, most) in
      ap (λ e. through version_of version (issued c h e)) same ∙ sym (through_twice version_of version (least_durable c h latest) (issued c h latest) settled.committed))
]
  where
    own : ℕ
    own = own_epoch (storage_at c h tag).state

    g : (g : LogGeneration) × (generation_at c h latest ≡ Some g)
    g = chosen_is_planned laws.contents.nodes c h run latest is.chosen

pub settled_is_snapshot : Laws → SettledIsSnapshot
settled_is_snapshot laws c h config run latest is tag version settled = record {
  contents = contents;
  values = λ key. sym (get-contents_undone (storage_at c h tag).store version key) ∙ ap (λ m. get m key) contents;
}
  where
    k : IsStorageOf c h tag (storage_at c h tag)
    k = storages_follow laws c h config run tag

    contents : contents_undone (storage_at c h tag).store version ≡ shard_of c tag (map_after (through version_of version (committed c h latest)))
    contents =
        undone_shard laws c h config run tag version (storage_at c h tag) k settled.floor settled.applied
        ∙ ap (λ xs. shard_of c tag (map_after xs)) (settled_issued laws c h config run latest is tag version settled k)
