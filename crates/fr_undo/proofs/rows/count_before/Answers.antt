use Rattle.std.proofs.Common.{ℕ, List, Option, arith, rules}
use Rattle.std.specs.Prelude.{slice_index_or}
use Rattle.std.specs.Ordering.{is_lt, is_le}
use Rattle.std.proofs.lemmas.List.Sorted.{IsPartitionPoint-from_clause}
use Rattle.fr_undo.specs.State.{Place, place_cmp}
use Rattle.fr_undo.proofs.ListRows.{back_passes}
use Rattle.fr_undo.proofs.IndexLemmas.{parted_at, passes_from}
use Rattle.fr_undo.proofs.rows.count_before.Goals as goal

pub returns-clause-back : goal.returns-clause-back
returns-clause-back c =
    let rows = c.args.rows.now.items in
    let p : Place = (c.args.version, c.args.key.now) in
    let point = IsPartitionPoint-from_clause (λ (row : Place × Option (List ℕ)). is_lt (place_cmp row.0 p)) _ _ c.partition_point.ensures.partitioned (parted_at p rows c.requires) (λ a r q k. search rules) in
    back_passes (λ (row : Place × Option (List ℕ)). is_le (place_cmp p row.0)) rows c.partition_point.result
    (λ k d lt. (passes_from p (slice_index_or rows k d)).0 (point.0 k d (omega arith) lt))
    (λ k d ge lt. (passes_from p (slice_index_or rows k d)).1 (point.1 k d ge lt))
    (let bound = c.partition_point.ensures.bound in let long = c.args.rows.now.ok.0 in omega arith)
