use Rattle.std.proofs.Common.{ℕ, List, Option, arith, rules}
use Rattle.std.specs.Prelude.{nat_le, nat_lt, slice_index_or}
use Rattle.std.proofs.lemmas.List.Sorted.{IsPartitionPoint-from_clause}
use Rattle.fr_undo.specs.State.{Place}
use Rattle.fr_undo.proofs.ListRows.{is_through, parted, front_passes, back_passes, passes_through, passes_beyond}
use Rattle.fr_undo.proofs.rows.count_through.Goals as goal

pub returns-clause-front : goal.returns-clause-front
returns-clause-front c =
    let rows = c.args.rows.now.items in
    let t = c.args.version in
    let point = IsPartitionPoint-from_clause (is_through t) _ _ c.partition_point.ensures.partitioned (parted rows t c.requires) (λ a r q k. search rules) in
    front_passes (λ (row : Place × Option (List ℕ)). nat_le row.0.0 t) rows c.partition_point.result
    (λ k d lt. (passes_through t (slice_index_or rows k d)).0 (point.0 k d (omega arith) lt))
    (λ k d ge lt. (passes_through t (slice_index_or rows k d)).1 (point.1 k d ge lt))
    (let bound = c.partition_point.ensures.bound in let long = c.args.rows.now.ok.0 in omega arith)

pub returns-clause-back : goal.returns-clause-back
returns-clause-back c =
    let rows = c.args.rows.now.items in
    let t = c.args.version in
    let point = IsPartitionPoint-from_clause (is_through t) _ _ c.partition_point.ensures.partitioned (parted rows t c.requires) (λ a r q k. search rules) in
    back_passes (λ (row : Place × Option (List ℕ)). nat_lt t row.0.0) rows c.partition_point.result
    (λ k d lt. (passes_beyond t (slice_index_or rows k d)).0 (point.0 k d (omega arith) lt))
    (λ k d ge lt. (passes_beyond t (slice_index_or rows k d)).1 (point.1 k d ge lt))
    (let bound = c.partition_point.ensures.bound in let long = c.args.rows.now.ok.0 in omega arith)
