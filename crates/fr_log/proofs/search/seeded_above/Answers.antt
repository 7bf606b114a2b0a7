use Rattle.std.proofs.Common.{leb, leb-true, leb-false, arith, rules, ◌∙◌}
use Rattle.std.proofs.lemmas.List.Sorted.{IsPartitionPoint-from_clause, IsPartitionedBy-leb}
use Rattle.std.proofs.lemmas.List.{take_rest}
use Rattle.fr_log.proofs.Searching.{above_is_drop}
use Rattle.fr_log.proofs.search.seeded_above.Goals as goal

pub returns : goal.returns
returns c =
    let parted = IsPartitionedBy-leb (λ r. r.version) _ c.args.after c.requires in
    let point = IsPartitionPoint-from_clause (λ r. leb r.version c.args.after) _ _ c.partition_point-at.ensures.partitioned parted (λ a r q k. search rules) in
    let split = above_is_drop (λ r. r.version) c.args.after c.partition_point-at.result c.args.records.now (λ k d less. leb-true _ _ (point.0 k d (omega arith) less)) (λ k d from within. leb-false _ _ (point.1 k d from within)) in
    take_rest c.args.records.now c.partition_point-at.result ∙ split
