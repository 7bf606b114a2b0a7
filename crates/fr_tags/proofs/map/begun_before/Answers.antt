use Rattle.std.proofs.Common.{ℕ, List, sym, rules}
use Rattle.std.specs.Ordering.{is_lt}
use Rattle.std.proofs.lemmas.List.Sorted.{IsPartitionPoint-from_clause}
use Rattle.fr_base.specs.Bytes.{bytes_cmp}
use Rattle.fr_tags.proofs.ShardLemmas.{count_at_point, before-parts, map_rises}
use Rattle.fr_tags.proofs.map.begun_before.Goals as goal

pub returns-clause-count : goal.returns-clause-count
returns-clause-count c =
    let test = λ (begin : List ℕ). is_lt (bytes_cmp begin c.args.key.now) in
    let parts = before-parts c.args.begins.now c.args.key.now (map_rises c.args.begins.now c.requires) in
    let point = IsPartitionPoint-from_clause test c.args.begins.now c.partition_point.result c.partition_point.ensures.partitioned parts (λ a r f k. search rules) in
    sym (count_at_point test c.args.begins.now c.partition_point.result c.partition_point.ensures.bound point)
