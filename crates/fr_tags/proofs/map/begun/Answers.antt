use Rattle.std.proofs.Common.{◌≡◌, ◌<◌, ℕ, List, sym, subst, rules}
use Rattle.std.specs.Ordering.{is_le}
use Rattle.std.proofs.lemmas.List.Sorted.{IsPartitionPoint-from_clause}
use Rattle.fr_base.specs.Bytes.{bytes_cmp}
use Rattle.fr_tags.specs.Shards.{begun}
use Rattle.fr_tags.proofs.ShardLemmas.{count_at_point, begun-parts, map_rises, map_some_begun}
use Rattle.fr_tags.proofs.map.begun.Goals as goal

counted : (c : goal.After-partition_point) → begun c.args.begins.now c.args.key.now ≡ c.partition_point.result
counted c =
    let test = λ (begin : List ℕ). is_le (bytes_cmp begin c.args.key.now) in
    let parts = begun-parts c.args.begins.now c.args.key.now (map_rises c.args.begins.now c.requires) in
    let point = IsPartitionPoint-from_clause test c.args.begins.now c.partition_point.result c.partition_point.ensures.partitioned parts (λ a r f k. search rules) in
    count_at_point test c.args.begins.now c.partition_point.result c.partition_point.ensures.bound point

pub returns-clause-count : goal.returns-clause-count
returns-clause-count c = sym (counted c)

pub returns-clause-some : goal.returns-clause-some
returns-clause-some c = subst (λ (n : ℕ). 0 < n) (counted c) (map_some_begun c.args.begins.now c.args.key.now c.requires)
