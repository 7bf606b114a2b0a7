use Rattle.std.proofs.Common.{◌≡◌, drop}
use Rattle.std.specs.Prelude.{filter}
use Rattle.std.specs.Cmp.Lexicographic.{pointwise}
use Rattle.fr_log.specs.Records.{is_same_seed_record}
use Rattle.fr_log.specs.Left.{is_left, IsLeftAtFirst}
use Rattle.fr_log.proofs.popped.have_same_left.Given as goal

-- the answer is that of the records that are left
abbrev pub invariant-loop-record : goal.invariant-loop-record
invariant-loop-record l = record {
  so_far : pointwise is_same_seed_record (filter (is_left l.popped) (drop l.record-index l.records)) (filter (is_left l.popped) l.left)
      ≡ pointwise is_same_seed_record (filter (is_left l.popped) l.records) (filter (is_left l.popped) l.others);
  first : IsLeftAtFirst l.popped l.left;
}
