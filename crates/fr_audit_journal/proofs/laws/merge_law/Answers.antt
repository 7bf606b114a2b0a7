use Rattle.fr_audit_journal.specs.Merge.{all_placed}
use Rattle.fr_audit_journal.proofs.Places.{places_rank}
use Rattle.fr_audit_journal.proofs.Sorting.{sorted-ascends, sorted-permuted, sorted-stable, sorted_of}
use Rattle.fr_audit_journal.proofs.laws.merge_law.Goals as goal

pub returns-clause-sorted : goal.returns-clause-sorted
returns-clause-sorted c js = sorted_of places_rank _ (sorted-ascends places_rank (all_placed js))

pub returns-clause-stable : goal.returns-clause-stable
returns-clause-stable c js = sorted-stable places_rank (all_placed js)

pub returns-clause-all : goal.returns-clause-all
returns-clause-all c js = sorted-permuted places_rank (all_placed js)
