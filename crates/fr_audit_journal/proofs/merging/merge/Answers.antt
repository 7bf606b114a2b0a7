use Rattle.std.proofs.Common.{rules}
use Rattle.std.proofs.lemmas.List.Sorted.{answers_always}
use Rattle.fr_audit_journal.specs.Placed.{placed_of}
use Rattle.fr_audit_journal.proofs.Places.{seen_rank, seen_sorted}
use Rattle.fr_audit_journal.proofs.merging.merge.Goals as goal

pub returns : goal.returns
returns c =
    seen_sorted placed_of _ _ _
    (c.in_ok-sort_by.ensures.sorted _ (seen_rank placed_of) (answers_always _ _ _ (λ f a r g h. search rules)))
    (c.sort_by.ensures.stable _ (seen_rank placed_of) (answers_always _ _ _ (λ f a r g h. search rules)))
    c.in_ok-entries.ensures
