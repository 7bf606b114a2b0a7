-- That merged entries are in order, and are those of the journals.
use Rattle.std.specs.Prelude.{List}
use Rattle.std.specs.List.Sorted.{IsPermutation, IsSorted, IsStable}
use Rattle.fr_audit_journal.specs.Journal.{JournalState}
use Rattle.fr_audit_journal.specs.Merge.{all_placed, merged, place_cmp}

-- merged entries are in the order of their places
abbrev pub MergedIsSorted : Type 0
MergedIsSorted = (js : List JournalState) → IsSorted place_cmp (merged js)

-- those of one place are as they are given
abbrev pub MergedIsStable : Type 0
MergedIsStable = (js : List JournalState) → IsStable place_cmp (all_placed js) (merged js)

-- they are the entries of the journals, each as often as it is given
abbrev pub MergedHasAll : Type 0
MergedHasAll = (js : List JournalState) → IsPermutation (all_placed js) (merged js)
