-- Places of entries are in an order in which any two compare.
use Rattle.std.proofs.Common.{◌≡◌, ℕ, ◌+◌, ◌<◌, List, [], ◌∷◌, ◌++◌, length, take, get_or, refl, ap, ◌∙◌, sym, append_assoc, append-nil}
use Rattle.std.proofs.lemmas.List.{take_more}
use Rattle.std.specs.Prelude.{map}
use Rattle.std.specs.Cmp.{IsStrictWeakOrder}
use Rattle.std.specs.List.Sorted.{IsSortedBy, IsStableBy}
use Rattle.std.proofs.lemmas.List.Sorted.{ranks_by}
use Rattle.fr_base.specs.Bytes.{bytes_total}
use Rattle.fr_audit_journal.specs.Journal.{JournalState}
use Rattle.fr_audit_journal.specs.Merge.{Placed, all_placed, is_before, place_numbers, placed_by}
use Rattle.fr_audit_journal.specs.Sort.{sorted}
use Rattle.fr_audit_journal.proofs.Sorting.{is_sorted, map_sorted}

pub places_rank : IsStrictWeakOrder is_before
places_rank = ranks_by bytes_total place_numbers

pub seen_rank : {X : Type 0} (f : X → Placed) → IsStrictWeakOrder (λ a b. is_before (f a) (f b))
seen_rank f = ranks_by bytes_total (λ a. place_numbers (f a))

-- what a stable sort by place gives, as it is seen
pub seen_sorted : {X : Type 0} (f : X → Placed) (xs ys : List X) (ps : List Placed) → IsSortedBy (λ a b. is_before (f a) (f b)) ys → IsStableBy (λ a b. is_before (f a) (f b)) xs ys →
    map f xs ≡ ps → map f ys ≡ sorted is_before ps
seen_sorted f xs ys ps up stable e = ap (map f) (is_sorted (seen_rank f) xs ys up stable) ∙ map_sorted f is_before xs ∙ ap (sorted is_before) e

all_placed-append : (is js : List JournalState) → all_placed (is ++ js) ≡ all_placed is ++ all_placed js
all_placed-append [] js = refl
all_placed-append (i ∷ is) js =
    ap (λ ps. placed_by i.node i.entries ++ ps) (all_placed-append is js) ∙ sym (append_assoc (placed_by i.node i.entries) (all_placed is) (all_placed js))

-- one journal more
pub all_more : (js : List JournalState) (i : ℕ) (j : JournalState) → i < length js → j ≡ get_or js i j →
    all_placed (take (i + 1) js) ≡ all_placed (take i js) ++ placed_by j.node j.entries
all_more js i j h is =
    ap all_placed (take_more js i j h) ∙ all_placed-append (take i js) (get_or js i j ∷ [])
    ∙ ap (λ ps. all_placed (take i js) ++ ps) (append-nil (placed_by (get_or js i j).node (get_or js i j).entries))
    ∙ ap (λ w. all_placed (take i js) ++ placed_by w.node w.entries) (sym is)
