use Rattle.std.proofs.Common.{ap, ◌∙◌, ℕ, List, [], ◌∷◌, slice_index_or}
use Rattle.std.specs.Int.{w32, to_be_bytes}
use Rattle.fr_segment.specs.File.{guard}
use Rattle.fr_segment.proofs.spell.no_groups.Goals as goal

pub returns : goal.returns
unfolding guard
returns c =
    ap (λ (l : List ℕ). 0 ∷ 0 ∷ 0 ∷ 0 ∷ 0 ∷ 0 ∷ slice_index_or l 0 0 ∷ slice_index_or l 1 0 ∷ slice_index_or l 2 0 ∷ slice_index_or l 3 0 ∷ []) (c.to_be_bytes-wrong.ensures ∙ ap (λ n. to_be_bytes w32 n) c.wrong_sum.ensures)
