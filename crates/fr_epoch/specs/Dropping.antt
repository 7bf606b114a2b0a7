-- Which generations a recoverer drops: those of which every storage server has all for good.
use Rattle.std.specs.Prelude.{ℕ, ◌+◌, ◌==◌, ◌++◌, min, max, List, [], ◌∷◌, Option, None, Some, unwrap_or, if◌then◌else◌}
use Rattle.std.specs.Option.{option_and_then}
use Rattle.fr_state.specs.Generations.{LogGeneration, CoordinatedState}
use Rattle.fr_state.specs.LookUp.{source_of}
use Rattle.fr_state.specs.Order.{dropped_before}
use Rattle.fr_log.specs.declared.popped.PoppedTag.{PoppedTag}

-- the greatest version that is shown popped of a tag, if one is
abbrev pub shown_of : List PoppedTag → ℕ → Option ℕ
shown_of [] tag = None
shown_of (p ∷ ps) tag = if p.tag == tag then Some (max p.version (unwrap_or (shown_of ps tag) 0)) else shown_of ps tag

abbrev pub greater : Option ℕ → ℕ → ℕ
greater None v = v
greater (Some greatest) v = max greatest v

abbrev pub lesser : Option ℕ → ℕ → ℕ
lesser None v = v
lesser (Some least) v = min least v

-- the least of one from before and of what is shown of some tags, none if one is not shown
abbrev pub least_with : List PoppedTag → Option ℕ → List ℕ → Option ℕ
least_with shown least [] = least
least_with shown least (tag ∷ tags) = option_and_then (λ v. least_with shown (Some (lesser least v)) tags) (shown_of shown tag)

-- the least over tags of what is shown of them, none if one is not shown
abbrev pub least_shown : List PoppedTag → List ℕ → Option ℕ
least_shown shown tags = least_with shown None tags

-- a state without the generations before one of it
abbrev pub left_from : CoordinatedState → Option LogGeneration → CoordinatedState
left_from s None = s
left_from s (Some g) = unwrap_or (dropped_before s g.epoch) s

-- a state without the generations before the source of the version after this one
abbrev pub left_after : CoordinatedState → Option ℕ → CoordinatedState
left_after s None = s
left_after s (Some least) = left_from s (source_of s.gens (least + 1))

-- a state without the generations that what is shown lets drop
abbrev pub left_by : CoordinatedState → List PoppedTag → List ℕ → CoordinatedState
left_by s shown tags = left_after s (least_shown shown tags)
