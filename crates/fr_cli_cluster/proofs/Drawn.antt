-- A workload more is one more that is drawn.
use Rattle.std.proofs.Common.{◌≡◌, ℕ, ◌+◌, ◌%◌, ◌^◌, List, [], ◌∷◌, ◌++◌, map, sym, ap, ◌∙◌}
use Rattle.std.proofs.lemmas.List.{map-append}
use Rattle.std.proofs.Math.Numerals.{add-one}
use Rattle.fr_cli_cluster.specs.Setting.{drawn_by}

pub one_more : {A : Type 0} (f : A → ℕ × ℕ) (before after : List A) (work : A) (seed shards n : ℕ) → after ≡ before ++ work ∷ []
    → map f before ≡ drawn_by seed shards n → f work ≡ ((seed + n) % 2 ^ 64, shards) → map f after ≡ drawn_by seed shards (n + 1)
one_more f before after work seed shards n grows drawn is_next =
    rw grows (map-append f before (work ∷ []) ∙ ap (λ (l : List (ℕ × ℕ)). l ++ f work ∷ []) drawn
    ∙ ap (λ (p : ℕ × ℕ). drawn_by seed shards n ++ p ∷ []) is_next ∙ sym (ap (drawn_by seed shards) (add-one n)))
