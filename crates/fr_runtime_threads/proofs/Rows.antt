-- A row of stations with one more behind it.
use Rattle.std.proofs.Common.{◌≡◌, ℕ, ◌+◌, List, [], ◌∷◌, ◌++◌, length, map, sym, ap, ◌∙◌}
use Rattle.std.proofs.lemmas.List.{length_push}
use Rattle.fr_base.specs.declared.place.NodeId.{NodeId}
use Rattle.fr_base.specs.declared.place.NodeId.TheVariants.{Log}
use Rattle.fr_runtime_station.specs.Named.{logs_named}
use Rattle.fr_runtime_station.proofs.Named.{one-more}

-- a log more, of the next number
pub one_more_log : {S : Type 0} (place : S → NodeId) (before after : List S) (s : S) (epoch n : ℕ) → after ≡ before ++ s ∷ []
    → map place before ≡ logs_named epoch (length before) → place s ≡ Log epoch n → length before ≡ n → map place after ≡ logs_named epoch (length after)
one_more_log place before after s epoch n grows are is count =
    one-more place (λ i. Log epoch i) before after s (length before) grows are (is ∙ ap (λ i. Log epoch i) (sym count))
    ∙ ap (λ k. logs_named epoch k) (sym (ap length grows ∙ length_push before s))

-- one more than so many
pub counted : {S : Type 0} (before after : List S) (s : S) (n : ℕ) → after ≡ before ++ s ∷ [] → length before ≡ n → length after ≡ n + 1
counted before after s n grows count = ap length grows ∙ (length_push before s ∙ ap (λ k. k + 1) count)
