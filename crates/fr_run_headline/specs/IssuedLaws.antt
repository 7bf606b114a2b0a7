-- What is true of what an epoch issues.
use Rattle.std.specs.Prelude.{◌≡◌, ◌<◌, ◌≤◌, ℕ, nat_le, filter, List, [], ◌∷◌, Some}
use Rattle.fr_state.specs.Generations.{LogGeneration}
use Rattle.fr_run.specs.Config.{Config, first_epoch}
use Rattle.fr_run.specs.Turn.{Turn}
use Rattle.fr_run.specs.Nodes.{generation_at}
use Rattle.fr_run.specs.Run.{IsTurn, IsRun}
use Rattle.fr_run.specs.StateLaws.{IsConfig}
use Rattle.fr_run_headline.specs.Numbers.{top_at}
use Rattle.fr_run_headline.specs.Issued.{Entry, entries, issued}

-- what the first epoch issues is its own entries
abbrev pub FirstIssues : Type 0
FirstIssues = (c : Config) (h : List Turn) → issued c h first_epoch ≡ entries c h first_epoch

-- versions rise strictly, above one version and through another
abbrev pub VersionsRise : ℕ → List Entry → ℕ → Type 0
VersionsRise low [] high = low ≤ high
VersionsRise low (x ∷ xs) high = (low < x.version) × VersionsRise x.version xs high

-- what an epoch that is planned issues is in the order of versions, through the last one that it numbered
abbrev pub IssuedRises : Type 0
IssuedRises = (c : Config) (h : List Turn) → IsConfig c → IsRun c h → (e : ℕ) (g : LogGeneration) → generation_at c h e ≡ Some g → VersionsRise 0 (issued c h e) (top_at c h e)

-- the entries through a version
abbrev pub through : ℕ → List Entry → List Entry
through upto xs = filter (λ x. nat_le x.version upto) xs

-- what it issues through a version that it numbered is the same after a turn
abbrev pub IssuedLasts : Type 0
IssuedLasts =
    (c : Config) (h : List Turn) (t : Turn) → IsConfig c → IsRun c h → IsTurn c h t → (e : ℕ) (g : LogGeneration) → generation_at c h e ≡ Some g → (upto : ℕ) → upto ≤ top_at c h e
    → through upto (issued c (t ∷ h) e) ≡ through upto (issued c h e)
