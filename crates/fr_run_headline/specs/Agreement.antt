-- What epochs have for a tag, and that it agrees along the line of each epoch.
use Rattle.std.specs.Prelude.{◌≡◌, ◌≤◌, ℕ, List, Some}
use Rattle.fr_state.specs.Generations.{LogGeneration}
use Rattle.fr_state.specs.LookUp.{cut_of}
use Rattle.fr_storage.specs.Follows.{Pieces, ArePieces, Agrees}
use Rattle.fr_run.specs.Config.{Config}
use Rattle.fr_run.specs.Turn.{Turn}
use Rattle.fr_run.specs.Nodes.{generation_at}
use Rattle.fr_run.specs.Run.{IsRun}
use Rattle.fr_run.specs.States.{state_of, line_of}
use Rattle.fr_run.specs.StateLaws.{IsConfig}
use Rattle.fr_run_headline.specs.Issued.{part}

-- what the epochs of a run have for a tag
abbrev pub pieces_at : Config → List Turn → ℕ → Pieces
pieces_at c h tag epoch after upto = part c h epoch tag after upto

-- these are pieces
abbrev pub PartsArePieces : Type 0
PartsArePieces = (c : Config) (h : List Turn) → IsConfig c → IsRun c h → (tag : ℕ) → ArePieces (pieces_at c h tag)

-- and along the line of an epoch that is planned they agree through each cut
abbrev pub LinesAgree : Type 0
LinesAgree =
    (c : Config) (h : List Turn) → IsConfig c → IsRun c h → (e : ℕ) (g : LogGeneration) → generation_at c h e ≡ Some g → (tag epoch cut after upto : ℕ)
    → cut_of (line_of c h e) epoch ≡ Some cut → upto ≤ cut → pieces_at c h tag epoch after upto ≡ pieces_at c h tag e after upto

-- so along its state, which may have dropped the first generations of the line
abbrev pub PartsAgree : Type 0
PartsAgree = (c : Config) (h : List Turn) → IsConfig c → IsRun c h → (e : ℕ) (g : LogGeneration) → generation_at c h e ≡ Some g → (tag : ℕ) → Agrees (pieces_at c h tag) (state_of c h e)
