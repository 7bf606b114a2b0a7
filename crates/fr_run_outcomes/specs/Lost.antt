-- Why a recoverer is lost.
use Rattle.std.specs.Prelude.{◌≡◌, ◌⊎◌, ℕ, List, Some}
use Rattle.fr_base.specs.declared.place.NodeId.{NodeId}
use Rattle.fr_base.specs.declared.place.NodeId.TheVariants as node
use Rattle.fr_register.specs.declared.ask.CellTell.TheVariants.{TwoValues}
use Rattle.fr_ask.specs.declared.tell.Tell.TheVariants as tell
use Rattle.fr_epoch.specs.Recoverer.{RecState, Lost}
use Rattle.fr_epoch.specs.declared.why.LostWhy.{LostWhy}
use Rattle.fr_epoch.specs.declared.why.LostWhy.TheVariants.{Outballoted, TooMany, Spent}
use Rattle.fr_run.specs.Config.{Config}
use Rattle.fr_run.specs.Turn.{Turn, Told}
use Rattle.fr_run.specs.Nodes.{rec_at}
use Rattle.fr_run.specs.Run.{IsRun}
use Rattle.fr_run.specs.StateLaws.{IsConfig}

-- no cell ever finds two values for one ballot
abbrev pub NoCellHasTwoValues : Type 0
NoCellHasTwoValues = (c : Config) (h : List Turn) → IsRun c h → (i : ℕ) (to : NodeId) → Told h (node.Cell i) to (tell.Cell TwoValues) → ⊥

-- a recoverer that is lost is so because a cell promised a greater ballot, because there are as many generations as a
-- list has room for, or because there is no version left. It is never so because what it read is no state, what it
-- would open is not later than what it read, a cell found two values, or replies are at odds
abbrev pub LostOnlySo : Type 0
LostOnlySo =
    (c : Config) (h : List Turn) → IsConfig c → IsRun c h → (b : ℕ) (r : RecState) (why : LostWhy) → rec_at c h b ≡ Some r → r.phase ≡ Lost why
    → (why ≡ Outballoted) ⊎ ((why ≡ TooMany) ⊎ (why ≡ Spent))
