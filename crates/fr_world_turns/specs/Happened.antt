-- Turns as contracts see them.
use Rattle.std.specs.Prelude.{ℕ, List}
use Rattle.fr_run.specs.Turn.{Turn}

-- the turns, the newest first, and for how many more there is room
pub record Happened : Type 0 where
  pub turns : List Turn
  pub room : ℕ
