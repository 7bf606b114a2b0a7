-- A history, as a turn is added to it.
use Rattle.std.proofs.Common.{◌≡◌, List, ◌∷◌, ◌∙◌, ap}
use Rattle.fr_run.specs.Turn as history
use Rattle.fr_world_turns.specs.declared.turn.Turn.{Turn}
use Rattle.fr_world_turns.specs.Turns.{turn_of}

-- a history with one turn more
pub history_push : (h later : List history.Turn) (x : Turn) (t : history.Turn) → later ≡ turn_of x ∷ h → turn_of x ≡ t → later ≡ t ∷ h
history_push h later x t e d = e ∙ ap (λ y. y ∷ h) d
