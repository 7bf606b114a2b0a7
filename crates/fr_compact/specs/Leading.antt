-- Records that lead a machine to a state.
use Rattle.std.specs.Prelude.{◌≡◌, ℕ, List, Option, Some}
use Rattle.fr_record_node.specs.Replay.{replayed}

-- the records lead a machine that began as `fresh` to a state that has P
pub record LeadsTo {M : Type 0} (replay : M → List ℕ → Option M) (fresh : M) (P : M → Type 0) (records : List (List ℕ)) : Type 0 where
  pub state : M
  pub replays : replayed replay (Some fresh) records ≡ Some state
  pub holds : P state
