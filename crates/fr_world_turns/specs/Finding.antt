-- When the places under the keys are enough to find what happened in the first of some turns.
use Rattle.std.specs.Prelude.{◌≡◌, ◌<◌, ◌≤◌, ℕ, Bool, true, List, length, slice_get, Some}
use Rattle.std.specs.List.{list_any}
use Rattle.fr_base.specs.declared.place.NodeId.{NodeId}
use Rattle.fr_ask.specs.declared.ask.Ask.{Ask}
use Rattle.fr_ask.specs.declared.tell.Tell.{Tell}
use Rattle.fr_run.specs.Turn as history
use Rattle.fr_run.specs.Tests.{goes, gives, tells}
use Rattle.fr_world_turns.specs.Keys.{gone_key, ask_key, tell_key}
use Rattle.fr_world_turns.specs.Places.{Key, Places, holds_at, under}
use Rattle.fr_world_turns.specs.Turns.{turn_of}
use Rattle.fr_world_turns.specs.declared.turn.Turn.{Turn}

-- whether there is a turn at a place that passes a test
abbrev pub at_place : List Turn → (history.Turn → Bool) → ℕ → Bool
at_place turns p place = holds_at (λ t. p (turn_of t)) turns place

-- whether there is one at a place under a key
abbrev pub some_under : List Turn → Places → (history.Turn → Bool) → Key → Bool
some_under turns m p k = list_any (at_place turns p) (under m k)

-- what a turn did is found: that it took a node away
abbrev pub GoneIsFound : List Turn → Places → history.Turn → Type 0
GoneIsFound turns m t = (who : NodeId) → goes who t ≡ true → some_under turns m (goes who) (gone_key who) ≡ true

-- what it asked, what it told
abbrev pub AsksAreFound : List Turn → Places → history.Turn → Type 0
AsksAreFound turns m t = (from to : NodeId) (a : Ask) → gives from to a t ≡ true → some_under turns m (gives from to a) (ask_key from to a) ≡ true

abbrev pub TellIsFound : List Turn → Places → history.Turn → Type 0
TellIsFound turns m t = (by to : NodeId) (x : Tell) → tells by to x t ≡ true → some_under turns m (tells by to x) (tell_key by to x) ≡ true

pub record IsFound (turns : List Turn) (m : Places) (t : history.Turn) : Type 0 where
  pub asks : AsksAreFound turns m t
  pub tell : TellIsFound turns m t

-- what the first n turns asked and told is found
pub record AreFound (turns : List Turn) (n : ℕ) (m : Places) : Type 0 where
  pub within : n ≤ length turns
  pub each : (i : ℕ) (t : Turn) → i < n → slice_get turns i ≡ Some t → IsFound turns m (turn_of t)

-- who the first n turns took away is found
pub record AreGoneFound (turns : List Turn) (n : ℕ) (m : Places) : Type 0 where
  pub within : n ≤ length turns
  pub each : (i : ℕ) (t : Turn) → i < n → slice_get turns i ≡ Some t → GoneIsFound turns m (turn_of t)
