-- A full list is no dead end where a log of its last generation is up and has the epoch's mark.
use Rattle.std.specs.Prelude.{◌≡◌, ◌<◌, ◌≤◌, ◌^◌, ℕ, ◌+◌, ◌-◌, true, List, ◌∷◌, length, Option, None, Some, IfSome, All, Ok}
use Rattle.fr_base.specs.Shape.{ShapeContent, IsShape}
use Rattle.fr_base.specs.declared.place.NodeId.TheVariants as node
use Rattle.fr_register.specs.Chosen.{IsMajority}
use Rattle.fr_state.specs.Generations.{LogGeneration, CoordinatedState, last_of}
use Rattle.fr_state.specs.Reading.{reading}
use Rattle.fr_tags.specs.Placement.{is_held}
use Rattle.fr_log.specs.LogState.{durable_of, mark_among}
use Rattle.fr_epoch.specs.DroppingLaws.{IsShownFrom}
use Rattle.fr_epoch.specs.Recoverer.{RecState, Parent, Lost}
use Rattle.fr_epoch.specs.declared.why.LostWhy.TheVariants.{TooMany}
use Rattle.fr_run.specs.Config.{Config}
use Rattle.fr_run.specs.Turn.{Turn}
use Rattle.fr_run.specs.Nodes.{cell_at, rec_at, generation_at, log_at}
use Rattle.fr_run.specs.Run.{IsUp, MayBegin, IsRun}
use Rattle.fr_run.specs.States.{IsLatest}
use Rattle.fr_run.specs.StateLaws.{IsConfig}
use Rattle.fr_run_headline.specs.Retrievable.{AreFewLost}
use Rattle.fr_run_outcomes.specs.Going.{GoesOn, LeavesChosen}
use Rattle.fr_run_outcomes.specs.Returning.{HasEachLeft, ServesOn}

-- ---- what is popped

-- each log of a generation that is up has each tag that it holds popped, at least through the version before the generation's first
abbrev pub ArePopped : Config → List Turn → LogGeneration → Type 0
ArePopped c h g =
    (i tag : ℕ) → IsUp c h (node.Log g.epoch i) → tag < length c.begins → is_held tag g.m g.k i ≡ true → IsShownFrom (log_at c h g.epoch i).popped tag (g.first - 1)

-- a run goes on by turns of storage servers and of logs that they ask to a moment at which they are
pub record PopsOn (c : Config) (h : List Turn) (g : LogGeneration) : Type 0 where
  pub later : List Turn
  pub goes_on : (b : ℕ) → GoesOn c b h later
  pub leaves : LeavesChosen c h later
  pub popped : ArePopped c later g

-- so does each one in which the epoch is the latest, if fewer than k logs of each generation of it are lost, and one log of its
-- own is up and has its mark first
abbrev pub MarkedIsPopped : Type 0
MarkedIsPopped =
    (c : Config) (h : List Turn) → IsConfig c → IsRun c h → (e i : ℕ) (x : CoordinatedState) (g : LogGeneration) → IsLatest c h e → AreFewLost c h e → generation_at c h e ≡ Some g → IsUp c h (node.Log e i)
    → mark_among (log_at c h e i).pushes ≡ Some x → PopsOn c h g

-- ---- room can be made

-- after a state whose last generation is this one room can be made: a log of that is up and has its mark first, and there is a
-- version for the mark of the next one
pub record CanMakeRoom (c : Config) (h : List Turn) (g : LogGeneration) : Type 0 where
  pub log : ℕ
  pub mark : CoordinatedState
  pub up : IsUp c h (node.Log g.epoch log)
  pub marked : mark_among (log_at c h g.epoch log).pushes ≡ Some mark
  pub versions : (i : ℕ) → i < g.m → durable_of (log_at c h g.epoch i) + 1 < 2 ^ 62

-- so it is after the state that a cell has
abbrev pub MayMakeRoom : Config → List Turn → ℕ → Type 0
MayMakeRoom c h i = (s : CoordinatedState) (g : LogGeneration) → reading (cell_at c h i).value ≡ Ok s → last_of s.gens ≡ Some g → CanMakeRoom c h g

-- a run goes on by turns of storage servers and of logs that they ask alone to a moment from which it goes on by own turns of a
-- ballot to service
pub record MakesRoomOn (c : Config) (h : List Turn) (b cell : ℕ) : Type 0 where
  pub later : List Turn
  pub goes_on : (a : ℕ) → GoesOn c a h later
  pub leaves : LeavesChosen c h later
  pub serves : ServesOn c later b cell

-- so does each one, under the conditions of ServiceReturns, if room can be made, however many generations the list has. There is
-- at least one shard
abbrev pub FullIsNoDeadEnd : Type 0
FullIsNoDeadEnd =
    (c : Config) (h : List Turn) → IsConfig c → IsRun c h → 1 ≤ length c.begins → (b : ℕ) (shape : Option ShapeContent) → rec_at c h b ≡ None → MayBegin b → IfSome shape IsShape
    → (first : ℕ) (others : List ℕ) → IsMajority c.cells (first ∷ others) → All (λ i. (cell_at c h i).promised ≤ b) (first ∷ others)
    → All (λ i. (cell_at c h i).written ≤ (cell_at c h first).written) others → HasEachLeft c h first → MayMakeRoom c h first → MakesRoomOn c h b first

-- ---- why there is none

-- a recoverer that is lost as TooMany read a full list, and was not shown that each tag is popped through the version before the last
-- generation's first
pub record IsUnpopped (c : Config) (r : RecState) (p : Parent) : Type 0 where
  pub full : 64 ≤ length p.state.gens
  pub unpopped : 1 ≤ length c.begins → ((tag : ℕ) → tag < length c.begins → IsShownFrom r.shown tag (p.last.first - 1)) → ⊥

abbrev pub TooManyIsUnpopped : Type 0
TooManyIsUnpopped =
    (c : Config) (h : List Turn) → IsConfig c → IsRun c h → (b : ℕ) (r : RecState) (p : Parent) → rec_at c h b ≡ Some r → r.phase ≡ Lost TooMany → r.parent ≡ Some p → IsUnpopped c r p
