-- Rounds: turns in which a recoverer hears an answer to each ask whose answer it wanted when they began.
use Rattle.std.specs.Prelude.{◌≡◌, ◌⊎◌, ℕ, Bool, true, List, [], ◌∷◌, ◌++◌, length, Some, All, Contains}
use Rattle.fr_base.specs.declared.place.NodeId.{NodeId}
use Rattle.fr_base.specs.declared.place.NodeId.TheVariants as node
use Rattle.fr_ask.specs.declared.ask.Ask.{Ask}
use Rattle.fr_ask.specs.declared.tell.Tell.{Tell}
use Rattle.fr_epoch.specs.Recoverer.{RecState}
use Rattle.fr_epoch.specs.Asks.{pending}
use Rattle.fr_run.specs.Config.{Config}
use Rattle.fr_run.specs.Turn.{Turn, Sending, RecHeard, Gone}
use Rattle.fr_run.specs.Nodes.{rec_at}
use Rattle.fr_run.specs.Run.{IsUp, IsRun}
use Rattle.fr_run.specs.StateLaws.{IsConfig}
use Rattle.fr_run_outcomes.specs.Going.{GoesOn}
use Rattle.fr_run_outcomes.specs.Pending.{IsAnswerOf}
use Rattle.fr_run_outcomes.specs.Uncontested.{AsksNoGreater}

-- a recoverer's ask came to a node in some turn, and this is what the node told
abbrev pub WasAnswered : Config → List Turn → ℕ → NodeId → Ask → Tell → Type 0
WasAnswered c [] b to a t = ⊥
WasAnswered c (turn ∷ h) b to a t = IsAnswerOf c h b to a turn t ⊎ WasAnswered c h b to a t

-- in some turns after h a recoverer hears an answer to its ask, which came to the node in these turns or before
pub record HearsAnswer (c : Config) (h turns : List Turn) (b : ℕ) (to : NodeId) (a : Ask) : Type 0 where
  pub after : List Turn
  pub tell : Tell
  pub asks : List Sending
  pub before : List Turn
  pub is : after ++ RecHeard b to tell asks ∷ before ≡ turns
  pub answered : WasAnswered c (before ++ h) b to a tell

-- turns are a round of a recoverer, if it hears in them an answer to each ask whose answer it wants at their beginning, from
-- each node that answers. Whatever else happens in them
abbrev pub IsRound : Config → (NodeId → Bool) → ℕ → List Turn → List Turn → Type 0
IsRound c answers b h turns =
    (r : RecState) → rec_at c h b ≡ Some r → (to : NodeId) (a : Ask) → Contains (pending r) (to, a) → answers to ≡ true → HearsAnswer c h turns b to a

-- the turns of rounds, the newest first
abbrev pub turns_of : List (List Turn) → List Turn
turns_of [] = []
turns_of (round ∷ rounds) = round ++ turns_of rounds

-- each of these, the newest first, is a round
abbrev pub AreRounds : Config → (NodeId → Bool) → ℕ → List Turn → List (List Turn) → Type 0
AreRounds c answers b h [] = Unit {0}
AreRounds c answers b h (round ∷ rounds) = IsRound c answers b (turns_of rounds ++ h) round × AreRounds c answers b h rounds

-- a run goes on by so many rounds, of own turns of the ballot, in which no cell is asked for a greater one
pub record HasRounds (c : Config) (answers : NodeId → Bool) (b : ℕ) (h : List Turn) (number : ℕ) : Type 0 where
  pub later : List Turn
  pub goes_on : GoesOn c b h later
  pub rounds : List (List Turn)
  pub is : turns_of rounds ++ h ≡ later
  pub many : length rounds ≡ number
  pub are : AreRounds c answers b h rounds
  pub none : All (AsksNoGreater b) (turns_of rounds)

-- so does each one in which a recoverer is up, and no node that answers is gone
abbrev pub RoundsCanCome : Type 0
RoundsCanCome =
    (c : Config) (h : List Turn) → IsConfig c → IsRun c h → (b : ℕ) (answers : NodeId → Bool) → IsUp c h (node.Recoverer b) → ((who : NodeId) → answers who ≡ true → Contains h (Gone who) → ⊥)
    → (number : ℕ) → HasRounds c answers b h number
