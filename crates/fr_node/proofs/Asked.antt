-- What a storage server asks, put together piece by piece.
use Rattle.std.proofs.Common.{refl}
use Rattle.std.specs.Prelude.{ℕ, ◌≡◌, ◌==◌, ◌++◌, List, [], ◌∷◌, Option, Some, find}
use Rattle.fr_base.specs.declared.place.NodeId.{NodeId}
use Rattle.fr_ask.specs.declared.ask.Ask.{Ask}
use Rattle.fr_ask.specs.declared.ask.Ask.TheVariants as ask
use Rattle.fr_log.specs.declared.ask.LogAsk.{LogAsk}
use Rattle.fr_state.specs.Generations.{LogGeneration, last_of}
use Rattle.fr_storage.specs.Server.{Server}
use Rattle.fr_storage.specs.Storage.{ask_after, pop_ask}
use Rattle.fr_node.specs.declared.turn.Newest.{Newest}
use Rattle.fr_run.specs.Pulls.{holder}
use Rattle.fr_node.specs.Pulls.{asks_of, mark_asks, peek_asks}

pub asks-are : {S : Type 0} (s : Server S) (turn : ℕ) (newest : Option Newest) (next : ℕ × LogAsk) (source : Option LogGeneration) (tag epoch : ℕ) (asked : LogAsk) (own : LogGeneration) (gens : List LogGeneration) (a0 a1 a2 a3 a4 : List (NodeId × Ask)) (to : NodeId)
    → next ≡ ask_after s.state.gens s.tag s.applied → gens ≡ s.state.gens → source ≡ find (λ g. g.epoch == next.0) gens → tag ≡ s.tag
    → a0 ≡ [] → a1 ≡ a0 ++ peek_asks source tag turn next.1 → a2 ≡ a1 ++ mark_asks newest turn → a3 ≡ a2
    → last_of s.state.gens ≡ Some own → asked ≡ pop_ask epoch s.tag s.floor → epoch ≡ own.epoch → to ≡ holder own tag turn
    → a4 ≡ a3 ++ (to, ask.Log asked) ∷ []
    → a4 ≡ asks_of s turn newest
asks-are s turn newest next source tag epoch asked own gens a0 a1 a2 a3 a4 to n g src t e0 e1 e2 e3 l w ep h e4 =
    rw (e4, e3, e2, e1, e0, h, w, ep, l, src, g, t, n) refl
