-- A tell that a node told comes to a storage server that is up.
use Rattle.std.proofs.Common.{◌≡◌, ℕ, true, None, ◌∙◌, ap}
use Rattle.std.specs.Prelude.{Result, Ok}
use Rattle.fr_ask.specs.declared.tell.Tell.{Tell}
use Rattle.fr_base.specs.declared.place.NodeId.{NodeId}
use Rattle.fr_base.specs.declared.place.NodeId.TheVariants as node
use Rattle.fr_run.specs.Turn.{Turn, StorageHeard}
use Rattle.fr_run.specs.Nodes.{storage_at}
use Rattle.fr_run.specs.Run.{IsHeardBy, fault_of}
use Rattle.fr_run.specs.declared.event.Event.TheVariants.{Hear}
use Rattle.fr_run.specs.declared.not_enabled.NotEnabled.{NotEnabled}
use Rattle.fr_run.specs.Law.{EventIsTurn}
use Rattle.fr_run.specs.Tests.{was_told}
use Rattle.fr_run.specs.Step.{turn_of, if_told}
use Rattle.fr_world_nodes.specs.Kept.{WorldState}
use Rattle.fr_world.specs.Stepping.{why_not_up}
use Rattle.fr_world.proofs.Ups.{up_turn}

pub storage_may_hear : EventIsTurn → (w : WorldState) (tag : ℕ) (from : NodeId) (t : Tell) → why_not_up w (node.Storage tag) ≡ None → was_told w.turns from (node.Storage tag) t ≡ true → IsHeardBy w.config w.turns (node.Storage tag) from t
storage_may_hear law w tag from t up told = (law w.config w.turns (Hear (node.Storage tag) from t None) turn tt is).0
  where
    turn : Turn
    turn = StorageHeard tag from t None (fault_of (storage_at w.config w.turns tag) from t)

    ok : Result Turn NotEnabled
    ok = Ok turn

    is : turn_of w.config w.turns (Hear (node.Storage tag) from t None) ≡ Ok turn
    is = up_turn w (node.Storage tag) (if_told (was_told w.turns from (node.Storage tag) t) ok) up ∙ ap (λ b. if_told b ok) told
