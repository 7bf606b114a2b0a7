-- A proxy that nothing stands in the way of is up, and may hear what was told to it.
use Rattle.std.proofs.Common.{◌≡◌, ℕ, true, false, Option, None, ◌∙◌, ap}
use Rattle.std.specs.Prelude.{is_some, Result, Ok}
use Rattle.fr_base.specs.declared.place.NodeId.{NodeId}
use Rattle.fr_base.specs.declared.place.NodeId.TheVariants as node
use Rattle.fr_ask.specs.declared.tell.Tell.{Tell}
use Rattle.fr_run.specs.Turn.{Turn, Gone}
use Rattle.fr_run.specs.Run.{IsUp, IsTurn}
use Rattle.fr_run.specs.declared.event.Event.TheVariants.{Crash, Hear}
use Rattle.fr_run.specs.declared.not_enabled.NotEnabled.{NotEnabled}
use Rattle.fr_run.specs.Law.{EventIsTurn}
use Rattle.fr_run.specs.Step.{if_told, whole, heard_by}
use Rattle.fr_run.specs.Tests.{was_told}
use Rattle.fr_world.specs.World.{next_turn}
use Rattle.fr_world_nodes.specs.Kept.{WorldState}
use Rattle.fr_world.specs.Stepping.{why_not_up}
use Rattle.fr_world_nodes.proofs.CalledNodes.{heard_in}
use Rattle.fr_world.proofs.Hears.{no_version}
use Rattle.fr_world.proofs.Ups.{up_turn}

-- it is up, since it may crash
pub proxy_up : EventIsTurn → (w : WorldState) (e p : ℕ) → why_not_up w (node.Proxy e p) ≡ None → IsUp w.config w.turns (node.Proxy e p)
proxy_up law w e p up = (law w.config w.turns (Crash (node.Proxy e p)) (Gone (node.Proxy e p)) tt (up_turn w (node.Proxy e p) goes up)).0
  where
    goes : Result Turn NotEnabled
    goes = Ok (Gone (node.Proxy e p))

-- what a hear of a proxy that is up is, where it was told and does not break off
heard_turn : (w : WorldState) (e p : ℕ) (from : NodeId) (t : Tell) (taken : Option ℕ) → why_not_up w (node.Proxy e p) ≡ None → was_told w.turns from (node.Proxy e p) t ≡ true → taken ≡ None
    → next_turn w (Hear (node.Proxy e p) from t taken) ≡ Ok (heard_in w e p from t)
heard_turn w e p from t taken up told none =
    up_turn w (node.Proxy e p) (if_told (was_told w.turns from (node.Proxy e p) t) (heard_by w.config w.turns (node.Proxy e p) from t taken)) up
    ∙ (ap (λ s. if_told s (whole taken (heard_in w e p from t))) told ∙ ap (λ x. whole x (heard_in w e p from t)) none)

-- it may come next
pub proxy_may_hear : EventIsTurn → (w : WorldState) (e p : ℕ) (from : NodeId) (t : Tell) (taken : Option ℕ) → why_not_up w (node.Proxy e p) ≡ None → was_told w.turns from (node.Proxy e p) t ≡ true → is_some taken ≡ false
    → IsTurn w.config w.turns (heard_in w e p from t)
proxy_may_hear law w e p from t taken up told none = law w.config w.turns (Hear (node.Proxy e p) from t taken) (heard_in w e p from t) tt (heard_turn w e p from t taken up told (no_version taken none))
