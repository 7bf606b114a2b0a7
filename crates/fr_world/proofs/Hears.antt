-- The turn in which a recoverer hears.
use Rattle.std.proofs.Common.{◌≡◌, ℕ, true, false, Option, None, Some, refl, ◌∙◌, ap}
use Rattle.std.specs.Prelude.{IfSome, is_some}
use Rattle.fr_base.specs.declared.place.NodeId.{NodeId}
use Rattle.fr_base.specs.declared.place.NodeId.TheVariants as node
use Rattle.fr_ask.specs.declared.tell.Tell.{Tell}
use Rattle.fr_epoch.specs.Recoverer.{RecState}
use Rattle.fr_epoch.specs.Asks.{new_asks}
use Rattle.fr_run.specs.Turn.{RecHeard}
use Rattle.fr_run.specs.Nodes.{rec_at}
use Rattle.fr_run.specs.Run.{IsTurn}
use Rattle.fr_run.specs.declared.event.Event.TheVariants.{Hear}
use Rattle.fr_run.specs.Law.{EventIsTurn}
use Rattle.fr_run.specs.Step.{if_told, heard_by_rec, heard_by}
use Rattle.fr_run.specs.Tests.{was_told}
use Rattle.fr_world.specs.World.{next_turn}
use Rattle.fr_world_nodes.specs.Kept.{WorldState}
use Rattle.fr_world.specs.Stepping.{why_not_up}
use Rattle.fr_world.proofs.Ups.{up_turn}

-- what a hear of a recoverer that is up is, where it was told and does not break off
heard_turn : (w : WorldState) (b : ℕ) (from : NodeId) (t : Tell) (taken : Option ℕ) (o : Option RecState) → rec_at w.config w.turns b ≡ o → why_not_up w (node.Recoverer b) ≡ None → was_told w.turns from (node.Recoverer b) t ≡ true → taken ≡ None
    → next_turn w (Hear (node.Recoverer b) from t taken) ≡ heard_by_rec b from t None o
heard_turn w b from t taken o is up told none =
    up_turn w (node.Recoverer b) (if_told (was_told w.turns from (node.Recoverer b) t) (heard_by w.config w.turns (node.Recoverer b) from t taken)) up
    ∙ (ap (λ s. if_told s (heard_by_rec b from t taken (rec_at w.config w.turns b))) told
    ∙ (ap (λ x. heard_by_rec b from t x (rec_at w.config w.turns b)) none ∙ ap (λ r. heard_by_rec b from t None r) is))

pub no_version : (o : Option ℕ) → is_some o ≡ false → o ≡ None
no_version None e = refl
no_version (Some version) e = absurd (cc)

-- it may come next
pub heard_may : EventIsTurn → (w : WorldState) (b : ℕ) (from : NodeId) (t : Tell) (taken : Option ℕ) → why_not_up w (node.Recoverer b) ≡ None → was_told w.turns from (node.Recoverer b) t ≡ true → is_some taken ≡ false
    → IfSome (rec_at w.config w.turns b) (λ r. IsTurn w.config w.turns (RecHeard b from t (new_asks r from t)))
heard_may law w b from t taken up told none = go (rec_at w.config w.turns b) refl
  where
    go : (o : Option RecState) → rec_at w.config w.turns b ≡ o → IfSome o (λ r. IsTurn w.config w.turns (RecHeard b from t (new_asks r from t)))
    go None is = tt
    go (Some r) is = law w.config w.turns (Hear (node.Recoverer b) from t taken) (RecHeard b from t (new_asks r from t)) tt (heard_turn w b from t taken (Some r) is up told (no_version taken none))
