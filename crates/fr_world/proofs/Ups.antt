-- A node that nothing stands in the way of has its turn, and one that is not up is refused.
use Rattle.std.proofs.Common.{◌≡◌, ◌≢◌, Bool, true, false, cond, not, Option, None, Some, refl, ap}
use Rattle.std.specs.Prelude.{Result, Err, IsOk}
use Rattle.fr_base.specs.declared.place.NodeId.{NodeId}
use Rattle.fr_run.specs.Turn.{Turn}
use Rattle.fr_run.specs.Nodes.{is_there}
use Rattle.fr_run.specs.declared.not_enabled.NotEnabled.{NotEnabled}
use Rattle.fr_run.specs.declared.not_enabled.NotEnabled.TheVariants as not_enabled
use Rattle.fr_run.specs.Tests.{is_gone}
use Rattle.fr_run.specs.Step.{if_up}
use Rattle.fr_world_nodes.specs.Kept.{WorldState}
use Rattle.fr_world.specs.Stepping.{why_not_up}

pub up_turn : (w : WorldState) (who : NodeId) (o : Result Turn NotEnabled) → why_not_up w who ≡ None → if_up w.config w.turns who o ≡ o
up_turn w who o e = go (not (is_there w.config w.turns who)) (is_gone w.turns who) e
  where
    none : Option NotEnabled
    none = None

    go : (a b : Bool) → cond a (Some not_enabled.NoSuchNode) (cond b (Some not_enabled.Gone) none) ≡ None → cond a (Err not_enabled.NoSuchNode) (cond b (Err not_enabled.Gone) o) ≡ o
    go true b k = absurd (cc)
    go false true k = absurd (cc)
    go false false k = refl

pub not_up : (w : WorldState) (who : NodeId) (o : Result Turn NotEnabled) (why : NotEnabled) → why_not_up w who ≡ Some why → if_up w.config w.turns who o ≡ Err why
not_up w who o why e = go (not (is_there w.config w.turns who)) (is_gone w.turns who) e
  where
    none : Option NotEnabled
    none = None

    err : NotEnabled → Result Turn NotEnabled
    err x = Err x

    go : (a b : Bool) → cond a (Some not_enabled.NoSuchNode) (cond b (Some not_enabled.Gone) none) ≡ Some why → cond a (Err not_enabled.NoSuchNode) (cond b (Err not_enabled.Gone) o) ≡ Err why
    go true b k = let d : not_enabled.NoSuchNode ≡ why = cc in ap err d
    go false true k = let d : not_enabled.Gone ≡ why = cc in ap err d
    go false false k = absurd (cc)

-- that refuses its event, and not out of memory
pub refused_up : (w : WorldState) (who : NodeId) (o : Result Turn NotEnabled) (why : NotEnabled) → why_not_up w who ≡ Some why
    → (why ≢ not_enabled.Memory → if_up w.config w.turns who o ≡ Err why) × (why ≡ not_enabled.Memory → IsOk (if_up w.config w.turns who o))
refused_up w who o why e = (λ no. not_up w who o why e, go (not (is_there w.config w.turns who)) (is_gone w.turns who) e)
  where
    none : Option NotEnabled
    none = None

    go : (a b : Bool) → cond a (Some not_enabled.NoSuchNode) (cond b (Some not_enabled.Gone) none) ≡ Some why → why ≡ not_enabled.Memory → IsOk (if_up w.config w.turns who o)
    go true b k memory = let d : not_enabled.NoSuchNode ≡ not_enabled.Memory = cc in absurd (cc)
    go false true k memory = let d : not_enabled.Gone ≡ not_enabled.Memory = cc in absurd (cc)
    go false false k memory = absurd (cc)
