-- A storage server gives asks in no turn.
use Rattle.std.proofs.Common.{◌≡◌, ℕ, Bool, true, false, ◌||◌, ◌&&◌, List, [], ◌∷◌, refl, ap, ◌∙◌}
use Rattle.std.specs.List.{list_any}
use Rattle.fr_base.specs.Node.{is_same_node, is_same_node-IsSameness}
use Rattle.fr_base.specs.declared.place.NodeId.{NodeId}
use Rattle.fr_base.specs.declared.place.NodeId.TheVariants as node
use Rattle.fr_ask.specs.declared.ask.Ask.{Ask}
use Rattle.fr_run.specs.Turn.{Turn, Begun, CellTurn, LogTurn, SeqTurn, Submitted, ProxyHeard, RecHeard, StorageHeard, Gone, Crashed}
use Rattle.fr_run.specs.Tests.{gives, is_sending, was_sent}

and_false : (b : Bool) → (b && false) ≡ false
and_false true = refl
and_false false = refl

unlike : (b : Bool) → (b ≡ true → ⊥) → b ≡ false
unlike true h = absurd (h refl)
unlike false h = refl

-- another node's turn is none of a storage server
of_another : (who : NodeId) (tag : ℕ) (gave : Bool) → (who ≡ node.Storage tag → ⊥) → (is_same_node who (node.Storage tag) && gave) ≡ false
of_another who tag gave other = ap (λ b. b && gave) (unlike (is_same_node who (node.Storage tag)) (λ e. other (is_same_node-IsSameness.same who (node.Storage tag) e)))

gives_none : (tag : ℕ) (to : NodeId) (a : Ask) (t : Turn) → gives (node.Storage tag) to a t ≡ false
gives_none tag to a (Begun b shape asks) = of_another (node.Recoverer b) tag (list_any (is_sending to a) asks) (λ e. absurd (cc))
gives_none tag to a (CellTurn from i x t) = and_false (is_same_node (node.Cell i) (node.Storage tag))
gives_none tag to a (LogTurn from e i x t) = and_false (is_same_node (node.Log e i) (node.Storage tag))
gives_none tag to a (SeqTurn from e x t) = and_false (is_same_node (node.Sequencer e) (node.Storage tag))
gives_none tag to a (Submitted e p step batch asks) = of_another (node.Proxy e p) tag (list_any (is_sending to a) asks) (λ e. absurd (cc))
gives_none tag to a (ProxyHeard e p from t outcome asks) = of_another (node.Proxy e p) tag (list_any (is_sending to a) asks) (λ e. absurd (cc))
gives_none tag to a (RecHeard b from t asks) = of_another (node.Recoverer b) tag (list_any (is_sending to a) asks) (λ e. absurd (cc))
gives_none tag to a (StorageHeard n from t taken fault) = and_false (is_same_node (node.Storage n) (node.Storage tag))
gives_none tag to a (Gone who) = and_false (is_same_node who (node.Storage tag))
gives_none tag to a (Crashed who) = and_false (is_same_node who (node.Storage tag))

pub storage_sends_none : (h : List Turn) (tag : ℕ) (to : NodeId) (a : Ask) → was_sent h (node.Storage tag) to a ≡ false
storage_sends_none [] tag to a = refl
storage_sends_none (t ∷ h) tag to a = ap (λ b. b || was_sent h (node.Storage tag) to a) (gives_none tag to a t) ∙ storage_sends_none h tag to a
