-- An ask comes to a node that nothing stands in the way of.
use Rattle.std.proofs.Common.{◌≡◌, ℕ, Bool, true, false, List, None, ◌∙◌, ap, subst, sym}
use Rattle.std.specs.Prelude.{◌||◌}
use Rattle.fr_ask.specs.declared.ask.Ask.{Ask}
use Rattle.fr_ask.specs.declared.ask.Ask.TheVariants as ask
use Rattle.fr_ask.specs.declared.sequencer.SeqAsk.{SeqAsk}
use Rattle.fr_base.specs.declared.place.NodeId.{NodeId}
use Rattle.fr_base.specs.declared.place.NodeId.TheVariants as node
use Rattle.fr_register.specs.Cell as cell
use Rattle.fr_register.specs.declared.ask.CellAsk.{CellAsk}
use Rattle.fr_log.specs.Step as log
use Rattle.fr_log.specs.declared.ask.LogAsk.{LogAsk}
use Rattle.fr_proxy.specs.Sequencer as seq
use Rattle.fr_run.specs.Turn.{Turn, CellTurn, LogTurn, SeqTurn}
use Rattle.fr_run.specs.Nodes.{cell_at, log_at, seq_at}
use Rattle.fr_run.specs.Run.{IsTurn, WantsSome}
use Rattle.fr_run.specs.declared.event.Event.TheVariants.{Deliver}
use Rattle.fr_run.specs.Law.{EventIsTurn}
use Rattle.fr_run.specs.Step.{delivered, if_sent}
use Rattle.fr_run.specs.Tests.{was_sent, storage_may_ask}
use Rattle.fr_world.specs.World.{next_turn}
use Rattle.fr_world_nodes.specs.Kept.{WorldState}
use Rattle.fr_world.specs.Stepping.{why_not_up}
use Rattle.fr_world.proofs.Ups.{up_turn}

-- what a delivery to a node that is up is
pub delivery : (w : WorldState) (from to : NodeId) (a : Ask) → why_not_up w to ≡ None → next_turn w (Deliver from to a) ≡ delivered w.config w.turns from to a
delivery w from to a up = up_turn w to (delivered w.config w.turns from to a) up

pub cell_may : EventIsTurn → (w : WorldState) (from : NodeId) (i : ℕ) (a : CellAsk) → why_not_up w (node.Cell i) ≡ None → was_sent w.turns from (node.Cell i) (ask.Cell a) ≡ true
    → IsTurn w.config w.turns (CellTurn from i a (cell.answer_of (cell_at w.config w.turns i) a))
cell_may law w from i a up sent =
    law w.config w.turns (Deliver from (node.Cell i) (ask.Cell a)) (CellTurn from i a (cell.answer_of (cell_at w.config w.turns i) a)) tt
    (delivery w from (node.Cell i) (ask.Cell a) up ∙ ap (λ b. if_sent b (CellTurn from i a (cell.answer_of (cell_at w.config w.turns i) a))) sent)

pub log_may : EventIsTurn → (w : WorldState) (from : NodeId) (e i : ℕ) (a : LogAsk) → WantsSome a → why_not_up w (node.Log e i) ≡ None → (was_sent w.turns from (node.Log e i) (ask.Log a) || storage_may_ask w.config w.turns from a) ≡ true
    → IsTurn w.config w.turns (LogTurn from e i a (log.answer_of (log_at w.config w.turns e i) a))
log_may law w from e i a wants up sent =
    law w.config w.turns (Deliver from (node.Log e i) (ask.Log a)) (LogTurn from e i a (log.answer_of (log_at w.config w.turns e i) a)) wants
    (delivery w from (node.Log e i) (ask.Log a) up ∙ ap (λ b. if_sent b (LogTurn from e i a (log.answer_of (log_at w.config w.turns e i) a))) sent)

pub sequencer_may : EventIsTurn → (w : WorldState) (from : NodeId) (e : ℕ) (a : SeqAsk) → why_not_up w (node.Sequencer e) ≡ None → was_sent w.turns from (node.Sequencer e) (ask.Seq a) ≡ true
    → IsTurn w.config w.turns (SeqTurn from e a (seq.answer_of (seq_at w.config w.turns e) a))
sequencer_may law w from e a up sent =
    law w.config w.turns (Deliver from (node.Sequencer e) (ask.Seq a)) (SeqTurn from e a (seq.answer_of (seq_at w.config w.turns e) a)) tt
    (delivery w from (node.Sequencer e) (ask.Seq a) up ∙ ap (λ b. if_sent b (SeqTurn from e a (seq.answer_of (seq_at w.config w.turns e) a))) sent)

-- what a test found, of the node and the ask that they turned out to be
pub sent_of : (h : List Turn) (from to n : NodeId) (a x : Ask) (s : Bool) → to ≡ n → a ≡ x → s ≡ was_sent h from to a → s ≡ was_sent h from n x
sent_of h from to n a x s is asked test = test ∙ (ap (λ m. was_sent h from m a) is ∙ ap (λ y. was_sent h from n y) asked)

pub up_of : (w : WorldState) (to n : NodeId) → to ≡ n → why_not_up w to ≡ None → why_not_up w n ≡ None
up_of w to n is up = subst (λ m. why_not_up w m ≡ None) is up

-- of two tests the first one, or the other where that fails
pub or_first : (m s a b : Bool) → s ≡ a → s ≡ true → m ≡ s → m ≡ (a || b)
or_first m s a b is e k = k ∙ (e ∙ ap (λ x. x || b) (sym e ∙ is))

pub or_second : (m s a b q : Bool) → s ≡ a → s ≡ false → q ≡ b → m ≡ q → m ≡ (a || b)
or_second m s a b q is e other k = k ∙ (other ∙ ap (λ x. x || b) (sym e ∙ is))
