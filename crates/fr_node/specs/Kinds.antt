-- The kinds of turns.
use Rattle.fr_node.specs.declared.turn.NodeTurn.{NodeTurn}
use Rattle.fr_node.specs.declared.turn.NodeTurn.TheVariants as turn
use Rattle.fr_node.specs.declared.turn.Kind.{Kind}
use Rattle.fr_node.specs.declared.turn.Kind.TheVariants as kind

abbrev pub kind_of : NodeTurn → Kind
kind_of (turn.Ask from ask) = kind.Ask
kind_of (turn.Hear from tell) = kind.Hear
kind_of (turn.Submit step batch) = kind.Submit
kind_of turn.Begin = kind.Begin
