-- That the numbers of each epoch are one chain.
use Rattle.std.specs.Prelude.{◌≡◌, ℕ, true, List, Contains}
use Rattle.fr_base.specs.declared.place.NodeId.{NodeId}
use Rattle.fr_base.specs.declared.place.NodeId.TheVariants as node
use Rattle.fr_ask.specs.declared.tell.Tell.TheVariants as tell
use Rattle.fr_run.specs.Config.{Config}
use Rattle.fr_run.specs.Turn.{Turn, Told}
use Rattle.fr_run.specs.Nodes.{generation_at, mark_version, is_open, seq_at}
use Rattle.fr_run_headline.specs.Numbers.{numbers, numbering_of, IsNumbered}
use Rattle.fr_proxy.specs.Sequencer.{told}
use Rattle.fr_proxy.specs.declared.number.Number.{Number}
use Rattle.fr_run.specs.Run.{IsRun}

-- the numbers of an open epoch are one chain from its mark on, and its sequencer is at the last one
abbrev pub NumbersChain : Type 0
NumbersChain =
    (c : Config) (h : List Turn) → IsRun c h → (e : ℕ) → is_open c h e ≡ true → IsNumbered (mark_version (generation_at c h e)) (seq_at c h e) (numbers h e)

-- a number that a sequencer told is among them
abbrev pub NumbersTold : Type 0
NumbersTold =
    (c : Config) (h : List Turn) → IsRun c h → (e : ℕ) (to : NodeId) (n : Number) → Told h (node.Sequencer e) to (tell.Seq (told n))
    → (proxy : ℕ) × Contains (numbers h e) (numbering_of proxy n)
