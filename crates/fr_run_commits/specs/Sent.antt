-- What a proxy waits for was told to it, or asked by it.
use Rattle.std.specs.Prelude.{◌≡◌, ◌<◌, ℕ, true, List, Some, Contains}
use Rattle.fr_base.specs.declared.place.NodeId.TheVariants as node
use Rattle.fr_log.specs.declared.ask.LogAsk.TheVariants.{Push}
use Rattle.fr_ask.specs.declared.ask.Ask.TheVariants as ask
use Rattle.fr_ask.specs.declared.sequencer.SeqTell.TheVariants.{Numbered}
use Rattle.fr_ask.specs.declared.tell.Tell.TheVariants as tell
use Rattle.fr_proxy.specs.declared.number.Place.{Place}
use Rattle.fr_proxy.specs.Proxy.{Open, push_of}
use Rattle.fr_run.specs.Config.{Config}
use Rattle.fr_run.specs.Nodes.{is_open, proxy_at}
use Rattle.fr_run.specs.Run.{IsRun}
use Rattle.fr_run.specs.Turn.{Turn, Sent, Told}
use Rattle.fr_run_headline.specs.Numbers.{Numbering, numbers}

-- each number that a sequencer gave it told to its proxy
abbrev pub NumberIsTold : Type 0
NumberIsTold =
    (c : Config) (h : List Turn) → IsRun c h → (e : ℕ) (n : Numbering) → Contains (numbers h e) n → Told h (node.Sequencer e) (node.Proxy e n.proxy) (tell.Seq (Numbered n.request n.prev n.version))

-- a proxy whose batch has its number sent the push to each log
abbrev pub PlacedIsPushed : Type 0
PlacedIsPushed =
    (c : Config) (h : List Turn) → IsRun c h → (e p : ℕ) → is_open c h e ≡ true → (o : Open) (at : Place) → (proxy_at c h e p).under_way ≡ Some o → o.place ≡ Some at → (i : ℕ) → i < (proxy_at c h e p).m
    → Sent h (node.Proxy e p) (node.Log e i) (ask.Log (Push (push_of (proxy_at c h e p) o at i)))
