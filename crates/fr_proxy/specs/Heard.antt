-- What a tell can be to a proxy: a case for each way in which it changes something, with all that is then known.
use Rattle.std.specs.Prelude.{◌≡◌, ◌<◌, ◌≤◌, ℕ, ◌+◌, ◌==◌, false, length, None, Some, All}
use Rattle.fr_base.specs.declared.place.NodeId.{NodeId}
use Rattle.fr_base.specs.declared.place.NodeId.TheVariants as node
use Rattle.fr_log.specs.declared.ask.LogAsk.TheVariants as lask
use Rattle.fr_log.specs.declared.ask.LogTell.TheVariants as ltell
use Rattle.fr_log.specs.declared.ask.LogRefusal.TheVariants as why
use Rattle.fr_log.specs.Push.{PushContent}
use Rattle.fr_ask.specs.declared.ask.Ask.{Ask}
use Rattle.fr_ask.specs.declared.ask.Ask.TheVariants as ask
use Rattle.fr_ask.specs.declared.tell.Tell.{Tell}
use Rattle.fr_ask.specs.declared.tell.Tell.TheVariants as tell
use Rattle.fr_ask.specs.declared.sequencer.SeqTell.TheVariants as stell
use Rattle.fr_ask.specs.declared.sequencer.SeqRefusal.TheVariants as turn
use Rattle.fr_proxy.specs.Proxy.{ProxyState, Open, Place, Heeded, Ignored, Placed, HeldBy, HeldByAll, Cut, is_in, push_of, heeded, new_asks}

-- the proxy's sequencer tells the open batch its number, from which a push can be made
pub record IsNewNumber (p : ProxyState) (o : Open) (at : Place) (from : NodeId) (t : Tell) : Type 0 where
  pub under_way : p.under_way ≡ Some o
  pub unplaced : o.place ≡ None
  pub sender : from ≡ node.Sequencer p.epoch
  pub said : t ≡ tell.Seq (stell.Numbered o.request at.prev at.version)
  pub known : p.known ≤ at.prev
  pub rises : at.prev < at.version
  pub step : at.version ≤ at.prev + 1000000

-- a log of the proxy's epoch that was not known to hold the open batch tells that it does
pub record IsNewHolder (p : ProxyState) (o : Open) (at : Place) (log : ℕ) (from : NodeId) (t : Tell) : Type 0 where
  pub under_way : p.under_way ≡ Some o
  pub given : o.place ≡ Some at
  pub sender : from ≡ node.Log p.epoch log
  pub said : t ≡ tell.Log (ltell.Held at.version)
  pub below : log < p.m
  pub fresh : is_in o.held log ≡ false

-- the proxy's sequencer tells that versions are spent, or a log of its generation that it is stopped, while a batch is under way
pub data IsEnding (p : ProxyState) : NodeId → Tell → Type 0 where
  Spends : IsEnding p (node.Sequencer p.epoch) (tell.Seq (stell.Refused turn.Spent))
  Stops : (log : ℕ) → log < p.m → IsEnding p (node.Log p.epoch log) (tell.Log (ltell.Refused why.Stopped))

pub data Heard (p : ProxyState) (from : NodeId) (t : Tell) : Heeded → Type 0 where
  Ignores : Heard p from t Ignored
  Places : (o : Open) (at : Place) → IsNewNumber p o at from t → Heard p from t (Placed at)
  Holds : (o : Open) (at : Place) (log : ℕ) → IsNewHolder p o at log from t → (length o.held + 1 == p.m) ≡ false → Heard p from t (HeldBy log)
  HoldsAll : (o : Open) (at : Place) (log : ℕ) → IsNewHolder p o at log from t → length o.held + 1 ≡ p.m → Heard p from t (HeldByAll at.version)
  Cuts : (o : Open) → p.under_way ≡ Some o → IsEnding p from t → Heard p from t Cut

-- each tell is one of these
abbrev pub HearIsHeard : Type 0
HearIsHeard = (p : ProxyState) (from : NodeId) (t : Tell) → Heard p from t (heeded p from t)

-- a push to a log of the proxy's epoch, of the open batch at the number that this tell gives it
pub record IsPushOf (p : ProxyState) (from : NodeId) (t : Tell) (e log : ℕ) (q : PushContent) : Type 0 where
  pub open_batch : Open
  pub place : Place
  pub numbered : IsNewNumber p open_batch place from t
  pub epoch : e ≡ p.epoch
  pub below : log < p.m
  pub is : q ≡ push_of p open_batch place log

abbrev pub IsPushTo : ProxyState → NodeId → Tell → NodeId → Ask → Type 0
IsPushTo p from t (node.Log e log) (ask.Log (lask.Push q)) = IsPushOf p from t e log q
IsPushTo p from t to a = ⊥

-- each new ask of a proxy is such a push
abbrev pub NewIsPush : Type 0
NewIsPush = (p : ProxyState) (from : NodeId) (t : Tell) → All (λ s. IsPushTo p from t s.0 s.1) (new_asks p from t)
