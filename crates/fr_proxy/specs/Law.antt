-- What is true of every sequencer and every proxy.
use Rattle.std.specs.Prelude.{◌≡◌, ◌<◌, ◌≤◌, ℕ, List, [], ◌∷◌, None, IsTrue, All}
use Rattle.fr_base.specs.declared.place.NodeId.{NodeId}
use Rattle.fr_base.specs.declared.place.NodeId.TheVariants as node
use Rattle.fr_mutation.specs.declared.mutation.Mutation.{Mutation}
use Rattle.fr_log.specs.declared.ask.LogAsk.{LogAsk}
use Rattle.fr_log.specs.declared.ask.LogAsk.TheVariants as log
use Rattle.fr_ask.specs.declared.sequencer.SeqAsk.{SeqAsk}
use Rattle.fr_ask.specs.declared.sequencer.SeqAsk.TheVariants.{Next}
use Rattle.fr_ask.specs.declared.ask.Ask.{Ask}
use Rattle.fr_ask.specs.declared.ask.Ask.TheVariants as ask
use Rattle.fr_ask.specs.declared.tell.Tell.{Tell}
use Rattle.fr_proxy.specs.Sequencer.{SeqState, next_of}
use Rattle.fr_proxy.specs.Proxy.{ProxyState, submitted, opened, number_ask, after_hear, new_asks}

-- the last version given does not fall
abbrev pub LastRises : Type 0
LastRises = (s : SeqState) (a : SeqAsk) → s.last ≤ (next_of s a).last

-- p is q, or q later on
pub record ProxyGrows (p q : ProxyState) : Type 0 where
  pub epoch : q.epoch ≡ p.epoch
  pub number : q.number ≡ p.number
  pub m : q.m ≡ p.m
  pub k : q.k ≡ p.k
  pub begins : q.begins ≡ p.begins
  pub requests : p.requests ≤ q.requests
  pub over : IsTrue p.over → IsTrue q.over

-- a proxy grows, whatever it hears
abbrev pub HearGrows : Type 0
HearGrows = (p : ProxyState) (from : NodeId) (t : Tell) → ProxyGrows p (after_hear p from t)

-- ---- asks

abbrev pub AccountsForNext : ProxyState → SeqAsk → Type 0
AccountsForNext p (Next proxy request step) = (proxy ≡ p.number) × (1 ≤ request) × (request ≤ p.requests) × (1 ≤ step)

abbrev pub AccountsForLog : ProxyState → ℕ → LogAsk → Type 0
AccountsForLog p i (log.Push q) = (i < p.m) × (q.mark ≡ None)
AccountsForLog p i a = ⊥

-- an ask that the proxy's state accounts for: one for a number, to its sequencer, or a push that is no mark, to a log of its epoch
abbrev pub AccountsFor : ProxyState → NodeId → Ask → Type 0
AccountsFor p (node.Sequencer e) (ask.Seq a) = (e ≡ p.epoch) × AccountsForNext p a
AccountsFor p (node.Log e i) (ask.Log a) = (e ≡ p.epoch) × AccountsForLog p i a
AccountsFor p to a = ⊥

-- what is asked at a batch and at a tell is accounted for
abbrev pub SubmitIsAccounted : Type 0
SubmitIsAccounted =
    (p : ProxyState) (step : ℕ) (batch : List Mutation) → 1 ≤ step → All (λ s. AccountsFor (submitted p step batch) s.0 s.1) (number_ask p (opened p step batch) ∷ [])

abbrev pub NewIsAccounted : Type 0
NewIsAccounted = (p : ProxyState) (from : NodeId) (t : Tell) → All (λ s. AccountsFor (after_hear p from t) s.0 s.1) (new_asks p from t)

-- and stays so
abbrev pub AccountedStays : Type 0
AccountedStays = (p q : ProxyState) (to : NodeId) (a : Ask) → ProxyGrows p q → AccountsFor p to a → AccountsFor q to a

-- a proxy grows at a batch
abbrev pub SubmitGrows : Type 0
SubmitGrows = (p : ProxyState) (step : ℕ) (batch : List Mutation) → ProxyGrows p (submitted p step batch)
