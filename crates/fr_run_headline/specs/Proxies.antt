-- What is true of each proxy of an open epoch, and of what it pushed.
use Rattle.std.specs.Prelude.{◌≡◌, ◌<◌, ◌≤◌, ℕ, nat_eq, List, [], Option, None, Some, IfSome, IsTrue, All, Contains}
use Rattle.std.specs.List.{IsDistinct}
use Rattle.fr_base.specs.declared.place.NodeId.{NodeId}
use Rattle.fr_base.specs.declared.place.NodeId.TheVariants as node
use Rattle.fr_mutation.specs.declared.mutation.Mutation.{Mutation}
use Rattle.fr_tags.specs.SplitLaw.{bodies_at}
use Rattle.fr_state.specs.Generations.{LogGeneration}
use Rattle.fr_log.specs.Push.{PushContent}
use Rattle.fr_proxy.specs.declared.number.Number.{Number}
use Rattle.fr_proxy.specs.Proxy.{ProxyState, Open}
use Rattle.fr_proxy.specs.declared.number.Place.{Place}
use Rattle.fr_run.specs.Config.{Config}
use Rattle.fr_run.specs.Turn.{Turn}
use Rattle.fr_run.specs.Nodes.{generation_at}
use Rattle.fr_run_headline.specs.Numbers.{Numbering, numbers, numbering_of}
use Rattle.fr_run_headline.specs.Logs.{IsAt}
use Rattle.fr_run.specs.Batches.{batch_at}
use Rattle.fr_run_headline.specs.Bounds.{HasReached, IsBelow}

-- a proxy is of its epoch and number, and of its epoch's generation
pub record IsOfGeneration (c : Config) (e p : ℕ) (g : LogGeneration) (s : ProxyState) : Type 0 where
  pub epoch : s.epoch ≡ e
  pub number : s.number ≡ p
  pub m : s.m ≡ g.m
  pub k : s.k ≡ g.k
  pub begins : s.begins ≡ c.begins

-- the number of an open batch is among those of the epoch, under the proxy's request, and what the proxy knows is not above the version before it
abbrev pub IsNumberOf : List Turn → ℕ → ℕ → ProxyState → Open → Place → Type 0
IsNumberOf h e p s o at = Contains (numbers h e) (record { proxy = p; request = o.request; prev = at.prev; version = at.version }) × (s.known ≤ at.prev)

-- none holds an open batch before it has its number; then those that are counted have reached it
abbrev pub AreHolders : Config → List Turn → ℕ → ProxyState → Option Place → List ℕ → Type 0
AreHolders c h e s None logs = logs ≡ []
AreHolders c h e s (Some at) logs = All (λ i. (i < s.m) × HasReached c h e i at.version) logs

-- the open batch is the last one that the proxy took, under its last request
pub record IsOpenOf (c : Config) (h : List Turn) (e p : ℕ) (s : ProxyState) (o : Open) : Type 0 where
  pub request : o.request ≡ s.requests
  pub low : 1 ≤ o.request
  pub batch : batch_at h e p o.request ≡ Some o.batch
  pub number : IfSome o.place (IsNumberOf h e p s o)
  pub holders : AreHolders c h e s o.place o.held
  pub distinct : IsDistinct nat_eq o.held

pub record IsProxyOf (c : Config) (h : List Turn) (e p : ℕ) (s : ProxyState) : Type 0 where
  pub over : IsTrue s.over → s.under_way ≡ None
  pub under_way : IfSome s.under_way (IsOpenOf c h e p s)

-- a push of a proxy to a log: the log's part of the batch at a number of its epoch
pub record IsPartOf (c : Config) (h : List Turn) (e p i : ℕ) (q : PushContent) : Type 0 where
  pub generation : LogGeneration
  pub of : generation_at c h e ≡ Some generation
  pub below : i < generation.m
  pub number : Numbering
  pub given : Contains (numbers h e) number
  pub own : number.proxy ≡ p
  pub at : IsAt q number
  pub batch : List Mutation
  pub taken : batch_at h e p number.request ≡ Some batch
  pub bodies : q.bodies ≡ bodies_at c.begins batch generation.m generation.k i

-- a push of a proxy: its log's part of a batch, and what it tells to be known
pub record IsProxyPush (c : Config) (h : List Turn) (x p e i : ℕ) (q : PushContent) : Type 0 where
  pub epoch : e ≡ x
  pub part : IsPartOf c h x p i q
  pub known : IsBelow c h x q.known

-- a number that a sequencer told is of the proxy that it was told to
pub record IsOwnNumber (h : List Turn) (e : ℕ) (to : NodeId) (n : Number) : Type 0 where
  pub proxy : ℕ
  pub addressee : to ≡ node.Proxy e proxy
  pub given : Contains (numbers h e) (numbering_of proxy n)
