-- What is true of every run: of proxies and their pushes, of what is known and acknowledged, and of what the next epoch takes over.
use Rattle.std.specs.Prelude.{◌≡◌, ◌<◌, ◌≤◌, ℕ, true, List, ◌∷◌, ◌++◌, Some, IsSome, Contains}
use Rattle.fr_base.specs.declared.place.NodeId.{NodeId}
use Rattle.fr_base.specs.declared.place.NodeId.TheVariants as node
use Rattle.fr_state.specs.Generations.{LogGeneration, CoordinatedState}
use Rattle.fr_log.specs.Push.{PushContent}
use Rattle.fr_log.specs.LogState.{durable_of, known_of}
use Rattle.fr_log.specs.declared.ask.LogAsk.TheVariants.{Push}
use Rattle.fr_log.specs.declared.ask.LogTell.TheVariants.{Held, Marked, Seeded}
use Rattle.fr_ask.specs.declared.ask.Ask.TheVariants as ask
use Rattle.fr_ask.specs.declared.tell.Tell.TheVariants as tell
use Rattle.fr_proxy.specs.Sequencer.{told}
use Rattle.fr_proxy.specs.declared.number.Number.{Number}
use Rattle.fr_epoch.specs.EndTally.{is_covered, pev_of, rv_of}
use Rattle.fr_epoch.specs.Recoverer.{RecState, Parent, Plan}
use Rattle.fr_run_headline.specs.LogLaws.{tally}
use Rattle.fr_run.specs.Config.{Config}
use Rattle.fr_run.specs.States.{line_of}
use Rattle.fr_run.specs.StateLaws.{IsConfig}
use Rattle.fr_run.specs.Turn.{Turn, Sent, Told}
use Rattle.fr_run.specs.Nodes.{rec_at, is_open, logs_at, log_at, seq_at, proxy_at}
use Rattle.fr_run_headline.specs.Numbers.{numbers, IsCounted}
use Rattle.fr_run.specs.Run.{IsRun}
use Rattle.fr_run.specs.Batches.{IsAcknowledged}
use Rattle.fr_run_headline.specs.Bounds.{HasPushAt, IsSeededLog, IsMarkOf, IsBelow, IsSafe, IsLine}
use Rattle.fr_run_headline.specs.Proxies.{IsProxyOf, IsProxyPush, IsOwnNumber}

-- ---- proxies

-- a number that a sequencer told is of the proxy that it was told to
abbrev pub NumbersAreOwn : Type 0
NumbersAreOwn = (c : Config) (h : List Turn) → IsRun c h → (e : ℕ) (to : NodeId) (n : Number) → Told h (node.Sequencer e) to (tell.Seq (told n)) → IsOwnNumber h e to n

-- the open batch of each proxy is its last one, at a number of its own, and its holders hold it
abbrev pub ProxiesAreSound : Type 0
ProxiesAreSound = (c : Config) (h : List Turn) → IsRun c h → (e p : ℕ) → is_open c h e ≡ true → IsProxyOf c h e p (proxy_at c h e p)

-- each push that a proxy sent is its log's part of a batch at a number of its own
abbrev pub ProxyPushesAreParts : Type 0
ProxyPushesAreParts = (c : Config) (h : List Turn) → IsRun c h → (x p e i : ℕ) (q : PushContent) → Sent h (node.Proxy x p) (node.Log e i) (ask.Log (Push q)) → IsProxyPush c h x p e i q

-- ---- logs

-- a log has a push at each version that it told to hold
abbrev pub HeldIsThere : Type 0
HeldIsThere = (c : Config) (h : List Turn) → IsRun c h → (e i : ℕ) (to : NodeId) (v : ℕ) → Told h (node.Log e i) to (tell.Log (Held v)) → HasPushAt c h e i v

-- a log that told to be seeded is seeded
abbrev pub SeededIsSeeded : Type 0
SeededIsSeeded = (c : Config) (h : List Turn) → IsRun c h → (e i : ℕ) (to : NodeId) → Told h (node.Log e i) to (tell.Log Seeded) → IsSeededLog c h e i

-- a state that a log told as its mark is that of its epoch, which is open
abbrev pub MarkedIsState : Type 0
MarkedIsState = (c : Config) (h : List Turn) → IsRun c h → (e i : ℕ) (to : NodeId) (x : CoordinatedState) → Told h (node.Log e i) to (tell.Log (Marked x)) → IsMarkOf c h e x

-- ---- bounds

-- what is acknowledged is a number of its epoch, and each log of the epoch has reached it
abbrev pub AcknowledgedIsSafe : Type 0
AcknowledgedIsSafe = (c : Config) (h : List Turn) → IsRun c h → (e v : ℕ) → IsAcknowledged h e v → IsSafe c h e v

-- what a proxy knows, what a push tells to be known, and what a log knows, is below the epoch's first version or reached by each of its logs
abbrev pub ProxyKnownIsBelow : Type 0
ProxyKnownIsBelow = (c : Config) (h : List Turn) → IsRun c h → (e p : ℕ) → is_open c h e ≡ true → IsBelow c h e (proxy_at c h e p).known

abbrev pub PushKnownIsBelow : Type 0
PushKnownIsBelow = (c : Config) (h : List Turn) → IsRun c h → (from : NodeId) (e i : ℕ) (q : PushContent) → Sent h from (node.Log e i) (ask.Log (Push q)) → IsBelow c h e q.known

abbrev pub LogKnownIsBelow : Type 0
LogKnownIsBelow = (c : Config) (h : List Turn) → IsRun c h → (e i : ℕ) → i < logs_at c h e → IsBelow c h e (known_of (log_at c h e i))

-- ---- the order of versions

-- what a log of an epoch knows is not above what any seeded log of it holds
abbrev pub KnownIsDurable : Type 0
KnownIsDurable =
    (c : Config) (h : List Turn) → IsRun c h → (e i j : ℕ) → i < logs_at c h e → j < logs_at c h e → IsSome (log_at c h e j).seed → known_of (log_at c h e i) ≤ durable_of (log_at c h e j)

-- replies that cover agree: the greatest known is not above the least durable
abbrev pub RepliesAgree : Type 0
RepliesAgree = (c : Config) (h : List Turn) → IsRun c h → (b : ℕ) (r : RecState) → rec_at c h b ≡ Some r → is_covered (tally r) ≡ true → pev_of (tally r) ≤ rv_of (tally r)

-- what is below in the parent's epoch is not above what a plan is seeded to; so is what was acknowledged there
abbrev pub BelowIsTakenOver : Type 0
BelowIsTakenOver =
    (c : Config) (h : List Turn) → IsRun c h → (b : ℕ) (r : RecState) (p : Parent) (q : Plan) → rec_at c h b ≡ Some r → r.parent ≡ Some p → r.plan ≡ Some q → (v : ℕ) → IsBelow c h p.last.epoch v
    → v ≤ q.generation.seeded_to

abbrev pub AcknowledgedIsTakenOver : Type 0
AcknowledgedIsTakenOver =
    (c : Config) (h : List Turn) → IsRun c h → (b : ℕ) (r : RecState) (p : Parent) (q : Plan) → rec_at c h b ≡ Some r → r.parent ≡ Some p → r.plan ≡ Some q → (v : ℕ) → IsAcknowledged h p.last.epoch v
    → v ≤ q.generation.seeded_to

-- along the line of a ballot that has a plan each generation is its own ballot's, and takes over what is below in those before it
abbrev pub PlansAreLines : Type 0
PlansAreLines = (c : Config) (h : List Turn) → IsConfig c → IsRun c h → (b : ℕ) (r : RecState) (q : Plan) → rec_at c h b ≡ Some r → r.plan ≡ Some q → IsLine c h (line_of c h b)

-- what a later generation was seeded to is not below a version, nor is what its seeded logs hold
abbrev pub IsHeldIn : Config → List Turn → LogGeneration → ℕ → Type 0
IsHeldIn c h n v = (v ≤ n.seeded_to) × ((i : ℕ) → i < logs_at c h n.epoch → IsSome (log_at c h n.epoch i).seed → v ≤ durable_of (log_at c h n.epoch i))

-- what is below in a generation of the line of a ballot that has a plan is held in each later one; so is what was acknowledged there
abbrev pub BelowIsHeldLater : Type 0
BelowIsHeldLater =
    (c : Config) (h : List Turn) → IsConfig c → IsRun c h → (b : ℕ) (r : RecState) (q : Plan) → rec_at c h b ≡ Some r → r.plan ≡ Some q
    → (front : List LogGeneration) (g n : LogGeneration) (rest : List LogGeneration) → line_of c h b ≡ front ++ g ∷ rest → Contains rest n → (v : ℕ) → IsBelow c h g.epoch v → IsHeldIn c h n v

abbrev pub AcknowledgedIsHeldLater : Type 0
AcknowledgedIsHeldLater =
    (c : Config) (h : List Turn) → IsConfig c → IsRun c h → (b : ℕ) (r : RecState) (q : Plan) → rec_at c h b ≡ Some r → r.plan ≡ Some q
    → (front : List LogGeneration) (g n : LogGeneration) (rest : List LogGeneration) → line_of c h b ≡ front ++ g ∷ rest → Contains rest n → (v : ℕ) → IsAcknowledged h g.epoch v → IsHeldIn c h n v

-- the requests of each proxy's numbers count from 1
abbrev pub NumbersAreCounted : Type 0
NumbersAreCounted = (c : Config) (h : List Turn) → IsRun c h → (e : ℕ) → is_open c h e ≡ true → IsCounted (seq_at c h e) (numbers h e)
