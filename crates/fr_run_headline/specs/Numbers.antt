-- The numbers that an epoch's sequencer gave.
use Rattle.std.specs.Prelude.{◌≡◌, ◌<◌, ◌+◌, ℕ, Bool, true, nat_lt, ◌==◌, List, [], ◌∷◌, Contains, IfSome, if◌then◌else◌}
use Rattle.std.specs.FinMap.{get}
use Rattle.fr_ask.specs.declared.sequencer.SeqAsk.{SeqAsk}
use Rattle.fr_ask.specs.declared.sequencer.SeqAsk.TheVariants.{Next}
use Rattle.fr_ask.specs.declared.sequencer.SeqTell.{SeqTell}
use Rattle.fr_ask.specs.declared.sequencer.SeqTell.TheVariants.{Numbered, Refused}
use Rattle.fr_proxy.specs.Sequencer.{SeqState, last_request}
use Rattle.fr_proxy.specs.declared.number.Number.{Number}
use Rattle.fr_run.specs.Config.{Config}
use Rattle.fr_run.specs.Turn.{Turn, Begun, CellTurn, LogTurn, SeqTurn, Submitted, ProxyHeard, RecHeard, StorageHeard, Gone, Crashed}
use Rattle.fr_run.specs.Nodes.{generation_at, mark_version}

-- the version that a proxy's request got, and the version before it
pub record Numbering : Type 0 where
  pub proxy : ℕ
  pub request : ℕ
  pub prev : ℕ
  pub version : ℕ

-- whether a version is above those given
abbrev pub is_above : ℕ → List Numbering → Bool
is_above version [] = true
is_above version (n ∷ ns) = nat_lt n.version version

-- a tell that gives a version for the first time is a numbering
abbrev pub with_number : ℕ → SeqTell → List Numbering → List Numbering
with_number proxy (Numbered request prev version) ns =
    if is_above version ns then record { proxy = proxy; request = request; prev = prev; version = version } ∷ ns else ns
with_number proxy (Refused why) ns = ns

abbrev pub with_tell : SeqAsk → SeqTell → List Numbering → List Numbering
with_tell (Next proxy request step) t ns = with_number proxy t ns

abbrev pub numbers_after : Turn → ℕ → List Numbering → List Numbering
numbers_after (Begun b shape asks) epoch ns = ns
numbers_after (CellTurn from i a t) epoch ns = ns
numbers_after (LogTurn from e i a t) epoch ns = ns
numbers_after (SeqTurn from e a t) epoch ns = if e == epoch then with_tell a t ns else ns
numbers_after (Submitted e p step batch asks) epoch ns = ns
numbers_after (ProxyHeard e p from t outcome asks) epoch ns = ns
numbers_after (RecHeard b from t asks) epoch ns = ns
numbers_after (StorageHeard tag from t taken fault) epoch ns = ns
numbers_after (Gone who) epoch ns = ns
numbers_after (Crashed who) epoch ns = ns

-- the numbers of an epoch, the newest first
abbrev pub numbers : List Turn → ℕ → List Numbering
numbers [] epoch = []
numbers (t ∷ h) epoch = numbers_after t epoch (numbers h epoch)

-- the last version of an epoch: that of its last number, or of its mark
abbrev pub top_of : ℕ → List Numbering → ℕ
top_of base [] = base
top_of base (n ∷ ns) = n.version

abbrev pub top_at : Config → List Turn → ℕ → ℕ
top_at c h e = top_of (mark_version (generation_at c h e)) (numbers h e)

-- each number follows the one before it, and the first one the mark
abbrev pub AreChained : ℕ → List Numbering → Type 0
AreChained base [] = Unit {0}
AreChained base (n ∷ ns) = (n.prev ≡ top_of base ns) × (n.prev < n.version) × AreChained base ns

-- a proxy's number as a numbering
abbrev pub numbering_of : ℕ → Number → Numbering
numbering_of proxy n = record { proxy = proxy; request = n.request; prev = n.prev; version = n.version }

-- a sequencer against the numbers that it gave: they are a chain, its last version is the last one, and what it gave a proxy is among them
pub record IsNumbered (base : ℕ) (s : SeqState) (ns : List Numbering) : Type 0 where
  pub chain : AreChained base ns
  pub last : s.last ≡ top_of base ns
  pub given : (proxy : ℕ) → IfSome (get s.given proxy) (λ n. Contains ns (numbering_of proxy n))

-- the last request of a proxy that got a number, 0 before the first
abbrev pub requests_in : ℕ → List Numbering → ℕ
requests_in proxy [] = 0
requests_in proxy (n ∷ ns) = if proxy == n.proxy then n.request else requests_in proxy ns

-- each number's request is the one after its proxy's last
abbrev pub AreCounted : List Numbering → Type 0
AreCounted [] = Unit {0}
AreCounted (n ∷ ns) = (n.request ≡ requests_in n.proxy ns + 1) × AreCounted ns

-- a sequencer against the requests of its numbers: they count from 1, and it knows each proxy's last one
pub record IsCounted (s : SeqState) (ns : List Numbering) : Type 0 where
  pub counted : AreCounted ns
  pub last : (proxy : ℕ) → last_request (get s.given proxy) ≡ requests_in proxy ns
