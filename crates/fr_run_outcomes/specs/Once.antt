-- That a batch which was submitted is committed at most once, and one that was acknowledged exactly once.
use Rattle.std.specs.Prelude.{◌≡◌, ◌⊎◌, ℕ, List, [], ◌∷◌, ◌++◌, slice_get, Some, Contains}
use Rattle.fr_base.specs.declared.place.NodeId.{NodeId}
use Rattle.fr_mutation.specs.declared.mutation.Mutation.{Mutation}
use Rattle.fr_ask.specs.declared.tell.Tell.{Tell}
use Rattle.fr_proxy.specs.Proxy.{Open}
use Rattle.fr_proxy.specs.declared.outcome.Outcome.TheVariants.{Committed}
use Rattle.fr_run.specs.Config.{Config}
use Rattle.fr_run.specs.Turn.{Turn, Sending, ProxyHeard}
use Rattle.fr_run.specs.Nodes.{proxy_at}
use Rattle.fr_run.specs.Run.{IsRun}
use Rattle.fr_run.specs.Batches.{batch_at, IsAcknowledged}
use Rattle.fr_run.specs.States.{IsLatest}
use Rattle.fr_run.specs.StateLaws.{IsConfig}
use Rattle.fr_run_headline.specs.Numbers.{Numbering, numbers}
use Rattle.fr_run_headline.specs.Issued.{Entry, entry_of, committed}

-- ---- requests

-- a number that was given to a request of a proxy of an epoch; the request names a batch that was submitted, the proxy's first, second and so on
pub record IsNumberOf (h : List Turn) (e proxy request : ℕ) (n : Numbering) : Type 0 where
  pub given : Contains (numbers h e) n
  pub by : n.proxy ≡ proxy
  pub asked : n.request ≡ request

-- each request has at most one number, whatever was asked how often
abbrev pub RequestHasOneNumber : Type 0
RequestHasOneNumber = (c : Config) (h : List Turn) → IsRun c h → (e proxy request : ℕ) (n m : Numbering) → IsNumberOf h e proxy request n → IsNumberOf h e proxy request m → n ≡ m

-- an entry is that of a request: its version is the request's number, and its batch the one that the proxy took
pub record IsEntryOf (h : List Turn) (e proxy request : ℕ) (x : Entry) : Type 0 where
  pub number : Numbering
  pub of : IsNumberOf h e proxy request number
  pub is : entry_of h e number ≡ x

-- two places of the committed list do not have the same request: at most one place has it, so at most one version
abbrev pub CommittedAtMostOnce : Type 0
CommittedAtMostOnce =
    (c : Config) (h : List Turn) → IsConfig c → IsRun c h → (latest : ℕ) → IsLatest c h latest → (e proxy request : ℕ) (i j : ℕ) (x y : Entry)
    → slice_get (committed c h latest) i ≡ Some x → slice_get (committed c h latest) j ≡ Some y → IsEntryOf h e proxy request x → IsEntryOf h e proxy request y → i ≡ j

-- an entry with a batch is that of a request, which took this batch
pub record IsOfRequest (h : List Turn) (x : Entry) (batch : List Mutation) : Type 0 where
  pub proxy : ℕ
  pub request : ℕ
  pub entry : IsEntryOf h x.origin proxy request x
  pub taken : batch_at h x.origin proxy request ≡ Some batch

-- so each batch of the committed list was submitted
abbrev pub CommittedWasSubmitted : Type 0
CommittedWasSubmitted =
    (c : Config) (h : List Turn) → IsConfig c → IsRun c h → (latest : ℕ) → IsLatest c h latest → (x : Entry) (batch : List Mutation) → Contains (committed c h latest) x → x.batch ≡ Some batch
    → IsOfRequest h x batch

-- ---- acknowledgements

-- a turn answers a request of a proxy: its batch under way is committed at this version
pub record Answers (c : Config) (before : List Turn) (t : Turn) (e proxy request version : ℕ) : Type 0 where
  pub from : NodeId
  pub heard : Tell
  pub asks : List Sending
  pub is : t ≡ ProxyHeard e proxy from heard (Committed version) asks
  pub open_batch : Open
  pub under_way : (proxy_at c before e proxy).under_way ≡ Some open_batch
  pub request_is : open_batch.request ≡ request

-- a request was answered so
abbrev pub IsAnswered : Config → List Turn → ℕ → ℕ → ℕ → ℕ → Type 0
IsAnswered c [] e proxy request version = ⊥
IsAnswered c (t ∷ h) e proxy request version = Answers c h t e proxy request version ⊎ IsAnswered c h e proxy request version

-- each version that was acknowledged was so to a request
abbrev pub AcknowledgedIsAnswered : Type 0
AcknowledgedIsAnswered =
    (c : Config) (h : List Turn) → IsRun c h → (e version : ℕ) → IsAcknowledged h e version → (proxy : ℕ) × (request : ℕ) × IsAnswered c h e proxy request version

-- a request is at exactly one place of a list, at a version
pub record StandsOnce (h : List Turn) (e proxy request version : ℕ) (list : List Entry) : Type 0 where
  pub place : ℕ
  pub entry : Entry
  pub at : slice_get list place ≡ Some entry
  pub of : IsEntryOf h e proxy request entry
  pub version_is : entry.version ≡ version
  pub only : (i : ℕ) (x : Entry) → slice_get list i ≡ Some x → IsEntryOf h e proxy request x → i ≡ place

-- a request that was answered to be committed is exactly once in the committed list, then and at each later moment,
-- at the version that was answered
abbrev pub AnsweredExactlyOnce : Type 0
AnsweredExactlyOnce =
    (c : Config) (h more : List Turn) → IsConfig c → IsRun c (more ++ h) → (e proxy request version : ℕ) → IsAnswered c h e proxy request version
    → (latest : ℕ) → IsLatest c (more ++ h) latest → StandsOnce (more ++ h) e proxy request version (committed c (more ++ h) latest)
