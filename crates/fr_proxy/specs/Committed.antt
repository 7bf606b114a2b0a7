-- When a batch is committed, said of the whole list of tells that a proxy heard since it took the batch.
use Rattle.std.specs.Prelude.{◌≡◌, ◌↔◌, ℕ, ◌+◌, ◌<◌, ◌⊎◌, List, [], ◌∷◌, ◌++◌, None}
use Rattle.fr_base.specs.declared.place.NodeId.{NodeId}
use Rattle.fr_base.specs.declared.place.NodeId.TheVariants as node
use Rattle.fr_mutation.specs.declared.mutation.Mutation.{Mutation}
use Rattle.fr_log.specs.declared.ask.LogTell.TheVariants as log
use Rattle.fr_ask.specs.declared.sequencer.SeqTell.TheVariants as seq
use Rattle.fr_ask.specs.declared.tell.Tell.{Tell}
use Rattle.fr_ask.specs.declared.tell.Tell.TheVariants as tell
use Rattle.fr_proxy.specs.declared.outcome.Outcome.{Outcome}
use Rattle.fr_proxy.specs.declared.outcome.Outcome.TheVariants.{Waiting, Committed, Ended}
use Rattle.fr_proxy.specs.Proxy.{ProxyState, Open, Place, submit_fault, submitted, after_hear, outcome_of, new_asks}
use Rattle.fr_proxy.specs.Heard.{IsEnding, IsNewHolder}
use Rattle.fr_proxy.specs.IsProxy.{IsPlace, IsProxy}

-- a tell, with the node that gave it
abbrev pub Word : Type 0
Word = NodeId × Tell

-- the proxy after it heard these, the oldest first
abbrev pub after_all : ProxyState → List Word → ProxyState
after_all p [] = p
after_all p (w ∷ ws) = after_all (after_hear p w.0 w.1) ws

abbrev pub WasHeard : List Word → Word → Type 0
WasHeard [] w = ⊥
WasHeard (x ∷ xs) w = (x ≡ w) ⊎ WasHeard xs w

-- the sequencer of the proxy's generation tells that a request of it has this place
abbrev pub number_word : ProxyState → ℕ → Place → Word
number_word p request at = (node.Sequencer p.epoch, tell.Seq (seq.Numbered request at.prev at.version))

-- a log of the proxy's generation tells that it holds a version
abbrev pub held_word : ProxyState → ℕ → ℕ → Word
held_word p version i = (node.Log p.epoch i, tell.Log (log.Held version))

-- each of the m logs of the generation told so
abbrev pub AllHold : ProxyState → ℕ → List Word → Type 0
AllHold p version ws = (i : ℕ) → i < p.m → WasHeard ws (held_word p version i)

-- among these words a request was given its place, after some and before others: by the first word that gives it one from which a
-- push can be made
pub record IsNumbered (p : ProxyState) (request : ℕ) (at : Place) (before since ws : List Word) : Type 0 where
  pub heard : ws ≡ before ++ number_word p request at ∷ since
  pub place : IsPlace p.known at
  pub first : (other : Place) → IsPlace p.known other → WasHeard before (number_word p request other) → ⊥

-- a version is committed at the last word: it is the batch's, and each log of the generation told, since the batch has
-- its number, that it holds it. Not all of them had told so before the last word, and no word before ended the batch
pub record IsHeldByAllNow (p : ProxyState) (request : ℕ) (ws : List Word) (w : Word) (version : ℕ) : Type 0 where
  pub at : Place
  pub before : List Word
  pub since : List Word
  pub numbered : IsNumbered p request at before since ws
  pub own : version ≡ at.version
  pub all : AllHold p at.version (since ++ w ∷ [])
  pub not_before : AllHold p at.version since → ⊥
  pub going : (x : Word) → WasHeard ws x → IsEnding p x.0 x.1 → ⊥

-- committed is said at that word, and at no other
abbrev pub CommittedExactlyWhenHeldByAll : Type 0
CommittedExactlyWhenHeldByAll =
    (p : ProxyState) (step : ℕ) (batch : List Mutation) (ws : List Word) (w : Word) (version : ℕ) → IsProxy p → submit_fault p ≡ None →
    (outcome_of (after_all (submitted p step batch) ws) w.0 w.1 ≡ Committed version) ↔ IsHeldByAllNow p (p.requests + 1) ws w version

-- a Held that is not the first of the open version from a log of the generation changes nothing
abbrev pub OtherHeldCountsNothing : Type 0
OtherHeldCountsNothing =
    (p : ProxyState) (from : NodeId) (version : ℕ) → ((o : Open) (at : Place) (i : ℕ) → IsNewHolder p o at i from (tell.Log (log.Held version)) → ⊥) →
    (after_hear p from (tell.Log (log.Held version)) ≡ p) × (outcome_of p from (tell.Log (log.Held version)) ≡ Waiting) × (new_asks p from (tell.Log (log.Held version)) ≡ [])

abbrev pub known_after : ℕ → Outcome → ℕ
known_after known Waiting = known
known_after known (Committed version) = version
known_after known Ended = known

-- what a proxy knows to be committed is the last version that it committed
abbrev pub KnownIsLastCommitted : Type 0
KnownIsLastCommitted = (p : ProxyState) (from : NodeId) (t : Tell) → (after_hear p from t).known ≡ known_after p.known (outcome_of p from t)
