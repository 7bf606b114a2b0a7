-- What is entered of what a node is told.
use Rattle.std.specs.Prelude.{ℕ, ◌≡◌, ◌⊎◌, ◌≤◌, ◌<◌, ◌+◌, ◌^◌, List, [], ◌∷◌, ◌++◌, Option}
use Rattle.fr_base.specs.declared.place.NodeId.{NodeId}
use Rattle.fr_ask.specs.declared.tell.Tell.{Tell}
use Rattle.fr_proxy.specs.declared.outcome.Outcome.{Outcome}
use Rattle.fr_audit_journal.specs.declared.act.Act.TheVariants.{Heard}
use Rattle.fr_audit_journal.specs.declared.act.Entry.{Entry}

-- it is entered that a node was told this, at a stamp above this one
pub record IsEntered (old new : List Entry) (at : ℕ) (from : NodeId) (tell : Tell) : Type 0 where
  pub stamp : ℕ
  pub taken : Option ℕ
  pub outcome : Option Outcome
  pub above : at < stamp
  pub entries : new ≡ old ++ record { stamp = stamp; act = Heard from tell taken outcome } ∷ []

-- it is, above the greatest stamp that its thread has seen; or that is the last one that there is, and nothing is entered
abbrev pub HasHeard : List Entry → List Entry → ℕ → NodeId → Tell → Type 0
HasHeard old new seen from tell = IsEntered old new seen from tell ⊎ ((2 ^ 40 ≤ seen + 1) × (new ≡ old))
