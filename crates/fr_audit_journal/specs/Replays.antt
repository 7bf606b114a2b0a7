-- What it means that a journal replays to a node.
use Rattle.std.specs.Prelude.{Bool, true, false, ◌≡◌, ◌||◌, ⊤, List, [], ◌∷◌, Option, Some, None}
use Rattle.fr_base.specs.declared.place.NodeId.{NodeId}
use Rattle.fr_base.specs.declared.place.NodeId.TheVariants as node
use Rattle.fr_ask.specs.declared.ask.Ask.{Ask}
use Rattle.fr_ask.specs.declared.tell.Tell.{Tell}
use Rattle.fr_audit_journal.specs.declared.act.Act.{Act}
use Rattle.fr_audit_journal.specs.declared.act.Act.TheVariants as act
use Rattle.fr_audit_journal.specs.declared.act.Entry.{Entry}
use Rattle.fr_audit_journal.specs.Journal.{Rise}

-- a machine: its asks among all asks, and what it tells and its state after one
pub record Steps (S A : Type 0) : Type 0 where
  pub wrapped : A → Ask
  pub unwrapped : Ask → Option A
  pub told : S → A → Tell
  pub after : S → A → S

-- the machine whose parts are these
abbrev pub steps : {S A T : Type 0} → (A → Ask) → (Ask → Option A) → (T → Tell) → (S → A → T) → (S → A → S) → Steps S A
steps wrapped unwrapped wrapped_tell told after = record { wrapped = wrapped; unwrapped = unwrapped; told = λ s a. wrapped_tell (told s a); after = after }

-- what an ask is told, if it is one of the machine's
abbrev pub told_at : {S A : Type 0} → Steps S A → S → Option A → Option Tell
told_at m s None = None
told_at m s (Some a) = Some (m.told s a)

-- the state after an ask, if it is one of the machine's
abbrev pub after_at : {S A : Type 0} → Steps S A → S → Option A → S
after_at m s None = s
after_at m s (Some a) = m.after s a

-- the state after an act: only an ask changes it
abbrev pub after_act : {S A : Type 0} → Steps S A → S → Act → S
after_act m s (act.Asked from ask tell) = after_at m s (m.unwrapped ask)
after_act m s a = s

-- an ask was told what the machine tells there; beside asks a node that answers them only crashes, or is lost
abbrev pub IsTold : {S A : Type 0} → Steps S A → S → Act → Type 0
IsTold m s (act.Asked from ask tell) = told_at m s (m.unwrapped ask) ≡ Some tell
IsTold m s act.Crashed = ⊤
IsTold m s act.Lost = ⊤
IsTold m s a = ⊥

-- the state after all entries
abbrev pub state_after : {S A : Type 0} → Steps S A → S → List Entry → S
state_after m s [] = s
state_after m s (e ∷ es) = state_after m (after_act m s e.act) es

-- each ask was told what the machine tells there
abbrev pub TellsAre : {S A : Type 0} → Steps S A → S → List Entry → Type 0
TellsAre m s [] = ⊤
TellsAre m s (e ∷ es) = IsTold m s e.act × TellsAre m (after_act m s e.act) es

-- whether a crash ends a node for good, as it ends a sequencer
abbrev pub ends_by_crash : NodeId → Bool
ends_by_crash (node.Sequencer e) = true
ends_by_crash n = false

-- whether a node is gone after an act, if it was before or was not
abbrev pub gone_after : NodeId → Bool → Act → Bool
gone_after n gone act.Lost = true
gone_after n gone act.Crashed = gone || ends_by_crash n
gone_after n gone a = gone

-- whether a node is gone after all entries
abbrev pub gone_at_end : NodeId → Bool → List Entry → Bool
gone_at_end n gone [] = gone
gone_at_end n gone (e ∷ es) = gone_at_end n (gone_after n gone e.act) es

-- a node that is gone does nothing more
abbrev pub IsThere : NodeId → Bool → List Entry → Type 0
IsThere n gone [] = ⊤
IsThere n gone (e ∷ es) = (gone ≡ false) × IsThere n (gone_after n gone e.act) es

-- the entries lead from the first state to this one: stamps rise, each ask was told what the machine tells, and nothing was done once gone
pub record Replays {S A : Type 0} (m : Steps S A) (place : NodeId) (first : S) (entries : List Entry) (state : S) : Type 0 where
  pub rise : Rise entries
  pub tells : TellsAre m first entries
  pub there : IsThere place false entries
  pub state_is : state ≡ state_after m first entries
