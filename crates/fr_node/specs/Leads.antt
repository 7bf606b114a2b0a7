-- What it means that entries lead from one state to another.
use Rattle.std.specs.Prelude.{◌≡◌, ◌⊎◌, List, [], ◌∷◌}
use Rattle.fr_audit_journal.specs.declared.act.Act.{Act}
use Rattle.fr_audit_journal.specs.declared.act.Act.TheVariants as act
use Rattle.fr_audit_journal.specs.declared.act.Entry.{Entry}

-- each act is a step of the node, from the state that the one before left
abbrev pub LeadsTo : {S : Type 0} → (S → Act → S → Type 0) → S → List Entry → S → Type 0
LeadsTo Step s [] t = t ≡ s
LeadsTo {S = S} Step s (e ∷ es) t = (u : S) × (Step s e.act u × LeadsTo Step u es t)

-- the same of a node that may have been started again: its first two entries may be what its process before took of a hear, and that it crashed
abbrev pub LeadsOn : {S : Type 0} → (S → Act → S → Type 0) → S → List Entry → S → Type 0
LeadsOn Step s (heard ∷ crash ∷ es) t = LeadsTo Step s (heard ∷ crash ∷ es) t ⊎ ((crash.act ≡ act.Crashed) × LeadsTo Step s es t)
LeadsOn Step s es t = LeadsTo Step s es t

-- some entries are that a node crashed, with at most one before it
abbrev pub EndsInCrash : List Entry → Type 0
EndsInCrash (crash ∷ []) = crash.act ≡ act.Crashed
EndsInCrash (heard ∷ crash ∷ []) = crash.act ≡ act.Crashed
EndsInCrash es = ⊥
