-- Entries that lead from a state to another are one entry longer.
use Rattle.std.proofs.Common.{refl, subst, sym, inl, inr, arith, length}
use Rattle.std.specs.Prelude.{◌≡◌, ◌++◌, List, [], ◌∷◌}
use Rattle.fr_audit_journal.specs.declared.act.Act.{Act}
use Rattle.fr_audit_journal.specs.declared.act.Entry.{Entry}
use Rattle.fr_storage.specs.Storage.{StorageState}
use Rattle.fr_node.specs.Leads.{EndsInCrash, LeadsOn, LeadsTo}
use Rattle.fr_node.specs.Steps.{StorageStep}

leads-append : {S : Type 0} (Step : S → Act → S → Type 0) (s : S) (es : List Entry) (e : Entry) (t u : S)
    → LeadsTo Step s es t → Step t e.act u → LeadsTo Step s (es ++ e ∷ []) u
leads-append Step s [] e t u h r = (u, (subst (λ x. Step x e.act u) h r, refl))
leads-append Step s (x ∷ es) e t u h r = (h.0, (h.1.0, leads-append Step h.0 es e t u h.1.1 r))

-- so it is where the longer list is known by an equation
pub leads-entered : {S : Type 0} (Step : S → Act → S → Type 0) (s : S) (es longer : List Entry) (e : Entry) (t u : S)
    → LeadsTo Step s es t → longer ≡ es ++ e ∷ [] → Step t e.act u → LeadsTo Step s longer u
leads-entered Step s es longer e t u h is r = rw is (leads-append Step s es e t u h r)

-- the same of a node that may have been started again
on-append : {S : Type 0} (Step : S → Act → S → Type 0) (s : S) (es : List Entry) (e : Entry) (t u : S)
    → LeadsOn Step s es t → Step t e.act u → LeadsOn Step s (es ++ e ∷ []) u
on-append Step s [] e t u h r = leads-append Step s [] e t u h r
on-append Step s (x ∷ []) e t u h r = inl (leads-append Step s (x ∷ []) e t u h r)
on-append Step s (x ∷ y ∷ es) e t u (inl h) r = inl (leads-append Step s (x ∷ y ∷ es) e t u h r)
on-append Step s (x ∷ y ∷ es) e t u (inr (c, h)) r = inr (c, leads-append Step s es e t u h r)

pub on-entered : {S : Type 0} (Step : S → Act → S → Type 0) (s : S) (es longer : List Entry) (e : Entry) (t u : S)
    → LeadsOn Step s es t → longer ≡ es ++ e ∷ [] → Step t e.act u → LeadsOn Step s longer u
on-entered Step s es longer e t u h is r = rw is (on-append Step s es e t u h r)

pub none-of : (es : List Entry) → length es ≡ 0 → es ≡ []
none-of [] e = refl
none-of (x ∷ es) e = absurd (omega (arith, e))

-- a storage server that was started again is the one that was found
pub on-begun : (s t : StorageState) (old new : List Entry) → LeadsOn StorageStep s old t → old ≡ [] → EndsInCrash new → LeadsOn StorageStep s new t
on-begun s t old new h none ends = go new ends (subst (λ (es : List Entry). LeadsOn StorageStep s es t) none h)
  where
    go : (new : List Entry) → EndsInCrash new → t ≡ s → LeadsOn StorageStep s new t
    go [] ends same = absurd ends
    go (crash ∷ []) ends same = (s, (subst (λ (a : Act). StorageStep s a s) (sym ends) refl, same))
    go (heard ∷ crash ∷ []) ends same = inr (ends, same)
    go (heard ∷ crash ∷ other ∷ es) ends same = absurd ends
