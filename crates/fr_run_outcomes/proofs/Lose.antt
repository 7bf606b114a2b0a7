-- A log that is gone is among the lost ones.
use Rattle.std.proofs.Common.{◌≡◌, ℕ, Bool, true, false, cond, ◌==◌, List, [], ◌∷◌, ◌++◌, inl, inr, ◌⊎◌, refl, sym, ◌∙◌, ap, subst}
use Rattle.std.specs.List.{All, Contains}
use Rattle.std.proofs.lemmas.Bool.{eq-eqb, eqb-true}
use Rattle.fr_base.specs.declared.place.NodeId.{NodeId}
use Rattle.fr_base.specs.declared.place.NodeId.TheVariants as node
use Rattle.fr_tags.specs.Placement.{is_among}
use Rattle.fr_run.specs.Turn.{Turn, Begun, CellTurn, LogTurn, SeqTurn, Submitted, ProxyHeard, RecHeard, StorageHeard, Gone, Crashed}
use Rattle.fr_run.proofs.Cells.{Contains-here, Contains-later, Contains-none, Contains-cases}
use Rattle.fr_run.specs.Config.{Config}
use Rattle.fr_run_headline.specs.Retrievable.{lost_with, lost_after, lost_logs}
use Rattle.fr_run_outcomes.specs.Going.{GoesOn}
use Rattle.std.proofs.lemmas.List.Elements.{All-head, All-tail}
use Rattle.fr_run_outcomes.proofs.Counts.{among-from_Contains}
use Rattle.fr_run_outcomes.proofs.Going.{LosesNothing, loses_none}

lost_stays : (who : NodeId) (e : ℕ) (logs : List ℕ) (i : ℕ) → Contains logs i → Contains (lost_with who e logs) i
lost_stays (node.Cell j) e logs i k = k
lost_stays (node.Log x j) e logs i k = go (x == e)
  where
    go : (b : Bool) → Contains (cond b (j ∷ logs) logs) i
    go true = Contains-later j logs i k
    go false = k
lost_stays (node.Sequencer x) e logs i k = k
lost_stays (node.Proxy x p) e logs i k = k
lost_stays (node.Recoverer b) e logs i k = k
lost_stays (node.Storage t) e logs i k = k

lost_on : (t : Turn) (e : ℕ) (logs : List ℕ) (i : ℕ) → Contains logs i → Contains (lost_after t e logs) i
lost_on (Begun b shape asks) e logs i k = k
lost_on (CellTurn from j a u) e logs i k = k
lost_on (LogTurn from x j a u) e logs i k = k
lost_on (SeqTurn from x a u) e logs i k = k
lost_on (Submitted x p n batch asks) e logs i k = k
lost_on (ProxyHeard x p from u outcome asks) e logs i k = k
lost_on (RecHeard b from u asks) e logs i k = k
lost_on (StorageHeard y from u taken fault) e logs i k = k
lost_on (Gone who) e logs i k = lost_stays who e logs i k
lost_on (Crashed who) e logs i k = k

gone_is_lost : (h : List Turn) (e i : ℕ) → Contains h (Gone (node.Log e i)) → Contains (lost_logs h e) i
gone_is_lost [] e i k = absurd (Contains-none k)
gone_is_lost (t ∷ h) e i k = elim (Contains-cases t h (Gone (node.Log e i)) k) [
  | inl now ↦ subst (λ u. Contains (lost_after u e (lost_logs h e)) i) (sym now) (subst (λ b. Contains (cond b (i ∷ lost_logs h e) (lost_logs h e)) i) (sym (eq-eqb e e refl)) (Contains-here i (lost_logs h e)))
  | inr before ↦ lost_on t e (lost_logs h e) i (gone_is_lost h e i before)
]

pub lost_is_among : (h : List Turn) (e i : ℕ) → Contains h (Gone (node.Log e i)) → is_among (lost_logs h e) i ≡ true
lost_is_among h e i k = among-from_Contains (lost_logs h e) i (gone_is_lost h e i k)

-- and the lost ones are gone
of_with : (who : NodeId) (e : ℕ) (logs : List ℕ) (i : ℕ) → Contains (lost_with who e logs) i → (who ≡ node.Log e i) ⊎ Contains logs i
of_with (node.Cell j) e logs i k = inr k
of_with (node.Log x j) e logs i k = go (x == e) refl k
  where
    go : (b : Bool) → (x == e) ≡ b → Contains (cond b (j ∷ logs) logs) i → (node.Log x j ≡ node.Log e i) ⊎ Contains logs i
    go true same k = elim (Contains-cases j logs i k) [ inl is ↦ inl (ap (λ y. node.Log y j) (eqb-true x e same) ∙ ap (node.Log e) is) | inr rest ↦ inr rest ]
    go false other k = inr k
of_with (node.Sequencer x) e logs i k = inr k
of_with (node.Proxy x p) e logs i k = inr k
of_with (node.Recoverer b) e logs i k = inr k
of_with (node.Storage t) e logs i k = inr k

of_after : (t : Turn) (e : ℕ) (logs : List ℕ) (i : ℕ) → Contains (lost_after t e logs) i → (t ≡ Gone (node.Log e i)) ⊎ Contains logs i
of_after (Begun b shape asks) e logs i k = inr k
of_after (CellTurn from j a u) e logs i k = inr k
of_after (LogTurn from x j a u) e logs i k = inr k
of_after (SeqTurn from x a u) e logs i k = inr k
of_after (Submitted x p n batch asks) e logs i k = inr k
of_after (ProxyHeard x p from u outcome asks) e logs i k = inr k
of_after (RecHeard b from u asks) e logs i k = inr k
of_after (StorageHeard y from u taken fault) e logs i k = inr k
of_after (Gone who) e logs i k = elim (of_with who e logs i k) [ inl is ↦ inl (ap Gone is) | inr rest ↦ inr rest ]
of_after (Crashed who) e logs i k = inr k

pub gone_of_lost : (h : List Turn) (e i : ℕ) → Contains (lost_logs h e) i → Contains h (Gone (node.Log e i))
gone_of_lost [] e i k = absurd (Contains-none k)
gone_of_lost (t ∷ h) e i k = elim (of_after t e (lost_logs h e) i k) [
  | inl now ↦ subst (λ u. Contains (u ∷ h) (Gone (node.Log e i))) (sym now) (Contains-here (Gone (node.Log e i)) h)
  | inr before ↦ Contains-later t h (Gone (node.Log e i)) (gone_of_lost h e i before)
]

-- so none is lost of an epoch of which none is gone
pub none_lost : (h : List Turn) (e : ℕ) → ((i : ℕ) → Contains h (Gone (node.Log e i)) → ⊥) → lost_logs h e ≡ []
none_lost h e never = go (lost_logs h e) refl
  where
    go : (xs : List ℕ) → lost_logs h e ≡ xs → xs ≡ []
    go [] is = refl
    go (x ∷ xs) is = absurd (never x (gone_of_lost h e x (subst (λ ys. Contains ys x) (sym is) (Contains-here x xs))))

-- where nothing is lost the lost ones stay
same_with : (t : Turn) (e : ℕ) (logs : List ℕ) → LosesNothing t → lost_after t e logs ≡ logs
same_with (Begun b shape asks) e logs k = refl
same_with (CellTurn from j a u) e logs k = refl
same_with (LogTurn from x j a u) e logs k = refl
same_with (SeqTurn from x a u) e logs k = refl
same_with (Submitted x p n batch asks) e logs k = refl
same_with (ProxyHeard x p from u outcome asks) e logs k = refl
same_with (RecHeard b from u asks) e logs k = refl
same_with (StorageHeard y from u taken fault) e logs k = refl
same_with (Gone who) e logs k = absurd (k who refl)
same_with (Crashed who) e logs k = refl

same_lost : (more h : List Turn) (e : ℕ) → All LosesNothing more → lost_logs (more ++ h) e ≡ lost_logs h e
same_lost [] h e lossless = refl
same_lost (t ∷ more) h e lossless = same_with t e (lost_logs (more ++ h) e) (All-head LosesNothing t more lossless) ∙ same_lost more h e (All-tail LosesNothing t more lossless)

pub still_lost : (c : Config) (b : ℕ) (h later : List Turn) → GoesOn c b h later → (e : ℕ) → lost_logs later e ≡ lost_logs h e
still_lost c b h later k e = ap (λ l. lost_logs l e) (sym k.is) ∙ same_lost k.more h e (loses_none b k.more k.own)
