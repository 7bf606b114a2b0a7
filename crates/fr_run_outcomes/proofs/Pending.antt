-- Each ask whose answer a recoverer wants was sent, and can be answered and heard.
use Rattle.std.proofs.Common.{◌≡◌, ℕ, Bool, true, false, cond, ◌==◌, List, [], ◌∷◌, Option, None, Some, inl, inr, refl, sym, ap, subst}
use Rattle.std.specs.List.{Contains}
use Rattle.std.specs.Option.{option_map}
use Rattle.std.proofs.lemmas.Bool.{eqb-true}
use Rattle.fr_base.specs.declared.place.NodeId.{NodeId}
use Rattle.fr_base.specs.declared.place.NodeId.TheVariants as node
use Rattle.fr_ask.specs.declared.ask.Ask.{Ask}
use Rattle.fr_epoch.specs.Recoverer.{RecState, new_recoverer}
use Rattle.fr_epoch.specs.Asks.{pending}
use Rattle.fr_epoch.specs.Hear.{after_hear}
use Rattle.fr_run.specs.Config.{Config}
use Rattle.fr_run.specs.Turn.{Turn, Begun, CellTurn, LogTurn, SeqTurn, Submitted, ProxyHeard, RecHeard, StorageHeard, Gone, Crashed, Sent}
use Rattle.fr_run.specs.Nodes.{rec_at}
use Rattle.fr_run.specs.Run.{IsTurn, IsRun}
use Rattle.fr_run.specs.Laws.{Laws}
use Rattle.fr_run.proofs.Growth.{rec_is}
use Rattle.fr_run_outcomes.specs.Pending.{PendingIsSent}
use Rattle.fr_run_outcomes.proofs.Asked.{asked_or_before}

-- all that a recoverer waits for was sent
abbrev AreSent : List Turn → ℕ → Option RecState → Type 0
AreSent h b None = (b ≡ b)
AreSent h b (Some r) = (to : NodeId) (a : Ask) → Contains (pending r) (to, a) → Sent h (node.Recoverer b) to a

later : (h : List Turn) (t : Turn) (b : ℕ) (o : Option RecState) → AreSent h b o → AreSent (t ∷ h) b o
later h t b None k = refl
later h t b (Some r) k = λ to a there. inr (k to a there)

next : Laws → (c : Config) (h : List Turn) (t : Turn) → IsRun c h → IsTurn c h t → (b : ℕ) → AreSent h b (rec_at c h b) → AreSent (t ∷ h) b (rec_at c (t ∷ h) b)
next laws c h (Begun x shape asks) run is b k = go (x == b) refl
  where
    t : Turn
    t = Begun x shape asks

    go : (s : Bool) → (x == b) ≡ s → AreSent (Begun x shape asks ∷ h) b (cond s (Some (new_recoverer x c.cells c.begins shape)) (rec_at c h b))
    go true e = λ to a there. inl (ap node.Recoverer (eqb-true x b e), subst (λ xs. Contains xs (to, a)) (sym is.3) there)
    go false e = later h (Begun x shape asks) b (rec_at c h b) k
next laws c h (CellTurn from i a t) run is b k = later h (CellTurn from i a t) b (rec_at c h b) k
next laws c h (LogTurn from e i a t) run is b k = later h (LogTurn from e i a t) b (rec_at c h b) k
next laws c h (SeqTurn from e a t) run is b k = later h (SeqTurn from e a t) b (rec_at c h b) k
next laws c h (Submitted e p step batch asks) run is b k = later h (Submitted e p step batch asks) b (rec_at c h b) k
next laws c h (ProxyHeard e p from t outcome asks) run is b k = later h (ProxyHeard e p from t outcome asks) b (rec_at c h b) k
next laws c h (RecHeard x from u asks) run is b k = go (x == b) refl
  where
    r : RecState
    r = is.1.0

    heard : x ≡ b → AreSent (RecHeard x from u asks ∷ h) b (Some (after_hear is.1.0 from u))
    heard e to a there =
        let at : rec_at c h b ≡ Some is.1.0 = subst (λ y. rec_at c h y ≡ Some is.1.0) e is.1.1 in
        let come_by = (rec_is laws c h run b is.1.0 at).kept.come_by in
        let before : AreSent h b (Some is.1.0) = subst (AreSent h b) at k in
        elim (asked_or_before laws.rec_change laws.rec_grows is.1.0 from u come_by (to, a) there) [
          | inl was ↦ inr (before to a was)
          | inr now ↦ inl (ap node.Recoverer e, subst (λ xs. Contains xs (to, a)) (sym is.1.2) now)
        ]

    go : (s : Bool) → (x == b) ≡ s → AreSent (RecHeard x from u asks ∷ h) b (cond s (option_map (λ y. after_hear y from u) (rec_at c h b)) (rec_at c h b))
    go true e =
        let same = eqb-true x b e in
        let at : rec_at c h b ≡ Some is.1.0 = subst (λ y. rec_at c h y ≡ Some is.1.0) same is.1.1 in
        subst (λ o. AreSent (RecHeard x from u asks ∷ h) b (option_map (λ y. after_hear y from u) o)) (sym at) (heard same)
    go false e = later h (RecHeard x from u asks) b (rec_at c h b) k
next laws c h (StorageHeard tag from t taken fault) run is b k = later h (StorageHeard tag from t taken fault) b (rec_at c h b) k
next laws c h (Gone who) run is b k = later h (Gone who) b (rec_at c h b) k
next laws c h (Crashed who) run is b k = later h (Crashed who) b (rec_at c h b) k

are_sent : Laws → (c : Config) (h : List Turn) → IsRun c h → (b : ℕ) → AreSent h b (rec_at c h b)
are_sent laws c [] run b = refl
are_sent laws c (t ∷ h) run b = next laws c h t run.1 run.0 b (are_sent laws c h run.1 b)

pub pending_is_sent : Laws → PendingIsSent
pending_is_sent laws c h run b r at to a there = subst (AreSent h b) at (are_sent laws c h run b) to a there
