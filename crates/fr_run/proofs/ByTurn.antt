-- What one more turn makes of a node: a rule for each kind of node, so that what is true of a node is proved in two or three cases.
use Rattle.std.proofs.Common.{◌≡◌, ℕ, Bool, true, false, cond, ◌==◌, ◌&&◌, List, ◌∷◌, Option, None, Some, refl, sym, subst}
use Rattle.std.specs.Prelude.{IfSome}
use Rattle.std.specs.Option.{option_map}
use Rattle.std.proofs.lemmas.Bool.{eqb-true}
use Rattle.fr_base.specs.Shape.{ShapeContent, IsShape}
use Rattle.fr_base.specs.declared.place.NodeId.{NodeId}
use Rattle.fr_base.specs.declared.place.NodeId.TheVariants as node
use Rattle.fr_mutation.specs.declared.mutation.Mutation.{Mutation}
use Rattle.fr_log.specs.declared.ask.LogAsk.{LogAsk}
use Rattle.fr_log.specs.LogState.{LogState}
use Rattle.fr_log.specs.Step as log
use Rattle.fr_ask.specs.declared.tell.Tell.{Tell}
use Rattle.fr_proxy.specs.Proxy as proxy
use Rattle.fr_epoch.specs.Recoverer.{RecState, new_recoverer}
use Rattle.fr_epoch.specs.Hear as rec
use Rattle.fr_run.specs.Config.{Config}
use Rattle.fr_run.specs.Turn.{Turn, Begun, CellTurn, LogTurn, SeqTurn, Submitted, ProxyHeard, RecHeard, StorageHeard, Gone, Crashed, Told}
use Rattle.fr_run.specs.Nodes.{rec_at, log_after, proxy_after}
use Rattle.fr_run.specs.Run.{IsTurn, MayBegin}

-- the recoverer of a ballot stands, begins, or hears
pub rec_by_turn : (c : Config) (h : List Turn) (t : Turn) → IsTurn c h t → (b : ℕ) (P : Option RecState → Type 0) → P (rec_at c h b)
    → ((shape : Option ShapeContent) → rec_at c h b ≡ None → MayBegin b → IfSome shape IsShape → P (Some (new_recoverer b c.cells c.begins shape)))
    → ((r : RecState) (from : NodeId) (tell : Tell) → rec_at c h b ≡ Some r → Told h from (node.Recoverer b) tell → P (Some (rec.after_hear r from tell))) → P (rec_at c (t ∷ h) b)
rec_by_turn c h (Begun b' shape asks) is b P same begins hears = go (b' == b) refl
  where
    go : (s : Bool) → (b' == b) ≡ s → P (cond s (Some (new_recoverer b' c.cells c.begins shape)) (rec_at c h b))
    go true e =
        let at : b' ≡ b = eqb-true b' b e in
        subst (λ x. P (Some (new_recoverer x c.cells c.begins shape))) (sym at) (begins shape (subst (λ x. rec_at c h x ≡ None) at is.0) (subst MayBegin at is.1) is.2)
    go false e = same
rec_by_turn c h (CellTurn from i a t) is b P same begins hears = same
rec_by_turn c h (LogTurn from e i a t) is b P same begins hears = same
rec_by_turn c h (SeqTurn from e a t) is b P same begins hears = same
rec_by_turn c h (Submitted e p step batch asks) is b P same begins hears = same
rec_by_turn c h (ProxyHeard e p from t outcome asks) is b P same begins hears = same
rec_by_turn c h (RecHeard b' from t asks) is b P same begins hears = go (b' == b) refl
  where
    go : (s : Bool) → (b' == b) ≡ s → P (cond s (option_map (λ s. rec.after_hear s from t) (rec_at c h b)) (rec_at c h b))
    go true e =
        let at : b' ≡ b = eqb-true b' b e in
        let own : rec_at c h b ≡ Some is.1.0 = subst (λ x. rec_at c h x ≡ Some is.1.0) at is.1.1 in
        subst (λ o. P (option_map (λ s. rec.after_hear s from t) o)) (sym own) (hears is.1.0 from t own (subst (λ x. Told h from (node.Recoverer x) t) at is.0.told))
    go false e = same
rec_by_turn c h (StorageHeard tag from t taken fault) is b P same begins hears = same
rec_by_turn c h (Gone who) is b P same begins hears = same
rec_by_turn c h (Crashed who) is b P same begins hears = same

-- a log stands, or takes an ask
pub log_by_turn : (t : Turn) (e i : ℕ) (l : LogState) (P : LogState → Type 0) → P l → ((a : LogAsk) → P (log.next_of l a)) → P (log_after t e i l)
log_by_turn (Begun b shape asks) e i l P same takes = same
log_by_turn (CellTurn from j a t) e i l P same takes = same
log_by_turn (LogTurn from e' i' a t) e i l P same takes = go ((e' == e) && (i' == i))
  where
    go : (s : Bool) → P (cond s (log.next_of l a) l)
    go true = takes a
    go false = same
log_by_turn (SeqTurn from e' a t) e i l P same takes = same
log_by_turn (Submitted e' p step batch asks) e i l P same takes = same
log_by_turn (ProxyHeard e' p from t outcome asks) e i l P same takes = same
log_by_turn (RecHeard b from t asks) e i l P same takes = same
log_by_turn (StorageHeard tag from t taken fault) e i l P same takes = same
log_by_turn (Gone who) e i l P same takes = same
log_by_turn (Crashed who) e i l P same takes = same

-- a proxy stands, takes a batch, or hears
pub proxy_by_turn : (t : Turn) (e p : ℕ) (s : proxy.ProxyState) (P : proxy.ProxyState → Type 0) → P s → ((step : ℕ) (batch : List Mutation) → P (proxy.submitted s step batch))
    → ((from : NodeId) (tell : Tell) → P (proxy.after_hear s from tell)) → P (proxy_after t e p s)
proxy_by_turn (Begun b shape asks) e p s P same takes hears = same
proxy_by_turn (CellTurn from j a t) e p s P same takes hears = same
proxy_by_turn (LogTurn from e' i' a t) e p s P same takes hears = same
proxy_by_turn (SeqTurn from e' a t) e p s P same takes hears = same
proxy_by_turn (Submitted e' p' step batch asks) e p s P same takes hears = go ((e' == e) && (p' == p))
  where
    go : (x : Bool) → P (cond x (proxy.submitted s step batch) s)
    go true = takes step batch
    go false = same
proxy_by_turn (ProxyHeard e' p' from t outcome asks) e p s P same takes hears = go ((e' == e) && (p' == p))
  where
    go : (x : Bool) → P (cond x (proxy.after_hear s from t) s)
    go true = hears from t
    go false = same
proxy_by_turn (RecHeard b from t asks) e p s P same takes hears = same
proxy_by_turn (StorageHeard tag from t taken fault) e p s P same takes hears = same
proxy_by_turn (Gone who) e p s P same takes hears = same
proxy_by_turn (Crashed who) e p s P same takes hears = same
