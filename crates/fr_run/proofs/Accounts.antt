-- The present state of its sender accounts for each ask that was ever sent.
use Rattle.std.proofs.Common.{◌≡◌, ℕ, nat_lt, List, [], ◌∷◌, Option, Some, inl, inr, refl, sym, ◌∙◌, ap, subst, arith}
use Rattle.std.specs.Prelude.{IfSome}
use Rattle.std.specs.List.{Contains}
use Rattle.std.specs.Option.{option_map}
use Rattle.std.proofs.lemmas.Bool.{and_parts, eq-eqb}
use Rattle.std.proofs.lemmas.List.Elements.{All-contains}
use Rattle.fr_base.specs.Shape.{ShapeContent, IsShape}
use Rattle.fr_base.specs.declared.place.NodeId.{NodeId}
use Rattle.fr_base.specs.declared.place.NodeId.TheVariants as node
use Rattle.fr_mutation.specs.declared.mutation.Mutation.{Mutation}
use Rattle.fr_proxy.specs.declared.outcome.Outcome.{Outcome}
use Rattle.fr_register.specs.declared.ask.CellAsk.{CellAsk}
use Rattle.fr_register.specs.declared.ask.CellAsk.TheVariants.{Read}
use Rattle.fr_ask.specs.declared.ask.Ask.{Ask}
use Rattle.fr_ask.specs.declared.ask.Ask.TheVariants as ask
use Rattle.fr_ask.specs.declared.tell.Tell.{Tell}
use Rattle.fr_proxy.specs.Proxy as proxy
use Rattle.fr_proxy.specs.Law as proxy_law
use Rattle.fr_epoch.specs.Recoverer.{RecState, new_recoverer}
use Rattle.fr_epoch.specs.Hear as rec
use Rattle.fr_epoch.specs.Asks as rec_asks
use Rattle.fr_epoch.specs.Law as rec_law
use Rattle.fr_run.specs.Config.{Config}
use Rattle.fr_run.specs.Turn.{Turn, Sending, Begun, CellTurn, LogTurn, SeqTurn, Submitted, ProxyHeard, RecHeard, StorageHeard, Gone, Crashed, actor_of, asks_of, Sent}
use Rattle.fr_run.specs.Nodes.{rec_at, proxy_at, is_open}
use Rattle.fr_run.specs.Run.{IsTurn, IsRun, MayBegin}
use Rattle.fr_run.specs.Laws.{Laws}
use Rattle.fr_run.specs.AskLaws.{SenderAccounts, SentIsAccounted, ReadsAreOwn}
use Rattle.fr_run.proofs.Growth.{rec_is, new_is, rec_grows, open_stays, proxy_stays, proxy_grows}

pub none_sent : (s : Sending) → Contains [] s → ⊥
none_sent s k = omega (arith, k.1)

-- ---- later on

stays : Laws → (c : Config) (h : List Turn) (t : Turn) → IsRun c h → IsTurn c h t → (from to : NodeId) (a : Ask) → SenderAccounts c h from to a → SenderAccounts c (t ∷ h) from to a
stays laws c h t run is (node.Cell i) to a k = k
stays laws c h t run is (node.Log e i) to a k = k
stays laws c h t run is (node.Sequencer e) to a k = k
stays laws c h t run is (node.Proxy e p) to a k =
    (open_stays laws c h t run is e k.0, laws.proxy_stays (proxy_at c h e p) (proxy_at c (t ∷ h) e p) to a (proxy_grows laws c h t run is e p k.0) k.1)
stays laws c h t run is (node.Recoverer b) to a k =
    let g = rec_grows laws c h t run is b k.0 k.1 in
    (g.later, g.is, laws.rec_stays k.0 g.later to a g.grows k.2)
stays laws c h t run is (node.Storage tag) to a k = k

-- ---- new asks

begun : Laws → (c : Config) (h : List Turn) (b : ℕ) (shape : Option ShapeContent) (asks : List Sending) → MayBegin b → IfSome shape IsShape → asks ≡ rec_asks.pending (new_recoverer b c.cells c.begins shape)
    → (to : NodeId) (a : Ask) → Contains asks (to, a) → SenderAccounts c (Begun b shape asks ∷ h) (node.Recoverer b) to a
begun laws c h b shape asks other is e to a k = (
  new_recoverer b c.cells c.begins shape,
  rw (eq-eqb b b refl) refl,
  All-contains (λ s. rec_law.AccountsFor (new_recoverer b c.cells c.begins shape) s.0 s.1) (rec_asks.pending (new_recoverer b c.cells c.begins shape)) (to, a)
      (laws.rec_pending (new_recoverer b c.cells c.begins shape) (new_is laws c b shape other is).kept.come_by) (subst (λ xs. Contains xs (to, a)) e k),
)

rec_heard : Laws → (c : Config) (h : List Turn) → IsRun c h → (b : ℕ) (from : NodeId) (t : Tell) (asks : List Sending) (r : RecState) → rec_at c h b ≡ Some r → asks ≡ rec_asks.new_asks r from t
    → (to : NodeId) (a : Ask) → Contains asks (to, a) → SenderAccounts c (RecHeard b from t asks ∷ h) (node.Recoverer b) to a
rec_heard laws c h run b from t asks r at e to a k = (
  rec.after_hear r from t,
  rw (eq-eqb b b refl) (ap (λ o. option_map (λ s. rec.after_hear s from t) o) at),
  All-contains (λ s. rec_law.AccountsFor (rec.after_hear r from t) s.0 s.1) (rec_asks.new_asks r from t) (to, a)
      (laws.rec_accounted r from t (rec_is laws c h run b r at).kept.come_by) (subst (λ xs. Contains xs (to, a)) e k),
)

submitted : Laws → (c : Config) (h : List Turn) → IsRun c h → (e p step : ℕ) (batch : List Mutation) (asks : List Sending) → (is : IsTurn c h (Submitted e p step batch asks))
    → (to : NodeId) (a : Ask) → Contains asks (to, a) → SenderAccounts c (Submitted e p step batch asks ∷ h) (node.Proxy e p) to a
submitted laws c h run e p step batch asks is to a k =
    let s = proxy_at c h e p in
    let open' = (and_parts (is_open c h e) (nat_lt p c.proxies) is.0.there).0 in
    let now : proxy_at c (Submitted e p step batch asks ∷ h) e p ≡ proxy.submitted s step batch = proxy_stays laws c h (Submitted e p step batch asks) run is e p open' ∙ rw (eq-eqb e e refl, eq-eqb p p refl) refl in (
      open_stays laws c h (Submitted e p step batch asks) run is e open',
      subst (λ n. proxy_law.AccountsFor n to a) (sym now) (All-contains (λ s. proxy_law.AccountsFor (proxy.submitted (proxy_at c h e p) step batch) s.0 s.1) (proxy.number_ask s (proxy.opened s step batch) ∷ []) (to, a)
          (laws.submit_accounted s step batch is.1.1) (subst (λ xs. Contains xs (to, a)) is.2 k)),
    )

proxy_heard : Laws → (c : Config) (h : List Turn) → IsRun c h → (e p : ℕ) (from : NodeId) (t : Tell) (outcome : Outcome) (asks : List Sending) → (is : IsTurn c h (ProxyHeard e p from t outcome asks))
    → (to : NodeId) (a : Ask) → Contains asks (to, a) → SenderAccounts c (ProxyHeard e p from t outcome asks ∷ h) (node.Proxy e p) to a
proxy_heard laws c h run e p from t outcome asks is to a k =
    let s = proxy_at c h e p in
    let open' = (and_parts (is_open c h e) (nat_lt p c.proxies) is.0.actor.there).0 in
    let now : proxy_at c (ProxyHeard e p from t outcome asks ∷ h) e p ≡ proxy.after_hear s from t = proxy_stays laws c h (ProxyHeard e p from t outcome asks) run is e p open' ∙ rw (eq-eqb e e refl, eq-eqb p p refl) refl in (
      open_stays laws c h (ProxyHeard e p from t outcome asks) run is e open',
      subst (λ n. proxy_law.AccountsFor n to a) (sym now) (All-contains (λ s. proxy_law.AccountsFor (proxy.after_hear (proxy_at c h e p) from t) s.0 s.1) (proxy.new_asks s from t) (to, a)
          (laws.proxy_accounted s from t) (subst (λ xs. Contains xs (to, a)) is.2 k)),
    )

fresh : Laws → (c : Config) (h : List Turn) (t : Turn) → IsRun c h → IsTurn c h t → (to : NodeId) (a : Ask) → Contains (asks_of t) (to, a) → SenderAccounts c (t ∷ h) (actor_of t) to a
fresh laws c h (Begun b shape asks) run is to a k = begun laws c h b shape asks is.1 is.2 is.3 to a k
fresh laws c h (CellTurn from i a t) run is to b k = absurd (none_sent (to, b) k)
fresh laws c h (LogTurn from e i a t) run is to b k = absurd (none_sent (to, b) k)
fresh laws c h (SeqTurn from e a t) run is to b k = absurd (none_sent (to, b) k)
fresh laws c h (Submitted e p step batch asks) run is to a k = submitted laws c h run e p step batch asks is to a k
fresh laws c h (ProxyHeard e p from t outcome asks) run is to a k = proxy_heard laws c h run e p from t outcome asks is to a k
fresh laws c h (RecHeard b from t asks) run is to a k = rec_heard laws c h run b from t asks is.1.0 is.1.1 is.1.2 to a k
fresh laws c h (StorageHeard tag from t taken fault) run is to b k = absurd (none_sent (to, b) k)
fresh laws c h (Gone who) run is to b k = absurd (none_sent (to, b) k)
fresh laws c h (Crashed who) run is to b k = absurd (none_sent (to, b) k)

pub sent_is_accounted : Laws → SentIsAccounted
sent_is_accounted laws c [] run from to a s = absurd s
sent_is_accounted laws c (t ∷ h) run from to a (inl (e, k)) = subst (λ x. SenderAccounts c (t ∷ h) x to a) e (fresh laws c h t run.1 run.0 to a k)
sent_is_accounted laws c (t ∷ h) run from to a (inr s) = stays laws c h t run.1 run.0 from to a (sent_is_accounted laws c h run.1 from to a s)

-- ---- asks to cells

-- no proxy asks a cell
no_proxy : (p : proxy.ProxyState) (to : NodeId) (a : CellAsk) → proxy_law.AccountsFor p to (ask.Cell a) → ⊥
no_proxy p (node.Cell i) a k = k
no_proxy p (node.Log e i) a k = k
no_proxy p (node.Sequencer e) a k = k
no_proxy p (node.Proxy e q) a k = k
no_proxy p (node.Recoverer b) a k = k
no_proxy p (node.Storage t) a k = k

-- a recoverer accounts for what it asks cells
for_cell : (r : RecState) (to : NodeId) (a : CellAsk) → rec_law.AccountsFor r to (ask.Cell a) → rec_law.AccountsForCell r a
for_cell r (node.Cell i) a k = k
for_cell r (node.Log e i) a k = absurd k
for_cell r (node.Sequencer e) a k = absurd k
for_cell r (node.Proxy e q) a k = absurd k
for_cell r (node.Recoverer b) a k = absurd k
for_cell r (node.Storage t) a k = absurd k

-- what was sent to a cell is of a recoverer, whose state accounts for it
pub record IsOfRecoverer (c : Config) (h : List Turn) (from : NodeId) (a : CellAsk) : Type 0 where
  pub recoverer : RecState
  pub at : rec_at c h recoverer.ballot ≡ Some recoverer
  pub sender : from ≡ node.Recoverer recoverer.ballot
  pub accounts : rec_law.AccountsForCell recoverer a

of_recoverer : Laws → (c : Config) (h : List Turn) → IsRun c h → (from to : NodeId) (a : CellAsk) → SenderAccounts c h from to (ask.Cell a) → IsOfRecoverer c h from a
of_recoverer laws c h run (node.Cell i) to a k = absurd k
of_recoverer laws c h run (node.Log e i) to a k = absurd k
of_recoverer laws c h run (node.Sequencer e) to a k = absurd k
of_recoverer laws c h run (node.Proxy e p) to a k = absurd (no_proxy (proxy_at c h e p) to a k.1)
of_recoverer laws c h run (node.Recoverer b) to a (r, at, k) =
    let own = (rec_is laws c h run b r at).ballot in
    record { recoverer = r; at = subst (λ x. rec_at c h x ≡ Some r) (sym own) at; sender = ap node.Recoverer (sym own); accounts = for_cell r to a k }
of_recoverer laws c h run (node.Storage t) to a k = absurd k

pub cell_ask_is_own : Laws → (c : Config) (h : List Turn) → IsRun c h → (from to : NodeId) (a : CellAsk) → Sent h from to (ask.Cell a) → IsOfRecoverer c h from a
cell_ask_is_own laws c h run from to a s = of_recoverer laws c h run from to a (sent_is_accounted laws c h run from to (ask.Cell a) s)

pub reads_are_own : Laws → ReadsAreOwn
reads_are_own laws c h run from to b s =
    let k = cell_ask_is_own laws c h run from to (Read b) s in
    k.sender ∙ ap node.Recoverer (sym k.accounts)
