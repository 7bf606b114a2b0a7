-- Each turn that may come next is that of some event.
use Rattle.std.proofs.Common.{◌≡◌, ◌≢◌, ℕ, ◌<◌, ◌≤◌, Bool, true, false, cond, not, ◌==◌, ◌&&◌, ◌||◌, List, [], ◌∷◌, Option, None, Some, inl, inr, ◌⊎◌, refl, sym, ◌∙◌, ap, subst}
use Rattle.std.specs.List.{Contains}
use native.Mathlib.Omega.{arith}
use Rattle.std.specs.Prelude.{is_some, Result, Ok, Err}
use Rattle.std.proofs.lemmas.Bool.{or_left, or_right, ne_eqb, eq-eqb, lt-ltb}
use Rattle.fr_base.specs.declared.place.NodeId.{NodeId}
use Rattle.fr_base.specs.declared.place.NodeId.TheVariants as node
use Rattle.fr_register.specs.Cell as cell
use Rattle.fr_log.specs.Step as log
use Rattle.fr_log.specs.declared.ask.LogAsk.{LogAsk}
use Rattle.fr_ask.specs.declared.ask.Ask.TheVariants as ask
use Rattle.fr_ask.specs.declared.tell.Tell.{Tell}
use Rattle.fr_ask.specs.declared.tell.Tell.TheVariants as tell
use Rattle.fr_proxy.specs.Sequencer as seq
use Rattle.fr_proxy.specs.Proxy as proxy
use Rattle.fr_proxy.specs.declared.fault.SubmitFault.{SubmitFault}
use Rattle.fr_proxy.specs.declared.fault.SubmitFault.TheVariants as submit
use Rattle.fr_epoch.specs.Recoverer.{RecState, new_recoverer}
use Rattle.fr_epoch.specs.Asks as rec
use Rattle.fr_storage.specs.Storage as storage
use Rattle.fr_storage.specs.declared.fault.StorageFault.{StorageFault}
use Rattle.fr_run.specs.Config.{Config, first_epoch}
use Rattle.fr_run.specs.Turn.{Turn, Begun, CellTurn, LogTurn, SeqTurn, Submitted, ProxyHeard, RecHeard, StorageHeard, Gone, Crashed, Sent, Told}
use Rattle.fr_run.specs.Nodes.{cell_at, log_at, seq_at, rec_at, proxy_at, storage_at, calls_of_log, is_there}
use Rattle.fr_run.specs.Run.{IsTurn, IsRun, IsUp, MayGo, Survives, MayBreakIn, StorageMayAsk, fault_of, fault_of_log}
use Rattle.fr_run.proofs.Cells.{Contains-none, Contains-cases}
use Rattle.fr_run.specs.declared.event.Event.TheVariants.{Begin, Deliver, Hear, Submit, Crash, Lose}
use Rattle.fr_run.specs.declared.not_enabled.NotEnabled.{NotEnabled}
use Rattle.fr_run.specs.declared.not_enabled.NotEnabled.TheVariants as not_enabled
use Rattle.fr_run.specs.Tests.{is_gone, was_sent, was_told, storage_may_ask}
use Rattle.fr_run.specs.Step.{if_up, if_sent, delivered, heard_by_rec, breaks_in, may_break, heard_by_storage, heard_by, if_told, if_takes, submitted, is_used}
use Rattle.fr_run.specs.Law.{IsEventOf, TurnIsEvent}
use Rattle.fr_run.proofs.Tests.{is_sent, is_told, is_gone_from, asks_may}

-- ---- guards

abbrev ok : Turn → Result Turn NotEnabled
ok t = Ok t

is_up : (c : Config) (h : List Turn) (who : NodeId) (o : Result Turn NotEnabled) → IsUp c h who → if_up c h who o ≡ o
is_up c h who o k = go (is_there c h who) k.there (is_gone h who) refl
  where
    go : (a : Bool) → a ≡ true → (b : Bool) → is_gone h who ≡ b → cond (not a) (Err not_enabled.NoSuchNode) (cond b (Err not_enabled.Gone) o) ≡ o
    go true e true g = absurd (k.up (is_gone_from h who g))
    go true e false g = refl
    go false e b g = absurd (cc)

if_sent_is : (b : Bool) (t : Turn) → b ≡ true → if_sent b t ≡ ok t
if_sent_is true t e = refl
if_sent_is false t e = absurd (cc)

if_told_is : (b : Bool) (o : Result Turn NotEnabled) → b ≡ true → if_told b o ≡ o
if_told_is true o e = refl
if_told_is false o e = absurd (cc)

-- ---- cells stand for good

-- only nodes that may go are gone
went : (c : Config) (h : List Turn) → IsRun c h → (who : NodeId) → Contains h (Gone who) → MayGo who
went c [] run who k = absurd (Contains-none k)
went c (t ∷ h) run who k = elim (Contains-cases t h (Gone who) k) [
  | inl e ↦ (let turn = subst (IsTurn c h) e run.0 in turn.1)
  | inr m ↦ went c h run.1 who m
]

cell_up : (c : Config) (h : List Turn) (i : ℕ) → IsRun c h → i < c.cells → IsUp c h (node.Cell i)
cell_up c h i run l = record { there = lt-ltb i c.cells l; up = λ g. went c h run (node.Cell i) g }

-- ---- tells

no_fault : (o : Option StorageFault) → o ≡ None → not (is_some o) ≡ true
no_fault None e = refl
no_fault (Some fault) e = absurd (cc)

both' : (x y : Bool) → x ≡ true → y ≡ true → (x && y) ≡ true
both' x y e d = rw e d

breaks_of : (s : storage.StorageState) (e i : ℕ) (u : Tell) (version : ℕ) → MayBreakIn s (node.Log e i) u version → breaks_in s e u version ≡ true
breaks_of s e i (tell.Log u) version k = both' (not (is_some (fault_of_log s e u))) (is_some (storage.broken_at s.store (calls_of_log s e u) version)) (no_fault (fault_of_log s e u) k.0) k.1
breaks_of s e i u version k = eq-eqb version s.store.applied k

breaks : (s : storage.StorageState) (from : NodeId) (u : Tell) (version : ℕ) → MayBreakIn s from u version → may_break s from u version ≡ true
breaks s (node.Log e i) u version k = breaks_of s e i u version k
breaks s from u version k = eq-eqb version s.store.applied k

-- ---- the other events

takes : (s : proxy.ProxyState) → proxy.takes_batch s ≡ true → proxy.submit_fault s ≡ None
takes s e = go (is_some s.under_way) (proxy.is_over s) e
  where
    none : Option SubmitFault
    none = None

    go : (a b : Bool) → (not a && not b) ≡ true → cond a (Some submit.TwoOpen) (cond b (Some submit.Over) none) ≡ None
    go true b e = absurd (cc)
    go false true e = absurd (cc)
    go false false e = refl

if_takes_is : (o : Option SubmitFault) (t : Turn) → o ≡ None → if_takes o t ≡ ok t
if_takes_is None t e = refl
if_takes_is (Some fault) t e = absurd (cc)

not_used : (c : Config) (h : List Turn) (b : ℕ) → rec_at c h b ≡ None → (b ≢ first_epoch) → 256 ≤ b → is_used c h b ≡ false
not_used c h b e n l = neither (is_some (rec_at c h b)) (b == first_epoch) (b == 0) (ap is_some e) (ne_eqb b first_epoch n) (ne_eqb b 0 (λ z. let k : 256 ≤ 0 = subst (λ x. 256 ≤ x) z l in omega (arith, k)))
  where
    neither : (x y z : Bool) → x ≡ false → y ≡ false → z ≡ false → (x || (y || z)) ≡ false
    neither x y z e f g = rw (e, f) g

unless_used : (b : Bool) (t : Turn) → b ≡ false → cond b (Err not_enabled.BallotUsed) (ok t) ≡ ok t
unless_used true t e = absurd (cc)
unless_used false t e = refl

limits_of : (b : ℕ) → 256 ≤ b → b ≢ 0 → 256 ≤ b
limits_of b l n = l

-- ---- turns

log_came : (c : Config) (h : List Turn) (from : NodeId) (e i : ℕ) (a : LogAsk) → Sent h from (node.Log e i) (ask.Log a) ⊎ StorageMayAsk c h from a
    → (was_sent h from (node.Log e i) (ask.Log a) || storage_may_ask c h from a) ≡ true
log_came c h from e i a (inl k) = or_left (was_sent h from (node.Log e i) (ask.Log a)) (storage_may_ask c h from a) (is_sent h from (node.Log e i) (ask.Log a) k)
log_came c h from e i a (inr k) = or_right (was_sent h from (node.Log e i) (ask.Log a)) (storage_may_ask c h from a) (asks_may c h from a k)

gone_event : (c : Config) (h : List Turn) (who : NodeId) → IsUp c h who → MayGo who → IsEventOf c h (Gone who)
gone_event c h (node.Cell i) up k = absurd k
gone_event c h (node.Log e i) up k = record { event = Lose (record { epoch = e; index = i }); limits = tt; turn = is_up c h (node.Log e i) (ok (Gone (node.Log e i))) up }
gone_event c h (node.Sequencer e) up k = record { event = Crash (node.Sequencer e); limits = tt; turn = is_up c h (node.Sequencer e) (ok (Gone (node.Sequencer e))) up }
gone_event c h (node.Proxy e p) up k = record { event = Crash (node.Proxy e p); limits = tt; turn = is_up c h (node.Proxy e p) (ok (Gone (node.Proxy e p))) up }
gone_event c h (node.Recoverer b) up k = record { event = Crash (node.Recoverer b); limits = tt; turn = is_up c h (node.Recoverer b) (ok (Gone (node.Recoverer b))) up }
gone_event c h (node.Storage t) up k = absurd k

crash_event : (c : Config) (h : List Turn) (who : NodeId) → IsUp c h who → Survives who → IsEventOf c h (Crashed who)
crash_event c h (node.Cell i) up k = record { event = Crash (node.Cell i); limits = tt; turn = is_up c h (node.Cell i) (ok (Crashed (node.Cell i))) up }
crash_event c h (node.Log e i) up k = record { event = Crash (node.Log e i); limits = tt; turn = is_up c h (node.Log e i) (ok (Crashed (node.Log e i))) up }
crash_event c h (node.Sequencer e) up k = absurd k
crash_event c h (node.Proxy e p) up k = absurd k
crash_event c h (node.Recoverer b) up k = absurd k
crash_event c h (node.Storage t) up k = record { event = Crash (node.Storage t); limits = tt; turn = is_up c h (node.Storage t) (ok (Crashed (node.Storage t))) up }

storage_event : (c : Config) (h : List Turn) (tag : ℕ) (from : NodeId) (u : Tell) (taken : Option ℕ) → IsUp c h (node.Storage tag) → Told h from (node.Storage tag) u
    → heard_by_storage (storage_at c h tag) tag from u taken ≡ ok (StorageHeard tag from u taken (fault_of (storage_at c h tag) from u))
    → IsEventOf c h (StorageHeard tag from u taken (fault_of (storage_at c h tag) from u))
storage_event c h tag from u taken up told e = record {
  event = Hear (node.Storage tag) from u taken;
  limits = tt;
  turn = is_up c h (node.Storage tag) (if_told (was_told h from (node.Storage tag) u) (heard_by_storage (storage_at c h tag) tag from u taken)) up
      ∙ (if_told_is (was_told h from (node.Storage tag) u) (heard_by_storage (storage_at c h tag) tag from u taken) (is_told h from (node.Storage tag) u told) ∙ e);
}

rec_event : (c : Config) (h : List Turn) (b : ℕ) (from : NodeId) (u : Tell) (r : RecState) → rec_at c h b ≡ Some r → IsUp c h (node.Recoverer b) → Told h from (node.Recoverer b) u
    → IsEventOf c h (RecHeard b from u (rec.new_asks r from u))
rec_event c h b from u r at up told = record {
  event = Hear (node.Recoverer b) from u None;
  limits = tt;
  turn = is_up c h (node.Recoverer b) (if_told (was_told h from (node.Recoverer b) u) (heard_by_rec b from u None (rec_at c h b))) up
      ∙ (if_told_is (was_told h from (node.Recoverer b) u) (heard_by_rec b from u None (rec_at c h b)) (is_told h from (node.Recoverer b) u told) ∙ ap (heard_by_rec b from u None) at);
}

-- an event of a turn is one of a turn that is the same
same_event : (c : Config) (h : List Turn) (s t : Turn) → s ≡ t → IsEventOf c h s → IsEventOf c h t
same_event c h s t e k = subst (IsEventOf c h) e k

pub turn_is_event : TurnIsEvent
turn_is_event c h (Begun b shape asks) run k =
    same_event c h (Begun b shape (rec.pending (new_recoverer b c.cells c.begins shape))) (Begun b shape asks) (ap (λ x. Begun b shape x) (sym k.3))
    (record {
      event = Begin b shape;
      limits = (limits_of b k.1.1.0, k.1.1.1, k.2);
      turn = unless_used (is_used c h b) (Begun b shape (rec.pending (new_recoverer b c.cells c.begins shape))) (not_used c h b k.0 k.1.0 k.1.1.0);
    })
turn_is_event c h (CellTurn from i a t) run k =
    same_event c h (CellTurn from i a (cell.answer_of (cell_at c h i) a)) (CellTurn from i a t) (ap (λ x. CellTurn from i a x) (sym k.2))
    (record {
      event = Deliver from (node.Cell i) (ask.Cell a);
      limits = tt;
      turn = is_up c h (node.Cell i) (delivered c h from (node.Cell i) (ask.Cell a)) (cell_up c h i run k.0)
          ∙ if_sent_is (was_sent h from (node.Cell i) (ask.Cell a)) (CellTurn from i a (cell.answer_of (cell_at c h i) a)) (is_sent h from (node.Cell i) (ask.Cell a) k.1);
    })
turn_is_event c h (LogTurn from e i a t) run k =
    same_event c h (LogTurn from e i a (log.answer_of (log_at c h e i) a)) (LogTurn from e i a t) (ap (λ x. LogTurn from e i a x) (sym k.2))
    (record {
      event = Deliver from (node.Log e i) (ask.Log a);
      limits = k.3;
      turn = is_up c h (node.Log e i) (delivered c h from (node.Log e i) (ask.Log a)) k.0
          ∙ if_sent_is (was_sent h from (node.Log e i) (ask.Log a) || storage_may_ask c h from a) (LogTurn from e i a (log.answer_of (log_at c h e i) a)) (log_came c h from e i a k.1);
    })
turn_is_event c h (SeqTurn from e a t) run k =
    same_event c h (SeqTurn from e a (seq.answer_of (seq_at c h e) a)) (SeqTurn from e a t) (ap (λ x. SeqTurn from e a x) (sym k.2))
    (record {
      event = Deliver from (node.Sequencer e) (ask.Seq a);
      limits = tt;
      turn = is_up c h (node.Sequencer e) (delivered c h from (node.Sequencer e) (ask.Seq a)) k.0
          ∙ if_sent_is (was_sent h from (node.Sequencer e) (ask.Seq a)) (SeqTurn from e a (seq.answer_of (seq_at c h e) a)) (is_sent h from (node.Sequencer e) (ask.Seq a) k.1);
    })
turn_is_event c h (Submitted e p step batch asks) run k =
    let made = proxy.number_ask (proxy_at c h e p) (proxy.opened (proxy_at c h e p) step batch) ∷ [] in
    same_event c h (Submitted e p step batch made) (Submitted e p step batch asks) (ap (λ x. Submitted e p step batch x) (sym k.2))
    (record {
      event = Submit e p step batch;
      limits = k.1.1;
      turn = is_up c h (node.Proxy e p) (submitted (proxy_at c h e p) e p step batch) k.0
          ∙ if_takes_is (proxy.submit_fault (proxy_at c h e p)) (Submitted e p step batch made) (takes (proxy_at c h e p) k.1.0);
    })
turn_is_event c h (ProxyHeard e p from t outcome asks) run k =
    let s = proxy_at c h e p in
    same_event c h (ProxyHeard e p from t (proxy.outcome_of s from t) (proxy.new_asks s from t)) (ProxyHeard e p from t outcome asks)
    (ap (λ x. ProxyHeard e p from t x (proxy.new_asks s from t)) (sym k.1) ∙ ap (λ x. ProxyHeard e p from t outcome x) (sym k.2))
    (record {
      event = Hear (node.Proxy e p) from t None;
      limits = tt;
      turn = is_up c h (node.Proxy e p) (if_told (was_told h from (node.Proxy e p) t) (heard_by c h (node.Proxy e p) from t None)) k.0.actor
          ∙ if_told_is (was_told h from (node.Proxy e p) t) (heard_by c h (node.Proxy e p) from t None) (is_told h from (node.Proxy e p) t k.0.told);
    })
turn_is_event c h (RecHeard b from t asks) run k =
    let r = k.1.0 in
    same_event c h (RecHeard b from t (rec.new_asks r from t)) (RecHeard b from t asks) (ap (λ x. RecHeard b from t x) (sym k.1.2))
    (rec_event c h b from t r k.1.1 k.0.actor k.0.told)
turn_is_event c h (StorageHeard tag from t None fault) run k =
    same_event c h (StorageHeard tag from t None (fault_of (storage_at c h tag) from t)) (StorageHeard tag from t None fault) (ap (λ x. StorageHeard tag from t None x) (sym k.1))
    (storage_event c h tag from t None k.0.actor k.0.told refl)
turn_is_event c h (StorageHeard tag from t (Some version) fault) run k =
    same_event c h (StorageHeard tag from t (Some version) (fault_of (storage_at c h tag) from t)) (StorageHeard tag from t (Some version) fault) (ap (λ x. StorageHeard tag from t (Some version) x) (sym k.1))
    (storage_event c h tag from t (Some version) k.0.actor k.0.told
    (if_sent_is (may_break (storage_at c h tag) from t version) (StorageHeard tag from t (Some version) (fault_of (storage_at c h tag) from t)) (breaks (storage_at c h tag) from t version k.2)))
turn_is_event c h (Gone who) run k = gone_event c h who k.0 k.1
turn_is_event c h (Crashed who) run k = crash_event c h who k.0 k.1
