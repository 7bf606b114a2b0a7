-- The turn that an event is may come next.
use Rattle.std.proofs.Common.{◌≡◌, ◌≢◌, ℕ, ◌<◌, ◌≤◌, ◌^◌, Bool, true, false, cond, not, ◌==◌, ◌&&◌, ◌||◌, List, [], ◌∷◌, Option, None, Some, inl, inr, ◌⊎◌, refl, sym, ◌∙◌, subst}
use Rattle.std.specs.Prelude.{IsSome, IfSome, is_some, Result, Ok, Err}
use Rattle.std.proofs.lemmas.Bool.{and_parts, or_parts, eqb-true, eqb-false, ltb-true}
use Rattle.fr_base.specs.Shape.{ShapeContent, IsShape}
use Rattle.fr_base.specs.declared.place.NodeId.{NodeId}
use Rattle.fr_base.specs.declared.place.NodeId.TheVariants as node
use Rattle.fr_mutation.specs.declared.mutation.Mutation.{Mutation}
use Rattle.fr_log.specs.declared.ask.LogTell.{LogTell}
use Rattle.fr_ask.specs.declared.ask.Ask.{Ask}
use Rattle.fr_ask.specs.declared.ask.Ask.TheVariants as ask
use Rattle.fr_ask.specs.declared.tell.Tell.{Tell}
use Rattle.fr_ask.specs.declared.tell.Tell.TheVariants as tell
use Rattle.fr_proxy.specs.Proxy as proxy
use Rattle.fr_proxy.specs.declared.fault.SubmitFault.{SubmitFault}
use Rattle.fr_proxy.specs.declared.fault.SubmitFault.TheVariants as submit
use Rattle.fr_epoch.specs.Recoverer.{RecState, new_recoverer}
use Rattle.fr_epoch.specs.Asks as rec
use Rattle.fr_storage.specs.Storage as storage
use Rattle.fr_storage.specs.declared.fault.StorageFault.{StorageFault}
use Rattle.fr_run.specs.Config.{Config, first_epoch}
use Rattle.fr_run.specs.Turn.{Turn, Begun, Submitted, ProxyHeard, RecHeard, Gone, Crashed, Sent, Told}
use Rattle.fr_run.specs.Nodes.{rec_at, proxy_at, storage_at, calls_of_log, is_there}
use Rattle.fr_run.specs.Run.{IsTurn, IsUp, MayBreakIn, StorageMayAsk, fault_of_log}
use Rattle.fr_run.specs.declared.event.Event.TheVariants.{Begin, Deliver, Hear, Submit, Crash, Lose}
use Rattle.fr_run.specs.declared.not_enabled.NotEnabled.{NotEnabled}
use Rattle.fr_run.specs.declared.not_enabled.NotEnabled.TheVariants as not_enabled
use Rattle.fr_run.specs.Limits.{AskHasLimits}
use Rattle.fr_run.specs.Tests.{is_gone, was_sent, was_told, storage_may_ask}
use Rattle.fr_run.specs.Step.{if_up, if_sent, delivered, whole, heard_by_rec, breaks_in, may_break, heard_by_storage, heard_by, if_told, if_takes, submitted, crashed, is_used, begun}
use Rattle.fr_run.specs.Law.{EventIsTurn}
use Rattle.fr_run.proofs.Tests.{sent_is, told_is, gone_is, may_ask}

-- ---- guards

record IsLet (c : Config) (h : List Turn) (who : NodeId) (o : Result Turn NotEnabled) (t : Turn) : Type 0 where
  up : IsUp c h who
  turn : o ≡ Ok t

up_is : (c : Config) (h : List Turn) (who : NodeId) (o : Result Turn NotEnabled) (t : Turn) → if_up c h who o ≡ Ok t → IsLet c h who o t
up_is c h who o t e = go (not (is_there c h who)) refl e
  where
    there : (b : Bool) → not b ≡ false → b ≡ true
    there true k = refl
    there false k = absurd (cc)

    alive : (b : Bool) → is_gone h who ≡ b → not (is_there c h who) ≡ false → cond b (Err not_enabled.Gone) o ≡ Ok t → IsLet c h who o t
    alive true k there' e = absurd (cc)
    alive false k there' e = record { up = record { there = there (is_there c h who) there'; up = λ g. let d : false ≡ true = sym k ∙ gone_is h who g in absurd (cc) }; turn = e }

    go : (b : Bool) → not (is_there c h who) ≡ b → cond b (Err not_enabled.NoSuchNode) (cond (is_gone h who) (Err not_enabled.Gone) o) ≡ Ok t → IsLet c h who o t
    go true k e = absurd (cc)
    go false k e = alive (is_gone h who) refl k e

-- a turn that is the one that was made
abbrev ok : Turn → Result Turn NotEnabled
ok t = Ok t

made : (c : Config) (h : List Turn) (s t : Turn) → IsTurn c h s → ok s ≡ ok t → IsTurn c h t
made c h s t k e = let d : s ≡ t = cc in subst (IsTurn c h) d k

sent_turn : (c : Config) (h : List Turn) (s t : Turn) (b : Bool) → (b ≡ true → IsTurn c h s) → if_sent b s ≡ Ok t → IsTurn c h t
sent_turn c h s t true k e = made c h s t (k refl) e
sent_turn c h s t false k e = absurd (cc)

-- ---- asks

or_cases' : (x y : Bool) → (x || y) ≡ true → (x ≡ true) ⊎ (y ≡ true)
or_cases' true y e = inl refl
or_cases' false y e = inr e

deliver : (c : Config) (h : List Turn) (from to : NodeId) (a : Ask) (t : Turn) → AskHasLimits a → IsUp c h to → delivered c h from to a ≡ Ok t → IsTurn c h t
deliver c h from (node.Cell i) (ask.Cell a) t l up e =
    sent_turn c h _ t (was_sent h from (node.Cell i) (ask.Cell a)) (λ k. (ltb-true i c.cells up.there, sent_is h from (node.Cell i) (ask.Cell a) k, refl)) e
deliver c h from (node.Log x i) (ask.Log a) t l up e =
    sent_turn c h _ t (was_sent h from (node.Log x i) (ask.Log a) || storage_may_ask c h from a)
    (λ k. (up, came (or_cases' (was_sent h from (node.Log x i) (ask.Log a)) (storage_may_ask c h from a) k), refl, l)) e
  where
    came : (was_sent h from (node.Log x i) (ask.Log a) ≡ true) ⊎ (storage_may_ask c h from a ≡ true) → Sent h from (node.Log x i) (ask.Log a) ⊎ StorageMayAsk c h from a
    came (inl k) = inl (sent_is h from (node.Log x i) (ask.Log a) k)
    came (inr k) = inr (may_ask c h from a k)
deliver c h from (node.Sequencer x) (ask.Seq a) t l up e =
    sent_turn c h _ t (was_sent h from (node.Sequencer x) (ask.Seq a)) (λ k. (up, sent_is h from (node.Sequencer x) (ask.Seq a) k, refl)) e
deliver c h from to a t l up e = absurd (cc)

-- ---- tells

breaks_log : (s : storage.StorageState) (e : ℕ) (u : LogTell) (version : ℕ) → (not (is_some (fault_of_log s e u)) && is_some (storage.broken_at s.store (calls_of_log s e u) version)) ≡ true
    → (fault_of_log s e u ≡ None) × IsSome (storage.broken_at s.store (calls_of_log s e u) version)
breaks_log s e u version k =
    let p = and_parts (not (is_some (fault_of_log s e u))) (is_some (storage.broken_at s.store (calls_of_log s e u) version)) k in
    (none (fault_of_log s e u) p.0, p.1)
  where
    none : (o : Option StorageFault) → not (is_some o) ≡ true → o ≡ None
    none None k = refl
    none (Some fault) k = absurd (cc)

breaks_of : (s : storage.StorageState) (e i : ℕ) (u : Tell) (version : ℕ) → breaks_in s e u version ≡ true → MayBreakIn s (node.Log e i) u version
breaks_of s e i (tell.Log u) version k = breaks_log s e u version k
breaks_of s e i u version k = eqb-true version s.store.applied k

breaks : (s : storage.StorageState) (from : NodeId) (u : Tell) (version : ℕ) → may_break s from u version ≡ true → MayBreakIn s from u version
breaks s (node.Log e i) u version k = breaks_of s e i u version k
breaks s from u version k = eqb-true version s.store.applied k

hear_storage : (c : Config) (h : List Turn) (tag : ℕ) (from : NodeId) (u : Tell) (taken : Option ℕ) (t : Turn) → IsUp c h (node.Storage tag) → Told h from (node.Storage tag) u
    → heard_by_storage (storage_at c h tag) tag from u taken ≡ Ok t → IsTurn c h t
hear_storage c h tag from u None t up told e = made c h _ t (record { actor = up; told = told }, refl, tt) e
hear_storage c h tag from u (Some version) t up told e =
    sent_turn c h _ t (may_break (storage_at c h tag) from u version) (λ k. (record { actor = up; told = told }, refl, breaks (storage_at c h tag) from u version k)) e

whole_is : (c : Config) (h : List Turn) (taken : Option ℕ) (s t : Turn) → IsTurn c h s → whole taken s ≡ Ok t → IsTurn c h t
whole_is c h None s t k e = made c h s t k e
whole_is c h (Some version) s t k e = absurd (cc)

hear : (c : Config) (h : List Turn) (by from : NodeId) (u : Tell) (taken : Option ℕ) (t : Turn) → IsUp c h by → Told h from by u → heard_by c h by from u taken ≡ Ok t → IsTurn c h t
hear c h (node.Cell i) from u taken t up told e = absurd (cc)
hear c h (node.Log x i) from u taken t up told e = absurd (cc)
hear c h (node.Sequencer x) from u taken t up told e = absurd (cc)
hear c h (node.Proxy x p) from u taken t up told e =
    whole_is c h taken (ProxyHeard x p from u (proxy.outcome_of (proxy_at c h x p) from u) (proxy.new_asks (proxy_at c h x p) from u)) t (record { actor = up; told = told }, refl, refl) e
hear c h (node.Recoverer b) from u taken t up told e = go (rec_at c h b) refl e
  where
    go : (o : Option RecState) → rec_at c h b ≡ o → heard_by_rec b from u taken o ≡ Ok t → IsTurn c h t
    go None at k = absurd (cc)
    go (Some r) at k = whole_is c h taken (RecHeard b from u (rec.new_asks r from u)) t (record { actor = up; told = told }, (r, at, refl)) k
hear c h (node.Storage tag) from u taken t up told e = hear_storage c h tag from u taken t up told e

hear_told : (c : Config) (h : List Turn) (by from : NodeId) (u : Tell) (taken : Option ℕ) (t : Turn) (b : Bool) → was_told h from by u ≡ b → IsUp c h by → if_told b (heard_by c h by from u taken) ≡ Ok t → IsTurn c h t
hear_told c h by from u taken t true k up e = hear c h by from u taken t up (told_is h from by u k) e
hear_told c h by from u taken t false k up e = absurd (cc)

-- ---- the other events

takes : (s : proxy.ProxyState) → proxy.submit_fault s ≡ None → proxy.takes_batch s ≡ true
takes s e = go (is_some s.under_way) refl (proxy.is_over s) refl e
  where
    none : Option SubmitFault
    none = None

    go : (a : Bool) → is_some s.under_way ≡ a → (b : Bool) → proxy.is_over s ≡ b → cond a (Some submit.TwoOpen) (cond b (Some submit.Over) none) ≡ None → (not (is_some s.under_way) && not (proxy.is_over s)) ≡ true
    go true k b l e = absurd (cc)
    go false k true l e = absurd (cc)
    go false k false l e = rw (k, l) refl

submit_is : (c : Config) (h : List Turn) (x p step : ℕ) (batch : List Mutation) (t : Turn) → IsUp c h (node.Proxy x p) → 1 ≤ step → submitted (proxy_at c h x p) x p step batch ≡ Ok t → IsTurn c h t
submit_is c h x p step batch t up l e = go (proxy.submit_fault (proxy_at c h x p)) refl e
  where
    go : (o : Option SubmitFault) → proxy.submit_fault (proxy_at c h x p) ≡ o
        → if_takes o (Submitted x p step batch (proxy.number_ask (proxy_at c h x p) (proxy.opened (proxy_at c h x p) step batch) ∷ [])) ≡ Ok t → IsTurn c h t
    go None k e =
        made c h (Submitted x p step batch (proxy.number_ask (proxy_at c h x p) (proxy.opened (proxy_at c h x p) step batch) ∷ [])) t (up, (takes (proxy_at c h x p) k, l), refl) e
    go (Some fault) k e = absurd (cc)

crash : (c : Config) (h : List Turn) (who : NodeId) (t : Turn) → IsUp c h who → ok (crashed who) ≡ ok t → IsTurn c h t
crash c h (node.Cell i) t up e = made c h (Crashed (node.Cell i)) t (up, tt) e
crash c h (node.Log x i) t up e = made c h (Crashed (node.Log x i)) t (up, tt) e
crash c h (node.Sequencer x) t up e = made c h (Gone (node.Sequencer x)) t (up, tt) e
crash c h (node.Proxy x p) t up e = made c h (Gone (node.Proxy x p)) t (up, tt) e
crash c h (node.Recoverer b) t up e = made c h (Gone (node.Recoverer b)) t (up, tt) e
crash c h (node.Storage tag) t up e = made c h (Crashed (node.Storage tag)) t (up, tt) e

begin : (c : Config) (h : List Turn) (b : ℕ) (shape : Option ShapeContent) (t : Turn) → (b ≢ 0 → 256 ≤ b) × (b < 2 ^ 48) × IfSome shape IsShape → begun c h b shape ≡ Ok t → IsTurn c h t
begin c h b shape t l e = go (is_used c h b) refl e
  where
    none : (o : Option RecState) → is_some o ≡ false → o ≡ None
    none None k = refl
    none (Some r) k = absurd (cc)

    go : (s : Bool) → is_used c h b ≡ s → cond s (Err not_enabled.BallotUsed) (Ok (Begun b shape (rec.pending (new_recoverer b c.cells c.begins shape)))) ≡ Ok t → IsTurn c h t
    go true k e = absurd (cc)
    go false k e =
        let p = or_parts (is_some (rec_at c h b)) ((b == first_epoch) || (b == 0)) k in
        let q = or_parts (b == first_epoch) (b == 0) p.1 in
        made c h (Begun b shape (rec.pending (new_recoverer b c.cells c.begins shape))) t (none (rec_at c h b) p.0, (eqb-false b first_epoch q.0, (l.0 (eqb-false b 0 q.1), l.1)), l.2, refl) e

pub event_is_turn : EventIsTurn
event_is_turn c h (Begin b shape) t l e = begin c h b shape t l e
event_is_turn c h (Deliver from to a) t l e = (let k = up_is c h to (delivered c h from to a) t e in deliver c h from to a t l k.up k.turn)
event_is_turn c h (Hear by from u taken) t l e =
    (let k = up_is c h by (if_told (was_told h from by u) (heard_by c h by from u taken)) t e in hear_told c h by from u taken t (was_told h from by u) refl k.up k.turn)
event_is_turn c h (Submit x p step batch) t l e = (let k = up_is c h (node.Proxy x p) (submitted (proxy_at c h x p) x p step batch) t e in submit_is c h x p step batch t k.up l k.turn)
event_is_turn c h (Crash who) t l e = (let k = up_is c h who (ok (crashed who)) t e in crash c h who t k.up k.turn)
event_is_turn c h (Lose log) t l e =
    (let k = up_is c h (node.Log log.epoch log.index) (ok (Gone (node.Log log.epoch log.index))) t e in made c h (Gone (node.Log log.epoch log.index)) t (k.up, tt) k.turn)
