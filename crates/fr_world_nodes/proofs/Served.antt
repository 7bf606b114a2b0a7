-- What a world keeps is kept at the turns of its storage servers.
use Rattle.std.proofs.Common.{◌≡◌, ◌≢◌, ℕ, ◌<◌, Bool, true, false, cond, not, ◌==◌, ◌&&◌, List, ◌∷◌, Option, None, Some, refl, sym, ◌∙◌, ap, subst, length, slice_set, slice_index_or}
use Rattle.std.specs.Prelude.{slice_get, is_some, IsSome}
use Rattle.std.proofs.lemmas.Bool.{and_parts, eqb-true, eq-eqb}
use Rattle.std.proofs.lemmas.List.{length-set}
use Rattle.std.proofs.lemmas.Option.{slice_get-get_or}
use Rattle.fr_base.specs.declared.place.NodeId.{NodeId}
use Rattle.fr_base.specs.declared.place.NodeId.TheVariants as node
use Rattle.fr_log.specs.declared.ask.LogTell.{LogTell}
use Rattle.fr_ask.specs.declared.tell.Tell.{Tell}
use Rattle.fr_ask.specs.declared.tell.Tell.TheVariants as tell
use Rattle.fr_undo.specs.State.{StoreState}
use Rattle.fr_register.specs.CellState.{CellState}
use Rattle.fr_storage.specs.Server.{Server}
use Rattle.fr_storage.specs.Storage.{StorageState, broken_at}
use Rattle.fr_storage.specs.declared.fault.StorageFault.{StorageFault}
use Rattle.fr_run.specs.Config.{Config}
use Rattle.fr_run.specs.Turn.{Turn, StorageHeard}
use Rattle.fr_run.specs.Nodes.{storage_at, storage_hear, calls_of_log}
use Rattle.fr_run.specs.Run.{IsTurn, IsHeardBy, MayBreakIn, fault_of, fault_of_log}
use Rattle.fr_run.specs.Laws.{Laws}
use Rattle.fr_run.specs.Step.{breaks_in, may_break}
use Rattle.fr_world_nodes.specs.Parts.{IsWorld, AreStorages, Logs, Sequencers, Proxies, Recoverers, Storages, server_of}
use Rattle.fr_world_turns.specs.declared.turn.Turn.TheVariants as code
use Rattle.fr_world_turns.specs.Turns.{turn_of}
use Rattle.fr_world_nodes.proofs.Lists.{each_set}
use Rattle.fr_world_nodes.proofs.Stands.{logs_next, sequencers_next, proxies_next}

-- a server that is kept
pub server_there : (c : Config) (h : List Turn) (storages : Storages) → AreStorages c h storages → (tag n : ℕ) → n ≡ tag → tag < length c.begins → (s : Server StoreState) → s ≡ slice_index_or storages n s → slice_get storages tag ≡ Some s
server_there c h storages k tag n same l s e =
    slice_get-get_or storages tag s (subst (λ m. tag < m) (sym k.all) l) ∙ ap Some (sym (e ∙ ap (λ m. slice_index_or storages m s) same))

-- the servers after a read of one of them, which leaves it as it was
storages_read : (c : Config) (h : List Turn) (storages : Storages) → AreStorages c h storages → (tag n : ℕ) → n ≡ tag → (s : Server StoreState) → server_of s ≡ storage_at c h tag → s.failed ≡ false → AreStorages c h (slice_set storages n s)
storages_read c h storages k tag n same s own works = record {
  all = length-set storages n s ∙ k.all;
  each = each_set (λ j x. server_of x ≡ storage_at c h j) storages n s (λ j x ne at. k.each j x at) (subst (λ m. server_of s ≡ storage_at c h m) (sym same) own);
  work = each_set (λ j x. x.failed ≡ false) storages n s (λ j x ne at. k.work j x at) works;
}

-- what a world keeps is kept by a read
pub world_read : (c : Config) (h : List Turn) (cells : List CellState) (logs : Logs) (sequencers : Sequencers) (proxies : Proxies) (recoverers : Recoverers) (storages : Storages) → IsWorld c h cells logs sequencers proxies recoverers storages
    → (tag n : ℕ) → n ≡ tag → (s : Server StoreState) → server_of s ≡ storage_at c h tag → s.failed ≡ false → IsWorld c h cells logs sequencers proxies recoverers (slice_set storages n s)
world_read c h cells logs sequencers proxies recoverers storages w tag n same s own works = record {
  within = w.within;
  run = w.run;
  cells_are = w.cells_are;
  logs_are = w.logs_are;
  sequencers_are = w.sequencers_are;
  proxies_are = w.proxies_are;
  recoverers_are = w.recoverers_are;
  storages_are = storages_read c h storages w.storages_are tag n same s own works;
}

-- the servers after a tell to one of them
storages_next : (c : Config) (h : List Turn) (tag : ℕ) (from : NodeId) (t : Tell) (taken : Option ℕ) (fault : Option StorageFault) (storages : Storages) (s : Server StoreState) → AreStorages c h storages
    → server_of s ≡ storage_hear taken (storage_at c h tag) from t → s.failed ≡ false → AreStorages c (StorageHeard tag from t taken fault ∷ h) (slice_set storages tag s)
storages_next c h tag from t taken fault storages s k heard works = record {
  all = length-set storages tag s ∙ k.all;
  each = each_set (λ j x. server_of x ≡ storage_at c (StorageHeard tag from t taken fault ∷ h) j) storages tag s (λ j x ne at. others j x ne (k.each j x at)) own;
  work = each_set (λ j x. x.failed ≡ false) storages tag s (λ j x ne at. k.work j x at) works;
}
  where
    others : (j : ℕ) (x : Server StoreState) → j ≢ tag → server_of x ≡ storage_at c h j → server_of x ≡ storage_at c (StorageHeard tag from t taken fault ∷ h) j
    others j x ne e = go (tag == j) refl
      where
        go : (b : Bool) → (tag == j) ≡ b → server_of x ≡ cond b (storage_hear taken (storage_at c h j) from t) (storage_at c h j)
        go true k = absurd (ne (sym (eqb-true tag j k)))
        go false k = e

    own : server_of s ≡ storage_at c (StorageHeard tag from t taken fault ∷ h) tag
    own = go (tag == tag) (eq-eqb tag tag refl)
      where
        go : (b : Bool) → b ≡ true → server_of s ≡ cond b (storage_hear taken (storage_at c h tag) from t) (storage_at c h tag)
        go true k = heard
        go false k = absurd (cc)

storage_kept : Laws → (c : Config) (h : List Turn) (tag : ℕ) (from : NodeId) (t : Tell) (taken : Option ℕ) (fault : Option StorageFault) (cells : List CellState) (logs : Logs) (sequencers : Sequencers) (proxies : Proxies) (recoverers : Recoverers) (storages : Storages) (s : Server StoreState)
    → IsWorld c h cells logs sequencers proxies recoverers storages → IsTurn c h (StorageHeard tag from t taken fault)
    → server_of s ≡ storage_hear taken (storage_at c h tag) from t → s.failed ≡ false
    → IsWorld c (StorageHeard tag from t taken fault ∷ h) cells logs sequencers proxies recoverers (slice_set storages tag s)
storage_kept laws c h tag from t taken fault cells logs sequencers proxies recoverers storages s w is heard works = record {
  within = w.within;
  run = (is, w.run);
  cells_are = record { all = w.cells_are.all; each = w.cells_are.each };
  logs_are = logs_next laws c h (StorageHeard tag from t taken fault) w.run is logs logs w.logs_are (record { each = λ e j l. refl; there = w.logs_are.there });
  sequencers_are = sequencers_next laws c h (StorageHeard tag from t taken fault) w.run is sequencers sequencers w.sequencers_are (record { each = λ e o. refl; there = w.sequencers_are.there });
  proxies_are = proxies_next laws c h (StorageHeard tag from t taken fault) w.run is proxies proxies w.proxies_are (record { each = λ e p o. refl; there = w.proxies_are.there });
  recoverers_are = w.recoverers_are;
  storages_are = storages_next c h tag from t taken fault storages s w.storages_are heard works;
}

-- the turn of a server as the code enters it
pub storage_entered : (tag : ℕ) (from : NodeId) (t kept : Tell) (taken : Option ℕ) (fault kept_fault : Option StorageFault) → kept ≡ t → kept_fault ≡ fault
    → turn_of (code.Storage tag from kept taken kept_fault) ≡ StorageHeard tag from t taken fault
storage_entered tag from t kept taken fault kept_fault same told = ap (λ x. StorageHeard tag from x taken kept_fault) same ∙ ap (λ x. StorageHeard tag from t taken x) told

pub storage_world : Laws → (c : Config) (h later : List Turn) (tag n : ℕ) (from : NodeId) (t : Tell) (taken : Option ℕ) (fault : Option StorageFault) (cells : List CellState) (logs : Logs) (sequencers : Sequencers) (proxies : Proxies) (recoverers : Recoverers) (storages : Storages) (before s : Server StoreState)
    → IsWorld c h cells logs sequencers proxies recoverers storages → IsTurn c h (StorageHeard tag from t taken fault) → n ≡ tag
    → server_of before ≡ storage_at c h tag → server_of s ≡ storage_hear taken (server_of before) from t → s.failed ≡ false → later ≡ StorageHeard tag from t taken fault ∷ h
    → IsWorld c later cells logs sequencers proxies recoverers (slice_set storages n s)
storage_world laws c h later tag n from t taken fault cells logs sequencers proxies recoverers storages before s w is same old heard works entered =
    subst (λ x. IsWorld c x cells logs sequencers proxies recoverers (slice_set storages n s)) (sym entered)
    (subst (λ x. IsWorld c (StorageHeard tag from t taken fault ∷ h) cells logs sequencers proxies recoverers (slice_set storages x s)) (sym same)
    (storage_kept laws c h tag from t taken fault cells logs sequencers proxies recoverers storages s w is (heard ∙ ap (λ x. storage_hear taken x from t) old) works))

-- ---- hears that break off

none_is : (o : Option StorageFault) → not (is_some o) ≡ true → o ≡ None
none_is None k = refl
none_is (Some fault) k = absurd (cc)

log_breaks : (s : StorageState) (e : ℕ) (u : LogTell) (version : ℕ) → (not (is_some (fault_of_log s e u)) && is_some (broken_at s.store (calls_of_log s e u) version)) ≡ true
    → (fault_of_log s e u ≡ None) × IsSome (broken_at s.store (calls_of_log s e u) version)
log_breaks s e u version k =
    let p = and_parts (not (is_some (fault_of_log s e u))) (is_some (broken_at s.store (calls_of_log s e u) version)) k in
    (none_is (fault_of_log s e u) p.0, p.1)

-- a hear that can break off is not refused, and may come
log_may : (s : StorageState) (e i : ℕ) (u : Tell) (version : ℕ) → breaks_in s e u version ≡ true → (fault_of s (node.Log e i) u ≡ None) × MayBreakIn s (node.Log e i) u version
log_may s e i (tell.Log u) version k = let p = log_breaks s e u version k in (p.0, p)
log_may s e i u version k = (refl, eqb-true version s.store.applied k)

pub may_break_off : (s : StorageState) (from : NodeId) (u : Tell) (version : ℕ) → may_break s from u version ≡ true → (fault_of s from u ≡ None) × MayBreakIn s from u version
may_break_off s (node.Log e i) u version k = log_may s e i u version k
may_break_off s from u version k = (refl, eqb-true version s.store.applied k)

-- the turn of a hear that broke off
pub break_turn : (c : Config) (h : List Turn) (tag : ℕ) (from : NodeId) (t : Tell) (version : ℕ) → IsHeardBy c h (node.Storage tag) from t → may_break (storage_at c h tag) from t version ≡ true
    → IsTurn c h (StorageHeard tag from t (Some version) (fault_of (storage_at c h tag) from t))
break_turn c h tag from t version heard can = (heard, refl, (may_break_off (storage_at c h tag) from t version can).1)
