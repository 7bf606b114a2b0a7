-- Whose journals a cluster hands back.
use Rattle.std.proofs.Common.{◌≡◌, ◌<◌, ◌==◌, ◌||◌, ℕ, Bool, true, false, cond, nat_lt, List, [], length, inl, refl, sym, ◌∙◌, ap, arith}
use Rattle.std.proofs.lemmas.Bool.{and_parts, eqb-true, lt-ltb, ltb-true}
use Rattle.fr_base.specs.declared.place.NodeId.{NodeId}
use Rattle.fr_base.specs.declared.place.NodeId.TheVariants.{Cell, Log, Sequencer, Proxy, Recoverer, Storage}
use Rattle.fr_run.specs.Config.{Config, first_epoch}
use Rattle.fr_run.specs.Nodes.{is_there, is_open, is_open_in, logs_in, plan_at, rec_at}
use Rattle.fr_audit_journal.specs.Journal.{JournalState}
use Rattle.fr_runtime.specs.Handed.{IsUnlike, has_journal}

-- at the start there are the cells, the logs, the sequencer and the proxies of the first epoch, and the storage servers
pub start-has : (c : Config) (js : List JournalState)
    → ((i : ℕ) → i < c.cells → has_journal (Cell i) js ≡ true)
    → ((i : ℕ) → i < c.m → has_journal (Log first_epoch i) js ≡ true)
    → has_journal (Sequencer first_epoch) js ≡ true
    → ((p : ℕ) → p < c.proxies → has_journal (Proxy first_epoch p) js ≡ true)
    → ((t : ℕ) → t < length c.begins → has_journal (Storage t) js ≡ true)
    → (who : NodeId) → is_there c [] who ≡ true → has_journal who js ≡ true
start-has c js cells logs sequencer proxies storages (Cell i) there = cells i (ltb-true i c.cells there)
start-has c js cells logs sequencer proxies storages (Log e i) there = go (e == first_epoch) refl there
  where
    go : (b : Bool) → (e == first_epoch) ≡ b → nat_lt i (cond b c.m (logs_in (plan_at c [] e))) ≡ true → has_journal (Log e i) js ≡ true
    go true is low = ap (λ n. has_journal (Log n i) js) (eqb-true e first_epoch is) ∙ logs i (ltb-true i c.m low)
    go false is low = absurd (omega (arith, ltb-true i (logs_in (plan_at c [] e)) low))
start-has c js cells logs sequencer proxies storages (Sequencer e) there = go (e == first_epoch) refl there
  where
    go : (b : Bool) → (e == first_epoch) ≡ b → (b || is_open_in (rec_at c [] e)) ≡ true → has_journal (Sequencer e) js ≡ true
    go true is open' = ap (λ n. has_journal (Sequencer n) js) (eqb-true e first_epoch is) ∙ sequencer
    go false is open' = absurd (cc)
start-has c js cells logs sequencer proxies storages (Proxy e p) there =
    let parts = and_parts (is_open c [] e) (nat_lt p c.proxies) there in
    go (e == first_epoch) refl parts.0 (ltb-true p c.proxies parts.1)
  where
    go : (b : Bool) → (e == first_epoch) ≡ b → (b || is_open_in (rec_at c [] e)) ≡ true → p < c.proxies → has_journal (Proxy e p) js ≡ true
    go true is open' low = ap (λ n. has_journal (Proxy n p) js) (eqb-true e first_epoch is) ∙ proxies p low
    go false is open' low = absurd (cc)
start-has c js cells logs sequencer proxies storages (Recoverer b) there = absurd (cc)
start-has c js cells logs sequencer proxies storages (Storage t) there = storages t (ltb-true t (length c.begins) there)

-- each of these is there at the start, so that it is missed where it has no journal

pub no-cell : (c : Config) (js : List JournalState) (i : ℕ) → i < c.cells → has_journal (Cell i) js ≡ false → IsUnlike c js (Cell i)
no-cell c js i low none = inl (lt-ltb i c.cells low, none)

pub no-log : (c : Config) (js : List JournalState) (i : ℕ) → i < c.m → has_journal (Log first_epoch i) js ≡ false → IsUnlike c js (Log first_epoch i)
no-log c js i low none = inl (lt-ltb i c.m low, none)

pub no-sequencer : (c : Config) (js : List JournalState) → has_journal (Sequencer first_epoch) js ≡ false → IsUnlike c js (Sequencer first_epoch)
no-sequencer c js none = inl (refl, none)

pub no-proxy : (c : Config) (js : List JournalState) (p : ℕ) → p < c.proxies → has_journal (Proxy first_epoch p) js ≡ false → IsUnlike c js (Proxy first_epoch p)
no-proxy c js p low none = inl (lt-ltb p c.proxies low, none)

pub no-storage : (c : Config) (js : List JournalState) (t : ℕ) → t < length c.begins → has_journal (Storage t) js ≡ false → IsUnlike c js (Storage t)
no-storage c js t low none = inl (lt-ltb t (length c.begins) low, none)
