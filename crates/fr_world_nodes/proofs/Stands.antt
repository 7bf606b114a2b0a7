-- Logs, sequencers and proxies that a world keeps, after a turn: those that it changes, those that stand, and those that are there only now.
use Rattle.std.proofs.Common.{◌≡◌, ℕ, ◌<◌, Bool, true, false, cond, ◌==◌, ◌&&◌, List, [], ◌∷◌, Option, None, Some, refl, sym, ◌∙◌, ap, subst, arith}
use Rattle.std.specs.Prelude.{IsSome, unwrap_or, nat_lt}
use Rattle.std.specs.Ordering.{nat_cmp}
use Rattle.std.specs.BTreeMap as tree
use Rattle.std.proofs.lemmas.Bool.{and_parts, eqb-true, ltb-true, ltb-false}
use Rattle.fr_log.specs.LogState.{LogState}
use Rattle.fr_proxy.specs.Sequencer.{SeqState}
use Rattle.fr_proxy.specs.Sequencer as seq
use Rattle.fr_proxy.specs.Proxy.{ProxyState}
use Rattle.fr_proxy.specs.Proxy as proxy
use Rattle.fr_run.specs.Config.{Config}
use Rattle.fr_run.specs.Turn.{Turn, Begun, CellTurn, LogTurn, SeqTurn, Submitted, ProxyHeard, RecHeard, StorageHeard, Gone, Crashed}
use Rattle.fr_run.specs.Nodes.{is_open, logs_at, new_log, log_after, log_at, seq_after, seq_from, seq_at, mark_version, generation_at, proxy_after, proxy_from, proxy_at, new_proxy_in}
use Rattle.fr_run.specs.Run.{IsTurn, IsRun}
use Rattle.fr_run.specs.Laws.{Laws}
use Rattle.fr_run.proofs.Growth.{open_stays, open_generation, generation_stays, proxy_stays, log_stays, new_log_stays}
use Rattle.fr_run_headline.proofs.Logs.{logs_stay, unasked, unasked_run}
use Rattle.fr_world_nodes.specs.Parts.{pair_cmp, Logs, Sequencers, Proxies, AreLogs, AreSequencers, AreProxies, new_seq, new_proxy}

-- ---- logs

-- what a turn makes of the logs that are kept: of each that is there what the turn makes of it, and no others are kept
pub record LogsTurn (c : Config) (h : List Turn) (t : Turn) (logs new : Logs) : Type 0 where
  pub each : (e i : ℕ) → i < logs_at c h e → unwrap_or (tree.get pair_cmp new (e, i)) (new_log c h e i) ≡ log_after t e i (unwrap_or (tree.get pair_cmp logs (e, i)) (new_log c h e i))
  pub there : (e i : ℕ) → IsSome (tree.get pair_cmp new (e, i)) → i < logs_at c h e

pub logs_next : Laws → (c : Config) (h : List Turn) (t : Turn) → IsRun c h → IsTurn c h t → (logs new : Logs) → AreLogs c h logs → LogsTurn c h t logs new → AreLogs c (t ∷ h) new
logs_next laws c h t run is logs new are turn = record {
  there = λ e i some. (let l = turn.there e i some in subst (λ n. i < n) (sym (logs_stay laws c h t run is e i l)) l);
  each = λ e i below. go e i (nat_lt i (logs_at c h e)) refl;
}
  where
    none : (o : Option LogState) (i n : ℕ) → (IsSome o → i < n) → nat_lt i n ≡ false → o ≡ None
    none None i n there absent = refl
    none (Some l) i n there absent = let up = there refl in let low = ltb-false i n absent in absurd (omega (arith, up, low))

    go : (e i : ℕ) (b : Bool) → nat_lt i (logs_at c h e) ≡ b → unwrap_or (tree.get pair_cmp new (e, i)) (new_log c (t ∷ h) e i) ≡ log_at c (t ∷ h) e i
    go e i true k =
        let l = ltb-true i (logs_at c h e) k in
        ap (unwrap_or (tree.get pair_cmp new (e, i))) (new_log_stays laws c h t run is e i l)
        ∙ (turn.each e i l ∙ (ap (log_after t e i) (are.each e i l) ∙ sym (log_stays laws c h t run is e i l)))
    go e i false k =
        let l = new_log c (t ∷ h) e i in
        ap (λ o. unwrap_or o l) (none (tree.get pair_cmp new (e, i)) i (logs_at c h e) (turn.there e i) k)
        ∙ sym (ap (log_after t e i) (unasked_run laws c h run e i k l) ∙ unasked laws c h t is e i k l)

-- ---- sequencers

-- an epoch that is not open has no turn of its sequencer
seq_unasked : (c : Config) (h : List Turn) (t : Turn) → IsTurn c h t → (e : ℕ) → is_open c h e ≡ false → (s : SeqState) → seq_after t e s ≡ s
seq_unasked c h (Begun b shape asks) is e shut s = refl
seq_unasked c h (CellTurn from i a u) is e shut s = refl
seq_unasked c h (LogTurn from x i a u) is e shut s = refl
seq_unasked c h (SeqTurn from x a u) is e shut s = go (x == e) refl
  where
    go : (b : Bool) → (x == e) ≡ b → cond b (seq.next_of s a) s ≡ s
    go true k = (let open' : is_open c h e ≡ true = subst (λ y. is_open c h y ≡ true) (eqb-true x e k) is.0.there in let d : false ≡ true = sym shut ∙ open' in absurd (cc))
    go false k = refl
seq_unasked c h (Submitted x p step batch asks) is e shut s = refl
seq_unasked c h (ProxyHeard x p from u outcome asks) is e shut s = refl
seq_unasked c h (RecHeard b from u asks) is e shut s = refl
seq_unasked c h (StorageHeard tag from u taken fault) is e shut s = refl
seq_unasked c h (Gone who) is e shut s = refl
seq_unasked c h (Crashed who) is e shut s = refl

shut_before : Laws → (c : Config) (h : List Turn) (t : Turn) → IsRun c h → IsTurn c h t → (e : ℕ) → is_open c (t ∷ h) e ≡ false → is_open c h e ≡ false
shut_before laws c h t run is e shut = go (is_open c h e) refl
  where
    go : (b : Bool) → is_open c h e ≡ b → b ≡ false
    go true k = (let d : true ≡ false = sym (open_stays laws c h t run is e k) ∙ shut in absurd (cc))
    go false k = refl

seq_unasked_run : Laws → (c : Config) (h : List Turn) → IsRun c h → (e : ℕ) → is_open c h e ≡ false → (s : SeqState) → seq_from s h e ≡ s
seq_unasked_run laws c [] run e shut s = refl
seq_unasked_run laws c (t ∷ h) run e shut s =
    let before = shut_before laws c h t run.1 run.0 e shut in
    ap (seq_after t e) (seq_unasked_run laws c h run.1 e before s) ∙ seq_unasked c h t run.0 e before s

-- the generation of an open epoch stays
same_generation : Laws → (c : Config) (h : List Turn) (t : Turn) → IsRun c h → IsTurn c h t → (e : ℕ) → is_open c h e ≡ true → generation_at c (t ∷ h) e ≡ generation_at c h e
same_generation laws c h t run is e open' = let g = open_generation laws c h run e open' in generation_stays laws c h t run is e g.generation g.is ∙ sym g.is

pub record SequencersTurn (c : Config) (h : List Turn) (t : Turn) (sequencers new : Sequencers) : Type 0 where
  pub each : (e : ℕ) → is_open c h e ≡ true → unwrap_or (tree.get nat_cmp new e) (new_seq c h e) ≡ seq_after t e (unwrap_or (tree.get nat_cmp sequencers e) (new_seq c h e))
  pub there : (e : ℕ) → IsSome (tree.get nat_cmp new e) → is_open c h e ≡ true

pub sequencers_next : Laws → (c : Config) (h : List Turn) (t : Turn) → IsRun c h → IsTurn c h t → (sequencers new : Sequencers) → AreSequencers c h sequencers → SequencersTurn c h t sequencers new
    → AreSequencers c (t ∷ h) new
sequencers_next laws c h t run is sequencers new are turn = record {
  there = λ e some. open_stays laws c h t run is e (turn.there e some);
  each = λ e open'. go e (is_open c h e) refl;
}
  where
    none : (o : Option SeqState) (e : ℕ) → (IsSome o → is_open c h e ≡ true) → is_open c h e ≡ false → o ≡ None
    none None e there shut = refl
    none (Some s) e there shut = (let d : true ≡ false = sym (there refl) ∙ shut in absurd (cc))

    go : (e : ℕ) (b : Bool) → is_open c h e ≡ b → unwrap_or (tree.get nat_cmp new e) (new_seq c (t ∷ h) e) ≡ seq_at c (t ∷ h) e
    go e true k =
        let same = same_generation laws c h t run is e k in
        ap (λ g. unwrap_or (tree.get nat_cmp new e) (seq.new_sequencer e (mark_version g))) same
        ∙ (turn.each e k ∙ (ap (seq_after t e) (are.each e k) ∙ ap (λ g. seq_after t e (seq_from (seq.new_sequencer e (mark_version g)) h e)) (sym same)))
    go e false k =
        let s = new_seq c (t ∷ h) e in
        ap (λ o. unwrap_or o s) (none (tree.get nat_cmp new e) e (turn.there e) k)
        ∙ sym (ap (seq_after t e) (seq_unasked_run laws c h run e k s) ∙ seq_unasked c h t is e k s)

-- ---- proxies

proxy_unasked : (c : Config) (h : List Turn) (t : Turn) → IsTurn c h t → (e p : ℕ) → is_open c h e ≡ false → (s : ProxyState) → proxy_after t e p s ≡ s
proxy_unasked c h (Begun b shape asks) is e p shut s = refl
proxy_unasked c h (CellTurn from i a u) is e p shut s = refl
proxy_unasked c h (LogTurn from x i a u) is e p shut s = refl
proxy_unasked c h (SeqTurn from x a u) is e p shut s = refl
proxy_unasked c h (Submitted x q step batch asks) is e p shut s = go ((x == e) && (q == p)) refl
  where
    go : (b : Bool) → ((x == e) && (q == p)) ≡ b → cond b (proxy.submitted s step batch) s ≡ s
    go true k =
        (let parts = and_parts (x == e) (q == p) k in
        let there = and_parts (is_open c h x) (nat_lt q c.proxies) is.0.there in
        let open' : is_open c h e ≡ true = subst (λ y. is_open c h y ≡ true) (eqb-true x e parts.0) there.0 in
        let d : false ≡ true = sym shut ∙ open' in absurd (cc))
    go false k = refl
proxy_unasked c h (ProxyHeard x q from u outcome asks) is e p shut s = go ((x == e) && (q == p)) refl
  where
    go : (b : Bool) → ((x == e) && (q == p)) ≡ b → cond b (proxy.after_hear s from u) s ≡ s
    go true k =
        (let parts = and_parts (x == e) (q == p) k in
        let there = and_parts (is_open c h x) (nat_lt q c.proxies) is.0.actor.there in
        let open' : is_open c h e ≡ true = subst (λ y. is_open c h y ≡ true) (eqb-true x e parts.0) there.0 in
        let d : false ≡ true = sym shut ∙ open' in absurd (cc))
    go false k = refl
proxy_unasked c h (RecHeard b from u asks) is e p shut s = refl
proxy_unasked c h (StorageHeard tag from u taken fault) is e p shut s = refl
proxy_unasked c h (Gone who) is e p shut s = refl
proxy_unasked c h (Crashed who) is e p shut s = refl

proxy_unasked_run : Laws → (c : Config) (h : List Turn) → IsRun c h → (e p : ℕ) → is_open c h e ≡ false → (s : ProxyState) → proxy_from s h e p ≡ s
proxy_unasked_run laws c [] run e p shut s = refl
proxy_unasked_run laws c (t ∷ h) run e p shut s =
    let before = shut_before laws c h t run.1 run.0 e shut in
    ap (proxy_after t e p) (proxy_unasked_run laws c h run.1 e p before s) ∙ proxy_unasked c h t run.0 e p before s

pub record ProxiesTurn (c : Config) (h : List Turn) (t : Turn) (proxies new : Proxies) : Type 0 where
  pub each : (e p : ℕ) → is_open c h e ≡ true → unwrap_or (tree.get pair_cmp new (e, p)) (new_proxy c h e p) ≡ proxy_after t e p (unwrap_or (tree.get pair_cmp proxies (e, p)) (new_proxy c h e p))
  pub there : (e p : ℕ) → IsSome (tree.get pair_cmp new (e, p)) → is_open c h e ≡ true

pub proxies_next : Laws → (c : Config) (h : List Turn) (t : Turn) → IsRun c h → IsTurn c h t → (proxies new : Proxies) → AreProxies c h proxies → ProxiesTurn c h t proxies new → AreProxies c (t ∷ h) new
proxies_next laws c h t run is proxies new are turn = record {
  there = λ e p some. open_stays laws c h t run is e (turn.there e p some);
  each = λ e p open'. go e p (is_open c h e) refl;
}
  where
    none : (o : Option ProxyState) (e : ℕ) → (IsSome o → is_open c h e ≡ true) → is_open c h e ≡ false → o ≡ None
    none None e there shut = refl
    none (Some s) e there shut = (let d : true ≡ false = sym (there refl) ∙ shut in absurd (cc))

    go : (e p : ℕ) (b : Bool) → is_open c h e ≡ b → unwrap_or (tree.get pair_cmp new (e, p)) (new_proxy c (t ∷ h) e p) ≡ proxy_at c (t ∷ h) e p
    go e p true k =
        let same = same_generation laws c h t run is e k in
        ap (λ g. unwrap_or (tree.get pair_cmp new (e, p)) (new_proxy_in c g e p)) same
        ∙ (turn.each e p k ∙ (ap (proxy_after t e p) (are.each e p k) ∙ sym (proxy_stays laws c h t run is e p k)))
    go e p false k =
        let s = new_proxy c (t ∷ h) e p in
        ap (λ o. unwrap_or o s) (none (tree.get pair_cmp new (e, p)) e (turn.there e p) k)
        ∙ sym (ap (proxy_after t e p) (proxy_unasked_run laws c h run e p k s) ∙ proxy_unasked c h t is e p k s)
