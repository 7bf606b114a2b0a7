-- A rule for what is true of each proxy of an open epoch: of a new one, after a batch, after a tell, and later on.
use Rattle.std.proofs.Common.{◌≡◌, ℕ, ◌-◌, Bool, true, false, cond, nat_lt, ◌==◌, ◌&&◌, List, [], ◌∷◌, Some, refl, sym, ◌∙◌, ap, subst}
use Rattle.std.proofs.lemmas.Bool.{and_parts, eqb-true}
use Rattle.fr_base.specs.declared.place.NodeId.{NodeId}
use Rattle.fr_base.specs.declared.place.NodeId.TheVariants as node
use Rattle.fr_mutation.specs.declared.mutation.Mutation.{Mutation}
use Rattle.fr_state.specs.Generations.{LogGeneration}
use Rattle.fr_ask.specs.declared.tell.Tell.{Tell}
use Rattle.fr_proxy.specs.Proxy as proxy
use Rattle.fr_proxy.specs.Proxy.{ProxyState}
use Rattle.fr_run.specs.Config.{Config}
use Rattle.fr_run.specs.Turn.{Turn, Sending, Begun, CellTurn, LogTurn, SeqTurn, Submitted, ProxyHeard, RecHeard, StorageHeard, Gone, Crashed, Told}
use Rattle.fr_run.specs.Nodes.{generation_at, is_open, proxy_after, proxy_from, new_proxy_in, proxy_at}
use Rattle.fr_run.specs.Run.{IsTurn, IsRun}
use Rattle.fr_run.specs.Batches.{batches_after, batches}
use Rattle.fr_run.specs.Laws.{Laws}
use Rattle.fr_run.proofs.Growth.{open_generation, proxy_stays}
use Rattle.fr_run_headline.proofs.Numbers.{shut_before}

-- ---- epochs that are not open yet

-- a turn of a proxy wants its epoch open
shut_turn : (c : Config) (h : List Turn) (t : Turn) → IsTurn c h t → (e p : ℕ) → is_open c h e ≡ false → (s : ProxyState) (bs : List (List Mutation)) → (proxy_after t e p s ≡ s) × (batches_after t e p bs ≡ bs)
shut_turn c h (Begun b shape asks) is e p shut s bs = (refl, refl)
shut_turn c h (CellTurn from i a t) is e p shut s bs = (refl, refl)
shut_turn c h (LogTurn from x i a t) is e p shut s bs = (refl, refl)
shut_turn c h (SeqTurn from x a t) is e p shut s bs = (refl, refl)
shut_turn c h (Submitted x q step batch asks) is e p shut s bs = go ((x == e) && (q == p)) refl
  where
    go : (b : Bool) → ((x == e) && (q == p)) ≡ b → (cond b (proxy.submitted s step batch) s ≡ s) × (cond b (batch ∷ bs) bs ≡ bs)
    go true at =
        let open' = (and_parts (is_open c h x) (nat_lt q c.proxies) is.0.there).0 in
        let k : false ≡ true = sym shut ∙ (ap (is_open c h) (sym (eqb-true x e (and_parts (x == e) (q == p) at).0)) ∙ open') in
        absurd (cc)
    go false at = (refl, refl)
shut_turn c h (ProxyHeard x q from t outcome asks) is e p shut s bs = go ((x == e) && (q == p)) refl
  where
    go : (b : Bool) → ((x == e) && (q == p)) ≡ b → (cond b (proxy.after_hear s from t) s ≡ s) × (bs ≡ bs)
    go true at =
        let open' = (and_parts (is_open c h x) (nat_lt q c.proxies) is.0.actor.there).0 in
        let k : false ≡ true = sym shut ∙ (ap (is_open c h) (sym (eqb-true x e (and_parts (x == e) (q == p) at).0)) ∙ open') in
        absurd (cc)
    go false at = (refl, refl)
shut_turn c h (RecHeard b from t asks) is e p shut s bs = (refl, refl)
shut_turn c h (StorageHeard tag from t taken fault) is e p shut s bs = (refl, refl)
shut_turn c h (Gone who) is e p shut s bs = (refl, refl)
shut_turn c h (Crashed who) is e p shut s bs = (refl, refl)

-- a proxy of an epoch that is not open would be new, and took no batch
pub shut_run : Laws → (c : Config) (h : List Turn) → IsRun c h → (e p : ℕ) → is_open c h e ≡ false → (s : ProxyState) → (proxy_from s h e p ≡ s) × (batches h e p ≡ [])
shut_run laws c [] run e p shut s = (refl, refl)
shut_run laws c (t ∷ h) run e p shut s =
    let before = shut_before laws c h t run.1 run.0 e shut in
    let k = shut_run laws c h run.1 e p before s in
    let turn = shut_turn c h t run.0 e p before s [] in
    (ap (proxy_after t e p) k.0 ∙ turn.0, ap (batches_after t e p) k.1 ∙ turn.1)

-- ---- the rule

pub record IsProxyRule (c : Config) (P : List Turn → ℕ → ℕ → ProxyState → Type 0) : Type 0 where
  pub starts : (h : List Turn) → IsRun c h → (e p : ℕ) (g : LogGeneration) → generation_at c h e ≡ Some g → is_open c h e ≡ true → P h e p (proxy.new_proxy e p g.m g.k c.begins (g.first - 1))
  pub lasts : (h : List Turn) (t : Turn) → IsRun c h → IsTurn c h t → (e p : ℕ) → is_open c h e ≡ true → (s : ProxyState) → P h e p s → P (t ∷ h) e p s
  pub takes : (h : List Turn) → IsRun c h → (e p step : ℕ) (batch : List Mutation) (asks : List Sending) → IsTurn c h (Submitted e p step batch asks) → is_open c h e ≡ true → P h e p (proxy_at c h e p)
      → P (Submitted e p step batch asks ∷ h) e p (proxy.submitted (proxy_at c h e p) step batch)
  pub hears : (h : List Turn) → IsRun c h → (e p : ℕ) (from : NodeId) (t : Tell) → Told h from (node.Proxy e p) t → is_open c h e ≡ true → P h e p (proxy_at c h e p) → P h e p (proxy.after_hear (proxy_at c h e p) from t)

turn : (c : Config) (P : List Turn → ℕ → ℕ → ProxyState → Type 0) → IsProxyRule c P → (h : List Turn) (t : Turn) → IsRun c h → IsTurn c h t → (e p : ℕ) → is_open c h e ≡ true → P h e p (proxy_at c h e p)
    → P (t ∷ h) e p (proxy_after t e p (proxy_at c h e p))
turn c P rule h (Begun b shape asks) run is e p op k = rule.lasts h (Begun b shape asks) run is e p op (proxy_at c h e p) k
turn c P rule h (CellTurn from i a t) run is e p op k = rule.lasts h (CellTurn from i a t) run is e p op (proxy_at c h e p) k
turn c P rule h (LogTurn from x i a t) run is e p op k = rule.lasts h (LogTurn from x i a t) run is e p op (proxy_at c h e p) k
turn c P rule h (SeqTurn from x a t) run is e p op k = rule.lasts h (SeqTurn from x a t) run is e p op (proxy_at c h e p) k
turn c P rule h (Submitted x q step batch asks) run is e p op k = go ((x == e) && (q == p)) refl
  where
    go : (b : Bool) → ((x == e) && (q == p)) ≡ b → P (Submitted x q step batch asks ∷ h) e p (cond b (proxy.submitted (proxy_at c h e p) step batch) (proxy_at c h e p))
    go true at =
        let parts = and_parts (x == e) (q == p) at in
        let i : x ≡ e = eqb-true x e parts.0 in
        let j : q ≡ p = eqb-true q p parts.1 in
        let before : P h x q (proxy_at c h x q) = subst (λ y. P h y q (proxy_at c h y q)) (sym i) (subst (λ z. P h e z (proxy_at c h e z)) (sym j) k) in
        let own = rule.takes h run x q step batch asks is (subst (λ y. is_open c h y ≡ true) (sym i) op) before in
        subst (λ z. P (Submitted x q step batch asks ∷ h) e z (proxy.submitted (proxy_at c h e z) step batch)) j
        (subst (λ y. P (Submitted x q step batch asks ∷ h) y q (proxy.submitted (proxy_at c h y q) step batch)) i own)
    go false at = rule.lasts h (Submitted x q step batch asks) run is e p op (proxy_at c h e p) k
turn c P rule h (ProxyHeard x q from u outcome asks) run is e p op k = go ((x == e) && (q == p)) refl
  where
    go : (b : Bool) → ((x == e) && (q == p)) ≡ b → P (ProxyHeard x q from u outcome asks ∷ h) e p (cond b (proxy.after_hear (proxy_at c h e p) from u) (proxy_at c h e p))
    go true at =
        let parts = and_parts (x == e) (q == p) at in
        let told : Told h from (node.Proxy e p) u = subst (λ n. Told h from n u) (ap (λ y. node.Proxy y q) (eqb-true x e parts.0) ∙ ap (node.Proxy e) (eqb-true q p parts.1)) is.0.told in
        rule.lasts h (ProxyHeard x q from u outcome asks) run is e p op (proxy.after_hear (proxy_at c h e p) from u) (rule.hears h run e p from u told op k)
    go false at = rule.lasts h (ProxyHeard x q from u outcome asks) run is e p op (proxy_at c h e p) k
turn c P rule h (RecHeard b from t asks) run is e p op k = rule.lasts h (RecHeard b from t asks) run is e p op (proxy_at c h e p) k
turn c P rule h (StorageHeard tag from t taken fault) run is e p op k = rule.lasts h (StorageHeard tag from t taken fault) run is e p op (proxy_at c h e p) k
turn c P rule h (Gone who) run is e p op k = rule.lasts h (Gone who) run is e p op (proxy_at c h e p) k
turn c P rule h (Crashed who) run is e p op k = rule.lasts h (Crashed who) run is e p op (proxy_at c h e p) k

-- a proxy of an epoch that is open, of which nothing was asked yet
fresh : Laws → (c : Config) (P : List Turn → ℕ → ℕ → ProxyState → Type 0) → IsProxyRule c P → (h : List Turn) → IsRun c h → (e p : ℕ) → is_open c h e ≡ true → P h e p (new_proxy_in c (generation_at c h e) e p)
fresh laws c P rule h run e p op =
    let g = open_generation laws c h run e op in
    subst (λ o. P h e p (new_proxy_in c o e p)) (sym g.is) (rule.starts h run e p g.generation g.is op)

next : Laws → (c : Config) (P : List Turn → ℕ → ℕ → ProxyState → Type 0) → IsProxyRule c P → (h : List Turn) (t : Turn) → IsRun c h → IsTurn c h t → (e p : ℕ) → (is_open c h e ≡ true → P h e p (proxy_at c h e p)) → is_open c (t ∷ h) e ≡ true
    → P (t ∷ h) e p (proxy_at c (t ∷ h) e p)
next laws c P rule h t run is e p before op = go (is_open c h e) refl
  where
    go : (b : Bool) → is_open c h e ≡ b → P (t ∷ h) e p (proxy_at c (t ∷ h) e p)
    go true was = subst (P (t ∷ h) e p) (sym (proxy_stays laws c h t run is e p was)) (turn c P rule h t run is e p was (before was))
    go false shut =
        let s = new_proxy_in c (generation_at c (t ∷ h) e) e p in
        let same : proxy_at c (t ∷ h) e p ≡ s = ap (proxy_after t e p) (shut_run laws c h run e p shut s).0 ∙ (shut_turn c h t is e p shut s []).0 in
        subst (P (t ∷ h) e p) (sym same) (fresh laws c P rule (t ∷ h) (is, run) e p op)

pub proxy_holds : Laws → (c : Config) (P : List Turn → ℕ → ℕ → ProxyState → Type 0) → IsProxyRule c P → (h : List Turn) → IsRun c h → (e p : ℕ) → is_open c h e ≡ true → P h e p (proxy_at c h e p)
proxy_holds laws c P rule [] run e p op = fresh laws c P rule [] run e p op
proxy_holds laws c P rule (t ∷ h) run e p op = next laws c P rule h t run.1 run.0 e p (λ was. proxy_holds laws c P rule h run.1 e p was) op
