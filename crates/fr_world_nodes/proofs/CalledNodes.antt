-- What a world keeps, once a proxy is kept from its first call on, and after the turns of proxies.
use Rattle.std.proofs.Common.{◌≡◌, ℕ, Bool, true, false, cond, ◌==◌, ◌&&◌, ◌||◌, ◌-◌, not, nat_lt, List, [], ◌∷◌, Option, None, Some, option_map, refl, sym, ◌∙◌, ap, subst, arith}
use Rattle.std.specs.Prelude.{unwrap_or, IsSome, IfSome, is_some}
use Rattle.std.specs.Ordering.{nat_cmp, ordering_then, is_eq}
use Rattle.std.specs.declared.cmp.Ordering.TheVariants.{Less, Equal, Greater}
use Rattle.std.specs.BTreeMap as tree
use Rattle.std.proofs.lemmas.Bool.{and_parts, eqb-true, eq-eqb, ltb-true}
use Rattle.fr_base.proofs.MapLemmas.{one_key}
use Rattle.fr_base.specs.declared.place.NodeId.{NodeId}
use Rattle.fr_base.specs.declared.place.NodeId.TheVariants as node
use Rattle.fr_mutation.specs.declared.mutation.Mutation.{Mutation}
use Rattle.fr_ask.specs.declared.ask.Ask.{Ask}
use Rattle.fr_proxy.specs.declared.fault.SubmitFault.TheVariants.{TwoOpen, Over}
use Rattle.fr_register.specs.CellState.{CellState}
use Rattle.fr_ask.specs.declared.tell.Tell.{Tell}
use Rattle.fr_state.specs.Generations.{LogGeneration}
use Rattle.fr_proxy.specs.Proxy as proxy
use Rattle.fr_proxy.specs.Proxy.{ProxyState}
use Rattle.fr_proxy.specs.declared.outcome.Outcome.{Outcome}
use Rattle.fr_epoch.specs.Recoverer.{RecState, Plan}
use Rattle.fr_run.specs.Config.{Config, first_epoch, first_generation}
use Rattle.fr_run.specs.Turn.{Turn, Sending, Submitted, ProxyHeard}
use Rattle.fr_run.specs.Nodes.{rec_at, plan_in, plan_at, generation_in, generation_at, is_open, is_open_in, new_proxy_in, proxy_from, proxy_at}
use Rattle.fr_run.specs.Run.{IsUp, IsTurn, IsRun}
use Rattle.fr_run.specs.Laws.{Laws}
use Rattle.fr_run.proofs.ByTurn.{proxy_by_turn}
use Rattle.fr_run.proofs.Growth.{opener, open_generation}
use Rattle.fr_world_nodes.specs.Parts.{pair_cmp, Logs, Sequencers, Proxies, Recoverers, Storages, AreProxies, IsWorld, new_proxy}
use Rattle.fr_world_nodes.specs.Kept.{WorldState}
use Rattle.fr_world_nodes.proofs.Keys.{pair_cmp-IsAntisymmetric}
use Rattle.fr_world_nodes.proofs.Stands.{logs_next, sequencers_next, proxies_next}

-- ---- places of pairs

nat_cmp-same : (n : ℕ) → nat_cmp n n ≡ Equal
nat_cmp-same n = go (nat_lt n n) refl
  where
    go : (b : Bool) → nat_lt n n ≡ b → cond b Less (cond (n == n) Equal Greater) ≡ Equal
    go true k = (let l = ltb-true n n k in absurd (omega (arith, l)))
    go false k = ap (λ b. cond b Equal Greater) (eq-eqb n n refl)

pair_cmp-same : (p : ℕ × ℕ) → pair_cmp p p ≡ Equal
pair_cmp-same p = ap (λ o. ordering_then o (nat_cmp p.1 p.1)) (nat_cmp-same p.0) ∙ nat_cmp-same p.1

-- two pairs are at one place where both their parts are the same
at_pair : (e p e' p' : ℕ) → tree.is_at (pair_cmp (e, p)) (e', p') ≡ ((e == e') && (p == p'))
at_pair e p e' p' = go (tree.is_at (pair_cmp (e, p)) (e', p')) refl
  where
    both : (b d : Bool) → b ≡ true → d ≡ true → (b && d) ≡ true
    both b d k l = ap (λ x. x && d) k ∙ l

    apart : (b : Bool) → ((e == e') && (p == p')) ≡ b → is_eq (pair_cmp (e, p) (e', p')) ≡ false → b ≡ false
    apart true k h =
        (let parts = and_parts (e == e') (p == p') k in
        let a : e ≡ e' = eqb-true e e' parts.0 in
        let b : p ≡ p' = eqb-true p p' parts.1 in
        let d : is_eq (pair_cmp (e, p) (e, p)) ≡ false = subst (λ n. is_eq (pair_cmp (e, p) (e, n)) ≡ false) (sym b) (subst (λ n. is_eq (pair_cmp (e, p) (n, p')) ≡ false) (sym a) h) in
        let z : true ≡ false = sym (ap is_eq (pair_cmp-same (e, p))) ∙ d in absurd (cc))
    apart false k h = refl

    go : (b : Bool) → tree.is_at (pair_cmp (e, p)) (e', p') ≡ b → b ≡ ((e == e') && (p == p'))
    go true k =
        let same = one_key pair_cmp-IsAntisymmetric (e, p) (e', p') k in
        sym (both (e == e') (p == p') (eq-eqb e e' (ap (λ (q : ℕ × ℕ). q.0) same)) (eq-eqb p p' (ap (λ (q : ℕ × ℕ). q.1) same)))
    go false k = sym (apart ((e == e') && (p == p')) refl k)

-- ---- a proxy is kept

-- proxies of which one more is kept, as it was made
pub proxies_more : (c : Config) (h : List Turn) (proxies new : Proxies) (e p : ℕ) → AreProxies c h proxies → is_open c h e ≡ true → tree.get pair_cmp proxies (e, p) ≡ None
    → ((q : ℕ × ℕ) → tree.get pair_cmp new q ≡ cond (tree.is_at (pair_cmp (e, p)) q) (Some (new_proxy c h e p)) (tree.get pair_cmp proxies q)) → AreProxies c h new
proxies_more c h proxies new e p are open' none put = record { there = there; each = each }
  where
    there : (x n : ℕ) → IsSome (tree.get pair_cmp new (x, n)) → is_open c h x ≡ true
    there x n some = go (tree.is_at (pair_cmp (e, p)) (x, n)) refl (subst IsSome (put (x, n)) some)
      where
        go : (b : Bool) → tree.is_at (pair_cmp (e, p)) (x, n) ≡ b → IsSome (cond b (Some (new_proxy c h e p)) (tree.get pair_cmp proxies (x, n))) → is_open c h x ≡ true
        go true k s = let same = one_key pair_cmp-IsAntisymmetric (e, p) (x, n) k in subst (λ y. is_open c h y ≡ true) (ap (λ (q : ℕ × ℕ). q.0) same) open'
        go false k s = are.there x n s

    each : (x n : ℕ) → is_open c h x ≡ true → unwrap_or (tree.get pair_cmp new (x, n)) (new_proxy c h x n) ≡ proxy_at c h x n
    each x n o = ap (λ v. unwrap_or v (new_proxy c h x n)) (put (x, n)) ∙ go (tree.is_at (pair_cmp (e, p)) (x, n)) refl
      where
        own : tree.is_at (pair_cmp (e, p)) (x, n) ≡ true → new_proxy c h e p ≡ proxy_at c h x n
        own k =
            let same = one_key pair_cmp-IsAntisymmetric (e, p) (x, n) k in
            let made : new_proxy c h e p ≡ proxy_at c h e p = sym (ap (λ v. unwrap_or v (new_proxy c h e p)) none) ∙ are.each e p open' in
            made ∙ ap (λ (q : ℕ × ℕ). proxy_at c h q.0 q.1) same

        go : (b : Bool) → tree.is_at (pair_cmp (e, p)) (x, n) ≡ b → unwrap_or (cond b (Some (new_proxy c h e p)) (tree.get pair_cmp proxies (x, n))) (new_proxy c h x n) ≡ proxy_at c h x n
        go true k = own k
        go false k = are.each x n o

-- ---- a proxy is made

-- an open epoch that is not the first has a recoverer, which has a plan
pub open_recoverer : (c : Config) (h : List Turn) (e : ℕ) → is_open c h e ≡ true → (e == first_epoch) ≡ false → IsSome (rec_at c h e)
open_recoverer c h e open' other = let o = opener c h e (sym (ap (λ b. b || is_open_in (rec_at c h e)) other) ∙ open') in ap is_some o.at

pub open_plan : Laws → (c : Config) (h : List Turn) → IsRun c h → (e : ℕ) → is_open c h e ≡ true → (e == first_epoch) ≡ false → (r : RecState) → rec_at c h e ≡ Some r → IsSome r.plan
open_plan laws c h run e open' other r at =
    let g = open_generation laws c h run e open' in
    go r.plan (sym (ap (λ s. cond s (Some (first_generation c)) (generation_in (plan_at c h e))) other ∙ ap (λ o. generation_in (plan_in o)) at) ∙ g.is)
  where
    go : (o : Option Plan) {g : LogGeneration} → generation_in o ≡ Some g → IsSome o
    go None k = absurd (cc)
    go (Some p) k = refl

pub made_proxy : (c : Config) (h : List Turn) (e n : ℕ) → (e == first_epoch) ≡ false → (r : RecState) → rec_at c h e ≡ Some r → IsSome r.plan → (s : ProxyState)
    → IfSome r.plan (λ p. s ≡ proxy.new_proxy e n p.generation.m p.generation.k c.begins (p.generation.first - 1)) → s ≡ new_proxy c h e n
made_proxy c h e n other r at some s made =
    go r.plan some made ∙ sym (ap (λ g. new_proxy_in c g e n) (ap (λ s. cond s (Some (first_generation c)) (generation_in (plan_at c h e))) other ∙ ap (λ o. generation_in (plan_in o)) at))
  where
    go : (o : Option Plan) → IsSome o → IfSome o (λ p. s ≡ proxy.new_proxy e n p.generation.m p.generation.k c.begins (p.generation.first - 1)) → s ≡ new_proxy_in c (generation_in o) e n
    go None k m = absurd (cc)
    go (Some p) k m = m

-- ---- a proxy is called

-- a proxy that is kept is the one of what happened
pub proxy_is : (c : Config) (h : List Turn) (proxies : Proxies) → AreProxies c h proxies → (e p : ℕ) → is_open c h e ≡ true → (P : ProxyState → Type 0) → IsSome (tree.get pair_cmp proxies (e, p)) → IfSome (tree.get pair_cmp proxies (e, p)) P
    → P (proxy_at c h e p)
proxy_is c h proxies are e p open' P some k = go (tree.get pair_cmp proxies (e, p)) some k (are.each e p open')
  where
    go : (o : Option ProxyState) → IsSome o → IfSome o P → unwrap_or o (new_proxy c h e p) ≡ proxy_at c h e p → P (proxy_at c h e p)
    go None s k same = absurd (cc)
    go (Some x) s k same = subst P same k

-- and so is that one, of which something is true
pub kept_is : (c : Config) (h : List Turn) (proxies : Proxies) → AreProxies c h proxies → (e p : ℕ) → is_open c h e ≡ true → (P : ProxyState → Type 0) → P (proxy_at c h e p) → IfSome (tree.get pair_cmp proxies (e, p)) P
kept_is c h proxies are e p open' P k = go (tree.get pair_cmp proxies (e, p)) (are.each e p open')
  where
    go : (o : Option ProxyState) → unwrap_or o (new_proxy c h e p) ≡ proxy_at c h e p → IfSome o P
    go None same = tt
    go (Some x) same = subst P (sym same) k

-- of a proxy of which a turn makes something, and of each other one
one_called : (e p : ℕ) (f : ProxyState → ProxyState) (proxies new : Proxies) → IsSome (tree.get pair_cmp proxies (e, p))
    → ((q : ℕ × ℕ) → tree.get pair_cmp new q ≡ cond (tree.is_at (pair_cmp (e, p)) q) (option_map f (tree.get pair_cmp proxies (e, p))) (tree.get pair_cmp proxies q)) → (x n : ℕ) (d : ProxyState)
    → unwrap_or (tree.get pair_cmp new (x, n)) d ≡ cond ((e == x) && (p == n)) (f (unwrap_or (tree.get pair_cmp proxies (x, n)) d)) (unwrap_or (tree.get pair_cmp proxies (x, n)) d)
one_called e p f proxies new some put x n d = ap (λ o. unwrap_or o d) (put (x, n)) ∙ (go (tree.is_at (pair_cmp (e, p)) (x, n)) refl ∙ ap (λ b. cond b (f (unwrap_or (tree.get pair_cmp proxies (x, n)) d)) (unwrap_or (tree.get pair_cmp proxies (x, n)) d)) (at_pair e p x n))
  where
    mapped : (o : Option ProxyState) → IsSome o → unwrap_or (option_map f o) d ≡ f (unwrap_or o d)
    mapped None s = absurd (cc)
    mapped (Some y) s = refl

    go : (b : Bool) → tree.is_at (pair_cmp (e, p)) (x, n) ≡ b
        → unwrap_or (cond b (option_map f (tree.get pair_cmp proxies (e, p))) (tree.get pair_cmp proxies (x, n))) d ≡ cond b (f (unwrap_or (tree.get pair_cmp proxies (x, n)) d)) (unwrap_or (tree.get pair_cmp proxies (x, n)) d)
    go true k =
        let same = one_key pair_cmp-IsAntisymmetric (e, p) (x, n) k in
        mapped (tree.get pair_cmp proxies (e, p)) some ∙ ap (λ q. f (unwrap_or (tree.get pair_cmp proxies q) d)) same
    go false k = refl

called_there : (c : Config) (h : List Turn) (e p : ℕ) (f : ProxyState → ProxyState) (proxies new : Proxies) → AreProxies c h proxies → is_open c h e ≡ true
    → ((q : ℕ × ℕ) → tree.get pair_cmp new q ≡ cond (tree.is_at (pair_cmp (e, p)) q) (option_map f (tree.get pair_cmp proxies (e, p))) (tree.get pair_cmp proxies q))
    → (x n : ℕ) → IsSome (tree.get pair_cmp new (x, n)) → is_open c h x ≡ true
called_there c h e p f proxies new are open' put x n some = go (tree.is_at (pair_cmp (e, p)) (x, n)) refl (subst IsSome (put (x, n)) some)
  where
    go : (b : Bool) → tree.is_at (pair_cmp (e, p)) (x, n) ≡ b → IsSome (cond b (option_map f (tree.get pair_cmp proxies (e, p))) (tree.get pair_cmp proxies (x, n))) → is_open c h x ≡ true
    go true k s = let same = one_key pair_cmp-IsAntisymmetric (e, p) (x, n) k in subst (λ y. is_open c h y ≡ true) (ap (λ (q : ℕ × ℕ). q.0) same) open'
    go false k s = are.there x n s

-- ---- a proxy hears

abbrev pub heard_in : WorldState → ℕ → ℕ → NodeId → Tell → Turn
heard_in w e p from t = ProxyHeard e p from t (proxy.outcome_of (proxy_at w.config w.turns e p) from t) (proxy.new_asks (proxy_at w.config w.turns e p) from t)

-- a proxy that has a turn is of an open epoch
pub heard_open : (c : Config) (h : List Turn) (e p : ℕ) (from : NodeId) (t : Tell) (outcome : Outcome) (asks : List Sending) → IsTurn c h (ProxyHeard e p from t outcome asks) → is_open c h e ≡ true
heard_open c h e p from t outcome asks is = let there = and_parts (is_open c h e) (nat_lt p c.proxies) is.0.actor.there in there.0

-- what is true of a turn in a world is so in an equal one
pub heard_same : (w v : WorldState) → w ≡ v → (e p : ℕ) (from : NodeId) (t : Tell) → IsTurn v.config v.turns (heard_in v e p from t) → IsTurn w.config w.turns (heard_in w e p from t)
heard_same w v same e p from t is = subst (λ x. IsTurn x.config x.turns (heard_in x e p from t)) (sym same) is

-- what the proxy says
pub heard_says : (c : Config) (h : List Turn) (e p : ℕ) (by from : NodeId) (t : Tell) (outcome : Outcome) (proxies : Proxies) → AreProxies c h proxies → is_open c h e ≡ true → IsSome (tree.get pair_cmp proxies (e, p)) → by ≡ from
    → IfSome (tree.get pair_cmp proxies (e, p)) (λ s. outcome ≡ proxy.outcome_of s by t) → outcome ≡ proxy.outcome_of (proxy_at c h e p) from t
heard_says c h e p by from t outcome proxies are open' some named says =
    proxy_is c h proxies are e p open' (λ s. outcome ≡ proxy.outcome_of s by t) some says ∙ ap (λ x. proxy.outcome_of (proxy_at c h e p) x t) named

-- the turn as the code enters it
pub heard_entered : (c : Config) (h : List Turn) (e p : ℕ) (by from : NodeId) (t kept : Tell) (outcome : Outcome) (asks : List Sending) (proxies : Proxies) → AreProxies c h proxies → is_open c h e ≡ true
    → IsSome (tree.get pair_cmp proxies (e, p)) → by ≡ from → kept ≡ t → IfSome (tree.get pair_cmp proxies (e, p)) (λ s. outcome ≡ proxy.outcome_of s by t) → IfSome (tree.get pair_cmp proxies (e, p)) (λ s. asks ≡ proxy.new_asks s by t)
    → ProxyHeard e p from kept outcome asks ≡ ProxyHeard e p from t (proxy.outcome_of (proxy_at c h e p) from t) (proxy.new_asks (proxy_at c h e p) from t)
heard_entered c h e p by from t kept outcome asks proxies are open' some named same says sends =
    let a = heard_says c h e p by from t outcome proxies are open' some named says in
    let b : asks ≡ proxy.new_asks (proxy_at c h e p) from t = proxy_is c h proxies are e p open' (λ s. asks ≡ proxy.new_asks s by t) some sends ∙ ap (λ x. proxy.new_asks (proxy_at c h e p) x t) named in
    ap (λ x. ProxyHeard e p from x outcome asks) same ∙ (ap (λ x. ProxyHeard e p from t x asks) a ∙ ap (ProxyHeard e p from t (proxy.outcome_of (proxy_at c h e p) from t)) b)

pub heard_world : Laws → (c : Config) (h later : List Turn) (e p : ℕ) (by from : NodeId) (t : Tell) (outcome : Outcome) (asks : List Sending) (cells : List CellState) (logs : Logs) (sequencers : Sequencers) (proxies new : Proxies) (recoverers : Recoverers) (storages : Storages)
    → IsWorld c h cells logs sequencers proxies recoverers storages → IsTurn c h (ProxyHeard e p from t outcome asks) → IsSome (tree.get pair_cmp proxies (e, p)) → by ≡ from
    → ((q : ℕ × ℕ) → tree.get pair_cmp new q ≡ cond (tree.is_at (pair_cmp (e, p)) q) (option_map (λ s. proxy.after_hear s by t) (tree.get pair_cmp proxies (e, p))) (tree.get pair_cmp proxies q))
    → later ≡ ProxyHeard e p from t outcome asks ∷ h → IsWorld c later cells logs sequencers new recoverers storages
heard_world laws c h later e p by from t outcome asks cells logs sequencers proxies new recoverers storages w is some named put entered =
    subst (λ x. IsWorld c x cells logs sequencers new recoverers storages) (sym entered) (record {
      within = w.within;
      run = (is, w.run);
      cells_are = record { all = w.cells_are.all; each = w.cells_are.each };
      logs_are = logs_next laws c h turn w.run is logs logs w.logs_are (record { each = λ x i l. refl; there = w.logs_are.there });
      sequencers_are = sequencers_next laws c h turn w.run is sequencers sequencers w.sequencers_are (record { each = λ x o. refl; there = w.sequencers_are.there });
      proxies_are = proxies_next laws c h turn w.run is proxies new w.proxies_are (record {
        each = λ x n o. one_called e p (λ s. proxy.after_hear s from t) proxies new some own x n (new_proxy c h x n);
        there = called_there c h e p (λ s. proxy.after_hear s from t) proxies new w.proxies_are (heard_open c h e p from t outcome asks is) own;
      });
      recoverers_are = w.recoverers_are;
      storages_are = record { all = w.storages_are.all; each = w.storages_are.each; work = w.storages_are.work };
    })
  where
    turn : Turn
    turn = ProxyHeard e p from t outcome asks

    own : (q : ℕ × ℕ) → tree.get pair_cmp new q ≡ cond (tree.is_at (pair_cmp (e, p)) q) (option_map (λ s. proxy.after_hear s from t) (tree.get pair_cmp proxies (e, p))) (tree.get pair_cmp proxies q)
    own = subst (λ x. (q : ℕ × ℕ) → tree.get pair_cmp new q ≡ cond (tree.is_at (pair_cmp (e, p)) q) (option_map (λ s. proxy.after_hear s x t) (tree.get pair_cmp proxies (e, p))) (tree.get pair_cmp proxies q)) named put

-- ---- a proxy takes a batch

-- a proxy is of its epoch
pub proxy_epoch : Laws → (c : Config) (h : List Turn) (e p : ℕ) → (proxy_at c h e p).epoch ≡ e
proxy_epoch laws c h e p = after h ∙ made (generation_at c h e)
  where
    s : ProxyState
    s = new_proxy_in c (generation_at c h e) e p

    made : (o : Option LogGeneration) → (new_proxy_in c o e p).epoch ≡ e
    made None = refl
    made (Some g) = refl

    after : (k : List Turn) → (proxy_from s k e p).epoch ≡ s.epoch
    after [] = refl
    after (t ∷ k) = let before = after k in proxy_by_turn t e p (proxy_from s k e p) (λ q. q.epoch ≡ s.epoch) before (λ step batch. before) (λ from u. (laws.proxy_hear (proxy_from s k e p) from u).epoch ∙ before)

-- one that has no reason against a batch takes it
pub may_take : (s : ProxyState) → proxy.submit_fault s ≡ None → proxy.takes_batch s ≡ true
may_take s = go (is_some s.under_way) (proxy.is_over s)
  where
    go : (a b : Bool) → cond a (Some TwoOpen) (cond b (Some Over) None) ≡ None → (not a && not b) ≡ true
    go true b k = absurd (cc)
    go false true k = absurd (cc)
    go false false k = refl

abbrev pub taken_in : WorldState → ℕ → ℕ → ℕ → List Mutation → Turn
taken_in w e p step batch = Submitted e p step batch (proxy.number_ask (proxy_at w.config w.turns e p) (proxy.opened (proxy_at w.config w.turns e p) step batch) ∷ [])

pub up_same : (w v : WorldState) → w ≡ v → (who : NodeId) → IsUp v.config v.turns who → IsUp w.config w.turns who
up_same w v same who up = subst (λ x. IsUp x.config x.turns who) (sym same) up

pub takes_same : (w v : WorldState) → w ≡ v → (e p : ℕ) → proxy.submit_fault (proxy_at v.config v.turns e p) ≡ None → proxy.submit_fault (proxy_at w.config w.turns e p) ≡ None
takes_same w v same e p takes = subst (λ x. proxy.submit_fault (proxy_at x.config x.turns e p) ≡ None) (sym same) takes

pub up_open : (c : Config) (h : List Turn) (e p : ℕ) → IsUp c h (node.Proxy e p) → is_open c h e ≡ true
up_open c h e p up = let there = and_parts (is_open c h e) (nat_lt p c.proxies) up.there in there.0

-- the turn as the code enters it
pub taken_entered : Laws → (c : Config) (h : List Turn) (e p step : ℕ) (batch kept given : List Mutation) (a : Ask) (proxies : Proxies) → AreProxies c h proxies → is_open c h e ≡ true → IsSome (tree.get pair_cmp proxies (e, p))
    → kept ≡ batch → given ≡ batch → IfSome (tree.get pair_cmp proxies (e, p)) (λ s. a ≡ (proxy.number_ask s (proxy.opened s step given)).1)
    → Submitted e p step kept ((node.Sequencer e, a) ∷ []) ≡ Submitted e p step batch (proxy.number_ask (proxy_at c h e p) (proxy.opened (proxy_at c h e p) step batch) ∷ [])
taken_entered laws c h e p step batch kept given a proxies are open' some same copied asks =
    let s = proxy_at c h e p in
    let b : a ≡ (proxy.number_ask s (proxy.opened s step batch)).1 = proxy_is c h proxies are e p open' (λ s. a ≡ (proxy.number_ask s (proxy.opened s step given)).1) some asks in
    ap (λ x. Submitted e p step x ((node.Sequencer e, a) ∷ [])) same
    ∙ (ap (λ x. Submitted e p step batch ((node.Sequencer e, x) ∷ [])) b ∙ ap (λ x. Submitted e p step batch ((node.Sequencer x, (proxy.number_ask s (proxy.opened s step batch)).1) ∷ [])) (sym (proxy_epoch laws c h e p)))

pub taken_world : Laws → (c : Config) (h later : List Turn) (e p step : ℕ) (batch given : List Mutation) (asks : List Sending) (cells : List CellState) (logs : Logs) (sequencers : Sequencers) (proxies new : Proxies) (recoverers : Recoverers) (storages : Storages)
    → IsWorld c h cells logs sequencers proxies recoverers storages → IsTurn c h (Submitted e p step batch asks) → IsSome (tree.get pair_cmp proxies (e, p)) → given ≡ batch
    → ((q : ℕ × ℕ) → tree.get pair_cmp new q ≡ cond (tree.is_at (pair_cmp (e, p)) q) (option_map (λ s. proxy.submitted s step given) (tree.get pair_cmp proxies (e, p))) (tree.get pair_cmp proxies q))
    → later ≡ Submitted e p step batch asks ∷ h → IsWorld c later cells logs sequencers new recoverers storages
taken_world laws c h later e p step batch given asks cells logs sequencers proxies new recoverers storages w is some copied put entered =
    subst (λ x. IsWorld c x cells logs sequencers new recoverers storages) (sym entered) (record {
      within = w.within;
      run = (is, w.run);
      cells_are = record { all = w.cells_are.all; each = w.cells_are.each };
      logs_are = logs_next laws c h turn w.run is logs logs w.logs_are (record { each = λ x i l. refl; there = w.logs_are.there });
      sequencers_are = sequencers_next laws c h turn w.run is sequencers sequencers w.sequencers_are (record { each = λ x o. refl; there = w.sequencers_are.there });
      proxies_are = proxies_next laws c h turn w.run is proxies new w.proxies_are (record {
        each = λ x n o. one_called e p (λ s. proxy.submitted s step batch) proxies new some own x n (new_proxy c h x n);
        there = called_there c h e p (λ s. proxy.submitted s step batch) proxies new w.proxies_are (up_open c h e p is.0) own;
      });
      recoverers_are = w.recoverers_are;
      storages_are = record { all = w.storages_are.all; each = w.storages_are.each; work = w.storages_are.work };
    })
  where
    turn : Turn
    turn = Submitted e p step batch asks

    own : (q : ℕ × ℕ) → tree.get pair_cmp new q ≡ cond (tree.is_at (pair_cmp (e, p)) q) (option_map (λ s. proxy.submitted s step batch) (tree.get pair_cmp proxies (e, p))) (tree.get pair_cmp proxies q)
    own = subst (λ x. (q : ℕ × ℕ) → tree.get pair_cmp new q ≡ cond (tree.is_at (pair_cmp (e, p)) q) (option_map (λ s. proxy.submitted s step x) (tree.get pair_cmp proxies (e, p))) (tree.get pair_cmp proxies q)) copied put
