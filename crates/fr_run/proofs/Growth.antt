-- At each turn of a run every node that is there grows.
use Rattle.std.proofs.Common.{◌≡◌, ◌≢◌, ℕ, ◌<◌, ◌≤◌, ◌^◌, Bool, true, false, cond, ◌==◌, ◌||◌, List, [], ◌∷◌, Option, None, Some, refl, sym, ◌∙◌, ap, subst, arith}
use Rattle.std.specs.Prelude.{IfSome}
use Rattle.fr_base.specs.Shape.{ShapeContent, IsShape}
use Rattle.fr_state.specs.Generations.{LogGeneration}
use Rattle.fr_log.specs.Law.{Grows}
use Rattle.fr_proxy.specs.Proxy as proxy
use Rattle.fr_proxy.specs.Law.{ProxyGrows}
use Rattle.fr_tail.specs.Tail.{is_complete}
use Rattle.fr_epoch.specs.Recoverer.{RecState, Phase, Plan, Reading, Locking, Copying, Writing, Chosen, Lost, new_recoverer, is_copied_in, is_written_in}
use Rattle.fr_epoch.specs.Hear as rec
use Rattle.fr_epoch.specs.Kept.{IsKept}
use Rattle.fr_epoch.specs.Law.{RecGrows, PlanGrows}
use Rattle.fr_run.specs.Config.{Config, first_epoch, first_generation, first_log}
use Rattle.fr_run.specs.Turn.{Turn}
use Rattle.fr_run.specs.Nodes.{rec_at, plan_in, plan_at, generation_in, generation_at, is_chosen_phase, is_open_in, is_open, logs_in, logs_at, new_log_in, new_log, log_after, log_from, log_at, proxy_after, proxy_from, new_proxy_in, proxy_at}
use Rattle.fr_run.specs.Run.{IsTurn, IsRun, MayBegin}
use Rattle.fr_run.specs.Laws.{Laws}
use Rattle.fr_run.proofs.ByTurn.{rec_by_turn, log_by_turn, proxy_by_turn}

-- ---- recoverers

pub record IsRecOf (b : ℕ) (r : RecState) : Type 0 where
  pub kept : IsKept r
  pub ballot : r.ballot ≡ b
  pub other : b ≢ first_epoch
  pub low : 256 ≤ b
  pub high : b < 2 ^ 48

pub new_is : Laws → (c : Config) (b : ℕ) (shape : Option ShapeContent) → MayBegin b → IfSome shape IsShape → IsRecOf b (new_recoverer b c.cells c.begins shape)
new_is laws c b shape may is = record {
  kept = laws.rec_new b c.cells c.begins shape may.1.0 may.1.1 is;
  ballot = refl;
  other = may.0;
  low = may.1.0;
  high = may.1.1;
}

-- each recoverer is kept as it must be, and of its ballot
pub recs_are : Laws → (c : Config) (h : List Turn) → IsRun c h → (b : ℕ) → IfSome (rec_at c h b) (IsRecOf b)
recs_are laws c [] run b = tt
recs_are laws c (t ∷ h) run b =
    rec_by_turn c h t run.0 b (λ o. IfSome o (IsRecOf b)) (recs_are laws c h run.1 b) (λ shape none may is. new_is laws c b shape may is) (λ r from tell at told.
    let is : IsRecOf b r = subst (λ o. IfSome o (IsRecOf b)) at (recs_are laws c h run.1 b) in
    record {
      kept = laws.rec_kept r from tell is.kept;
      ballot = (laws.rec_grows r from tell is.kept.come_by).ballot ∙ is.ballot;
      other = is.other;
      low = is.low;
      high = is.high;
    })

pub rec_is : Laws → (c : Config) (h : List Turn) → IsRun c h → (b : ℕ) (r : RecState) → rec_at c h b ≡ Some r → IsRecOf b r
rec_is laws c h run b r at = subst (λ o. IfSome o (IsRecOf b)) at (recs_are laws c h run b)

grows_itself : (r : RecState) → RecGrows r r
grows_itself r = record {
  ballot = refl;
  begins = refl;
  shape = refl;
  reads = λ e. refl;
  parent = λ e. refl;
  plan = λ p e. (p, e, record { state = refl; generation = refl; complete = λ k. refl });
  copied = λ k. refl;
  written = λ k. k;
  chosen = λ k. k;
}

-- one recoverer is another, later on
pub record IsLater (r : RecState) (o : Option RecState) : Type 0 where
  pub later : RecState
  pub is : o ≡ Some later
  pub grows : RecGrows r later

pub rec_grows : Laws → (c : Config) (h : List Turn) (t : Turn) → IsRun c h → IsTurn c h t → (b : ℕ) (r : RecState) → rec_at c h b ≡ Some r → IsLater r (rec_at c (t ∷ h) b)
rec_grows laws c h t run is b r at =
    rec_by_turn c h t is b (IsLater r) (record { later = r; is = at; grows = grows_itself r }) (λ shape none unused is. let k : None ≡ Some r = sym none ∙ at in absurd (cc))
    (λ s from tell at' told. let k : Some r ≡ Some s = sym at ∙ at' in let j : r ≡ s = cc in
    record { later = rec.after_hear s from tell; is = refl; grows = subst (λ x. RecGrows x (rec.after_hear s from tell)) (sym j) (laws.rec_grows s from tell (rec_is laws c h run b s at').kept.come_by) })

-- ---- plans, generations, and which epochs are open

pub record IsLaterPlan (p : Plan) (o : Option Plan) : Type 0 where
  pub later : Plan
  pub is : o ≡ Some later
  pub grows : PlanGrows p later

pub plan_grows : Laws → (c : Config) (h : List Turn) (t : Turn) → IsRun c h → IsTurn c h t → (b : ℕ) (p : Plan) → plan_at c h b ≡ Some p → IsLaterPlan p (plan_at c (t ∷ h) b)
plan_grows laws c h t run is b p at = go (rec_at c h b) refl
  where
    go : (o : Option RecState) → rec_at c h b ≡ o → IsLaterPlan p (plan_at c (t ∷ h) b)
    go None e = let k : None ≡ Some p = sym (ap plan_in e) ∙ at in absurd (cc)
    go (Some r) e =
        let g = rec_grows laws c h t run is b r e in
        let q = g.grows.plan p (sym (ap plan_in e) ∙ at) in
        record { later = q.0; is = ap plan_in g.is ∙ q.1; grows = q.2 }

-- a complete copy stands still
pub copied_stays : Laws → (c : Config) (h : List Turn) (t : Turn) → IsRun c h → IsTurn c h t → (b : ℕ) → is_copied_in (plan_at c h b) ≡ true → plan_at c (t ∷ h) b ≡ plan_at c h b
copied_stays laws c h t run is b copied = go (rec_at c h b) refl
  where
    go : (o : Option RecState) → rec_at c h b ≡ o → plan_at c (t ∷ h) b ≡ plan_at c h b
    go None e = let k : false ≡ true = sym (ap (λ o. is_copied_in (plan_in o)) e) ∙ copied in absurd (cc)
    go (Some r) e =
        let g = rec_grows laws c h t run is b r e in
        ap plan_in g.is ∙ g.grows.copied (sym (ap (λ o. is_copied_in (plan_in o)) e) ∙ copied) ∙ sym (ap plan_in e)

pub generation_stays : Laws → (c : Config) (h : List Turn) (t : Turn) → IsRun c h → IsTurn c h t → (e : ℕ) (g : LogGeneration) → generation_at c h e ≡ Some g → generation_at c (t ∷ h) e ≡ Some g
generation_stays laws c h t run is e g = go (e == first_epoch)
  where
    planned : (o : Option Plan) → plan_at c h e ≡ o → generation_in o ≡ Some g → generation_in (plan_at c (t ∷ h) e) ≡ Some g
    planned None at k = absurd (cc)
    planned (Some p) at k = let q = plan_grows laws c h t run is e p at in ap generation_in q.is ∙ ap Some q.grows.generation ∙ k

    go : (s : Bool) → cond s (Some (first_generation c)) (generation_in (plan_at c h e)) ≡ Some g → cond s (Some (first_generation c)) (generation_in (plan_at c (t ∷ h) e)) ≡ Some g
    go true k = k
    go false k = planned (plan_at c h e) refl k

chosen_phase : (ph : Phase) → is_chosen_phase ph ≡ true → ph ≡ Chosen
chosen_phase Reading e = absurd (cc)
chosen_phase Locking e = absurd (cc)
chosen_phase Copying e = absurd (cc)
chosen_phase Writing e = absurd (cc)
chosen_phase Chosen e = refl
chosen_phase (Lost why) e = absurd (cc)

-- the recoverer of an epoch that is open, other than the first, is Chosen
pub record IsOpener (c : Config) (h : List Turn) (e : ℕ) : Type 0 where
  pub recoverer : RecState
  pub at : rec_at c h e ≡ Some recoverer
  pub chosen : recoverer.phase ≡ Chosen

pub opener : (c : Config) (h : List Turn) (e : ℕ) → is_open_in (rec_at c h e) ≡ true → IsOpener c h e
opener c h e is = go (rec_at c h e) refl is
  where
    go : (o : Option RecState) → rec_at c h e ≡ o → is_open_in o ≡ true → IsOpener c h e
    go None at k = absurd (cc)
    go (Some r) at k = record { recoverer = r; at = at; chosen = chosen_phase r.phase k }

pub open_stays : Laws → (c : Config) (h : List Turn) (t : Turn) → IsRun c h → IsTurn c h t → (e : ℕ) → is_open c h e ≡ true → is_open c (t ∷ h) e ≡ true
open_stays laws c h t run is e = go (e == first_epoch)
  where
    go : (s : Bool) → (s || is_open_in (rec_at c h e)) ≡ true → (s || is_open_in (rec_at c (t ∷ h) e)) ≡ true
    go true k = refl
    go false k =
        let o = opener c h e k in
        let g = rec_grows laws c h t run is e o.recoverer o.at in
        ap is_open_in g.is ∙ ap is_chosen_phase (g.grows.chosen o.chosen)

-- an epoch that is open has a generation
pub record HasGeneration (c : Config) (h : List Turn) (e : ℕ) : Type 0 where
  pub generation : LogGeneration
  pub is : generation_at c h e ≡ Some generation

pub open_generation : Laws → (c : Config) (h : List Turn) → IsRun c h → (e : ℕ) → is_open c h e ≡ true → HasGeneration c h e
open_generation laws c h run e is = go (e == first_epoch) refl is
  where
    planned : (r : RecState) → rec_at c h e ≡ Some r → (o : Option Plan) → r.plan ≡ o → is_written_in o r.seeded ≡ true → (e == first_epoch) ≡ false → HasGeneration c h e
    planned r at None k w other = absurd (cc)
    planned r at (Some p) k w other = record { generation = p.generation; is = ap (λ s. cond s (Some (first_generation c)) (generation_in (plan_at c h e))) other ∙ ap (λ o. generation_in (plan_in o)) at ∙ ap generation_in k }

    go : (s : Bool) → (e == first_epoch) ≡ s → (s || is_open_in (rec_at c h e)) ≡ true → HasGeneration c h e
    go true first k = record { generation = first_generation c; is = ap (λ s. cond s (Some (first_generation c)) (generation_in (plan_at c h e))) first }
    go false other k =
        let o = opener c h e k in
        planned o.recoverer o.at o.recoverer.plan refl ((rec_is laws c h run e o.recoverer o.at).kept.come_by.chosen o.chosen) other

-- ---- proxies

pub proxy_itself : (s : proxy.ProxyState) → ProxyGrows s s
proxy_itself s = record { epoch = refl; number = refl; m = refl; k = refl; begins = refl; requests = omega arith; over = λ e. e }

pub proxy_stays : Laws → (c : Config) (h : List Turn) (t : Turn) → IsRun c h → IsTurn c h t → (e p : ℕ) → is_open c h e ≡ true → proxy_at c (t ∷ h) e p ≡ proxy_after t e p (proxy_at c h e p)
proxy_stays laws c h t run is e p open' =
    let g = open_generation laws c h run e open' in
    let same : generation_at c (t ∷ h) e ≡ generation_at c h e = generation_stays laws c h t run is e g.generation g.is ∙ sym g.is in
    ap (λ o. proxy_after t e p (proxy_from (new_proxy_in c o e p) h e p)) same

pub proxy_grows : Laws → (c : Config) (h : List Turn) (t : Turn) → IsRun c h → IsTurn c h t → (e p : ℕ) → is_open c h e ≡ true → ProxyGrows (proxy_at c h e p) (proxy_at c (t ∷ h) e p)
proxy_grows laws c h t run is e p open' =
    subst (ProxyGrows (proxy_at c h e p)) (sym (proxy_stays laws c h t run is e p open'))
    (proxy_by_turn t e p (proxy_at c h e p) (ProxyGrows (proxy_at c h e p)) (proxy_itself (proxy_at c h e p)) (laws.proxy_submit (proxy_at c h e p)) (laws.proxy_hear (proxy_at c h e p)))

-- ---- logs

-- a log that is there was made once
pub new_log_stays : Laws → (c : Config) (h : List Turn) (t : Turn) → IsRun c h → IsTurn c h t → (e i : ℕ) → i < logs_at c h e → new_log c (t ∷ h) e i ≡ new_log c h e i
new_log_stays laws c h t run is e i below = go (e == first_epoch) below
  where
    copied : (o : Option Plan) → i < logs_in o → is_copied_in o ≡ true
    copied None l = absurd (omega (arith, l))
    copied (Some p) l = pick (is_complete p.tail) l
      where
        pick : (b : Bool) → i < cond b p.generation.m 0 → b ≡ true
        pick true k = refl
        pick false k = absurd (omega (arith, k))

    go : (s : Bool) → i < cond s c.m (logs_in (plan_at c h e)) → cond s (first_log c i) (new_log_in (plan_at c (t ∷ h) e) e i) ≡ cond s (first_log c i) (new_log_in (plan_at c h e) e i)
    go true l = refl
    go false l = ap (λ o. new_log_in o e i) (copied_stays laws c h t run is e (copied (plan_at c h e) l))

pub log_stays : Laws → (c : Config) (h : List Turn) (t : Turn) → IsRun c h → IsTurn c h t → (e i : ℕ) → i < logs_at c h e → log_at c (t ∷ h) e i ≡ log_after t e i (log_at c h e i)
log_stays laws c h t run is e i below = ap (λ l. log_after t e i (log_from l h e i)) (new_log_stays laws c h t run is e i below)

-- a log that is there grows
pub log_grows : Laws → (c : Config) (h : List Turn) (t : Turn) → IsRun c h → IsTurn c h t → (e i : ℕ) → i < logs_at c h e → Grows (log_at c h e i) (log_at c (t ∷ h) e i)
log_grows laws c h t run is e i below =
    subst (Grows (log_at c h e i)) (sym (log_stays laws c h t run is e i below))
    (log_by_turn t e i (log_at c h e i) (Grows (log_at c h e i)) (laws.logs_grow (log_at c h e i) []) (laws.log_grows (log_at c h e i)))
