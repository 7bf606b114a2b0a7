-- A rule for what is true of each log of a run: of a first one, of a new one, after an ask that was delivered, and later on.
use Rattle.std.proofs.Common.{◌≡◌, ℕ, ◌<◌, Bool, true, false, cond, nat_lt, ◌==◌, List, [], ◌∷◌, Option, ◌⊎◌, refl, sym, ◌∙◌, ap, subst, arith}
use Rattle.std.proofs.lemmas.Bool.{eqb-true, ltb-false, ltb-true}
use Rattle.fr_base.specs.declared.place.NodeId.{NodeId}
use Rattle.fr_base.specs.declared.place.NodeId.TheVariants as node
use Rattle.fr_log.specs.declared.ask.LogAsk.{LogAsk}
use Rattle.fr_log.specs.LogState.{LogState}
use Rattle.fr_log.specs.Step.{next_of}
use Rattle.fr_ask.specs.declared.ask.Ask.TheVariants as ask
use Rattle.fr_epoch.specs.Recoverer.{Plan}
use Rattle.fr_run.specs.Config.{Config, first_epoch, first_log}
use Rattle.fr_run.specs.Turn.{Turn, Sent}
use Rattle.fr_run.specs.Nodes.{plan_at, logs_in, logs_at, new_log_in, new_log, log_after, log_at}
use Rattle.fr_run.specs.Run.{IsTurn, IsRun, StorageMayAsk}
use Rattle.fr_run.specs.Laws.{Laws}
use Rattle.fr_run.proofs.Growth.{log_stays}
use Rattle.fr_run_headline.proofs.Logs.{log_by_own_turn, unasked, unasked_run}

-- ---- one turn

made_now : Laws → (c : Config) (h : List Turn) (t : Turn) → IsRun c h → IsTurn c h t → (e i : ℕ) (Q : LogState → Type 0) → ((o : Option Plan) → plan_at c (t ∷ h) e ≡ o → (e == first_epoch) ≡ false → i < logs_in o → Q (new_log_in o e i))
    → nat_lt i (logs_at c h e) ≡ false → i < logs_at c (t ∷ h) e → Q (log_at c (t ∷ h) e i)
made_now laws c h t run is e i Q made absent below =
    let l = new_log c (t ∷ h) e i in
    let same : log_at c (t ∷ h) e i ≡ l = ap (log_after t e i) (unasked_run laws c h run e i absent l) ∙ unasked laws c h t is e i absent l in
    subst Q (sym same) (go (e == first_epoch) refl absent below)
  where
    go : (s : Bool) → (e == first_epoch) ≡ s → nat_lt i (cond s c.m (logs_in (plan_at c h e))) ≡ false → i < cond s c.m (logs_in (plan_at c (t ∷ h) e)) → Q (cond s (first_log c i) (new_log_in (plan_at c (t ∷ h) e) e i))
    go true f k l = let low = ltb-false i c.m k in absurd (omega (arith, low, l))
    go false f k l = made (plan_at c (t ∷ h) e) refl f l

-- what is true of a log before a turn, at each ask that may be delivered then, and so later on, is true after it; a log that is new must have it
pub log_step : Laws → (c : Config) (h : List Turn) (t : Turn) → IsRun c h → IsTurn c h t → (e i : ℕ) (P Q : LogState → Type 0) → (i < logs_at c h e → P (log_at c h e i))
    → ((o : Option Plan) → plan_at c (t ∷ h) e ≡ o → (e == first_epoch) ≡ false → i < logs_in o → Q (new_log_in o e i))
    → (i < logs_at c h e → P (log_at c h e i) → (from : NodeId) (a : LogAsk) → Sent h from (node.Log e i) (ask.Log a) ⊎ StorageMayAsk c h from a → P (next_of (log_at c h e i) a))
    → (i < logs_at c h e → (l : LogState) → P l → Q l) → i < logs_at c (t ∷ h) e → Q (log_at c (t ∷ h) e i)
log_step laws c h t run is e i P Q before made takes lasts below = go (nat_lt i (logs_at c h e)) refl
  where
    there : i < logs_at c h e → Q (log_at c (t ∷ h) e i)
    there l =
        let now : P (log_after t e i (log_at c h e i)) = log_by_own_turn c h t is e i (log_at c h e i) P (before l) (takes l (before l)) in
        subst Q (sym (log_stays laws c h t run is e i l)) (lasts l (log_after t e i (log_at c h e i)) now)

    go : (b : Bool) → nat_lt i (logs_at c h e) ≡ b → Q (log_at c (t ∷ h) e i)
    go true k = there (ltb-true i (logs_at c h e) k)
    go false k = made_now laws c h t run is e i Q made k below

-- ---- runs

pub record IsLogRule (c : Config) (P : List Turn → ℕ → ℕ → LogState → Type 0) : Type 0 where
  pub starts : (i : ℕ) → P [] first_epoch i (first_log c i)
  pub made : (h : List Turn) → IsRun c h → (e i : ℕ) (o : Option Plan) → plan_at c h e ≡ o → (e == first_epoch) ≡ false → i < logs_in o → P h e i (new_log_in o e i)
  pub lasts : (h : List Turn) (t : Turn) → IsRun c h → IsTurn c h t → (e i : ℕ) → i < logs_at c h e → (l : LogState) → P h e i l → P (t ∷ h) e i l
  pub takes : (h : List Turn) → IsRun c h → (e i : ℕ) → i < logs_at c h e → P h e i (log_at c h e i) → (from : NodeId) (a : LogAsk) → Sent h from (node.Log e i) (ask.Log a) ⊎ StorageMayAsk c h from a
      → P h e i (next_of (log_at c h e i) a)

pub log_starts : (c : Config) (P : List Turn → ℕ → ℕ → LogState → Type 0) → ((i : ℕ) → P [] first_epoch i (first_log c i)) → (e i : ℕ) → i < logs_at c [] e → P [] e i (log_at c [] e i)
log_starts c P starts e i below = go (e == first_epoch) refl below
  where
    go : (s : Bool) → (e == first_epoch) ≡ s → i < cond s c.m 0 → P [] e i (log_at c [] e i)
    go true k l = subst (λ x. P [] x i (log_at c [] x i)) (sym (eqb-true e first_epoch k)) (starts i)
    go false k l = absurd (omega (arith, l))

pub log_holds : Laws → (c : Config) (P : List Turn → ℕ → ℕ → LogState → Type 0) → IsLogRule c P → (h : List Turn) → IsRun c h → (e i : ℕ) → i < logs_at c h e → P h e i (log_at c h e i)
log_holds laws c P rule [] run e i below = log_starts c P rule.starts e i below
log_holds laws c P rule (t ∷ h) run e i below =
    log_step laws c h t run.1 run.0 e i (P h e i) (P (t ∷ h) e i) (λ l. log_holds laws c P rule h run.1 e i l) (λ o at other l. rule.made (t ∷ h) run e i o at other l) (λ l k from a came. rule.takes h run.1 e i l k from a came) (λ l x k. rule.lasts h t run.1 run.0 e i l x k) below
