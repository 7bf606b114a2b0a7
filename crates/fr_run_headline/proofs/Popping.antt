-- What is popped of a log after a turn was popped before, or a storage server just popped it.
use Rattle.std.proofs.Common.{◌≡◌, ℕ, ◌<◌, ◌≤◌, Bool, true, false, cond, not, max, nat_lt, ◌==◌, List, [], ◌∷◌, length, Option, None, Some, inl, inr, ◌⊎◌, refl, ◌∙◌, ap, subst, arith}
use Rattle.std.specs.Prelude.{Contains}
use Rattle.std.proofs.lemmas.Bool.{eqb-true, ltb-true}
use Rattle.fr_base.specs.declared.place.NodeId.{NodeId}
use Rattle.fr_base.specs.declared.place.NodeId.TheVariants as node
use Rattle.fr_log.specs.declared.popped.PoppedTag.{PoppedTag}
use Rattle.fr_log.specs.Left.{popped_at, raised}
use Rattle.fr_log.specs.declared.ask.LogAsk.{LogAsk}
use Rattle.fr_log.specs.declared.ask.LogAsk.TheVariants.{Pop}
use Rattle.fr_log.specs.declared.ask.LogRefusal.TheVariants.{WrongEpoch}
use Rattle.fr_log.specs.LogState.{LogState}
use Rattle.fr_log.specs.Refusal.{pop_refusal}
use Rattle.fr_log.specs.Step.{popped_to}
use Rattle.fr_ask.specs.declared.ask.Ask.TheVariants as ask
use Rattle.fr_epoch.specs.Recoverer.{Plan}
use Rattle.fr_run.specs.Config.{Config, first_epoch, first_log}
use Rattle.fr_run.specs.Turn.{Turn, Sent}
use Rattle.fr_run.specs.Nodes.{plan_at, logs_at, new_log_in, new_log, log_at, storage_at}
use Rattle.fr_run.specs.Run.{IsTurn, IsRun, IsOwnEpoch, StorageMayAsk}
use Rattle.fr_run.specs.Laws.{Laws}
use Rattle.fr_run.proofs.Growth.{log_stays}
use Rattle.fr_run.proofs.Cells.{Contains-none}
use Rattle.fr_run.proofs.Accounts.{sent_is_accounted}
use Rattle.fr_run_headline.proofs.LogChanges.{passed, popped_change}
use Rattle.fr_run_headline.proofs.Logs.{log_by_own_turn, made_log}
use Rattle.fr_run_headline.proofs.Named.{log_named}
use Rattle.fr_run_headline.proofs.Shown.{raised_has}

-- a tag's storage server, which has a generation of the epoch, popped it: no further than its floor, or than the log had it
pub record IsPop (c : Config) (h : List Turn) (e i : ℕ) (x : PoppedTag) : Type 0 where
  pub inside : x.tag < length c.begins
  pub own : IsOwnEpoch (storage_at c h x.tag) e
  pub version : x.version ≤ max (popped_at (log_at c h e i).popped x.tag) (storage_at c h x.tag).store.floor

-- no node sends one
not_sent : Laws → (c : Config) (h : List Turn) → IsRun c h → (from : NodeId) (e i epoch tag through : ℕ) → Sent h from (node.Log e i) (ask.Log (Pop epoch tag through)) → ⊥
not_sent laws c h run (node.Cell j) e i epoch tag through sent = sent_is_accounted laws c h run (node.Cell j) (node.Log e i) (ask.Log (Pop epoch tag through)) sent
not_sent laws c h run (node.Log y j) e i epoch tag through sent = sent_is_accounted laws c h run (node.Log y j) (node.Log e i) (ask.Log (Pop epoch tag through)) sent
not_sent laws c h run (node.Sequencer y) e i epoch tag through sent = sent_is_accounted laws c h run (node.Sequencer y) (node.Log e i) (ask.Log (Pop epoch tag through)) sent
not_sent laws c h run (node.Proxy y p) e i epoch tag through sent = (sent_is_accounted laws c h run (node.Proxy y p) (node.Log e i) (ask.Log (Pop epoch tag through)) sent).1.1
not_sent laws c h run (node.Recoverer b) e i epoch tag through sent = (sent_is_accounted laws c h run (node.Recoverer b) (node.Log e i) (ask.Log (Pop epoch tag through)) sent).2
not_sent laws c h run (node.Storage t) e i epoch tag through sent = sent_is_accounted laws c h run (node.Storage t) (node.Log e i) (ask.Log (Pop epoch tag through)) sent

-- what a storage server may pop
may_pop : (c : Config) (h : List Turn) (from : NodeId) (epoch tag through : ℕ) → StorageMayAsk c h from (Pop epoch tag through)
    → (tag < length c.begins) × IsOwnEpoch (storage_at c h tag) epoch × (through ≤ (storage_at c h tag).store.floor)
may_pop c h (node.Cell j) epoch tag through k = absurd k
may_pop c h (node.Log y j) epoch tag through k = absurd k
may_pop c h (node.Sequencer y) epoch tag through k = absurd k
may_pop c h (node.Proxy y p) epoch tag through k = absurd k
may_pop c h (node.Recoverer b) epoch tag through k = absurd k
may_pop c h (node.Storage t) epoch tag through (same, inside, own, low) =
    subst (λ u. (u < length c.begins) × IsOwnEpoch (storage_at c h u) epoch × (through ≤ (storage_at c h u).store.floor)) same (inside, own, low)

-- a log takes none of another epoch
own_pop : (l : LogState) (epoch tag : ℕ) → pop_refusal l epoch tag ≡ None → epoch ≡ l.epoch
own_pop l epoch tag none = go (epoch == l.epoch) refl (passed (not (epoch == l.epoch)) WrongEpoch _ none).0
  where
    go : (b : Bool) → (epoch == l.epoch) ≡ b → not b ≡ false → epoch ≡ l.epoch
    go true at k = eqb-true epoch l.epoch at
    go false at k = absurd (cc)

-- nothing is popped of a log that was never asked
pub unpopped : (c : Config) (h : List Turn) (e i : ℕ) → (new_log c h e i).popped ≡ []
unpopped c h e i = go (e == first_epoch) (plan_at c h e)
  where
    planned : (o : Option Plan) → (new_log_in o e i).popped ≡ []
    planned None = refl
    planned (Some p) = refl

    go : (b : Bool) (o : Option Plan) → (cond b (first_log c i) (new_log_in o e i)).popped ≡ []
    go true o = refl
    go false o = planned o

pub popped_from : Laws → (c : Config) (h : List Turn) (t : Turn) → IsRun c h → IsTurn c h t → (e i : ℕ) → i < logs_at c (t ∷ h) e → (x : PoppedTag) → Contains (log_at c (t ∷ h) e i).popped x
    → (i < logs_at c h e) × (Contains (log_at c h e i).popped x ⊎ IsPop c h e i x)
popped_from laws c h t run is e i below x has = go (nat_lt i (logs_at c h e)) refl
  where
    From : List PoppedTag → Type 0
    From ps = Contains ps x → Contains (log_at c h e i).popped x ⊎ IsPop c h e i x

    popped : i < logs_at c h e → (from : NodeId) (a : LogAsk) → Sent h from (node.Log e i) (ask.Log a) ⊎ StorageMayAsk c h from a
        → (epoch tag through : ℕ) → a ≡ Pop epoch tag through → pop_refusal (log_at c h e i) epoch tag ≡ None
        → From (raised (log_at c h e i).popped tag (popped_to (log_at c h e i) tag through))
    popped there from a came epoch tag through at none k = elim (raised_has (log_at c h e i).popped tag (popped_to (log_at c h e i) tag through) x k) [
      | inl new ↦ inr (
          let may : (tag < length c.begins) × IsOwnEpoch (storage_at c h tag) epoch × (through ≤ (storage_at c h tag).store.floor) =
          elim came [
            | inl sent ↦ absurd (not_sent laws c h run from e i epoch tag through (subst (λ y. Sent h from (node.Log e i) (ask.Log y)) at sent))
            | inr asked ↦ may_pop c h from epoch tag through (subst (StorageMayAsk c h from) at asked)
          ] in
          let own : epoch ≡ e = own_pop (log_at c h e i) epoch tag none ∙ (log_named laws c h run e i there).epoch in
          let low = may.2 in
          subst (IsPop c h e i) new (record {
            inside = may.0;
            own = subst (IsOwnEpoch (storage_at c h tag)) own may.1;
            version = omega (arith, low);
          }))
      | inr before ↦ inl before
    ]

    go : (b : Bool) → nat_lt i (logs_at c h e) ≡ b → (i < logs_at c h e) × (Contains (log_at c h e i).popped x ⊎ IsPop c h e i x)
    go true k =
        let there = ltb-true i (logs_at c h e) k in (
          there,
          log_by_own_turn c h t is e i (log_at c h e i) (λ l. From l.popped) (λ j. inl j)
              (λ from a came. popped_change From (log_at c h e i) a (λ j. inl j) (λ epoch tag through at none le. popped there from a came epoch tag through at none))
              (subst (λ (l : LogState). Contains l.popped x) (log_stays laws c h t run is e i there) has),
        )
    go false k = absurd (Contains-none (subst (λ ps. Contains ps x) (ap (λ (l : LogState). l.popped) (made_log laws c h t run is e i k) ∙ unpopped c (t ∷ h) e i) has))
