-- Histories and their moments.
use Rattle.std.proofs.Common.{◌≡◌, ℕ, Bool, true, false, cond, not, nat_lt, List, [], ◌∷◌, ◌++◌, None, Some, inl, inr, refl, sym, ◌∙◌, ap, subst}
use Rattle.std.specs.List.{Contains}
use Rattle.fr_mutation.specs.declared.shard.Shard.{Shard}
use Rattle.fr_mutation.specs.Shard.{in_shard}
use Rattle.fr_storage.specs.declared.fault.ReadFault.TheVariants.{NotMine, TooOld, FutureVersion}
use Rattle.fr_storage.specs.Reads.{read_fault}
use Rattle.fr_run.specs.Config.{Config}
use Rattle.fr_run.specs.Turn.{Turn, ProxyHeard}
use Rattle.fr_run.specs.Run.{IsRun}
use Rattle.fr_run.specs.Batches.{IsAcknowledged}
use Rattle.fr_proxy.specs.declared.outcome.Outcome.TheVariants.{Committed}
use Rattle.fr_run.proofs.Cells.{Contains-none, Contains-cases, Contains-here, Contains-later}
use Rattle.fr_run_outcomes.specs.Once.{IsAnswered}
use Rattle.fr_run_history.specs.History.{Act, Turned, Read, turns, IsHistory}

-- ---- moments

pub turns_append : (after before : List Act) → turns (after ++ before) ≡ turns after ++ turns before
turns_append [] before = refl
turns_append (Turned t ∷ after) before = ap (λ ts. t ∷ ts) (turns_append after before)
turns_append (Read r ∷ after) before = turns_append after before

-- the turns through a moment are the last ones of all
pub turns_at : (after before acts : List Act) → after ++ before ≡ acts → turns after ++ turns before ≡ turns acts
turns_at after before acts are = sym (turns_append after before) ∙ ap turns are

pub history_run : (c : Config) (acts : List Act) → IsHistory c acts → IsRun c (turns acts)
history_run c [] k = tt
history_run c (Turned t ∷ acts) k = (k.0, history_run c acts k.1)
history_run c (Read r ∷ acts) k = history_run c acts k.1

history_from : (c : Config) (after before : List Act) → IsHistory c (after ++ before) → IsHistory c before
history_from c [] before k = k
history_from c (Turned t ∷ after) before k = history_from c after before k.1
history_from c (Read r ∷ after) before k = history_from c after before k.1

pub history_at : (c : Config) (after before acts : List Act) → after ++ before ≡ acts → IsHistory c acts → IsHistory c before
history_at c after before acts are k = history_from c after before (subst (IsHistory c) (sym are) k)

-- where an act of a history stands
pub record StandsAmong (acts : List Act) (x : Act) : Type 0 where
  pub after : List Act
  pub before : List Act
  pub are : after ++ x ∷ before ≡ acts

pub stands_among : (acts : List Act) (x : Act) → Contains acts x → StandsAmong acts x
stands_among [] x k = absurd (Contains-none k)
stands_among (y ∷ acts) x k = elim (Contains-cases y acts x k) [
  | inl same ↦ record { after = []; before = acts; are = ap (λ z. z ∷ acts) (sym same) }
  | inr later ↦ (let s = stands_among acts x later in record { after = y ∷ s.after; before = s.before; are = ap (λ zs. y ∷ zs) s.are })
]

-- ---- answers

-- a request that was answered was acknowledged
pub answered_is_acknowledged : (c : Config) (h : List Turn) (e proxy request version : ℕ) → IsAnswered c h e proxy request version → IsAcknowledged h e version
answered_is_acknowledged c [] e proxy request version k = absurd k
answered_is_acknowledged c (t ∷ h) e proxy request version (inl now) = record {
  proxy = proxy;
  from = now.from;
  tell = now.heard;
  asks = now.asks;
  turn = subst (λ u. Contains (u ∷ h) (ProxyHeard e proxy now.from now.heard (Committed version) now.asks)) (sym now.is) (Contains-here (ProxyHeard e proxy now.from now.heard (Committed version) now.asks) h);
}
answered_is_acknowledged c (t ∷ h) e proxy request version (inr before) =
    let k = answered_is_acknowledged c h e proxy request version before in
    record { proxy = k.proxy; from = k.from; tell = k.tell; asks = k.asks; turn = Contains-later t h (ProxyHeard e k.proxy k.from k.tell (Committed version) k.asks) k.turn }

-- a read that is not refused is of a key of the shard
pub taken_inside : (shard : Shard) (floor applied version : ℕ) (key : List ℕ) → read_fault shard floor applied key version ≡ None → in_shard shard key ≡ true
taken_inside shard floor applied version key taken = go (in_shard shard key) taken
  where
    go : (b : Bool) → cond (not b) (Some NotMine) (cond (nat_lt version floor) (Some TooOld) (cond (nat_lt applied version) (Some FutureVersion) None)) ≡ None → b ≡ true
    go true e = refl
    go false e = absurd (cc)
