-- Calls that read, one after the other.
use Rattle.std.proofs.Common.{◌≡◌, ◌≢◌, inl, ℕ, Result, Ok, Err, OnOk, OnErr, IfOk, IfErr, IsTrue, refl, sym, ap, subst, ◌∙◌, arith}
use Rattle.std.specs.FinMap as map
use Rattle.sqlite.specs.State.{State, Survives}
use Rattle.sqlite.proofs.StateLemmas.{survives_then, survives_weaker}
use Rattle.fr_undo.specs.declared.fault.StoreFault.{StoreFault}
use Rattle.fr_undo.specs.declared.fault.StoreFault.TheVariants.{Device, Memory}
use Rattle.fr_undo.specs.Calls.{IsTrouble}
use Rattle.sqlite.specs.Effect.{Database}
use Rattle.fr_undo.specs.State.{StoreState, IsStoreState}
use Rattle.fr_sql_rows.specs.Rows.{undo_in}
use Rattle.fr_sql_rows.specs.Connection.{IsAtRest, IsLaidOut, Keeps, KeepsIfOpen}
use Rattle.fr_sql_calls.specs.declared.work.Work.{Work}
use Rattle.fr_sql_calls.specs.Work.{Does}
use Rattle.fr_sql_calls.specs.WorkCalls.{Looks, IsDone, MayMake, MeetsAll}
use Rattle.fr_sql_calls.proofs.StepLemmas.{nothing_then}
use Rattle.fr_sql_calls.specs.Tables.{state_in, Stands}
use Rattle.fr_sql_calls.specs.Calls.{LeadsTo, Makes, StandFor}

-- tables that stand still do where they are kept
pub stands_still : (old new : State) (applied floor rows : ℕ) → Stands old applied floor rows → Keeps old new → Stands new applied floor rows
stands_still old new applied floor rows s k = record {
  rest = k.rest;
  laid = subst IsLaidOut (sym k.now) s.laid;
  applied_is = ap (λ (d : Database). (state_in d.trees).applied) k.now ∙ s.applied_is;
  floor_is = ap (λ (d : Database). (state_in d.trees).floor) k.now ∙ s.floor_is;
  count = s.count ∙ ap (λ (d : Database). map.len (undo_in (d.trees 2))) (sym k.now);
  sound = subst (λ (d : Database). IsStoreState (state_in d.trees)) (sym k.now) s.sound;
}

module _ {T : Type 0} (a b : State) (x : T) (one : Looks a b (Ok x)) where
  live : IsTrue b.is_open
  live = one.opened (λ is. cc)

  pub kept : Keeps a b
  kept = one.keeps live

  pub rest_then : IsAtRest b
  rest_then = kept.rest

  pub laid_then : IsLaidOut a.now → IsLaidOut b.now
  laid_then laid = subst IsLaidOut (sym kept.now) laid

  pub looks_then : {U : Type 0} (c : State) (r : Result U StoreFault) → Looks b c r → Looks a c r
  looks_then c r two = record {
    opened = two.opened;
    keeps = λ alive. let k = two.keeps alive in record { now = k.now ∙ kept.now; rest = k.rest };
    survives = nothing_then a b c one.survives two.survives;
    trouble = two.trouble;
  }

  -- memory was refused after it
  pub looks_memory : {U : Type 0} (fault : StoreFault) → fault ≡ Memory → Looks {T = U} a b (Err fault)
  looks_memory fault is = rw is (record { opened = λ apart. live; keeps = one.keeps; survives = one.survives; trouble = tt })

  pub looks_given : {U : Type 0} (y : U) → Looks a b (Ok y)
  looks_given y = record { opened = λ apart. live; keeps = one.keeps; survives = one.survives; trouble = tt }

-- nothing was read yet
pub looks_still : (a : State) → IsAtRest a → Looks {T = Unit {0}} a a (Ok tt)
looks_still a rest = record {
  opened = λ apart. rest.is_open;
  keeps = λ alive. record { now = refl; rest = rest };
  survives = record { clean = omega arith; shield = λ s. s; counts = omega arith; limit = refl; closes = λ clean alive. inl alive; crash = λ clean db leaves. inl leaves };
  trouble = tt;
}

-- ---- work made

module _ (work : Work) (old new : State) (after : StoreState) (rows : ℕ) where
  done_ok : (result : Result ℕ StoreFault) → LeadsTo work old.now after → OnOk result (IsDone (Does work) old new) → OnOk result (IsAtRest new) × OnOk result (IsLaidOut new.now) × OnOk result (state_in new.now.trees ≡ after)
  done_ok (Ok more) to done = (done.rest, done.made.laid, to.leads new.now done.made)
  done_ok (Err fault) to done = (tt, tt, tt)

  counted : (result : Result ℕ StoreFault) → LeadsTo work old.now after → rows ≡ map.len (undo_in (old.now.trees 2)) → OnOk result (IsDone (Does work) old new)
      → IfOk result (λ more. rows ≡ map.len (undo_in (old.now.trees 2)) → more ≡ map.len (undo_in (new.now.trees 2))) → IfOk result (λ more. more ≡ map.len after.undo)
  counted (Ok more) to is done count = count is ∙ ap (λ (x : StoreState). map.len x.undo) (to.leads new.now done.made)
  counted (Err fault) to is done count = tt

  -- a piece of work that is made leads to its state
  pub makes : (result : Result ℕ StoreFault) → LeadsTo work old.now after → rows ≡ map.len (undo_in (old.now.trees 2)) → OnOk result (IsDone (Does work) old new)
      → IfOk result (λ more. rows ≡ map.len (undo_in (old.now.trees 2)) → more ≡ map.len (undo_in (new.now.trees 2)))
      → OnErr result (KeepsIfOpen old new) → IfErr result (λ fault. fault ≢ Device → IsTrue new.is_open) → Survives old new (MayMake (Does work) old) → IfErr result (IsTrouble MeetsAll) → Makes after old new result
  makes result to is done count keeps opened survives trouble =
      let d = done_ok result to done in
      record {
        rest = d.0;
        laid = d.1;
        made = d.2;
        count = counted result to is done count;
        keeps = keeps;
        opened = opened;
        survives = survives_weaker old new (MayMake (Does work) old) (StandFor after) (λ clean db (made, does, is). (made, does.laid, to.leads made does, is)) survives;
        trouble = trouble;
      }

-- ---- a plan, and then its work

-- the tables that were read stand, also after the reads
pub stands_read : {T : Type 0} (a b : State) (x : T) (applied floor rows : ℕ) → Looks a b (Ok x) → Stands a applied floor rows → Stands b applied floor rows
stands_read a b x applied floor rows one s = stands_still a b applied floor rows s (kept a b x one)

-- what is made after reads is made after none
pub looked_then : {T : Type 0} (a b c : State) (x : T) (after : StoreState) (result : Result ℕ StoreFault) → Looks a b (Ok x) → Makes after b c result → Makes after a c result
looked_then a b c x after result one m = record {
  rest = m.rest;
  laid = m.laid;
  made = m.made;
  count = m.count;
  keeps = keeps_on result m.keeps;
  opened = m.opened;
  survives = survives_then a b c (λ _. ⊥) (StandFor after) (StandFor after) (λ _ db none. absurd none) (λ _ db made. made) one.survives m.survives;
  trouble = m.trouble;
}
  where
    keeps_on : (result : Result ℕ StoreFault) → OnErr result (KeepsIfOpen b c) → OnErr result (KeepsIfOpen a c)
    keeps_on (Ok x) k = tt
    keeps_on (Err fault) k = λ alive. let two = k alive in record { now = two.now ∙ (kept a b x one).now; rest = two.rest }

-- a plan that failed made nothing
pub unplanned : {T : Type 0} (a b : State) (after : StoreState) (fault : StoreFault) → Looks {T = T} a b (Err fault) → Makes after a b (Err fault)
unplanned a b after fault l = record {
  rest = tt;
  laid = tt;
  made = tt;
  count = tt;
  keeps = l.keeps;
  opened = λ apart. l.opened (λ is. apart (let same : fault ≡ Device = cc in same));
  survives = survives_weaker a b (λ _. ⊥) (StandFor after) (λ _ db none. absurd none) l.survives;
  trouble = l.trouble;
}
