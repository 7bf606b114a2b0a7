-- What calls make of the connection, one after the other.
use Rattle.std.proofs.Common.{◌≡◌, ◌≢◌, inl, inr, ℕ, List, [], true, IsTrue, Ok, Err, Result, OnOk, IfErr, sym, ap, subst, ◌∙◌}
use Rattle.sqlite.specs.Order.{Row}
use Rattle.sqlite.specs.Tree.{Trees}
use Rattle.sqlite.specs.Effect.{Database}
use Rattle.sqlite.specs.Held.{Held, state}
use Rattle.sqlite.specs.Steps.{FailsToCommit}
use Rattle.sqlite.specs.declared.error.Error.{Error}
use Rattle.sqlite.specs.State.{State, Survives, IsUnchanged, IsRolledBack, IsNotRun}
use Rattle.sqlite.proofs.StateLemmas.{survives_then, survives_weaker}
use Rattle.sqlite_trees.specs.declared.store.Store.{Ghosts}
use Rattle.fr_undo.specs.declared.fault.StoreFault.{StoreFault}
use Rattle.fr_undo.specs.declared.fault.StoreFault.TheVariants.{Device}
use Rattle.fr_undo.specs.Calls.{IsTrouble}
use Rattle.fr_sql_rows.specs.Connection.{IsAtRest, IsInside, KeepsIfOpen, CommitsNothing, Stays}
use Rattle.fr_sql_rows.proofs.FaultLemmas.{Left, keeps}
use Rattle.sqlite.specs.declared.error.Error.TheVariants.{SqliteFailure}
use Rattle.sqlite.specs.declared.error.ErrorCode.TheVariants.{OutOfMemory, DiskFull, TooBig}
use Rattle.fr_sql_rows.specs.Fault.{fault_in}
use Rattle.fr_sql_calls.specs.WorkCalls.{Steps, Looks, MeetsAll}

-- each error makes a trouble
pub made_trouble : (e : Error) → IsTrouble MeetsAll (fault_in e)
made_trouble (SqliteFailure OutOfMemory) = tt
made_trouble (SqliteFailure DiskFull) = tt
made_trouble (SqliteFailure TooBig) = tt
made_trouble _ = tt

pub nothing_then : (a b c : State) → CommitsNothing a b → CommitsNothing b c → CommitsNothing a c
nothing_then a b c one two = survives_then a b c _ _ _ (λ _ db none. absurd none) (λ _ db none. absurd none) one two

pub stays_then : (a b c : State) → Stays a b → IsTrue b.is_open → Stays b c → Stays a c
stays_then a b c one live two last = two last ∙ one live

left_of : (old new : State) (sql : List ℕ) (params : Row) (e : Error) → IsNotRun old new sql params e → Left old new
unfolding IsNotRun
left_of old new sql params e (inl refused) = inl refused.1
left_of old new sql params e (inr failed) = inr failed.3

left_open : (old new : State) → Left old new → IsTrue new.is_open → IsTrue old.is_open
left_open old new (inl same) live = same.0.was_open
left_open old new (inr back) live = back.was_open live

pub was_open : (old new : State) (sql : List ℕ) (params : Row) (e : Error) → IsNotRun old new sql params e → IsTrue new.is_open → IsTrue old.is_open
was_open old new sql params e h live = left_open old new (left_of old new sql params e h) live

pub keeps_still : (old new : State) (sql : List ℕ) (params : Row) (e : Error) → IsNotRun old new sql params e → IsAtRest old → KeepsIfOpen old new
keeps_still old new sql params e h rest = keeps old new rest (left_of old new sql params e h)

pub keeps_same : (old new : State) → IsUnchanged old new → IsAtRest old → KeepsIfOpen old new
keeps_same old new same rest = keeps old new rest (inl same)

pub keeps_then : (a b c : State) → KeepsIfOpen a b → Steps b c → KeepsIfOpen a c
keeps_then a b c one s live =
    let first = one (s.was_open live) in
    let second = s.keeps first.rest live in
    record { now = second.now ∙ first.now; rest = second.rest }

pub looks_err : {T : Type 0} (a b c : State) (fault : StoreFault) → KeepsIfOpen a b → CommitsNothing a b → IsTrouble MeetsAll fault → (fault ≢ Device → IsTrue c.is_open) → Steps b c → Looks {T = T} a c (Err fault)
looks_err a b c fault one nothing trouble opened s = record {
  opened = λ apart. opened (λ is. apart (ap Err is));
  keeps = keeps_then a b c one s;
  survives = nothing_then a b c nothing s.survives;
  trouble = trouble;
}

pub looks_ok : {T : Type 0} (a b : State) (x : T) → IsTrue b.is_open → KeepsIfOpen a b → CommitsNothing a b → Looks a b (Ok x)
looks_ok a b x live one nothing = record {
  opened = λ apart. live;
  keeps = one;
  survives = nothing;
  trouble = tt;
}

-- ---- transactions

-- a transaction that is begun commits nothing
pub from_begun : {S : Type 0} (g : Ghosts S) (h k : Held S) (c : State) (P : Trees → Type 0) → k ≡ record h { in_transaction = true } → Survives (state g k) c P → Survives (state g h) c P
from_begun g h k c P begun s =
    let t : Survives (state g (record h { in_transaction = true })) c P = subst (λ x. Survives (state g x) c P) begun s in
    record { clean = t.clean; shield = t.shield; counts = t.counts; limit = t.limit; closes = t.closes; crash = t.crash }

-- one that is rolled back leaves what was there
pub rolled_back : (a b mid end : State) → IsAtRest a → b.committed ≡ a.committed → Stays b mid → IsRolledBack mid end → KeepsIfOpen a end
rolled_back a b mid end rest same stays back live =
    let undone = back.undone live in
    let is = stays (back.was_open live) ∙ same in
    record {
      now = undone.0 ∙ is ∙ sym rest.settled;
      rest = record { is_open = live; autocommit = back.autocommit; settled = undone.0 ∙ sym undone.1 };
    }

-- and so does one that fails to commit
pub not_committed : (a b mid end : State) (e : Error) → IsAtRest a → b.committed ≡ a.committed → Stays b mid → IsInside mid → FailsToCommit mid end e → KeepsIfOpen a end
not_committed a b mid end e rest same stays inside (inl failed) = rolled_back a b mid end rest same stays failed.3
not_committed a b mid end e rest same stays inside (inr refused) = absurd (let clash = sym inside.begun ∙ refused.1 in cc)

-- a crash leaves what was there, or what the transaction made
pub commit_survives : (a b c : State) (Made : Database → Database → Type 0) (first : Database) → Made first b.now → CommitsNothing a b → Survives b c (λ db. db ≡ b.now.trees)
    → Survives a c (λ db. (d : Database) × Made first d × (db ≡ d.trees))
commit_survives a b c Made first made one two = survives_then a b c _ _ _ (λ _ db none. absurd none) (λ _ db is. (b.now, made, is)) one two

pub nothing_made : (a b : State) (P : Trees → Type 0) → CommitsNothing a b → Survives a b P
nothing_made a b P s = survives_weaker a b (λ _. ⊥) P (λ _ db none. absurd none) s

pub survives_still : (a b c : State) (P : Trees → Type 0) → Survives a b P → CommitsNothing b c → Survives a c P
survives_still a b c P one two = survives_then a b c P _ P (λ _ db made. made) (λ _ db none. absurd none) one two

-- a connection that was asked whether it works, and may be shut
pub steps_of : (old new : State) (sql : List ℕ) (r : Result (Unit {0}) Error) → OnOk r (IsUnchanged old new) → IfErr r (λ e. (params : Row) → IsNotRun old new sql params e) → CommitsNothing old new → Steps old new
steps_of old new sql (Ok x) h k nothing = record { was_open = λ live. h.0.was_open; keeps = keeps_same old new h; survives = nothing }
steps_of old new sql (Err e) h k nothing = record { was_open = was_open old new sql [] e (k []); keeps = keeps_still old new sql [] e (k []); survives = nothing }
