-- What a statement that fails leaves.
use Rattle.std.proofs.Common.{◌≡◌, ◌⊎◌, inl, inr, ⊎_elim, ℕ, List, Bool, true, false, None, Some, Ok, Err, Result, OnOk, refl, sym, ap, subst, ◌∙◌}
use Rattle.sqlite.specs.Order.{Row}
use Rattle.sqlite.specs.declared.error.Error.{Error}
use Rattle.sqlite.specs.State.{State, IsUnchanged, IsRolledBack, IsNotRun, Executes, ExecutesIn, shows_rows, FailsToQuery, Shown, ExecutesInside, Survives, CommitsShowing}
use Rattle.sqlite.specs.Schema.{Schema}
use Rattle.sqlite.specs.Listing.{understood}
use Rattle.sqlite.proofs.Callers.{IsPlain, never_commits}
use Rattle.sqlite.proofs.StateLemmas.{survives_weaker}
use Rattle.fr_sql_rows.specs.Connection.{IsAtRest, IsInside, KeepsIfOpen, CommitsNothing, Stays}

abbrev pub Left : State → State → Type 0
Left old new = IsUnchanged old new ⊎ IsRolledBack old new

not_run : (old new : State) (sql : List ℕ) (params : Row) (e : Error) → IsNotRun old new sql params e → Left old new
unfolding IsNotRun
not_run old new sql params e (inl refused) = inl refused.1
not_run old new sql params e (inr failed) = inr failed.3

pub executed : (old new : State) (sql : List ℕ) (params : Row) (e : Error) → Executes sql params old new (Err e) → Left old new
unfolding ExecutesIn
executed old new sql params e (inl none) = not_run old new sql params e none
executed old new sql params e (inr ran) = go (shows_rows false ran.0) refl
  where
    go : (b : Bool) → shows_rows false ran.0 ≡ b → Left old new
    go true is = inl (rw is at ran.2).1
    go false is = ⊎_elim (λ refused. inl refused.1) (λ failed. inr failed.3) (rw is at ran.2)

pub keeps : (old new : State) → IsAtRest old → Left old new → KeepsIfOpen old new
keeps old new rest (inl same) live =
    record { now = same.0.now_is; rest = record { is_open = live; autocommit = same.0.mode ∙ rest.autocommit; settled = same.0.now_is ∙ rest.settled ∙ sym same.0.committed_is } }
keeps old new rest (inr back) live =
    let undone = back.undone live in
    record { now = undone.0 ∙ sym rest.settled; rest = record { is_open = live; autocommit = back.autocommit; settled = undone.0 ∙ sym undone.1 } }

pub queried : (old new : State) (sql : List ℕ) (params : Row) (e : Error) → FailsToQuery sql params old new e → Left old new
unfolding FailsToQuery
queried old new sql params e (inl none) = not_run old new sql params e none
queried old new sql params e (inr failed) = go failed.0.returning refl
  where
    go : (o : _) → failed.0.returning ≡ o → Left old new
    go None is = inl (rw is at failed.2).3
    go (Some what) is = ⊎_elim (λ refused. inl refused.1) (λ stopped. inr stopped.3) (rw is at failed.2)

-- a query changes nothing
pub shown : (old new : State) (sql : List ℕ) (params : Row) (schema : Schema) (rows : List Row) → old.now.schema ≡ schema → IsPlain (understood schema sql) → Shown sql params old new rows → IsUnchanged old new
unfolding Shown
shown old new sql params schema rows has plain h =
    let known = sym h.1.is ∙ ap (λ s. understood s sql) has in
    let bare = subst IsPlain (sym known) plain in
    let it = rw bare.0 at h.2 in
    it.3

-- in a transaction, whatever a statement answers, what a rollback goes back to is as it was
left_stays : (old new : State) → Left old new → Stays old new
left_stays old new (inl same) live = same.0.committed_is
left_stays old new (inr back) live = (back.undone live).1

pub stays : (old new : State) (sql : List ℕ) (params : Row) (r : Result ℕ Error) → ExecutesInside 0 sql params old new r → Stays old new
stays old new sql params (Ok count) h live = h.1.committed_is
stays old new sql params (Err e) (inl failed) live = left_stays old new failed.1 live
stays old new sql params (Err e) (inr refused) live = refused.2.0.committed_is

pub inside : (old new : State) (sql : List ℕ) (params : Row) (r : Result ℕ Error) → ExecutesInside 0 sql params old new r → OnOk r (IsInside new)
inside old new sql params (Ok count) h = record { is_open = h.1.is_open; begun = h.1.mode }
inside old new sql params (Err e) h = tt

-- a query commits nothing
pub survives_query : (old new : State) (sql : List ℕ) (params : Row) (schema : Schema) → old.now.schema ≡ schema → IsPlain (understood schema sql) → Survives old new (CommitsShowing sql params old) → CommitsNothing old new
survives_query old new sql params schema has plain s =
    survives_weaker old new _ (λ _. ⊥) (λ _ db commits. never_commits sql params old db (subst (λ t. IsPlain (understood t sql)) (sym has) plain) commits) s
