-- How a transaction ends.
use Rattle.std.proofs.Common.{◌≡◌, IsTrue, false, [], Result, Ok, Err, OnOk, subst, sym, ◌∙◌}
use Rattle.sqlite.specs.declared.error.Error.{Error}
use Rattle.sqlite.specs.Effect.{Database}
use Rattle.sqlite.specs.State.{State, Shows, KeepsCounts}
use Rattle.fr_sql_rows.specs.Connection.{IsAtRest}

-- what a commit that succeeds says
abbrev pub IsCommitted : State → State → Type 0
IsCommitted old new = IsTrue old.in_transaction × Shows old new old.now old.now false × KeepsCounts old new × (new.marks ≡ [])

pub committed_rest : (mid last : State) (r : Result (Unit {0}) Error) → OnOk r (IsCommitted mid last) → OnOk r (IsAtRest last)
committed_rest mid last (Ok u) h = record { is_open = h.1.is_open; autocommit = h.1.mode; settled = h.1.now_is ∙ sym h.1.committed_is }
committed_rest mid last (Err e) h = tt

-- what holds of the tables before the commit holds of them after it
pub committed_as : (P : Database → Type 0) (mid last : State) (r : Result (Unit {0}) Error) → P mid.now → OnOk r (IsCommitted mid last) → OnOk r (P last.now)
committed_as P mid last (Ok u) p h = subst P (sym h.1.now_is) p
committed_as P mid last (Err e) p h = tt
