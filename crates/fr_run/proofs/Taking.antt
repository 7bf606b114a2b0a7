-- What a storage server took of an answer of a log is what it says that it took.
use Rattle.std.proofs.Common.{◌≡◌, ℕ, Option, sym, subst, ap}
use Rattle.std.specs.Prelude.{IfOk, IfSome, None, Some, Result, Ok, Err}
use Rattle.fr_base.specs.declared.place.NodeId.{NodeId}
use Rattle.fr_base.specs.declared.place.NodeId.TheVariants as node
use Rattle.fr_log.specs.Peeked.{PeekedContent}
use Rattle.fr_log.specs.declared.ask.LogTell.TheVariants as ltell
use Rattle.fr_ask.specs.declared.tell.Tell.{Tell}
use Rattle.fr_ask.specs.declared.tell.Tell.TheVariants as tell
use Rattle.fr_storage.specs.declared.fault.StorageFault.{StorageFault}
use Rattle.fr_storage.specs.Storage.{StorageState, after_peeked, peeked_calls, peeked_fault}
use Rattle.fr_storage.specs.Taken.{IsPart}
use Rattle.fr_run.specs.Told.{IsTold}

-- what is told where a log's answer was taken in part, if it was
abbrev pub Parted : StorageState → ℕ → PeekedContent → StorageState → Option ℕ → Type 0
Parted s e p n taken = IfSome taken (λ version. IsPart s (peeked_fault s e p) (peeked_calls s e p) version n)

pub told-at : (s n : StorageState) (e i : ℕ) (p : PeekedContent) (taken : Option ℕ) → (taken ≡ None → n ≡ after_peeked s e p) → Parted s e p n taken
    → IsTold s (node.Log e i) (tell.Log (ltell.Peeked p)) taken n
told-at s n e i p None whole part = record { whole = λ none. whole none; part = tt }
told-at s n e i p (Some version) whole part = record { whole = λ none. absurd cc; part = record { breaks = part.breaks; applied = part.applied; left = part.left } }

pub told-peeked : (s n : StorageState) (e i : ℕ) (p : PeekedContent) (from : NodeId) (t : Tell) (heard : Result (Option ℕ) StorageFault)
    → from ≡ node.Log e i → t ≡ tell.Log (ltell.Peeked p) → (heard ≡ Ok None → n ≡ after_peeked s e p) → IfOk heard (Parted s e p n)
    → IfOk heard (λ taken. IsTold s from t taken n)
told-peeked s n e i p from t (Err fault) sender says whole part = tt
told-peeked s n e i p from t (Ok taken) sender says whole part =
    let all : taken ≡ None → n ≡ after_peeked s e p = λ none. whole (ap Ok none) in
    subst (λ (f : NodeId). IsTold s f t taken n) (sym sender) (subst (λ (u : Tell). IsTold s (node.Log e i) u taken n) (sym says) (told-at s n e i p taken all part))
