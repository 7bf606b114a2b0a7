-- Requests that are still to come at a moment were so before; and lists.
use Rattle.std.proofs.Common.{◌≡◌, ℕ, zero, suc, ◌<◌, ◌≤◌, Bool, true, false, cond, ◌==◌, ◌&&◌, List, [], ◌∷◌, ◌++◌, length, slice_get, Some, subst, arith}
use Rattle.std.specs.List.{Contains}
use Rattle.fr_run.specs.Turn.{Turn, Begun, CellTurn, LogTurn, SeqTurn, Submitted, ProxyHeard, RecHeard, StorageHeard, Gone, Crashed}
use Rattle.fr_run.specs.Batches.{batches}
use Rattle.fr_run.proofs.Cells.{Contains-here, Contains-later}
use Rattle.fr_run_history.specs.RealTime.{IsToCome}

-- ---- lists

-- what stands in a list is below its length, and in it
pub get_within : {X : Type 0} (xs : List X) (i : ℕ) (x : X) → slice_get xs i ≡ Some x → i < length xs
get_within [] i x e = absurd (cc)
get_within (y ∷ xs) zero x e = omega arith
get_within (y ∷ xs) (suc i) x e = let k = get_within xs i x e in omega (arith, k)

pub get_has : {X : Type 0} (xs : List X) (i : ℕ) (x : X) → slice_get xs i ≡ Some x → Contains xs x
get_has [] i x e = absurd (cc)
get_has (y ∷ xs) zero x e = let same : y ≡ x = cc in subst (λ z. Contains (y ∷ xs) z) same (Contains-here y xs)
get_has (y ∷ xs) (suc i) x e = Contains-later y xs x (get_has xs i x e)

-- ---- requests

-- a turn takes no batch away
one_turn : (t : Turn) (h : List Turn) (e p : ℕ) → length (batches h e p) ≤ length (batches (t ∷ h) e p)
one_turn (Begun x shape asks) h e p = omega arith
one_turn (CellTurn from i a t) h e p = omega arith
one_turn (LogTurn from x i a t) h e p = omega arith
one_turn (SeqTurn from x a t) h e p = omega arith
one_turn (Submitted x q step batch asks) h e p = go ((x == e) && (q == p))
  where
    go : (b : Bool) → length (batches h e p) ≤ length (cond b (batch ∷ batches h e p) (batches h e p))
    go true = omega arith
    go false = omega arith
one_turn (ProxyHeard x q from t outcome asks) h e p = omega arith
one_turn (RecHeard x from t asks) h e p = omega arith
one_turn (StorageHeard tag from t taken fault) h e p = omega arith
one_turn (Gone who) h e p = omega arith
one_turn (Crashed who) h e p = omega arith

pub batches_grow : (more h : List Turn) (e p : ℕ) → length (batches h e p) ≤ length (batches (more ++ h) e p)
batches_grow [] h e p = omega arith
batches_grow (t ∷ more) h e p = let k = batches_grow more h e p in let one = one_turn t (more ++ h) e p in omega (arith, k, one)

-- a request that is to come at a moment was to come before
pub came_before : (more h : List Turn) (e p r : ℕ) → IsToCome (more ++ h) e p r → IsToCome h e p r
came_before more h e p r k = let grow = batches_grow more h e p in omega (arith, grow, k)
