-- Entries whose stamps rise, with one entry more; and the stamp of the last one.
use Rattle.std.proofs.Common.{◌≡◌, ℕ, ◌-◌, List, [], ◌∷◌, ◌++◌, length, Some, refl}
use native.Mathlib.Numerals.{unary_clauses}
use Rattle.std.specs.Prelude.{slice_get}
use Rattle.std.specs.Option.{option_map}
use Rattle.fr_audit_journal.specs.declared.act.Entry.{Entry}
use Rattle.fr_audit_journal.specs.Journal.{IsAbove, Rise, RiseFrom, last_from, last_stamp}

rise_from : (stamp : ℕ) (es : List Entry) (e : Entry) → RiseFrom stamp es → IsAbove (record { stamp = stamp; act = e.act } ∷ es) e.stamp → RiseFrom stamp (es ++ e ∷ [])
rise_from stamp [] e rise above = (above, tt)
rise_from stamp (f ∷ es) e rise above = (rise.0, rise_from f.stamp es e rise.1 above)

-- an entry above all others
pub rise_with : (es : List Entry) (e : Entry) → Rise es → IsAbove es e.stamp → Rise (es ++ e ∷ [])
rise_with [] e rise above = tt
rise_with (f ∷ es) e rise above = rise_from f.stamp es e rise above

from_end : (e : Entry) (es : List Entry) → option_map (λ x. x.stamp) (slice_get (e ∷ es) (length es)) ≡ Some (last_from e.stamp es)
from_end e [] = refl
from_end e (f ∷ es) = from_end f es

-- the last stamp is that of the last entry
pub last_is : (es : List Entry) → option_map (λ e. e.stamp) (slice_get es (length es - 1)) ≡ last_stamp es
last_is [] = refl
last_is (e ∷ es) = simp unary_clauses (from_end e es)
