-- Entries whose stamps rise, with one entry more, and the stamp of the last one.
use Rattle.std.proofs.Common.{refl, sym, subst, ap, ◌∙◌}
use Rattle.std.specs.Prelude.{ℕ, ◌≡◌, ◌++◌, List, [], ◌∷◌, Some, map}
use Rattle.fr_audit_journal.specs.declared.act.Entry.{Entry}
use Rattle.fr_audit_journal.specs.Journal.{IsAbove, Rise, RiseFrom, last_from, last_stamp}

rise-from : (stamp : ℕ) (es : List Entry) (e : Entry) → RiseFrom stamp es → IsAbove (record { stamp = stamp; act = e.act } ∷ es) e.stamp → RiseFrom stamp (es ++ e ∷ [])
rise-from stamp [] e rise above = (above, tt)
rise-from stamp (f ∷ es) e rise above = (rise.0, rise-from f.stamp es e rise.1 above)

rise-with : (es : List Entry) (e : Entry) → Rise es → IsAbove es e.stamp → Rise (es ++ e ∷ [])
rise-with [] e rise above = tt
rise-with (f ∷ es) e rise above = rise-from f.stamp es e rise above

last-from-with : (stamp : ℕ) (es : List Entry) (e : Entry) → last_from stamp (es ++ e ∷ []) ≡ e.stamp
last-from-with stamp [] e = refl
last-from-with stamp (f ∷ es) e = last-from-with f.stamp es e

pub last-with : (es : List Entry) (e : Entry) → last_stamp (es ++ e ∷ []) ≡ Some e.stamp
last-with [] e = refl
last-with (f ∷ es) e = ap Some (last-from-with f.stamp es e)

map-with : {A B : Type 0} (f : A → B) (xs : List A) (x : A) → map f (xs ++ x ∷ []) ≡ map f xs ++ f x ∷ []
map-with f [] x = refl
map-with f (y ∷ xs) x = ap (λ rest. f y ∷ rest) (map-with f xs x)

-- snapshots of entries with one more
pub entered : {A : Type 0} (value : A → Entry) (items longer : List A) (last : A) (e : Entry)
    → Rise (map value items) → IsAbove (map value items) e.stamp → longer ≡ items ++ last ∷ [] → value last ≡ e
    → (Some e.stamp ≡ last_stamp (map value longer)) × Rise (map value longer)
entered value items longer last e rise above is same =
    let m : map value longer ≡ map value items ++ e ∷ [] = ap (map value) is ∙ (map-with value items last ∙ ap (λ (x : Entry). map value items ++ x ∷ []) same) in
    (sym (ap last_stamp m ∙ last-with (map value items) e), subst Rise (sym m) (rise-with (map value items) e rise above))
