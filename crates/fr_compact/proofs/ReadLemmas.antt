-- Records that are read one after another.
use Rattle.std.proofs.Common.{◌≡◌, ℕ, zero, suc, ◌+◌, ◌<◌, List, [], ◌∷◌, ◌++◌, length, get_or, take, drop, refl, sym, ap, ◌∙◌, arith, take-append-drop}
use Rattle.std.specs.Prelude.{Option, None, Some, fold}
use Rattle.std.proofs.lemmas.List.{take_more, drop_more}
use Rattle.std.proofs.lemmas.List.Sums.{fold-append}
use Rattle.fr_record.specs.State.{record_at}
use Rattle.fr_record_node.specs.Replay.{replayed, next_replayed}

pub at_found : (rs : List (List ℕ)) (i : ℕ) (d : List ℕ) → i < length rs → record_at rs i ≡ Some (get_or rs i d)
at_found [] i d h = absurd (omega (arith, h))
at_found (r ∷ rs) zero d h = refl
at_found (r ∷ rs) (suc i) d h = at_found rs i d (omega (arith, h))

same_some : {X : Type 0} {x y : X} → Some x ≡ Some y → x ≡ y
same_some e = cc e

module _ {M : Type 0} (replay : M → List ℕ → Option M) where
  none_stays : (rs : List (List ℕ)) → replayed replay None rs ≡ None
  none_stays [] = refl
  none_stays (r ∷ rs) = none_stays rs

  module _ (first : M) (rs : List (List ℕ)) (i : ℕ) (m : M) (x : List ℕ) (h : i < length rs) (found : Some x ≡ record_at rs i) (so_far : replayed replay (Some first) (take i rs) ≡ Some m) where
    is : get_or rs i [] ≡ x
    is = same_some (sym (at_found rs i [] h) ∙ sym found)

    next : replayed replay (Some first) (take i rs ++ x ∷ []) ≡ replay m x
    next = fold-append (next_replayed replay) (Some first) (take i rs) (x ∷ []) ∙ ap (λ o. next_replayed replay o x) so_far

    pub read_more : (n : M) → replay m x ≡ Some n → replayed replay (Some first) (take (i + 1) rs) ≡ Some n
    read_more n reads = ap (λ l. replayed replay (Some first) l) (take_more rs i [] h ∙ ap (λ r. take i rs ++ r ∷ []) is) ∙ next ∙ reads

    pub read_none : replay m x ≡ None → replayed replay (Some first) rs ≡ None
    read_none broken =
        ap (λ l. replayed replay (Some first) l) (sym (take-append-drop i rs) ∙ ap (λ l. take i rs ++ l) (drop_more rs i [] h ∙ ap (λ r. r ∷ drop (i + 1) rs) is))
        ∙ fold-append (next_replayed replay) (Some first) (take i rs) (x ∷ drop (i + 1) rs)
        ∙ ap (λ o. fold (next_replayed replay) (next_replayed replay o x) (drop (i + 1) rs)) so_far
        ∙ ap (λ o. fold (next_replayed replay) o (drop (i + 1) rs)) broken ∙ none_stays (drop (i + 1) rs)
