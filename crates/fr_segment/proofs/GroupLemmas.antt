-- A group, record by record.
use Rattle.std.proofs.Common.{◌≡◌, ℕ, zero, suc, ◌+◌, ◌<◌, ◌≤◌, ◌^◌, List, [], ◌∷◌, ◌++◌, length, get_or, take, drop, Vec, sym, ap, ◌∙◌, arith, length-append, take-append-drop}
use Rattle.std.specs.declared.alloc.Global.{Global}
use Rattle.std.proofs.lemmas.List.{take_more, map-append}
use Rattle.fr_segment.specs.declared.place.Place.{Place}
use Rattle.fr_segment.specs.File.{Group, body}
use Rattle.fr_segment.specs.Group.{records_of, places_of}
use Rattle.fr_segment.specs.Table.{places}
use Rattle.fr_segment.proofs.FileLemmas.{body-append, length-body}
use Rattle.fr_segment.proofs.TableLemmas.{places-append}

module _ (group : List (Vec ℕ Global)) (i : ℕ) (d : Vec ℕ Global) (h : i < length group) where
  -- one record more
  pub records_more : records_of (take (i + 1) group) ≡ records_of (take i group) ++ (get_or group i d).items ∷ []
  records_more = ap records_of (take_more group i d h) ∙ map-append _ (take i group) (get_or group i d ∷ [])

  pub body_more : body (records_of (take (i + 1) group)) ≡ body (records_of (take i group)) ++ body ((get_or group i d).items ∷ [])
  body_more = ap body records_more ∙ body-append (records_of (take i group)) ((get_or group i d).items ∷ [])

  pub long_more : length (body (records_of (take (i + 1) group))) ≡ length (body (records_of (take i group))) + 4 + length (get_or group i d).items
  long_more =
      let e = ap length body_more in
      omega (arith, e, length-append (body (records_of (take i group))) (body ((get_or group i d).items ∷ [])), length-body (get_or group i d).items [])

-- a front is no longer than the whole
pub front_le : (group : List (Vec ℕ Global)) (k : ℕ) → length (body (records_of (take k group))) ≤ length (body (records_of group))
front_le group k =
    let whole : body (records_of group) ≡ body (records_of (take k group)) ++ body (records_of (drop k group)) =
    ap (λ g. body (records_of g)) (sym (take-append-drop k group)) ∙ ap body (map-append _ (take k group) (drop k group)) ∙ body-append (records_of (take k group)) (records_of (drop k group)) in
    let e = ap length whole in
    omega (arith, e, length-append (body (records_of (take k group))) (body (records_of (drop k group))))

-- each record of a group is shorter than its body
pub one_le : (group : List (Vec ℕ Global)) (i : ℕ) (d : Vec ℕ Global) → i < length group → length (get_or group i d).items ≤ length (body (records_of group))
one_le group i d h = omega (arith, long_more group i d h, front_le group (i + 1))

pub places_more : (group : List (Vec ℕ Global)) (i : ℕ) (d : Vec ℕ Global) (from at : ℕ) → i < length group → at ≡ from + length (body (records_of (take i group)))
    → places_of from (take (i + 1) group) ≡ places_of from (take i group) ++ record { at = at + 4; len = length (get_or group i d).items } ∷ []
places_more group i d from at h is =
    ap (places from) (records_more group i d h) ∙ places-append (records_of (take i group)) ((get_or group i d).items ∷ []) from
    ∙ ap (λ (k : ℕ). places_of from (take i group) ++ record { at = k + 4; len = length (get_or group i d).items } ∷ []) (sym is)
