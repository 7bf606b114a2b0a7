-- The calls at an answer of a log, in three parts: the records, the advance and the forget.
use Rattle.std.proofs.Common.{◌≡◌, ℕ, List, [], ◌∷◌, ◌++◌, map, max, min, Option, refl, sym, ap, ◌∙◌, subst, ◌+◌, arith, IsTrue}
use Rattle.std.specs.Prelude.{Contains}
use Rattle.std.proofs.lemmas.List.{append_assoc}
use Rattle.fr_undo.specs.State.{StoreState}
use Rattle.fr_log.specs.Peeked.{PeekedContent, IsPeeked, is_rising_from}
use Rattle.fr_storage.specs.Storage.{Call, after_calls, stages, records_between, reached, apply_of, advance_calls, forget_calls, cut_at}
use Rattle.fr_storage.specs.Server.{LeavesStages}
use Rattle.fr_storage.specs.Pull.{pull_calls}
use Rattle.fr_storage.proofs.Applied.{rise_lower}
use Rattle.fr_storage.proofs.Left.{after_both, front_stages, last_stages, applied_after, floor_after, applied_advanced, floor_advanced}

pub rise : (peeked : PeekedContent) → IsPeeked peeked → IsTrue (is_rising_from 0 peeked.records)
rise peeked is = rise_lower 0 (peeked.after + 1) peeked.records (omega arith) is.rising

-- lists that are nothing together are nothing each
pub none_first : {X : Type 0} (xs ys : List X) → xs ++ ys ≡ [] → xs ≡ []
none_first [] ys e = refl
none_first (x ∷ xs) ys e = absurd cc

pub none_last : {X : Type 0} (xs ys : List X) → xs ++ ys ≡ [] → ys ≡ []
none_last [] ys e = e
none_last (x ∷ xs) ys e = absurd cc

pub none_mapped : {X Y : Type 0} (f : X → Y) (xs : List X) → map f xs ≡ [] → xs ≡ []
none_mapped f [] e = refl
none_mapped f (x ∷ xs) e = absurd cc

module _ (s : StoreState) (end : Option ℕ) (peeked : PeekedContent) where
  abbrev pub applies : List Call
  applies = map apply_of (records_between s.applied end peeked.records)

  abbrev pub advances : StoreState → List Call
  advances first = advance_calls first.applied (cut_at end peeked.upto)

  abbrev pub forgets : StoreState → List Call
  forgets second = forget_calls second.floor (min peeked.known second.applied)

  -- the calls are those of the parts, each by the store that the part before it makes
  pub parts : (first second : StoreState) → first ≡ after_calls s applies → second ≡ after_calls first (advances first)
      → pull_calls s end peeked ≡ applies ++ (advances first ++ forgets second)
  parts first second e k =
      let records = records_between s.applied end peeked.records in
      let target = cut_at end peeked.upto in
      let a : first.applied ≡ reached s.applied records = ap (λ (t : StoreState). t.applied) e ∙ applied_after s records in
      let b : second.applied ≡ max first.applied target = ap (λ (t : StoreState). t.applied) k ∙ applied_advanced first target in
      let c : second.floor ≡ s.floor =
      ap (λ (t : StoreState). t.floor) k ∙ floor_advanced first first.applied target ∙ ap (λ (t : StoreState). t.floor) e ∙ floor_after s records in
      let d : second.applied ≡ max (reached s.applied records) target = b ∙ ap (λ (n : ℕ). max n target) a in
      append_assoc applies (advance_calls (reached s.applied records) target) (forget_calls s.floor (min peeked.known (max (reached s.applied records) target)))
      ∙ (λ i. applies ++ (advance_calls (sym a i) target ++ forget_calls (sym c i) (min peeked.known (sym d i))))

  pub ends : (first second last : StoreState) → first ≡ after_calls s applies → second ≡ after_calls first (advances first) → last ≡ after_calls second (forgets second)
      → last ≡ after_calls s (pull_calls s end peeked)
  ends first second last e k l =
      l
      ∙ ap (λ (t : StoreState). after_calls t (forgets second)) k
      ∙ sym (after_both first (advances first) (forgets second))
      ∙ ap (λ (t : StoreState). after_calls t (advances first ++ forgets second)) e
      ∙ sym (after_both s applies (advances first ++ forgets second))
      ∙ ap (after_calls s) (sym (parts first second e k))

  -- where a part broke off, what it leaves is a stage of all
  module _ (M : StoreState → Type 0) where
    pub at_records : LeavesStages M s applies → LeavesStages M s (pull_calls s end peeked)
    at_records h left may =
        let first = after_calls s applies in
        let second = after_calls first (advances first) in
        subst (λ (calls : List Call). Contains (stages s calls) left) (sym (parts first second refl refl)) (front_stages s applies (advances first ++ forgets second) left (h left may))

    pub at_advance : (first : StoreState) → first ≡ after_calls s applies → LeavesStages M first (advances first) → LeavesStages M s (pull_calls s end peeked)
    at_advance first e h left may =
        let second = after_calls first (advances first) in
        subst (λ (calls : List Call). Contains (stages s calls) left) (sym (parts first second e refl))
        (last_stages s applies (advances first ++ forgets second) left
        (subst (λ (t : StoreState). Contains (stages t (advances first ++ forgets second)) left) e (front_stages first (advances first) (forgets second) left (h left may))))

    pub at_forget : (first second : StoreState) → first ≡ after_calls s applies → second ≡ after_calls first (advances first) → LeavesStages M second (forgets second) → LeavesStages M s (pull_calls s end peeked)
    at_forget first second e k h left may =
        subst (λ (calls : List Call). Contains (stages s calls) left) (sym (parts first second e k))
        (last_stages s applies (advances first ++ forgets second) left
        (subst (λ (t : StoreState). Contains (stages t (advances first ++ forgets second)) left) e
        (last_stages first (advances first) (forgets second) left
        (subst (λ (t : StoreState). Contains (stages t (forgets second)) left) k (h left may)))))

  -- where there is no call, no part has one
  pub no_records : pull_calls s end peeked ≡ [] → records_between s.applied end peeked.records ≡ []
  no_records none =
      let first = after_calls s applies in
      let second = after_calls first (advances first) in
      none_mapped apply_of (records_between s.applied end peeked.records) (none_first applies (advances first ++ forgets second) (sym (parts first second refl refl) ∙ none))

  pub no_advance : (first : StoreState) → first ≡ after_calls s applies → pull_calls s end peeked ≡ [] → advances first ≡ []
  no_advance first e none =
      let second = after_calls first (advances first) in
      none_first (advances first) (forgets second) (none_last applies (advances first ++ forgets second) (sym (parts first second e refl) ∙ none))

  pub no_forget : (first second : StoreState) → first ≡ after_calls s applies → second ≡ after_calls first (advances first) → pull_calls s end peeked ≡ [] → forgets second ≡ []
  no_forget first second e k none = none_last (advances first) (forgets second) (none_last applies (advances first ++ forgets second) (sym (parts first second e k) ∙ none))
