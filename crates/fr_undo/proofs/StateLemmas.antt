-- States of a store: what stays sound, and what changes nothing.
use Rattle.std.proofs.Common.{◌≡◌, ℕ, ◌-◌, ◌<◌, ◌≤◌, Bool, true, false, cond, List, Option, None, Some, IsSome, inl, inr, ⊎_elim, refl, sym, ap, ◌∙◌, arith}
use Rattle.std.specs.Prelude.{unwrap_or, is_some, nat_le, nat_lt, ◌==◌, ◌⊎◌}
use Rattle.std.specs.Option.{option_or}
use Rattle.std.specs.Cmp.{unsigned_Decides}
use Rattle.std.specs.FinMap.{get, same_map, get-empty}
use Rattle.std.proofs.lemmas.Bool.{leb-true, leb-false, ltb-true, ltb-false}
use Rattle.fr_base.specs.Bytes.{bytes_total, bytes_exact}
use Rattle.fr_base.specs.Map.{Map}
use Rattle.fr_mutation.specs.declared.mutation.Mutation.{Mutation}
use Rattle.fr_mutation.specs.Mutation.{after}
use Rattle.fr_undo.specs.State.{Place, place_cmp, StoreState, IsStoreState, fresh}
use Rattle.fr_undo.specs.Undo.{undone, extended, forgotten, advanced, row_at, before_if_changed, rows}
use Rattle.fr_undo.proofs.UndoLemmas.{place_total, place_exact, get-contents_undone, get-rows_through, get-rows_above, same_state, least_row-none, get-joined, get-rows}

-- ---- undoing

pub some_left : (b : Bool) (o : Option (Option (List ℕ))) → IsSome (cond b o None) → (b ≡ true) × IsSome o
some_left true o h = (refl, h)
some_left false o h = cc

pub undone_sound : (s : StoreState) (t : ℕ) → IsStoreState s → s.floor ≤ t → IsStoreState (undone s t)
undone_sound s t sound within = record {
  floor = let le = sound.floor in omega arith;
  above = λ w q some. sound.above w q (some_left (nat_le w t) _ (ap is_some (sym (get-rows_through s.undo t (w, q))) ∙ some)).1;
  upto = λ w q some.
      let h = some_left (nat_le w t) _ (ap is_some (sym (get-rows_through s.undo t (w, q))) ∙ some) in
      let below = leb-true w t h.0 in
      let upto = sound.upto w q h.1 in
      omega arith;
}

-- an undo to a version that is not below the one applied changes nothing
pub undone_nothing : (s : StoreState) (t : ℕ) → IsStoreState s → s.applied ≤ t → s ≡ undone s t
undone_nothing s t sound le = sym (same_state (undone s t) s
    (same_map bytes_total bytes_exact _ _ (λ q. get-contents_undone s t q ∙ ap (λ o. unwrap_or o (get s.contents q)) (least_row-none s.undo q t (s.applied - t) (λ w a b. absurd (omega arith)))))
    (same_map place_total place_exact _ _ (λ p. get-rows_through s.undo t p ∙ all_left p))
    (omega arith) refl refl)
  where
    all_left : (p : Place) → cond (nat_le p.0 t) (get s.undo p) None ≡ get s.undo p
    all_left p = elim (nat_le p.0 t) as (λ b. nat_le p.0 t ≡ b → cond b (get s.undo p) None ≡ get s.undo p) [
      | true ↦ λ e. refl
      | false ↦ λ e. sym (none (get s.undo p) refl (leb-false p.0 t e))
    ] refl
      where
        none : (o : Option (Option (List ℕ))) → get s.undo p ≡ o → t < p.0 → o ≡ None
        none None is lt = refl
        none (Some x) is lt = absurd (let upto = sound.upto p.0 p.1 (ap is_some is) in omega arith)

-- ---- applying

some_of : (a b : Option (Option (List ℕ))) → IsSome (option_or a b) → (is_some a ≡ false → IsSome b)
some_of None b h e = h
some_of (Some x) b h e = cc

some_row : (m : Map) (v : ℕ) (batch : List Mutation) (w : ℕ) (q : List ℕ) → IsSome (row_at m v batch (w, q)) → w ≡ v
some_row m v batch w q some = from (w == v) refl some
  where
    from : (b : Bool) → (w == v) ≡ b → IsSome (cond b (before_if_changed (get m q) (get (after m batch) q)) None) → w ≡ v
    from true e h = (unsigned_Decides w v).0 e
    from false e h = cc

-- a row after a batch was there before, or is at the batch's version
row_extended : (s : StoreState) (v : ℕ) (batch : List Mutation) (w : ℕ) (q : List ℕ) → IsSome (get (extended s v batch).undo (w, q)) → IsSome (get s.undo (w, q)) ⊎ (w ≡ v)
row_extended s v batch w q some = from (is_some (get s.undo (w, q))) refl
  where
    found : IsSome (option_or (get s.undo (w, q)) (row_at s.contents v batch (w, q)))
    found = ap is_some (sym (get-joined s.undo (rows s.contents v batch) (w, q) ∙ ap (option_or (get s.undo (w, q))) (get-rows s.contents v batch (w, q)))) ∙ some

    from : (b : Bool) → is_some (get s.undo (w, q)) ≡ b → IsSome (get s.undo (w, q)) ⊎ (w ≡ v)
    from true e = inl e
    from false e = inr (some_row s.contents v batch w q (some_of (get s.undo (w, q)) (row_at s.contents v batch (w, q)) found e))

pub extended_sound : (s : StoreState) (v : ℕ) (batch : List Mutation) → IsStoreState s → s.applied < v → IsStoreState (extended s v batch)
extended_sound s v batch sound later = record {
  floor = let le = sound.floor in omega arith;
  above = λ w q some. ⊎_elim (sound.above w q) (λ is. let le = sound.floor in omega arith) (row_extended s v batch w q some);
  upto = λ w q some. ⊎_elim (λ h. let le = sound.upto w q h in omega arith) (λ is. omega arith) (row_extended s v batch w q some);
}

pub advanced_sound : (s : StoreState) (v : ℕ) → IsStoreState s → s.applied < v → IsStoreState (advanced s v)
advanced_sound s v sound later = record {
  floor = let le = sound.floor in omega arith;
  above = sound.above;
  upto = λ w q some. let le = sound.upto w q some in omega arith;
}

-- ---- forgetting

pub forgotten_sound : (s : StoreState) (f : ℕ) → IsStoreState s → f ≤ s.applied → IsStoreState (forgotten s f)
forgotten_sound s f sound within = record {
  floor = let le = sound.floor in omega arith;
  above = λ w q some.
      let h = some_left (nat_lt f w) _ (ap is_some (sym (get-rows_above s.undo f (w, q))) ∙ some) in
      let beyond = ltb-true f w h.0 in
      let above = sound.above w q h.1 in
      omega arith;
  upto = λ w q some. sound.upto w q (some_left (nat_lt f w) _ (ap is_some (sym (get-rows_above s.undo f (w, q))) ∙ some)).1;
}

-- to forget through a version that is not above the floor changes nothing
pub forgotten_nothing : (s : StoreState) (f : ℕ) → IsStoreState s → f ≤ s.floor → forgotten s f ≡ s
forgotten_nothing s f sound le = same_state _ _ refl
    (same_map place_total place_exact _ _ (λ p. get-rows_above s.undo f p ∙ all_left p))
    refl (omega arith) refl
  where
    all_left : (p : Place) → cond (nat_lt f p.0) (get s.undo p) None ≡ get s.undo p
    all_left p = elim (nat_lt f p.0) as (λ b. nat_lt f p.0 ≡ b → cond b (get s.undo p) None ≡ get s.undo p) [
      | true ↦ λ e. refl
      | false ↦ λ e. sym (none (get s.undo p) refl (ltb-false f p.0 e))
    ] refl
      where
        none : (o : Option (Option (List ℕ))) → get s.undo p ≡ o → p.0 ≤ f → o ≡ None
        none None is at = refl
        none (Some x) is at = absurd (let above = sound.above p.0 p.1 (ap is_some is) in omega arith)

-- ---- a new store

pub fresh_sound : IsStoreState fresh
fresh_sound = record {
  floor = omega arith;
  above = λ w q some. absurd (clash (ap is_some (sym (get-empty place_cmp (w, q))) ∙ some));
  upto = λ w q some. absurd (clash (ap is_some (sym (get-empty place_cmp (w, q))) ∙ some));
}
  where
    clash : false ≡ true → ⊥
    clash h = cc
