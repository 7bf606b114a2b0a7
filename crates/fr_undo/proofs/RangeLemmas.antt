-- Keys of a range.
use Rattle.std.proofs.Common.{◌≡◌, ℕ, Bool, true, false, cond, ◌||◌, ◌&&◌, not, List, [], ◌∷◌, ◌++◌, Some, refl, sym, ap, ◌∙◌}
use Rattle.std.specs.Prelude.{is_some}
use Rattle.std.specs.declared.cmp.Ordering.{Ordering}
use Rattle.std.specs.declared.cmp.Ordering.TheVariants.{Less, Equal, Greater}
use Rattle.std.specs.Ordering.{is_le, is_lt, ordering_reverse}
use Rattle.std.specs.List.{list_any, filter}
use Rattle.std.specs.Map.{lookup, keys_of}
use Rattle.std.specs.BTreeMap.{is_at}
use Rattle.std.specs.BTreeMap.Comparable.{le_lt_trans}
use Rattle.fr_base.specs.Bytes.{bytes_cmp, is_same, bytes_exact, bytes_total}
use Rattle.fr_base.proofs.MapLemmas.{one_key, is_same-comm}
use Rattle.fr_undo.specs.Changes.{is_key_of, covers}
use Rattle.std.proofs.lemmas.List.Folds.{list_any-append}
use Rattle.fr_mutation.specs.Mutation.{is_between}
use Rattle.fr_mutation.proofs.Order.{lt-le, lt_one_way, le_trans, lt_le_trans, le_from_not_lt}

and_false : (b : Bool) → (b && false) ≡ false
and_false true = refl
and_false false = refl

pub among_filtered : {X : Type 0} (p : List ℕ → Bool) (q : List ℕ) (es : List (List ℕ × X)) → list_any (is_key_of q) (filter (λ e. p e.0) es) ≡ (p q && is_some (lookup (is_at (bytes_cmp q)) es))
among_filtered {X} p q [] = sym (and_false (p q))
among_filtered {X} p q (e ∷ es) =
    let rest = filter (λ (f : List ℕ × X). p f.0) es in
    elim (is_same q e.0) as (λ b. is_same q e.0 ≡ b → list_any (is_key_of q) (cond (p e.0) (e ∷ rest) rest) ≡ (p q && is_some (cond b (Some e.1) (lookup (is_at (bytes_cmp q)) es)))) [
      | true ↦ λ t. ap (λ x. list_any (is_key_of q) (cond (p x) (e ∷ rest) rest)) (sym (one_key bytes_exact q e.0 t)) ∙ here (p q) refl (is_same-comm e.0 q ∙ t) (among_filtered p q es)
      | false ↦ λ t. there (p e.0) (is_same-comm e.0 q ∙ t) ∙ among_filtered p q es
    ] refl
  where
    here : (b : Bool) → p q ≡ b → is_same e.0 q ≡ true → list_any (is_key_of q) (filter (λ f. p f.0) es) ≡ (p q && is_some (lookup (is_at (bytes_cmp q)) es)) → list_any (is_key_of q) (cond b (e ∷ filter (λ f. p f.0) es) (filter (λ f. p f.0) es)) ≡ (b && true)
    here true h t ih = ap (λ s. s || list_any (is_key_of q) (filter (λ f. p f.0) es)) t
    here false h t ih = ih ∙ ap (λ s. s && is_some (lookup (is_at (bytes_cmp q)) es)) h

    there : (b : Bool) → is_same e.0 q ≡ false → list_any (is_key_of q) (cond b (e ∷ filter (λ f. p f.0) es) (filter (λ f. p f.0) es)) ≡ list_any (is_key_of q) (filter (λ f. p f.0) es)
    there true t = ap (λ s. s || list_any (is_key_of q) (filter (λ f. p f.0) es)) t
    there false t = refl

-- the keys of entries are those that the entries have
pub any_keys : {X : Type 0} (q : List ℕ) (es : List (List ℕ × X)) → list_any (λ k. is_same k q) (keys_of es) ≡ list_any (is_key_of q) es
any_keys q [] = refl
any_keys q (e ∷ es) = ap (λ b. is_same e.0 q || b) (any_keys q es)

pub not_le : (a b : List ℕ) → not (is_le (bytes_cmp a b)) ≡ is_lt (bytes_cmp b a)
not_le a b = turn (bytes_cmp a b) ∙ ap is_lt (sym (bytes_total.antisymm b a))
  where
    turn : (r : Ordering) → not (is_le r) ≡ is_lt (ordering_reverse r)
    turn Less = refl
    turn Equal = refl
    turn Greater = refl

-- nothing is between the ends of an empty range
pub none_between : (begin end q : List ℕ) → is_lt (bytes_cmp begin end) ≡ false → is_between begin end q ≡ false
none_between begin end q e = by (is_le (bytes_cmp begin q)) (bytes_cmp q end) refl refl
  where
    by : (b : Bool) (r : Ordering) → is_le (bytes_cmp begin q) ≡ b → bytes_cmp q end ≡ r → (b && is_lt r) ≡ false
    by false r s t = refl
    by true Less s t = sym (ap is_lt (le_lt_trans bytes_total begin q end s t)) ∙ e
    by true Equal s t = refl
    by true Greater s t = refl

-- ---- ranges that meet

hull_tests : (m n x y x' y' : Bool)
    → (m ≡ true → x' ≡ true → x ≡ true) → (m ≡ false → x ≡ true → x' ≡ true)
    → (n ≡ true → y ≡ true → y' ≡ true) → (n ≡ false → y' ≡ true → y ≡ true)
    → (y ≡ false → x' ≡ true) → (y' ≡ false → x ≡ true)
    → (cond m x x' && cond n y' y) ≡ ((x && y) || (x' && y'))
hull_tests true true true true true true _ _ _ _ _ _ = refl
hull_tests true true true true true false _ _ h _ _ _ = cc (h refl refl)
hull_tests true true true true false true _ _ _ _ _ _ = refl
hull_tests true true true true false false _ _ h _ _ _ = cc (h refl refl)
hull_tests true true true false true true _ _ _ _ _ _ = refl
hull_tests true true true false true false _ _ _ _ _ _ = refl
hull_tests true true true false false true _ _ _ _ h _ = cc (h refl)
hull_tests true true true false false false _ _ _ _ _ _ = refl
hull_tests true true false true true true h _ _ _ _ _ = cc (h refl refl)
hull_tests true true false true true false _ _ _ _ _ _ = refl
hull_tests true true false true false true _ _ _ _ _ _ = refl
hull_tests true true false true false false _ _ _ _ _ _ = refl
hull_tests true true false false true true h _ _ _ _ _ = cc (h refl refl)
hull_tests true true false false true false _ _ _ _ _ _ = refl
hull_tests true true false false false true _ _ _ _ _ _ = refl
hull_tests true true false false false false _ _ _ _ _ _ = refl
hull_tests true false true true true true _ _ _ _ _ _ = refl
hull_tests true false true true true false _ _ _ _ _ _ = refl
hull_tests true false true true false true _ _ _ _ _ _ = refl
hull_tests true false true true false false _ _ _ _ _ _ = refl
hull_tests true false true false true true _ _ _ h _ _ = cc (h refl refl)
hull_tests true false true false true false _ _ _ _ _ _ = refl
hull_tests true false true false false true _ _ _ _ _ _ = refl
hull_tests true false true false false false _ _ _ _ _ _ = refl
hull_tests true false false true true true h _ _ _ _ _ = cc (h refl refl)
hull_tests true false false true true false _ _ _ _ _ _ = refl
hull_tests true false false true false true _ _ _ _ _ _ = refl
hull_tests true false false true false false _ _ _ _ _ _ = refl
hull_tests true false false false true true h _ _ _ _ _ = cc (h refl refl)
hull_tests true false false false true false _ _ _ _ _ _ = refl
hull_tests true false false false false true _ _ _ _ _ _ = refl
hull_tests true false false false false false _ _ _ _ _ _ = refl
hull_tests false true true true true true _ _ _ _ _ _ = refl
hull_tests false true true true true false _ _ h _ _ _ = cc (h refl refl)
hull_tests false true true true false true _ h _ _ _ _ = cc (h refl refl)
hull_tests false true true true false false _ h _ _ _ _ = cc (h refl refl)
hull_tests false true true false true true _ _ _ _ _ _ = refl
hull_tests false true true false true false _ _ _ _ _ _ = refl
hull_tests false true true false false true _ _ _ _ _ _ = refl
hull_tests false true true false false false _ _ _ _ _ _ = refl
hull_tests false true false true true true _ _ _ _ _ _ = refl
hull_tests false true false true true false _ _ _ _ _ _ = refl
hull_tests false true false true false true _ _ _ _ _ _ = refl
hull_tests false true false true false false _ _ _ _ _ _ = refl
hull_tests false true false false true true _ _ _ _ _ _ = refl
hull_tests false true false false true false _ _ _ _ _ _ = refl
hull_tests false true false false false true _ _ _ _ _ _ = refl
hull_tests false true false false false false _ _ _ _ _ _ = refl
hull_tests false false true true true true _ _ _ _ _ _ = refl
hull_tests false false true true true false _ _ _ _ _ _ = refl
hull_tests false false true true false true _ h _ _ _ _ = cc (h refl refl)
hull_tests false false true true false false _ h _ _ _ _ = cc (h refl refl)
hull_tests false false true false true true _ _ _ h _ _ = cc (h refl refl)
hull_tests false false true false true false _ _ _ _ _ _ = refl
hull_tests false false true false false true _ _ _ _ _ _ = refl
hull_tests false false true false false false _ _ _ _ _ _ = refl
hull_tests false false false true true true _ _ _ _ _ _ = refl
hull_tests false false false true true false _ _ _ _ _ h = cc (h refl)
hull_tests false false false true false true _ _ _ _ _ _ = refl
hull_tests false false false true false false _ _ _ _ _ _ = refl
hull_tests false false false false true true _ _ _ h _ _ = cc (h refl refl)
hull_tests false false false false true false _ _ _ _ _ _ = refl
hull_tests false false false false false true _ _ _ _ _ _ = refl
hull_tests false false false false false false _ _ _ _ _ _ = refl

-- the hull of two ranges that meet holds the keys of both, and no others
pub hull_holds : (b e b' e' q : List ℕ) → is_le (bytes_cmp b e') ≡ true → is_le (bytes_cmp b' e) ≡ true
    → is_between (cond (is_le (bytes_cmp b b')) b b') (cond (is_le (bytes_cmp e e')) e' e) q ≡ (is_between b e q || is_between b' e' q)
hull_holds b e b' e' q one other =
    (λ i. begins (is_le (bytes_cmp b b')) i && ends (is_le (bytes_cmp e e')) i)
    ∙ hull_tests (is_le (bytes_cmp b b')) (is_le (bytes_cmp e e')) (is_le (bytes_cmp b q)) (is_lt (bytes_cmp q e)) (is_le (bytes_cmp b' q)) (is_lt (bytes_cmp q e'))
    (λ m x. le_trans b b' q m x)
    (λ m x. le_trans b' b q (after b b' m) x)
    (λ n y. lt_le_trans q e e' y n)
    (λ n y. lt_le_trans q e' e y (after e e' n))
    (λ y. le_trans b' e q other (le_from_not_lt q e y))
    (λ y. le_trans b e' q one (le_from_not_lt q e' y))
  where
    begins : (m : Bool) → is_le (bytes_cmp (cond m b b') q) ≡ cond m (is_le (bytes_cmp b q)) (is_le (bytes_cmp b' q))
    begins true = refl
    begins false = refl

    ends : (n : Bool) → is_lt (bytes_cmp q (cond n e' e)) ≡ cond n (is_lt (bytes_cmp q e')) (is_lt (bytes_cmp q e))
    ends true = refl
    ends false = refl

    not_not : (s : Bool) → not s ≡ false → s ≡ true
    not_not true h = refl
    not_not false h = cc

    lt_from : (s : Bool) (r : Bool) → s ≡ not r → r ≡ false → s ≡ true
    lt_from s r h k = h ∙ ap not k

    after : (x y : List ℕ) → is_le (bytes_cmp x y) ≡ false → is_le (bytes_cmp y x) ≡ true
    after x y h = le_from_not_lt x y (lt_one_way y x (lt_from (is_lt (bytes_cmp y x)) (is_le (bytes_cmp x y)) (lt-le y x) h))

-- a range apart from the rest
pub apart_holds : (rs rs' : List (List ℕ × List ℕ)) (r : List ℕ × List ℕ) (q : List ℕ) (m : Bool) → rs' ≡ rs ++ r ∷ [] → (covers rs' q || m) ≡ ((covers rs q || m) || is_between r.0 r.1 q)
apart_holds rs rs' r q m is =
    ap (λ xs. covers xs q || m) is
    ∙ ap (λ b. b || m) (list_any-append (λ (range : List ℕ × List ℕ). is_between range.0 range.1 q) rs (r ∷ []))
    ∙ turn (covers rs q) (is_between r.0 r.1 q) m
  where
    turn : (a b c : Bool) → ((a || (b || false)) || c) ≡ ((a || c) || b)
    turn true b c = refl
    turn false true true = refl
    turn false true false = refl
    turn false false true = refl
    turn false false false = refl

pub or_assoc : (a b c : Bool) → (a || (b || c)) ≡ ((a || b) || c)
or_assoc true b c = refl
or_assoc false b c = refl

pub both : (a b : Bool) → (a && b) ≡ true → (a ≡ true) × (b ≡ true)
both true true e = (refl, refl)
both true false e = cc
both false b e = cc
