-- The keys that a clear removes.
use Rattle.std.proofs.Common.{◌≡◌, ℕ, Bool, true, false, cond, ◌||◌, ◌&&◌, List, [], ◌∷◌, Option, None, Some, refl, sym, ap, ◌∙◌, filter}
use Rattle.std.specs.Prelude.{is_some}
use Rattle.std.specs.Ordering.{is_le}
use Rattle.std.specs.List.{list_any}
use Rattle.std.specs.Map.{keys_of, lookup}
use Rattle.std.specs.BTreeMap.{is_at}
use Rattle.std.specs.BTreeMap.Range.{range_contains, entries_between}
use Rattle.std.specs.declared.ops.Bound.TheVariants.{Included, Excluded}
use Rattle.fr_base.specs.Bytes.{bytes_cmp, bytes_exact, is_same}
use Rattle.fr_base.proofs.MapLemmas.{one_key, is_same-comm, is_some-lookup}
use Rattle.fr_mutation.specs.Mutation.{is_between}
use Rattle.fr_mutation.proofs.Order.{lt-le}

contains_between : (begin end key : List ℕ) → range_contains bytes_cmp (Included begin) (Excluded end) key ≡ is_between begin end key
contains_between begin end key = ap (λ b. is_le (bytes_cmp begin key) && b) (sym (lt-le key end))

kept_or : (a s b r : Bool) → (s ≡ true → a ≡ b) → cond a (s || (b && r)) (b && r) ≡ (b && (s || r))
kept_or true true true r h = refl
kept_or true true false r h = h refl
kept_or true false b r h = refl
kept_or false true true r h = let never : false ≡ true = h refl in cc
kept_or false true false r h = refl
kept_or false false b r h = refl

any-cond : (test : List ℕ → Bool) (b : Bool) (k : List ℕ) (ks : List (List ℕ)) → list_any test (cond b (k ∷ ks) ks) ≡ cond b (test k || list_any test ks) (list_any test ks)
any-cond test true k ks = refl
any-cond test false k ks = refl

-- q is among the keys that pass a test where it passes and is among the keys
any-filter : (p : List ℕ → Bool) (ks : List (List ℕ)) (q : List ℕ) → list_any (λ k. is_same k q) (filter p ks) ≡ (p q && list_any (is_same q) ks)
any-filter p [] q = elim (p q) as (λ b. false ≡ (b && false)) [ true ↦ refl | false ↦ refl ]
any-filter p (k ∷ ks) q =
    any-cond (λ x. is_same x q) (p k) k (filter p ks)
    ∙ (λ j. cond (p k) (is_same k q || any-filter p ks q j) (any-filter p ks q j))
    ∙ kept_or (p k) (is_same k q) (p q) (list_any (is_same q) ks) (λ e. ap p (one_key bytes_exact k q e))
    ∙ ap (λ s. p q && (s || list_any (is_same q) ks)) (is_same-comm k q)

module _ {X : Type 0} where
  -- the keys in a range
  pub keys_of-between : (begin end : List ℕ) (es : List (List ℕ × X)) → keys_of (entries_between bytes_cmp (Included begin) (Excluded end) es) ≡ filter (is_between begin end) (keys_of es)
  keys_of-between begin end [] = refl
  keys_of-between begin end (e ∷ es) = go (range_contains bytes_cmp (Included begin) (Excluded end) e.0) (contains_between begin end e.0) (keys_of-between begin end es)
    where
      go : (b : Bool) → b ≡ is_between begin end e.0 → keys_of (entries_between bytes_cmp (Included begin) (Excluded end) es) ≡ filter (is_between begin end) (keys_of es)
          → keys_of (cond b (e ∷ entries_between bytes_cmp (Included begin) (Excluded end) es) (entries_between bytes_cmp (Included begin) (Excluded end) es))
          ≡ cond (is_between begin end e.0) (e.0 ∷ filter (is_between begin end) (keys_of es)) (filter (is_between begin end) (keys_of es))
      go true f rest = ap (λ l. e.0 ∷ l) rest ∙ ap (λ c. cond c (e.0 ∷ filter (is_between begin end) (keys_of es)) (filter (is_between begin end) (keys_of es))) f
      go false f rest = rest ∙ ap (λ c. cond c (e.0 ∷ filter (is_between begin end) (keys_of es)) (filter (is_between begin end) (keys_of es))) f

  -- the value at q once the keys are removed
  abbrev pub left_at : List (List ℕ) → List ℕ → Option X → Option X
  left_at keys q old = cond (list_any (λ k. is_same k q) keys) None old

  -- once the keys of the range are removed, those outside are left
  pub left_at-between : (begin end : List ℕ) (es : List (List ℕ × X)) (q : List ℕ)
      → left_at (filter (is_between begin end) (keys_of es)) q (lookup (is_at (bytes_cmp q)) es) ≡ cond (is_between begin end q) None (lookup (is_at (bytes_cmp q)) es)
  left_at-between begin end es q =
      ap (λ b. cond b None (lookup (is_at (bytes_cmp q)) es)) (any-filter (is_between begin end) (keys_of es) q ∙ ap (λ b. is_between begin end q && b) (sym (is_some-lookup (is_at (bytes_cmp q)) es)))
      ∙ both (is_between begin end q) (lookup (is_at (bytes_cmp q)) es)
    where
      both : (b : Bool) (v : Option X) → cond (b && is_some v) None v ≡ cond b None v
      both true None = refl
      both true (Some x) = refl
      both false v = refl
