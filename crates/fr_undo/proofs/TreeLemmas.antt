-- The entries of a tree's map, in order.
use Rattle.std.proofs.Common.{◌≡◌, ℕ, Bool, true, false, not, cond, ◌&&◌, List, [], ◌∷◌, None, Some, refl, sym, ap, ◌∙◌, subst}
use Rattle.std.specs.Prelude.{T}
use Rattle.std.specs.declared.cmp.Ordering.{Ordering}
use Rattle.std.specs.declared.cmp.Ordering.TheVariants.{Less, Equal, Greater}
use Rattle.std.specs.Ordering.{is_lt, is_le}
use Rattle.std.specs.Cmp.{IsTotalOrder, eq_by_cmp_equiv}
use Rattle.std.specs.Option.{option_or, option_map_or}
use Rattle.std.specs.List.{AllByRecursion, filter}
use Rattle.std.specs.List.Sorted.{IsStrictlySortedBy}
use Rattle.std.specs.Map.{keys_of, lookup}
use Rattle.std.specs.BTreeMap as tree
use Rattle.std.specs.BTreeMap.{BTreeMap, is_at}
use Rattle.std.specs.FinMap.{FinMap, IsAntisymmetric, find, is_sorted, entries, entries_sorted, retain_keys, from_sorted, get-entries, get-retain_keys, entries-from_sorted, get-from_sorted, same_map}
use Rattle.std.specs.FinMap.Entries.{below_all, where_key, find-where_key, is_sorted-where_key}
use Rattle.std.proofs.lemmas.Map.Keys.{sorted_head, sorted_tail}
use Rattle.fr_base.specs.Bytes.{bytes_cmp, bytes_total, bytes_exact}
use Rattle.fr_base.specs.Map.{Map, map_of}
use Rattle.fr_mutation.specs.declared.shard.Shard.{Shard}
use Rattle.fr_mutation.specs.Shard.{in_shard, part}
use Rattle.fr_undo.proofs.RangeLemmas.{not_le, none_between}
use Rattle.fr_base.proofs.MapLemmas.{get-map_of, one_key, none_below}

both : (a b : Bool) → T a → T b → T (a && b)
both true b p q = q
both false b p q = p

module _ {K X : Type 0} (R : K → K → Ordering) where
  pub find-lookup : (q : K) (es : List (K × X)) → find R q es ≡ lookup (is_at (R q)) es
  find-lookup q [] = refl
  find-lookup q (e ∷ es) = ap (cond (is_at (R q) e.0) (Some e.1)) (find-lookup q es)

  below : (k : K) (es : List (K × X)) → AllByRecursion (λ y. R k y ≡ Less) (keys_of es) → T (below_all R k es)
  below k [] h = tt
  below k (e ∷ es) h = both (is_lt (R k e.0)) (below_all R k es) (subst (λ r. T (is_lt r)) (sym h.0) tt) (below k es h.1)

  pub sorted : (es : List (K × X)) → IsStrictlySortedBy R (keys_of es) → T (is_sorted R es)
  sorted [] s = tt
  sorted (e ∷ es) s = both (below_all R e.0 es) (is_sorted R es) (below e.0 es (sorted_head R e.0 (keys_of es) s)) (sorted es (sorted_tail R e.0 (keys_of es) s))

  -- a tree and its map have the same entries
  pub entries-map_of : IsTotalOrder R → IsAntisymmetric R → (m : BTreeMap K X) → tree.IsOrdered R m → entries (map_of {R = R} m) ≡ m.entries
  entries-map_of o same m ordered =
      let made : FinMap R X = from_sorted m.entries in
      let is : map_of {R = R} m ≡ made = same_map o same _ _ (λ q. get-map_of o m q ∙ sym (get-from_sorted R m.entries q (sorted m.entries ordered) ∙ find-lookup q m.entries)) in
      ap entries is ∙ entries-from_sorted R m.entries (sorted m.entries ordered)

  -- the entries of a map whose keys pass a test, in order
  pub entries-retain_keys : IsTotalOrder R → IsAntisymmetric R → (m : FinMap R X) (p : K → Bool) → entries (retain_keys m p) ≡ where_key R p (entries m)
  entries-retain_keys o same m p =
      let left = where_key R p (entries m) in
      let ordered = is_sorted-where_key R p (entries m) (entries_sorted m) in
      let made : FinMap R X = from_sorted left in
      let alike : (q x : K) → R q x ≡ Equal → p x ≡ p q = λ q x e. ap p (sym (same q x e)) in
      let is : retain_keys m p ≡ made = same_map o same _ _ (λ q.
      get-retain_keys m p q (alike q)
      ∙ ap (λ v. cond (p q) v None) (get-entries m q)
      ∙ sym (get-from_sorted R left q ordered ∙ find-where_key R p q (alike q) (entries m))) in
      ap entries is ∙ entries-from_sorted R left ordered

  -- one more entry copied
  pub copied_sorted : (es rest : List (K × X)) (e : K × X) → es ≡ e ∷ rest → IsStrictlySortedBy R (keys_of es) → IsStrictlySortedBy R (keys_of rest)
  copied_sorted es rest e is s = sorted_tail R e.0 (keys_of rest) (subst (λ (l : List (K × X)). IsStrictlySortedBy R (keys_of l)) is s)

  pub copied_step : IsTotalOrder R → IsAntisymmetric R → (es rest : List (K × X)) (e : K × X) (copy copy' : BTreeMap K X) → es ≡ e ∷ rest → IsStrictlySortedBy R (keys_of es)
      → ((q : K) → tree.get R copy' q ≡ cond (is_at (R e.0) q) (Some e.1) (tree.get R copy q))
      → (q : K) → option_or (lookup (is_at (R q)) rest) (tree.get R copy' q) ≡ option_or (lookup (is_at (R q)) es) (tree.get R copy q)
  copied_step o same es rest e copy copy' is s put q =
      ap (option_or (lookup (is_at (R q)) rest)) (put q ∙ ap (λ b. cond b (Some e.1) (tree.get R copy q)) ((eq_by_cmp_equiv o).symm e.0 q))
      ∙ elim (is_at (R q) e.0) as (λ b. is_at (R q) e.0 ≡ b → option_or (lookup (is_at (R q)) rest) (cond b (Some e.1) (tree.get R copy q)) ≡ option_or (cond b (Some e.1) (lookup (is_at (R q)) rest)) (tree.get R copy q)) [
        | true ↦ λ t.
            let none = ap (λ k. lookup (is_at (R k)) rest) (one_key same q e.0 t) ∙ none_below o e.0 rest (sorted_head R e.0 (keys_of rest) (subst (λ (l : List (K × X)). IsStrictlySortedBy R (keys_of l)) is s)) in
            ap (λ v. option_or v (Some e.1)) none
        | false ↦ λ t. refl
      ] refl
      ∙ sym (ap (λ l. option_or (lookup (is_at (R q)) l) (tree.get R copy q)) is)

-- ---- keys of a shard

pub filter-congruent : {X : Type 0} (p r : List ℕ → Bool) → ((q : List ℕ) → p q ≡ r q) → (es : List (List ℕ × X)) → filter (λ e. p e.0) es ≡ filter (λ e. r e.0) es
filter-congruent p r h es = λ i. filter (λ e. h e.0 i) es

filter-none : {X : Type 0} (es : List X) → filter (λ e. false) es ≡ []
filter-none [] = refl
filter-none (e ∷ es) = filter-none es

not_lt : (r : Ordering) → is_le r ≡ false → is_lt r ≡ false
not_lt Less e = cc
not_lt Equal e = refl
not_lt Greater e = refl

pub part-entries : (m : Map) (s : Shard) (p : List ℕ → Bool) → ((q : List ℕ) → p q ≡ in_shard s q) → filter (λ e. p e.0) (entries m) ≡ entries (part m s)
part-entries m s p h = filter-congruent p (in_shard s) h (entries m) ∙ sym (entries-retain_keys bytes_cmp bytes_total bytes_exact m (in_shard s))

-- no key is in a shard that ends before it begins
pub part-inverted : (m : Map) (s : Shard) (end : List ℕ) → s.end ≡ Some end → is_le (bytes_cmp s.begin end) ≡ false → [] ≡ entries (part m s)
part-inverted m s end is e =
    sym (filter-none (entries m))
    ∙ part-entries m s (λ q. false) (λ q.
    sym (none_between s.begin end q (not_lt (bytes_cmp s.begin end) e))
    ∙ ap (λ o. is_le (bytes_cmp s.begin q) && option_map_or (λ limit. is_lt (bytes_cmp q limit)) o true) (sym is))

pub in_shard-open : (s : Shard) → s.end ≡ None → (q : List ℕ) → (is_le (bytes_cmp s.begin q) && not false) ≡ in_shard s q
in_shard-open s is q = ap (λ o. is_le (bytes_cmp s.begin q) && option_map_or (λ limit. is_lt (bytes_cmp q limit)) o true) (sym is)

pub in_shard-closed : (s : Shard) (end : List ℕ) → s.end ≡ Some end → (q : List ℕ) → (is_le (bytes_cmp s.begin q) && not (is_le (bytes_cmp end q))) ≡ in_shard s q
in_shard-closed s end is q =
    ap (λ b. is_le (bytes_cmp s.begin q) && b) (not_le end q)
    ∙ ap (λ o. is_le (bytes_cmp s.begin q) && option_map_or (λ limit. is_lt (bytes_cmp q limit)) o true) (sym is)
