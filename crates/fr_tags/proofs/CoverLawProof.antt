-- Why covering sets meet each tag's holders, and why smaller ones need not.
use Rattle.std.proofs.Common.{◌≡◌, ◌≢◌, ℕ, ◌+◌, ◌-◌, ◌%◌, ◌<◌, ◌≤◌, false, ◌&&◌, not, nat_eq, length, get_or, sym, ◌∙◌, ap, subst, inl, inr, arith}
use Rattle.std.specs.List.{Contains}
use Rattle.std.proofs.Math.Nat.{mod-eq_of_lt, add-mod_right, mod-add-mod}
use Rattle.std.proofs.lemmas.Nat.{mod_below}
use Rattle.std.proofs.lemmas.Bool.{cases_lt, and_parts, ltb-true, ne_eqb, not-true, false_from_ne_true, both_ways}
use Rattle.std.proofs.lemmas.List.Elements.{All-from_get_or}
use Rattle.std.proofs.lemmas.List.FromFn.{length-map-range_with_len, get_or-map-range_with_len}
use Rattle.std.proofs.lemmas.Map.Keys.{IsDistinct-from_apart}
use Rattle.fr_tags.specs.Placement.{holders, is_among, is_held, log_count}
use Rattle.fr_tags.specs.CoverLaw.{EachTagHasHolders, HeldByHolders, CoveringMeetsEachTag, FewerMayMissEachTag, HolderIsLeft, DistinctLogsCount}
use Rattle.fr_tags.proofs.LogCounting.{count, count_by-range, count_both, count_not, count_found, count_among, Contains-from_among, among-from_Contains}

-- a step of less than a whole round ends elsewhere
step_from : (r d m : ℕ) → r < m → 0 < d → d < m → (r + d) % m ≢ r
step_from r d m below some less = elim (cases_lt (r + d) m) [
  | inl inside ↦ λ same. let e = mod-eq_of_lt inside in absurd (omega (arith, e, same))
  | inr round ↦ λ same.
      let split : r + d ≡ (r + d - m) + m = omega arith in
      let short : r + d - m < m = omega arith in
      let e : (r + d) % m ≡ r + d - m = ap (λ x. x % m) split ∙ add-mod_right (r + d - m) m ∙ mod-eq_of_lt short in
      absurd (omega (arith, e, same))
]

apart : (x d m : ℕ) → 0 < d → d < m → (x + d) % m ≢ x % m
apart x d m some less same = step_from (x % m) d m (mod_below x m (omega arith)) some less (mod-add-mod x m d ∙ same)

at : (t m k i d : ℕ) → i < k → get_or (holders t m k) i d ≡ (t + i) % m
at t m k i d l = get_or-map-range_with_len (λ j. (t + j) % m) 0 k i i d l (omega arith)

pub each_tag_has_holders : EachTagHasHolders
each_tag_has_holders t m k fits =
    let many : length (holders t m k) ≡ k = length-map-range_with_len (λ j. (t + j) % m) 0 k in
    record {
      many = many;
      distinct = IsDistinct-from_apart nat_eq (holders t m k) (λ i j d less within.
          let inside : j < k = omega arith in
          let here = at t m k i d (omega arith) in
          let there = at t m k j d inside in
          let gap : t + j ≡ (t + i) + (j - i) = omega arith in
          let differ : (t + j) % m ≢ (t + i) % m = subst (λ x. x % m ≢ (t + i) % m) (sym gap) (apart (t + i) (j - i) m (omega arith) (omega arith)) in
          rw (here, there) (ne_eqb ((t + i) % m) ((t + j) % m) (λ e. differ (sym e))));
      below = All-from_get_or (λ log. log < m) (holders t m k) 0 (λ i within.
          let inside : i < k = omega arith in
          rw (at t m k i 0 inside) (mod_below (t + i) m (omega arith)));
    }

pub held_by_holders : HeldByHolders
held_by_holders t m k log = (Contains-from_among (holders t m k) log, among-from_Contains (holders t m k) log)

pub distinct_logs_count : DistinctLogsCount
distinct_logs_count m n logs are = count_by-range (is_among logs) m ∙ count_among logs m are.distinct are.below ∙ are.many

-- as many of the m logs hold a tag as it has holders
holder_count : (t m k : ℕ) → k ≤ m → count (is_held t m k) m ≡ k
holder_count t m k fits =
    let are = each_tag_has_holders t m k fits in
    count_among (holders t m k) m are.distinct are.below ∙ are.many

pub covering_meets_each_tag : CoveringMeetsEachTag
covering_meets_each_tag t m k logs fits covering =
    let more = ltb-true (m - k) (log_count m logs) covering in
    let told = count_by-range (is_among logs) m in
    let holding = holder_count t m k fits in
    let both = count_both (is_among logs) (is_held t m k) m in
    let found = count_found (λ i. is_among logs i && is_held t m k i) m (omega (arith, more, told, holding, both)) in
    let parts = and_parts (is_among logs found.0) (is_held t m k found.0) found.2 in
    (found.0, found.1, Contains-from_among logs found.0 parts.0, parts.1)

pub holder_is_left : HolderIsLeft
holder_is_left t m k lost fits fewer =
    let told = count_by-range (is_among lost) m in
    let others = count_not (is_among lost) m in
    let holding = holder_count t m k fits in
    let both = count_both (is_held t m k) (λ i. not (is_among lost i)) m in
    let found = count_found (λ i. is_held t m k i && not (is_among lost i)) m (omega (arith, fewer, told, others, holding, both)) in
    let parts = and_parts (is_held t m k found.0) (not (is_among lost found.0)) found.2 in
    (found.0, found.1, parts.0, λ has. both_ways (is_among lost found.0) (not-true (is_among lost found.0) parts.1) (among-from_Contains lost found.0 has))

-- the logs after those that hold a tag
pub fewer_may_miss_each_tag : FewerMayMissEachTag
fewer_may_miss_each_tag t m k n few =
    let are = each_tag_has_holders (t + k) m n (omega arith) in (
      holders (t + k) m n,
      are,
      All-from_get_or (λ log. is_held t m k log ≡ false) (holders (t + k) m n) 0 (λ i within.
          let many = are.many in
          let inside : i < n = omega arith in
          rw (at (t + k) m n i 0 inside) (false_from_ne_true (is_held t m k (((t + k) + i) % m)) (λ held. clash i inside (Contains-from_among (holders t m k) (((t + k) + i) % m) held)))),
    )
  where
    clash : (i : ℕ) → i < n → Contains (holders t m k) (((t + k) + i) % m) → ⊥
    clash i inside (j, within, e) =
        let many = length-map-range_with_len (λ j. (t + j) % m) 0 k in
        let less : j < k = omega (arith, within, many) in
        let here = at t m k j (((t + k) + i) % m) less in
        let gap : (t + k) + i ≡ (t + j) + (k + i - j) = omega arith in
        apart (t + j) (k + i - j) m (omega arith) (omega arith) (ap (λ x. x % m) (sym gap) ∙ sym e ∙ here)
