-- What the end of an epoch says of the replies that are counted.
use Rattle.std.proofs.Common.{◌≡◌, ℕ, ◌+◌, ◌-◌, ◌≤◌, ◌⊎◌, Bool, true, false, cond, not, ◌&&◌, ◌||◌, nat_lt, ◌==◌, List, [], ◌∷◌, ◌++◌, map, min, max, Some, refl, sym, ◌∙◌, ap, subst, inl, inr, arith}
use Rattle.std.specs.Prelude.{fold, Ok, Err, count_by, None}
use Rattle.std.specs.List.{All, Contains, range_with_len}
use Rattle.std.proofs.lemmas.Bool.{cases_lt, le-ltb, lt-ltb, ltb-true, ltb-false}
use Rattle.std.proofs.lemmas.List.Elements.{All-nil, All-cons, All-head, Contains-append_left, Contains-append_right, Contains-push}
use Rattle.std.proofs.lemmas.List.Sums.{sum_by-cons}
use Rattle.fr_tags.specs.Placement.{covers, is_among, log_count}
use Rattle.fr_epoch.specs.EndTally.{EndState, has_replied, is_covered, responders, greatest_known, least_durable, pev_of, rv_of}
use Rattle.fr_epoch.specs.EndLaw.{IsEndOfReplies, EndIsOfReplies, CoveredStays}
use Rattle.fr_epoch.specs.declared.reply.Reply.{Reply}
use Rattle.fr_epoch.specs.declared.end.EpochEnd.{EpochEnd}
use Rattle.fr_epoch.specs.declared.end.Inconsistent.{Inconsistent}

contains_first : (x : Reply) (xs : List Reply) → Contains (x ∷ xs) x
contains_first x xs = Contains-append_left (x ∷ []) xs x (Contains-push [] x)

contains_later : (y : Reply) (xs : List Reply) (x : Reply) → Contains xs x → Contains (y ∷ xs) x
contains_later y xs x h = Contains-append_right (y ∷ []) xs x h

-- ---- counting

-- where a test passes wherever another does, it passes as often
count_more : (p q : ℕ → Bool) → ((x : ℕ) → p x ≡ true → q x ≡ true) → (xs : List ℕ) → count_by p xs ≤ count_by q xs
count_more p q from [] = omega arith
count_more p q from (x ∷ xs) =
    let a : count_by p (x ∷ xs) ≡ cond (p x) 1 0 + count_by p xs = sum_by-cons (λ y. cond (p y) 1 0) x xs in
    let b : count_by q (x ∷ xs) ≡ cond (q x) 1 0 + count_by q xs = sum_by-cons (λ y. cond (q y) 1 0) x xs in
    let k = go (p x) refl (q x) refl (count_more p q from xs) in
    omega (arith, a, b, k)
  where
    go : (a : Bool) → p x ≡ a → (b : Bool) → q x ≡ b → count_by p xs ≤ count_by q xs → (cond a 1 0 + count_by p xs) ≤ (cond b 1 0 + count_by q xs)
    go true e true f k = omega (arith, k)
    go true e false f k = let j : true ≡ false = sym (from x e) ∙ f in absurd (cc)
    go false e true f k = omega (arith, k)
    go false e false f k = omega (arith, k)

none_counted : (xs : List ℕ) → count_by (is_among []) xs ≡ 0
none_counted [] = refl
none_counted (x ∷ xs) = none_counted xs

none_cover : (m k : ℕ) → covers m k [] ≡ false
none_cover m k = le-ltb (m - k) (log_count m []) (let e = none_counted (range_with_len 0 m) in omega (arith, e))

among_more : (logs : List ℕ) (log x : ℕ) → is_among logs x ≡ true → is_among (logs ++ log ∷ []) x ≡ true
among_more [] log x e = absurd (cc)
among_more (l ∷ logs) log x e = go (l == x) e (among_more logs log x)
  where
    go : (b : Bool) → (b || is_among logs x) ≡ true → (is_among logs x ≡ true → is_among (logs ++ log ∷ []) x ≡ true) → (b || is_among (logs ++ log ∷ []) x) ≡ true
    go true k rest = refl
    go false k rest = rest k

logs_more : (rs : List Reply) (r : Reply) → map (λ (q : Reply). q.log) (rs ++ r ∷ []) ≡ map (λ (q : Reply). q.log) rs ++ r.log ∷ []
logs_more [] r = refl
logs_more (q ∷ rs) r = ap (λ ls. q.log ∷ ls) (logs_more rs r)

covers_more : (m k : ℕ) (logs : List ℕ) (log : ℕ) → covers m k logs ≡ true → covers m k (logs ++ log ∷ []) ≡ true
covers_more m k logs log e =
    let low = ltb-true (m - k) (log_count m logs) e in
    let more = count_more (is_among logs) (is_among (logs ++ log ∷ [])) (among_more logs log) (range_with_len 0 m) in
    lt-ltb (m - k) (log_count m (logs ++ log ∷ [])) (omega (arith, low, more))

pub covered_stays : CoveredStays
covered_stays s r e = go (nat_lt r.log s.m && not (has_replied s r.log))
  where
    go : (b : Bool) → is_covered (cond b (record s { replies = s.replies ++ r ∷ [] }) s) ≡ true
    go true = ap (covers s.m s.k) (logs_more s.replies r) ∙ covers_more s.m s.k (responders s) r.log e
    go false = e

-- ---- the greatest and the least

record IsGreatest (v w : ℕ) (rs : List Reply) : Type 0 where
  from : v ≤ w
  all : All (λ r. r.known ≤ w) rs
  some : (w ≡ v) ⊎ ((r : Reply) × Contains rs r × (r.known ≡ w))

greatest : (v : ℕ) (rs : List Reply) → IsGreatest v (fold (λ v r. max v r.known) v rs) rs
greatest v [] = record { from = omega arith; all = All-nil (λ r. r.known ≤ v); some = inl refl }
greatest v (r ∷ rs) =
    let k = greatest (max v r.known) rs in
    let low = k.from in
    record {
      from = omega (arith, low);
      all = All-cons (λ q. q.known ≤ fold (λ v r. max v r.known) (max v r.known) rs) r rs (omega (arith, low)) k.all;
      some = pick k.some;
    }
  where
    w : ℕ
    w = fold (λ v r. max v r.known) (max v r.known) rs

    pick : (w ≡ max v r.known) ⊎ ((q : Reply) × Contains rs q × (q.known ≡ w)) → (w ≡ v) ⊎ ((q : Reply) × Contains (r ∷ rs) q × (q.known ≡ w))
    pick (inr (q, within, is)) = inr (q, contains_later r rs q within, is)
    pick (inl e) = elim (cases_lt v r.known) [
      | inl less ↦ inr (r, contains_first r rs, omega (arith, e, less))
      | inr le ↦ inl (omega (arith, e, le))
    ]

record IsLeastOf (v w : ℕ) (rs : List Reply) : Type 0 where
  upto : w ≤ v
  all : All (λ r. w ≤ r.durable) rs
  some : (w ≡ v) ⊎ ((r : Reply) × Contains rs r × (r.durable ≡ w))

least : (v : ℕ) (rs : List Reply) → IsLeastOf v (fold (λ v r. min v r.durable) v rs) rs
least v [] = record { upto = omega arith; all = All-nil (λ r. v ≤ r.durable); some = inl refl }
least v (r ∷ rs) =
    let k = least (min v r.durable) rs in
    let low = k.upto in
    record {
      upto = omega (arith, low);
      all = All-cons (λ q. fold (λ v r. min v r.durable) (min v r.durable) rs ≤ q.durable) r rs (omega (arith, low)) k.all;
      some = pick k.some;
    }
  where
    w : ℕ
    w = fold (λ v r. min v r.durable) (min v r.durable) rs

    pick : (w ≡ min v r.durable) ⊎ ((q : Reply) × Contains rs q × (q.durable ≡ w)) → (w ≡ v) ⊎ ((q : Reply) × Contains (r ∷ rs) q × (q.durable ≡ w))
    pick (inr (q, within, is)) = inr (q, contains_later r rs q within, is)
    pick (inl e) = elim (cases_lt r.durable v) [
      | inl less ↦ inr (r, contains_first r rs, omega (arith, e, less))
      | inr le ↦ inl (omega (arith, e, le))
    ]

-- ---- the end

known_of_some : (r : Reply) (rs : List Reply) → (q : Reply) × Contains (r ∷ rs) q × (q.known ≡ greatest_known (r ∷ rs))
known_of_some r rs = go (greatest 0 (r ∷ rs))
  where
    go : IsGreatest 0 (greatest_known (r ∷ rs)) (r ∷ rs) → (q : Reply) × Contains (r ∷ rs) q × (q.known ≡ greatest_known (r ∷ rs))
    go k = elim k.some [
      | inl zero_is ↦ (let low = All-head (λ q. q.known ≤ greatest_known (r ∷ rs)) r rs k.all in (r, contains_first r rs, omega (arith, zero_is, low)))
      | inr found ↦ found
    ]

durable_of_some : (r : Reply) (rs : List Reply) → (q : Reply) × Contains (r ∷ rs) q × (q.durable ≡ least_durable (r ∷ rs))
durable_of_some r rs = elim (least r.durable rs).some [
  | inl e ↦ (r, contains_first r rs, sym e)
  | inr (q, within, is) ↦ (q, contains_later r rs q within, is)
]

of_replies : (s : EndState) (rs : List Reply) → s.replies ≡ rs → is_covered s ≡ true → pev_of s ≤ rv_of s → IsEndOfReplies s (pev_of s) (rv_of s)
of_replies s [] is cov within = let k : false ≡ true = sym (none_cover s.m s.k) ∙ ap (λ rs. covers s.m s.k (map (λ (q : Reply). q.log) rs)) (sym is) ∙ cov in absurd (cc)
of_replies s (r ∷ rs) is cov within = record {
  covered = cov;
  within = within;
  known_most = (greatest 0 s.replies).all;
  known_some = subst (λ xs. (q : Reply) × Contains xs q × (q.known ≡ greatest_known xs)) (sym is) (known_of_some r rs);
  durable_least = subst (λ xs. All (λ q. least_durable xs ≤ q.durable) xs) (sym is) (All-cons (λ q. least_durable (r ∷ rs) ≤ q.durable) r rs (least r.durable rs).upto (least r.durable rs).all);
  durable_some = subst (λ xs. (q : Reply) × Contains xs q × (q.durable ≡ least_durable xs)) (sym is) (durable_of_some r rs);
}

pub end_is_of_replies : EndIsOfReplies
end_is_of_replies s e is = go (is_covered s) refl (nat_lt (rv_of s) (pev_of s)) refl is
  where
    go : (a : Bool) → is_covered s ≡ a → (b : Bool) → nat_lt (rv_of s) (pev_of s) ≡ b
        → cond a (cond b (Err (let i : Inconsistent = record {} in i)) (Ok (Some (let e : EpochEnd = record { pev = pev_of s; rv = rv_of s } in e)))) (Ok None) ≡ Ok (Some e) → IsEndOfReplies s e.pev e.rv
    go true cov false low k =
        let d : (let e : EpochEnd = record { pev = pev_of s; rv = rv_of s } in e) ≡ e = cc in
        let within = ltb-false (rv_of s) (pev_of s) low in
        subst (λ (x : EpochEnd). IsEndOfReplies s x.pev x.rv) d (of_replies s s.replies refl cov within)
    go true cov true low k = absurd (cc)
    go false cov b low k = absurd (cc)
