-- Tallies of replies: at most one reply of each log counts, and the end is of all of them.
use Rattle.std.proofs.Common.{◌≡◌, ℕ, zero, suc, ◌+◌, ◌<◌, ◌≤◌, Bool, true, false, cond, ◌&&◌, ◌||◌, not, nat_lt, ◌==◌, eqb, List, [], ◌∷◌, ◌++◌, length, map, take, set, None, Some, refl, sym, ◌∙◌, ap, subst, arith, length-take}
use Rattle.std.specs.Prelude.{Ok, Err}
use Rattle.std.specs.List.{All, AllByRecursion, IsDistinct, list_any}
use Rattle.std.proofs.lemmas.Bool.{eq-eqb, eqb-true, lt-ltb, ne_eqb, or_parts}
use Rattle.std.proofs.lemmas.List.Elements.{All-nil, All-cons, All-append, All-tail, All-head}
use Rattle.std.proofs.lemmas.Map.Steps.{length-le_from_distinct_below}
use Rattle.fr_epoch.specs.EndTally.{EndState, reply_of, has_replied, with_reply, heard_reply, differs, differs_from}
use Rattle.std.proofs.lemmas.List.{length-set}
use Rattle.fr_epoch.specs.EndLaw.{IsEnd, IsKept}
use Rattle.fr_epoch.specs.declared.reply.Reply.{Reply}
use Rattle.fr_epoch.specs.declared.end.ReplyFault.TheVariants.{Stranger, Differs}

abbrev logs_of : List Reply → List ℕ
logs_of rs = map (λ (r : Reply). r.log) rs

-- ---- whether a log replied

pub none_replied : (rs : List Reply) (log : ℕ) → reply_of rs log ≡ None → list_any (λ r. r.log == log) rs ≡ false
none_replied [] log e = refl
none_replied (r ∷ rs) log e = go (r.log == log) e (none_replied rs log)
  where
    go : (b : Bool) → cond b (Some r) (reply_of rs log) ≡ None → (reply_of rs log ≡ None → list_any (λ r. r.log == log) rs ≡ false) → (b || list_any (λ r. r.log == log) rs) ≡ false
    go true e rest = absurd (cc)
    go false e rest = rest e

pub some_replied : (rs : List Reply) (log : ℕ) (q : Reply) → reply_of rs log ≡ Some q → list_any (λ r. r.log == log) rs ≡ true
some_replied [] log q e = absurd (cc)
some_replied (r ∷ rs) log q e = go (r.log == log) e (some_replied rs log q)
  where
    go : (b : Bool) → cond b (Some r) (reply_of rs log) ≡ Some q → (reply_of rs log ≡ Some q → list_any (λ r. r.log == log) rs ≡ true) → (b || list_any (λ r. r.log == log) rs) ≡ true
    go true e rest = refl
    go false e rest = rest e

-- a log that replied is not counted again
pub counted_once : (s : EndState) (r : Reply) (q : Reply) → reply_of s.replies r.log ≡ Some q → s ≡ with_reply s r
counted_once s r q e = go (nat_lt r.log s.m) (has_replied s r.log) (some_replied s.replies r.log q e)
  where
    go : (a b : Bool) → b ≡ true → s ≡ cond (a && not b) (record s { replies = s.replies ++ r ∷ [] }) s
    go true true k = refl
    go false true k = refl
    go a false k = absurd (cc)

-- ---- at most one of each log

others_apart : (log : ℕ) (rs : List Reply) → list_any (λ r. r.log == log) rs ≡ false → AllByRecursion (λ y. (log == y) ≡ false) (logs_of rs)
others_apart log [] e = tt
others_apart log (r ∷ rs) e =
    let p = or_parts (r.log == log) (list_any (λ r. r.log == log) rs) e in
    (ne_eqb log r.log (λ k. (let b : (r.log == log) ≡ true = eq-eqb r.log log (sym k) in let f : true ≡ false = sym b ∙ p.0 in absurd (cc))), others_apart log rs p.1)

below_all : (m : ℕ) (rs : List Reply) → All (λ r. r.log < m) rs → (q : ℕ) → list_any (eqb q) (logs_of rs) ≡ true → q < m
below_all m [] all q e = absurd (cc)
below_all m (r ∷ rs) all q e = go (eqb q r.log) refl e (below_all m rs (All-tail (λ r. r.log < m) r rs all) q)
  where
    go : (b : Bool) → eqb q r.log ≡ b → (b || list_any (eqb q) (logs_of rs)) ≡ true → (list_any (eqb q) (logs_of rs) ≡ true → q < m) → q < m
    go true is k rest = let here = All-head (λ r. r.log < m) r rs all in let e = eqb-true q r.log is in omega (arith, here, e)
    go false is k rest = rest k

length_logs : (rs : List Reply) → length (logs_of rs) ≡ length rs
length_logs [] = refl
length_logs (r ∷ rs) = ap suc (length_logs rs)

-- there is room for the reply of one more log
pub room : (s : EndState) (r : Reply) → IsEnd s → r.log < s.m → has_replied s r.log ≡ false → length s.replies < s.m
unfolding IsDistinct
room s r k below first =
    let all : (q : ℕ) → list_any (eqb q) (logs_of (r ∷ s.replies)) ≡ true → q < s.m = below_all s.m (r ∷ s.replies) (All-cons (λ r. r.log < s.m) r s.replies below k.below) in
    let n = length-le_from_distinct_below (logs_of (r ∷ s.replies)) s.m (others_apart r.log s.replies first, k.distinct) all in
    let c = length_logs s.replies in
    omega (arith, n, c)

distinct_more : (rs : List Reply) (r : Reply) → list_any (λ q. q.log == r.log) rs ≡ false → IsDistinct (λ a b. a == b) (logs_of rs) → IsDistinct (λ a b. a == b) (logs_of (rs ++ r ∷ []))
unfolding IsDistinct
distinct_more [] r e d = (tt, tt)
distinct_more (q ∷ rs) r e (apart, d) =
    let p = or_parts (q.log == r.log) (list_any (λ q. q.log == r.log) rs) e in
    (more rs apart p.0, distinct_more rs r p.1 d)
  where
    more : (rs : List Reply) → AllByRecursion (λ y. (q.log == y) ≡ false) (logs_of rs) → (q.log == r.log) ≡ false → AllByRecursion (λ y. (q.log == y) ≡ false) (logs_of (rs ++ r ∷ []))
    more [] all k = (k, tt)
    more (x ∷ rs) (here, rest) k = (here, more rs rest k)

-- a tally with the first reply of one more log
pub with_first : (s : EndState) (r : Reply) → r.log < s.m → has_replied s r.log ≡ false → with_reply s r ≡ record s { replies = s.replies ++ r ∷ [] }
with_first s r below first = rw (lt-ltb r.log s.m below, first) refl

pub first_is_end : (s : EndState) (r : Reply) → IsEnd s → r.log < s.m → has_replied s r.log ≡ false → IsEnd (record s { replies = s.replies ++ r ∷ [] })
first_is_end s r k below first = record {
  some = k.some;
  fits = k.fits;
  limit = k.limit;
  below = All-append (λ r. r.log < s.m) s.replies (r ∷ []) k.below (All-cons (λ r. r.log < s.m) r [] below (All-nil (λ r. r.log < s.m)));
  distinct = distinct_more s.replies r first k.distinct;
}

pub new_is_end : (m k : ℕ) → 1 ≤ k → k ≤ m → m ≤ 16 → IsEnd (record { m = m; k = k; replies = [] })
unfolding IsDistinct
new_is_end m k some fits limit = record { some = some; fits = fits; limit = limit; below = All-nil (λ r. r.log < m); distinct = tt }

-- ---- in places

take_set_suc : (places : List Reply) (n : ℕ) (r : Reply) → n < length places → take (suc n) (set places n r) ≡ take n places ++ r ∷ []
take_set_suc [] n r less = absurd (omega (arith, less))
take_set_suc (p ∷ places) zero r less = refl
take_set_suc (p ∷ places) (suc n) r less = ap (λ rs. p ∷ rs) (take_set_suc places n r (omega (arith, less)))

take_set : (places : List Reply) (n : ℕ) (r : Reply) → n < length places → take (n + 1) (set places n r) ≡ take n places ++ r ∷ []
take_set places n r less = ap (λ k. take k (set places n r)) (let e : n + 1 ≡ suc n = omega arith in e) ∙ take_set_suc places n r less

-- what a tally is of its places
pub record IsPlaced (m k count : ℕ) (places : List Reply) (r : Reply) : Type 0 where
  pub room : count < 16
  pub inside : count < length places
  pub more : take (count + 1) (set places count r) ≡ take count places ++ r ∷ []
  pub kept : IsKept m k (count + 1) (set places count r)

pub placed : (m k count : ℕ) (places : List Reply) (r : Reply) → IsKept m k count places → r.log < m → list_any (λ q. q.log == r.log) (take count places) ≡ false → IsPlaced m k count places r
placed m k count places r k_is below first =
    let s : EndState = record { m = m; k = k; replies = take count places } in
    let size = k_is.size in
    let high = k_is.room in
    let n = room s r k_is.is_end below first in
    let limit = k_is.is_end.limit in
    let c = length-take count places in
    let inside : count < length places = omega (arith, n, limit, c, size, high) in
    let more = take_set places count r inside in
    record {
      room = omega (arith, inside, size);
      inside = inside;
      more = more;
      kept = record {
        size = length-set places count r ∙ size;
        room = omega (arith, inside, size);
        is_end = subst (λ rs. IsEnd (record { m = m; k = k; replies = rs })) (sym more) (first_is_end s r k_is.is_end below first);
      };
    }

pub new_is_kept : (m k : ℕ) (places : List Reply) → length places ≡ 16 → 1 ≤ k → k ≤ m → m ≤ 16 → IsKept m k 0 places
new_is_kept m k places size some fits limit = record { size = size; room = omega arith; is_end = new_is_end m k some fits limit }

pub copy_is_kept : (m k count i : ℕ) (old new : List Reply) → IsKept m k count old → i ≡ count → take i new ≡ take i old → length new ≡ 16 → IsKept m k count new
copy_is_kept m k count i old new kept at same size = record {
  size = size;
  room = kept.room;
  is_end = subst (λ rs. IsEnd (record { m = m; k = k; replies = rs })) (sym (ap (λ n. take n new) (sym at) ∙ same ∙ ap (λ n. take n old) at)) kept.is_end;
}

pub placed_is : (m k count : ℕ) (places : List Reply) (r : Reply) (s : EndState) → record { m = m; k = k; replies = take count places } ≡ s → take (count + 1) (set places count r) ≡ take count places ++ r ∷ [] → r.log < s.m → has_replied s r.log ≡ false
    → record { m = m; k = k; replies = take (count + 1) (set places count r) } ≡ with_reply s r
placed_is m k count places r s is more below first =
    ap (λ rs. let t : EndState = record { m = m; k = k; replies = rs } in t) more ∙ ap (λ (t : EndState). record t { replies = t.replies ++ r ∷ [] }) is ∙ sym (with_first s r below first)

-- ---- a reply that is heard again

pub heard_again : (s : EndState) (r q : Reply) → r.log < s.m → reply_of s.replies r.log ≡ Some q → q.durable ≡ r.durable → q.known ≡ r.known → heard_reply s r ≡ Ok s
heard_again s r q below is durable known = go (nat_lt r.log s.m) (differs s r) (lt-ltb r.log s.m below) (ap (differs_from r) is ∙ same)
  where
    same : not ((q.durable == r.durable) && (q.known == r.known)) ≡ false
    same = rw (eq-eqb q.durable r.durable durable, eq-eqb q.known r.known known) refl

    go : (a b : Bool) → a ≡ true → b ≡ false → cond a (cond b (Err Differs) (Ok (with_reply s r))) (Err Stranger) ≡ Ok s
    go true false e f = ap Ok (sym (counted_once s r q is))
    go true true e f = absurd (cc)
    go false b e f = absurd (cc)
