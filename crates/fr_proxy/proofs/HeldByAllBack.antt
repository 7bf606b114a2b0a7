-- Once a batch has its number, committed is said at the word by which the last log is heard to hold it.
use Rattle.std.proofs.Common.{◌≡◌, ℕ, zero, suc, ◌+◌, ◌<◌, ◌≤◌, Bool, true, false, cond, ◌==◌, ◌||◌, length, List, [], ◌∷◌, ◌++◌, Option, None, Some, IsTrue, ◌⊎◌, inl, inr, refl, sym, ap, subst, ◌∙◌, arith}
use Rattle.std.specs.Option.{option_map}
use Rattle.std.specs.List.{list_any, IsDistinct, AllByRecursion}
use Rattle.std.specs.Cmp.{nat_eq_equiv}
use Rattle.std.proofs.Math.Dec.{eqb}
use Rattle.std.proofs.lemmas.Bool.{eqb-true, eqb-false, eq-eqb, ne_eqb, lt-ltb}
use Rattle.std.proofs.lemmas.Map.Made.{length-le_from_is_member}
use Rattle.fr_base.specs.declared.place.NodeId.{NodeId}
use Rattle.fr_base.specs.declared.place.NodeId.TheVariants as node
use Rattle.fr_log.specs.declared.ask.LogTell.TheVariants as log
use Rattle.fr_ask.specs.declared.tell.Tell.{Tell}
use Rattle.fr_ask.specs.declared.tell.Tell.TheVariants as tell
use Rattle.fr_proxy.specs.declared.outcome.Outcome.TheVariants.{Committed}
use Rattle.fr_proxy.specs.Proxy.{ProxyState, Open, Place, Heeded, Ignored, HeldBy, HeldByAll, is_in, with_held, heeded, heed_new, after_heeded, outcome_of, outcome_of_heeded}
use Rattle.fr_proxy.specs.Heard.{IsEnding, IsNewHolder, Spends, Stops, Heard, Ignores, Places, Holds, HoldsAll, Cuts}
use Rattle.fr_proxy.specs.IsProxy.{IsProxy}
use Rattle.fr_proxy.specs.Committed.{Word, after_all, held_word}
use Rattle.fr_proxy.proofs.Heard.{hear_is_heard}
use Rattle.fr_proxy.proofs.Sound.{keeps, open_of}
use Rattle.fr_proxy.proofs.HeldByAll.{IsNow, any_swap, rest_word, first_word, holder_of, one_open, own_index, all_taken, not_before_taken, not_before_ignored, all_by_this, same_many}

-- ---- a list that has each number below m has m of them

abbrev below : ℕ → List ℕ
below zero = []
below (suc n) = n ∷ below n

length_below : (n : ℕ) → length (below n) ≡ n
length_below zero = refl
length_below (suc n) = ap suc (length_below n)

apart_below : (q n : ℕ) → n ≤ q → AllByRecursion (λ y. eqb q y ≡ false) (below n)
apart_below q zero l = tt
apart_below q (suc n) l = (ne_eqb q n (λ e. absurd (omega (arith, e, l))), apart_below q n (omega (arith, l)))

distinct_below : (n : ℕ) → IsDistinct eqb (below n)
unfolding IsDistinct
distinct_below zero = tt
distinct_below (suc n) = (apart_below n n (omega arith), distinct_below n)

less_below : (n q : ℕ) → list_any (eqb q) (below n) ≡ true → q < n
less_below zero q e = absurd (cc)
less_below (suc n) q e = go (λ h. less_below n q h) (eqb q n) refl e
  where
    go : (list_any (eqb q) (below n) ≡ true → q < n) → (b : Bool) → eqb q n ≡ b → (b || list_any (eqb q) (below n)) ≡ true → q < suc n
    go rest true k h = let same : q ≡ n = eqb-true q n k in omega (arith, same)
    go rest false k h = let less = rest h in omega (arith, less)

covering_is_long : (m : ℕ) (xs : List ℕ) → ((q : ℕ) → q < m → is_in xs q ≡ true) → m ≤ length xs
covering_is_long m xs h =
    let most = length-le_from_is_member nat_eq_equiv (below m) xs (distinct_below m) (λ q e. any_swap q xs ∙ h q (less_below m q e)) in
    let size = length_below m in
    omega (arith, most, size)

-- ---- the last word

-- a log that is not known to hold the batch, or there is none
find : (o : Open) (n : ℕ) → ((i : ℕ) × (i < n) × (is_in o.held i ≡ false)) ⊎ ((i : ℕ) → i < n → IsTrue (is_in o.held i))
find o zero = inr (λ i l. absurd (omega (arith, l)))
find o (suc n) = go (find o n) (is_in o.held n) refl
  where
    each : ((i : ℕ) → i < n → IsTrue (is_in o.held i)) → is_in o.held n ≡ true → (i : ℕ) (b : Bool) → (i == n) ≡ b → i < suc n → IsTrue (is_in o.held i)
    each f e i true k l = subst (λ x. IsTrue (is_in o.held x)) (sym (eqb-true i n k)) e
    each f e i false k l = let other = eqb-false i n k in f i (omega (arith, l, other))

    go : (((i : ℕ) × (i < n) × (is_in o.held i ≡ false)) ⊎ ((i : ℕ) → i < n → IsTrue (is_in o.held i))) → (b : Bool) → is_in o.held n ≡ b → ((i : ℕ) × (i < suc n) × (is_in o.held i ≡ false)) ⊎ ((i : ℕ) → i < suc n → IsTrue (is_in o.held i))
    go (inl f) b e = let less = f.1 in inl (f.0, omega (arith, less), f.2)
    go (inr f) true e = inr (λ i l. each f e i (i == n) refl l)
    go (inr f) false e = inl (n, omega arith, e)

-- a log of the generation that was not known to hold the batch is heeded
new_holder : (p : ProxyState) (o : Open) (at : Place) (i : ℕ) → p.under_way ≡ Some o → o.place ≡ Some at → i < p.m → is_in o.held i ≡ false → heeded p (node.Log p.epoch i) (tell.Log (log.Held at.version)) ≡ heed_new p o i at.version
new_holder p o at i u g l fresh = rw u (rw (eq-eqb p.epoch p.epoch refl) (rw (lt-ltb i p.m l) (rw g (rw (eq-eqb at.version at.version refl) (rw fresh refl)))))

-- the words among which a log told so
told_so : (A : Type 0) (x y : Word) → A ⊎ ((x ≡ y) ⊎ ⊥) → A ⊎ (x ≡ y)
told_so A x y (inl a) = inl a
told_so A x y (inr (inl e)) = inr e
told_so A x y (inr (inr e)) = absurd e

in_more : (p : ProxyState) (o : Open) (i q version : ℕ) (w : Word) → w ≡ held_word p version i → IsTrue (is_in o.held q) ⊎ (w ≡ held_word p version q) → (b : Bool) → (i == q) ≡ b → (b || is_in o.held q) ≡ true
in_more p o i q version w e h true k = refl
in_more p o i q version w e (inl h) false k = h
in_more p o i q version w e (inr h) false k = let same : i ≡ q = own_index p q i version (sym e ∙ h) in let yes = eq-eqb i q same in absurd (cc)

last_of_all : (n m : ℕ) → n < m → m ≤ suc n → n + 1 ≡ m
last_of_all n m a b = omega (arith, a, b)

fresh_word : (o : Open) (i : ℕ) (x y : Word) → is_in o.held i ≡ false → IsTrue (is_in o.held i) ⊎ (x ≡ y) → x ≡ y
fresh_word o i x y f (inl h) = absurd (cc)
fresh_word o i x y f (inr e) = e

-- where each log is known to hold the batch, or told so now, and not each was known to, it is committed
at_last : (p : ProxyState) (o : Open) (at : Place) (w : Word) → IsProxy p → p.under_way ≡ Some o → o.place ≡ Some at →
    ((i : ℕ) → i < p.m → IsTrue (is_in o.held i) ⊎ (w ≡ held_word p at.version i)) → (((i : ℕ) → i < p.m → IsTrue (is_in o.held i)) → ⊥) → outcome_of p w.0 w.1 ≡ Committed at.version
at_last p o at w s u g all missing = go (find o p.m)
  where
    go : (((i : ℕ) × (i < p.m) × (is_in o.held i ≡ false)) ⊎ ((i : ℕ) → i < p.m → IsTrue (is_in o.held i))) → outcome_of p w.0 w.1 ≡ Committed at.version
    go (inr f) = absurd (missing f)
    go (inl f) =
        let i = f.0 in
        let said : w ≡ held_word p at.version i = fresh_word o i w (held_word p at.version i) f.2 (all i f.1) in
        let was = open_of p o s u in
        let long = covering_is_long p.m (i ∷ o.held) (λ q l. in_more p o i q at.version w said (all q l) (i == q) refl) in
        let many : length o.held + 1 ≡ p.m = last_of_all (length o.held) p.m was.fewer long in
        let heed : heeded p w.0 w.1 ≡ heed_new p o i at.version = ap (λ (z : Word). heeded p z.0 z.1) said ∙ new_holder p o at i u g f.1 f.2 in
        let last : heed_new p o i at.version ≡ HeldByAll at.version = ap (λ b. cond b (HeldByAll at.version) (HeldBy i)) (eq-eqb (length o.held + 1) p.m many) in
        ap outcome_of_heeded (heed ∙ last)

-- ---- the whole list

-- what ends a proxy that differs in what is under way alone
pub ending_was : (p : ProxyState) (u : Option Open) (from : NodeId) (t : Tell) → IsEnding (record p { under_way = u }) from t → IsEnding p from t
ending_was p u from t Spends = Spends
ending_was p u from t (Stops i l) = Stops i l

first_back : (p : ProxyState) (o : Open) (at : Place) (w : Word) (version : ℕ) → IsProxy p → p.under_way ≡ Some o → o.place ≡ Some at → IsNow p o at [] w version → outcome_of p w.0 w.1 ≡ Committed version
first_back p o at w version s u g r =
    at_last p o at w s u g (λ i l. told_so (IsTrue (is_in o.held i)) w (held_word p at.version i) (r.all i l)) (λ f. r.not_before (λ i l. inl (f i l)))
    ∙ ap Committed (sym r.own)

ignored_back : (p : ProxyState) (o : Open) (at : Place) (x : Word) (xs : List Word) (w : Word) (version : ℕ) → p.under_way ≡ Some o → o.place ≡ Some at → heeded p x.0 x.1 ≡ Ignored → IsNow p o at (x ∷ xs) w version → IsNow p o at xs w version
ignored_back p o at x xs w version u g is r = record {
  own = r.own;
  all = λ i l. not_before_ignored p o at x (xs ++ w ∷ []) i u g is l (r.all i l);
  not_before = λ f. r.not_before (λ i l. rest_word (IsTrue (is_in o.held i)) x (held_word p at.version i) xs (f i l));
  going = λ y heard end. r.going y (inr heard) end;
}

taken_back : (p : ProxyState) (o : Open) (at : Place) (x : Word) (xs : List Word) (w : Word) (version l : ℕ) → IsNewHolder p o at l x.0 x.1 → IsNow p o at (x ∷ xs) w version → IsNow (after_heeded p (HeldBy l)) (with_held l o) at xs w version
taken_back p o at x xs w version l k r = record {
  own = r.own;
  all = λ i b. not_before_taken p o at x (xs ++ w ∷ []) l i k (r.all i b);
  not_before = λ f. r.not_before (λ i b. all_taken p o at x xs l i k (f i b));
  going = λ y heard end. r.going y (inr heard) (ending_was p (option_map (with_held l) p.under_way) y.0 y.1 end);
}

next_back : (p : ProxyState) (o : Open) (at : Place) (x : Word) (xs : List Word) (w : Word) (version : ℕ) (h : Heeded) → IsProxy p → p.under_way ≡ Some o → o.place ≡ Some at →
    ((q : ProxyState) (r : Open) → IsProxy q → q.under_way ≡ Some r → r.place ≡ Some at → IsNow q r at xs w version → outcome_of (after_all q xs) w.0 w.1 ≡ Committed version) → heeded p x.0 x.1 ≡ h → Heard p x.0 x.1 h →
    IsNow p o at (x ∷ xs) w version → outcome_of (after_all (after_heeded p h) xs) w.0 w.1 ≡ Committed version
next_back p o at x xs w version h s u g rest is Ignores r = rest p o s u g (ignored_back p o at x xs w version u g is r)
next_back p o at x xs w version h s u g rest is (Places o' at' k) r = let none = k.unplaced in let same = one_open p o o' u k.under_way in let n : o.place ≡ None = subst (λ (z : Open). z.place ≡ None) same none in let clash : Some at ≡ None = sym g ∙ n in absurd (cc)
next_back p o at x xs w version h s u g rest is (Holds o' at' l k n) r =
    rest (after_heeded p (HeldBy l)) (with_held l o) (keeps p x.0 x.1 (HeldBy l) is s) (ap (option_map (with_held l)) u) g (taken_back p o at x xs w version l (holder_of p o o' at at' l x u g k) r)
next_back p o at x xs w version h s u g rest is (HoldsAll o' at' l k n) r =
    let mine = holder_of p o o' at at' l x u g k in
    let many = same_many p o o' (one_open p o o' u k.under_way) n in
    absurd (r.not_before (λ i b. first_word (IsTrue (is_in o.held i)) x (held_word p at.version i) xs (all_by_this p o at l x s u mine many i b)))
next_back p o at x xs w version h s u g rest is (Cuts o' v k) r = absurd (r.going x (inl refl) k)

pub back : (ws : List Word) (p : ProxyState) (o : Open) (at : Place) (w : Word) (version : ℕ) → IsProxy p → p.under_way ≡ Some o → o.place ≡ Some at → IsNow p o at ws w version → outcome_of (after_all p ws) w.0 w.1 ≡ Committed version
back [] p o at w version s u g r = first_back p o at w version s u g r
back (x ∷ xs) p o at w version s u g r =
    next_back p o at x xs w version (heeded p x.0 x.1) s u g (λ q r t v a f. back xs q r at w version t v a f) refl (hear_is_heard p x.0 x.1) r
