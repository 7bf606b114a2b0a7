-- Once a batch has its number, committed is said at no other word than that by which the last log is heard to hold it.
use Rattle.std.proofs.Common.{◌≡◌, ℕ, ◌+◌, ◌<◌, Bool, true, false, cond, not, ◌==◌, ◌||◌, length, List, [], ◌∷◌, ◌++◌, Option, None, Some, IsTrue, ◌⊎◌, inl, inr, refl, sym, ap, ap₂, subst, ◌∙◌, arith, suc}
use Rattle.std.specs.Option.{option_map}
use Rattle.std.specs.List.{list_any, IsDistinct, AllByRecursion}
use Rattle.std.proofs.Math.Dec.{eqb}
use Rattle.std.proofs.lemmas.Bool.{eqb-true, eqb-false, eq-eqb, and_parts, lt-ltb}
use Rattle.std.proofs.lemmas.Map.Steps.{length-le_from_distinct_below}
use Rattle.fr_base.specs.declared.place.NodeId.{NodeId}
use Rattle.fr_base.specs.declared.place.NodeId.TheVariants as node
use Rattle.fr_log.specs.declared.ask.LogTell.TheVariants as log
use Rattle.fr_ask.specs.declared.tell.Tell.{Tell}
use Rattle.fr_ask.specs.declared.tell.Tell.TheVariants as tell
use Rattle.fr_proxy.specs.declared.outcome.Outcome.TheVariants.{Waiting, Committed}
use Rattle.fr_proxy.specs.Proxy.{ProxyState, Open, Place, Heeded, Ignored, HeldBy, HeldByAll, Cut, is_in, with_held, heeded, heed_new, after_heeded, after_hear, outcome_of, outcome_of_heeded}
use Rattle.fr_proxy.specs.Heard.{IsNewHolder, IsEnding, Spends, Stops, Heard, Ignores, Places, Holds, HoldsAll, Cuts}
use Rattle.fr_proxy.specs.IsProxy.{IsProxy, IsOpenOf, are_distinct}
use Rattle.fr_proxy.specs.Committed.{Word, after_all, WasHeard, held_word}
use Rattle.fr_proxy.proofs.Heard.{hear_is_heard}
use Rattle.fr_proxy.proofs.Sound.{keeps, open_of}

-- ---- m distinct logs below m are all of them

pub eqb_swap : (a b : ℕ) (s t : Bool) → (a == b) ≡ s → (b == a) ≡ t → (a == b) ≡ (b == a)
eqb_swap a b true true e d = cc
eqb_swap a b false false e d = cc
eqb_swap a b true false e d = let same : a ≡ b = eqb-true a b e in absurd (eqb-false b a d (sym same))
eqb_swap a b false true e d = let same : b ≡ a = eqb-true b a d in absurd (eqb-false a b e (sym same))

pub any_swap : (q : ℕ) (xs : List ℕ) → list_any (eqb q) xs ≡ is_in xs q
any_swap q [] = refl
any_swap q (x ∷ xs) = ap₂ (λ a b. a || b) (eqb_swap q x (q == x) (x == q) refl refl) (any_swap q xs)

not_in : (b : Bool) → not b ≡ true → b ≡ false
not_in true e = absurd (cc)
not_in false e = refl

or_false : (a b : Bool) → (a || b) ≡ false → (a ≡ false) × (b ≡ false)
or_false true b e = absurd (cc)
or_false false b e = (refl, e)

none_equal : (q : ℕ) (xs : List ℕ) → is_in xs q ≡ false → AllByRecursion (λ y. eqb q y ≡ false) xs
none_equal q [] e = tt
none_equal q (x ∷ xs) e = let k = or_false (x == q) (is_in xs q) e in (eqb_swap q x (q == x) (x == q) refl refl ∙ k.0, none_equal q xs k.1)

distinct : (xs : List ℕ) → are_distinct xs ≡ true → IsDistinct eqb xs
unfolding IsDistinct
distinct [] e = tt
distinct (x ∷ xs) e = let k = and_parts (not (is_in xs x)) (are_distinct xs) e in (none_equal x xs (not_in (is_in xs x) k.0), distinct xs k.1)

-- a log that is not among m distinct ones below m is not below m
pub each_is_in : (m : ℕ) (xs : List ℕ) → are_distinct xs ≡ true → ((q : ℕ) → IsTrue (is_in xs q) → q < m) → length xs ≡ m → (q : ℕ) → q < m → is_in xs q ≡ true
each_is_in m xs d below n q l = go (is_in xs q) refl
  where
    bound : (y : ℕ) (b : Bool) → (q == y) ≡ b → IsTrue (b || is_in xs y) → y < m
    bound y true e h = subst (λ z. z < m) (eqb-true q y e) l
    bound y false e h = below y h

    go : (b : Bool) → is_in xs q ≡ b → is_in xs q ≡ true
    go true e = e
    go false e =
        let more : are_distinct (q ∷ xs) ≡ true = rw e d in
        let few = length-le_from_distinct_below (q ∷ xs) m (distinct (q ∷ xs) more) (λ y h. bound y (q == y) refl (sym (any_swap y (q ∷ xs)) ∙ h)) in
        absurd (omega (arith, few, n))

-- ---- one word

-- a word that ends the batch under way is heeded as such
pub ends_cut : (p : ProxyState) (o : Open) (from : NodeId) (t : Tell) → p.under_way ≡ Some o → IsEnding p from t → heeded p from t ≡ Cut
ends_cut p o from t u Spends = rw u (rw (eq-eqb p.epoch p.epoch refl) refl)
ends_cut p o from t u (Stops i l) = rw u (rw (eq-eqb p.epoch p.epoch refl) (rw (lt-ltb i p.m l) refl))

-- a log of the generation that tells that it holds the batch is heeded, unless it told so before
held_is_heeded : (p : ProxyState) (o : Open) (at : Place) (i : ℕ) → p.under_way ≡ Some o → o.place ≡ Some at → i < p.m → heeded p (node.Log p.epoch i) (tell.Log (log.Held at.version)) ≡ Ignored → IsTrue (is_in o.held i)
held_is_heeded p o at i u g l e = go (is_in o.held i) refl
  where
    new : (b : Bool) → cond b (HeldByAll at.version) (HeldBy i) ≡ Ignored → {X : Type 0} → X
    new true h = absurd (cc)
    new false h = absurd (cc)

    heed : heeded p (node.Log p.epoch i) (tell.Log (log.Held at.version)) ≡ cond (not (is_in o.held i)) (heed_new p o i at.version) Ignored
    heed = rw u (rw (eq-eqb p.epoch p.epoch refl) (rw (lt-ltb i p.m l) (rw g (rw (eq-eqb at.version at.version refl) refl))))

    go : (b : Bool) → is_in o.held i ≡ b → IsTrue (is_in o.held i)
    go true k = k
    go false k = let h : cond (not false) (heed_new p o i at.version) Ignored ≡ Ignored = ap (λ b. cond (not b) (heed_new p o i at.version) Ignored) (sym k) ∙ (sym heed ∙ e) in new (length o.held + 1 == p.m) h

-- without a batch under way everything is waiting
pub idle_waits : (ws : List Word) (p : ProxyState) (w : Word) → p.under_way ≡ None → outcome_of (after_all p ws) w.0 w.1 ≡ Waiting
idle_waits [] p w u = rw u refl
idle_waits (x ∷ xs) p w u = let same : after_hear p x.0 x.1 ≡ p = rw u refl in ap (λ q. outcome_of (after_all q xs) w.0 w.1) same ∙ idle_waits xs p w u

-- ---- the whole list

-- what is said of it while some logs told before
pub record IsNow (p : ProxyState) (o : Open) (at : Place) (ws : List Word) (w : Word) (version : ℕ) : Type 0 where
  pub own : version ≡ at.version
  pub all : (i : ℕ) → i < p.m → IsTrue (is_in o.held i) ⊎ WasHeard (ws ++ w ∷ []) (held_word p at.version i)
  pub not_before : ((i : ℕ) → i < p.m → IsTrue (is_in o.held i) ⊎ WasHeard ws (held_word p at.version i)) → ⊥
  pub going : (x : Word) → WasHeard ws x → IsEnding p x.0 x.1 → ⊥

pub one_open : (p : ProxyState) (o o' : Open) → p.under_way ≡ Some o → p.under_way ≡ Some o' → o' ≡ o
one_open p o o' a b = let e : Some o' ≡ Some o = sym b ∙ a in cc

pub one_place : (o : Open) (a b : Place) → o.place ≡ Some a → o.place ≡ Some b → b ≡ a
one_place o a b e d = let k : Some b ≡ Some a = sym d ∙ e in cc

pub holder_of : (p : ProxyState) (o o' : Open) (at at' : Place) (i : ℕ) (w : Word) → p.under_way ≡ Some o → o.place ≡ Some at → IsNewHolder p o' at' i w.0 w.1 → IsNewHolder p o at i w.0 w.1
holder_of p o o' at at' i w u g k =
    let one : IsNewHolder p o at' i w.0 w.1 = subst (λ x. IsNewHolder p x at' i w.0 w.1) (one_open p o o' u k.under_way) k in
    subst (λ a. IsNewHolder p o a i w.0 w.1) (one_place o at at' g one.given) one

pub holder_word : (p : ProxyState) (o : Open) (at : Place) (i : ℕ) (w : Word) → IsNewHolder p o at i w.0 w.1 → w ≡ held_word p at.version i
holder_word p o at i w k = ap₂ (λ a b. (a, b)) k.sender k.said

-- said of the first word, or of those after it
pub first_word : (A : Type 0) (x y : Word) (xs : List Word) → A ⊎ (x ≡ y) → A ⊎ WasHeard (x ∷ xs) y
first_word A x y xs (inl a) = inl a
first_word A x y xs (inr e) = inr (inl e)

pub rest_word : (A : Type 0) (x y : Word) (xs : List Word) → A ⊎ WasHeard xs y → A ⊎ WasHeard (x ∷ xs) y
rest_word A x y xs (inl a) = inl a
rest_word A x y xs (inr h) = inr (inr h)

pub below_or_own : (p : ProxyState) (o : Open) (at : Place) (i : ℕ) (w : Word) → IsNewHolder p o at i w.0 w.1 → IsOpenOf p o → (y : ℕ) (b : Bool) → (i == y) ≡ b → IsTrue (b || is_in o.held y) → y < p.m
below_or_own p o at i w k was y true e h = subst (λ z. z < p.m) (eqb-true i y e) k.below
below_or_own p o at i w k was y false e h = was.below y h

-- a log among those that hold the batch and this one told so before, or by this word
pub by_this_word : (p : ProxyState) (o : Open) (at : Place) (i : ℕ) (w : Word) → IsNewHolder p o at i w.0 w.1 → (q : ℕ) (b : Bool) → (i == q) ≡ b → (b || is_in o.held q) ≡ true → IsTrue (is_in o.held q) ⊎ (w ≡ held_word p at.version q)
by_this_word p o at i w k q true e h = inr (holder_word p o at i w k ∙ ap (held_word p at.version) (eqb-true i q e))
by_this_word p o at i w k q false e h = inl h

fresh_only : (p : ProxyState) (o : Open) (at : Place) (i : ℕ) (w : Word) → IsNewHolder p o at i w.0 w.1 → IsTrue (is_in o.held i) ⊎ ⊥ → ⊥
fresh_only p o at i w k (inl h) = let f = k.fresh in absurd (cc)
fresh_only p o at i w k (inr h) = h

pub count : (n m : ℕ) → n + 1 ≡ m → suc n ≡ m
count n m e = omega (arith, e)

-- the last log makes it all of them: each told so before, or by this word
pub all_by_this : (p : ProxyState) (o : Open) (at : Place) (i : ℕ) (w : Word) → IsProxy p → p.under_way ≡ Some o → IsNewHolder p o at i w.0 w.1 → length o.held + 1 ≡ p.m → (q : ℕ) → q < p.m → IsTrue (is_in o.held q) ⊎ (w ≡ held_word p at.version q)
all_by_this p o at i w s u mine many q l =
    let was = open_of p o s u in
    by_this_word p o at i w mine q (i == q) refl (each_is_in p.m (i ∷ o.held) (rw mine.fresh was.distinct) (λ y h. below_or_own p o at i w mine was y (i == y) refl h) (count (length o.held) p.m many) q l)

pub same_many : (p : ProxyState) (o o' : Open) → o' ≡ o → length o'.held + 1 ≡ p.m → length o.held + 1 ≡ p.m
same_many p o o' e n = ap (λ (x : Open). length x.held + 1) (sym e) ∙ n

last_word : (p : ProxyState) (o : Open) (at : Place) (w : Word) (version : ℕ) (h : Heeded) → IsProxy p → p.under_way ≡ Some o → o.place ≡ Some at → Heard p w.0 w.1 h → outcome_of_heeded h ≡ Committed version → IsNow p o at [] w version
last_word p o at w version h s u g Ignores e = absurd (cc)
last_word p o at w version h s u g (Places o' at' k) e = absurd (cc)
last_word p o at w version h s u g (Holds o' at' i k n) e = absurd (cc)
last_word p o at w version h s u g (Cuts o' v k) e = absurd (cc)
last_word p o at w version h s u g (HoldsAll o' at' i k n) e =
    let mine = holder_of p o o' at at' i w u g k in
    let o_same = one_open p o o' u k.under_way in
    let at_same : at' ≡ at = one_place o at at' g (subst (λ x. x.place ≡ Some at') o_same k.given) in
    record {
      own = (let v : version ≡ at'.version = cc in v) ∙ ap (λ (a : Place). a.version) at_same;
      all = λ q l. first_word (IsTrue (is_in o.held q)) w (held_word p at.version q) [] (all_by_this p o at i w s u mine (same_many p o o' o_same n) q l);
      not_before = λ f. fresh_only p o at i w mine (f i mine.below);
      going = λ x heard end. heard;
    }

-- the same of a proxy that differs in what is under way alone
pub ending_same : (p : ProxyState) (u : Option Open) (from : NodeId) (t : Tell) → IsEnding p from t → IsEnding (record p { under_way = u }) from t
ending_same p u from t Spends = Spends
ending_same p u from t (Stops i l) = Stops i l

not_cut : (p : ProxyState) (o : Open) (x : Word) (h : Heeded) → p.under_way ≡ Some o → heeded p x.0 x.1 ≡ h → (h ≡ Cut → ⊥) → (y : Word) → x ≡ y → IsEnding p y.0 y.1 → ⊥
not_cut p o x h u is differ y e end = differ (sym is ∙ ends_cut p o x.0 x.1 u (subst (λ (z : Word). IsEnding p z.0 z.1) (sym e) end))

pub ignored_differs : Ignored ≡ Cut → ⊥
ignored_differs e = absurd (cc)

held_differs : (i : ℕ) → HeldBy i ≡ Cut → ⊥
held_differs i e = absurd (cc)

never : {X : Type 0} (v : ℕ) → Waiting ≡ Committed v → X
never v e = absurd (cc)

-- of a word that was ignored: if it is that of a log, that log told so before
pub ignored_holder : (p : ProxyState) (o : Open) (at : Place) (x : Word) (i : ℕ) → p.under_way ≡ Some o → o.place ≡ Some at → heeded p x.0 x.1 ≡ Ignored → i < p.m → x ≡ held_word p at.version i → IsTrue (is_in o.held i)
ignored_holder p o at x i u g is l e = held_is_heeded p o at i u g l (ap (λ (z : Word). heeded p z.0 z.1) (sym e) ∙ is)

-- a log among those that hold the batch after this word
more_holders : (o : Open) (l i : ℕ) → IsTrue (is_in o.held i) → (b : Bool) → IsTrue (b || is_in o.held i)
more_holders o l i h true = refl
more_holders o l i h false = h

pub own_index : (p : ProxyState) (i l version : ℕ) → held_word p version l ≡ held_word p version i → l ≡ i
own_index p i l version k = let s : node.Log p.epoch l ≡ node.Log p.epoch i = ap (λ (z : Word). z.0) k in cc

pub not_before_ignored : (p : ProxyState) (o : Open) (at : Place) (x : Word) (xs : List Word) (i : ℕ) → p.under_way ≡ Some o → o.place ≡ Some at → heeded p x.0 x.1 ≡ Ignored → i < p.m → IsTrue (is_in o.held i) ⊎ WasHeard (x ∷ xs) (held_word p at.version i) →
    IsTrue (is_in o.held i) ⊎ WasHeard xs (held_word p at.version i)
not_before_ignored p o at x xs i u g is l (inl h) = inl h
not_before_ignored p o at x xs i u g is l (inr (inl same)) = inl (ignored_holder p o at x i u g is l same)
not_before_ignored p o at x xs i u g is l (inr (inr h)) = inr h

pub going_on : (p : ProxyState) (o : Open) (x : Word) (xs : List Word) (h : Heeded) → p.under_way ≡ Some o → heeded p x.0 x.1 ≡ h → (h ≡ Cut → ⊥) → (y : Word) → (WasHeard xs y → IsEnding p y.0 y.1 → ⊥) → WasHeard (x ∷ xs) y → IsEnding p y.0 y.1 → ⊥
going_on p o x xs h u is differ y rest (inl e) end = not_cut p o x h u is differ y e end
going_on p o x xs h u is differ y rest (inr heard) end = rest heard end

ignored_word : (p : ProxyState) (o : Open) (at : Place) (x : Word) (xs : List Word) (w : Word) (version : ℕ) → p.under_way ≡ Some o → o.place ≡ Some at → heeded p x.0 x.1 ≡ Ignored → IsNow p o at xs w version → IsNow p o at (x ∷ xs) w version
ignored_word p o at x xs w version u g is r = record {
  own = r.own;
  all = λ i l. rest_word (IsTrue (is_in o.held i)) x (held_word p at.version i) (xs ++ w ∷ []) (r.all i l);
  not_before = λ f. r.not_before (λ i l. not_before_ignored p o at x xs i u g is l (f i l));
  going = λ y. going_on p o x xs Ignored u is ignored_differs y (r.going y);
}

pub own_log : (o : Open) (l i : ℕ) → l ≡ i → IsTrue ((l == i) || is_in o.held i)
own_log o l i same = rw (eq-eqb l i same) refl

pub all_taken : (p : ProxyState) (o : Open) (at : Place) (x : Word) (zs : List Word) (l i : ℕ) → IsNewHolder p o at l x.0 x.1 → IsTrue (is_in (l ∷ o.held) i) ⊎ WasHeard zs (held_word p at.version i) → IsTrue (is_in o.held i) ⊎ WasHeard (x ∷ zs) (held_word p at.version i)
all_taken p o at x zs l i k (inl h) = first_word (IsTrue (is_in o.held i)) x (held_word p at.version i) zs (by_this_word p o at l x k i (l == i) refl h)
all_taken p o at x zs l i k (inr h) = inr (inr h)

pub not_before_taken : (p : ProxyState) (o : Open) (at : Place) (x : Word) (xs : List Word) (l i : ℕ) → IsNewHolder p o at l x.0 x.1 → IsTrue (is_in o.held i) ⊎ WasHeard (x ∷ xs) (held_word p at.version i) → IsTrue (is_in (l ∷ o.held) i) ⊎ WasHeard xs (held_word p at.version i)
not_before_taken p o at x xs l i k (inl h) = inl (more_holders o l i h (l == i))
not_before_taken p o at x xs l i k (inr (inl same)) = inl (own_log o l i (own_index p i l at.version (sym (holder_word p o at l x k) ∙ same)))
not_before_taken p o at x xs l i k (inr (inr h)) = inr h

taken_word : (p : ProxyState) (o : Open) (at : Place) (x : Word) (xs : List Word) (w : Word) (version l : ℕ) → p.under_way ≡ Some o → heeded p x.0 x.1 ≡ HeldBy l → IsNewHolder p o at l x.0 x.1 → IsNow (after_heeded p (HeldBy l)) (with_held l o) at xs w version →
    IsNow p o at (x ∷ xs) w version
taken_word p o at x xs w version l u is k r = record {
  own = r.own;
  all = λ i b. all_taken p o at x (xs ++ w ∷ []) l i k (r.all i b);
  not_before = λ f. r.not_before (λ i b. not_before_taken p o at x xs l i k (f i b));
  going = λ y. going_on p o x xs (HeldBy l) u is (held_differs l) y (λ heard end. r.going y heard (ending_same p (option_map (with_held l) p.under_way) y.0 y.1 end));
}

next_word : (p : ProxyState) (o : Open) (at : Place) (x : Word) (xs : List Word) (w : Word) (version : ℕ) (h : Heeded) → IsProxy p → p.under_way ≡ Some o → o.place ≡ Some at →
    ((q : ProxyState) (r : Open) → IsProxy q → q.under_way ≡ Some r → r.place ≡ Some at → outcome_of (after_all q xs) w.0 w.1 ≡ Committed version → IsNow q r at xs w version) → heeded p x.0 x.1 ≡ h → Heard p x.0 x.1 h →
    outcome_of (after_all (after_heeded p h) xs) w.0 w.1 ≡ Committed version → IsNow p o at (x ∷ xs) w version
next_word p o at x xs w version h s u g rest is Ignores e = ignored_word p o at x xs w version u g is (rest p o s u g e)
next_word p o at x xs w version h s u g rest is (Places o' at' k) e = let none = k.unplaced in let same = one_open p o o' u k.under_way in let n : o.place ≡ None = subst (λ (z : Open). z.place ≡ None) same none in let clash : Some at ≡ None = sym g ∙ n in absurd (cc)
next_word p o at x xs w version h s u g rest is (Holds o' at' l k n) e =
    taken_word p o at x xs w version l u is (holder_of p o o' at at' l x u g k) (rest (after_heeded p (HeldBy l)) (with_held l o) (keeps p x.0 x.1 (HeldBy l) is s) (ap (option_map (with_held l)) u) g e)
next_word p o at x xs w version h s u g rest is (HoldsAll o' at' l k n) e = never version (sym (idle_waits xs (after_heeded p (HeldByAll at'.version)) w refl) ∙ e)
next_word p o at x xs w version h s u g rest is (Cuts o' v k) e = never version (sym (idle_waits xs (after_heeded p Cut) w refl) ∙ e)

pub sound : (ws : List Word) (p : ProxyState) (o : Open) (at : Place) (w : Word) (version : ℕ) → IsProxy p → p.under_way ≡ Some o → o.place ≡ Some at → outcome_of (after_all p ws) w.0 w.1 ≡ Committed version → IsNow p o at ws w version
sound [] p o at w version s u g e = last_word p o at w version (heeded p w.0 w.1) s u g (hear_is_heard p w.0 w.1) e
sound (x ∷ xs) p o at w version s u g e =
    next_word p o at x xs w version (heeded p x.0 x.1) s u g (λ q r t v a f. sound xs q r at w version t v a f) refl (hear_is_heard p x.0 x.1) e

unheard : (o : Open) (i : ℕ) → o.held ≡ [] → IsTrue (is_in o.held i) → ⊥
unheard o i none h = let f : is_in o.held i ≡ false = ap (λ xs. is_in xs i) none in absurd (cc)

pub only_heard : (p : ProxyState) (o : Open) (version i : ℕ) (ws : List Word) → o.held ≡ [] → IsTrue (is_in o.held i) ⊎ WasHeard ws (held_word p version i) → WasHeard ws (held_word p version i)
only_heard p o version i ws none (inl h) = absurd (unheard o i none h)
only_heard p o version i ws none (inr h) = h
