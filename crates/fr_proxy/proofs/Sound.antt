-- What holds of every proxy stays so.
use Rattle.std.proofs.Common.{◌≡◌, ℕ, ◌+◌, ◌<◌, ◌≤◌, ◌^◌, Bool, true, false, cond, nat_le, ◌==◌, ◌||◌, is_some, length, ◌∷◌, List, Option, None, Some, IsTrue, IfSome, refl, sym, ap, subst, arith, suc}
use Rattle.std.specs.Option.{option_map}
use Rattle.std.proofs.lemmas.Bool.{eqb-true, eqb-false, leb-false}
use Rattle.fr_base.specs.declared.place.NodeId.{NodeId}
use Rattle.fr_mutation.specs.declared.mutation.Mutation.{Mutation}
use Rattle.fr_ask.specs.declared.tell.Tell.{Tell}
use Rattle.fr_proxy.specs.declared.fault.SubmitFault.TheVariants.{TwoOpen, Over}
use Rattle.fr_proxy.specs.Proxy.{ProxyState, Open, Place, Heeded, Placed, HeldBy, new_proxy, is_in, is_over, submit_fault, submitted, placed, with_held, after_heeded, after_hear, heeded}
use Rattle.fr_proxy.specs.Heard.{IsNewNumber, IsNewHolder, Heard, Ignores, Places, Holds, HoldsAll, Cuts}
use Rattle.fr_proxy.specs.IsProxy.{IsPlace, IsOpenOf, IsProxy}
use Rattle.fr_proxy.proofs.Heard.{hear_is_heard}

-- ---- a batch is taken

-- a proxy that takes a batch has none under way, did not end, and has a request left
pub record MayTake (p : ProxyState) : Type 0 where
  pub idle : p.under_way ≡ None
  pub going : p.over ≡ false
  pub left : p.requests + 1 < 2 ^ 62

none_from : (o : Option Open) → is_some o ≡ false → o ≡ None
none_from None e = refl
none_from (Some o) e = absurd (cc)

pub may_take : (p : ProxyState) → submit_fault p ≡ None → MayTake p
may_take p e = two_open (is_some p.under_way) refl e
  where
    spent : (b : Bool) → p.under_way ≡ None → p.over ≡ false → nat_le (2 ^ 62) (p.requests + 1) ≡ b → cond b (Some Over) None ≡ None → MayTake p
    spent true u o k h = absurd (cc)
    spent false u o k h = record { idle = u; going = o; left = leb-false (2 ^ 62) (p.requests + 1) k }

    over : (b : Bool) → p.under_way ≡ None → p.over ≡ b → cond (b || nat_le (2 ^ 62) (p.requests + 1)) (Some Over) None ≡ None → MayTake p
    over true u k h = absurd (cc)
    over false u k h = spent (nat_le (2 ^ 62) (p.requests + 1)) u k refl h

    two_open : (b : Bool) → is_some p.under_way ≡ b → cond b (Some TwoOpen) (cond (is_over p) (Some Over) None) ≡ None → MayTake p
    two_open true k h = absurd (cc)
    two_open false k h = over p.over (none_from p.under_way k) refl h

not_over : (b : Bool) → b ≡ false → {X : Type 0} → IsTrue b → X
not_over true e h = absurd (cc)
not_over false e h = absurd (cc)

pub submit_keeps : (p : ProxyState) (step : ℕ) (batch : List Mutation) → IsProxy p → submit_fault p ≡ None → IsProxy (submitted p step batch)
submit_keeps p step batch s e =
    let k = may_take p e in
    record {
      some = s.some;
      fits = s.fits;
      limit = s.limit;
      spent = k.left;
      open_batch = record {
        request = refl;
        fewer = omega (arith, s.some, s.fits);
        distinct = refl;
        below = λ log h. absurd (cc);
        unplaced = λ _. refl;
        place = tt;
      };
      over = λ h. not_over p.over k.going h;
    }

-- ---- a tell is heard

pub open_of : (p : ProxyState) (o : Open) → IsProxy p → p.under_way ≡ Some o → IsOpenOf p o
open_of p o s e = subst (λ u. IfSome u (IsOpenOf p)) e s.open_batch

-- a number from which a push can be made
pub number_is_place : (p : ProxyState) (o : Open) (at : Place) (from : NodeId) (t : Tell) → IsNewNumber p o at from t → IsPlace p.known at
number_is_place p o at from t k = record { known = k.known; rises = k.rises; step = k.step }

places : (p : ProxyState) (from : NodeId) (t : Tell) (o : Open) (at : Place) → IsNewNumber p o at from t → IsProxy p → IsProxy (after_heeded p (Placed at))
places p from t o at k s =
    let was = open_of p o s k.under_way in
    let q = after_heeded p (Placed at) in
    let now : IsOpenOf q (placed at o) = record {
      request = was.request;
      fewer = was.fewer;
      distinct = was.distinct;
      below = was.below;
      unplaced = λ e. absurd (cc);
      place = number_is_place p o at from t k;
    } in
    record {
      some = s.some;
      fits = s.fits;
      limit = s.limit;
      spent = s.spent;
      open_batch = subst (λ u. IfSome (option_map (placed at) u) (IsOpenOf q)) (sym k.under_way) now;
      over = λ h. ap (option_map (placed at)) (s.over h);
    }

more_below : (m log : ℕ) (held : List ℕ) → log < m → ((q : ℕ) → IsTrue (is_in held q) → q < m) → (q : ℕ) → IsTrue (is_in (log ∷ held) q) → q < m
more_below m log held l h q k = go (log == q) refl k
  where
    go : (b : Bool) → (log == q) ≡ b → IsTrue (b || is_in held q) → q < m
    go true e i = subst (λ x. x < m) (eqb-true log q e) l
    go false e i = h q i

fewer_more : (n m : ℕ) → n < m → (n + 1 == m) ≡ false → suc n < m
fewer_more n m l e = omega (arith, l, eqb-false (n + 1) m e)

holds : (p : ProxyState) (from : NodeId) (t : Tell) (o : Open) (at : Place) (log : ℕ) → IsNewHolder p o at log from t → (length o.held + 1 == p.m) ≡ false → IsProxy p → IsProxy (after_heeded p (HeldBy log))
holds p from t o at log k not_all s =
    let was = open_of p o s k.under_way in
    let q = after_heeded p (HeldBy log) in
    let now : IsOpenOf q (with_held log o) = record {
      request = was.request;
      fewer = fewer_more (length o.held) p.m was.fewer not_all;
      distinct = rw k.fresh was.distinct;
      below = more_below p.m log o.held k.below was.below;
      unplaced = λ e. let given = k.given in absurd (cc);
      place = was.place;
    } in
    record {
      some = s.some;
      fits = s.fits;
      limit = s.limit;
      spent = s.spent;
      open_batch = subst (λ u. IfSome (option_map (with_held log) u) (IsOpenOf q)) (sym k.under_way) now;
      over = λ h. ap (option_map (with_held log)) (s.over h);
    }

idle : (p : ProxyState) (known : ℕ) (over : Bool) → IsProxy p → IsProxy (record p { under_way = None; known = known; over = over })
idle p known over s = record { some = s.some; fits = s.fits; limit = s.limit; spent = s.spent; open_batch = tt; over = λ h. refl }

heeds : (p : ProxyState) (from : NodeId) (t : Tell) (h : Heeded) → Heard p from t h → IsProxy p → IsProxy (after_heeded p h)
heeds p from t h Ignores s = s
heeds p from t h (Places o at k) s = places p from t o at k s
heeds p from t h (Holds o at log k l) s = holds p from t o at log k l s
heeds p from t h (HoldsAll o at log k l) s = idle p at.version p.over s
heeds p from t h (Cuts o e k) s = idle p p.known true s

pub hear_keeps : (p : ProxyState) (from : NodeId) (t : Tell) → IsProxy p → IsProxy (after_hear p from t)
hear_keeps p from t s = heeds p from t (heeded p from t) (hear_is_heard p from t) s

-- the same, if it is known what the tell is
pub keeps : (p : ProxyState) (from : NodeId) (t : Tell) (h : Heeded) → heeded p from t ≡ h → IsProxy p → IsProxy (after_heeded p h)
keeps p from t h e s = subst (λ x. IsProxy (after_heeded p x)) e (hear_keeps p from t s)

pub new_is_proxy : (epoch number m k : ℕ) (begins : List (List ℕ)) (known : ℕ) → 1 ≤ k → k ≤ m → m ≤ 16 → IsProxy (new_proxy epoch number m k begins known)
new_is_proxy epoch number m k begins known a b d = record { some = a; fits = b; limit = d; spent = omega arith; open_batch = tt; over = λ h. refl }

-- ---- what is known rises

rises : (p : ProxyState) (from : NodeId) (t : Tell) (h : Heeded) → Heard p from t h → IsProxy p → p.known ≤ (after_heeded p h).known
rises p from t h Ignores s = omega arith
rises p from t h (Places o at k) s = omega arith
rises p from t h (Holds o at log k l) s = omega arith
rises p from t h (HoldsAll o at log k l) s =
    let was = open_of p o s k.under_way in
    let place : IsPlace p.known at = subst (λ a. IfSome a (IsPlace p.known)) k.given was.place in
    omega (arith, place.known, place.rises)
rises p from t h (Cuts o e k) s = omega arith

pub known_rises : (p : ProxyState) (from : NodeId) (t : Tell) → IsProxy p → p.known ≤ (after_hear p from t).known
known_rises p from t s = rises p from t (heeded p from t) (hear_is_heard p from t) s
