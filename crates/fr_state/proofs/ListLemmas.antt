-- Ordered lists of generations, and what stands after a generation.
use Rattle.std.proofs.Common.{◌≡◌, ℕ, zero, suc, ◌+◌, ◌<◌, Bool, true, false, cond, List, [], ◌∷◌, ◌++◌, length, get_or, Option, Some, None, refl, sym, ap, subst, ◌∙◌, arith, inl, inr}
use Rattle.std.specs.Prelude.{slice_get, ◌==◌, ◌≢◌, All, AllPairs, Contains}
use Rattle.std.specs.List.{position_or_len, AllByRecursion}
use Rattle.std.proofs.lemmas.Bool.{cases_lt, lt-ltb, le-ltb, eq-eqb, ne_eqb}
use Rattle.std.proofs.lemmas.List.Elements.{All-from_recursion, Contains-append_right}
use Rattle.std.proofs.lemmas.Option.{slice_get_past, slice_get_within, get_or_from_slice_get}
use Rattle.fr_state.specs.Generations.{LogGeneration, Follows, AreOrdered, last_of}
use Rattle.fr_state.specs.LookUp.{next_of}

-- ---- order

Follows-trans : (a b c : LogGeneration) → Follows a b → Follows b c → Follows a c
Follows-trans a b c f g = record { epoch = omega arith; first = omega arith; seeded_to = omega arith }

AreOrdered-tail : (g : LogGeneration) (gens : List LogGeneration) → AreOrdered (g ∷ gens) → AreOrdered gens
AreOrdered-tail g [] o = tt
AreOrdered-tail g (next ∷ gens) o = o.1

pub AreOrdered-back : (front gens : List LogGeneration) → AreOrdered (front ++ gens) → AreOrdered gens
AreOrdered-back [] gens o = o
AreOrdered-back (g ∷ front) gens o = AreOrdered-back front gens (AreOrdered-tail g (front ++ gens) o)

all_follow : (a g : LogGeneration) (gens : List LogGeneration) → Follows a g → AreOrdered (g ∷ gens) → AllByRecursion (Follows a) (g ∷ gens)
all_follow a g [] f o = (f, tt)
all_follow a g (next ∷ gens) f o = (f, all_follow a next gens (Follows-trans a g next f o.0) o.1)

pub all_later : (g : LogGeneration) (gens : List LogGeneration) → AreOrdered (g ∷ gens) → AllByRecursion (Follows g) gens
all_later g [] o = tt
all_later g (next ∷ gens) o = all_follow g next gens o.0 o.1

-- one that stands further back
pub follows_front : (x : LogGeneration) (before : List LogGeneration) (g : LogGeneration) (after : List LogGeneration) → AreOrdered (x ∷ (before ++ g ∷ after)) → Follows x g
follows_front x [] g after o = o.0
follows_front x (y ∷ before) g after o = Follows-trans x y g o.0 (follows_front y before g after o.1)

pub pairs_from_order : (gens : List LogGeneration) → AreOrdered gens → AllPairs Follows gens
pairs_from_order [] o i j d lt within = absurd (omega arith)
pairs_from_order (g ∷ gens) o i zero d lt within = absurd (omega arith)
pairs_from_order (g ∷ gens) o zero (suc j) d lt within = All-from_recursion (Follows g) gens (all_later g gens o) j d (omega arith)
pairs_from_order (g ∷ gens) o (suc i) (suc j) d lt within = pairs_from_order gens (AreOrdered-tail g gens o) i j d (omega arith) (omega arith)

pub order_from_pairs : (gens : List LogGeneration) → AllPairs Follows gens → AreOrdered gens
order_from_pairs [] p = tt
order_from_pairs (g ∷ []) p = tt
order_from_pairs (g ∷ next ∷ gens) p = (p 0 1 g (omega arith) (omega arith), order_from_pairs (next ∷ gens) (λ i j d lt within. p (suc i) (suc j) d (omega arith) (omega arith)))

-- ---- parts of a list

pub record Parts (gens : List LogGeneration) (g : LogGeneration) : Type 0 where
  pub before : List LogGeneration
  pub after : List LogGeneration
  pub are : gens ≡ before ++ g ∷ after

parts_at : (gens : List LogGeneration) (g : LogGeneration) (k : ℕ) → k < length gens → get_or gens k g ≡ g → Parts gens g
parts_at [] g k lt e = absurd (omega arith)
parts_at (x ∷ gens) g zero lt e = record { before = []; after = gens; are = ap (λ (y : LogGeneration). y ∷ gens) e }
parts_at (x ∷ gens) g (suc k) lt e =
    let s = parts_at gens g k (omega arith) e in
    record { before = x ∷ s.before; after = s.after; are = ap (λ (t : List LogGeneration). x ∷ t) s.are }

pub parts_of : (gens : List LogGeneration) (g : LogGeneration) → Contains gens g → Parts gens g
parts_of gens g h = parts_at gens g h.0 h.1 h.2

pub Contains-parts : (before after : List LogGeneration) (g : LogGeneration) → Contains (before ++ g ∷ after) g
Contains-parts before after g = Contains-append_right before (g ∷ after) g (0, omega arith, refl)

pub record FrontOf (gens : List LogGeneration) (last : LogGeneration) : Type 0 where
  pub front : List LogGeneration
  pub are : gens ≡ front ++ last ∷ []

pub front_of : (gens : List LogGeneration) (last : LogGeneration) → last_of gens ≡ Some last → FrontOf gens last
front_of [] last e = absurd cc
front_of (g ∷ []) last e = let k : g ≡ last = cc in record { front = []; are = ap (λ (x : LogGeneration). x ∷ []) k }
front_of (g ∷ next ∷ gens) last e =
    let s = front_of (next ∷ gens) last e in
    record { front = g ∷ s.front; are = ap (λ (t : List LogGeneration). g ∷ t) s.are }

-- ---- what stands after a generation

place-cons : (g : LogGeneration) (gens : List LogGeneration) (epoch : ℕ) (b : Bool) → (g.epoch == epoch) ≡ b
    → slice_get (g ∷ gens) (1 + position_or_len (λ g. g.epoch == epoch) (g ∷ gens)) ≡ cond b (slice_get gens 0) (slice_get gens (1 + position_or_len (λ g. g.epoch == epoch) gens))
place-cons g gens epoch true e = rw e refl
place-cons g gens epoch false e = let n : ℕ = position_or_len (λ g. g.epoch == epoch) gens in let k : 1 + (1 + n) ≡ suc (1 + n) = omega arith in rw (e, k) refl

next_of-place : (gens : List LogGeneration) (epoch : ℕ) → next_of gens epoch ≡ slice_get gens (1 + position_or_len (λ g. g.epoch == epoch) gens)
next_of-place gens epoch =
    let n : ℕ = position_or_len (λ g. g.epoch == epoch) gens in
    elim (cases_lt n (length gens)) [
      | inl lt ↦ rw (lt-ltb n (length gens) lt) (ap (slice_get gens) (omega arith))
      | inr le ↦ rw (le-ltb n (length gens) le) (sym (slice_get_past gens (1 + n) (omega arith)))
    ]

pub next_of-cons : (g : LogGeneration) (gens : List LogGeneration) (epoch : ℕ) → next_of (g ∷ gens) epoch ≡ cond (g.epoch == epoch) (slice_get gens 0) (next_of gens epoch)
next_of-cons g gens epoch =
    next_of-place (g ∷ gens) epoch ∙ place-cons g gens epoch (g.epoch == epoch) refl ∙ ap (λ (o : Option LogGeneration). cond (g.epoch == epoch) (slice_get gens 0) o) (sym (next_of-place gens epoch))

pub next_of-parts : (before : List LogGeneration) (g : LogGeneration) (after : List LogGeneration) → AreOrdered (before ++ g ∷ after) → next_of (before ++ g ∷ after) g.epoch ≡ slice_get after 0
next_of-parts [] g after o = next_of-cons g after g.epoch ∙ rw (eq-eqb g.epoch g.epoch refl) refl
next_of-parts (x ∷ before) g after o =
    let f = follows_front x before g after o in
    next_of-cons x (before ++ g ∷ after) g.epoch ∙ rw (ne_eqb x.epoch g.epoch (λ e. omega (arith, f.epoch))) (next_of-parts before g after (AreOrdered-tail x (before ++ g ∷ after) o))

pub next_of-absent : (gens : List LogGeneration) (epoch : ℕ) → AllByRecursion (λ g. g.epoch ≢ epoch) gens → next_of gens epoch ≡ None
next_of-absent [] epoch h = refl
next_of-absent (g ∷ gens) epoch h = next_of-cons g gens epoch ∙ rw (ne_eqb g.epoch epoch h.0) (next_of-absent gens epoch h.1)

-- it is an element of the list
pub next_of-has : (P : LogGeneration → Type 0) (gens : List LogGeneration) (epoch : ℕ) (next : LogGeneration) → All P gens → next_of gens epoch ≡ Some next → P next
next_of-has P gens epoch next h e =
    let n : ℕ = 1 + position_or_len (λ g. g.epoch == epoch) gens in
    let at : slice_get gens n ≡ Some next = sym (next_of-place gens epoch) ∙ e in
    subst P (get_or_from_slice_get gens n next next at) (h n next (slice_get_within gens n next at))

-- a longer list keeps it
first-append : (gens more : List LogGeneration) (next : LogGeneration) → slice_get gens 0 ≡ Some next → slice_get (gens ++ more) 0 ≡ Some next
first-append [] more next e = absurd cc
first-append (g ∷ gens) more next e = e

keeps : (b : Bool) (here kept longer : Option LogGeneration) (there : Option LogGeneration) (next : LogGeneration) → (here ≡ Some next → kept ≡ Some next) → (there ≡ Some next → longer ≡ Some next)
    → cond b here there ≡ Some next → cond b kept longer ≡ Some next
keeps true here kept longer there next f h e = f e
keeps false here kept longer there next f h e = h e

pub next_of-append : (gens more : List LogGeneration) (epoch : ℕ) (next : LogGeneration) → next_of gens epoch ≡ Some next → next_of (gens ++ more) epoch ≡ Some next
next_of-append [] more epoch next e = absurd cc
next_of-append (g ∷ gens) more epoch next e =
    next_of-cons g (gens ++ more) epoch
    ∙ keeps (g.epoch == epoch) (slice_get gens 0) (slice_get (gens ++ more) 0) (next_of (gens ++ more) epoch) (next_of gens epoch) next (first-append gens more next) (next_of-append gens more epoch next)
    (sym (next_of-cons g gens epoch) ∙ e)
