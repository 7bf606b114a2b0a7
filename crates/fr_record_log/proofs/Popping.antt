-- A log with the first of its popped tags takes the next one, and lets nothing more go.
use Rattle.std.proofs.Common.{◌≡◌, ℕ, ◌+◌, ◌≤◌, Bool, true, false, List, [], ◌∷◌, ◌++◌, map, Option, Some, None, cond, refl, sym, ap, ◌∙◌, arith}
use Rattle.std.specs.Prelude.{◌==◌, nat_lt, nat_le, filter, is_some, unwrap_or}
use Rattle.std.specs.Option.{option_map}
use Rattle.std.proofs.lemmas.Bool.{and_parts, leb-true, le-ltb, ltb-true, lt-ltb, ne_eqb}
use Rattle.fr_tags.specs.declared.body.Body.{Body}
use Rattle.fr_log.specs.Fields.{two}
use Rattle.fr_log.specs.Seed.{SeedContent}
use Rattle.fr_log.specs.Push.{PushContent}
use Rattle.fr_log.specs.declared.records.SeedRecord.{SeedRecord}
use Rattle.fr_log.specs.declared.popped.PoppedTag.{PoppedTag}
use Rattle.fr_log.specs.Left.{popped_of, popped_at, raised, is_rising_popped, left_push, is_left, left_seed}
use Rattle.fr_log.specs.LogState.{LogState, swept, holds, known_of}
use Rattle.fr_log.specs.Step.{with_popped}
use Rattle.fr_log.specs.Seeding.{may_pop}

-- the log before it was locked, with some tags popped and no others
abbrev pub popping : LogState → List PoppedTag → LogState
popping l front = record l { popped = front; stopped = false }

-- ---- tags that rise

rising_low : (least : ℕ) (front : List PoppedTag) (p : PoppedTag) (more : List PoppedTag) → is_rising_popped least (front ++ p ∷ more) ≡ true → least ≤ p.tag
rising_low least [] p more rising = leb-true least p.tag (and_parts (nat_le least p.tag) (is_rising_popped (p.tag + 1) more) rising).0
rising_low least (q ∷ front) p more rising =
    let parts = and_parts (nat_le least q.tag) (is_rising_popped (q.tag + 1) (front ++ p ∷ more)) rising in
    let here = leb-true least q.tag parts.0 in
    let later = rising_low (q.tag + 1) front p more parts.1 in
    omega (arith, here, later)

-- a tag that follows those that are popped is not among them, and comes behind them
pub record IsLastRaised (front : List PoppedTag) (p : PoppedTag) : Type 0 where
  pub new : popped_of front p.tag ≡ None
  pub last : raised front p.tag p.version ≡ front ++ p ∷ []

pub last_raised : (least : ℕ) (front : List PoppedTag) (p : PoppedTag) (more : List PoppedTag) → is_rising_popped least (front ++ p ∷ more) ≡ true → IsLastRaised front p
last_raised least [] p more rising = record { new = refl; last = refl }
last_raised least (q ∷ front) p more rising =
    let parts = and_parts (nat_le least q.tag) (is_rising_popped (q.tag + 1) (front ++ p ∷ more)) rising in
    let above = rising_low (q.tag + 1) front p more parts.1 in
    let rest = last_raised (q.tag + 1) front p more parts.1 in
    let before : nat_lt p.tag q.tag ≡ false = le-ltb p.tag q.tag (omega (arith, above)) in
    let other : (q.tag == p.tag) ≡ false = ne_eqb q.tag p.tag (λ e. omega (arith, above, e)) in
    record {
      new = rw other rest.new;
      last = rw (before, other) (ap (λ ps. q ∷ ps) rest.last);
    }

-- ---- what is let go of less, if nothing is of more

-- the first of the tags pop none further than all of them do
pub popped_less : (qs more : List PoppedTag) (t : ℕ) → popped_at qs t ≤ popped_at (qs ++ more) t
popped_less [] more t = omega arith
popped_less (q ∷ qs) more t = go (q.tag == t) (popped_of qs t) (popped_of (qs ++ more) t) (popped_less qs more t)
  where
    go : (b : Bool) (x y : Option ℕ) → unwrap_or x 0 ≤ unwrap_or y 0 → unwrap_or (cond b (Some q.version) x) 0 ≤ unwrap_or (cond b (Some q.version) y) 0
    go true x y le = omega arith
    go false x y le = le

filter_kept : {X : Type 0} (p q : X → Bool) → ((x : X) → p x ≡ true → q x ≡ true) → (xs : List X) → filter q (filter p xs) ≡ filter p xs
filter_kept p q h [] = refl
filter_kept {X} p q h (x ∷ xs) = go (filter_kept p q h xs) (p x) refl
  where
    go : filter q (filter p xs) ≡ filter p xs → (b : Bool) → p x ≡ b → filter q (filter p (x ∷ xs)) ≡ filter p (x ∷ xs)
    go rest true e = rw e (rw (h x e) (ap (λ ys. x ∷ ys) rest))
    go rest false e = rw e rest

module _ (ps qs : List PoppedTag) (le : (t : ℕ) → popped_at qs t ≤ popped_at ps t) where
  push_kept : (p : PushContent) → left_push qs (left_push ps p) ≡ left_push ps p
  push_kept p =
      ap (λ (bs : List Body). record p { bodies = bs })
      (filter_kept (λ (b : Body). nat_lt (popped_at ps b.tag) p.version) (λ (b : Body). nat_lt (popped_at qs b.tag) p.version)
      (λ b h. lt-ltb (popped_at qs b.tag) p.version (let k = ltb-true (popped_at ps b.tag) p.version h in let m = le b.tag in omega (arith, k, m))) p.bodies)

  all_kept : (xs : List PushContent) → map (left_push qs) (map (left_push ps) xs) ≡ map (left_push ps) xs
  all_kept [] = refl
  all_kept (x ∷ xs) = two (λ (y : PushContent) (ys : List PushContent). y ∷ ys) (push_kept x) (all_kept xs)

  pushes_kept : (xs : List PushContent) → map (left_push ps) xs ≡ xs → map (left_push qs) xs ≡ xs
  pushes_kept xs e = ap (map (left_push qs)) (sym e) ∙ all_kept xs ∙ e

  seed_kept : (s : SeedContent) → left_seed qs (left_seed ps s) ≡ left_seed ps s
  seed_kept s =
      ap (λ (rs : List SeedRecord). record s { records = rs })
      (filter_kept (is_left ps) (is_left qs)
      (λ r h. lt-ltb (popped_at qs r.tag) r.version (let k = ltb-true (popped_at ps r.tag) r.version h in let m = le r.tag in omega (arith, k, m))) s.records)

  any_kept : (o : Option SeedContent) → option_map (left_seed qs) (option_map (left_seed ps) o) ≡ option_map (left_seed ps) o
  any_kept None = refl
  any_kept (Some s) = ap Some (seed_kept s)

  seeds_kept : (o : Option SeedContent) → option_map (left_seed ps) o ≡ o → option_map (left_seed qs) o ≡ o
  seeds_kept o e = ap (option_map (left_seed qs)) (sym e) ∙ any_kept o ∙ e

-- a log that kept nothing of what all of its tags let go keeps nothing of what some of them do
pub popping_kept : (l : LogState) (qs more : List PoppedTag) → l.popped ≡ qs ++ more → swept l ≡ l → swept (popping l qs) ≡ popping l qs
unfolding swept
popping_kept l qs more all settled =
    let le : (t : ℕ) → popped_at qs t ≤ popped_at l.popped t = λ t. (let k = popped_less qs more t in let same = ap (λ (ps : List PoppedTag). popped_at ps t) all in omega (arith, k, same)) in
    two (λ (seed : Option SeedContent) (pushes : List PushContent). record l { seed = seed; pushes = pushes; popped = qs; stopped = false })
    (seeds_kept l.popped qs le l.seed (ap (λ (x : LogState). x.seed) settled)) (pushes_kept l.popped qs le l.pushes (ap (λ (x : LogState). x.pushes) settled))

-- ---- the next tag

-- what is true of the next tag
pub record IsNextPopped (l : LogState) (front : List PoppedTag) (p : PoppedTag) : Type 0 where
  pub may : may_pop (popping l front) p.tag p.version ≡ true
  pub after : swept (with_popped (popping l front) p.tag p.version) ≡ popping l (front ++ p ∷ [])

pub next_popped : (l : LogState) (front : List PoppedTag) (p : PoppedTag) (more : List PoppedTag) → l.popped ≡ (front ++ p ∷ []) ++ more → swept l ≡ l → is_some l.seed ≡ true → IsLastRaised front p → holds l p.tag ≡ true
    → nat_le p.version (known_of l) ≡ true → IsNextPopped l front p
next_popped l front p more all settled seeded last held known = record {
  may = rw (seeded, held, known, last.new) refl;
  after = ap (λ qs. swept (popping l qs)) last.last ∙ popping_kept l (front ++ p ∷ []) more all settled;
}
