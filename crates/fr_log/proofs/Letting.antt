-- What is left of a log is a log, and letting go at once or later is the same.
use Rattle.std.proofs.Common.{◌≡◌, ℕ, ◌+◌, ◌<◌, ◌≤◌, Bool, true, false, not, ◌&&◌, ◌||◌, List, [], ◌∷◌, ◌++◌, map, cond, nat_lt, nat_le, eqb, Option, None, Some, refl, sym, ◌∙◌, ap, subst, inl, inr, arith}
use Rattle.std.specs.Prelude.{filter, is_none, IfSome, ◌⊎◌}
use Rattle.std.specs.List.{All, list_all}
use Rattle.std.specs.Option.{option_map}
use Rattle.std.proofs.lemmas.Bool.{and_parts, and_from, or_cases, or_right, eqb-true, eq-eqb, ltb-true, leb-true, lt-ltb, le-leb}
use Rattle.std.proofs.lemmas.List.{map-append}
use Rattle.std.proofs.lemmas.List.Elements.{All-nil, All-cons, All-head, All-tail}
use Rattle.fr_tags.specs.declared.body.Body.{Body}
use Rattle.fr_tags.specs.Bodies.{is_rising_from}
use Rattle.fr_log.specs.declared.popped.PoppedTag.{PoppedTag}
use Rattle.fr_log.specs.declared.records.SeedRecord.{SeedRecord}
use Rattle.fr_log.specs.declared.ask.LogAsk.{LogAsk}
use Rattle.fr_log.specs.declared.ask.LogAsk.TheVariants.{Pop}
use Rattle.fr_log.specs.declared.ask.LogRefusal.{LogRefusal}
use Rattle.fr_log.specs.Fields.{two}
use Rattle.fr_log.specs.Seed.{SeedContent, IsSeed, is_within}
use Rattle.fr_log.specs.Push.{PushContent, IsPush}
use Rattle.fr_log.specs.Left.{popped_at, left_bodies, left_push, is_left, left_seed}
use Rattle.fr_log.specs.LogState.{LogState, swept, headers, seeded_to_of, known_of, holds}
use Rattle.fr_log.specs.Chain.{IsChain, BeginsWithMark, IsOwnSeed, IsOwnPush, IsLog, IsKept}
use Rattle.fr_log.specs.Refusal.{refusal_of}
use Rattle.fr_log.specs.Step.{next_of, after_ask, lets_go, popped_to, is_popped_to, with_popped}
use Rattle.fr_log.specs.StepLaws.{granted}
use Rattle.fr_log.specs.SweptLaws.{seeded_to_same, durable_same, known_same}
use Rattle.fr_log.specs.Change.{with_seed, with_push, with_stop, IsFirst, IsNext}
use Rattle.fr_log.specs.Law.{IsLogAsk, SweptIsLog, LetsGoIsSwept, UnpoppedIsSwept}
use Rattle.fr_log.proofs.Shelves.{rising_lower, rising_rest}
use Rattle.fr_log.proofs.Changes.{by_change, refused}
use Rattle.fr_log.proofs.Lawful.{known_is_held, popped_low}

-- ---- a part of what rises, rises

abbrev seed_rising : ℕ → ℕ → List SeedRecord → Bool
seed_rising version tag rs = Rattle.fr_log.specs.Seed.is_rising_from version tag rs

abbrev stands_behind : ℕ → ℕ → SeedRecord → Bool
stands_behind version tag r = nat_lt version r.version || (eqb version r.version && nat_le tag r.tag)

-- what rises from behind a record rises from where that record does
lower_seed : (version tag : ℕ) (r : SeedRecord) (rs : List SeedRecord) → stands_behind version tag r ≡ true → seed_rising r.version (r.tag + 1) rs ≡ true → seed_rising version tag rs ≡ true
lower_seed version tag r [] behind rises = refl
lower_seed version tag r (x ∷ rs) behind rises =
    let parts = and_parts (stands_behind r.version (r.tag + 1) x) (seed_rising x.version (x.tag + 1) rs) rises in
    and_from (stands_behind version tag x) (seed_rising x.version (x.tag + 1) rs) (both (or_cases _ _ behind) (or_cases _ _ parts.0)) parts.1
  where
    yes_less : version < x.version → stands_behind version tag x ≡ true
    yes_less less = rw (lt-ltb version x.version less) refl

    both : ((nat_lt version r.version ≡ true) ⊎ ((eqb version r.version && nat_le tag r.tag) ≡ true)) → ((nat_lt r.version x.version ≡ true) ⊎ ((eqb r.version x.version && nat_le (r.tag + 1) x.tag) ≡ true))
        → stands_behind version tag x ≡ true
    both (inl a) (inl b) = let p = ltb-true version r.version a in let q = ltb-true r.version x.version b in yes_less (omega (arith, p, q))
    both (inl a) (inr b) =
        let p = ltb-true version r.version a in
        let q = eqb-true r.version x.version (and_parts (eqb r.version x.version) (nat_le (r.tag + 1) x.tag) b).0 in
        yes_less (omega (arith, p, q))
    both (inr a) (inl b) =
        let p = eqb-true version r.version (and_parts (eqb version r.version) (nat_le tag r.tag) a).0 in
        let q = ltb-true r.version x.version b in
        yes_less (omega (arith, p, q))
    both (inr a) (inr b) =
        let a' = and_parts (eqb version r.version) (nat_le tag r.tag) a in
        let b' = and_parts (eqb r.version x.version) (nat_le (r.tag + 1) x.tag) b in
        let p = eqb-true version r.version a'.0 in
        let q = eqb-true r.version x.version b'.0 in
        let s = leb-true tag r.tag a'.1 in
        let t = leb-true (r.tag + 1) x.tag b'.1 in
        or_right (nat_lt version x.version) (eqb version x.version && nat_le tag x.tag)
        (and_from (eqb version x.version) (nat_le tag x.tag) (eq-eqb version x.version (p ∙ q)) (le-leb tag x.tag (omega (arith, s, t))))

part_rises : (p : SeedRecord → Bool) (version tag : ℕ) (rs : List SeedRecord) → seed_rising version tag rs ≡ true → seed_rising version tag (filter p rs) ≡ true
part_rises p version tag [] rises = refl
part_rises p version tag (r ∷ rs) rises = go (part_rises p version tag rs (lower_seed version tag r rs parts.0 parts.1)) (part_rises p r.version (r.tag + 1) rs parts.1) (p r) refl
  where
    parts : (stands_behind version tag r ≡ true) × (seed_rising r.version (r.tag + 1) rs ≡ true)
    parts = and_parts (stands_behind version tag r) (seed_rising r.version (r.tag + 1) rs) rises

    go : seed_rising version tag (filter p rs) ≡ true → seed_rising r.version (r.tag + 1) (filter p rs) ≡ true → (a : Bool) → p r ≡ a → seed_rising version tag (filter p (r ∷ rs)) ≡ true
    go low high true e = rw e (and_from (stands_behind version tag r) (seed_rising r.version (r.tag + 1) (filter p rs)) parts.0 high)
    go low high false e = rw e low

part_all : {X : Type 0} (f p : X → Bool) (xs : List X) → list_all f xs ≡ true → list_all f (filter p xs) ≡ true
part_all f p [] h = refl
part_all {X} f p (x ∷ xs) h = go (part_all f p xs parts.1) (p x) refl
  where
    parts : (f x ≡ true) × (list_all f xs ≡ true)
    parts = and_parts (f x) (list_all f xs) h

    go : list_all f (filter p xs) ≡ true → (a : Bool) → p x ≡ a → list_all f (filter p (x ∷ xs)) ≡ true
    go rest true e = rw e (and_from (f x) (list_all f (filter p xs)) parts.0 rest)
    go rest false e = rw e rest

bodies_rise : (p : Body → Bool) (least : ℕ) (bs : List Body) → is_rising_from least bs ≡ true → is_rising_from least (filter p bs) ≡ true
bodies_rise p least [] rises = refl
bodies_rise p least (b ∷ bs) rises = go (bodies_rise p (b.tag + 1) bs (rising_rest least b bs rises)) (p b) refl
  where
    first : nat_le least b.tag ≡ true
    first = (and_parts (nat_le least b.tag) (is_rising_from (b.tag + 1) bs) rises).0

    go : is_rising_from (b.tag + 1) (filter p bs) ≡ true → (a : Bool) → p b ≡ a → is_rising_from least (filter p (b ∷ bs)) ≡ true
    go rest true e = rw e (and_from (nat_le least b.tag) (is_rising_from (b.tag + 1) (filter p bs)) first rest)
    go rest false e = rw e (rising_lower least (b.tag + 1) (filter p bs) (let k = leb-true least b.tag first in omega (arith, k)) rest)

-- ---- what is left of each part

pub left_is_seed : (ps : List PoppedTag) (s : SeedContent) → IsSeed s → IsSeed (left_seed ps s)
left_is_seed ps s h = record {
  first_low = h.first_low;
  first_high = h.first_high;
  rising = part_rises (is_left ps) 0 0 s.records h.rising;
  within = part_all (is_within s.first s.seeded_to) (is_left ps) s.records h.within;
}

left_is_push : (ps : List PoppedTag) (p : PushContent) → IsPush p → IsPush (left_push ps p)
left_is_push ps p h = record {
  rises = h.rises;
  step = h.step;
  known = h.known;
  rising = bodies_rise (λ b. nat_lt (popped_at ps b.tag) p.version) 0 p.bodies h.rising;
  mark_bodies = λ some. ap (left_bodies ps p.version) (h.mark_bodies some);
  mark_step = h.mark_step;
}

left_own_seed : (ps : List PoppedTag) (e : ℕ) (f : ℕ → Bool) (o : Option SeedContent) → IfSome o (IsOwnSeed e f) → IfSome (option_map (left_seed ps) o) (IsOwnSeed e f)
left_own_seed ps e f None h = h
left_own_seed ps e f (Some s) h = record { within = left_is_seed ps s h.within; epoch = h.epoch; tags = part_all (λ r. f r.tag) (is_left ps) s.records h.tags }

left_own_pushes : (ps : List PoppedTag) (e : ℕ) (f : ℕ → Bool) (qs : List PushContent) → All (IsOwnPush e f) qs → All (IsOwnPush e f) (map (left_push ps) qs)
left_own_pushes ps e f [] h = All-nil (IsOwnPush e f)
left_own_pushes ps e f (q ∷ qs) h =
    let own = All-head (IsOwnPush e f) q qs h in
    All-cons (IsOwnPush e f) (left_push ps q) (map (left_push ps) qs)
    (record { within = left_is_push ps q own.within; epoch = own.epoch; tags = part_all (λ b. f b.tag) (λ b. nat_lt (popped_at ps b.tag) q.version) q.bodies own.tags })
    (left_own_pushes ps e f qs (All-tail (IsOwnPush e f) q qs h))

pub headers_same : (ps : List PoppedTag) (qs : List PushContent) → headers (map (left_push ps) qs) ≡ headers qs
headers_same ps [] = refl
headers_same ps (q ∷ qs) = ap (λ hs. record { prev = q.prev; version = q.version; known = q.known; mark = q.mark } ∷ hs) (headers_same ps qs)

was_none : (ps : List PoppedTag) (o : Option SeedContent) → option_map (left_seed ps) o ≡ None → o ≡ None
was_none ps None e = refl
was_none ps (Some s) e = absurd (cc)

pub swept_is_log : SweptIsLog
unfolding swept
swept_is_log l h = record {
  k_low = h.k_low;
  k_high = h.k_high;
  m_high = h.m_high;
  index_high = h.index_high;
  unseeded = λ none. ap (map (left_push l.popped)) (h.unseeded (was_none l.popped l.seed none));
  unlocked = λ none. h.unlocked (was_none l.popped l.seed none);
  own_seed = left_own_seed l.popped l.epoch (holds l) l.seed h.own_seed;
  own_pushes = left_own_pushes l.popped l.epoch (holds l) l.pushes h.own_pushes;
  chain = two-subst (seeded_to_of l.seed) (seeded_to_of (option_map (left_seed l.popped) l.seed)) (sym (seeded_to_same l.popped l.seed)) (sym (headers_same l.popped l.pushes)) h.chain;
  marked = subst BeginsWithMark (sym (headers_same l.popped l.pushes)) h.marked;
  unpopped = λ none. h.unpopped (was_none l.popped l.seed none);
  popped_rise = h.popped_rise;
  popped_held = h.popped_held;
  popped_known = ap (λ v. list_all (λ p. nat_le p.version v) l.popped) (known_same l) ∙ h.popped_known;
}
  where
    two-subst : (a b : ℕ) → a ≡ b → headers l.pushes ≡ headers (map (left_push l.popped) l.pushes) → IsChain a (headers l.pushes) → IsChain b (headers (map (left_push l.popped) l.pushes))
    two-subst a b p q chain = subst (λ v. IsChain v (headers (map (left_push l.popped) l.pushes))) p (subst (IsChain a) q chain)

-- ---- nothing is let go but by a Pop

all_left : {X : Type 0} (p : X → Bool) (xs : List X) → list_all p xs ≡ true → filter p xs ≡ xs
all_left p [] h = refl
all_left p (x ∷ xs) h =
    let parts = and_parts (p x) (list_all p xs) h in
    rw parts.0 (ap (λ ys. x ∷ ys) (all_left p xs parts.1))

-- a first seed has records from version 1 on
none_popped : (first seeded_to : ℕ) (rs : List SeedRecord) → 1 ≤ first → list_all (is_within first seeded_to) rs ≡ true → list_all (is_left []) rs ≡ true
none_popped first seeded_to [] low h = refl
none_popped first seeded_to (r ∷ rs) low h =
    let parts = and_parts (is_within first seeded_to r) (list_all (is_within first seeded_to) rs) h in
    let from = leb-true first r.version (and_parts (nat_le first r.version) (nat_le r.version seeded_to) parts.0).0 in
    and_from (is_left [] r) (list_all (is_left []) rs) (lt-ltb 0 r.version (omega (arith, from, low))) (none_popped first seeded_to rs low parts.1)

seed_stays : (l : LogState) (s : SeedContent) → IsLog l → IsFirst l s → IsSeed s → with_seed l s ≡ swept (with_seed l s)
unfolding swept
seed_stays l s h first is =
    let none : l.popped ≡ [] = h.unpopped first.unseeded in
    let empty : l.pushes ≡ [] = h.unseeded first.unseeded in
    let whole : s ≡ left_seed [] s = ap (λ rs. record s { records = rs }) (sym (all_left (is_left []) s.records (none_popped s.first s.seeded_to s.records is.first_low is.within))) in
    two (λ (seed : Option SeedContent) (pushes : List PushContent). record l { seed = seed; pushes = pushes })
    (ap Some whole ∙ ap (λ ps. Some (left_seed ps s)) (sym none)) (empty ∙ ap (map (left_push l.popped)) (sym empty))

-- a push that is newly held lies above all that is popped
all_above : (ps : List PoppedTag) (v w : ℕ) (bs : List Body) → ((t : ℕ) → popped_at ps t ≤ w) → w < v → list_all (λ b. nat_lt (popped_at ps b.tag) v) bs ≡ true
all_above ps v w [] low less = refl
all_above ps v w (b ∷ bs) low less =
    and_from (nat_lt (popped_at ps b.tag) v) (list_all (λ x. nat_lt (popped_at ps x.tag) v) bs)
    (lt-ltb (popped_at ps b.tag) v (let k = low b.tag in omega (arith, k, less))) (all_above ps v w bs low less)

pub new_is_left : (l : LogState) (p : PushContent) → IsLog l → IsNext l p → IsPush p → left_push l.popped p ≡ p
new_is_left l p h next is =
    let known = (known_is_held l h).1 in
    let follows = next.follows in
    let rises = is.rises in
    ap (λ bs. record p { bodies = bs })
    (all_left (λ b. nat_lt (popped_at l.popped b.tag) p.version) p.bodies
    (all_above l.popped p.version (known_of l) p.bodies (λ t. popped_low l t h) (omega (arith, known, follows, rises))))

push_stays : (l : LogState) (p : PushContent) → IsLog l → IsNext l p → IsPush p → swept l ≡ l → with_push l p ≡ swept (with_push l p)
unfolding swept
push_stays l p h next is settled =
    let seed : option_map (left_seed l.popped) l.seed ≡ l.seed = ap (λ n. n.seed) settled in
    let pushes : map (left_push l.popped) l.pushes ≡ l.pushes = ap (λ n. n.pushes) settled in
    two (λ (s : Option SeedContent) (ps : List PushContent). record l { seed = s; pushes = ps }) (sym seed)
    (sym (map-append (left_push l.popped) l.pushes (p ∷ []) ∙ two (λ (xs : List PushContent) (y : PushContent). xs ++ y ∷ []) pushes (new_is_left l p h next is)))

stop_stays : (l : LogState) → swept l ≡ l → with_stop l ≡ swept (with_stop l)
unfolding swept
stop_stays l settled =
    let seed : option_map (left_seed l.popped) l.seed ≡ l.seed = ap (λ n. n.seed) settled in
    let pushes : map (left_push l.popped) l.pushes ≡ l.pushes = ap (λ n. n.pushes) settled in
    two (λ (s : Option SeedContent) (ps : List PushContent). record l { seed = s; pushes = ps; stopped = true }) (sym seed) (sym pushes)

-- an ask that is no Pop
abbrev IsNoPop : LogAsk → Type 0
IsNoPop a = (epoch tag through : ℕ) → a ≡ Pop epoch tag through → ⊥

others_stay : (l : LogState) (a : LogAsk) → IsLog l → IsLogAsk a → swept l ≡ l → IsNoPop a → next_of l a ≡ swept (next_of l a)
others_stay l a h is settled apart =
    by_change (λ n. n ≡ swept n) l a (sym settled) (λ s at first. seed_stays l s h first (subst IsLogAsk at is)) (λ p at next. push_stays l p h next (subst IsLogAsk at is) settled) (λ at some. stop_stays l settled)
    (λ tag through at further. absurd (apart l.epoch tag through at))

-- a Pop that comes no further changes nothing
pop_stands : (l : LogState) (epoch tag through : ℕ) → lets_go l (Pop epoch tag through) ≡ false → next_of l (Pop epoch tag through) ≡ l
pop_stands l epoch tag through kept = go (refusal_of l (Pop epoch tag through)) refl
  where
    a : LogAsk
    a = Pop epoch tag through

    v : ℕ
    v = popped_to l tag through

    same : (b : Bool) → not b ≡ false → b ≡ true
    same true e = refl
    same false e = absurd (cc)

    go : (o : Option LogRefusal) → refusal_of l a ≡ o → next_of l a ≡ l
    go (Some why) e = refused l a why e
    go None e =
        let k : not (is_popped_to l tag v) ≡ false = sym (ap (λ o. is_none o && not (is_popped_to l tag v)) e) ∙ kept in
        granted l a e ∙ ap (λ b. cond b l (with_popped l tag v)) (same (is_popped_to l tag v) k)

pub lets_go_is_swept : LetsGoIsSwept
lets_go_is_swept l (Pop epoch tag through) h is settled = go (lets_go l (Pop epoch tag through)) refl
  where
    a : LogAsk
    a = Pop epoch tag through

    go : (b : Bool) → lets_go l a ≡ b → after_ask l a ≡ swept (next_of l a)
    go true e = ap (λ b. cond b (swept (next_of l a)) (next_of l a)) e
    go false e =
        let stands = pop_stands l epoch tag through e in
        ap (λ b. cond b (swept (next_of l a)) (next_of l a)) e ∙ stands ∙ sym settled ∙ ap swept (sym stands)
lets_go_is_swept l a h is settled = others_stay l a h is settled (λ e t v k. cc)

-- ---- nothing is let go of a log of which nothing is popped

unpopped_bodies : (v : ℕ) (bs : List Body) → 0 < v → list_all (λ b. nat_lt (popped_at [] b.tag) v) bs ≡ true
unpopped_bodies v [] low = refl
unpopped_bodies v (b ∷ bs) low =
    and_from (nat_lt (popped_at [] b.tag) v) (list_all (λ x. nat_lt (popped_at [] x.tag) v) bs) (lt-ltb 0 v low) (unpopped_bodies v bs low)

whole_pushes : (e : ℕ) (f : ℕ → Bool) (qs : List PushContent) → All (IsOwnPush e f) qs → map (left_push []) qs ≡ qs
whole_pushes e f [] h = refl
whole_pushes e f (q ∷ qs) h =
    let own = All-head (IsOwnPush e f) q qs h in
    let rises = own.within.rises in
    two (λ (x : PushContent) (xs : List PushContent). x ∷ xs)
    (ap (λ bs. record q { bodies = bs }) (all_left (λ b. nat_lt (popped_at [] b.tag) q.version) q.bodies (unpopped_bodies q.version q.bodies (omega (arith, rises)))))
    (whole_pushes e f qs (All-tail (IsOwnPush e f) q qs h))

whole_seed : (e : ℕ) (f : ℕ → Bool) (o : Option SeedContent) → IfSome o (IsOwnSeed e f) → option_map (left_seed []) o ≡ o
whole_seed e f None h = refl
whole_seed e f (Some s) h =
    ap (λ rs. Some (record s { records = rs })) (all_left (is_left []) s.records (none_popped s.first s.seeded_to s.records h.within.first_low h.within.within))

pub unpopped_is_swept : UnpoppedIsSwept
unfolding swept
unpopped_is_swept l h none =
    two (λ (seed : Option SeedContent) (pushes : List PushContent). record l { seed = seed; pushes = pushes })
    (ap (λ ps. option_map (left_seed ps) l.seed) none ∙ whole_seed l.epoch (holds l) l.seed h.own_seed)
    (ap (λ ps. map (left_push ps) l.pushes) none ∙ whole_pushes l.epoch (holds l) l.pushes h.own_pushes)

-- ---- a log of the code that lets go

pub let_go : (l : LogState) (ps qs : List PoppedTag) (seed : Option SeedContent) (pushes : List PushContent) → ps ≡ l.popped → qs ≡ l.popped → pushes ≡ map (left_push ps) l.pushes
    → seed ≡ option_map (left_seed qs) l.seed → record l { seed = seed; pushes = pushes } ≡ swept l
unfolding swept
let_go l ps qs seed pushes p q pushes_are seed_is =
    two (λ (s : Option SeedContent) (xs : List PushContent). record l { seed = s; pushes = xs }) (seed_is ∙ ap (λ x. option_map (left_seed x) l.seed) q) (pushes_are ∙ ap (λ x. map (left_push x) l.pushes) p)

pub swept_kept : (l : LogState) (durable known : ℕ) → IsKept l durable known → IsKept (swept l) durable known
swept_kept l durable known h = record { log = swept_is_log l h.log; durable_is = h.durable_is ∙ sym (durable_same l); known_is = h.known_is ∙ sym (known_same l) }
