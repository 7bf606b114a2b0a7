-- What every log is, how it grows, and what raises its versions.
use Rattle.std.proofs.Common.{◌≡◌, ℕ, ◌+◌, ◌-◌, ◌<◌, ◌≤◌, Bool, true, false, not, ◌&&◌, cond, nat_lt, nat_le, eqb, List, [], ◌∷◌, ◌++◌, Option, None, Some, refl, sym, ◌∙◌, ap, subst, arith, max, append_assoc}
use Rattle.std.specs.Prelude.{fold, is_none, IsTrue, IsSome, IfSome}
use Rattle.std.specs.List.{All, list_all}
use Rattle.std.specs.Option.{unwrap_or}
use Rattle.std.proofs.lemmas.Bool.{and_parts, and_from, not-true, both_ways, eqb-true, eqb-false, ltb-true, ltb-false, leb-true, le-leb}
use Rattle.std.proofs.lemmas.List.{append-nil, map-append}
use Rattle.std.proofs.lemmas.List.Elements.{All-head, All-tail, filter_map-append}
use Rattle.fr_log.specs.declared.ask.LogAsk.TheVariants.{Push}
use Rattle.fr_log.specs.declared.popped.PoppedTag.{PoppedTag}
use Rattle.fr_log.specs.Left.{popped_of, popped_at, raised, is_rising_popped}
use Rattle.fr_log.specs.SweptLaws.{raised_here, raised_others}
use Rattle.fr_log.specs.Fields.{two}
use Rattle.fr_log.specs.Seed.{SeedContent, IsSeed}
use Rattle.fr_log.specs.Push.{PushContent}
use Rattle.fr_log.specs.LogState.{LogState, holds, headers, headers_of, first_of, seeded_to_of, seed_records_of, pushed_record, durable_of, known_of, records_of, is_push_held}
use Rattle.fr_log.specs.Search.{seeded_records, pushed_records}
use Rattle.fr_log.specs.Chain.{IsChain, IsLog, IsOwnSeed, IsKept}
use Rattle.fr_log.specs.Refusal.{push_refusal}
use Rattle.fr_log.specs.Step.{next_of, popped_to, with_popped}
use Rattle.fr_log.specs.Change.{with_seed, with_push, with_stop, IsFirst, IsNext, IsFurther}
use Rattle.fr_log.specs.StepLaws.{greatest, granted}
use Rattle.fr_log.specs.Law.{IsLogAsk, after_all, AskLeavesLog, AsksLeaveLog, last_version, DurableIsLast, DurableIsBounded, KnownIsHeld, RecordsRise, StandsStill, Grows, IsSomeFrom, PoppedIsKnown, AskGrows, AsksGrow, is_newly_held, FirstSeedSets, PushAdds, NewPushRaises, NothingElseRaises}
use Rattle.fr_log.proofs.Chains.{reach}
use Rattle.fr_log.proofs.Rising.{rises_test, through_test, records_rise, records_through}
use Rattle.fr_log.proofs.Pushing.{next_push, with_push_is_log, durable_more, known_more, some_is_not_none}
use Rattle.fr_log.proofs.Changes.{by_change}

-- ---- what every log is

with_seed_is_log : (l : LogState) (s : SeedContent) → IsLog l → IsFirst l s → IsSeed s → IsLog (with_seed l s)
with_seed_is_log l s h first is = record {
  k_low = h.k_low;
  k_high = h.k_high;
  m_high = h.m_high;
  index_high = h.index_high;
  unseeded = λ k. absurd (cc);
  unlocked = λ k. absurd (cc);
  own_seed = record { within = is; epoch = first.epoch; tags = first.tags };
  own_pushes = h.own_pushes;
  chain = subst (λ ps. IsChain s.seeded_to (headers ps)) (sym (h.unseeded first.unseeded)) tt;
  marked = h.marked;
  unpopped = λ k. absurd (cc);
  popped_rise = h.popped_rise;
  popped_held = h.popped_held;
  popped_known = ap (list_all (λ p. nat_le p.version (known_of (with_seed l s)))) (h.unpopped first.unseeded);
}

stopped_is_log : (l : LogState) → IsLog l → IsSome l.seed → IsLog (with_stop l)
stopped_is_log l h some = record {
  k_low = h.k_low;
  k_high = h.k_high;
  m_high = h.m_high;
  index_high = h.index_high;
  unseeded = h.unseeded;
  unlocked = λ none. absurd (some_is_not_none l.seed none some);
  own_seed = h.own_seed;
  own_pushes = h.own_pushes;
  chain = h.chain;
  marked = h.marked;
  unpopped = h.unpopped;
  popped_rise = h.popped_rise;
  popped_held = h.popped_held;
  popped_known = h.popped_known;
}

-- ---- a tag popped further

raised_rise : (least : ℕ) (ps : List PoppedTag) (tag v : ℕ) → least ≤ tag → is_rising_popped least ps ≡ true → is_rising_popped least (raised ps tag v) ≡ true
raised_rise least [] tag v le h = and_from (nat_le least tag) true (le-leb least tag le) refl
raised_rise least (p ∷ ps) tag v le h = go (raised_rise (p.tag + 1) ps tag v) (nat_lt tag p.tag) refl (eqb p.tag tag) refl
  where
    above_other : (a b : ℕ) → a ≤ b → (a ≡ b → ⊥) → a + 1 ≤ b
    above_other a b low other = omega (arith, low, other)

    parts : (nat_le least p.tag ≡ true) × (is_rising_popped (p.tag + 1) ps ≡ true)
    parts = and_parts (nat_le least p.tag) (is_rising_popped (p.tag + 1) ps) h

    go : (p.tag + 1 ≤ tag → is_rising_popped (p.tag + 1) ps ≡ true → is_rising_popped (p.tag + 1) (raised ps tag v) ≡ true)
        → (a : Bool) → nat_lt tag p.tag ≡ a → (b : Bool) → eqb p.tag tag ≡ b → is_rising_popped least (raised (p ∷ ps) tag v) ≡ true
    go rest true e b k =
        let less = ltb-true tag p.tag e in
        rw e (and_from (nat_le least tag) (nat_le (tag + 1) p.tag && is_rising_popped (p.tag + 1) ps) (le-leb least tag le)
        (and_from (nat_le (tag + 1) p.tag) (is_rising_popped (p.tag + 1) ps) (le-leb (tag + 1) p.tag (omega (arith, less))) parts.1))
    go rest false e true k =
        let same : p.tag ≡ tag = eqb-true p.tag tag k in
        rw (e, k) (and_from (nat_le least tag) (is_rising_popped (tag + 1) ps) (le-leb least tag le) (subst (λ t. is_rising_popped (t + 1) ps ≡ true) same parts.1))
    go rest false e false k =
        let low = ltb-false tag p.tag e in
        let other = eqb-false p.tag tag k in
        rw (e, k) (and_from (nat_le least p.tag) (is_rising_popped (p.tag + 1) (raised ps tag v)) parts.0
        (rest (above_other p.tag tag low other) parts.1))

raised_all : (f : PoppedTag → Bool) (ps : List PoppedTag) (tag v : ℕ) → f (record { tag = tag; version = v }) ≡ true → list_all f ps ≡ true → list_all f (raised ps tag v) ≡ true
raised_all f [] tag v new h = and_from (f (record { tag = tag; version = v })) true new refl
raised_all f (p ∷ ps) tag v new h = go (raised_all f ps tag v new parts.1) (nat_lt tag p.tag) refl (eqb p.tag tag) refl
  where
    parts : (f p ≡ true) × (list_all f ps ≡ true)
    parts = and_parts (f p) (list_all f ps) h

    go : list_all f (raised ps tag v) ≡ true → (a : Bool) → nat_lt tag p.tag ≡ a → (b : Bool) → eqb p.tag tag ≡ b → list_all f (raised (p ∷ ps) tag v) ≡ true
    go rest true e b k = rw e (and_from (f (record { tag = tag; version = v })) (f p && list_all f ps) new h)
    go rest false e true k = rw (e, k) (and_from (f (record { tag = tag; version = v })) (list_all f ps) new parts.1)
    go rest false e false k = rw (e, k) (and_from (f p) (list_all f (raised ps tag v)) parts.0 rest)

-- what is popped of a tag is as each entry is
popped_is : (f : ℕ → ℕ → Bool) (ps : List PoppedTag) (tag v : ℕ) → list_all (λ p. f p.tag p.version) ps ≡ true → popped_of ps tag ≡ Some v → f tag v ≡ true
popped_is f [] tag v h e = absurd (cc)
popped_is f (p ∷ ps) tag v h e = go (popped_is f ps tag v parts.1) (eqb p.tag tag) refl
  where
    parts : (f p.tag p.version ≡ true) × (list_all (λ q. f q.tag q.version) ps ≡ true)
    parts = and_parts (f p.tag p.version) (list_all (λ q. f q.tag q.version) ps) h

    go : (popped_of ps tag ≡ Some v → f tag v ≡ true) → (b : Bool) → eqb p.tag tag ≡ b → f tag v ≡ true
    go rest true k =
        let is : Some p.version ≡ Some v = sym (ap (λ t. cond t (Some p.version) (popped_of ps tag)) k) ∙ e in
        let same : p.version ≡ v = cc in
        two (λ (x y : ℕ). f x y) (sym (eqb-true p.tag tag k)) (sym same) ∙ parts.0
    go rest false k = rest (sym (ap (λ t. cond t (Some p.version) (popped_of ps tag)) k) ∙ e)

pub popped_is_known : PoppedIsKnown
popped_is_known l tag version h e = (
  leb-true version (known_of l) (popped_is (λ t v. nat_le v (known_of l)) l.popped tag version h.popped_known e),
  popped_is (λ t v. holds l t) l.popped tag version h.popped_held e,
)

-- what is popped of a tag is known, also if nothing is
pub popped_low : (l : LogState) (tag : ℕ) → IsLog l → popped_at l.popped tag ≤ known_of l
popped_low l tag h = go (popped_of l.popped tag) refl
  where
    go : (o : Option ℕ) → popped_of l.popped tag ≡ o → popped_at l.popped tag ≤ known_of l
    go None e = let k : popped_at l.popped tag ≡ 0 = ap (λ o. unwrap_or o 0) e in omega (arith, k)
    go (Some v) e =
        let k : popped_at l.popped tag ≡ v = ap (λ o. unwrap_or o 0) e in
        let low = (popped_is_known l tag v h e).0 in
        omega (arith, k, low)

pub raised_is_log : (l : LogState) (tag v : ℕ) → IsLog l → IsSome l.seed → IsTrue (holds l tag) → v ≤ known_of l → IsLog (with_popped l tag v)
raised_is_log l tag v h seeded held known = record {
  k_low = h.k_low;
  k_high = h.k_high;
  m_high = h.m_high;
  index_high = h.index_high;
  unseeded = h.unseeded;
  unlocked = h.unlocked;
  own_seed = h.own_seed;
  own_pushes = h.own_pushes;
  chain = h.chain;
  marked = h.marked;
  unpopped = λ none. absurd (some_is_not_none l.seed none seeded);
  popped_rise = raised_rise 0 l.popped tag v (omega arith) h.popped_rise;
  popped_held = raised_all (λ p. holds l p.tag) l.popped tag v held h.popped_held;
  popped_known = raised_all (λ p. nat_le p.version (known_of l)) l.popped tag v (le-leb v (known_of l) known) h.popped_known;
}

pub raised_kept : (l n : LogState) (tag v durable known : ℕ) → l ≡ n → IsKept l durable known → IsSome n.seed → IsTrue (holds n tag) → v ≤ known_of n → IsKept (with_popped l tag v) durable known
raised_kept l n tag v durable known same h seeded held low = record {
  log = raised_is_log l tag v h.log (subst (λ x. IsSome x.seed) (sym same) seeded) (subst (λ x. IsTrue (holds x tag)) (sym same) held) (subst (λ x. v ≤ known_of x) (sym same) low);
  durable_is = h.durable_is;
  known_is = h.known_is;
}

-- a Pop raises no further than what is known
pub popped_to_known : (l : LogState) (tag through : ℕ) → IsLog l → popped_to l tag through ≤ known_of l
popped_to_known l tag through h = let k = popped_low l tag h in omega (arith, k)

with_popped_is_log : (l : LogState) (tag through : ℕ) → IsLog l → IsFurther l tag through → IsLog (with_popped l tag (popped_to l tag through))
with_popped_is_log l tag through h is = raised_is_log l tag (popped_to l tag through) h is.seeded is.held (popped_to_known l tag through h)

pub ask_leaves_log : AskLeavesLog
ask_leaves_log l a h is =
    by_change IsLog l a h (λ s at first. with_seed_is_log l s h first (subst IsLogAsk at is)) (λ p at next. with_push_is_log l p h next (subst IsLogAsk at is)) (λ at some. stopped_is_log l h some)
    (λ tag through at further. with_popped_is_log l tag through h further)

pub asks_leave_log : AsksLeaveLog
asks_leave_log l [] h are = h
asks_leave_log l (a ∷ asks) h are = asks_leave_log (next_of l a) asks (ask_leaves_log l a h (All-head IsLogAsk a asks are)) (All-tail IsLogAsk a asks are)

reach_is_last : (version : ℕ) (ps : List PushContent) → IsChain version (headers ps) → reach version ps ≡ last_version version (headers ps)
reach_is_last version [] chain = refl
reach_is_last version (p ∷ ps) (follows, (rises, (known, rest))) =
    let top : max version p.version ≡ p.version = omega arith in
    ap (λ v. reach v ps) top ∙ reach_is_last p.version ps rest

reach_bounded : (version bound : ℕ) (ps : List PushContent) → version ≤ bound → All (λ p. p.version ≤ bound) ps → reach version ps ≤ bound
reach_bounded version bound [] le all = le
reach_bounded version bound (p ∷ ps) le all =
    reach_bounded (max version p.version) bound ps (let k = All-head (λ q. q.version ≤ bound) p ps all in omega arith) (All-tail (λ q. q.version ≤ bound) p ps all)

pub durable_is_bounded : DurableIsBounded
durable_is_bounded l bound le all = reach_bounded (seeded_to_of l.seed) bound l.pushes le all

pub durable_is_last : DurableIsLast
durable_is_last l h = reach_is_last (seeded_to_of l.seed) l.pushes h.chain

-- the greatest of a number and of what pushes tell to be known
abbrev knowledge : ℕ → List PushContent → ℕ
knowledge known ps = fold (λ v p. max v p.known) known ps

knowledge_above : (known : ℕ) (ps : List PushContent) → known ≤ knowledge known ps
knowledge_above known [] = omega arith
knowledge_above known (p ∷ ps) = let k = knowledge_above (max known p.known) ps in omega arith

knowledge_within : (known version : ℕ) (ps : List PushContent) → known ≤ version → IsChain version (headers ps) → knowledge known ps ≤ reach version ps
knowledge_within known version [] le chain = le
knowledge_within known version (p ∷ ps) le (follows, (rises, (knows, rest))) =
    let top : max version p.version ≡ p.version = omega arith in
    subst (λ v. knowledge (max known p.known) ps ≤ reach v ps) (sym top) (knowledge_within (max known p.known) p.version ps (omega arith) rest)

first_within : (e : ℕ) (is_mine : ℕ → Bool) (o : Option SeedContent) → IfSome o (IsOwnSeed e is_mine) → first_of o - 1 ≤ seeded_to_of o
first_within e is_mine None own = omega arith
first_within e is_mine (Some s) own = let k = own.within.first_high in omega arith

pub known_is_held : KnownIsHeld
known_is_held l h = (
  knowledge_above (first_of l.seed - 1) l.pushes,
  knowledge_within (first_of l.seed - 1) (seeded_to_of l.seed) l.pushes (first_within _ _ l.seed h.own_seed) h.chain,
)

pub records_rise_law : RecordsRise
records_rise_law l tag h = (rises_test 0 (records_of l tag) (records_rise l tag h), through_test (durable_of l) (records_of l tag) (records_through l tag h))

-- ---- growth

popped_stays : (ps : List PoppedTag) (tag version : ℕ) → popped_of ps tag ≡ Some version → IsSomeFrom version (popped_of ps tag)
popped_stays ps tag version e = subst (IsSomeFrom version) (sym e) (omega arith)

grows_itself : (l : LogState) → Grows l l
grows_itself l = record {
  epoch = refl;
  index = refl;
  m = refl;
  k = refl;
  seed = λ some. refl;
  headers = ([], sym (append-nil (headers_of l)));
  durable = omega arith;
  known = omega arith;
  stopped = λ is. is;
  still = λ some is. record { headers = refl; durable = refl; known = refl };
  popped = popped_stays l.popped;
}

grows_seed : (l : LogState) (s : SeedContent) → l.seed ≡ None → Grows l (with_seed l s)
grows_seed l s none = record {
  epoch = refl;
  index = refl;
  m = refl;
  k = refl;
  seed = λ some. absurd (some_is_not_none l.seed none some);
  headers = ([], sym (append-nil (headers_of l)));
  durable = greatest (λ p. p.version) (seeded_to_of l.seed) s.seeded_to l.pushes (let k = ap seeded_to_of none in omega arith);
  known = greatest (λ p. p.known) (first_of l.seed - 1) (s.first - 1) l.pushes (let k = ap first_of none in omega arith);
  stopped = λ is. is;
  still = λ some is. absurd (some_is_not_none l.seed none some);
  popped = popped_stays l.popped;
}

grows_push : (l : LogState) (p : PushContent) → l.stopped ≡ false → Grows l (with_push l p)
grows_push l p running = record {
  epoch = refl;
  index = refl;
  m = refl;
  k = refl;
  seed = λ some. refl;
  headers = (headers (p ∷ []), map-append (λ q. record { prev = q.prev; version = q.version; known = q.known; mark = q.mark }) l.pushes (p ∷ []));
  durable = omega (arith, durable_more l p);
  known = omega (arith, known_more l p);
  stopped = λ is. is;
  still = λ some is. absurd (both_ways l.stopped running is);
  popped = popped_stays l.popped;
}

grows_stop : (l : LogState) → Grows l (with_stop l)
grows_stop l = record {
  epoch = refl;
  index = refl;
  m = refl;
  k = refl;
  seed = λ some. refl;
  headers = ([], sym (append-nil (headers_of l)));
  durable = omega arith;
  known = omega arith;
  stopped = λ is. refl;
  still = λ some is. record { headers = refl; durable = refl; known = refl };
  popped = popped_stays l.popped;
}

-- what is popped of a tag is no less, and there where it was
popped_rises : (ps : List PoppedTag) (tag v : ℕ) → popped_at ps tag ≤ v → (other version : ℕ) → popped_of ps other ≡ Some version → IsSomeFrom version (popped_of (raised ps tag v) other)
popped_rises ps tag v le other version e = go (eqb other tag) refl
  where
    go : (b : Bool) → eqb other tag ≡ b → IsSomeFrom version (popped_of (raised ps tag v) other)
    go true k =
        let same : other ≡ tag = eqb-true other tag k in
        let here : popped_of (raised ps tag v) other ≡ Some v = ap (popped_of (raised ps tag v)) same ∙ raised_here ps tag v in
        let was : popped_at ps tag ≡ version = ap (popped_at ps) (sym same) ∙ ap (λ o. unwrap_or o 0) e in
        subst (IsSomeFrom version) (sym here) (omega (arith, was, le))
    go false k = subst (IsSomeFrom version) (sym (raised_others ps tag v other (eqb-false other tag k) ∙ e)) (omega arith)

grows_popped : (l : LogState) (tag v : ℕ) → popped_at l.popped tag ≤ v → Grows l (with_popped l tag v)
grows_popped l tag v le = record {
  epoch = refl;
  index = refl;
  m = refl;
  k = refl;
  seed = λ some. refl;
  headers = ([], sym (append-nil (headers_of l)));
  durable = omega arith;
  known = omega arith;
  stopped = λ is. is;
  still = λ some is. record { headers = refl; durable = refl; known = refl };
  popped = popped_rises l.popped tag v le;
}

grows_on : (l n o : LogState) → Grows l n → Grows n o → Grows l o
grows_on l n o g h = record {
  epoch = h.epoch ∙ g.epoch;
  index = h.index ∙ g.index;
  m = h.m ∙ g.m;
  k = h.k ∙ g.k;
  seed = λ some. h.seed (seeded some) ∙ g.seed some;
  headers = (g.headers.0 ++ h.headers.0, h.headers.1 ∙ ap (λ hs. hs ++ h.headers.0) g.headers.1 ∙ append_assoc (headers_of l) g.headers.0 h.headers.0);
  durable = let a = g.durable in let b = h.durable in omega arith;
  known = let a = g.known in let b = h.known in omega arith;
  stopped = λ is. h.stopped (g.stopped is);
  still = λ some is.
      let a = g.still some is in
      let b = h.still (seeded some) (g.stopped is) in
      record { headers = b.headers ∙ a.headers; durable = b.durable ∙ a.durable; known = b.known ∙ a.known };
  popped = λ tag version e. popped_on tag version (popped_of n.popped tag) refl (g.popped tag version e);
}
  where
    higher : (version w : ℕ) (found : Option ℕ) → version ≤ w → IsSomeFrom w found → IsSomeFrom version found
    higher version w None le some = some
    higher version w (Some x) le some = omega (arith, le, some)

    popped_on : (tag version : ℕ) (found : Option ℕ) → popped_of n.popped tag ≡ found → IsSomeFrom version (popped_of n.popped tag) → IsSomeFrom version (popped_of o.popped tag)
    popped_on tag version None e some = absurd (subst (IsSomeFrom version) e some)
    popped_on tag version (Some w) e some = higher version w (popped_of o.popped tag) (subst (IsSomeFrom version) e some) (h.popped tag w e)

    seeded : IsSome l.seed → IsSome n.seed
    seeded some = subst (λ x. IsSome x) (sym (g.seed some)) some

pub ask_grows : AskGrows
ask_grows l a = by_change (Grows l) l a (grows_itself l) (λ s at first. grows_seed l s first.unseeded) (λ p at next. grows_push l p next.running) (λ at some. grows_stop l)
    (λ tag through at is. grows_popped l tag (popped_to l tag through) (omega arith))

pub asks_grow : AsksGrow
asks_grow l [] = grows_itself l
asks_grow l (a ∷ asks) = grows_on l (next_of l a) (after_all (next_of l a) asks) (ask_grows l a) (asks_grow (next_of l a) asks)

-- ---- what raises durable and known

none_from : {A : Type 0} (o : Option A) → is_none o ≡ true → o ≡ None
none_from None e = refl
none_from (Some x) e = absurd (cc)

pub first_seed_sets : FirstSeedSets
first_seed_sets l s none = record {
  durable = ap (reach s.seeded_to) none;
  known = ap (knowledge (s.first - 1)) none;
  records = λ tag. ap (λ ps. seeded_records tag s.records ++ pushed_records tag ps) none ∙ append-nil (seeded_records tag s.records);
}

pub push_adds : PushAdds
push_adds l p = record {
  durable = durable_more l p;
  known = known_more l p;
  records = λ tag.
      ap (λ rs. seeded_records tag (seed_records_of l.seed) ++ rs) (filter_map-append (pushed_record tag) l.pushes (p ∷ []))
      ∙ sym (append_assoc (seeded_records tag (seed_records_of l.seed)) (pushed_records tag l.pushes) (pushed_records tag (p ∷ [])));
}

-- a push that may be newly held is refused by no test
newly : (l : LogState) (p : PushContent) → IsNext l p → is_newly_held l (Push p) ≡ true
newly l p next = rw (next.granted, next.unheld) refl

pub new_push_raises : NewPushRaises
new_push_raises l p is new =
    let parts = and_parts (is_none (push_refusal l p)) (not (is_push_held l p)) new in
    let taken = none_from (push_refusal l p) parts.0 in
    let other = not-true (is_push_held l p) parts.1 in
    let next = next_push l p taken other in
    let follows = next.follows in
    let rises = is.rises in
    let at : next_of l (Push p) ≡ with_push l p = granted l (Push p) taken ∙ rw other refl in
    record {
      follows = next.follows;
      durable = ap durable_of at ∙ durable_more l p ∙ top (durable_of l) p.version (omega arith);
      known = ap known_of at ∙ known_more l p;
    }
  where
    top : (a b : ℕ) → a < b → max a b ≡ b
    top a b less = omega arith

pub nothing_else_raises : NothingElseRaises
nothing_else_raises l a some not_new =
    by_change (StandsStill l) l a (record { headers = refl; durable = refl; known = refl }) (λ s at first. absurd (some_is_not_none l.seed first.unseeded some))
    (λ p at next. absurd (both_ways (is_newly_held l a) not_new (ap (is_newly_held l) at ∙ newly l p next))) (λ at k. record { headers = refl; durable = refl; known = refl })
    (λ tag through at is. record { headers = refl; durable = refl; known = refl })
