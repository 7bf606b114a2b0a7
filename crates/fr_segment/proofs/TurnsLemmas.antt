-- What two files in turn stand for.
use Rattle.std.proofs.Common.{◌≡◌, ◌⊎◌, inl, inr, ℕ, zero, suc, ◌+◌, ◌<◌, ◌≤◌, ◌^◌, List, [], ◌∷◌, ◌++◌, length, get_or, take, drop, refl, sym, ap, ◌∙◌, subst, arith, append_assoc, length-append}
use Rattle.std.proofs.lemmas.List.{append-nil, get_or_default, take_at, take-take}
use Rattle.fr_segment.specs.File.{Group, body, block, groups_from, behind, guard, AreShort, StandsFrom, StandsFor, IsClosedAt, IsLeft, IsAtRest, records_of_all}
use Rattle.fr_segment.specs.Header.{header}
use Rattle.fr_segment.specs.Put.{IsClosing, IsRenewed}
use Rattle.fr_segment.specs.Turns.{IsHeaded, own_records, led_by, BeginsWith, HoldsNothing, IsOlder, AreTurns, PairStandsFor}
use Rattle.fr_segment.specs.Health.{IsNext}
use Rattle.fr_segment.proofs.FileLemmas.{be32, same_parts, spelled_once, length-spelled, block_once, length-block, unique}
use Rattle.fr_segment.proofs.HeaderLemmas.{one_file}
use Rattle.fr_segment.proofs.ReadLemmas.{closed_or_open, left_stands, rest_stands}
use Rattle.fr_segment.proofs.TableLemmas.{all-records-append}

-- ---- what a file begins with
pub led_long : (first more : List ℕ) → length (led_by first more) ≡ 4 + length first + length more
led_long first more = omega (arith, length-append (be32 (length first)) (first ++ more), length-append first more, length-spelled (length first))

-- bodies that are led by one record each are led by one
pub led_once : (a b x y : List ℕ) → length (led_by a x) < 2 ^ 32 → led_by a x ≡ led_by b y → (a ≡ b) × (x ≡ y)
led_once a b x y short same =
    let long = ap length same in
    let one = same_parts (be32 (length a)) (be32 (length b)) (a ++ x) (b ++ y) (length-spelled (length a) ∙ sym (length-spelled (length b))) same in
    let lengths : length a ≡ length b = spelled_once (length a) (length b) (omega (arith, short, led_long a x)) (omega (arith, short, long, led_long b y)) one.0 in
    same_parts a b x y lengths one.1

-- a file begins with one header at most
pub begins_once : (m n : ℕ) (a b file : List ℕ) → BeginsWith m a file → BeginsWith n b file → (m ≡ n) × (a ≡ b)
begins_once m n a b file one two =
    let bodies = block_once 0 (led_by (header m a) one.more) (led_by (header n b) two.more) one.rest two.rest one.short two.short (sym one.split ∙ two.split) in
    let headers = led_once (header m a) (header n b) one.more two.more one.short bodies.0 in
    one_file m n a b one.small two.small headers.0

pub never_both : (n : ℕ) (identity file : List ℕ) → BeginsWith n identity file → HoldsNothing file → ⊥
never_both n identity file begins nothing =
    let first : get_or file 0 0 ≡ 0 = get_or_default file 0 0 1 (omega (arith, nothing.0)) ∙ nothing.1.0 in
    let second : get_or file 1 0 ≡ 0 = get_or_default file 1 0 1 nothing.0 ∙ nothing.1.1 in
    omega (arith, begins.not_closed, first, second)

-- a file that stands for groups with a header begins with it
pub headed_begins : (n : ℕ) (identity : List ℕ) (groups : List Group) (file : List ℕ) → n < 2 ^ 64 → IsHeaded n identity groups → StandsFor file groups → BeginsWith n identity file
headed_begins n identity groups file small headed stands =
    let it = subst (λ gs. StandsFor file gs) headed.split stands in
    let begins = it.1 in
    let first : get_or file 0 0 ≡ begins.first = ap (λ l. get_or l 0 0) begins.split in
    let second : get_or file 1 0 ≡ begins.second = ap (λ l. get_or l 1 0) begins.split in
    record {
      more = body headed.first;
      rest = it.0;
      small = small;
      not_closed = omega (arith, begins.not_closed, first, second);
      short = begins.short;
      split = ap (λ l. drop 2 l) begins.split;
    }

-- ---- groups with a header
pub headed_more : (n : ℕ) (identity : List ℕ) (groups : List Group) (g : Group) → IsHeaded n identity groups → IsHeaded n identity (groups ++ g ∷ [])
headed_more n identity groups g headed = record { first = headed.first; others = headed.others ++ g ∷ []; split = ap (λ gs. gs ++ g ∷ []) headed.split }

pub own_more : (n : ℕ) (identity : List ℕ) (groups : List Group) (g : Group) → IsHeaded n identity groups → own_records (groups ++ g ∷ []) ≡ own_records groups ++ g
own_more n identity groups g headed =
    let all = all-records-append groups g in
    let is = ap records_of_all headed.split in
    ap (λ rs. drop 1 rs) all ∙ ap (λ rs. drop 1 (rs ++ g)) is ∙ ap (λ rs. drop 1 rs ++ g) (sym is)

-- the header is one of them
pub own_long : (n : ℕ) (identity : List ℕ) (groups : List Group) → IsHeaded n identity groups → length (records_of_all groups) ≡ 1 + length (own_records groups)
own_long n identity groups headed =
    let is = ap records_of_all headed.split in
    let all = ap length is in
    let own = ap (λ rs. length (drop 1 rs)) is in
    omega (arith, all, own)

-- ---- a pair stands for one list of records
-- the current file of one reading is not the older one of another
never_crossed : (m n : ℕ) (identity : List ℕ) (a b : List Group) (first second : List ℕ) → AreTurns m identity a first second → AreTurns n identity b second first → ⊥
never_crossed m n identity a b first second one two =
    let above : (k l : ℕ) (file : List ℕ) → BeginsWith k identity file → IsOlder l identity file → k < l = below in
    let here = headed_begins m identity a first one.small one.headed one.stands in
    let there = headed_begins n identity b second two.small two.headed two.stands in
    omega (arith, above m n first here two.older, above n m second there one.older)
  where
    below : (k l : ℕ) (file : List ℕ) → BeginsWith k identity file → IsOlder l identity file → k < l
    below k l file begins (inl nothing) = absurd (never_both k identity file begins nothing)
    below k l file begins (inr older) = let same = begins_once k older.0 identity identity file begins older.2 in omega (arith, same.0, older.1)

pub one_pair : (identity : List ℕ) (a b : List (List ℕ)) (first second : List ℕ) → PairStandsFor identity a first second → PairStandsFor identity b first second → b ≡ a
one_pair identity a b first second one two = two.own ∙ ap own_records (go one.turns two.turns) ∙ sym one.own
  where
    go : AreTurns one.number identity one.groups first second ⊎ AreTurns one.number identity one.groups second first → AreTurns two.number identity two.groups first second ⊎ AreTurns two.number identity two.groups second first
        → two.groups ≡ one.groups
    go (inl x) (inl y) = unique first one.groups two.groups x.stands y.stands
    go (inr x) (inr y) = unique second one.groups two.groups x.stands y.stands
    go (inl x) (inr y) = absurd (never_crossed one.number two.number identity one.groups two.groups first second x y)
    go (inr x) (inl y) = absurd (never_crossed one.number two.number identity one.groups two.groups second first x y)

pub pair_exchanged : (identity : List ℕ) (records : List (List ℕ)) (a b : List ℕ) → PairStandsFor identity records a b → PairStandsFor identity records b a
pair_exchanged identity records a b pair = record { number = pair.number; groups = pair.groups; turns = go pair.turns; own = pair.own }
  where
    go : AreTurns pair.number identity pair.groups a b ⊎ AreTurns pair.number identity pair.groups b a → AreTurns pair.number identity pair.groups b a ⊎ AreTurns pair.number identity pair.groups a b
    go (inl x) = inr x
    go (inr x) = inl x

-- ---- what a crash leaves of a pair
module _ (n : ℕ) (identity : List ℕ) (groups : List Group) (small : n < 2 ^ 64) (headed : IsHeaded n identity groups) (a b : List ℕ) where
  pub first_stands : StandsFor a groups → IsOlder n identity b → PairStandsFor identity (own_records groups) a b
  first_stands stands older = record { number = n; groups = groups; turns = inl (record { small = small; headed = headed; stands = stands; older = older }); own = refl }

  -- the groups with one in flight, or without it
  pub flight_stands : (g : Group) → AreShort (groups ++ g ∷ []) → IsLeft groups g a → IsOlder n identity b → PairStandsFor identity (own_records groups) a b ⊎ PairStandsFor identity (own_records groups ++ g) a b
  flight_stands g short left older = elim (left_stands a groups g short left) [
    | inl without ↦ inl (first_stands without older)
    | inr with_it ↦ inr (record {
      number = n;
      groups = groups ++ g ∷ [];
      turns = inl (record { small = small; headed = headed_more n identity groups g headed; stands = with_it; older = older });
      own = sym (own_more n identity groups g headed);
    })
  ]

  -- the next file in flight on the other device
  pub next_stands : (g : Group) → IsNext n identity g → StandsFor a groups → IsLeft [] g b → PairStandsFor identity (own_records groups) a b ⊎ PairStandsFor identity (drop 1 g) a b
  next_stands g next stands left = elim (left_stands b [] g next.short left) [
    | inl none ↦ inl (first_stands stands (inl (nothing_there b none)))
    | inr there ↦ inr (record {
      number = n + 1;
      groups = g ∷ [];
      turns = inr (record { small = next.small; headed = next.headed; stands = there; older = inr (n, omega arith, headed_begins n identity groups a small headed stands) });
      own = ap (λ rs. drop 1 rs) (sym (append-nil g));
    })
  ]
    where
      nothing_there : (file : List ℕ) → StandsFor file [] → HoldsNothing file
      nothing_there file none = (let e = ap length none.1 in omega (arith, e), (ap (λ l. get_or l 0 1) none.1, ap (λ l. get_or l 1 1) none.1))

-- while an older file's gate is closed, it is older or holds nothing
pub closing_older : (n : ℕ) (identity old left : List ℕ) → IsOlder n identity old → IsClosing old left → IsOlder n identity left
closing_older n identity old left (inl nothing) closing = subst (λ l. IsOlder n identity l) (sym (closing.closed nothing.1)) (inl nothing)
closing_older n identity old left (inr older) closing = elim (closed_or_open left 0 closing.long) [
  | inl closed ↦ inl (closing.long, closed)
  | inr opens ↦ inr (
    older.0,
    older.1,
    record {
      more = older.2.more;
      rest = older.2.rest;
      small = older.2.small;
      not_closed = opens;
      short = older.2.short;
      split = closing.end ∙ older.2.split;
    },
  )
]

-- while a file is begun anew, it is older, holds nothing, or has the new group in flight
pub renewed_other : (n : ℕ) (identity old new left : List ℕ) (g : Group) → new ≡ behind 0 g ++ guard 1 → IsOlder n identity old → IsRenewed old new left → IsOlder n identity left ⊎ IsLeft [] g left
renewed_other n identity old new left g is older (inl closing) = inl (closing_older n identity old left older closing)
renewed_other n identity old new left g is older (inr (inl closed)) = inl (inl closed)
renewed_other n identity old new left g is older (inr (inr there)) =
    let k = length (behind 0 g) in
    let long : length new ≡ k + length (guard 1) = ap length is ∙ length-append (behind 0 g) (guard 1) in
    inr (record {
      long = there.0;
      front = refl;
      gate = inr (sym (take-take k (length new) (drop 2 left) (omega (arith, long))) ∙ ap (λ l. take k l) (there.1 ∙ is) ∙ take_at (behind 0 g) (guard 1) k refl);
    })
