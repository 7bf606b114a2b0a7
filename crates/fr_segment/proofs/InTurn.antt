-- Two files in turn between calls, and the ways over them.
use Rattle.std.proofs.Common.{◌≡◌, ◌⊎◌, inl, inr, ℕ, ◌+◌, ◌<◌, ◌≤◌, ◌^◌, Bool, true, false, List, [], ◌∷◌, ◌++◌, length, get_or, take, drop, Some, None, Option, refl, sym, ap, ◌∙◌, subst, arith, Vec, append_assoc}
use Rattle.std.specs.declared.alloc.Global.{Global}
use Rattle.std.proofs.lemmas.List.{append-nil}
use Rattle.fr_record.specs.Disk.{Disk, MayLeave, IsDurable, Stands}
use Rattle.fr_record.specs.Moments.{LeavesOnly, Throughout}
use Rattle.fr_segment.specs.declared.health.Health.{Health}
use Rattle.fr_segment.specs.declared.health.Health.TheVariants.{Works, Failed, Appending, Replacing}
use Rattle.fr_segment.specs.File.{Group, body, block, groups_from, behind, guard, AreShort, StandsFor, IsLeft, IsAtRest}
use Rattle.fr_segment.specs.Group.{records_of}
use Rattle.fr_segment.specs.Header.{header}
use Rattle.fr_segment.specs.Health.{group_of, has_failed, failed_now, owed_by, IsNext, IsFit, IsCurrentLeft, IsOtherLeft, AreInTurn}
use Rattle.fr_segment.specs.Put.{IsRenewed}
use Rattle.fr_segment.specs.Room.{group_size}
use Rattle.fr_segment.specs.State.{SegmentFile}
use Rattle.fr_segment.specs.Table.{groups_in}
use Rattle.fr_segment.specs.Turns.{IsHeaded, own_records, BeginsWith, HoldsNothing, IsOlder, PairStandsFor}
use Rattle.fr_segment.specs.Pair.{LeavesBoth, PairThroughout}
use Rattle.fr_segment.specs.PairLaws.{begun, weaker_both, at_end, way_weaker}
use Rattle.fr_segment.specs.Way.{TurnsFile, HasRecords, IsWay}
use Rattle.fr_segment.proofs.AllLemmas.{all_first, all_none}
use Rattle.fr_segment.proofs.Crash.{durable_leaves, stands_leaves}
use Rattle.fr_segment.proofs.FileLemmas.{groups_found, group_split, unique}
use Rattle.fr_segment.proofs.PutLemmas.{content_left}
use Rattle.fr_segment.proofs.ReadLemmas.{left_stands, rest_stands}
use Rattle.fr_segment.proofs.PairRun.{first_moves, second_moves, exchanged}
use Rattle.fr_segment.proofs.TurnsLemmas.{begins_once, never_both, headed_begins, headed_more, own_more, pair_exchanged, first_stands, flight_stands, next_stands, renewed_other}

-- the group that was spelled
pub group_spelled : (number : ℕ) (g : Group) (bytes : List ℕ) → length (body g) < 2 ^ 32 → bytes ≡ behind number g ++ guard (number + 1) → group_of bytes ≡ g
unfolding group_of
group_spelled number g bytes short is =
    let rest = 0 ∷ 0 ∷ guard (number + 1) in
    let whole : 1 ∷ 1 ∷ bytes ≡ groups_from number (g ∷ []) ++ rest =
    ap (λ l. 1 ∷ 1 ∷ l) (is ∙ append_assoc (block number (body g)) (0 ∷ 0 ∷ []) (guard (number + 1))) ∙ sym (group_split number g [] rest) in
    ap (λ gs. get_or gs 0 []) (groups_found (g ∷ []) number (1 ∷ 1 ∷ bytes) rest (all_first (λ (x : Group). length (body x) < 2 ^ 32) g [] short (all_none (λ (x : Group). length (body x) < 2 ^ 32))) whole)

pub some_size : (group : List (Vec ℕ Global)) → 0 < length group → group_size (records_of group) ≡ length (body (records_of group)) + 14
some_size [] some = absurd (omega (arith, some))
some_size (v ∷ vs) some = refl

pub some_there : (group : List (Vec ℕ Global)) → (group ≡ [] → ⊥) → 0 < length group
some_there [] some = absurd (some refl)
some_there (v ∷ vs) some = omega arith

-- a pair that works owes nothing
pub works_owe : (records : List (List ℕ)) (health : Health) → has_failed health ≡ false → owed_by records health ≡ None
works_owe records Works works = refl
works_owe records Failed works = absurd (cc works)
works_owe records (Appending put) works = absurd (cc works)
works_owe records (Replacing put) works = absurd (cc works)

-- whatever a crash leaves stands for the records, or for those owed
pub class_stands : (number : ℕ) (identity : List ℕ) (groups : List Group) (health : Health) → number < 2 ^ 64 → IsHeaded number identity groups → IsFit number identity groups health → (a b : List ℕ) → IsCurrentLeft groups health a
    → IsOtherLeft number identity health b → HasRecords identity (λ rs. (rs ≡ own_records groups) ⊎ (owed_by (own_records groups) health ≡ Some rs)) a b
class_stands number identity groups Works small headed fit a b left older =
    (own_records groups, first_stands number identity groups small headed a b (rest_stands a groups left) older, inl refl)
class_stands number identity groups Failed small headed fit a b left older =
    (own_records groups, first_stands number identity groups small headed a b (rest_stands a groups left) older, inl refl)
class_stands number identity groups (Appending put) small headed fit a b left older =
    let g = group_of put.value.items in
    elim (flight_stands number identity groups small headed a b g fit left older) [
      | inl without ↦ (own_records groups, without, inl refl)
      | inr with_it ↦ (own_records groups ++ g, with_it, inr refl)
    ]
class_stands number identity groups (Replacing put) small headed fit a b left (inl older) =
    (own_records groups, first_stands number identity groups small headed a b (rest_stands a groups left) older, inl refl)
class_stands number identity groups (Replacing put) small headed fit a b left (inr flight) =
    let g = group_of put.value.items in
    elim (next_stands number identity groups small headed a b g fit (rest_stands a groups left) flight) [
      | inl old ↦ (own_records groups, old, inl refl)
      | inr new ↦ (drop 1 g, new, inr refl)
    ]

-- the current file begins with its header whatever a crash leaves
pub current_begins : (number : ℕ) (identity : List ℕ) (groups : List Group) (health : Health) → number < 2 ^ 64 → IsHeaded number identity groups → IsFit number identity groups health → (a : List ℕ) → IsCurrentLeft groups health a
    → BeginsWith number identity a
current_begins number identity groups Works small headed fit a left = headed_begins number identity groups a small headed (rest_stands a groups left)
current_begins number identity groups Failed small headed fit a left = headed_begins number identity groups a small headed (rest_stands a groups left)
current_begins number identity groups (Appending put) small headed fit a left =
    let g = group_of put.value.items in
    elim (left_stands a groups g fit left) [
      | inl without ↦ headed_begins number identity groups a small headed without
      | inr with_it ↦ headed_begins number identity (groups ++ g ∷ []) a small (headed_more number identity groups g headed) with_it
    ]
current_begins number identity groups (Replacing put) small headed fit a left = headed_begins number identity groups a small headed (rest_stands a groups left)

-- what the current file stands for, opened again
pub current_found : (number : ℕ) (identity : List ℕ) (groups found : List Group) (health : Health) → IsHeaded number identity groups → IsFit number identity groups health → (a : List ℕ) → IsCurrentLeft groups health a → StandsFor a found
    → IsHeaded number identity found × ((own_records found ≡ own_records groups) ⊎ (owed_by (own_records groups) health ≡ Some (own_records found)))
current_found number identity groups found Works headed fit a left stands =
    let same = unique a groups found (rest_stands a groups left) stands in (subst (λ gs. IsHeaded number identity gs) (sym same) headed, inl (ap own_records same))
current_found number identity groups found Failed headed fit a left stands =
    let same = unique a groups found (rest_stands a groups left) stands in (subst (λ gs. IsHeaded number identity gs) (sym same) headed, inl (ap own_records same))
current_found number identity groups found (Appending put) headed fit a left stands =
    let g = group_of put.value.items in
    elim (left_stands a groups g fit left) [
      | inl without ↦ let same = unique a groups found without stands in (subst (λ gs. IsHeaded number identity gs) (sym same) headed, inl (ap own_records same))
      | inr with_it ↦
          let same = unique a (groups ++ g ∷ []) found with_it stands in (
            subst (λ gs. IsHeaded number identity gs) (sym same) (headed_more number identity groups g headed),
            inr (ap (λ rs. Some rs) (sym (ap own_records same ∙ own_more number identity groups g headed))),
          )
    ]
current_found number identity groups found (Replacing put) headed fit a left stands =
    let same = unique a groups found (rest_stands a groups left) stands in (subst (λ gs. IsHeaded number identity gs) (sym same) headed, inl (ap own_records same))

-- a newer file on the other device is that of a `replace` in flight
pub record IsNewer (number : ℕ) (identity : List ℕ) (groups : List Group) (health : Health) (n : ℕ) (b : List ℕ) : Type 0 where
  pub g : Group
  pub failed : has_failed health ≡ true
  pub next : n ≡ number + 1
  pub fits : IsNext number identity g
  pub flight : IsLeft [] g b
  pub owed : owed_by (own_records groups) health ≡ Some (drop 1 g)
  pub stands : StandsFor b (g ∷ [])
  pub other : (left : List ℕ) → IsLeft [] g left → IsOtherLeft number identity health left

never_older : (number n : ℕ) (identity b : List ℕ) → BeginsWith n identity b → number < n → IsOlder number identity b → ⊥
never_older number n identity b begins greater (inl nothing) = never_both n identity b begins nothing
never_older number n identity b begins greater (inr older) = let same = begins_once n older.0 identity identity b begins older.2 in omega (arith, same.0, older.1, greater)

pub other_newer : (number n : ℕ) (identity : List ℕ) (groups : List Group) (health : Health) → IsFit number identity groups health → (b : List ℕ) → IsOtherLeft number identity health b → BeginsWith n identity b → number < n
    → IsNewer number identity groups health n b
other_newer number n identity groups Works fit b older begins greater = absurd (never_older number n identity b begins greater older)
other_newer number n identity groups Failed fit b older begins greater = absurd (never_older number n identity b begins greater older)
other_newer number n identity groups (Appending put) fit b older begins greater = absurd (never_older number n identity b begins greater older)
other_newer number n identity groups (Replacing put) fit b (inl older) begins greater = absurd (never_older number n identity b begins greater older)
other_newer number n identity groups (Replacing put) fit b (inr flight) begins greater =
    let g = group_of put.value.items in
    let there : StandsFor b (g ∷ []) = elim (left_stands b [] g fit.short flight) [
      | inl none ↦ absurd (never_both n identity b begins (let e = ap length none.1 in omega (arith, e), (ap (λ l. get_or l 0 1) none.1, ap (λ l. get_or l 1 1) none.1)))
      | inr it ↦ it
    ] in
    let same = begins_once n (number + 1) identity identity b begins (headed_begins (number + 1) identity (g ∷ []) b fit.small fit.headed there) in
    record { g = g; failed = refl; next = same.0; fits = fit; flight = flight; owed = refl; stands = there; other = λ left it. inr it }

-- ---- ways
module _ {D : Type 0} (Led : D → D → Type 0) (disk : D → Disk) (current : SegmentFile D) (other : D) (number : ℕ) (identity : List ℕ) (health : Health) where
  abbrev pub state : TurnsFile D
  state = record { current = current.device; other = other; groups = current.groups; number = number; identity = identity; health = health }

  module _ (it : AreInTurn disk current other number identity health) where
    -- whatever a crash leaves now
    pub leaves_either : LeavesBoth Led disk (HasRecords identity (λ rs. (rs ≡ own_records current.groups) ⊎ (owed_by (own_records current.groups) health ≡ Some rs))) (current.device, other)
    leaves_either a b left_a left_b = class_stands number identity current.groups health it.small it.headed it.fit a b (it.current_left a left_a) (it.other_left b left_b)

    pub either_way : IsWay Led disk (λ rs. (rs ≡ own_records current.groups) ⊎ (owed_by (own_records current.groups) health ≡ Some rs)) state state
    either_way = record { owner = refl; run = begun Led disk (HasRecords identity (λ rs. (rs ≡ own_records current.groups) ⊎ (owed_by (own_records current.groups) health ≡ Some rs))) (current.device, other) leaves_either }

    -- while it works they are the records
    pub works_left : has_failed health ≡ false → ((left : List ℕ) → MayLeave (disk current.device) left → IsAtRest current.groups left) × ((left : List ℕ) → MayLeave (disk other) left → IsOlder number identity left)
    works_left works = go health works it.current_left it.other_left
      where
        go : (h : Health) → has_failed h ≡ false → ((left : List ℕ) → MayLeave (disk current.device) left → IsCurrentLeft current.groups h left) → ((left : List ℕ) → MayLeave (disk other) left → IsOtherLeft number identity h left)
            → ((left : List ℕ) → MayLeave (disk current.device) left → IsAtRest current.groups left) × ((left : List ℕ) → MayLeave (disk other) left → IsOlder number identity left)
        go Works e one two = (one, two)
        go Failed e one two = absurd (cc e)
        go (Appending put) e one two = absurd (cc e)
        go (Replacing put) e one two = absurd (cc e)

    pub works_stand : has_failed health ≡ false → (a b : List ℕ) → IsAtRest current.groups a → IsOlder number identity b → HasRecords identity (λ rs. rs ≡ own_records current.groups) a b
    works_stand works a b rest older = (own_records current.groups, first_stands number identity current.groups it.small it.headed a b (rest_stands a current.groups rest) older, refl)

    pub resting : has_failed health ≡ false → IsWay Led disk (λ rs. rs ≡ own_records current.groups) state state
    resting works =
        let left = works_left works in
        record { owner = refl; run = begun Led disk (HasRecords identity (λ rs. rs ≡ own_records current.groups)) (current.device, other) (λ a b left_a left_b. works_stand works a b (left.0 a left_a) (left.1 b left_b)) }

    -- and so whatever else they may be
    pub resting_either : has_failed health ≡ false → (Q : List (List ℕ) → Type 0) → IsWay Led disk (λ rs. (rs ≡ own_records current.groups) ⊎ Q rs) state state
    resting_either works Q = way_weaker Led disk (λ rs. rs ≡ own_records current.groups) (λ rs. (rs ≡ own_records current.groups) ⊎ Q rs) state state (λ rs is. inl is) (resting works)

    -- a read
    pub read_way : has_failed health ≡ false → (last : TurnsFile D) → last.identity ≡ identity → last.other ≡ other → Throughout Led disk (MayLeave (disk current.device)) current.device last.current
        → IsWay Led disk (λ rs. rs ≡ own_records current.groups) state last
    read_way works last owner same run =
        let left = works_left works in
        record {
          owner = owner;
          run = subst (λ d. PairThroughout Led disk (HasRecords identity (λ rs. rs ≡ own_records current.groups)) (current.device, other) (last.current, d)) (sym same)
              (first_moves Led disk (MayLeave (disk current.device)) (IsOlder number identity) (HasRecords identity (λ rs. rs ≡ own_records current.groups)) (λ a b may older. works_stand works a b (left.0 a may) older)
              current.device last.current other left.1 run);
        }

    -- a group put behind the current file
    pub append_way : has_failed health ≡ false → (g : Group) → AreShort (current.groups ++ g ∷ []) → (last : TurnsFile D) → last.identity ≡ identity → last.other ≡ other → Throughout Led disk (IsLeft current.groups g) current.device last.current
        → IsWay Led disk (λ rs. (rs ≡ own_records current.groups) ⊎ (rs ≡ own_records current.groups ++ g)) state last
    append_way works g short last owner same run =
        let left = works_left works in
        let P : List (List ℕ) → Type 0 = λ rs. (rs ≡ own_records current.groups) ⊎ (rs ≡ own_records current.groups ++ g) in
        let either : (a b : List ℕ) → IsLeft current.groups g a → IsOlder number identity b → HasRecords identity P a b = λ a b flight older. elim (flight_stands number identity current.groups it.small it.headed a b g short flight older) [
          | inl without ↦ (own_records current.groups, without, inl refl)
          | inr with_it ↦ (own_records current.groups ++ g, with_it, inr refl)
        ] in
        record {
          owner = owner;
          run = subst (λ d. PairThroughout Led disk (HasRecords identity P) (current.device, other) (last.current, d)) (sym same)
              (first_moves Led disk (IsLeft current.groups g) (IsOlder number identity) (HasRecords identity P) either current.device last.current other left.1 run);
        }

    -- the other file begun anew
    module _ (works : has_failed health ≡ false) (g : Group) (next : IsNext number identity g) (new : List ℕ) (new_is : new ≡ behind 0 g ++ guard 1) where
      abbrev Either : List (List ℕ) → Type 0
      Either rs = (rs ≡ own_records current.groups) ⊎ (rs ≡ drop 1 g)

      older_now : IsOlder number identity (disk other).content
      older_now = (works_left works).1 (disk other).content (content_left (disk other))

      either_file : (a b : List ℕ) → IsAtRest current.groups a → IsRenewed (disk other).content new b → HasRecords identity Either a b
      either_file a b rest renewed = elim (renewed_other number identity (disk other).content new b g new_is older_now renewed) [
        | inl older ↦ (own_records current.groups, first_stands number identity current.groups it.small it.headed a b (rest_stands a current.groups rest) older, inl refl)
        | inr flight ↦ elim (next_stands number identity current.groups it.small it.headed a b g next (rest_stands a current.groups rest) flight) [
          | inl old ↦ (own_records current.groups, old, inl refl)
          | inr begun_anew ↦ (drop 1 g, begun_anew, inr refl)
        ]
      ]

      renewed_run : (last : D) → Throughout Led disk (IsRenewed (disk other).content new) other last → PairThroughout Led disk (HasRecords identity Either) (current.device, other) (current.device, last)
      renewed_run last run =
          second_moves Led disk (IsAtRest current.groups) (IsRenewed (disk other).content new) (HasRecords identity Either) either_file current.device other last (works_left works).0 run

      -- broken off: the current file stays
      pub renew_way : (last : TurnsFile D) → last.identity ≡ identity → last.current ≡ current.device → Throughout Led disk (IsRenewed (disk other).content new) other last.other → IsWay Led disk Either state last
      renew_way last owner same run = record {
        owner = owner;
        run = subst (λ d. PairThroughout Led disk (HasRecords identity Either) (current.device, other) (d, last.other)) (sym same) (renewed_run last.other run);
      }

      -- done: it is current
      pub turned_way : (last : TurnsFile D) → last.identity ≡ identity → last.other ≡ current.device → Throughout Led disk (IsRenewed (disk other).content new) other last.current → IsWay Led disk Either state last
      turned_way last owner same run = record {
        owner = owner;
        run = subst (λ d. PairThroughout Led disk (HasRecords identity Either) (current.device, other) (last.current, d)) (sym same)
            (exchanged Led disk (HasRecords identity Either) (λ a b has. (has.0, pair_exchanged identity has.0 a b has.1, has.2)) (current.device, other) current.device last.current (renewed_run last.current run));
      }

      -- what a crash leaves of the other device then
      pub renewed_left : (last : D) → LeavesOnly Led disk (IsRenewed (disk other).content new) last → (left : List ℕ) → MayLeave (disk last) left → IsOlder number identity left ⊎ IsLeft [] g left
      renewed_left last leaves left may = renewed_other number identity (disk other).content new left g new_is older_now (leaves left may)

    -- and of the one that was current
    pub older_left : has_failed health ≡ false → number + 1 < 2 ^ 64 → (left : List ℕ) → MayLeave (disk current.device) left → IsOlder (number + 1) identity left
    older_left works small left may =
        inr (number, omega arith, headed_begins number identity current.groups left it.small it.headed (rest_stands left current.groups ((works_left works).0 left may)))
