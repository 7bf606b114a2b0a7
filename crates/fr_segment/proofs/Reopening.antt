-- Two files in turn, opened again.
use Rattle.std.proofs.Common.{◌≡◌, ◌⊎◌, inl, inr, ℕ, ◌+◌, ◌<◌, true, false, List, [], ◌∷◌, ◌++◌, length, get_or, drop, Some, refl, sym, ap, ◌∙◌, subst, arith}
use Rattle.std.proofs.lemmas.List.{append-nil}
use Rattle.fr_record.specs.Disk.{Disk, MayLeave, IsDurable, Stands}
use Rattle.fr_record.specs.Moments.{LeavesOnly, Throughout}
use Rattle.fr_segment.specs.declared.first.First.{First}
use Rattle.fr_segment.specs.declared.first.First.TheVariants.{Missing, Closed, File}
use Rattle.fr_segment.specs.declared.first.Turn.{Turn}
use Rattle.fr_segment.specs.declared.first.Turn.TheVariants.{Former, Latter}
use Rattle.fr_segment.specs.declared.health.Health.{Health}
use Rattle.fr_segment.specs.declared.health.Health.TheVariants.{Works, Failed, Appending, Replacing}
use Rattle.fr_segment.specs.File.{Group, AreShort, StandsFor, IsLeft, IsAtRest}
use Rattle.fr_segment.specs.First.{IsBelow, IsTurn}
use Rattle.fr_segment.specs.Health.{group_of, has_failed, failed_now, owed_by, IsFit, IsCurrentLeft, IsOtherLeft, AreInTurn}
use Rattle.fr_segment.specs.Pair.{PairThroughout}
use Rattle.fr_segment.specs.PairLaws.{chained}
use Rattle.fr_segment.specs.State.{SegmentFile}
use Rattle.fr_segment.specs.Turns.{IsHeaded, own_records, BeginsWith, HoldsNothing, IsOlder, IsForeign}
use Rattle.fr_segment.specs.Way.{TurnsFile, HasRecords, IsWay}
use Rattle.fr_segment.proofs.Crash.{durable_leaves, stands_leaves}
use Rattle.fr_segment.proofs.FileLemmas.{unique}
use Rattle.fr_segment.proofs.FirstLemmas.{same_file, first_is, first_closed, below_older}
use Rattle.fr_segment.proofs.InTurn.{state, class_stands, current_begins, current_found, IsNewer, other_newer}
use Rattle.fr_segment.proofs.NextTurn.{read_failed}
use Rattle.fr_segment.proofs.PairRun.{first_moves, second_moves, exchanged}
use Rattle.fr_segment.proofs.PutLemmas.{content_left}
use Rattle.fr_segment.proofs.ReadLemmas.{left_stands, rest_stands}
use Rattle.fr_segment.proofs.TurnsLemmas.{headed_begins, pair_exchanged}

-- what the other device begins with
abbrev pub BeginsSome : ℕ → List ℕ → List ℕ → Type 0
BeginsSome number identity b = HoldsNothing b ⊎ ((n : ℕ) × ((n < number) ⊎ (number < n)) × BeginsWith n identity b)

older_begins : (number : ℕ) (identity b : List ℕ) → IsOlder number identity b → BeginsSome number identity b
older_begins number identity b (inl nothing) = inl nothing
older_begins number identity b (inr older) = inr (older.0, inl older.1, older.2)

nothing_there : (b : List ℕ) → StandsFor b [] → HoldsNothing b
nothing_there b none = (let e = ap length none.1 in omega (arith, e), (ap (λ l. get_or l 0 1) none.1, ap (λ l. get_or l 1 1) none.1))

pub other_begins : (number : ℕ) (identity : List ℕ) (groups : List Group) (health : Health) → IsFit number identity groups health → (b : List ℕ) → IsOtherLeft number identity health b → BeginsSome number identity b
other_begins number identity groups Works fit b older = older_begins number identity b older
other_begins number identity groups Failed fit b older = older_begins number identity b older
other_begins number identity groups (Appending put) fit b older = older_begins number identity b older
other_begins number identity groups (Replacing put) fit b (inl older) = older_begins number identity b older
other_begins number identity groups (Replacing put) fit b (inr flight) =
    let g = group_of put.value.items in
    elim (left_stands b [] g fit.short flight) [
      | inl none ↦ inl (nothing_there b none)
      | inr it ↦ inr (number + 1, inr (omega arith), headed_begins (number + 1) identity (g ∷ []) b fit.small fit.headed it)
    ]

-- a fault of a call that puts nothing leaves what is owed
pub owed_still : (records : List (List ℕ)) (health : Health) → owed_by records (failed_now health) ≡ owed_by records health
owed_still records Works = refl
owed_still records Failed = refl
owed_still records (Appending put) = refl
owed_still records (Replacing put) = refl

pub failed_has : (health : Health) → has_failed (failed_now health) ≡ true
failed_has Works = refl
failed_has Failed = refl
failed_has (Appending put) = refl
failed_has (Replacing put) = refl

-- of the same bytes it is so too
pub older_same : (m n : ℕ) (i j a b : List ℕ) → n ≡ m → j ≡ i → b ≡ a → IsOlder m i a → IsOlder n j b
older_same m n i j a b number identity content older =
    subst (λ (k : ℕ). IsOlder k j b) (sym number) (subst (λ l. IsOlder m l b) (sym identity) (subst (λ l. IsOlder m i l) (sym content) older))

pub begins_same : (n : ℕ) (i j a b : List ℕ) → j ≡ i → b ≡ a → BeginsWith n i a → BeginsWith n j b
begins_same n i j a b identity content begins = subst (λ l. BeginsWith n l b) (sym identity) (subst (λ l. BeginsWith n i l) (sym content) begins)

module _ {D : Type 0} (Led : D → D → Type 0) (disk : D → Disk) (current : SegmentFile D) (other : D) (number : ℕ) (identity : List ℕ) (health : Health) (it : AreInTurn disk current other number identity health) where
  -- ---- which is current
  pub now_begins : BeginsWith number identity (disk current.device).content
  now_begins = current_begins number identity current.groups health it.small it.headed it.fit (disk current.device).content (it.current_left (disk current.device).content (content_left (disk current.device)))

  other_now : BeginsSome number identity (disk other).content
  other_now = other_begins number identity current.groups health it.fit (disk other).content (it.other_left (disk other).content (content_left (disk other)))

  -- neither device is a stranger's
  pub own_current : IsForeign identity (disk current.device).content → ⊥
  own_current foreign = foreign.1 number now_begins

  pub own_other : IsForeign identity (disk other).content → ⊥
  own_other foreign = elim other_now [
    | inl nothing ↦ foreign.0 nothing
    | inr begun ↦ foreign.1 begun.0 begun.2
  ]

  module _ (former : First) (is : former ≡ File number) (latter : First) (missing : latter ≡ Missing → length (disk other).content < 2) (closed : latter ≡ Closed → HoldsNothing (disk other).content) (file : (n : ℕ) → latter ≡ File n → BeginsWith n identity (disk other).content) where
    -- one of the two is current
    pub one_turn : ((turn : Turn) → IsTurn former latter turn → ⊥) → ⊥
    one_turn never = elim other_now [
      | inl nothing ↦
          let e : latter ≡ Closed = first_closed identity (disk other).content nothing latter missing file in
          never (Former number) (is, subst (λ f. IsBelow number f) (sym e) tt)
      | inr begun ↦
          let e : latter ≡ File begun.0 = first_is begun.0 identity (disk other).content begun.2 latter missing closed file in
          elim begun.1 [
            | inl below ↦ never (Former number) (is, subst (λ f. IsBelow number f) (sym e) below)
            | inr above ↦ never (Latter begun.0) (e, subst (λ f. IsBelow begun.0 f) (sym is) above)
          ]
    ]

    pub turn_former : (turn : Turn) → IsTurn former latter turn → (n : ℕ) → turn ≡ Former n → IsOlder number identity (disk other).content
    turn_former turn which n e =
        let t : (former ≡ File n) × IsBelow n latter = subst (λ x. IsTurn former latter x) e which in
        let same : number ≡ n = same_file number n (sym is ∙ t.0) in
        subst (λ (k : ℕ). IsOlder k identity (disk other).content) (sym same) (below_older n identity (disk other).content latter t.1 closed file)

    pub turn_latter : (turn : Turn) → IsTurn former latter turn → (n : ℕ) → turn ≡ Latter n → BeginsWith n identity (disk other).content × (number < n) × BeginsWith number identity (disk current.device).content
    turn_latter turn which n e =
        let t : (latter ≡ File n) × IsBelow n former = subst (λ x. IsTurn former latter x) e which in
        let above : number < n = subst (λ f. IsBelow n f) is t.1 in
        (file n t.0, above, now_begins)

  -- ---- ways
  abbrev Either : List (List ℕ) → Type 0
  Either rs = (rs ≡ own_records current.groups) ⊎ (owed_by (own_records current.groups) health ≡ Some rs)

  either_stands : (a b : List ℕ) → IsCurrentLeft current.groups health a → IsOtherLeft number identity health b → HasRecords identity Either a b
  either_stands a b left_a left_b = class_stands number identity current.groups health it.small it.headed it.fit a b left_a left_b

  -- a read of the current device, then one of the other
  read_run : (last : D) → Throughout Led disk (MayLeave (disk current.device)) current.device last → PairThroughout Led disk (HasRecords identity Either) (current.device, other) (last, other)
  read_run last run =
      first_moves Led disk (MayLeave (disk current.device)) (IsOtherLeft number identity health) (HasRecords identity Either) (λ a b may left. either_stands a b (it.current_left a may) left) current.device last other it.other_left run

  pub once_read : (last : TurnsFile D) → last.identity ≡ identity → last.other ≡ other → Throughout Led disk (MayLeave (disk current.device)) current.device last.current → IsWay Led disk Either (state Led disk current other number identity health) last
  once_read last owner same run = record {
    owner = owner;
    run = subst (λ d. PairThroughout Led disk (HasRecords identity Either) (current.device, other) (last.current, d)) (sym same) (read_run last.current run);
  }

  pub both_read : (middle : D) → Throughout Led disk (MayLeave (disk current.device)) current.device middle → Stands (disk current.device) (disk middle) → (last : TurnsFile D) → last.identity ≡ identity → last.current ≡ middle
      → Throughout Led disk (MayLeave (disk other)) other last.other → IsWay Led disk Either (state Led disk current other number identity health) last
  both_read middle first stands last owner same run = record {
    owner = owner;
    run = subst (λ d. PairThroughout Led disk (HasRecords identity Either) (current.device, other) (d, last.other)) (sym same)
        (chained Led disk (HasRecords identity Either) (current.device, other) (middle, other) (middle, last.other) (read_run middle first)
        (second_moves Led disk (IsCurrentLeft current.groups health) (MayLeave (disk other)) (HasRecords identity Either) (λ a b left may. either_stands a b left (it.other_left b may)) middle other last.other (λ left may. it.current_left left (stands_leaves (disk current.device) (disk middle) left stands may)) run));
  }

  -- ---- the current file opened again
  -- what a crash may leave of it meanwhile
  pub reopened_run : (last : D) → ((before : List Group) (g : Group) → AreShort (before ++ g ∷ []) → LeavesOnly Led disk (IsLeft before g) current.device → Throughout Led disk (IsLeft before g) current.device last)
      → ((before : List Group) → LeavesOnly Led disk (IsAtRest before) current.device → Throughout Led disk (IsAtRest before) current.device last) → Throughout Led disk (IsCurrentLeft current.groups health) current.device last
  reopened_run last in_flight at_rest = go health it.fit it.current_left
    where
      go : (h : Health) → IsFit number identity current.groups h → LeavesOnly Led disk (IsCurrentLeft current.groups h) current.device → Throughout Led disk (IsCurrentLeft current.groups h) current.device last
      go Works fit left = at_rest current.groups left
      go Failed fit left = at_rest current.groups left
      go (Appending put) fit left = in_flight current.groups (group_of put.value.items) fit left
      go (Replacing put) fit left = at_rest current.groups left

  pub reopened_way : (last : TurnsFile D) → last.identity ≡ identity → last.other ≡ other → Throughout Led disk (IsCurrentLeft current.groups health) current.device last.current → IsWay Led disk Either (state Led disk current other number identity health) last
  reopened_way last owner same run = record {
    owner = owner;
    run = subst (λ d. PairThroughout Led disk (HasRecords identity Either) (current.device, other) (last.current, d)) (sym same)
        (first_moves Led disk (IsCurrentLeft current.groups health) (IsOtherLeft number identity health) (HasRecords identity Either) either_stands current.device last.current other it.other_left run);
  }

  -- it is a file
  pub current_stands : ((gs : List Group) → StandsFor (disk current.device).content gs → ⊥) → ⊥
  current_stands never = go health it.fit (it.current_left (disk current.device).content (content_left (disk current.device)))
    where
      go : (h : Health) → IsFit number identity current.groups h → IsCurrentLeft current.groups h (disk current.device).content → ⊥
      go Works fit left = never current.groups (rest_stands (disk current.device).content current.groups left)
      go Failed fit left = never current.groups (rest_stands (disk current.device).content current.groups left)
      go (Replacing put) fit left = never current.groups (rest_stands (disk current.device).content current.groups left)
      go (Appending put) fit left =
          let g = group_of put.value.items in
          elim (left_stands (disk current.device).content current.groups g fit left) [
            | inl without ↦ never current.groups without
            | inr with_it ↦ never (current.groups ++ g ∷ []) with_it
          ]

  -- a refusal
  pub reopen_refused : (last : SegmentFile D) → last.groups ≡ current.groups → last.is_failed ≡ current.is_failed → LeavesOnly Led disk (IsCurrentLeft current.groups health) last.device → AreInTurn disk last other number identity health
  reopen_refused last same flag leaves = record {
    small = it.small;
    brief = it.brief;
    headed = subst (λ gs. IsHeaded number identity gs) (sym same) it.headed;
    fit = subst (λ gs. IsFit number identity gs health) (sym same) it.fit;
    works = λ works. flag ∙ it.works works;
    durable = it.durable;
    current_left = λ left may. subst (λ gs. IsCurrentLeft gs health left) (sym same) (leaves left may);
    other_left = it.other_left;
  }

  pub reopen_failed : (last : SegmentFile D) → last.groups ≡ current.groups → LeavesOnly Led disk (IsCurrentLeft current.groups health) last.device → AreInTurn disk last other number identity (failed_now health)
  reopen_failed last same leaves =
      let unfailed : SegmentFile D = record { device = last.device; groups = last.groups; is_failed = current.is_failed } in
      read_failed Led disk unfailed other number identity health (reopen_refused unfailed same refl leaves) last refl (λ left may. may) other (λ left may. may)

  module _ (older : IsOlder number identity (disk other).content) (durable : IsDurable (disk other)) where
    older_left : (left : List ℕ) → MayLeave (disk other) left → IsOlder number identity left
    older_left left may = subst (λ l. IsOlder number identity l) (sym (durable_leaves (disk other) left durable may)) older

    module _ (last : SegmentFile D) (stands : StandsFor (disk current.device).content last.groups) where
      found_now : IsHeaded number identity last.groups × ((own_records last.groups ≡ own_records current.groups) ⊎ (owed_by (own_records current.groups) health ≡ Some (own_records last.groups)))
      found_now = current_found number identity current.groups last.groups health it.headed it.fit (disk current.device).content (it.current_left (disk current.device).content (content_left (disk current.device))) stands

      pub reopened_records : (own_records last.groups ≡ own_records current.groups) ⊎ (owed_by (own_records current.groups) health ≡ Some (own_records last.groups))
      reopened_records = found_now.1

      pub reopened : last.is_failed ≡ false → LeavesOnly Led disk (IsAtRest last.groups) last.device → AreInTurn disk last other number identity Works
      reopened flag rests = record {
        small = it.small;
        brief = it.brief;
        headed = found_now.0;
        fit = tt;
        works = λ works. flag;
        durable = λ works. durable;
        current_left = rests;
        other_left = older_left;
      }

  -- ---- the next file on the other device
  module _ (n : ℕ) (begins : BeginsWith n identity (disk other).content) (greater : number < n) where
    pub newer_now : IsNewer number identity current.groups health n (disk other).content
    newer_now = other_newer number n identity current.groups health it.fit (disk other).content (it.other_left (disk other).content (content_left (disk other))) begins greater

    pub other_flight : IsDurable (disk other) → LeavesOnly Led disk (IsLeft [] newer_now.g) other
    other_flight durable left may = subst (λ l. IsLeft [] newer_now.g l) (sym (durable_leaves (disk other) left durable may)) newer_now.flight

    pub other_stands : ((gs : List Group) → StandsFor (disk other).content gs → ⊥) → ⊥
    other_stands never = never (newer_now.g ∷ []) newer_now.stands

    flight_run : (last : D) → Throughout Led disk (IsLeft [] newer_now.g) other last → PairThroughout Led disk (HasRecords identity Either) (current.device, other) (current.device, last)
    flight_run last run =
        second_moves Led disk (IsCurrentLeft current.groups health) (IsLeft [] newer_now.g) (HasRecords identity Either) (λ a b left flight. either_stands a b left (newer_now.other b flight)) current.device other last it.current_left run

    -- a refusal
    pub over_refused_way : (last : TurnsFile D) → last.identity ≡ identity → last.current ≡ current.device → Throughout Led disk (IsLeft [] newer_now.g) other last.other → IsWay Led disk Either (state Led disk current other number identity health) last
    over_refused_way last owner same run = record {
      owner = owner;
      run = subst (λ d. PairThroughout Led disk (HasRecords identity Either) (current.device, other) (d, last.other)) (sym same) (flight_run last.other run);
    }

    pub over_refused : (last : SegmentFile D) → last ≡ current → (beside : D) → LeavesOnly Led disk (IsLeft [] newer_now.g) beside → AreInTurn disk last beside number identity health
    over_refused last same beside leaves =
        subst (λ s. AreInTurn disk s beside number identity health) (sym same) (record {
          small = it.small;
          brief = it.brief;
          headed = it.headed;
          fit = it.fit;
          works = it.works;
          durable = λ works. let failed = newer_now.failed in absurd (cc (works, failed));
          current_left = it.current_left;
          other_left = λ left may. newer_now.other left (leaves left may);
        })

    -- it is current then
    pub over_way : (last : TurnsFile D) → last.identity ≡ identity → last.other ≡ current.device → Throughout Led disk (IsLeft [] newer_now.g) other last.current → IsWay Led disk Either (state Led disk current other number identity health) last
    over_way last owner same run = record {
      owner = owner;
      run = subst (λ d. PairThroughout Led disk (HasRecords identity Either) (current.device, other) (last.current, d)) (sym same)
          (exchanged Led disk (HasRecords identity Either) (λ a b has. (has.0, pair_exchanged identity has.0 a b has.1, has.2)) (current.device, other) current.device last.current (flight_run last.current run));
    }

    module _ (last : SegmentFile D) (stands : StandsFor (disk other).content last.groups) where
      found_other : last.groups ≡ newer_now.g ∷ []
      found_other = unique (disk other).content (newer_now.g ∷ []) last.groups newer_now.stands stands

      pub over_owed : owed_by (own_records current.groups) health ≡ Some (own_records last.groups)
      over_owed = newer_now.owed ∙ ap (λ rs. Some rs) (sym (ap own_records found_other ∙ ap (λ rs. drop 1 rs) (append-nil newer_now.g)))

      pub over : last.is_failed ≡ false → LeavesOnly Led disk (IsAtRest last.groups) last.device → (beside : D) → beside ≡ current.device → IsDurable (disk current.device) → BeginsWith number identity (disk current.device).content → AreInTurn disk last beside n identity Works
      over flag rests beside turned durable older = record {
        small = let s = newer_now.fits.small in let e = newer_now.next in omega (arith, s, e);
        brief = it.brief;
        headed = subst (λ (k : ℕ). IsHeaded k identity last.groups) (sym newer_now.next) (subst (λ gs. IsHeaded (number + 1) identity gs) (sym found_other) newer_now.fits.headed);
        fit = tt;
        works = λ works. flag;
        durable = λ works. subst (λ d. IsDurable (disk d)) (sym turned) durable;
        current_left = rests;
        other_left = λ left may. inr (number, greater, subst (λ l. BeginsWith number identity l) (sym (durable_leaves (disk current.device) left durable (subst (λ d. MayLeave (disk d) left) turned may))) older);
      }
