-- What a file opens to, at rest and while a group is in flight.
use Rattle.std.proofs.Common.{◌≡◌, ◌⊎◌, inl, inr, ℕ, ◌<◌, ◌≤◌, List, [], ◌∷◌, ◌++◌, length, refl, sym, ap, ◌∙◌, subst, arith, length-append, Vec}
use Rattle.std.specs.Prelude.{◌^◌, Option, Some, fold, All, zero, suc, Result, Ok, Err, OnOk, OnErr}
use Rattle.std.specs.declared.alloc.Global.{Global}
use Rattle.std.proofs.lemmas.List.{append-nil}
use Rattle.std.proofs.lemmas.List.Sums.{fold-append}
use Rattle.std.proofs.lemmas.List.Elements.{All-append}
use Rattle.fr_record.specs.Disk.{Disk, MayLeave}
use Rattle.fr_record.specs.Moments.{LeavesOnly, Run, Throughout}
use Rattle.fr_record.specs.File.{AreShort, StandsFor, IsLeft, IsAtRest}
use Rattle.fr_record.specs.Group.{records_of}
use Rattle.fr_record.specs.Laws.{OneList, WholeOrNot, RestStands}
use Rattle.fr_record_node.specs.Replay.{replayed, next_replayed, Opens}
use Rattle.fr_base.specs.declared.node.NodeFault.TheVariants as node
use Rattle.fr_record.specs.declared.fault.RecordFault.{RecordFault}
use Rattle.fr_record.specs.declared.fault.RecordFault.TheVariants.{Device, Full, Failed, Memory, Broken}
use Rattle.fr_record_node.specs.Node.{InFlight, node_fault}

pub content_left : (disk : Disk) → MayLeave disk disk.content
content_left disk = record { no_shorter = omega arith; no_longer = omega arith; same = λ i h k. refl }

-- moments: the first, a weaker fact at each, the last
module _ {D : Type 0} (Led : D → D → Type 0) (disk : D → Disk) where
  pub started : (P : List ℕ → Type 0) (device : D) → LeavesOnly Led disk P device → Throughout Led disk P device device
  started P device here = ([], (refl, here))

  weaker_run : (P Q : List ℕ → Type 0) → ((left : List ℕ) → P left → Q left) → (first : D) (moments : List D) (last : D) → Run Led disk P first moments last → Run Led disk Q first moments last
  weaker_run P Q weakens first [] last run = (run.0, λ left may. weakens left (run.1 left may))
  weaker_run P Q weakens first (before ∷ earlier) last run = (weaker_run P Q weakens first earlier before run.0, run.1, λ left may. weakens left (run.2 left may))

  pub weaker : (P Q : List ℕ → Type 0) → ((left : List ℕ) → P left → Q left) → (first last : D) → Throughout Led disk P first last → Throughout Led disk Q first last
  weaker P Q weakens first last all = (all.0, weaker_run P Q weakens first all.0 last all.1)

  pub at_last : (P : List ℕ → Type 0) (first last : D) → Throughout Led disk P first last → LeavesOnly Led disk P last
  at_last P first last ([], run) = subst (λ d. LeavesOnly Led disk P d) (sym run.0) run.1
  at_last P first last (before ∷ earlier, run) = run.2

  -- opening a file again keeps what a crash leaves, a group in flight or none
  pub reopened : (first last : D) (before group : List (List ℕ))
      → ((r : List ℕ) (rs : List (List ℕ)) → AreShort (before ++ r ∷ rs) → LeavesOnly Led disk (IsLeft before (r ∷ rs)) first → Throughout Led disk (IsLeft before (r ∷ rs)) first last)
      → (LeavesOnly Led disk (IsAtRest before) first → Throughout Led disk (IsAtRest before) first last)
      → LeavesOnly Led disk (InFlight before group) first → Throughout Led disk (InFlight before group) first last
  reopened first last before [] moving resting leaves = resting leaves
  reopened first last before (r ∷ rs) moving resting leaves =
      let short = (leaves (disk first).content (content_left (disk first))).0 in
      weaker (IsLeft before (r ∷ rs)) (InFlight before (r ∷ rs)) (λ left is. (short, is)) first last (moving r rs short (λ left may. (leaves left may).1))

  -- what is left of a group that is put after a file at rest
  pub put_flight : (first last : D) (before group : List (List ℕ)) → (group ≡ [] → ⊥) → AreShort group → LeavesOnly Led disk (IsAtRest before) first
      → Throughout Led disk (IsLeft before group) first last → Throughout Led disk (InFlight before group) first last
  put_flight first last before [] some short rest moments = absurd (some refl)
  put_flight first last before (r ∷ rs) some short rest moments =
      let all : AreShort (before ++ r ∷ rs) = All-append (λ (x : List ℕ). length x < 2 ^ 32) before (r ∷ rs) (rest (disk first).content (content_left (disk first))).short short in
      weaker (IsLeft before (r ∷ rs)) (InFlight before (r ∷ rs)) (λ left is. (all, is)) first last moments

-- what a file with a group in flight stands for
module _ (one_list : OneList) (whole_or_not : WholeOrNot) (rest_stands : RestStands) where
  pub flight_stands : (before group : List (List ℕ)) (file : List ℕ) → InFlight before group file → StandsFor file before ⊎ StandsFor file (before ++ group)
  flight_stands before [] file rest = inl (rest_stands file before rest)
  flight_stands before (r ∷ rs) file flight = whole_or_not file before r rs flight.0 flight.1

  pub found : (before group now : List (List ℕ)) (file : List ℕ) → InFlight before group file → StandsFor file now → (now ≡ before) ⊎ (now ≡ before ++ group)
  found before group now file flight stands = elim (flight_stands before group file flight) [
    | inl without ↦ inl (one_list file before now without stands)
    | inr whole ↦ inr (one_list file (before ++ group) now whole stands)
  ]

  pub found_more : (before group now : List (List ℕ)) (file : List ℕ) → InFlight before group file → StandsFor file now → length before < length now → now ≡ before ++ group
  found_more before group now file flight stands more = elim (found before group now file flight stands) [
    | inl same ↦ (let e = ap length same in absurd (omega (arith, e, more)))
    | inr whole ↦ whole
  ]

  pub found_same : (before group now : List (List ℕ)) (file : List ℕ) → InFlight before group file → StandsFor file now → length now ≤ length before → now ≡ before
  found_same before [] now file flight stands less = elim (found before [] now file flight stands) [
    | inl same ↦ same
    | inr whole ↦ whole ∙ append-nil before
  ]
  found_same before (r ∷ rs) now file flight stands less = elim (found before (r ∷ rs) now file flight stands) [
    | inl same ↦ same
    | inr whole ↦ (let e = ap length whole in absurd (omega (arith, e, less, length-append before (r ∷ rs))))
  ]

-- what it opens to
module _ {M : Type 0} (replay : M → List ℕ → Option M) (fresh : M) (before : List (List ℕ)) (m : M) (replays : replayed replay (Some fresh) before ≡ Some m) where
  pub replays_more : (group : List (List ℕ)) (n : M) → replayed replay (Some m) group ≡ Some n → replayed replay (Some fresh) (before ++ group) ≡ Some n
  replays_more group n goes = fold-append (next_replayed replay) (Some fresh) before group ∙ ap (λ o. fold (next_replayed replay) o group) replays ∙ goes

  module _ (P : M → Type 0) (here : P m) where
    pub rest_opens : RestStands → (left : List ℕ) → IsAtRest before left → Opens replay fresh P left
    rest_opens rest_stands left rest = record { records = before; state = m; stands = rest_stands left before rest; replays = replays; holds = here }

    pub flight_opens : WholeOrNot → RestStands → (group : List (List ℕ)) (n : M) → replayed replay (Some m) group ≡ Some n → P n → (left : List ℕ) → InFlight before group left → Opens replay fresh P left
    flight_opens whole_or_not rest_stands [] n goes there left rest = rest_opens rest_stands left rest
    flight_opens whole_or_not rest_stands (r ∷ rs) n goes there left flight = elim (whole_or_not left before r rs flight.0 flight.1) [
      | inl stands ↦ record { records = before; state = m; stands = stands; replays = replays; holds = here }
      | inr stands ↦ record { records = before ++ r ∷ rs; state = n; stands = stands; replays = replays_more (r ∷ rs) n goes; holds = there }
    ]

-- a machine m at the records of a file, and n where asks lead it: what a crash leaves opens to one of the two
module _ {D M : Type 0} (Led : D → D → Type 0) (disk : D → Disk) (replay : M → List ℕ → Option M) (fresh m n : M) (before : List (List ℕ)) (replays : replayed replay (Some fresh) before ≡ Some m) where
  abbrev pub Claim : D → D → Type 0
  Claim first last = Throughout Led disk (Opens replay fresh (λ x. (x ≡ m) ⊎ (x ≡ n))) first last

  -- nothing was done yet
  pub unmoved : RestStands → (device : D) → LeavesOnly Led disk (IsAtRest before) device → Claim device device
  unmoved rest_stands device leaves = started Led disk _ device (λ left may. rest_opens replay fresh before m replays _ (inl refl) rest_stands left (leaves left may))

  -- the records were put
  pub moved : WholeOrNot → RestStands → (group : List (List ℕ)) → replayed replay (Some m) group ≡ Some n → (first last : D) → Throughout Led disk (InFlight before group) first last → Claim first last
  moved whole_or_not rest_stands group goes first last moments =
      weaker Led disk (InFlight before group) _ (flight_opens replay fresh before m replays _ (inl refl) whole_or_not rest_stands group n goes (inr refl)) first last moments

all_first : (r : List ℕ) (rs : List (List ℕ)) → length r < 2 ^ 32 → AreShort rs → AreShort (r ∷ rs)
all_first r rs first others zero d h = first
all_first r rs first others (suc i) d h = others i d (omega (arith, h))

-- vectors that are short hold records that are
pub group_short : (group : List (Vec ℕ Global)) → All (λ (v : Vec ℕ Global). length v.items < 2 ^ 32) group → AreShort (records_of group)
group_short [] short = λ i d h. absurd (omega (arith, h))
group_short (v ∷ vs) short = all_first v.items (records_of vs) (short zero v (omega arith)) (group_short vs (λ i d h. short (suc i) d (omega (arith, h))))

-- a group of vectors that is not empty
pub some_records : (group : List (Vec ℕ Global)) → 0 < length group → records_of group ≡ [] → ⊥
some_records [] some e = absurd (omega (arith, some))
some_records (v ∷ vs) some e = let k = ap length e in absurd (omega (arith, k))

pub no_records : (group : List (Vec ℕ Global)) → length group ≡ 0 → records_of group ≡ []
no_records [] none = refl
no_records (v ∷ vs) none = absurd (omega (arith, none))

-- what follows from a fact at Ok
pub on_ok : {T E : Type 0} (r : Result T E) (P Q : Type 0) → (P → Q) → OnOk r P → OnOk r Q
on_ok (Ok x) P Q f p = f p
on_ok (Err e) P Q f p = p

pub on_err : {T E : Type 0} (r : Result T E) (P : Type 0) → P → OnErr r P
on_err (Ok x) P p = tt
on_err (Err e) P p = p

-- a node's file is no file of its format only if the file says so
pub is_broken : (fault : RecordFault) → node_fault fault ≡ node.Broken → fault ≡ Broken
is_broken Device e = absurd (cc e)
is_broken Full e = absurd (cc e)
is_broken Failed e = absurd (cc e)
is_broken Memory e = absurd (cc e)
is_broken Broken e = refl
