-- Two devices opened as a pair, call by call.
use Rattle.std.proofs.Common.{◌≡◌, ◌⊎◌, inl, inr, ℕ, ◌+◌, ◌-◌, min, ◌<◌, ◌^◌, List, [], Some, sym, ap, ◌∙◌, subst, arith}
use Rattle.fr_record.specs.Disk.{Disk, MayLeave, IsDurable}
use Rattle.fr_record.specs.Failing.{FailsOnceMore}
use Rattle.fr_record.specs.Moments.{LeavesOnly, Throughout}
use Rattle.fr_segment.specs.declared.health.Health.{Health}
use Rattle.fr_segment.specs.declared.health.Health.TheVariants.{Works, Failed, Appending, Replacing}
use Rattle.fr_segment.specs.File.{Group, IsLeft}
use Rattle.fr_segment.specs.Health.{group_of, owed_by, IsFit, IsCurrentLeft, IsOtherLeft}
use Rattle.fr_segment.specs.Opening.{IsOpening}
use Rattle.fr_segment.specs.Pair.{PairThroughout}
use Rattle.fr_segment.specs.PairLaws.{weaker_both, at_end, chained}
use Rattle.fr_segment.specs.PairOpening.{AreLeft, IsPairOpening}
use Rattle.fr_segment.specs.Turns.{IsHeaded, own_records, BeginsWith, IsOlder}
use Rattle.fr_segment.specs.Way.{HasRecords}
use Rattle.fr_segment.proofs.Crash.{durable_leaves}
use Rattle.fr_segment.proofs.InTurn.{class_stands, current_begins}
use Rattle.fr_segment.proofs.Moments.{at_last, weaker}
use Rattle.fr_segment.proofs.Opened.{below}
use Rattle.fr_segment.proofs.PairRun.{first_moves, second_moves, exchanged}
use Rattle.fr_segment.proofs.PutLemmas.{content_left}
use Rattle.fr_segment.proofs.TurnsLemmas.{pair_exchanged}

-- ---- what a crash leaves of a pair, in either order
pub left_exchanged : (number : ℕ) (identity : List ℕ) (groups : List Group) (health : Health) (a b : List ℕ) → AreLeft number identity groups health a b → AreLeft number identity groups health b a
left_exchanged number identity groups health a b (inl x) = inr x
left_exchanged number identity groups health a b (inr x) = inl x

pub pair_left_stands : (number : ℕ) (identity : List ℕ) (groups : List Group) (health : Health) (a b : List ℕ) → number < 2 ^ 64 → IsHeaded number identity groups → IsFit number identity groups health → AreLeft number identity groups health a b
    → HasRecords identity (λ rs. (rs ≡ own_records groups) ⊎ (owed_by (own_records groups) health ≡ Some rs)) a b
pair_left_stands number identity groups health a b small headed fit (inl x) = class_stands number identity groups health small headed fit a b x.0 x.1
pair_left_stands number identity groups health a b small headed fit (inr x) =
    let has = class_stands number identity groups health small headed fit b a x.0 x.1 in (has.0, pair_exchanged identity has.0 b a has.1, has.2)

-- a device whose count of failures was the same before
pub fails_too : {D : Type 0} (failures_of : D → ℕ) (first middle : D) → failures_of middle ≡ failures_of first → FailsOnceMore failures_of middle → FailsOnceMore failures_of first
fails_too failures_of first middle same fails = (fails.0, fails.1 ∙ ap (λ (n : ℕ). min (n + 1) (2 ^ 64 - 1)) same)

module _ {D : Type 0} (Led : D → D → Type 0) (disk : D → Disk) where
  -- a crash leaves what is on a durable device
  rests_so : (P : List ℕ → Type 0) (d : D) → IsDurable (disk d) → P (disk d).content → LeavesOnly Led disk P d
  rests_so P d durable it = λ left may. subst P (sym (durable_leaves (disk d) left durable may)) it

  module _ (number : ℕ) (identity : List ℕ) (groups : List Group) where
    -- the current file is opened again
    current_run : (health : Health) → IsFit number identity groups health → (d last : D) → IsOpening Led disk d last → LeavesOnly Led disk (IsCurrentLeft groups health) d → Throughout Led disk (IsCurrentLeft groups health) d last
    current_run Works fit d last opening leaves = opening.at_rest groups leaves
    current_run Failed fit d last opening leaves = opening.at_rest groups leaves
    current_run (Appending put) fit d last opening leaves = opening.in_flight groups (group_of put.value.items) fit leaves
    current_run (Replacing put) fit d last opening leaves = opening.at_rest groups leaves

    -- the other one is, since it begins with a greater number
    other_run : (health : Health) → IsFit number identity groups health → (n : ℕ) (whose : List ℕ) (d last : D) → IsOpening Led disk d last → IsDurable (disk d) → IsOtherLeft number identity health (disk d).content → BeginsWith n whose (disk d).content → number < n
        → Throughout Led disk (IsOtherLeft number identity health) d last
    other_run Works fit n whose d last opening durable older begins greater = absurd (let less = below n number whose identity (disk d).content begins older in omega (arith, less, greater))
    other_run Failed fit n whose d last opening durable older begins greater = absurd (let less = below n number whose identity (disk d).content begins older in omega (arith, less, greater))
    other_run (Appending put) fit n whose d last opening durable older begins greater = absurd (let less = below n number whose identity (disk d).content begins older in omega (arith, less, greater))
    other_run (Replacing put) fit n whose d last opening durable (inl older) begins greater = absurd (let less = below n number whose identity (disk d).content begins older in omega (arith, less, greater))
    other_run (Replacing put) fit n whose d last opening durable (inr flight) begins greater =
        let g = group_of put.value.items in
        weaker Led disk (IsLeft [] g) (IsOtherLeft number identity (Replacing put)) (λ left it. inr it) d last (opening.in_flight [] g fit.short (rests_so (IsLeft [] g) d durable flight))

    module _ (health : Health) (small : number < 2 ^ 64) (headed : IsHeaded number identity groups) (fit : IsFit number identity groups health) where
      -- either device opened, beside which the other is older
      opens : (n : ℕ) (whose : List ℕ) (d beside last : D) → IsDurable (disk d) → IsDurable (disk beside) → BeginsWith n whose (disk d).content → IsOlder n whose (disk beside).content → IsOpening Led disk d last
          → AreLeft number identity groups health (disk d).content (disk beside).content → PairThroughout Led disk (AreLeft number identity groups health) (d, beside) (last, beside)
      opens n whose d beside last durable durable_beside begins older opening (inl here) =
          first_moves Led disk (IsCurrentLeft groups health) (IsOtherLeft number identity health) (AreLeft number identity groups health) (λ a b x y. inl (x, y)) d last beside
          (rests_so (IsOtherLeft number identity health) beside durable_beside here.1)
          (current_run health fit d last opening (rests_so (IsCurrentLeft groups health) d durable here.0))
      opens n whose d beside last durable durable_beside begins older opening (inr there) =
          let greater : number < n = below number n identity whose (disk beside).content (current_begins number identity groups health small headed fit (disk beside).content there.0) older in
          first_moves Led disk (IsOtherLeft number identity health) (IsCurrentLeft groups health) (AreLeft number identity groups health) (λ a b x y. inr (y, x)) d last beside
          (rests_so (IsCurrentLeft groups health) beside durable_beside there.0)
          (other_run health fit n whose d last opening durable there.1 begins greater)

  module _ (first second : D) where
    abbrev pub AsBefore : List ℕ → List ℕ → Type 0
    AsBefore a b = MayLeave (disk first) a × MayLeave (disk second) b

    -- the first was read, and then the second
    pub one_read : (one : D) → Throughout Led disk (MayLeave (disk first)) first one → PairThroughout Led disk AsBefore (first, second) (one, second)
    one_read one run = first_moves Led disk (MayLeave (disk first)) (MayLeave (disk second)) AsBefore (λ a b x y. (x, y)) first one second (λ left may. may) run

    pub both_read : (one two : D) → Throughout Led disk (MayLeave (disk first)) first one → Throughout Led disk (MayLeave (disk second)) second two → PairThroughout Led disk AsBefore (first, second) (one, two)
    both_read one two run run_two =
        chained Led disk AsBefore (first, second) (one, second) (one, two) (one_read one run)
        (second_moves Led disk (MayLeave (disk first)) (MayLeave (disk second)) AsBefore (λ a b x y. (x, y)) one second two (at_last Led disk (MayLeave (disk first)) first one run) run_two)

    pub read_opening : (last : D × D) → PairThroughout Led disk AsBefore (first, second) last → IsPairOpening Led disk (first, second) last
    read_opening last run = λ number identity groups health small headed fit leaves. weaker_both Led disk AsBefore (AreLeft number identity groups health) (λ a b it. leaves a b it.0 it.1) (first, second) last run

    module _ (whose : List ℕ) (one two : D) (run : PairThroughout Led disk AsBefore (first, second) (one, two)) (durable_one : IsDurable (disk one)) (durable_two : IsDurable (disk two)) (n : ℕ) where
      pub former_opening : BeginsWith n whose (disk one).content → IsOlder n whose (disk two).content → (last : D) → IsOpening Led disk one last → IsPairOpening Led disk (first, second) (last, two)
      former_opening begins older last opening = λ number identity groups health small headed fit leaves.
          let so_far = read_opening (one, two) run number identity groups health small headed fit leaves in
          chained Led disk (AreLeft number identity groups health) (first, second) (one, two) (last, two) so_far
          (opens number identity groups health small headed fit n whose one two last durable_one durable_two begins older opening
          (at_end Led disk (AreLeft number identity groups health) (first, second) (one, two) so_far (disk one).content (disk two).content (content_left (disk one)) (content_left (disk two))))

      pub latter_opening : BeginsWith n whose (disk two).content → IsOlder n whose (disk one).content → (last : D) → IsOpening Led disk two last → IsPairOpening Led disk (first, second) (last, one)
      latter_opening begins older last opening = λ number identity groups health small headed fit leaves.
          let so_far = exchanged Led disk (AreLeft number identity groups health) (left_exchanged number identity groups health) (first, second) one two (read_opening (one, two) run number identity groups health small headed fit leaves) in
          chained Led disk (AreLeft number identity groups health) (first, second) (two, one) (last, one) so_far
          (opens number identity groups health small headed fit n whose two one last durable_two durable_one begins older opening
          (at_end Led disk (AreLeft number identity groups health) (first, second) (two, one) so_far (disk two).content (disk one).content (content_left (disk two)) (content_left (disk one))))
