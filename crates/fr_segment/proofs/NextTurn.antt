-- Two files in turn after each kind of call.
use Rattle.std.proofs.Common.{◌≡◌, ◌⊎◌, inl, inr, ℕ, ◌+◌, ◌<◌, ◌≤◌, ◌^◌, Bool, true, false, List, [], ◌∷◌, ◌++◌, length, drop, Some, refl, sym, ap, ◌∙◌, subst, arith}
use Rattle.std.proofs.lemmas.List.Elements.{All-append}
use Rattle.fr_record.specs.Disk.{Disk, MayLeave, IsDurable, Stands}
use Rattle.fr_record.specs.Moments.{LeavesOnly, Throughout}
use Rattle.fr_segment.specs.declared.health.Health.{Health}
use Rattle.fr_segment.specs.declared.health.Health.TheVariants.{Works, Failed, Appending, Replacing}
use Rattle.fr_segment.specs.File.{Group, body, AreShort, StandsFor, IsLeft, IsAtRest, behind, guard}
use Rattle.fr_segment.specs.Health.{group_of, has_failed, failed_now, owed_by, IsNext, IsFit, IsCurrentLeft, IsOtherLeft, AreInTurn}
use Rattle.fr_segment.specs.Put.{IsRenewed}
use Rattle.fr_segment.specs.State.{SegmentFile}
use Rattle.fr_segment.specs.Turns.{IsHeaded, own_records, IsOlder}
use Rattle.fr_segment.proofs.AllLemmas.{all_first, all_none}
use Rattle.fr_segment.proofs.Crash.{durable_leaves, stands_leaves}
use Rattle.fr_segment.proofs.PutLemmas.{content_left}
use Rattle.fr_segment.proofs.RenewRun.{durable_stays}
use Rattle.fr_segment.proofs.TurnsLemmas.{headed_more}
use Rattle.fr_segment.proofs.InTurn.{works_left, older_left, renewed_left}

-- the bytes that a call was to put when it met the fault
abbrev pub put_by : Health → List ℕ
put_by Works = []
put_by Failed = []
put_by (Appending put) = put.value.items
put_by (Replacing put) = put.value.items

abbrev pub is_appending : Health → Bool
is_appending Works = false
is_appending Failed = false
is_appending (Appending put) = true
is_appending (Replacing put) = false

abbrev pub is_replacing : Health → Bool
is_replacing Works = false
is_replacing Failed = false
is_replacing (Appending put) = false
is_replacing (Replacing put) = true

-- one group more is short too
pub one_more_short : (groups : List Group) (g : Group) (file : List ℕ) → IsAtRest groups file → length (body g) < 2 ^ 32 → AreShort (groups ++ g ∷ [])
one_more_short groups g file rest short =
    All-append (λ (x : Group). length (body x) < 2 ^ 32) groups (g ∷ []) rest.short (all_first (λ (x : Group). length (body x) < 2 ^ 32) g [] short (all_none (λ (x : Group). length (body x) < 2 ^ 32)))

module _ {D : Type 0} (Led : D → D → Type 0) (disk : D → Disk) (current : SegmentFile D) (other : D) (number : ℕ) (identity : List ℕ) (health : Health) (it : AreInTurn disk current other number identity health) where
  -- groups at rest have this fact of lengths
  pub now_short : has_failed health ≡ false → (g : Group) → length (body g) < 2 ^ 32 → AreShort (current.groups ++ g ∷ [])
  now_short works g short =
      one_more_short current.groups g (disk current.device).content ((works_left Led disk current other number identity health it works).0 (disk current.device).content (content_left (disk current.device))) short

  -- the same groups on devices of which a crash leaves no more
  module _ (last : SegmentFile D) (same : last.groups ≡ current.groups) (less : (left : List ℕ) → MayLeave (disk last.device) left → MayLeave (disk current.device) left) (beside : D) (less_beside : (left : List ℕ) → MayLeave (disk beside) left → MayLeave (disk other) left) where
    pub read_on : last.is_failed ≡ current.is_failed → (IsDurable (disk other) → IsDurable (disk beside)) → AreInTurn disk last beside number identity health
    read_on flag durable = record {
      small = it.small;
      brief = it.brief;
      headed = subst (λ gs. IsHeaded number identity gs) (sym same) it.headed;
      fit = subst (λ gs. IsFit number identity gs health) (sym same) it.fit;
      works = λ works. flag ∙ it.works works;
      durable = λ works. durable (it.durable works);
      current_left = λ left may. subst (λ gs. IsCurrentLeft gs health left) (sym same) (it.current_left left (less left may));
      other_left = λ left may. it.other_left left (less_beside left may);
    }

    pub read_failed : AreInTurn disk last beside number identity (failed_now health)
    read_failed = go health it.fit it.current_left it.other_left
      where
        go : (h : Health) → IsFit number identity current.groups h → ((left : List ℕ) → MayLeave (disk current.device) left → IsCurrentLeft current.groups h left) → ((left : List ℕ) → MayLeave (disk other) left → IsOtherLeft number identity h left)
            → AreInTurn disk last beside number identity (failed_now h)
        go Works fit one two = record { small = it.small; brief = it.brief; headed = subst (λ gs. IsHeaded number identity gs) (sym same) it.headed; fit = fit; works = λ e. absurd (cc e); durable = λ e. absurd (cc e); current_left = λ left may. subst (λ gs. IsAtRest gs left) (sym same) (one left (less left may)); other_left = λ left may. two left (less_beside left may) }
        go Failed fit one two = record { small = it.small; brief = it.brief; headed = subst (λ gs. IsHeaded number identity gs) (sym same) it.headed; fit = fit; works = λ e. absurd (cc e); durable = λ e. absurd (cc e); current_left = λ left may. subst (λ gs. IsAtRest gs left) (sym same) (one left (less left may)); other_left = λ left may. two left (less_beside left may) }
        go (Appending put) fit one two = record { small = it.small; brief = it.brief; headed = subst (λ gs. IsHeaded number identity gs) (sym same) it.headed; fit = subst (λ gs. AreShort (gs ++ group_of put.value.items ∷ [])) (sym same) fit; works = λ e. absurd (cc e); durable = λ e. absurd (cc e); current_left = λ left may. subst (λ gs. IsLeft gs (group_of put.value.items) left) (sym same) (one left (less left may)); other_left = λ left may. two left (less_beside left may) }
        go (Replacing put) fit one two = record { small = it.small; brief = it.brief; headed = subst (λ gs. IsHeaded number identity gs) (sym same) it.headed; fit = fit; works = λ e. absurd (cc e); durable = λ e. absurd (cc e); current_left = λ left may. subst (λ gs. IsAtRest gs left) (sym same) (one left (less left may)); other_left = λ left may. two left (less_beside left may) }

  -- a group behind the current file
  pub appended : has_failed health ≡ false → (g : Group) (last : SegmentFile D) → last.groups ≡ current.groups ++ g ∷ [] → last.is_failed ≡ false → LeavesOnly Led disk (IsAtRest last.groups) last.device → AreInTurn disk last other number identity health
  appended works g last grown flag rests = go health works it.durable it.other_left
    where
      go : (h : Health) → has_failed h ≡ false → (has_failed h ≡ false → IsDurable (disk other)) → ((left : List ℕ) → MayLeave (disk other) left → IsOtherLeft number identity h left) → AreInTurn disk last other number identity h
      go Works e durable two = record { small = it.small; brief = it.brief; headed = subst (λ gs. IsHeaded number identity gs) (sym grown) (headed_more number identity current.groups g it.headed); fit = tt; works = λ w. flag; durable = durable; current_left = rests; other_left = two }
      go Failed e durable two = absurd (cc e)
      go (Appending put) e durable two = absurd (cc e)
      go (Replacing put) e durable two = absurd (cc e)

  pub append_failed : has_failed health ≡ false → (later : Health) → is_appending later ≡ true → (g : Group) → length (body g) < 2 ^ 32 → group_of (put_by later) ≡ g → (last : SegmentFile D) → last.groups ≡ current.groups → LeavesOnly Led disk (IsLeft current.groups g) last.device
      → AreInTurn disk last other number identity later
  append_failed works later appends g short is last same leaves = go later appends is
    where
      go : (h : Health) → is_appending h ≡ true → group_of (put_by h) ≡ g → AreInTurn disk last other number identity h
      go Works e put_is = absurd (cc e)
      go Failed e put_is = absurd (cc e)
      go (Replacing put) e put_is = absurd (cc e)
      go (Appending put) e put_is = record {
        small = it.small;
        brief = it.brief;
        headed = subst (λ gs. IsHeaded number identity gs) (sym same) it.headed;
        fit = subst (λ gs. AreShort (gs ++ group_of put.value.items ∷ [])) (sym same) (subst (λ x. AreShort (current.groups ++ x ∷ [])) (sym put_is) (now_short works g short));
        works = λ w. absurd (cc w);
        durable = λ w. absurd (cc w);
        current_left = λ left may. subst (λ gs. IsLeft gs (group_of put.value.items) left) (sym same) (subst (λ x. IsLeft current.groups x left) (sym put_is) (leaves left may));
        other_left = (works_left Led disk current other number identity health it works).1;
      }

  -- the other file begun anew
  module _ (works : has_failed health ≡ false) (g : Group) (next : IsNext number identity g) where
    pub replaced : (last : SegmentFile D) (beside : D) → last.groups ≡ g ∷ [] → last.is_failed ≡ false → beside ≡ current.device → (current.is_failed ≡ false → IsDurable (disk beside)) → LeavesOnly Led disk (IsAtRest last.groups) last.device
        → AreInTurn disk last beside (number + 1) identity health
    replaced last beside grown flag turned durable rests = go health works
      where
        go : (h : Health) → has_failed h ≡ false → AreInTurn disk last beside (number + 1) identity h
        go Works e = record { small = next.small; brief = it.brief; headed = subst (λ gs. IsHeaded (number + 1) identity gs) (sym grown) next.headed; fit = tt; works = λ w. flag; durable = λ w. durable (it.works works); current_left = rests; other_left = λ left may. older_left Led disk current other number identity health it works next.small left (subst (λ d. MayLeave (disk d) left) turned may) }
        go Failed e = absurd (cc e)
        go (Appending put) e = absurd (cc e)
        go (Replacing put) e = absurd (cc e)

    pub replace_failed : (later : Health) → is_replacing later ≡ true → group_of (put_by later) ≡ g → (new : List ℕ) → new ≡ behind 0 g ++ guard 1 → (beside : D) → LeavesOnly Led disk (IsRenewed (disk other).content new) beside
        → AreInTurn disk current beside number identity later
    replace_failed later replaces is new new_is beside leaves = go later replaces is
      where
        go : (h : Health) → is_replacing h ≡ true → group_of (put_by h) ≡ g → AreInTurn disk current beside number identity h
        go Works e put_is = absurd (cc e)
        go Failed e put_is = absurd (cc e)
        go (Appending put) e put_is = absurd (cc e)
        go (Replacing put) e put_is = record {
          small = it.small;
          brief = it.brief;
          headed = it.headed;
          fit = subst (λ x. IsNext number identity x) (sym put_is) next;
          works = λ w. absurd (cc w);
          durable = λ w. absurd (cc w);
          current_left = (works_left Led disk current other number identity health it works).0;
          other_left = λ left may. subst (λ x. IsOlder number identity left ⊎ IsLeft [] x left) (sym put_is) (renewed_left Led disk current other number identity health it works g next new new_is beside leaves left may);
        }
