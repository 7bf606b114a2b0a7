-- A guard that is written, call by call, and a file that is read and guarded.
use Rattle.std.proofs.Common.{◌≡◌, ℕ, ◌+◌, ◌<◌, ◌≤◌, false, List, [], ◌∷◌, ◌++◌, length, take, drop, refl, sym, ap, ◌∙◌, subst, arith, length-append}
use Rattle.std.specs.Prelude.{Option, Some}
use Rattle.std.proofs.lemmas.List.{length-drop}
use Rattle.fr_record.specs.Disk.{Disk, IsDurable, Stands, Torn, written}
use Rattle.fr_record.specs.Moments.{Throughout}
use Rattle.fr_segment.specs.declared.place.Place.{Place}
use Rattle.fr_segment.specs.File.{Group, groups_from, BeginsNoBlock, AreShort, StandsFor, IsLeft, IsFront, IsAtRest}
use Rattle.fr_segment.specs.Parse.{mended, IsParsed, IsTorn, IsTornGate}
use Rattle.fr_segment.specs.Put.{IsBehindGate}
use Rattle.fr_segment.specs.Table.{IsFile, IsGuarded, groups_in}
use Rattle.fr_segment.proofs.Crash.{durable_leaves, stands_leaves, torn_front}
use Rattle.fr_segment.proofs.Moments.{started, goes_on, weaker, joined, at_last}
use Rattle.fr_segment.proofs.PutLemmas.{content_left}
use Rattle.fr_segment.proofs.Grown.{count_is, stays}
use Rattle.fr_segment.proofs.ReadMore.{at_is, read_stays}
use Rattle.fr_segment.proofs.FileLemmas.{groups-append}
use Rattle.fr_segment.proofs.ReadLemmas.{some_torn}
use Rattle.fr_segment.proofs.GuardBytes.{behind_mended}
use Rattle.fr_segment.proofs.GuardLemmas.{guard_leaves, guard_front, guard_closed, rest_guarded}

module _ {D : Type 0} (Led : D → D → Type 0) (disk : D → Disk) (first : D) (end n : ℕ) (within : end + 2 ≤ length (disk first).content) (durable : IsDurable (disk first)) where
  abbrev pub Guarding : D → Type 0
  Guarding = Throughout Led disk (IsBehindGate (disk first).content end) first

  not_yet : Guarding first
  not_yet = started Led disk _ first (λ left may. ap (λ l. take (end + 2) l) (durable_leaves (disk first) left durable may))

  pub guard_put : (one : D) → Led first one → Torn (end + 2) n (disk first) (disk one) → Guarding one
  guard_put one led torn = goes_on Led disk _ first first one not_yet led (λ left may. torn_front (end + 2) n (disk first) (disk one) left durable torn may within)

  pub guard_synced : (one two : D) → Led first one → Torn (end + 2) n (disk first) (disk one) → Led one two → Stands (disk one) (disk two) → Guarding two
  guard_synced one two led torn led_two stands =
      goes_on Led disk _ first one two (guard_put one led torn) led_two (λ left may. torn_front (end + 2) n (disk first) (disk one) left durable torn (stands_leaves (disk one) (disk two) left stands may) within)

-- a file that was read, with a group behind its closed gate that could come back, and what is left while a guard is written
module _ {D : Type 0} (Led : D → D → Type 0) (disk : D → Disk) (first loaded last : D) (table : List Place) (end count : ℕ) (file : IsFile (disk loaded) table end false (groups_in count (disk loaded).content))
    (guarding : Throughout Led disk (IsBehindGate (disk loaded).content end) loaded last) where
  now_same : IsBehindGate (disk loaded).content end (disk last).content
  now_same = at_last Led disk _ loaded last guarding (disk last).content (content_left (disk last))

  pub while_guarded : (before : List Group) (g : Group) → AreShort (before ++ g ∷ []) → Throughout Led disk (IsLeft before g) first loaded → Throughout Led disk (IsLeft before g) first last
  while_guarded before g short always =
      let left : IsLeft before g (disk loaded).content = at_last Led disk _ first loaded always (disk loaded).content (content_left (disk loaded)) in
      joined Led disk (IsLeft before g) first loaded last always
      (weaker Led disk (IsBehindGate (disk loaded).content end) (IsLeft before g) (λ now same. guard_leaves (disk loaded).content table end (groups_in count (disk loaded).content) file.read file.long (file.closed refl) now same before g short left) loaded last guarding)

  pub never_rest : (IsGuarded (disk loaded).content end count → ⊥) → (before : List Group) → Throughout Led disk (IsAtRest before) first loaded → ⊥
  never_rest bare before always =
      let rest : IsAtRest before (disk loaded).content = at_last Led disk _ first loaded always (disk loaded).content (content_left (disk loaded)) in
      bare (rest_guarded (disk loaded).content table end (groups_in count (disk loaded).content) file.read file.long (file.closed refl) before rest count (count_is (disk loaded) table end false count file))

  pub front_guarded : ((gs : List Group) → IsFront gs (disk first).content → IsFront gs (disk loaded).content) → (gs : List Group) → IsFront gs (disk first).content → IsFront gs (disk last).content
  front_guarded keeps gs begins = guard_front (disk loaded).content table end (groups_in count (disk loaded).content) file.read file.long (file.closed refl) (disk last).content now_same gs (keeps gs begins)

  front_same : take end (disk last).content ≡ take end (disk loaded).content
  front_same = (guard_closed (disk loaded).content table end (groups_in count (disk loaded).content) file.read file.long (file.closed refl) (disk last).content now_same).0

  long_last : end + 1 < length (disk last).content
  long_last = (guard_closed (disk loaded).content table end (groups_in count (disk loaded).content) file.read file.long (file.closed refl) (disk last).content now_same).1.0

  pub same_groups : groups_in count (disk last).content ≡ groups_in count (disk loaded).content
  same_groups = stays (disk loaded) table end false count file (disk last) front_same (omega (arith, long_last))

  pub guarded_again : IsDurable (disk last) → IsFile (disk last) table end false (groups_in count (disk last).content)
  guarded_again durable =
      subst (λ gs. IsFile (disk last) table end false gs) (sym same_groups) (record {
        read = read_stays (disk loaded).content table end (groups_in count (disk loaded).content) file.read (disk last).content front_same (omega (arith, long_last));
        long = long_last;
        closed = λ works. (guard_closed (disk loaded).content table end (groups_in count (disk loaded).content) file.read file.long (file.closed refl) (disk last).content now_same).1.1;
        durable = λ works. durable;
      })

  pub stands_again : StandsFor (disk first).content (groups_in count (disk loaded).content) → StandsFor (disk first).content (groups_in count (disk last).content)
  stands_again stands = subst (λ gs. StandsFor (disk first).content gs) (sym same_groups) stands

-- a group lies behind the closed gate
abbrev pub Bare : ℕ → ℕ → List ℕ → Type 0
Bare end count l = (IsGuarded l end count → ⊥) × (end + 14 ≤ length l)

-- what was read of bytes, as the devices have it
module _ {D : Type 0} (disk : D → Disk) (first loaded : D) (stands : Stands (disk first) (disk loaded)) (bytes : List ℕ) (loads : bytes ≡ (disk first).content) (end count : ℕ) where
  now_is : (disk loaded).content ≡ bytes
  now_is = stands.same ∙ sym loads

  pub none_guarded : IsGuarded bytes end count → IsGuarded (disk loaded).content end count
  none_guarded guarded = subst (λ l. IsGuarded l end count) (sym now_is) guarded

  pub none_bare : Bare end count bytes → Bare end count (disk loaded).content
  none_bare bare = subst (Bare end count) (sym now_is) bare

  -- and a gate that was written anew
  module _ (torn : Option ℕ) (table : List Place) (parsed : IsParsed bytes torn table end count) (gate : ℕ) (is : torn ≡ Some gate) (gate_torn : IsTornGate bytes torn (groups_in count (mended bytes torn))) (last : D)
      (mends : (disk last).content ≡ written (disk loaded).content gate (1 ∷ 1 ∷ [])) where
    torn_there : IsTorn bytes gate (groups_in count (mended bytes torn))
    torn_there = some_torn bytes torn (groups_in count (mended bytes torn)) gate is gate_torn

    before : gate ≤ end
    before =
        let e = ap length (ap (λ gs. groups_from 0 gs) torn_there.split ∙ groups-append 0 torn_there.before (torn_there.last ∷ [])) in
        let end_is = at_is (mended bytes torn) table end (groups_in count (mended bytes torn)) parsed.read in
        omega (arith, torn_there.place, end_is, e, length-append (groups_from 0 torn_there.before) (groups_from (0 + length torn_there.before) (torn_there.last ∷ [])))

    some_is : drop (end + 2) (disk last).content ≡ drop (end + 2) bytes
    some_is = ap (λ l. drop (end + 2) l) (mends ∙ ap (λ l. written l gate (1 ∷ 1 ∷ [])) now_is) ∙ behind_mended bytes gate end before torn_there.within

    pub some_guarded : IsGuarded bytes end count → IsGuarded (disk last).content end count
    some_guarded guarded = subst (λ l. BeginsNoBlock count l) (sym some_is) guarded

    pub some_bare : Bare end count bytes → Bare end count (disk last).content
    some_bare bare =
        let e = ap length some_is in
        (λ guarded. bare.0 (subst (λ l. BeginsNoBlock count l) some_is guarded), omega (arith, e, bare.1, length-drop (end + 2) (disk last).content, length-drop (end + 2) bytes))
