-- A file that was read, and its torn gate written anew.
use Rattle.std.proofs.Common.{◌≡◌, ◌⊎◌, inl, inr, ℕ, zero, suc, ◌+◌, ◌<◌, ◌≤◌, ◌^◌, Bool, true, false, List, [], ◌∷◌, ◌++◌, length, get_or, take, drop, refl, sym, ap, ◌∙◌, subst, arith, append_assoc, length-append, take-append-drop}
use Rattle.std.specs.Prelude.{None, Some, Option}
use Rattle.std.proofs.lemmas.List.{take_at, drop_at, take-take, length-take, length-take-le, length-drop, get_or-take, get_or_at, get_or_default, append-nil}
use Rattle.std.proofs.lemmas.List.Elements.{All-append}
use Rattle.fr_record.specs.Disk.{Disk, MayLeave, IsDurable, Stands, written}
use Rattle.fr_record.specs.Moments.{LeavesOnly, Throughout}
use Rattle.fr_segment.specs.declared.place.Place.{Place}
use Rattle.fr_segment.specs.File.{Group, body, block, groups_from, behind, AreShort, StandsFrom, StandsFor, IsClosedAt, IsLeft, IsFront, IsAtRest}
use Rattle.fr_segment.specs.Parse.{mended, IsParsed, IsTorn, IsTornGate}
use Rattle.fr_segment.specs.Put.{IsElsewhere}
use Rattle.fr_segment.specs.Table.{groups_in, IsRead, IsFile}
use Rattle.fr_segment.proofs.Moments.{weaker, joined, at_last}
use Rattle.fr_segment.proofs.PutLemmas.{content_left}
use Rattle.fr_segment.proofs.AllLemmas.{all_left, all_right, all_head}
use Rattle.fr_segment.proofs.FileLemmas.{same_parts, length-block, groups_push, groups-append, length-one, one_split, stands_from, rest_from, unique}
use Rattle.fr_segment.proofs.Grown.{end_is, failed, stays}
use Rattle.fr_segment.proofs.ReadMore.{closed_split, gate_split}

-- what was parsed is the file, once its torn gate is written anew
pub mended_file : (disk : Disk) (bytes : List ℕ) (torn : Option ℕ) (table : List Place) (end count : ℕ) → IsParsed bytes torn table end count → disk.content ≡ mended bytes torn → IsDurable disk → IsFile disk table end false (groups_in count disk.content)
mended_file disk bytes torn table end count parsed is durable = record {
  read = subst (λ l. IsRead l table end (groups_in count l)) (sym is) parsed.read;
  long = subst (λ l. end + 1 < length l) (sym is) parsed.long;
  closed = λ works. subst (λ l. IsClosedAt l end) (sym is) parsed.closed;
  durable = λ works. durable;
}

pub closed_or_open : (bytes : List ℕ) (at : ℕ) → at + 1 < length bytes → IsClosedAt bytes at ⊎ (0 < get_or bytes at 0 + get_or bytes (at + 1) 0)
closed_or_open bytes at within = go (get_or bytes at 0) (get_or bytes (at + 1) 0) refl refl
  where
    go : (a b : ℕ) → get_or bytes at 0 ≡ a → get_or bytes (at + 1) 0 ≡ b → IsClosedAt bytes at ⊎ (0 < get_or bytes at 0 + get_or bytes (at + 1) 0)
    go zero zero first second = inl (get_or_default bytes at 1 0 (omega (arith, within)) ∙ first, get_or_default bytes (at + 1) 1 0 within ∙ second)
    go (suc a) b first second = inr (omega (arith, first))
    go zero (suc b) first second = inr (omega (arith, second))

-- a file whose front is exact
module _ (file : List ℕ) (gs : List Group) (short : AreShort gs) (front : take (length (groups_from 0 gs)) file ≡ groups_from 0 gs) where
  front_split : file ≡ groups_from 0 gs ++ drop (length (groups_from 0 gs)) file
  front_split = sym (take-append-drop (length (groups_from 0 gs)) file) ∙ ap (λ l. l ++ drop (length (groups_from 0 gs)) file) front

  front_stands : (others : List Group) → StandsFrom (length gs) others (drop (length (groups_from 0 gs)) file) → StandsFor file (gs ++ others)
  front_stands others stands =
      let e : length gs ≡ 0 + length gs = omega arith in
      subst (λ l. StandsFrom 0 (gs ++ others) l) (sym front_split) (stands_from gs others 0 (drop (length (groups_from 0 gs)) file) short (subst (λ k. StandsFrom k others (drop (length (groups_from 0 gs)) file)) e stands))

  pub front_closed : length (groups_from 0 gs) + 1 < length file → IsClosedAt file (length (groups_from 0 gs)) → StandsFor file gs
  front_closed within closed =
      let n = length (groups_from 0 gs) in
      subst (λ xs. StandsFor file xs) (append-nil gs) (front_stands [] (drop (n + 2) file, closed_split file n within closed))

-- what a crash left stands for the groups with the one in flight or without it
pub left_stands : (file : List ℕ) (before : List Group) (g : Group) → AreShort (before ++ g ∷ []) → IsLeft before g file → StandsFor file before ⊎ StandsFor file (before ++ g ∷ [])
left_stands file before g short left = go left.gate
  where
    short_before : AreShort before
    short_before = all_left (λ (x : Group). length (body x) < 2 ^ 32) before (g ∷ []) short

    short_g : length (body g) < 2 ^ 32
    short_g = all_head (λ (x : Group). length (body x) < 2 ^ 32) g [] (all_right (λ (x : Group). length (body x) < 2 ^ 32) before (g ∷ []) short)

    shut : IsClosedAt file (length (groups_from 0 before)) → StandsFor file before
    shut closed = front_closed file before short_before left.front left.long closed

    go : IsClosedAt file (length (groups_from 0 before)) ⊎ (take (length (behind (length before) g)) (drop (length (groups_from 0 before) + 2) file) ≡ behind (length before) g) → StandsFor file before ⊎ StandsFor file (before ++ g ∷ [])
    go (inl closed) = inl (shut closed)
    go (inr there) = elim (closed_or_open file (length (groups_from 0 before)) left.long) [
      | inl closed ↦ inl (shut closed)
      | inr opens ↦
          let n = length (groups_from 0 before) in
          let k = length (behind (length before) g) in
          let tail = drop k (drop (n + 2) file) in
          let behind_gate : drop (n + 2) file ≡ block (length before) (body g) ++ 0 ∷ 0 ∷ tail =
          sym (take-append-drop k (drop (n + 2) file)) ∙ ap (λ l. l ++ tail) there ∙ append_assoc (block (length before) (body g)) (0 ∷ 0 ∷ []) tail in
          inr (front_stands file before short_before left.front (g ∷ []) (
            0 ∷ 0 ∷ tail,
            record {
              first = get_or file n 0;
              second = get_or file (n + 1) 0;
              not_closed = opens;
              whole = inr refl;
              short = short_g;
              split = gate_split file n left.long ∙ ap (λ l. get_or file n 0 ∷ get_or file (n + 1) 0 ∷ l) behind_gate;
            },
            (tail, refl),
          ))
    ]

pub rest_stands : (file : List ℕ) (groups : List Group) → IsAtRest groups file → StandsFor file groups
rest_stands file groups rest =
    subst (λ l. StandsFrom 0 groups l) (sym rest.split) (subst (λ xs. StandsFrom 0 xs (groups_from 0 groups ++ 0 ∷ 0 ∷ rest.rest)) (append-nil groups) (stands_from groups [] 0 (0 ∷ 0 ∷ rest.rest) rest.short (rest.rest, refl)))

-- ---- a torn gate
-- is none of a front that is exact
never_exact : (file : List ℕ) (gate : ℕ) (groups : List Group) → IsTorn file gate groups → take (length (groups_from 0 groups)) file ≡ groups_from 0 groups → ⊥
never_exact file gate groups torn front =
    let p = groups_from 0 torn.before in
    let k = length torn.before in
    let whole : groups_from 0 groups ≡ p ++ 1 ∷ 1 ∷ (block k (body torn.last) ++ []) = ap (λ xs. groups_from 0 xs) torn.split ∙ groups_push torn.before torn.last in
    let e = ap length whole in
    let long = length-append p (1 ∷ 1 ∷ (block k (body torn.last) ++ [])) in
    let n = length (groups_from 0 groups) in
    let two : length (p ++ 1 ∷ []) ≡ gate + 1 = omega (arith, length-append p (1 ∷ []), torn.place) in
    torn.torn (
      sym (get_or-take n file gate 0 (omega (arith, e, long, torn.place))) ∙ ap (λ l. get_or l gate 0) (front ∙ whole) ∙ get_or_at p 1 (1 ∷ (block k (body torn.last) ++ [])) 0 gate (sym torn.place),
      sym (get_or-take n file (gate + 1) 0 (omega (arith, e, long, torn.place))) ∙ ap (λ l. get_or l (gate + 1) 0) (front ∙ whole ∙ sym (append_assoc p (1 ∷ []) (1 ∷ (block k (body torn.last) ++ []))))
          ∙ get_or_at (p ++ 1 ∷ []) 1 (block k (body torn.last) ++ []) 0 (gate + 1) two,
    )

push_once : (xs ys : List Group) (x y : Group) → xs ++ x ∷ [] ≡ ys ++ y ∷ [] → xs ≡ ys
push_once xs ys x y same =
    let e = ap length same in
    (same_parts xs ys (x ∷ []) (y ∷ []) (omega (arith, e, length-append xs (x ∷ []), length-append ys (y ∷ []))) same).0

-- while it is written anew, a crash leaves the group in flight or none
module _ (file : List ℕ) (before : List Group) (g : Group) (short : AreShort (before ++ g ∷ [])) (left : IsLeft before g file) (gate : ℕ) (groups : List Group) (torn : IsTorn file gate groups) (stands : StandsFor file groups) where
  place_is : gate ≡ length (groups_from 0 before)
  place_is = elim (left_stands file before g short left) [
    | inl alone ↦
        let same : before ≡ groups = unique file groups before stands alone in
        absurd (never_exact file gate groups torn (subst (λ xs. take (length (groups_from 0 xs)) file ≡ groups_from 0 xs) same left.front))
    | inr both ↦
        let same : before ++ g ∷ [] ≡ groups = unique file groups (before ++ g ∷ []) stands both in
        torn.place ∙ ap (λ xs. length (groups_from 0 xs)) (push_once torn.before before torn.last g (sym torn.split ∙ sym same))
  ]

  there : take (length (behind (length before) g)) (drop (length (groups_from 0 before) + 2) file) ≡ behind (length before) g
  there = elim left.gate [
    | inl closed ↦
        let n = length (groups_from 0 before) in
        let first : get_or file gate 0 ≡ 0 = ap (λ k. get_or file k 0) place_is ∙ get_or_default file n 0 1 (omega (arith, left.long)) ∙ closed.0 in
        let second : get_or file (gate + 1) 0 ≡ 0 = ap (λ k. get_or file (k + 1) 0) place_is ∙ get_or_default file (n + 1) 0 1 left.long ∙ closed.1 in
        absurd (omega (arith, torn.not_closed, first, second))
    | inr it ↦ it
  ]

  pub mending_leaves : (now : List ℕ) → IsElsewhere file gate now → IsLeft before g now
  mending_leaves now same =
      let n = length (groups_from 0 before) in
      let end : drop (n + 2) now ≡ drop (n + 2) file = subst (λ k. drop (k + 2) now ≡ drop (k + 2) file) place_is same.end in
      let front : take n now ≡ take n file = subst (λ k. take k now ≡ take k file) place_is same.front in
      let long_end = ap length end in
      let long_it = ap length there in
      record {
        long = omega (
          arith,
          long_end,
          long_it,
          length-drop (n + 2) now,
          length-drop (n + 2) file,
          length-take (length (behind (length before) g)) (drop (n + 2) file),
          length-append (block (length before) (body g)) (0 ∷ 0 ∷ []),
          length-block (length before) (body g),
        );
        front = front ∙ left.front;
        gate = inr (ap (λ l. take (length (behind (length before) g)) l) end ∙ there);
      }

-- a file at rest has none
pub rest_torn : (file : List ℕ) (before : List Group) (gate : ℕ) (groups : List Group) → IsAtRest before file → IsTorn file gate groups → StandsFor file groups → ⊥
rest_torn file before gate groups rest torn stands =
    let same : before ≡ groups = unique file groups before stands (rest_stands file before rest) in
    let p = groups_from 0 before in
    let front : take (length p) file ≡ p = ap (λ l. take (length p) l) rest.split ∙ take_at p (0 ∷ 0 ∷ rest.rest) (length p) refl in
    never_exact file gate groups torn (subst (λ xs. take (length (groups_from 0 xs)) file ≡ groups_from 0 xs) same front)

-- the last of a list
pub record Last (xs : List Group) : Type 0 where
  pub others : List Group
  pub last : Group
  pub split : xs ≡ others ++ last ∷ []

last_of : (x : Group) (xs : List Group) → Last (x ∷ xs)
last_of x [] = record { others = []; last = x; split = refl }
last_of x (y ∷ ys) = let it = last_of y ys in record { others = x ∷ it.others; last = it.last; split = ap (λ l. x ∷ l) it.split }

-- groups that a file begins with stay while its torn gate is written anew
pub kept_front : (file now : List ℕ) (gate : ℕ) (groups : List Group) → IsTorn file gate groups → StandsFor file groups → IsElsewhere file gate now → gate + 1 < length now → (gs : List Group) → IsFront gs file → IsFront gs now
kept_front file now gate groups torn stands same long gs begins =
    let n = length (groups_from 0 gs) in
    let rest = rest_from gs groups 0 (drop n file) file begins.short (sym (take-append-drop n file) ∙ ap (λ l. l ++ drop n file) begins.front) stands in
    let below : n ≤ gate = go rest.others rest.split in
    record {
      short = begins.short;
      long = omega (arith, below, long);
      front = sym (take-take n gate now below) ∙ ap (λ l. take n l) same.front ∙ take-take n gate file below ∙ begins.front;
    }
  where
    go : (others : List Group) → groups ≡ gs ++ others → length (groups_from 0 gs) ≤ gate
    go [] split =
        let is : gs ≡ groups = sym (split ∙ append-nil gs) in
        absurd (never_exact file gate groups torn (subst (λ xs. take (length (groups_from 0 xs)) file ≡ groups_from 0 xs) is begins.front))
    go (x ∷ xs) split =
        let it = last_of x xs in
        let is : torn.before ≡ gs ++ it.others = push_once torn.before (gs ++ it.others) torn.last it.last (sym torn.split ∙ split ∙ ap (λ l. gs ++ l) it.split ∙ sym (append_assoc gs it.others (it.last ∷ []))) in
        let e = ap length (ap (λ l. groups_from 0 l) is ∙ groups-append 0 gs it.others) in
        omega (arith, torn.place, e, length-append (groups_from 0 gs) (groups_from (0 + length gs) it.others))

-- ---- reading a file and writing its gate anew, at each moment
module _ {D : Type 0} (Led : D → D → Type 0) (disk : D → Disk) (first loaded : D) (always : Throughout Led disk (MayLeave (disk first)) first loaded) where
  pub while_read : (P : List ℕ → Type 0) → LeavesOnly Led disk P first → Throughout Led disk P first loaded
  while_read P leaves = weaker Led disk (MayLeave (disk first)) P leaves first loaded always

  module _ (last : D) (stands : Stands (disk first) (disk loaded)) (bytes : List ℕ) (loads : bytes ≡ (disk first).content) (gate : ℕ) (groups : List Group) (torn : IsTorn bytes gate groups) (stands_for : StandsFor bytes groups)
      (mending : Throughout Led disk (IsElsewhere (disk loaded).content gate) loaded last) where
    is : bytes ≡ (disk loaded).content
    is = loads ∙ sym stands.same

    torn_now : IsTorn (disk loaded).content gate groups
    torn_now = subst (λ l. IsTorn l gate groups) is torn

    stands_now : StandsFor (disk loaded).content groups
    stands_now = subst (λ l. StandsFor l groups) is stands_for

    pub while_mended : (before : List Group) (g : Group) → AreShort (before ++ g ∷ []) → LeavesOnly Led disk (IsLeft before g) first → Throughout Led disk (IsLeft before g) first last
    while_mended before g short leaves =
        let sound : IsLeft before g (disk loaded).content = subst (λ l. IsLeft before g l) (sym stands.same) (leaves (disk first).content (content_left (disk first))) in
        joined Led disk (IsLeft before g) first loaded last (while_read (IsLeft before g) leaves)
        (weaker Led disk (IsElsewhere (disk loaded).content gate) (IsLeft before g) (mending_leaves (disk loaded).content before g short sound gate groups torn_now stands_now) loaded last mending)

    pub never_at_rest : (before : List Group) → LeavesOnly Led disk (IsAtRest before) first → ⊥
    never_at_rest before leaves =
        rest_torn bytes before gate groups (subst (λ l. IsAtRest before l) (sym loads) (leaves (disk first).content (content_left (disk first)))) torn stands_for

    pub front_mended : gate + 1 < length (disk last).content → (gs : List Group) → IsFront gs (disk first).content → IsFront gs (disk last).content
    front_mended long gs front =
        kept_front (disk loaded).content (disk last).content gate groups torn_now stands_now
        (at_last Led disk _ loaded last mending (disk last).content (content_left (disk last))) long gs (subst (λ l. IsFront gs l) (sym stands.same) front)

-- a file that is failed after it was read in vain
pub failed_front : (old new : Disk) (table : List Place) (end : ℕ) (is_failed : Bool) (count : ℕ) → IsFile old table end is_failed (groups_in count old.content) → ((gs : List Group) → IsFront gs old.content → IsFront gs new.content)
    → IsFile new table end true (groups_in count new.content) × (groups_in count new.content ≡ groups_in count old.content)
failed_front old new table end is_failed count file keeps =
    let gs = groups_in count old.content in
    let e : end ≡ length (groups_from 0 gs) = end_is old table end is_failed count file in
    let now = keeps gs (record {
      short = file.read.short;
      long = subst (λ n. n + 1 < length old.content) e file.long;
      front = subst (λ n. take n old.content ≡ groups_from 0 gs) e file.read.front;
    }) in
    let front : take end new.content ≡ take end old.content = subst (λ n. take n new.content ≡ groups_from 0 gs) (sym e) now.front ∙ sym file.read.front in
    let long : end + 1 < length new.content = subst (λ n. n + 1 < length new.content) (sym e) now.long in (
      failed old table end is_failed count file new front long,
      stays old table end is_failed count file new front (omega (arith, long)),
    )

-- what was parsed, as the devices have it
module _ {D : Type 0} (disk : D → Disk) (first loaded : D) (stands : Stands (disk first) (disk loaded)) (bytes : List ℕ) (loads : bytes ≡ (disk first).content) (torn : Option ℕ) (table : List Place) (end count : ℕ) (parsed : IsParsed bytes torn table end count)
    (stands_for : StandsFor bytes (groups_in count (mended bytes torn))) where
  now_is : (disk loaded).content ≡ bytes
  now_is = stands.same ∙ sym loads

  none_is : torn ≡ None → (disk loaded).content ≡ mended bytes torn
  none_is is = now_is ∙ sym (ap (λ t. mended bytes t) is)

  some_is : (gate : ℕ) (last : D) → torn ≡ Some gate → (disk last).content ≡ written (disk loaded).content gate (1 ∷ 1 ∷ []) → (disk last).content ≡ mended bytes torn
  some_is gate last is mends = mends ∙ ap (λ l. written l gate (1 ∷ 1 ∷ [])) now_is ∙ sym (ap (λ t. mended bytes t) is)

  stands_in : (last : D) → (disk last).content ≡ mended bytes torn → StandsFor (disk first).content (groups_in count (disk last).content)
  stands_in last is = subst (λ l. StandsFor l (groups_in count (disk last).content)) loads (subst (λ l. StandsFor bytes (groups_in count l)) (sym is) stands_for)

  pub none_file : torn ≡ None → IsDurable (disk loaded) → IsFile (disk loaded) table end false (groups_in count (disk loaded).content)
  none_file is durable = mended_file (disk loaded) bytes torn table end count parsed (none_is is) durable

  pub none_stands : torn ≡ None → StandsFor (disk first).content (groups_in count (disk loaded).content)
  none_stands is = stands_in loaded (none_is is)

  module _ (gate : ℕ) (last : D) (is : torn ≡ Some gate) (mends : (disk last).content ≡ written (disk loaded).content gate (1 ∷ 1 ∷ [])) where
    pub some_file : IsDurable (disk last) → IsFile (disk last) table end false (groups_in count (disk last).content)
    some_file durable = mended_file (disk last) bytes torn table end count parsed (some_is gate last is mends) durable

    pub some_stands : StandsFor (disk first).content (groups_in count (disk last).content)
    some_stands = stands_in last (some_is gate last is mends)

pub some_torn : (bytes : List ℕ) (torn : Option ℕ) (groups : List Group) (gate : ℕ) → torn ≡ Some gate → IsTornGate bytes torn groups → IsTorn bytes gate groups
some_torn bytes torn groups gate is given = subst (λ t. IsTornGate bytes t groups) is given
