-- A file after a put: grown by the group, or failed.
use Rattle.std.proofs.Common.{◌≡◌, ◌⊎◌, inl, inr, ℕ, ◌+◌, ◌<◌, ◌≤◌, ◌^◌, Bool, true, false, List, [], ◌∷◌, ◌++◌, length, get_or, take, drop, refl, sym, ap, ◌∙◌, subst, arith, append_assoc, length-append, take-append-drop}
use Rattle.std.proofs.lemmas.List.{length-take, length-drop, get_or-take, drop-take, drop-drop, drop_at, take-take}
use Rattle.fr_record.specs.Disk.{Disk, MayLeave, IsDurable, Stands, written}
use Rattle.fr_record.specs.Moments.{Throughout}
use Rattle.fr_segment.specs.declared.place.Place.{Place}
use Rattle.std.proofs.Common.{Vec}
use Rattle.std.specs.Prelude.{nat_lt}
use Rattle.std.specs.declared.alloc.Global.{Global}
use Rattle.std.proofs.lemmas.Bool.Decides.{nat_tests}
use Rattle.fr_segment.specs.Group.{records_of}
use Rattle.fr_segment.specs.File.{Group, body, block, groups_from, behind, guard, BeginsNoBlock, with_group, AreShort, IsClosedAt, IsLeft, IsAtRest}
use Rattle.fr_segment.specs.Put.{IsAtGate, IsPut}
use Rattle.fr_segment.specs.Table.{places, groups_in, IsRead, IsFile, IsGuarded}
use Rattle.fr_segment.proofs.Crash.{durable_leaves}
use Rattle.fr_segment.proofs.Moments.{started, at_last, weaker}
use Rattle.fr_segment.proofs.PutLemmas.{content_left}
use Rattle.fr_segment.proofs.FileLemmas.{length-groups_in}
use Rattle.fr_segment.proofs.GuardBytes.{guards, shorter_put}
use Rattle.fr_segment.proofs.ReadMore.{none_read, at_is, read_split, read_stays, read_found, read_more, read_behind, closed_split, closed_from}

-- the front of a file that a put leaves
pub put_front : (old : List ℕ) (gate : ℕ) (new left : List ℕ) → IsPut old gate new left → take gate left ≡ take gate old
put_front old gate new left (inl same) =
    sym (take-take gate (gate + 2) left (omega arith)) ∙ ap (λ l. take gate l) same ∙ take-take gate (gate + 2) old (omega arith)
put_front old gate new left (inr at) = at.1.front

-- it is no shorter
pub put_long : (old : List ℕ) (gate : ℕ) (new left : List ℕ) → gate + 1 < length old → IsPut old gate new left → gate + 1 < length left
put_long old gate new left within (inl same) =
    let e = ap length same in omega (arith, e, within, length-take (gate + 2) left, length-take (gate + 2) old)
put_long old gate new left within (inr at) =
    let e = ap length at.1.at in omega (arith, e, length-take (2 + length new) (drop gate left), length-drop gate left, length-append at.0 new, at.1.two_long)

-- a put of a group behind the closed gate of a file leaves what a crash may leave
pub put_left : (before : List Group) (g : Group) (old : List ℕ) (gate : ℕ) → gate ≡ length (groups_from 0 before) → gate + 1 < length old → take gate old ≡ groups_from 0 before → IsClosedAt old gate
    → (left : List ℕ) → IsPut old gate (behind (length before) g) left → IsLeft before g left
put_left before g old gate is within front closed left put = record {
  long = subst (λ n. n + 1 < length left) is (put_long old gate new left within put);
  front = subst (λ n. take n left ≡ groups_from 0 before) is (put_front old gate new left put ∙ front);
  gate = subst (λ n. IsClosedAt left n ⊎ (take (length (behind (length before) g)) (drop (n + 2) left) ≡ behind (length before) g)) is (at_gate put);
}
  where
    new : List ℕ
    new = behind (length before) g

    at_gate : IsPut old gate (behind (length before) g) left → IsClosedAt left gate ⊎ (take (length (behind (length before) g)) (drop (gate + 2) left) ≡ behind (length before) g)
    at_gate (inl same) = inl (
      sym (get_or-take (gate + 2) left gate 1 (omega arith)) ∙ ap (λ l. get_or l gate 1) same ∙ get_or-take (gate + 2) old gate 1 (omega arith) ∙ closed.0,
      sym (get_or-take (gate + 2) left (gate + 1) 1 (omega arith)) ∙ ap (λ l. get_or l (gate + 1) 1) same ∙ get_or-take (gate + 2) old (gate + 1) 1 (omega arith) ∙ closed.1,
    )
    at_gate (inr at) =
        let n = length (behind (length before) g) in
        inr (ap (λ l. take n l) (sym (drop-drop 2 gate left)) ∙ sym (drop-take 2 n (drop gate left)) ∙ ap (λ l. drop 2 l) at.1.at ∙ drop_at at.0 (behind (length before) g) 2 at.1.two_long)

module _ (disk : Disk) (table : List Place) (end : ℕ) (is_failed : Bool) (count : ℕ) (file : IsFile disk table end is_failed (groups_in count disk.content)) where
  abbrev pub found : List Group
  found = groups_in count disk.content

  pub count_is : length (groups_in count disk.content) ≡ count
  count_is = length-groups_in count disk.content

  pub end_is : end ≡ length (groups_from 0 (groups_in count disk.content))
  end_is = at_is disk.content table end (groups_in count disk.content) file.read

  -- bytes that were spelled for the number of groups are those for the count
  pub spelled_there : (groups : List Group) → groups_in count disk.content ≡ groups → (g : Group) (bytes : List ℕ) → bytes ≡ behind (length groups) g ++ guard (length groups + 1) → bytes ≡ behind count g ++ guard (count + 1)
  spelled_there groups same g bytes is = let k : length groups ≡ count = ap length (sym same) ∙ count_is in is ∙ ap (λ n. behind n g ++ guard (n + 1)) k

  -- while a group is put, a crash leaves the groups with it or without it
  pub leaves : is_failed ≡ false → (g : Group) (left : List ℕ) → IsPut disk.content end (behind count g) left → IsLeft (groups_in count disk.content) g left
  leaves works g left put =
      put_left (groups_in count disk.content) g disk.content end end_is file.long file.read.front (file.closed works) left
      (subst (λ k. IsPut disk.content end (behind k g) left) (sym count_is) put)

  -- the front stands, so the groups do
  pub stays : (new : Disk) → take end new.content ≡ take end disk.content → end ≤ length new.content → groups_in count new.content ≡ groups_in count disk.content
  stays new front long = read_found new.content table end (groups_in count disk.content) (read_stays disk.content table end (groups_in count disk.content) file.read new.content front long) count count_is

  -- a put that failed
  pub failed : (new : Disk) → take end new.content ≡ take end disk.content → end + 1 < length new.content → IsFile new table end true (groups_in count new.content)
  failed new front long =
      let enough : end ≤ length new.content = omega (arith, long) in
      subst (λ gs. IsFile new table end true gs) (sym (stays new front enough)) (record {
        read = read_stays disk.content table end (groups_in count disk.content) file.read new.content front enough;
        long = long;
        closed = λ never. absurd (cc never);
        durable = λ never. absurd (cc never);
      })

  -- a put that is done
  module _ (g : Group) (new : Disk) (short : length (body g) < 2 ^ 32) (at : IsAtGate disk.content end (1 ∷ 1 ∷ []) (behind count g ++ guard (count + 1)) new.content) where
    abbrev tail : List ℕ
    tail = drop (2 + length (behind count g ++ guard (count + 1))) (drop end new.content)

    abbrev rest : List ℕ
    rest = guard (count + 1) ++ tail

    from_end : drop end new.content ≡ 1 ∷ 1 ∷ (block (length (groups_in count disk.content)) (body g) ++ 0 ∷ 0 ∷ rest)
    from_end =
        sym (take-append-drop (2 + length (behind count g ++ guard (count + 1))) (drop end new.content))
        ∙ ap (λ l. l ++ tail) at.at
        ∙ ap (λ l. 1 ∷ 1 ∷ l) (append_assoc (behind count g) (guard (count + 1)) tail)
        ∙ ap (λ l. 1 ∷ 1 ∷ l) (append_assoc (block count (body g)) (0 ∷ 0 ∷ []) rest)
        ∙ ap (λ k. 1 ∷ 1 ∷ (block k (body g) ++ 0 ∷ 0 ∷ rest)) (sym count_is)

    long_new : end ≤ length new.content
    long_new = let e = ap length from_end in omega (arith, e, length-drop end new.content)

    stayed : IsRead new.content table end (groups_in count disk.content)
    stayed = read_stays disk.content table end (groups_in count disk.content) file.read new.content at.front long_new

    grown_read : IsRead new.content (table ++ places (end + 10) g) (end + 14 + length (body g)) (groups_in count disk.content ++ g ∷ [])
    grown_read = read_more new.content table end (groups_in count disk.content) stayed g (0 ∷ 0 ∷ rest) short from_end

    grown_behind : drop (end + 14 + length (body g)) new.content ≡ 0 ∷ 0 ∷ rest
    grown_behind = read_behind new.content table end (groups_in count disk.content) stayed g (0 ∷ 0 ∷ rest) short from_end

    pub grown_groups : groups_in (count + 1) new.content ≡ groups_in count disk.content ++ g ∷ []
    grown_groups =
        read_found new.content (table ++ places (end + 10) g) (end + 14 + length (body g)) (groups_in count disk.content ++ g ∷ []) grown_read (count + 1)
        (omega (arith, count_is, length-append (groups_in count disk.content) (g ∷ [])))

    pub grown_guarded : IsGuarded new.content (end + 14 + length (body g)) (count + 1)
    grown_guarded =
        let there : drop (end + 14 + length (body g) + 2) new.content ≡ rest = sym (drop-drop 2 (end + 14 + length (body g)) new.content) ∙ ap (λ l. drop 2 l) grown_behind in
        subst (λ l. BeginsNoBlock (count + 1) l) (sym there) (guards (count + 1) tail)

    pub grown : IsDurable new → IsFile new (table ++ places (end + 10) g) (end + 14 + length (body g)) is_failed (groups_in (count + 1) new.content)
    grown durable =
        let behind_it = closed_from new.content (end + 14 + length (body g)) rest grown_behind in
        subst (λ gs. IsFile new (table ++ places (end + 10) g) (end + 14 + length (body g)) is_failed gs) (sym grown_groups) (record {
          read = grown_read;
          long = behind_it.0;
          closed = λ works. behind_it.1;
          durable = λ works. durable;
        })

-- a refused put changes nothing
pub refused : (old new : Disk) (table : List Place) (end : ℕ) (is_failed : Bool) (count : ℕ) → IsFile old table end is_failed (groups_in count old.content) → Stands old new → IsFile new table end is_failed (groups_in count new.content)
refused old new table end is_failed count file stands =
    subst (λ l. IsFile new table end is_failed (groups_in count l)) (sym stands.same) (record {
      read = subst (λ l. IsRead l table end (groups_in count old.content)) (sym stands.same) file.read;
      long = let e = ap length stands.same in omega (arith, e, file.long);
      closed = λ works. subst (λ l. IsClosedAt l end) (sym stands.same) (file.closed works);
      durable = λ works. record {
        kept = λ i h. stands.kept i ((file.durable works).kept i (let e = ap length stands.same in omega (arith, e, h)));
        len = let e = ap length stands.same in omega (arith, e, stands.len, (file.durable works).len);
      };
    })

-- the same of a device at each moment of a put
module _ {D : Type 0} (Led : D → D → Type 0) (disk : D → Disk) (device : D) (table : List Place) (end : ℕ) (is_failed : Bool) (count : ℕ) (file : IsFile (disk device) table end is_failed (groups_in count (disk device).content)) where
  pub at_rest : is_failed ≡ false → (g : Group) → Throughout Led disk (IsLeft (groups_in count (disk device).content) g) device device
  at_rest works g =
      started Led disk _ device (λ left may. leaves (disk device) table end is_failed count file works g left (inl (ap (λ l. take (end + 2) l) (durable_leaves (disk device) left (file.durable works) may))))

  module _ (bytes : List ℕ) (last : D) (put : Throughout Led disk (IsPut (disk device).content end bytes) device last) where
    pub while_put : is_failed ≡ false → (g : Group) → bytes ≡ behind count g ++ guard (count + 1) → Throughout Led disk (IsLeft (groups_in count (disk device).content) g) device last
    while_put works g is =
        weaker Led disk _ _ (λ left l. leaves (disk device) table end is_failed count file works g left
        (shorter_put (disk device).content end (behind count g) (guard (count + 1)) left (subst (λ b. IsPut (disk device).content end b left) is l))) device last put

    now_put : IsPut (disk device).content end bytes (disk last).content
    now_put = at_last Led disk _ device last put (disk last).content (content_left (disk last))

    now_front : take end (disk last).content ≡ take end (disk device).content
    now_front = put_front (disk device).content end bytes (disk last).content now_put

    now_long : end + 1 < length (disk last).content
    now_long = put_long (disk device).content end bytes (disk last).content file.long now_put

    pub failed_file : IsFile (disk last) table end true (groups_in count (disk last).content)
    failed_file = failed (disk device) table end is_failed count file (disk last) now_front now_long

    pub failed_groups : groups_in count (disk last).content ≡ groups_in count (disk device).content
    failed_groups = stays (disk device) table end is_failed count file (disk last) now_front (omega (arith, now_long))

  module _ (bytes : List ℕ) (last : D) (g : Group) (short : length (body g) < 2 ^ 32) (is : bytes ≡ behind count g ++ guard (count + 1)) (at : IsAtGate (disk device).content end (1 ∷ 1 ∷ []) bytes (disk last).content) where
    at_group : IsAtGate (disk device).content end (1 ∷ 1 ∷ []) (behind count g ++ guard (count + 1)) (disk last).content
    at_group = subst (λ b. IsAtGate (disk device).content end (1 ∷ 1 ∷ []) b (disk last).content) is at

    pub grown_found : groups_in (count + 1) (disk last).content ≡ groups_in count (disk device).content ++ g ∷ []
    grown_found = grown_groups (disk device) table end is_failed count file g (disk last) short at_group

    module _ (n : ℕ) (n_is : n ≡ length (body g)) where
      same_end : end + 14 + length (body g) ≡ end + 14 + n
      same_end = omega (arith, n_is)

      pub grown_file : IsDurable (disk last) → (items : List Place) → items ≡ table ++ places (end + 10) g → IsFile (disk last) items (end + 14 + n) is_failed (groups_in (count + 1) (disk last).content)
      grown_file durable items items_is =
          subst (λ t. IsFile (disk last) t (end + 14 + n) is_failed (groups_in (count + 1) (disk last).content)) (sym items_is)
          (subst (λ m. IsFile (disk last) (table ++ places (end + 10) g) m is_failed (groups_in (count + 1) (disk last).content)) same_end (grown (disk device) table end is_failed count file g (disk last) short at_group durable))

      pub guarded_file : IsGuarded (disk last).content (end + 14 + n) (count + 1)
      guarded_file = subst (λ m. IsGuarded (disk last).content m (count + 1)) same_end (grown_guarded (disk device) table end is_failed count file g (disk last) short at_group)

-- after a crash a file that is not failed is at rest with its groups
pub kept : (disk : Disk) (table : List Place) (end : ℕ) (is_failed : Bool) (count : ℕ) → IsFile disk table end is_failed (groups_in count disk.content) → (is_failed ≡ false → IsGuarded disk.content end count) → is_failed ≡ false → (left : List ℕ) → MayLeave disk left → IsAtRest (groups_in count disk.content) left
kept disk table end is_failed count file guarded works left may =
    subst (λ l. IsAtRest (groups_in count disk.content) l) (sym (durable_leaves disk left (file.durable works) may)) (record {
      rest = drop (end + 2) disk.content;
      split = read_split disk.content table end (groups_in count disk.content) file.read ∙ ap (λ l. groups_from 0 (groups_in count disk.content) ++ l) (closed_split disk.content end file.long (file.closed works));
      short = file.read.short;
      guarded = subst (λ k. IsGuarded disk.content end k) (sym (count_is disk table end is_failed count file)) (guarded works);
    })

-- a group of one record or more
pub with_some : (gs : List Group) (group : List (Vec ℕ Global)) → 0 < length group → with_group gs (records_of group) ≡ gs ++ records_of group ∷ []
with_some gs [] some = absurd (omega (arith, some))
with_some gs (v ∷ vs) some = refl

pub room : (r : Bool) (x y : ℕ) → r ≡ nat_lt x y → r ≡ true → x < y
room r x y is works = grind (arith, nat_tests)

-- a file that was just made
pub fresh_file : (disk : Disk) (old : List ℕ) → disk.content ≡ written old 0 (0 ∷ 0 ∷ guard 0) → IsDurable disk → (items : List Place) → items ≡ [] → IsFile disk items 0 false (groups_in 0 disk.content)
unfolding groups_in
fresh_file disk old is durable items none =
    let e = ap length is in
    subst (λ t. IsFile disk t 0 false []) (sym none) (record {
      read = none_read disk.content;
      long = omega (arith, e);
      closed = λ works. (ap (λ l. get_or l 0 1) is, ap (λ l. get_or l 1 1) is);
      durable = λ works. durable;
    })

pub fresh_guarded : (content old : List ℕ) → content ≡ written old 0 (0 ∷ 0 ∷ guard 0) → IsGuarded content 0 0
unfolding guard
fresh_guarded content old is = subst (λ l. BeginsNoBlock 0 (drop 2 l)) (sym is) (guards 0 (drop (2 + length (guard 0)) old))
