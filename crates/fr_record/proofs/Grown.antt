-- A file after a put: grown by the group, or failed.
use Rattle.std.proofs.Common.{◌≡◌, inl, ℕ, ◌+◌, ◌<◌, ◌≤◌, Bool, true, false, List, [], ◌∷◌, ◌++◌, length, get_or, take, drop, sym, ap, ◌∙◌, subst, arith, append_assoc, length-append, take-append-drop}
use Rattle.std.specs.Prelude.{◌^◌}
use Rattle.std.proofs.lemmas.List.{length-take-le, take_at, get_or_at, map-append, drop_more}
use Rattle.std.proofs.lemmas.List.Elements.{All-append}
use Rattle.fr_record.specs.Disk.{Disk, MayLeave, IsDurable, Stands}
use Rattle.fr_record.specs.declared.frame.Frame.{Frame}
use Rattle.fr_record.specs.File.{frames, behind, AreShort, IsLeft, IsAtRest}
use Rattle.fr_record.specs.Put.{IsAtGate, IsPut}
use Rattle.fr_record.specs.Table.{records_at, places, IsFile}
use Rattle.fr_record.specs.Moments.{Throughout}
use Rattle.fr_record.proofs.Crash.{durable_leaves}
use Rattle.fr_record.proofs.Moments.{started, at_last, weaker}
use Rattle.fr_record.proofs.PutLemmas.{content_left}
use Rattle.fr_record.proofs.FileLemmas.{frames-append, frames-behind, length-behind, put_front, put_long, put_left}
use Rattle.fr_record.proofs.TableLemmas.{same_records, records-places, places-within, all_first}

module _ (disk : Disk) (table : List Frame) (end : ℕ) (is_failed : Bool) (file : IsFile disk table end is_failed) where
  abbrev pub found : List (List ℕ)
  found = records_at disk.content table

  pub end_is : end ≡ length (frames found)
  end_is = sym (length-take-le end disk.content (omega (arith, file.long))) ∙ ap length file.front

  -- while a group is put, a crash leaves the records with it or without it
  pub leaves : is_failed ≡ false → (group : List (List ℕ)) (left : List ℕ) → IsPut disk.content end (behind group) left → IsLeft found group left
  leaves works group = put_left found group disk.content end end_is file.long file.front (file.closed works)

  -- the front stands, so the records do
  pub stays : (new : Disk) → take end new.content ≡ take end disk.content → records_at new.content table ≡ found
  stays new front = same_records end disk.content new.content front table file.within

  -- a put that failed
  pub failed : (new : Disk) → take end new.content ≡ take end disk.content → end < length new.content → IsFile new table end true
  failed new front long = record {
    within = file.within;
    front = front ∙ file.front ∙ ap frames (sym (stays new front));
    short = subst AreShort (sym (stays new front)) file.short;
    long = long;
    closed = λ never. absurd (cc never);
    durable = λ never. absurd (cc never);
  }

  -- a put that is done
  module _ (r : List ℕ) (rs : List (List ℕ)) (new : Disk) (at : IsAtGate disk.content end 1 (behind (r ∷ rs)) new.content) where
    abbrev group : List (List ℕ)
    group = r ∷ rs

    abbrev rest : List ℕ
    rest = drop (1 + length (behind group)) (drop end new.content)

    from_end : drop end new.content ≡ frames group ++ 0 ∷ rest
    from_end =
        sym (take-append-drop (1 + length (behind group)) (drop end new.content))
        ∙ ap (λ l. l ++ rest) (at.1 ∙ frames-behind r rs)
        ∙ append_assoc (frames group) (0 ∷ []) rest

    pub grown_records : records_at new.content (table ++ places end group) ≡ found ++ group
    grown_records =
        map-append _ table (places end group) ∙ ap (λ xs. xs ++ records_at new.content (places end group)) (stays new at.0)
        ∙ ap (λ xs. found ++ xs) (records-places group end new.content (0 ∷ rest) from_end)

    whole : new.content ≡ frames (found ++ group) ++ 0 ∷ rest
    whole =
        sym (take-append-drop end new.content) ∙ ap (λ l. l ++ drop end new.content) (at.0 ∙ file.front) ∙ ap (λ l. frames found ++ l) from_end
        ∙ sym (append_assoc (frames found) (frames group) (0 ∷ rest)) ∙ ap (λ l. l ++ 0 ∷ rest) (sym (frames-append found group))

    long : length (frames (found ++ group)) ≡ end + length (behind group)
    long =
        let e = ap length (frames-append found group) in
        omega (arith, e, length-append (frames found) (frames group), end_is, length-behind r rs)

    pub grown : AreShort group → IsDurable new → IsFile new (table ++ places end group) (end + length (behind group)) is_failed
    grown short durable = record {
      within = All-append (λ (f : Frame). f.at + f.len ≤ end + length (behind group)) table (places end group) (λ i d h. omega (arith, file.within i d h)) (places-within group end (end + length (behind group)) (omega (arith, length-behind r rs)));
      front = ap (λ l. take (end + length (behind group)) l) whole ∙ take_at (frames (found ++ group)) (0 ∷ rest) (end + length (behind group)) long ∙ ap frames (sym grown_records);
      short = subst AreShort (sym grown_records) (All-append (λ (x : List ℕ). length x < 2 ^ 32) found group file.short short);
      long = let e = ap length whole in omega (arith, e, long, length-append (frames (found ++ group)) (0 ∷ rest));
      closed = λ works. ap (λ l. get_or l (end + length (behind group)) 1) whole ∙ get_or_at (frames (found ++ group)) 0 rest 1 (end + length (behind group)) long;
      durable = λ works. durable;
    }

-- a refused put changes nothing
pub refused : (old new : Disk) (table : List Frame) (end : ℕ) (is_failed : Bool) → IsFile old table end is_failed → Stands old new → IsFile new table end is_failed
refused old new table end is_failed file stands = record {
  within = file.within;
  front = ap (λ l. take end l) stands.same ∙ file.front ∙ ap (λ l. frames (records_at l table)) (sym stands.same);
  short = subst (λ l. AreShort (records_at l table)) (sym stands.same) file.short;
  long = let e = ap length stands.same in omega (arith, e, file.long);
  closed = λ works. ap (λ l. get_or l end 1) stands.same ∙ file.closed works;
  durable = λ works. record {
    kept = λ i h. stands.kept i ((file.durable works).kept i (let e = ap length stands.same in omega (arith, e, h)));
    len = let e = ap length stands.same in omega (arith, e, stands.len, (file.durable works).len);
  };
}

-- the same of a device at each moment of a put
module _ {D : Type 0} (Led : D → D → Type 0) (disk : D → Disk) (device : D) (table : List Frame) (end : ℕ) (is_failed : Bool) (file : IsFile (disk device) table end is_failed) where
  pub at_rest : is_failed ≡ false → (group : List (List ℕ)) → Throughout Led disk (IsLeft (records_at (disk device).content table) group) device device
  at_rest works group =
      started Led disk _ device (λ left may. leaves (disk device) table end is_failed file works group left (inl (ap (λ l. take (end + 1) l) (durable_leaves (disk device) left (file.durable works) may))))

  module _ (bytes : List ℕ) (last : D) (put : Throughout Led disk (IsPut (disk device).content end bytes) device last) where
    pub while_put : is_failed ≡ false → (group : List (List ℕ)) → bytes ≡ behind group → Throughout Led disk (IsLeft (records_at (disk device).content table) group) device last
    while_put works group is =
        weaker Led disk _ _ (λ left l. leaves (disk device) table end is_failed file works group left (subst (λ b. IsPut (disk device).content end b left) is l)) device last put

    now_put : IsPut (disk device).content end bytes (disk last).content
    now_put = at_last Led disk _ device last put (disk last).content (content_left (disk last))

    now_front : take end (disk last).content ≡ take end (disk device).content
    now_front = put_front (disk device).content end bytes (disk last).content now_put

    pub failed_file : IsFile (disk last) table end true
    failed_file = failed (disk device) table end is_failed file (disk last) now_front (put_long (disk device).content end bytes (disk last).content file.long now_put)

    pub failed_records : records_at (disk last).content table ≡ records_at (disk device).content table
    failed_records = stays (disk device) table end is_failed file (disk last) now_front

  module _ (bytes : List ℕ) (last : D) (r : List ℕ) (rs : List (List ℕ)) (is : bytes ≡ behind (r ∷ rs)) (at : IsAtGate (disk device).content end 1 bytes (disk last).content) where
    at_group : IsAtGate (disk device).content end 1 (behind (r ∷ rs)) (disk last).content
    at_group = subst (λ b. IsAtGate (disk device).content end 1 b (disk last).content) is at

    pub grown_found : (items : List Frame) → items ≡ table ++ places end (r ∷ rs) → records_at (disk last).content items ≡ records_at (disk device).content table ++ (r ∷ rs)
    grown_found items items_is = ap (λ t. records_at (disk last).content t) items_is ∙ grown_records (disk device) table end is_failed file r rs (disk last) at_group

    pub grown_file : AreShort (r ∷ rs) → IsDurable (disk last) → (items : List Frame) → items ≡ table ++ places end (r ∷ rs) → (n : ℕ) → length (behind (r ∷ rs)) ≡ n → IsFile (disk last) items (end + n) is_failed
    grown_file short durable items items_is n n_is =
        subst (λ t. IsFile (disk last) t (end + n) is_failed) (sym items_is)
        (subst (λ m. IsFile (disk last) (table ++ places end (r ∷ rs)) (end + m) is_failed) n_is (grown (disk device) table end is_failed file r rs (disk last) at_group short durable))

pub one_short : (r : List ℕ) → length r < 2 ^ 32 → AreShort (r ∷ [])
one_short r short = all_first (λ (x : List ℕ). length x < 2 ^ 32) r [] short (λ i d h. absurd (omega (arith, h)))

-- after a crash a file that is not failed is at rest with its records
pub kept : (disk : Disk) (table : List Frame) (end : ℕ) (is_failed : Bool) → IsFile disk table end is_failed → is_failed ≡ false → (left : List ℕ) → MayLeave disk left → IsAtRest (records_at disk.content table) left
kept disk table end is_failed file works left may =
    subst (λ l. IsAtRest (records_at disk.content table) l) (sym (durable_leaves disk left (file.durable works) may)) (record {
      rest = drop (end + 1) disk.content;
      split = sym (take-append-drop end disk.content) ∙ ap (λ l. l ++ drop end disk.content) file.front
          ∙ ap (λ l. frames (records_at disk.content table) ++ l) (drop_more disk.content end 1 file.long ∙ ap (λ x. x ∷ drop (end + 1) disk.content) (file.closed works));
      short = file.short;
    })
