-- Tables of records.
use Rattle.std.proofs.Common.{get_or, ◌≡◌, ℕ, zero, suc, ◌+◌, ◌<◌, ◌≤◌, List, [], ◌∷◌, ◌++◌, length, take, drop, refl, sym, ap, ◌∙◌, arith, append_assoc, length-append}
use Rattle.std.specs.Prelude.{All, None, Some}
use Rattle.std.specs.Int.{w32, to_be_bytes}
use Rattle.std.proofs.lemmas.List.{take-take, take_at, drop_at, drop-take, drop-drop, append-nil}
use Rattle.fr_record.specs.Disk.{bytes_at}
use Rattle.fr_record.specs.State.{record_at}
use Rattle.fr_segment.specs.declared.place.Place.{Place}
use Rattle.fr_segment.specs.File.{Group, body, records_of_all}
use Rattle.fr_segment.specs.Table.{records_at, places}
use Rattle.fr_segment.proofs.FileLemmas.{body_split, length-body}
use Rattle.fr_segment.proofs.AllLemmas.{all_first, all_none}

-- bytes below a place are those of the front
bytes_below : (end at n : ℕ) (content : List ℕ) → at + n ≤ end → bytes_at content at n ≡ drop at (take (at + n) (take end content))
bytes_below end at n content below = sym (drop-take at n content) ∙ ap (λ l. drop at l) (sym (take-take (at + n) end content below))

-- records below a place stay while the front stays
pub same_records : (end : ℕ) (old new : List ℕ) → take end new ≡ take end old → (table : List Place) → All (λ p. p.at + p.len ≤ end) table → records_at new table ≡ records_at old table
same_records end old new front [] within = refl
same_records end old new front (p ∷ table) within =
    let below : p.at + p.len ≤ end = within zero p (omega arith) in
    let head : bytes_at new p.at p.len ≡ bytes_at old p.at p.len =
    bytes_below end p.at p.len new below ∙ ap (λ l. drop p.at (take (p.at + p.len) l)) front ∙ sym (bytes_below end p.at p.len old below) in
    ap (λ x. x ∷ records_at new table) head ∙ ap (λ xs. bytes_at old p.at p.len ∷ xs) (same_records end old new front table (λ i d h. within (suc i) d (omega (arith, h))))

-- the records of a group lie where its body begins
pub records-places : (g : Group) (at : ℕ) (content rest : List ℕ) → drop at content ≡ body g ++ rest → records_at content (places at g) ≡ g
records-places [] at content rest is = refl
records-places (r ∷ rs) at content rest is =
    let bytes = to_be_bytes w32 (length r) in
    let n = length r in
    let behind_length : drop (at + 4) content ≡ r ++ (body rs ++ rest) =
    sym (drop-drop 4 at content) ∙ ap (λ l. drop 4 l) (is ∙ body_split r rs rest) ∙ drop_at bytes (r ++ (body rs ++ rest)) 4 refl in
    let head : bytes_at content (at + 4) n ≡ r = ap (λ l. take n l) behind_length ∙ take_at r (body rs ++ rest) n refl in
    let behind_record : drop (at + 4 + n) content ≡ body rs ++ rest = sym (drop-drop n (at + 4) content) ∙ ap (λ l. drop n l) behind_length ∙ drop_at r (body rs ++ rest) n refl in
    ap (λ x. x ∷ records_at content (places (at + 4 + n) rs)) head ∙ ap (λ xs. r ∷ xs) (records-places rs (at + 4 + n) content rest behind_record)

-- they lie before its end
pub places-within : (g : Group) (at end : ℕ) → at + length (body g) ≤ end → All (λ p. p.at + p.len ≤ end) (places at g)
places-within [] at end fits = all_none (λ (p : Place). p.at + p.len ≤ end)
places-within (r ∷ rs) at end fits =
    all_first (λ (p : Place). p.at + p.len ≤ end) (record { at = at + 4; len = length r }) (places (at + 4 + length r) rs) (omega (arith, fits, length-body r rs)) (places-within rs (at + 4 + length r) end (omega (arith, fits, length-body r rs)))

pub places-append : (rs ss : Group) (at : ℕ) → places at (rs ++ ss) ≡ places at rs ++ places (at + length (body rs)) ss
places-append [] ss at = let same : at ≡ at + 0 = omega arith in ap (λ k. places k ss) same
places-append (r ∷ rs) ss at =
    let same : at + 4 + length r + length (body rs) ≡ at + length (body (r ∷ rs)) = omega (arith, length-body r rs) in
    ap (λ l. record { at = at + 4; len = length r } ∷ l) (places-append rs ss (at + 4 + length r) ∙ ap (λ k. places (at + 4 + length r) rs ++ places k ss) same)

-- the record at a place of the table
pub record_found : (content : List ℕ) (table : List Place) (i : ℕ) (d : Place) → i < length table → record_at (records_at content table) i ≡ Some (bytes_at content (get_or table i d).at (get_or table i d).len)
record_found content [] i d h = absurd (omega (arith, h))
record_found content (p ∷ table) zero d h = refl
record_found content (p ∷ table) (suc i) d h = record_found content table i d (omega (arith, h))

pub record_past : (content : List ℕ) (table : List Place) (i : ℕ) → length table ≤ i → record_at (records_at content table) i ≡ None
record_past content [] i h = refl
record_past content (p ∷ table) zero h = absurd (omega (arith, h))
record_past content (p ∷ table) (suc i) h = record_past content table i (omega (arith, h))

pub all-records-append : (gs : List Group) (g : Group) → records_of_all (gs ++ g ∷ []) ≡ records_of_all gs ++ g
all-records-append [] g = append-nil g
all-records-append (h ∷ gs) g = ap (λ l. h ++ l) (all-records-append gs g) ∙ sym (append_assoc h (records_of_all gs) g)
