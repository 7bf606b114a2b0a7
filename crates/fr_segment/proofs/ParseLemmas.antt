-- Reading a file group by group.
use Rattle.std.proofs.Common.{◌≡◌, ◌⊎◌, inl, inr, ℕ, zero, suc, ◌+◌, ◌-◌, ◌<◌, ◌≤◌, ◌^◌, List, [], ◌∷◌, ◌++◌, length, get_or, take, drop, refl, sym, ap, ◌∙◌, subst, arith, append_assoc, length-append, take-append-drop}
use Rattle.std.specs.Prelude.{None, Some}
use Rattle.std.specs.Int.{w32, to_be_bytes, from_be_bytes}
use Rattle.std.proofs.lemmas.Nat.{be_bytes_4}
use Rattle.std.proofs.lemmas.List.{take_at, drop_at, drop_more, drop-drop, take-take, length-take, length-take-le, length-drop, append-nil, get_or_default}
use Rattle.fr_record.specs.Disk.{written}
use Rattle.fr_segment.specs.declared.place.Place.{Place}
use Rattle.fr_segment.specs.Crc.{sum_of}
use Rattle.fr_segment.specs.File.{Group, body, seal, block, groups_from, AreShort, StandsFrom, StandsFor, IsClosedAt}
use Rattle.fr_segment.specs.Group.{AreRecords, IsBlockAt}
use Rattle.fr_segment.specs.Parse.{mended, IsParsed, IsTorn}
use Rattle.fr_segment.specs.Table.{places, groups_in, IsRead}
use Rattle.fr_segment.proofs.FileLemmas.{be32, same_parts, spelled_once, length-spelled, length-seal, block_parts, length-block, block_once, body-append, body_split, length-body}
use Rattle.fr_segment.proofs.TableLemmas.{places-append}
use Rattle.fr_segment.proofs.ReadMore.{none_read, closed_split, gate_split, closed_from, at_is, read_stays, read_found, read_rest, read_stands, read_more, read_behind}

-- ---- four bytes
pub four_bytes : (bytes : List ℕ) (at : ℕ) → at + 4 ≤ length bytes → take 4 (drop at bytes) ≡ get_or bytes at 0 ∷ get_or bytes (at + 1) 0 ∷ get_or bytes (at + 2) 0 ∷ get_or bytes (at + 3) 0 ∷ []
four_bytes bytes at long =
    let next : (k j : ℕ) → k + 1 ≡ j → k < length bytes → drop k bytes ≡ get_or bytes k 0 ∷ drop j bytes = λ k j is h. drop_more bytes k 0 h ∙ ap (λ m. get_or bytes k 0 ∷ drop m bytes) is in
    ap (λ l. take 4 l) (next at (at + 1) refl (omega (arith, long)))
    ∙ ap (λ l. get_or bytes at 0 ∷ take 3 l) (next (at + 1) (at + 2) (omega arith) (omega (arith, long)))
    ∙ ap (λ l. get_or bytes at 0 ∷ get_or bytes (at + 1) 0 ∷ take 2 l) (next (at + 2) (at + 3) (omega arith) (omega (arith, long)))
    ∙ ap (λ l. get_or bytes at 0 ∷ get_or bytes (at + 1) 0 ∷ get_or bytes (at + 2) 0 ∷ take 1 l) (next (at + 3) (at + 4) (omega arith) (omega (arith, long)))

module _ (bytes : List ℕ) (small : (i : ℕ) → get_or bytes i 0 < 256) (at : ℕ) (long : at + 4 ≤ length bytes) where
  abbrev four : List ℕ
  four = get_or bytes at 0 ∷ get_or bytes (at + 1) 0 ∷ get_or bytes (at + 2) 0 ∷ get_or bytes (at + 3) 0 ∷ []

  four_small : (i : ℕ) → get_or four i 0 < 256
  four_small zero = small at
  four_small (suc zero) = small (at + 1)
  four_small (suc (suc zero)) = small (at + 2)
  four_small (suc (suc (suc zero))) = small (at + 3)
  four_small (suc (suc (suc (suc i)))) = omega arith

  -- the number that was read is spelled there
  pub read_back : (n : ℕ) → n ≡ from_be_bytes w32 four → take 4 (drop at bytes) ≡ be32 n
  read_back n is = four_bytes bytes at long ∙ sym (be_bytes_4 four _ refl four_small refl) ∙ ap be32 (sym is)

-- ---- a block
module _ (bytes : List ℕ) (at number n first second : ℕ) (x y : List ℕ) (within : at + 12 + n ≤ length bytes) (short : n < 2 ^ 32) (spelled : take 4 (drop at bytes) ≡ be32 n) (x_is : x ≡ take 4 (drop at bytes))
    (first_there : take 4 (drop (at + 4) bytes) ≡ be32 first) (first_is : first ≡ sum_of number x) (y_is : y ≡ take n (drop (at + 8) bytes)) (second_there : take 4 (drop (at + 8 + n) bytes) ≡ be32 second) (second_is : second ≡ sum_of number y) where
  long_b : length (take n (drop (at + 8) bytes)) ≡ n
  long_b = length-take-le n (drop (at + 8) bytes) (omega (arith, within, length-drop (at + 8) bytes))

  first_seal : be32 first ≡ seal number (be32 n)
  unfolding seal
  first_seal = ap be32 (first_is ∙ ap (λ l. sum_of number l) (x_is ∙ spelled))

  second_seal : be32 second ≡ seal number (take n (drop (at + 8) bytes))
  unfolding seal
  second_seal = ap be32 (second_is ∙ ap (λ l. sum_of number l) y_is)

  parts : drop at bytes ≡ be32 n ++ (seal number (be32 n) ++ (take n (drop (at + 8) bytes) ++ (seal number (take n (drop (at + 8) bytes)) ++ drop 4 (drop (at + 8 + n) bytes))))
  parts =
      let eight : at + 4 + 4 ≡ at + 8 = omega arith in
      sym (take-append-drop 4 (drop at bytes)) ∙ ap (λ l. l ++ drop 4 (drop at bytes)) spelled
      ∙ ap (λ l. be32 n ++ l) (drop-drop 4 at bytes ∙ sym (take-append-drop 4 (drop (at + 4) bytes)) ∙ ap (λ l. l ++ drop 4 (drop (at + 4) bytes)) (first_there ∙ first_seal)
      ∙ ap (λ l. seal number (be32 n) ++ l) (drop-drop 4 (at + 4) bytes ∙ ap (λ k. drop k bytes) eight ∙ sym (take-append-drop n (drop (at + 8) bytes))
      ∙ ap (λ l. take n (drop (at + 8) bytes) ++ l) (drop-drop n (at + 8) bytes ∙ sym (take-append-drop 4 (drop (at + 8 + n) bytes)) ∙ ap (λ l. l ++ drop 4 (drop (at + 8 + n) bytes)) (second_there ∙ second_seal))))

  pub block_found : IsBlockAt bytes at number n
  block_found =
      let tail = drop 4 (drop (at + 8 + n) bytes) in
      let b = take n (drop (at + 8) bytes) in
      let whole : drop at bytes ≡ block number b ++ tail =
      parts ∙ ap (λ (k : ℕ). be32 k ++ (seal number (be32 k) ++ (b ++ (seal number b ++ tail)))) (sym long_b) ∙ sym (block_parts number b tail) in
      record {
        within = within;
        short = short;
        spelled = ap (λ l. take (n + 12) l) whole ∙ take_at (block number b) tail (n + 12) (omega (arith, length-block number b, long_b));
      }

-- bytes at which a block stands
module _ (bytes : List ℕ) (at number : ℕ) (content rest : List ℕ) (short : length content < 2 ^ 32) (is : drop at bytes ≡ block number content ++ rest) where
  abbrev spelled : List ℕ
  spelled = be32 (length content)

  block_is : drop at bytes ≡ be32 (length content) ++ (seal number (be32 (length content)) ++ (content ++ (seal number content ++ rest)))
  block_is = is ∙ block_parts number content rest

  pub block_long : 12 + length content ≤ length bytes - at
  block_long = let e = ap length is in omega (arith, e, length-append (block number content) rest, length-block number content, length-drop at bytes)

  length_there : take 4 (drop at bytes) ≡ be32 (length content)
  length_there = ap (λ l. take 4 l) block_is ∙ take_at (be32 (length content)) (seal number (be32 (length content)) ++ (content ++ (seal number content ++ rest))) 4 (length-spelled (length content))

  pub length_read : (n : ℕ) → n < 2 ^ 32 → take 4 (drop at bytes) ≡ be32 n → n ≡ length content
  length_read n small there = spelled_once n (length content) small short (sym there ∙ length_there)

  behind_length : drop (at + 4) bytes ≡ seal number (be32 (length content)) ++ (content ++ (seal number content ++ rest))
  behind_length =
      sym (drop-drop 4 at bytes) ∙ ap (λ l. drop 4 l) block_is ∙ drop_at (be32 (length content)) (seal number (be32 (length content)) ++ (content ++ (seal number content ++ rest))) 4 (length-spelled (length content))

  pub first_read : (first : ℕ) (x : List ℕ) → first < 2 ^ 32 → sum_of number x < 2 ^ 32 → x ≡ take 4 (drop at bytes) → take 4 (drop (at + 4) bytes) ≡ be32 first → first ≡ sum_of number x
  unfolding seal
  first_read first x small small_sum x_is there =
      let it = take_at (seal number (be32 (length content))) (content ++ (seal number content ++ rest)) 4 (length-seal number (be32 (length content))) in
      let same : be32 first ≡ be32 (sum_of number (be32 (length content))) = sym there ∙ ap (λ l. take 4 l) behind_length ∙ it in
      let x_sum : sum_of number x ≡ sum_of number (be32 (length content)) = ap (λ l. sum_of number l) (x_is ∙ length_there) in
      spelled_once first (sum_of number x) small small_sum (same ∙ ap be32 (sym x_sum))

  behind_seal : drop (at + 8) bytes ≡ content ++ (seal number content ++ rest)
  behind_seal =
      let eight : at + 4 + 4 ≡ at + 8 = omega arith in
      ap (λ k. drop k bytes) (sym eight) ∙ sym (drop-drop 4 (at + 4) bytes) ∙ ap (λ l. drop 4 l) behind_length
      ∙ drop_at (seal number (be32 (length content))) (content ++ (seal number content ++ rest)) 4 (length-seal number (be32 (length content)))

  pub second_read : (n second : ℕ) (y : List ℕ) → n ≡ length content → second < 2 ^ 32 → sum_of number y < 2 ^ 32 → y ≡ take n (drop (at + 8) bytes) → take 4 (drop (at + 8 + n) bytes) ≡ be32 second → second ≡ sum_of number y
  unfolding seal
  second_read n second y n_is small small_sum y_is there =
      let y_content : y ≡ content = y_is ∙ ap (λ l. take n l) behind_seal ∙ take_at content (seal number content ++ rest) n (sym n_is) in
      let behind_content : drop (at + 8 + n) bytes ≡ seal number content ++ rest = sym (drop-drop n (at + 8) bytes) ∙ ap (λ l. drop n l) behind_seal ∙ drop_at content (seal number content ++ rest) n (sym n_is) in
      let same : be32 second ≡ be32 (sum_of number content) = sym there ∙ ap (λ l. take 4 l) behind_content ∙ take_at (seal number content) rest 4 (length-seal number content) in
      spelled_once second (sum_of number y) small small_sum (same ∙ ap be32 (ap (λ l. sum_of number l) (sym y_content)))

-- a block that was read is that block
pub block_same : (bytes : List ℕ) (at number n : ℕ) → IsBlockAt bytes at number n → (content rest : List ℕ) → length content < 2 ^ 32 → drop at bytes ≡ block number content ++ rest → take n (drop (at + 8) bytes) ≡ content
block_same bytes at number n found content rest short is =
    let long : length (take n (drop (at + 8) bytes)) ≡ n = length-take-le n (drop (at + 8) bytes) (omega (arith, found.within, length-drop (at + 8) bytes)) in
    let split : drop at bytes ≡ block number (take n (drop (at + 8) bytes)) ++ drop (n + 12) (drop at bytes) = sym (take-append-drop (n + 12) (drop at bytes)) ∙ ap (λ l. l ++ drop (n + 12) (drop at bytes)) found.spelled in
    (block_once number (take n (drop (at + 8) bytes)) content (drop (n + 12) (drop at bytes)) rest (omega (arith, long, found.short)) short (sym split ∙ is)).0

-- ---- the records of a body
pub no_records : (bytes : List ℕ) (start : ℕ) (table : List Place) → AreRecords bytes start start table table
no_records bytes start table = record { group = []; up_to = omega arith; spelled = refl; table = sym (append-nil table) }

pub one_record : (bytes : List ℕ) (start at len : ℕ) (before after : List Place) → AreRecords bytes start at before after → take 4 (drop at bytes) ≡ be32 len → at + 4 + len ≤ length bytes
    → (items : List Place) → items ≡ after ++ record { at = at + 4; len = len } ∷ [] → AreRecords bytes start (at + 4 + len) before items
one_record bytes start at len before after found there within items items_is =
    let r = take len (drop (at + 4) bytes) in
    let long : length r ≡ len = length-take-le len (drop (at + 4) bytes) (omega (arith, within, length-drop (at + 4) bytes)) in
    let g = found.group in
    let tail = drop (at + 4 + len) bytes in
    let from_at : drop at bytes ≡ body (r ∷ []) ++ tail =
    sym (take-append-drop 4 (drop at bytes)) ∙ ap (λ l. l ++ drop 4 (drop at bytes)) there
    ∙ ap (λ l. be32 len ++ l) (drop-drop 4 at bytes ∙ sym (take-append-drop len (drop (at + 4) bytes)) ∙ ap (λ l. r ++ l) (drop-drop len (at + 4) bytes))
    ∙ ap (λ (k : ℕ). be32 k ++ (r ++ tail)) (sym long) ∙ sym (body_split r [] tail) in
    let e = ap length (body-append g (r ∷ [])) in
    let same : start + length (body g) ≡ at = found.up_to in
    record {
      group = g ++ r ∷ [];
      up_to = omega (arith, e, found.up_to, length-append (body g) (body (r ∷ [])), length-body r [], long);
      spelled = found.spelled ∙ ap (λ l. body g ++ l) from_at ∙ sym (append_assoc (body g) (body (r ∷ [])) tail) ∙ ap (λ l. l ++ tail) (sym (body-append g (r ∷ [])));
      table = items_is ∙ ap (λ t. t ++ record { at = at + 4; len = len } ∷ []) found.table
          ∙ append_assoc before (places start g) (record { at = at + 4; len = len } ∷ [])
          ∙ ap (λ (k : ℕ). before ++ (places start g ++ record { at = at + 4; len = k } ∷ [])) (sym long)
          ∙ ap (λ (k : ℕ). before ++ (places start g ++ record { at = k + 4; len = length r } ∷ [])) (sym same)
          ∙ ap (λ t. before ++ t) (sym (places-append g (r ∷ []) start));
    }

-- a body that begins with records goes on with records
body_rest : (found g : Group) (x : List ℕ) → length (body g) < 2 ^ 32 → body g ≡ body found ++ x → (more : Group) × (x ≡ body more)
body_rest [] g x short is = (g, sym is)
body_rest (f ∷ fs) [] x short is =
    let e = ap length is in absurd (omega (arith, e, length-append (body (f ∷ fs)) x, length-body f fs))
body_rest (f ∷ fs) (r ∷ rs) x short is =
    let e = ap length is in
    let both : be32 (length r) ++ (r ++ body rs) ≡ be32 (length f) ++ (f ++ (body fs ++ x)) = is ∙ body_split f fs x in
    let one = same_parts (be32 (length r)) (be32 (length f)) (r ++ body rs) (f ++ (body fs ++ x)) (length-spelled (length r) ∙ sym (length-spelled (length f))) both in
    let long : length r ≡ length f = spelled_once (length r) (length f) (omega (arith, short, length-body r rs)) (omega (arith, e, short, length-append (body (f ∷ fs)) x, length-body f fs)) one.0 in
    let two = same_parts r f (body rs) (body fs ++ x) long one.1 in
    body_rest fs rs x (omega (arith, short, length-body r rs)) two.1

module _ (bytes : List ℕ) (start end at : ℕ) (before after : List Place) (found : AreRecords bytes start at before after) (within : end ≤ length bytes) (at_in : at < end) (g : Group) (short : length (body g) < 2 ^ 32) (is : take (end - start) (drop start bytes) ≡ body g) where
  long_x : length (take (end - at) (drop at bytes)) ≡ end - at
  long_x = length-take-le (end - at) (drop at bytes) (omega (arith, within, length-drop at bytes))

  left : (more : Group) × (take (end - at) (drop at bytes) ≡ body more)
  left =
      let whole : drop start bytes ≡ (body found.group ++ take (end - at) (drop at bytes)) ++ drop (end - at) (drop at bytes) =
      found.spelled ∙ ap (λ l. body found.group ++ l) (sym (take-append-drop (end - at) (drop at bytes))) ∙ sym (append_assoc (body found.group) (take (end - at) (drop at bytes)) (drop (end - at) (drop at bytes))) in
      body_rest found.group g (take (end - at) (drop at bytes)) short
      (sym is ∙ ap (λ l. take (end - start) l) whole
      ∙ take_at (body found.group ++ take (end - at) (drop at bytes)) (drop (end - at) (drop at bytes)) (end - start) (omega (arith, length-append (body found.group) (take (end - at) (drop at bytes)), long_x, found.up_to, at_in)))

  pub record_long : 4 ≤ end - at
  record_long = go left.0 left.1
    where
      go : (more : Group) → take (end - at) (drop at bytes) ≡ body more → 4 ≤ end - at
      go [] e = let l = ap length e in absurd (omega (arith, l, long_x, at_in))
      go (r ∷ rs) e = let l = ap length e in omega (arith, l, long_x, length-body r rs)

  pub record_fits : (n : ℕ) → n < 2 ^ 32 → take 4 (drop at bytes) ≡ be32 n → 4 + n ≤ end - at
  record_fits n small there = go left.0 left.1
    where
      short_more : (more : Group) → take (end - at) (drop at bytes) ≡ body more → end - at < 2 ^ 32
      short_more more e =
          let l = ap length is in
          omega (arith, l, short, found.up_to, within, at_in, length-take-le (end - start) (drop start bytes) (omega (arith, within, length-drop start bytes)))

      go : (more : Group) → take (end - at) (drop at bytes) ≡ body more → 4 + n ≤ end - at
      go [] e = let l = ap length e in absurd (omega (arith, l, long_x, at_in))
      go (r ∷ rs) e =
          let l = ap length e in
          let four : take 4 (drop at bytes) ≡ be32 (length r) =
          sym (take-take 4 (end - at) (drop at bytes) record_long) ∙ ap (λ z. take 4 z) e ∙ take_at (be32 (length r)) (r ++ body rs) 4 (length-spelled (length r)) in
          let long : n ≡ length r = spelled_once n (length r) small (omega (arith, l, long_x, length-body r rs, short_more (r ∷ rs) e)) (sym there ∙ four) in
          omega (arith, l, long, long_x, length-body r rs)

-- ---- what was read so far
-- a gate that is not closed
pub open_sum : (bytes : List ℕ) (at : ℕ) → at + 1 < length bytes → (IsClosedAt bytes at → ⊥) → 0 < get_or bytes at 0 + get_or bytes (at + 1) 0
open_sum bytes at within opens = go (get_or bytes at 0) (get_or bytes (at + 1) 0) refl refl
  where
    go : (a b : ℕ) → get_or bytes at 0 ≡ a → get_or bytes (at + 1) 0 ≡ b → 0 < get_or bytes at 0 + get_or bytes (at + 1) 0
    go zero zero first second = absurd (opens (get_or_default bytes at 1 0 (omega (arith, within)) ∙ first, get_or_default bytes (at + 1) 1 0 within ∙ second))
    go (suc a) b first second = omega (arith, first)
    go zero (suc b) first second = omega (arith, second)

pub record IsSoFar (bytes : List ℕ) (table : List Place) (at count : ℕ) : Type 0 where
  pub groups : List Group
  pub read : IsRead bytes table at groups
  pub count_is : length groups ≡ count

pub nothing_read : (bytes : List ℕ) → IsSoFar bytes [] 0 0
nothing_read bytes = record { groups = []; read = none_read bytes; count_is = refl }

-- a closed gate ends the file
module _ (bytes : List ℕ) (table : List Place) (at count : ℕ) (so_far : IsSoFar bytes table at count) where
  pub all_read : at + 1 < length bytes → IsClosedAt bytes at → IsParsed bytes None table at count
  all_read within closed = record {
    read = subst (λ gs. IsRead bytes table at gs) (sym (read_found bytes table at so_far.groups so_far.read count so_far.count_is)) so_far.read;
    long = within;
    closed = closed;
  }

  pub all_stand : at + 1 < length bytes → IsClosedAt bytes at → StandsFor bytes (groups_in count bytes)
  all_stand within closed =
      subst (λ gs. StandsFor bytes gs) (append-nil so_far.groups ∙ sym (read_found bytes table at so_far.groups so_far.read count so_far.count_is))
      (read_stands bytes table at so_far.groups so_far.read [] (drop (at + 2) bytes, closed_split bytes at within closed))

  -- a file goes on with a gate
  pub no_gate : (groups : List Group) → StandsFor bytes groups → 2 ≤ length bytes - at
  no_gate groups stands =
      let rest = read_rest bytes table at so_far.groups so_far.read groups stands in
      go rest.others rest.stands
    where
      go : (others : List Group) → StandsFrom (length so_far.groups) others (drop at bytes) → 2 ≤ length bytes - at
      go [] left = let e = ap length left.1 in omega (arith, e, length-drop at bytes)
      go (g ∷ gs) left = let e = ap length left.1.split in omega (arith, e, length-drop at bytes)

  -- an open gate, and a block
  pub record Next (groups : List Group) : Type 0 where
    pub g : Group
    pub gs : List Group
    pub rest : List ℕ
    pub short : length (body g) < 2 ^ 32
    pub whole : ((get_or bytes at 0 ≡ 1) × (get_or bytes (at + 1) 0 ≡ 1)) ⊎ (gs ≡ [])
    pub is : drop (at + 2) bytes ≡ block count (body g) ++ rest
    pub stands : StandsFrom (suc (length so_far.groups)) gs rest

  pub next : at + 1 < length bytes → (IsClosedAt bytes at → ⊥) → (groups : List Group) → StandsFor bytes groups → Next groups
  next within opens groups stands =
      let rest = read_rest bytes table at so_far.groups so_far.read groups stands in
      go rest.others rest.stands
    where
      go : (others : List Group) → StandsFrom (length so_far.groups) others (drop at bytes) → Next groups
      go [] left = absurd (opens (closed_from bytes at left.0 left.1).1)
      go (g ∷ gs) left =
          let begins = left.1 in
          let split : get_or bytes at 0 ∷ get_or bytes (at + 1) 0 ∷ drop (at + 2) bytes ≡ begins.first ∷ begins.second ∷ (block (length so_far.groups) (body g) ++ left.0) = sym (gate_split bytes at within) ∙ begins.split in
          let one : get_or bytes at 0 ≡ begins.first = ap (λ l. get_or l 0 0) split in
          let two : get_or bytes (at + 1) 0 ≡ begins.second = ap (λ l. get_or l 1 0) split in
          let whole : ((get_or bytes at 0 ≡ 1) × (get_or bytes (at + 1) 0 ≡ 1)) ⊎ (gs ≡ []) = elim begins.whole [
            | inl both ↦ inl (one ∙ both.0, two ∙ both.1)
            | inr last ↦ inr last
          ] in
          record {
            g = g;
            gs = gs;
            rest = left.0;
            short = begins.short;
            whole = whole;
            is = ap (λ l. drop 2 l) split ∙ ap (λ k. block k (body g) ++ left.0) so_far.count_is;
            stands = left.2;
          }

  -- one group more
  module _ (n : ℕ) (found : IsBlockAt bytes (at + 2) count n) (items : List Place) (records : AreRecords bytes (at + 10) (at + 10 + n) table items) where
    abbrev g : Group
    g = records.group

    long_g : length (body records.group) ≡ n
    long_g = omega (arith, records.up_to)

    short_g : length (body records.group) < 2 ^ 32
    short_g = omega (arith, long_g, found.short)

    body_there : take n (drop (at + 2 + 8) bytes) ≡ body records.group
    body_there =
        let ten : at + 2 + 8 ≡ at + 10 = omega arith in
        ap (λ k. take n (drop k bytes)) ten ∙ ap (λ l. take n l) records.spelled ∙ take_at (body records.group) (drop (at + 10 + n) bytes) n long_g

    block_there : drop (at + 2) bytes ≡ block count (body records.group) ++ drop (n + 12) (drop (at + 2) bytes)
    block_there =
        sym (take-append-drop (n + 12) (drop (at + 2) bytes)) ∙ ap (λ l. l ++ drop (n + 12) (drop (at + 2) bytes)) (found.spelled ∙ ap (λ l. block count l) body_there)

    -- another file that stands for the rest has this group
    pub same_group : (groups : List Group) (it : Next groups) → (body records.group ≡ body it.g) × (drop (n + 12) (drop (at + 2) bytes) ≡ it.rest)
    same_group groups it = block_once count (body records.group) (body it.g) (drop (n + 12) (drop (at + 2) bytes)) it.rest short_g it.short (sym block_there ∙ it.is)

    end_same : at + 14 + length (body records.group) ≡ at + 14 + n
    end_same = omega (arith, long_g)

    tail_is : drop (n + 12) (drop (at + 2) bytes) ≡ drop (at + 14 + n) bytes
    tail_is = let e : at + 2 + (n + 12) ≡ at + 14 + n = omega arith in drop-drop (n + 12) (at + 2) bytes ∙ ap (λ k. drop k bytes) e

    -- with the bytes of a file whose gate is 01 01
    module _ (file : List ℕ) (read : IsRead file table at so_far.groups) (is : drop at file ≡ 1 ∷ 1 ∷ drop (at + 2) bytes) where
      there : drop at file ≡ 1 ∷ 1 ∷ (block (length so_far.groups) (body records.group) ++ drop (n + 12) (drop (at + 2) bytes))
      there = is ∙ ap (λ l. 1 ∷ 1 ∷ l) (block_there ∙ ap (λ k. block k (body records.group) ++ drop (n + 12) (drop (at + 2) bytes)) (sym so_far.count_is))

      more_read : IsRead file items (at + 14 + n) (so_far.groups ++ records.group ∷ [])
      more_read =
          subst (λ k. IsRead file items k (so_far.groups ++ records.group ∷ [])) end_same
          (subst (λ t. IsRead file t (at + 14 + length (body records.group)) (so_far.groups ++ records.group ∷ [])) (sym records.table)
          (read_more file table at so_far.groups read records.group (drop (n + 12) (drop (at + 2) bytes)) short_g there))

      more_count : length (so_far.groups ++ records.group ∷ []) ≡ count + 1
      more_count = omega (arith, so_far.count_is, length-append so_far.groups (records.group ∷ []))

      more_behind : drop (at + 14 + n) file ≡ drop (at + 14 + n) bytes
      more_behind =
          ap (λ k. drop k file) (sym end_same) ∙ read_behind file table at so_far.groups read records.group (drop (n + 12) (drop (at + 2) bytes)) short_g there ∙ tail_is

    pub one_more : at + 1 < length bytes → get_or bytes at 0 ≡ 1 → get_or bytes (at + 1) 0 ≡ 1 → IsSoFar bytes items (at + 14 + n) (count + 1)
    one_more within first second =
        let is : drop at bytes ≡ 1 ∷ 1 ∷ drop (at + 2) bytes =
        gate_split bytes at within ∙ ap (λ x. x ∷ get_or bytes (at + 1) 0 ∷ drop (at + 2) bytes) first ∙ ap (λ x. 1 ∷ x ∷ drop (at + 2) bytes) second in
        record {
          groups = so_far.groups ++ records.group ∷ [];
          read = more_read bytes so_far.read is;
          count_is = more_count bytes so_far.read is;
        }

    -- the last group, behind a torn gate
    module _ (within : at + 1 < length bytes) (torn : (get_or bytes at 0 ≡ 1) × (get_or bytes (at + 1) 0 ≡ 1) → ⊥) (opens : IsClosedAt bytes at → ⊥) where
      -- its group is the last of a file, and a closed gate follows
      pub last_closed : (groups : List Group) → StandsFor bytes groups → ((at + 14 + n + 1 < length bytes) × IsClosedAt bytes (at + 14 + n))
      last_closed groups stands =
          let it = next within opens groups stands in
          let alone : it.gs ≡ [] = elim it.whole [
            | inl both ↦ absurd (torn both)
            | inr last ↦ last
          ] in
          let left : StandsFrom (suc (length so_far.groups)) [] it.rest = subst (λ xs. StandsFrom (suc (length so_far.groups)) xs it.rest) alone it.stands in
          closed_from bytes (at + 14 + n) left.0 (sym tail_is ∙ (same_group groups it).1 ∙ left.1)

      module _ (long : at + 14 + n + 1 < length bytes) (closed : IsClosedAt bytes (at + 14 + n)) where
        mended_split : written bytes at (1 ∷ 1 ∷ []) ≡ take at bytes ++ 1 ∷ 1 ∷ drop (at + 2) bytes
        mended_split = append_assoc (take at bytes) (1 ∷ 1 ∷ []) (drop (at + 2) bytes)

        long_front : length (take at bytes) ≡ at
        long_front = length-take-le at bytes so_far.read.long

        mended_front : take at (written bytes at (1 ∷ 1 ∷ [])) ≡ take at bytes
        mended_front = ap (λ l. take at l) mended_split ∙ take_at (take at bytes) (1 ∷ 1 ∷ drop (at + 2) bytes) at long_front

        mended_from : drop at (written bytes at (1 ∷ 1 ∷ [])) ≡ 1 ∷ 1 ∷ drop (at + 2) bytes
        mended_from = ap (λ l. drop at l) mended_split ∙ drop_at (take at bytes) (1 ∷ 1 ∷ drop (at + 2) bytes) at long_front

        mended_read : IsRead (written bytes at (1 ∷ 1 ∷ [])) table at so_far.groups
        mended_read =
            let e = ap length mended_split in
            read_stays bytes table at so_far.groups so_far.read (written bytes at (1 ∷ 1 ∷ [])) mended_front (omega (arith, e, long_front, length-append (take at bytes) (1 ∷ 1 ∷ drop (at + 2) bytes)))

        groups_are : groups_in (count + 1) (written bytes at (1 ∷ 1 ∷ [])) ≡ so_far.groups ++ records.group ∷ []
        groups_are =
            read_found (written bytes at (1 ∷ 1 ∷ [])) items (at + 14 + n) (so_far.groups ++ records.group ∷ []) (more_read (written bytes at (1 ∷ 1 ∷ [])) mended_read mended_from) (count + 1)
            (more_count (written bytes at (1 ∷ 1 ∷ [])) mended_read mended_from)

        pub torn_parsed : IsParsed bytes (Some at) items (at + 14 + n) (count + 1)
        torn_parsed =
            let end = closed_from (written bytes at (1 ∷ 1 ∷ [])) (at + 14 + n) (drop (at + 14 + n + 2) bytes) (more_behind (written bytes at (1 ∷ 1 ∷ [])) mended_read mended_from ∙ closed_split bytes (at + 14 + n) long closed) in
            record {
              read = subst (λ gs. IsRead (written bytes at (1 ∷ 1 ∷ [])) items (at + 14 + n) gs) (sym groups_are) (more_read (written bytes at (1 ∷ 1 ∷ [])) mended_read mended_from);
              long = end.0;
              closed = end.1;
            }

        is_open : 0 < get_or bytes at 0 + get_or bytes (at + 1) 0
        is_open = open_sum bytes at within opens

        pub torn_stands : StandsFor bytes (groups_in (count + 1) (written bytes at (1 ∷ 1 ∷ [])))
        torn_stands =
            subst (λ gs. StandsFor bytes gs) (sym groups_are)
            (read_stands bytes table at so_far.groups so_far.read (records.group ∷ []) (
              drop (n + 12) (drop (at + 2) bytes),
              record {
                first = get_or bytes at 0;
                second = get_or bytes (at + 1) 0;
                not_closed = is_open;
                whole = inr refl;
                short = short_g;
                split = gate_split bytes at within ∙ ap (λ l. get_or bytes at 0 ∷ get_or bytes (at + 1) 0 ∷ l) (block_there ∙ ap (λ k. block k (body records.group) ++ drop (n + 12) (drop (at + 2) bytes)) (sym so_far.count_is));
              },
              (drop (at + 14 + n + 2) bytes, tail_is ∙ closed_split bytes (at + 14 + n) long closed),
            ))

        pub torn_gate : IsTorn bytes at (groups_in (count + 1) (written bytes at (1 ∷ 1 ∷ [])))
        torn_gate = record {
          before = so_far.groups;
          last = records.group;
          split = groups_are;
          place = at_is bytes table at so_far.groups so_far.read;
          within = within;
          not_closed = is_open;
          torn = torn;
        }
