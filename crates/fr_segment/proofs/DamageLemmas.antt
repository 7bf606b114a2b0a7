-- What one changed byte makes of a file.
use Rattle.std.proofs.Common.{◌≡◌, ◌⊎◌, inl, inr, ℕ, zero, suc, ◌+◌, ◌<◌, ◌≤◌, ◌^◌, List, [], ◌∷◌, ◌++◌, length, get_or, take, drop, refl, sym, ap, ◌∙◌, subst, arith, append_assoc, length-append}
use Rattle.std.proofs.lemmas.List.{take_at, drop_at, append-nil}
use Rattle.fr_segment.specs.Crc.{sum_of}
use Rattle.std.specs.Prelude.{Bool, true, false, nat_lt}
use Rattle.std.proofs.lemmas.Bool.{ltb-true, ltb-false}
use Rattle.fr_segment.specs.File.{Group, body, seal, block, groups_from, AreShort, BeginsNoBlock, Begins, StandsFrom, StandsFor, IsAtRest}
use Rattle.fr_segment.specs.Laws.{AreBytes, IsOneOff}
use Rattle.fr_segment.proofs.AllLemmas.{all_head, all_rest, all_left, all_right}
use Rattle.fr_segment.proofs.CrcLemmas.{one_byte_behind, sum_lt}
use Rattle.fr_segment.proofs.FileLemmas.{be32, same_parts, spelled_once, length-spelled, length-seal, block_parts, length-block, block_once, body_once, group_split, length-groups, rest_from, stands_from, unique, unique_from}

abbrev IsByte : ℕ → Type 0
IsByte b = b < 256

-- lists that differ at a place: of one length, the place is within, and they are not the same
off_long : (xs ys : List ℕ) (at : ℕ) → IsOneOff xs ys at → length ys ≡ length xs
off_long [] ys at off = absurd off
off_long (x ∷ xs) [] at off = absurd off
off_long (x ∷ xs) (y ∷ ys) zero off = ap (λ l. suc (length l)) off.1
off_long (x ∷ xs) (y ∷ ys) (suc at) off = ap suc (off_long xs ys at off.1)

off_within : (xs ys : List ℕ) (at : ℕ) → IsOneOff xs ys at → at < length xs
off_within [] ys at off = absurd off
off_within (x ∷ xs) [] at off = absurd off
off_within (x ∷ xs) (y ∷ ys) zero off = omega arith
off_within (x ∷ xs) (y ∷ ys) (suc at) off = omega (arith, off_within xs ys at off.1)

off_same : (xs : List ℕ) (at : ℕ) → IsOneOff xs xs at → ⊥
off_same [] at off = off
off_same (x ∷ xs) zero off = off.0 refl
off_same (x ∷ xs) (suc at) off = off_same xs at off.1

-- the place is in the front, or behind it
pub record InFront (front rest now : List ℕ) (at : ℕ) : Type 0 where
  pub changed : List ℕ
  pub split : now ≡ changed ++ rest
  pub off : IsOneOff front changed at

pub record Behind (front rest now : List ℕ) (at : ℕ) : Type 0 where
  pub changed : List ℕ
  pub place : ℕ
  pub split : now ≡ front ++ changed
  pub is : at ≡ length front + place
  pub off : IsOneOff rest changed place

off_split : (front rest now : List ℕ) (at : ℕ) → IsOneOff (front ++ rest) now at → InFront front rest now at ⊎ Behind front rest now at
off_split [] rest now at off = inr (record { changed = now; place = at; split = refl; is = omega arith; off = off })
off_split (x ∷ front) rest [] at off = absurd off
off_split (x ∷ front) rest (y ∷ now) zero off = inl (record { changed = y ∷ front; split = ap (λ l. y ∷ l) off.1; off = (off.0, refl) })
off_split (x ∷ front) rest (y ∷ now) (suc at) off = elim (off_split front rest now at off.1) [
  | inl it ↦ inl (record { changed = y ∷ it.changed; split = ap (λ l. y ∷ l) it.split; off = (off.0, it.off) })
  | inr be ↦ inr (record { changed = be.changed; place = be.place; split = ap (λ b. b ∷ now) off.0 ∙ ap (λ l. x ∷ l) be.split; is = omega (arith, be.is); off = be.off })
]

-- the checksum of other bytes is another
seal_told : (number : ℕ) (xs ys : List ℕ) (at : ℕ) → AreBytes xs → AreBytes ys → IsOneOff xs ys at → seal number xs ≡ seal number ys → ⊥
unfolding seal
seal_told number xs ys at bytes_x bytes_y off same =
    one_byte_behind number xs ys at bytes_x bytes_y off (spelled_once (sum_of number xs) (sum_of number ys) (sum_lt number xs bytes_x) (sum_lt number ys bytes_y) same)

-- A byte in a block, or behind it, is changed, and another block stands there: then the change is behind, and the block
-- is the same.
pub record SameBlock (b c rest now other : List ℕ) (at : ℕ) : Type 0 where
  pub same : b ≡ c
  pub place : ℕ
  pub is : at ≡ 12 + length b + place
  pub off : IsOneOff rest other place

module _ (number : ℕ) (b c rest other now : List ℕ) (at : ℕ) (short_b : length b < 2 ^ 32) (short_c : length c < 2 ^ 32) (bytes : AreBytes (block number b ++ rest)) (bytes_now : AreBytes now)
    (off : IsOneOff (block number b ++ rest) now at) (is : now ≡ block number c ++ other) where
  abbrev n : List ℕ
  n = be32 (length b)

  abbrev m : List ℕ
  m = be32 (length c)

  abbrev sn : List ℕ
  sn = seal number (be32 (length b))

  abbrev sb : List ℕ
  sb = seal number b

  bytes_parts : AreBytes (n ++ (sn ++ (b ++ (sb ++ rest))))
  bytes_parts = subst AreBytes (block_parts number b rest) bytes

  off_parts : IsOneOff (n ++ (sn ++ (b ++ (sb ++ rest)))) now at
  off_parts = subst (λ l. IsOneOff l now at) (block_parts number b rest) off

  there : now ≡ m ++ (seal number m ++ (c ++ (seal number c ++ other)))
  there = is ∙ block_parts number c other

  in_length : InFront n (sn ++ (b ++ (sb ++ rest))) now at → ⊥
  in_length it =
      let long : length it.changed ≡ length m = off_long n it.changed at it.off ∙ length-spelled (length b) ∙ sym (length-spelled (length c)) in
      let one = same_parts it.changed m (sn ++ (b ++ (sb ++ rest))) (seal number m ++ (c ++ (seal number c ++ other))) long (sym it.split ∙ there) in
      let two = same_parts sn (seal number m) (b ++ (sb ++ rest)) (c ++ (seal number c ++ other)) (length-seal number n ∙ sym (length-seal number m)) one.1 in
      seal_told number n it.changed at (all_left IsByte n (sn ++ (b ++ (sb ++ rest))) bytes_parts)
      (all_left IsByte it.changed (sn ++ (b ++ (sb ++ rest))) (subst AreBytes it.split bytes_now)) it.off (two.0 ∙ ap (λ l. seal number l) (sym one.0))

  -- behind the length
  module _ (k : ℕ) (x : List ℕ) (at_is : at ≡ length n + k) (split : now ≡ n ++ x) (off_x : IsOneOff (sn ++ (b ++ (sb ++ rest))) x k) where
    one : (n ≡ m) × (x ≡ seal number m ++ (c ++ (seal number c ++ other)))
    one = same_parts n m x (seal number m ++ (c ++ (seal number c ++ other))) (length-spelled (length b) ∙ sym (length-spelled (length c))) (sym split ∙ there)

    long : length b ≡ length c
    long = spelled_once (length b) (length c) short_b short_c one.0

    sn_is : sn ≡ seal number m
    sn_is = ap (λ l. seal number l) one.0

    in_seal : InFront sn (b ++ (sb ++ rest)) x k → ⊥
    in_seal it =
        let l = off_long sn it.changed k it.off ∙ length-seal number n ∙ sym (length-seal number m) in
        let two = same_parts it.changed (seal number m) (b ++ (sb ++ rest)) (c ++ (seal number c ++ other)) l (sym it.split ∙ one.1) in
        off_same sn k (subst (λ y. IsOneOff sn y k) (two.0 ∙ sym sn_is) it.off)

    -- behind its checksum
    module _ (j : ℕ) (y : List ℕ) (k_is : k ≡ length sn + j) (split_y : x ≡ sn ++ y) (off_y : IsOneOff (b ++ (sb ++ rest)) y j) where
      two : (sn ≡ seal number m) × (y ≡ c ++ (seal number c ++ other))
      two = same_parts sn (seal number m) y (c ++ (seal number c ++ other)) (length-seal number n ∙ sym (length-seal number m)) (sym split_y ∙ one.1)

      bytes_y : AreBytes y
      bytes_y = all_right IsByte sn y (subst AreBytes split_y (all_right IsByte n x (subst AreBytes split bytes_now)))

      bytes_b : AreBytes b
      bytes_b = all_left IsByte b (sb ++ rest) (all_right IsByte sn (b ++ (sb ++ rest)) (all_right IsByte n (sn ++ (b ++ (sb ++ rest))) bytes_parts))

      in_body : InFront b (sb ++ rest) y j → ⊥
      in_body it =
          let three = same_parts it.changed c (sb ++ rest) (seal number c ++ other) (off_long b it.changed j it.off ∙ long) (sym it.split ∙ two.1) in
          let four = same_parts sb (seal number c) rest other (length-seal number b ∙ sym (length-seal number c)) three.1 in
          seal_told number b it.changed j bytes_b (all_left IsByte it.changed (sb ++ rest) (subst AreBytes it.split bytes_y)) it.off (four.0 ∙ ap (λ l. seal number l) (sym three.0))

      -- behind the body
      module _ (i : ℕ) (z : List ℕ) (j_is : j ≡ length b + i) (split_z : y ≡ b ++ z) (off_z : IsOneOff (sb ++ rest) z i) where
        three : (b ≡ c) × (z ≡ seal number c ++ other)
        three = same_parts b c z (seal number c ++ other) long (sym split_z ∙ two.1)

        in_last : InFront sb rest z i → ⊥
        in_last it =
            let l = off_long sb it.changed i it.off ∙ length-seal number b ∙ sym (length-seal number c) in
            let four = same_parts it.changed (seal number c) rest other l (sym it.split ∙ three.1) in
            off_same sb i (subst (λ w. IsOneOff sb w i) (four.0 ∙ ap (λ l. seal number l) (sym three.0)) it.off)

        last : InFront sb rest z i ⊎ Behind sb rest z i → SameBlock b c rest now other at
        last (inl it) = absurd (in_last it)
        last (inr be) =
            let four = same_parts sb (seal number c) be.changed other (length-seal number b ∙ sym (length-seal number c)) (sym be.split ∙ three.1) in
            record {
              same = three.0;
              place = be.place;
              is = omega (arith, at_is, k_is, j_is, be.is, length-spelled (length b), length-seal number n, length-seal number b);
              off = subst (λ w. IsOneOff rest w be.place) four.1 be.off;
            }

      behind_seal : InFront b (sb ++ rest) y j ⊎ Behind b (sb ++ rest) y j → SameBlock b c rest now other at
      behind_seal (inl it) = absurd (in_body it)
      behind_seal (inr be) = last be.place be.changed be.is be.split be.off (off_split sb rest be.changed be.place be.off)

    behind_length : InFront sn (b ++ (sb ++ rest)) x k ⊎ Behind sn (b ++ (sb ++ rest)) x k → SameBlock b c rest now other at
    behind_length (inl it) = absurd (in_seal it)
    behind_length (inr be) = behind_seal be.place be.changed be.is be.split be.off (off_split b (sb ++ rest) be.changed be.place be.off)

  in_parts : InFront n (sn ++ (b ++ (sb ++ rest))) now at ⊎ Behind n (sn ++ (b ++ (sb ++ rest))) now at → SameBlock b c rest now other at
  in_parts (inl it) = absurd (in_length it)
  in_parts (inr be) = behind_length be.place be.changed be.is be.split be.off (off_split sn (b ++ (sb ++ rest)) be.changed be.place be.off)

  pub block_told : SameBlock b c rest now other at
  block_told = in_parts (off_split n (sn ++ (b ++ (sb ++ rest))) now at off_parts)

-- ---- before the closed gate
abbrev Told : ℕ → List Group → List ℕ → Type 0
Told number gs tail =
    (now : List ℕ) (others : List Group) (at : ℕ) → AreBytes now → IsOneOff (groups_from number gs ++ 0 ∷ 0 ∷ tail) now at → at < length (groups_from number gs) → StandsFrom number others now → others ≡ gs

module _ (number : ℕ) (g : Group) (gs : List Group) (tail : List ℕ) (short : AreShort (g ∷ gs)) (bytes : AreBytes (1 ∷ 1 ∷ (block number (body g) ++ (groups_from (suc number) gs ++ 0 ∷ 0 ∷ tail)))) (others_told : Told (suc number) gs tail) where
  short_g : length (body g) < 2 ^ 32
  short_g = all_head (λ (x : Group). length (body x) < 2 ^ 32) g gs short

  short_gs : AreShort gs
  short_gs = all_rest (λ (x : Group). length (body x) < 2 ^ 32) g gs short

  stands_behind : StandsFrom (suc number) gs (groups_from (suc number) gs ++ 0 ∷ 0 ∷ tail)
  stands_behind = subst (λ xs. StandsFrom (suc number) xs (groups_from (suc number) gs ++ 0 ∷ 0 ∷ tail)) (append-nil gs) (stands_from gs [] (suc number) (0 ∷ 0 ∷ tail) short_gs (tail, refl))

  bytes_block : AreBytes (block number (body g) ++ (groups_from (suc number) gs ++ 0 ∷ 0 ∷ tail))
  bytes_block = all_rest IsByte 1 (block number (body g) ++ (groups_from (suc number) gs ++ 0 ∷ 0 ∷ tail)) (all_rest IsByte 1 (1 ∷ (block number (body g) ++ (groups_from (suc number) gs ++ 0 ∷ 0 ∷ tail))) bytes)

  -- the gate is changed: it is open yet
  gate_changed : (first second : ℕ) (others : List Group) → (first ≡ 1) ⊎ (second ≡ 1) → StandsFrom number others (first ∷ second ∷ (block number (body g) ++ (groups_from (suc number) gs ++ 0 ∷ 0 ∷ tail))) → others ≡ g ∷ gs
  gate_changed first second [] opens stands =
      let one : first ≡ 0 = ap (λ l. get_or l 0 0) stands.1 in
      let two : second ≡ 0 = ap (λ l. get_or l 1 0) stands.1 in
      let never : ⊥ = elim opens [
        | inl e ↦ omega (arith, e, one)
        | inr e ↦ omega (arith, e, two)
      ] in
      absurd never
  gate_changed first second (h ∷ hs) opens stands =
      let begins = stands.1 in
      let parts = block_once number (body g) (body h) (groups_from (suc number) gs ++ 0 ∷ 0 ∷ tail) stands.0 short_g begins.short (ap (λ l. drop 2 l) begins.split) in
      let same : g ≡ h = body_once g h short_g parts.0 in
      let others : hs ≡ gs = unique_from gs hs (suc number) (groups_from (suc number) gs ++ 0 ∷ 0 ∷ tail) stands_behind (subst (λ l. StandsFrom (suc number) hs l) (sym parts.1) stands.2) in
      ap (λ x. x ∷ hs) (sym same) ∙ ap (λ xs. g ∷ xs) others

  -- the block is changed, or what is behind it
  block_changed : (rest : List ℕ) (others : List Group) (at : ℕ) → AreBytes rest → IsOneOff (block number (body g) ++ (groups_from (suc number) gs ++ 0 ∷ 0 ∷ tail)) rest at
      → at < 12 + length (body g) + length (groups_from (suc number) gs) → StandsFrom number others (1 ∷ 1 ∷ rest) → others ≡ g ∷ gs
  block_changed rest [] at bytes_now off within stands =
      let one : 1 ≡ 0 = ap (λ l. get_or l 0 0) stands.1 in
      absurd (omega (arith, one))
  block_changed rest (h ∷ hs) at bytes_now off within stands =
      let begins = stands.1 in
      let is : rest ≡ block number (body h) ++ stands.0 = ap (λ l. drop 2 l) begins.split in
      let told = block_told number (body g) (body h) (groups_from (suc number) gs ++ 0 ∷ 0 ∷ tail) stands.0 rest at short_g begins.short bytes_block bytes_now off is in
      let same : g ≡ h = body_once g h short_g told.same in
      let bytes_other : AreBytes stands.0 = all_right IsByte (block number (body h)) stands.0 (subst AreBytes is bytes_now) in
      let others : hs ≡ gs = others_told stands.0 hs told.place bytes_other told.off (omega (arith, told.is, within)) stands.2 in
      ap (λ x. x ∷ hs) (sym same) ∙ ap (λ xs. g ∷ xs) others

  changed_at : (now : List ℕ) (others : List Group) (at : ℕ) → AreBytes now → IsOneOff (1 ∷ 1 ∷ (block number (body g) ++ (groups_from (suc number) gs ++ 0 ∷ 0 ∷ tail))) now at
      → at < 14 + length (body g) + length (groups_from (suc number) gs) → StandsFrom number others now → others ≡ g ∷ gs
  changed_at [] others at bytes_now off within stands = absurd off
  changed_at (y ∷ ys) others zero bytes_now off within stands =
      gate_changed y 1 others (inr refl) (subst (λ l. StandsFrom number others (y ∷ l)) off.1 stands)
  changed_at (y ∷ []) others (suc at) bytes_now off within stands = absurd off.1
  changed_at (y ∷ z ∷ zs) others (suc zero) bytes_now off within stands =
      gate_changed y z others (inl off.0) (subst (λ l. StandsFrom number others (y ∷ z ∷ l)) off.1.1 stands)
  changed_at (y ∷ z ∷ zs) others (suc (suc at)) bytes_now off within stands =
      block_changed zs others at (all_rest IsByte z zs (all_rest IsByte y (z ∷ zs) bytes_now)) off.1.1 (omega (arith, within))
      (subst (λ x. StandsFrom number others (x ∷ 1 ∷ zs)) off.0 (subst (λ x. StandsFrom number others (y ∷ x ∷ zs)) off.1.0 stands))

  one_told : Told number (g ∷ gs) tail
  one_told now others at bytes_now off within stands =
      changed_at now others at bytes_now (subst (λ l. IsOneOff l now at) (group_split number g gs (0 ∷ 0 ∷ tail)) off) (omega (arith, within, length-groups number g gs)) stands

told : (gs : List Group) (number : ℕ) (tail : List ℕ) → AreShort gs → AreBytes (groups_from number gs ++ 0 ∷ 0 ∷ tail) → Told number gs tail
told [] number tail short bytes now others at bytes_now off within stands = absurd (omega (arith, within))
told (g ∷ gs) number tail short bytes now others at bytes_now off within stands =
    let parts : AreBytes (1 ∷ 1 ∷ (block number (body g) ++ (groups_from (suc number) gs ++ 0 ∷ 0 ∷ tail))) = subst AreBytes (group_split number g gs (0 ∷ 0 ∷ tail)) bytes in
    let one = all_rest IsByte 1 (1 ∷ (block number (body g) ++ (groups_from (suc number) gs ++ 0 ∷ 0 ∷ tail))) parts in
    let two = all_rest IsByte 1 (block number (body g) ++ (groups_from (suc number) gs ++ 0 ∷ 0 ∷ tail)) one in
    one_told number g gs tail short parts (told gs (suc number) tail (all_rest (λ (x : Group). length (body x) < 2 ^ 32) g gs short) (all_right IsByte (block number (body g)) (groups_from (suc number) gs ++ 0 ∷ 0 ∷ tail) two)) now others at bytes_now off within stands

pub damage_is_told : (file now : List ℕ) (groups : List Group) (at : ℕ) → IsAtRest groups file → AreBytes file → AreBytes now → IsOneOff file now at
    → at < length (groups_from 0 groups) → (others : List Group) → StandsFor now others → others ≡ groups
damage_is_told file now groups at rest bytes bytes_now off within others stands =
    told groups 0 rest.rest rest.short (subst AreBytes rest.split bytes) now others at bytes_now (subst (λ l. IsOneOff l now at) rest.split off) within stands

-- ---- the closed gate
module _ (groups : List Group) (tail now : List ℕ) (short : AreShort groups) (guarded : BeginsNoBlock (length groups) tail) (others : List Group) (stands : StandsFor now others) where
  -- what goes on behind another gate would begin with a block
  none_there : (first second : ℕ) → 0 < first + second → (more : List Group) → StandsFrom (length groups) more (first ∷ second ∷ tail) → ⊥
  none_there first second opens [] behind_stands =
      let one : first ≡ 0 = ap (λ l. get_or l 0 0) behind_stands.1 in
      let two : second ≡ 0 = ap (λ l. get_or l 1 0) behind_stands.1 in
      omega (arith, one, two, opens)
  none_there first second opens (h ∷ hs) behind_stands = let begins = behind_stands.1 in guarded (body h) behind_stands.0 begins.short (ap (λ l. drop 2 l) begins.split)

  closed_changed : (changed : List ℕ) (at : ℕ) → IsOneOff (0 ∷ 0 ∷ tail) changed at → at < 2 → now ≡ groups_from 0 groups ++ changed → ⊥
  closed_changed changed at off within is =
      let left = rest_from groups others 0 changed now short is stands in
      let e : 0 + length groups ≡ length groups = omega arith in
      go changed at off within left.others (subst (λ k. StandsFrom k left.others changed) e left.stands)
    where
      nonzero : (x : ℕ) → (0 ≡ x → ⊥) → 0 < x
      nonzero zero never = absurd (never refl)
      nonzero (suc x) never = omega arith

      go : (changed : List ℕ) (at : ℕ) → IsOneOff (0 ∷ 0 ∷ tail) changed at → at < 2 → (more : List Group) → StandsFrom (length groups) more changed → ⊥
      go [] at off within more behind_stands = off
      go (y ∷ ys) zero off within more behind_stands =
          let opens = nonzero y off.0 in
          none_there y 0 (omega (arith, opens)) more (subst (λ l. StandsFrom (length groups) more (y ∷ l)) off.1 behind_stands)
      go (y ∷ []) (suc at) off within more behind_stands = off.1
      go (y ∷ z ∷ zs) (suc zero) off within more behind_stands =
          let opens = nonzero z off.1.0 in
          none_there y z (omega (arith, opens)) more (subst (λ l. StandsFrom (length groups) more (y ∷ z ∷ l)) off.1.1 behind_stands)
      go (y ∷ z ∷ zs) (suc (suc at)) off within more behind_stands = omega (arith, within)

pub closed_is_told : (file now : List ℕ) (groups : List Group) (at : ℕ) → IsAtRest groups file → IsOneOff file now at
    → length (groups_from 0 groups) ≤ at → at < length (groups_from 0 groups) + 2 → (others : List Group) → StandsFor now others → ⊥
closed_is_told file now groups at rest off from within others stands =
    go (off_split (groups_from 0 groups) (0 ∷ 0 ∷ rest.rest) now at (subst (λ l. IsOneOff l now at) rest.split off))
  where
    go : InFront (groups_from 0 groups) (0 ∷ 0 ∷ rest.rest) now at ⊎ Behind (groups_from 0 groups) (0 ∷ 0 ∷ rest.rest) now at → ⊥
    go (inl it) = omega (arith, off_within (groups_from 0 groups) it.changed at it.off, from)
    go (inr be) = closed_changed groups rest.rest now rest.short rest.guarded others stands be.changed be.place be.off (omega (arith, be.is, within)) be.split

pub rest_is_free : (file now : List ℕ) (groups : List Group) (at : ℕ) → IsAtRest groups file → IsOneOff file now at → length (groups_from 0 groups) + 2 ≤ at → StandsFor now groups
rest_is_free file now groups at rest off from =
    go (off_split (groups_from 0 groups ++ 0 ∷ 0 ∷ []) rest.rest now at (subst (λ l. IsOneOff l now at) (rest.split ∙ sym (append_assoc (groups_from 0 groups) (0 ∷ 0 ∷ []) rest.rest)) off))
  where
    go : InFront (groups_from 0 groups ++ 0 ∷ 0 ∷ []) rest.rest now at ⊎ Behind (groups_from 0 groups ++ 0 ∷ 0 ∷ []) rest.rest now at → StandsFor now groups
    go (inl it) = absurd (omega (arith, off_within (groups_from 0 groups ++ 0 ∷ 0 ∷ []) it.changed at it.off, from, length-append (groups_from 0 groups) (0 ∷ 0 ∷ [])))
    go (inr be) =
        let stands : StandsFrom 0 (groups ++ []) (groups_from 0 groups ++ 0 ∷ 0 ∷ be.changed) = stands_from groups [] 0 (0 ∷ 0 ∷ be.changed) rest.short (be.changed, refl) in
        let is : groups_from 0 groups ++ 0 ∷ 0 ∷ be.changed ≡ now = sym (append_assoc (groups_from 0 groups) (0 ∷ 0 ∷ []) be.changed) ∙ sym be.split in
        subst (λ l. StandsFrom 0 groups l) is (subst (λ xs. StandsFrom 0 xs (groups_from 0 groups ++ 0 ∷ 0 ∷ be.changed)) (append-nil groups) stands)

-- ---- wherever it is
pub one_byte_is_told : (file now : List ℕ) (groups : List Group) (at : ℕ) → IsAtRest groups file → AreBytes file → AreBytes now → IsOneOff file now at
    → (others : List Group) → StandsFor now others → others ≡ groups
one_byte_is_told file now groups at rest bytes bytes_now off others stands = go (nat_lt at (length (groups_from 0 groups))) (nat_lt at (length (groups_from 0 groups) + 2)) refl refl
  where
    go : (a b : Bool) → nat_lt at (length (groups_from 0 groups)) ≡ a → nat_lt at (length (groups_from 0 groups) + 2) ≡ b → others ≡ groups
    go true b below shut = damage_is_told file now groups at rest bytes bytes_now off (ltb-true at (length (groups_from 0 groups)) below) others stands
    go false true below shut =
        absurd (closed_is_told file now groups at rest off (ltb-false at (length (groups_from 0 groups)) below) (ltb-true at (length (groups_from 0 groups) + 2) shut) others stands)
    go false false below shut =
        let same = rest_is_free file now groups at rest off (ltb-false at (length (groups_from 0 groups) + 2) shut) in
        unique now groups others same stands
