-- The bytes of a guard.
use Rattle.std.proofs.Common.{◌≡◌, ◌⊎◌, inl, inr, ℕ, ◌+◌, ◌-◌, ◌<◌, ◌≤◌, ◌^◌, List, [], ◌∷◌, ◌++◌, length, take, drop, refl, sym, ap, ◌∙◌, subst, arith, append_assoc, length-append, take-append-drop}
use Rattle.std.specs.Prelude.{All}
use Rattle.std.proofs.lemmas.List.{take_at, drop_at, take-take, drop-drop, length-take-le, length-drop}
use Rattle.fr_record.specs.Disk.{written}
use Rattle.fr_segment.specs.Crc.{sum_of}
use Rattle.fr_segment.specs.File.{seal, block, guard, BeginsNoBlock}
use Rattle.fr_segment.specs.Group.{IsBlockAt}
use Rattle.fr_segment.specs.Put.{IsAtGate, IsPut}
use Rattle.fr_segment.specs.Table.{IsGuarded}
use Rattle.fr_segment.proofs.AllLemmas.{all_first, all_none}
use Rattle.fr_segment.proofs.CrcLemmas.{sum_lt}
use Rattle.fr_segment.proofs.FileLemmas.{be32, same_parts, spelled_once, length-seal, block_parts}

zeros_small : All (λ b. b < 256) (be32 0)
zeros_small =
    all_first (λ b. b < 256) 0 (0 ∷ 0 ∷ 0 ∷ []) (omega arith)
    (all_first (λ b. b < 256) 0 (0 ∷ 0 ∷ []) (omega arith) (all_first (λ b. b < 256) 0 (0 ∷ []) (omega arith) (all_first (λ b. b < 256) 0 [] (omega arith) (all_none (λ b. b < 256)))))

-- a checksum is not what it lacks to the greatest one
never_wrong : (s : ℕ) → s < 2 ^ 32 → 2 ^ 32 - 1 - s ≡ s → ⊥
never_wrong s small same = omega (arith, small, same)

-- no block of the number begins with its guard
pub guards : (number : ℕ) (more : List ℕ) → BeginsNoBlock number (guard number ++ more)
unfolding guard seal
guards number more content rest short is =
    let s = sum_of number (be32 0) in
    let split = is ∙ block_parts number content rest in
    let one = same_parts (be32 0) (be32 (length content)) (be32 (2 ^ 32 - 1 - s) ++ more) (seal number (be32 (length content)) ++ (content ++ (seal number content ++ rest))) refl split in
    let two = same_parts (be32 (2 ^ 32 - 1 - s)) (seal number (be32 (length content))) more (content ++ (seal number content ++ rest)) refl one.1 in
    let seals : be32 (2 ^ 32 - 1 - s) ≡ be32 s = two.0 ∙ ap (λ l. seal number l) (sym one.0) in
    let small : s < 2 ^ 32 = sum_lt number (be32 0) zeros_small in
    never_wrong s small (spelled_once (2 ^ 32 - 1 - s) s (omega (arith, small)) small seals)

pub length-guard : (number : ℕ) → length (guard number) ≡ 8
unfolding guard
length-guard number = refl

-- a put of more is one of its front
pub shorter_put : (old : List ℕ) (gate : ℕ) (new more left : List ℕ) → IsPut old gate (new ++ more) left → IsPut old gate new left
shorter_put old gate new more left (inl same) = inl same
shorter_put old gate new more left (inr at) = inr (at.0, shorter_at old gate at.0 new more left at.1)
  where
    shorter_at : (old : List ℕ) (gate : ℕ) (two new more left : List ℕ) → IsAtGate old gate two (new ++ more) left → IsAtGate old gate two new left
    shorter_at old gate two new more left at = record {
      front = at.front;
      two_long = at.two_long;
      at = sym (take-take (2 + length new) (2 + length (new ++ more)) (drop gate left) (omega (arith, length-append new more)))
          ∙ ap (λ l. take (2 + length new) l) (at.at ∙ sym (append_assoc two new more))
          ∙ take_at (two ++ new) more (2 + length new) (omega (arith, length-append two new, at.two_long));
    }

-- once a guard is written, the file is guarded
pub now_guarded : (file : List ℕ) (end number : ℕ) → end + 2 ≤ length file → IsGuarded (written file (end + 2) (guard number)) end number
now_guarded file end number long =
    let rest = drop (end + 2 + length (guard number)) file in
    let there : drop (end + 2) (written file (end + 2) (guard number)) ≡ guard number ++ rest =
    ap (λ l. drop (end + 2) l) (append_assoc (take (end + 2) file) (guard number) rest) ∙ drop_at (take (end + 2) file) (guard number ++ rest) (end + 2) (length-take-le (end + 2) file long) in
    subst (λ l. BeginsNoBlock number l) (sym there) (guards number rest)

-- a gate that is written anew is before what lies behind the closed gate
pub behind_mended : (file : List ℕ) (gate end : ℕ) → gate ≤ end → gate + 1 < length file → drop (end + 2) (written file gate (1 ∷ 1 ∷ [])) ≡ drop (end + 2) file
behind_mended file gate end before within =
    let k = end - gate in
    let e : gate + 2 + k ≡ end + 2 = omega (arith, before) in
    let front : length (take gate file ++ 1 ∷ 1 ∷ []) ≡ gate + 2 = omega (arith, length-append (take gate file) (1 ∷ 1 ∷ []), length-take-le gate file (omega (arith, within))) in
    let there : drop (gate + 2) (written file gate (1 ∷ 1 ∷ [])) ≡ drop (gate + 2) file =
    drop_at (take gate file ++ 1 ∷ 1 ∷ []) (drop (gate + 2) file) (gate + 2) front in
    ap (λ m. drop m (written file gate (1 ∷ 1 ∷ []))) (sym e)
    ∙ sym (swapped k (gate + 2) (written file gate (1 ∷ 1 ∷ [])))
    ∙ ap (λ l. drop k l) there
    ∙ swapped k (gate + 2) file
    ∙ ap (λ m. drop m file) e
  where
    swapped : (n m : ℕ) (xs : List ℕ) → drop n (drop m xs) ≡ drop (m + n) xs
    swapped n m xs = drop-drop n m xs

-- where a block is found, its number is not guarded
pub block_bare : (bytes : List ℕ) (at number n : ℕ) → IsBlockAt bytes at number n → BeginsNoBlock number (drop at bytes) → ⊥
block_bare bytes at number n found bare =
    let content = take n (drop (at + 8) bytes) in
    let long : length content ≡ n = length-take-le n (drop (at + 8) bytes) (omega (arith, found.within, length-drop (at + 8) bytes)) in
    bare content (drop (n + 12) (drop at bytes)) (omega (arith, long, found.short)) (sym (take-append-drop (n + 12) (drop at bytes)) ∙ ap (λ l. l ++ drop (n + 12) (drop at bytes)) found.spelled)
