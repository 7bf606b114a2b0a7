-- The first record of a file.
use Rattle.std.proofs.Common.{◌≡◌, ℕ, zero, suc, ◌+◌, ◌<◌, ◌≤◌, ◌^◌, List, [], ◌∷◌, ◌++◌, length, get_or, take, drop, refl, sym, ap, ◌∙◌, arith, take-append-drop}
use Rattle.std.specs.Int.{w64, to_be_bytes, from_be_bytes}
use Rattle.std.proofs.lemmas.Nat.{be_bytes_8, from_be_bytes-to_be_bytes_8}
use Rattle.std.proofs.lemmas.List.{drop_more}
use Rattle.fr_segment.specs.Header.{header, identity}
use Rattle.fr_segment.proofs.FileLemmas.{be32, same_parts, spelled_once, length-spelled}

abbrev be64 : ℕ → List ℕ
be64 n = to_be_bytes w64 n

length-be64 : (n : ℕ) → length (be64 n) ≡ 8
length-be64 n = refl

pub one_file : (m n : ℕ) (a b : List ℕ) → m < 2 ^ 64 → n < 2 ^ 64 → header m a ≡ header n b → (m ≡ n) × (a ≡ b)
one_file m n a b small_m small_n same =
    let parts = same_parts (be64 m) (be64 n) a b (length-be64 m ∙ sym (length-be64 n)) (ap (λ l. drop 7 l) same) in
    (sym (from_be_bytes-to_be_bytes_8 m small_m) ∙ ap (from_be_bytes w64) parts.0 ∙ from_be_bytes-to_be_bytes_8 n small_n, parts.1)

pub one_owner : (cluster node shape cluster' node' shape' : List ℕ) → length cluster ≡ 16 → length cluster' ≡ 16 → length node < 2 ^ 32 → length node' < 2 ^ 32
    → identity cluster node shape ≡ identity cluster' node' shape' → (cluster ≡ cluster') × (node ≡ node') × (shape ≡ shape')
one_owner cluster node shape cluster' node' shape' long long' short short' same =
    let one = same_parts cluster cluster' (be32 (length node) ++ (node ++ shape)) (be32 (length node') ++ (node' ++ shape')) (long ∙ sym long') same in
    let two = same_parts (be32 (length node)) (be32 (length node')) (node ++ shape) (node' ++ shape') (length-spelled (length node) ∙ sym (length-spelled (length node'))) one.1 in
    let three = same_parts node node' shape shape' (spelled_once (length node) (length node') short short' two.0) two.1 in
    (one.0, three.0, three.1)

-- bytes that begin with `fdbrec` and the format, and go on with eight bytes of a number
module _ (first : List ℕ) (small : (i : ℕ) → get_or first i 0 < 256) (magic : take 7 first ≡ 102 ∷ 100 ∷ 98 ∷ 114 ∷ 101 ∷ 99 ∷ 2 ∷ []) (long : 15 ≤ length first) where
  abbrev eight : List ℕ
  eight = get_or first 7 0 ∷ get_or first 8 0 ∷ get_or first 9 0 ∷ get_or first 10 0 ∷ get_or first 11 0 ∷ get_or first 12 0 ∷ get_or first 13 0 ∷ get_or first 14 0 ∷ []

  eight_small : (i : ℕ) → get_or eight i 0 < 256
  eight_small zero = small 7
  eight_small (suc zero) = small 8
  eight_small (suc (suc zero)) = small 9
  eight_small (suc (suc (suc zero))) = small 10
  eight_small (suc (suc (suc (suc zero)))) = small 11
  eight_small (suc (suc (suc (suc (suc zero))))) = small 12
  eight_small (suc (suc (suc (suc (suc (suc zero)))))) = small 13
  eight_small (suc (suc (suc (suc (suc (suc (suc zero))))))) = small 14
  eight_small (suc (suc (suc (suc (suc (suc (suc (suc i)))))))) = omega arith

  next : (k j : ℕ) → k + 1 ≡ j → k < length first → drop k first ≡ get_or first k 0 ∷ drop j first
  next k j is h = drop_more first k 0 h ∙ ap (λ m. get_or first k 0 ∷ drop m first) is

  behind : drop 7 first ≡ eight ++ drop 15 first
  behind =
      next 7 8 refl (omega (arith, long))
      ∙ ap (λ l. get_or first 7 0 ∷ l) (next 8 9 refl (omega (arith, long))
      ∙ ap (λ l. get_or first 8 0 ∷ l) (next 9 10 refl (omega (arith, long))
      ∙ ap (λ l. get_or first 9 0 ∷ l) (next 10 11 refl (omega (arith, long))
      ∙ ap (λ l. get_or first 10 0 ∷ l) (next 11 12 refl (omega (arith, long))
      ∙ ap (λ l. get_or first 11 0 ∷ l) (next 12 13 refl (omega (arith, long))
      ∙ ap (λ l. get_or first 12 0 ∷ l) (next 13 14 refl (omega (arith, long))
      ∙ ap (λ l. get_or first 13 0 ∷ l) (next 14 15 refl (omega (arith, long)))))))))

  pub header_there : (n : ℕ) → n ≡ from_be_bytes w64 eight → first ≡ header n (drop 15 first)
  header_there n is =
      sym (take-append-drop 7 first) ∙ ap (λ l. l ++ drop 7 first) magic
      ∙ ap (λ l. 102 ∷ 100 ∷ 98 ∷ 114 ∷ 101 ∷ 99 ∷ 2 ∷ l) (behind ∙ ap (λ l. l ++ drop 15 first) (sym (be_bytes_8 eight n refl eight_small is)))
