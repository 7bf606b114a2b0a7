-- Blocks, groups, and what a file stands for.
use Rattle.std.proofs.Common.{◌≡◌, ◌⊎◌, inl, inr, ℕ, zero, suc, ◌+◌, ◌<◌, ◌≤◌, ◌*◌, ◌^◌, List, [], ◌∷◌, ◌++◌, length, get_or, take, drop, refl, sym, ap, ◌∙◌, subst, arith, append_assoc, length-append}
use Rattle.std.specs.Int.{w32, to_be_bytes, from_be_bytes}
use Rattle.std.proofs.lemmas.Nat.{from_be_bytes-to_be_bytes_4}
use Rattle.std.proofs.lemmas.List.{take_at, drop_at}
use Rattle.fr_segment.specs.File.{Group, body, seal, block, groups_from, behind, AreShort, Begins, StandsFrom, StandsFor}
use Rattle.fr_segment.specs.Crc.{sum_of}
use Rattle.fr_segment.specs.Table.{records_in, groups_in}
use Rattle.fr_segment.proofs.AllLemmas.{all_first, all_head, all_rest, all_none, all_left}

abbrev pub be32 : ℕ → List ℕ
be32 n = to_be_bytes w32 n

-- lists that agree, cut at one length
pub same_parts : {A : Type 0} (a b x y : List A) → length a ≡ length b → a ++ x ≡ b ++ y → (a ≡ b) × (x ≡ y)
same_parts a b x y long same = (
  sym (take_at a x (length a) refl) ∙ ap (λ l. take (length a) l) same ∙ take_at b y (length a) (sym long),
  sym (drop_at a x (length a) refl) ∙ ap (λ l. drop (length a) l) same ∙ drop_at b y (length a) (sym long),
)

-- lengths that are spelled alike are one
pub spelled_once : (m n : ℕ) → m < 2 ^ 32 → n < 2 ^ 32 → be32 m ≡ be32 n → m ≡ n
spelled_once m n short_m short_n same = sym (from_be_bytes-to_be_bytes_4 m short_m) ∙ ap (from_be_bytes w32) same ∙ from_be_bytes-to_be_bytes_4 n short_n

pub length-spelled : (n : ℕ) → length (be32 n) ≡ 4
length-spelled n = refl

pub length-seal : (number : ℕ) (bytes : List ℕ) → length (seal number bytes) ≡ 4
unfolding seal
length-seal number bytes = refl

-- a block, part by part, and what follows it
pub block_parts : (number : ℕ) (b rest : List ℕ) → block number b ++ rest ≡ be32 (length b) ++ (seal number (be32 (length b)) ++ (b ++ (seal number b ++ rest)))
unfolding block
block_parts number b rest =
    let n = be32 (length b) in
    append_assoc (n ++ seal number n) (b ++ seal number b) rest
    ∙ append_assoc n (seal number n) ((b ++ seal number b) ++ rest)
    ∙ ap (λ l. n ++ (seal number n ++ l)) (append_assoc b (seal number b) rest)

pub length-block : (number : ℕ) (b : List ℕ) → length (block number b) ≡ 12 + length b
unfolding block
length-block number b =
    let n = be32 (length b) in
    omega (arith, length-append (n ++ seal number n) (b ++ seal number b), length-append n (seal number n), length-append b (seal number b), length-spelled (length b), length-seal number n, length-seal number b)

-- bytes that begin with a block begin with no other
pub block_once : (number : ℕ) (a b x y : List ℕ) → length a < 2 ^ 32 → length b < 2 ^ 32 → block number a ++ x ≡ block number b ++ y → (a ≡ b) × (x ≡ y)
block_once number a b x y short_a short_b same =
    let m = be32 (length a) in
    let n = be32 (length b) in
    let split = sym (block_parts number a x) ∙ same ∙ block_parts number b y in
    let one = same_parts m n _ _ (length-spelled (length a) ∙ sym (length-spelled (length b))) split in
    let two = same_parts (seal number m) (seal number n) _ _ (length-seal number m ∙ sym (length-seal number n)) one.1 in
    let three = same_parts a b _ _ (spelled_once (length a) (length b) short_a short_b one.0) two.1 in
    let four = same_parts (seal number a) (seal number b) x y (length-seal number a ∙ sym (length-seal number b)) three.1 in
    (three.0, four.1)

-- ---- bodies
pub body_split : (r : List ℕ) (rs : Group) (rest : List ℕ) → body (r ∷ rs) ++ rest ≡ be32 (length r) ++ (r ++ (body rs ++ rest))
body_split r rs rest = append_assoc (be32 (length r)) (r ++ body rs) rest ∙ ap (λ l. be32 (length r) ++ l) (append_assoc r (body rs) rest)

pub length-body : (r : List ℕ) (rs : Group) → length (body (r ∷ rs)) ≡ 4 + length r + length (body rs)
length-body r rs = omega (arith, length-append (be32 (length r)) (r ++ body rs), length-append r (body rs), length-spelled (length r))

pub body-append : (rs ss : Group) → body (rs ++ ss) ≡ body rs ++ body ss
body-append [] ss = refl
body-append (r ∷ rs) ss = ap (λ l. be32 (length r) ++ (r ++ l)) (body-append rs ss) ∙ sym (body_split r rs (body ss))

pub body_once : (g h : Group) → length (body g) < 2 ^ 32 → body g ≡ body h → g ≡ h
body_once [] [] short same = refl
body_once [] (s ∷ ss) short same = let e = ap length same in absurd (omega (arith, e, length-body s ss))
body_once (r ∷ rs) [] short same = let e = ap length same in absurd (omega (arith, e, length-body r rs))
body_once (r ∷ rs) (s ∷ ss) short same =
    let e = ap length same in
    let one = same_parts (be32 (length r)) (be32 (length s)) (r ++ body rs) (s ++ body ss) (length-spelled (length r) ∙ sym (length-spelled (length s))) same in
    let long : length r ≡ length s = spelled_once (length r) (length s) (omega (arith, short, length-body r rs)) (omega (arith, e, short, length-body s ss)) one.0 in
    let two = same_parts r s (body rs) (body ss) long one.1 in
    ap (λ x. x ∷ rs) two.0 ∙ ap (λ xs. s ∷ xs) (body_once rs ss (omega (arith, short, length-body r rs)) two.1)

-- ---- groups
pub groups-append : (number : ℕ) (gs hs : List Group) → groups_from number (gs ++ hs) ≡ groups_from number gs ++ groups_from (number + length gs) hs
groups-append number [] hs = let e : number ≡ number + 0 = omega arith in ap (λ k. groups_from k hs) e
groups-append number (g ∷ gs) hs =
    let e : suc number + length gs ≡ number + suc (length gs) = omega arith in
    ap (λ l. 1 ∷ 1 ∷ (block number (body g) ++ l)) (groups-append (suc number) gs hs ∙ ap (λ k. groups_from (suc number) gs ++ groups_from k hs) e)
    ∙ ap (λ l. 1 ∷ 1 ∷ l) (sym (append_assoc (block number (body g)) (groups_from (suc number) gs) (groups_from (number + suc (length gs)) hs)))

pub length-groups : (number : ℕ) (g : Group) (gs : List Group) → length (groups_from number (g ∷ gs)) ≡ 14 + length (body g) + length (groups_from (suc number) gs)
length-groups number g gs = omega (arith, length-append (block number (body g)) (groups_from (suc number) gs), length-block number (body g))

-- each group takes bytes
pub groups_long : (number : ℕ) (gs : List Group) → length gs * 14 ≤ length (groups_from number gs)
groups_long number [] = omega arith
groups_long number (g ∷ gs) = omega (arith, groups_long (suc number) gs, length-groups number g gs)

-- a group more
pub length-one : (number : ℕ) (g : Group) → length (groups_from number (g ∷ [])) ≡ 14 + length (body g)
length-one number g = omega (arith, length-groups number g [])

pub one_split : (number : ℕ) (g : Group) (rest : List ℕ) → groups_from number (g ∷ []) ++ rest ≡ 1 ∷ 1 ∷ (block number (body g) ++ rest)
one_split number g rest = ap (λ l. 1 ∷ 1 ∷ l) (append_assoc (block number (body g)) [] rest)

pub group_split : (number : ℕ) (g : Group) (gs : List Group) (rest : List ℕ) → groups_from number (g ∷ gs) ++ rest ≡ 1 ∷ 1 ∷ (block number (body g) ++ (groups_from (suc number) gs ++ rest))
group_split number g gs rest = ap (λ l. 1 ∷ 1 ∷ l) (append_assoc (block number (body g)) (groups_from (suc number) gs) rest)

-- what a file stands for begins with the groups that it begins with
pub record Rest (number : ℕ) (found groups : List Group) (tail : List ℕ) : Type 0 where
  pub others : List Group
  pub split : groups ≡ found ++ others
  pub stands : StandsFrom number others tail

pub rest_from : (found groups : List Group) (number : ℕ) (tail bytes : List ℕ) → AreShort found → bytes ≡ groups_from number found ++ tail → StandsFrom number groups bytes → Rest (number + length found) found groups tail
rest_from [] groups number tail bytes short is stands =
    let e : number ≡ number + 0 = omega arith in
    record { others = groups; split = refl; stands = subst (λ k. StandsFrom k groups tail) e (subst (λ l. StandsFrom number groups l) is stands) }
rest_from (f ∷ fs) [] number tail bytes short is stands =
    let same : 1 ≡ 0 = ap (λ l. get_or l 0 0) (sym is ∙ stands.1) in
    absurd (omega (arith, same))
rest_from (f ∷ fs) (a ∷ groups) number tail bytes short is stands =
    let begins = stands.1 in
    let both : 1 ∷ 1 ∷ (block number (body f) ++ (groups_from (suc number) fs ++ tail)) ≡ begins.first ∷ begins.second ∷ (block number (body a) ++ stands.0) = sym (group_split number f fs tail) ∙ sym is ∙ begins.split in
    let short_f = all_head (λ (g : Group). length (body g) < 2 ^ 32) f fs short in
    let parts = block_once number (body f) (body a) (groups_from (suc number) fs ++ tail) stands.0 short_f begins.short (ap (λ l. drop 2 l) both) in
    let same : f ≡ a = body_once f a short_f parts.0 in
    let left = rest_from fs groups (suc number) tail stands.0 (all_rest (λ (g : Group). length (body g) < 2 ^ 32) f fs short) (sym parts.1) stands.2 in
    let e : suc number + length fs ≡ number + suc (length fs) = omega arith in
    record {
      others = left.others;
      split = ap (λ x. x ∷ groups) (sym same) ∙ ap (λ xs. f ∷ xs) left.split;
      stands = subst (λ k. StandsFrom k left.others tail) e left.stands;
    }

-- and conversely
pub stands_from : (found others : List Group) (number : ℕ) (tail : List ℕ) → AreShort found → StandsFrom (number + length found) others tail → StandsFrom number (found ++ others) (groups_from number found ++ tail)
stands_from [] others number tail short stands = let e : number + 0 ≡ number = omega arith in subst (λ k. StandsFrom k others tail) e stands
stands_from (f ∷ fs) others number tail short stands =
    let e : number + suc (length fs) ≡ suc number + length fs = omega arith in (
      groups_from (suc number) fs ++ tail,
      record {
        first = 1;
        second = 1;
        not_closed = omega arith;
        whole = inl (refl, refl);
        short = all_head (λ (g : Group). length (body g) < 2 ^ 32) f fs short;
        split = group_split number f fs tail;
      },
      stands_from fs others (suc number) tail (all_rest (λ (g : Group). length (body g) < 2 ^ 32) f fs short) (subst (λ k. StandsFrom k others tail) e stands),
    )

-- a file stands for one list alone
none_closed : (number : ℕ) (rest : List ℕ) (others : List Group) → StandsFrom number others (0 ∷ 0 ∷ rest) → others ≡ []
none_closed number rest [] stands = refl
none_closed number rest (g ∷ gs) stands =
    let begins = stands.1 in
    let one : 0 ≡ begins.first = ap (λ l. get_or l 0 0) begins.split in
    let two : 0 ≡ begins.second = ap (λ l. get_or l 1 0) begins.split in
    absurd (omega (arith, one, two, begins.not_closed))

pub unique_from : (a b : List Group) (number : ℕ) (bytes : List ℕ) → StandsFrom number a bytes → StandsFrom number b bytes → b ≡ a
unique_from [] b number bytes stands_a stands_b = none_closed number stands_a.0 b (subst (λ l. StandsFrom number b l) stands_a.1 stands_b)
unique_from (x ∷ xs) [] number bytes stands_a stands_b =
    let never = none_closed number stands_b.0 (x ∷ xs) (subst (λ l. StandsFrom number (x ∷ xs) l) stands_b.1 stands_a) in
    absurd (cc never)
unique_from (x ∷ xs) (y ∷ ys) number bytes stands_a stands_b =
    let one = stands_a.1 in
    let two = stands_b.1 in
    let parts = block_once number (body x) (body y) stands_a.0 stands_b.0 one.short two.short (ap (λ l. drop 2 l) (sym one.split ∙ two.split)) in
    let same : x ≡ y = body_once x y one.short parts.0 in
    let others = unique_from xs ys (suc number) stands_a.0 stands_a.2 (subst (λ l. StandsFrom (suc number) ys l) (sym parts.1) stands_b.2) in
    ap (λ g. g ∷ ys) (sym same) ∙ ap (λ gs. x ∷ gs) others

pub unique : (file : List ℕ) (a b : List Group) → StandsFor file a → StandsFor file b → b ≡ a
unique file a b stands_a stands_b = unique_from a b 0 file stands_a stands_b

-- ---- what the definitions of a file's groups find
step_in : (n : ℕ) (bytes : List ℕ) → 0 < length bytes
    → records_in (suc n) bytes ≡ take (from_be_bytes w32 (take 4 bytes)) (drop 4 bytes) ∷ records_in n (drop (4 + from_be_bytes w32 (take 4 bytes)) bytes)
unfolding records_in
step_in n [] some = absurd (omega (arith, some))
step_in n (b ∷ bs) some = refl

none_in : (n : ℕ) → records_in n [] ≡ []
unfolding records_in
none_in zero = refl
none_in (suc n) = refl

pub records_found : (n : ℕ) (g : Group) → length (body g) ≤ n → length (body g) < 2 ^ 32 → records_in n (body g) ≡ g
records_found n [] fits short = none_in n
records_found zero (r ∷ rs) fits short = absurd (omega (arith, fits, length-body r rs))
records_found (suc n) (r ∷ rs) fits short =
    let bytes = body (r ∷ rs) in
    let four : take 4 bytes ≡ be32 (length r) = take_at (be32 (length r)) (r ++ body rs) 4 refl in
    let long : from_be_bytes w32 (take 4 bytes) ≡ length r = ap (from_be_bytes w32) four ∙ from_be_bytes-to_be_bytes_4 (length r) (omega (arith, short, length-body r rs)) in
    let behind : drop 4 bytes ≡ r ++ body rs = drop_at (be32 (length r)) (r ++ body rs) 4 refl in
    let others : drop (4 + length r) bytes ≡ body rs =
    ap (λ l. drop (4 + length r) l) (sym (append_assoc (be32 (length r)) r (body rs))) ∙ drop_at (be32 (length r) ++ r) (body rs) (4 + length r) (omega (arith, length-append (be32 (length r)) r, length-spelled (length r))) in
    step_in n bytes (omega (arith, length-body r rs))
    ∙ ap (λ k. take k (drop 4 bytes) ∷ records_in n (drop (4 + k) bytes)) long
    ∙ ap (λ l. take (length r) l ∷ records_in n (drop (4 + length r) bytes)) behind
    ∙ ap (λ l. l ∷ records_in n (drop (4 + length r) bytes)) (take_at r (body rs) (length r) refl)
    ∙ ap (λ l. r ∷ records_in n l) others
    ∙ ap (λ xs. r ∷ xs) (records_found n rs (omega (arith, fits, length-body r rs)) (omega (arith, short, length-body r rs)))

pub groups_found : (gs : List Group) (number : ℕ) (file rest : List ℕ) → AreShort gs → file ≡ groups_from number gs ++ rest → groups_in (length gs) file ≡ gs
unfolding groups_in
groups_found [] number file rest short is = refl
groups_found (g ∷ gs) number file rest short is =
    let b = body g in
    let n = be32 (length b) in
    let short_g = all_head (λ (x : Group). length (body x) < 2 ^ 32) g gs short in
    let tail = groups_from (suc number) gs ++ rest in
    let whole : file ≡ 1 ∷ 1 ∷ (n ++ (seal number n ++ (b ++ (seal number b ++ tail)))) = is ∙ group_split number g gs rest ∙ ap (λ l. 1 ∷ 1 ∷ l) (block_parts number b tail) in
    let four : take 4 (drop 2 file) ≡ n = ap (λ l. take 4 (drop 2 l)) whole ∙ take_at n (seal number n ++ (b ++ (seal number b ++ tail))) 4 refl in
    let long : from_be_bytes w32 (take 4 (drop 2 file)) ≡ length b = ap (from_be_bytes w32) four ∙ from_be_bytes-to_be_bytes_4 (length b) short_g in
    let ten : file ≡ (1 ∷ 1 ∷ (n ++ seal number n)) ++ (b ++ (seal number b ++ tail)) = whole ∙ ap (λ l. 1 ∷ 1 ∷ l) (sym (append_assoc n (seal number n) (b ++ (seal number b ++ tail)))) in
    let behind : drop 10 file ≡ b ++ (seal number b ++ tail) =
    ap (λ l. drop 10 l) ten ∙ drop_at (1 ∷ 1 ∷ (n ++ seal number n)) (b ++ (seal number b ++ tail)) 10 (omega (arith, length-append n (seal number n), length-spelled (length b), length-seal number n)) in
    let all : file ≡ (1 ∷ 1 ∷ block number b) ++ tail = is ∙ group_split number g gs rest in
    let others : drop (14 + length b) file ≡ tail = ap (λ l. drop (14 + length b) l) all ∙ drop_at (1 ∷ 1 ∷ block number b) tail (14 + length b) (omega (arith, length-block number b)) in
    ap (λ k. records_in k (take k (drop 10 file)) ∷ groups_in (length gs) (drop (14 + k) file)) long
    ∙ ap (λ l. records_in (length b) (take (length b) l) ∷ groups_in (length gs) (drop (14 + length b) file)) behind
    ∙ ap (λ l. records_in (length b) l ∷ groups_in (length gs) (drop (14 + length b) file)) (take_at b (seal number b ++ tail) (length b) refl)
    ∙ ap (λ x. x ∷ groups_in (length gs) (drop (14 + length b) file)) (records_found (length b) g (omega arith) short_g)
    ∙ ap (λ xs. g ∷ xs) (groups_found gs (suc number) (drop (14 + length b) file) rest (all_rest (λ (x : Group). length (body x) < 2 ^ 32) g gs short) others)

pub length-groups_in : (n : ℕ) (file : List ℕ) → length (groups_in n file) ≡ n
unfolding groups_in
length-groups_in zero file = refl
length-groups_in (suc n) file = ap suc (length-groups_in n (drop (14 + from_be_bytes w32 (take 4 (drop 2 file))) file))

pub groups_push : (gs : List Group) (g : Group) → groups_from 0 (gs ++ g ∷ []) ≡ groups_from 0 gs ++ groups_from (length gs) (g ∷ [])
groups_push gs g = let e : 0 + length gs ≡ length gs = omega arith in groups-append 0 gs (g ∷ []) ∙ ap (λ k. groups_from 0 gs ++ groups_from k (g ∷ [])) e

-- a body lies ten bytes behind its gate
pub body_at : (number : ℕ) (first second : ℕ) (b rest : List ℕ) → drop 10 (first ∷ second ∷ (block number b ++ rest)) ≡ b ++ (seal number b ++ rest)
body_at number first second b rest =
    let n = be32 (length b) in
    ap (λ l. drop 8 l) (block_parts number b rest ∙ sym (append_assoc n (seal number n) (b ++ (seal number b ++ rest))))
    ∙ drop_at (n ++ seal number n) (b ++ (seal number b ++ rest)) 8 (omega (arith, length-append n (seal number n), length-spelled (length b), length-seal number n))

-- what is written behind a gate, part by part
pub spelled_block : (number n first second : ℕ) (b : List ℕ) → n ≡ length b → first ≡ sum_of number (be32 n) → second ≡ sum_of number b
    → (((be32 n ++ be32 first) ++ b) ++ be32 second) ++ 0 ∷ 0 ∷ [] ≡ block number b ++ 0 ∷ 0 ∷ []
unfolding block seal
spelled_block number n first second b long first_is second_is =
    let l = be32 n in
    ap (λ x. (((l ++ be32 x) ++ b) ++ be32 second) ++ 0 ∷ 0 ∷ []) first_is
    ∙ ap (λ x. (((l ++ be32 (sum_of number l)) ++ b) ++ be32 x) ++ 0 ∷ 0 ∷ []) second_is
    ∙ ap (λ x. x ++ 0 ∷ 0 ∷ []) (append_assoc (l ++ be32 (sum_of number l)) b (be32 (sum_of number b)))
    ∙ ap (λ (k : ℕ). ((be32 k ++ be32 (sum_of number (be32 k))) ++ (b ++ be32 (sum_of number b))) ++ 0 ∷ 0 ∷ []) long
