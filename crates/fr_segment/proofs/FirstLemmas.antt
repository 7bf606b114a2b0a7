-- What a device begins with, and which of two files is current.
use Rattle.std.proofs.Common.{◌≡◌, ◌⊎◌, inl, inr, ℕ, zero, suc, ◌+◌, ◌-◌, ◌<◌, ◌≤◌, ◌^◌, List, [], ◌∷◌, ◌++◌, length, get_or, take, drop, refl, sym, ap, ◌∙◌, subst, arith, append_assoc, length-append, take-append-drop}
use Rattle.std.proofs.lemmas.List.{append-nil, take_at, drop_at, take-take, drop-take, drop-drop, length-take-le, length-drop}
use Rattle.fr_segment.specs.declared.first.First.{First}
use Rattle.fr_segment.specs.declared.first.First.TheVariants.{Missing, Closed, File}
use Rattle.fr_segment.specs.declared.first.Turn.{Turn}
use Rattle.fr_segment.specs.declared.first.Turn.TheVariants.{Former, Latter}
use Rattle.fr_segment.specs.declared.open_fault.OpenFault.{OpenFault}
use Rattle.fr_segment.specs.declared.open_fault.OpenFault.TheVariants.{Unmade, Stranger, Broken, Device, Memory}
use Rattle.fr_segment.specs.File.{block, IsClosedAt}
use Rattle.fr_segment.specs.First.{IsBelow, IsTurn}
use Rattle.fr_segment.specs.Group.{IsBlockAt}
use Rattle.fr_segment.specs.Header.{header}
use Rattle.fr_segment.specs.Turns.{led_by, BeginsWith, HoldsNothing, IsOlder, IsForeign}
use Rattle.fr_segment.proofs.FileLemmas.{be32, spelled_once, length-spelled, length-block}
use Rattle.fr_segment.proofs.ParseLemmas.{block_same, open_sum}
use Rattle.fr_segment.proofs.TurnsLemmas.{led_long, begins_once, never_both}

-- more than a front of two lists one behind the other
take_past : (a b : List ℕ) (n k : ℕ) → n ≡ length a + k → take n (a ++ b) ≡ a ++ take k b
take_past [] b n k is = let e : n ≡ k = omega (arith, is) in ap (λ m. take m b) e
take_past (x ∷ a) b zero k is = absurd (omega (arith, is))
take_past (x ∷ a) b (suc n) k is = ap (λ l. x ∷ l) (take_past a b n k (omega (arith, is)))

-- a list from a place on, as a slice says it
pub rest_whole : (k : ℕ) (l : List ℕ) → take (length l - k) (drop k l) ≡ drop k l
rest_whole k l = ap (λ x. take (length l - k) x) (sym (append-nil (drop k l))) ∙ take_at (drop k l) [] (length l - k) (length-drop k l)

-- ---- the first block of a file
module _ (bytes identity : List ℕ) (len record_len n : ℕ) (long : 1 < length bytes) (opens : IsClosedAt bytes 0 → ⊥) (found : IsBlockAt bytes 2 0 len) (four : 4 ≤ len) (within : record_len ≤ len - 4) (there : take 4 (drop 10 bytes) ≡ be32 record_len) where
  abbrev behind_record : List ℕ
  behind_record = drop record_len (drop 14 bytes)

  record_long : length (take record_len (drop 14 bytes)) ≡ record_len
  record_long = length-take-le record_len (drop 14 bytes) (omega (arith, found.within, within, four, length-drop 14 bytes))

  whole : drop 10 bytes ≡ be32 record_len ++ (take record_len (drop 14 bytes) ++ behind_record)
  whole =
      sym (take-append-drop 4 (drop 10 bytes)) ∙ ap (λ l. l ++ drop 4 (drop 10 bytes)) there
      ∙ ap (λ l. be32 record_len ++ l) (drop-drop 4 10 bytes ∙ sym (take-append-drop record_len (drop 14 bytes)))

  content_is : take len (drop 10 bytes) ≡ led_by (take record_len (drop 14 bytes)) (take (len - 4 - record_len) behind_record)
  content_is =
      ap (λ l. take len l) whole
      ∙ take_past (be32 record_len) (take record_len (drop 14 bytes) ++ behind_record) len (len - 4) (omega (arith, four, length-spelled record_len))
      ∙ ap (λ l. be32 record_len ++ l) (take_past (take record_len (drop 14 bytes)) behind_record (len - 4) (len - 4 - record_len) (omega (arith, within, record_long)))
      ∙ ap (λ (k : ℕ). be32 k ++ (take record_len (drop 14 bytes) ++ take (len - 4 - record_len) behind_record)) (sym record_long)

  pub first_found : n < 2 ^ 64 → take record_len (drop 14 bytes) ≡ header n identity → BeginsWith n identity bytes
  first_found small is =
      let more = take (len - 4 - record_len) behind_record in
      let led : take len (drop 10 bytes) ≡ led_by (header n identity) more = content_is ∙ ap (λ l. led_by l more) is in
      let content_long : length (take len (drop 10 bytes)) ≡ len = length-take-le len (drop 10 bytes) (omega (arith, found.within, length-drop 10 bytes)) in
      record {
        more = more;
        rest = drop (len + 12) (drop 2 bytes);
        small = small;
        not_closed = open_sum bytes 0 long opens;
        short = let e = ap length led in omega (arith, e, content_long, found.short);
        split = sym (take-append-drop (len + 12) (drop 2 bytes)) ∙ ap (λ l. l ++ drop (len + 12) (drop 2 bytes)) (found.spelled ∙ ap (λ l. block 0 l) led);
      }

-- a file that begins with a header, and its first block as it is read
module _ (bytes identity : List ℕ) (len n : ℕ) (found : IsBlockAt bytes 2 0 len) (begins : BeginsWith n identity bytes) where
  led : take len (drop 10 bytes) ≡ led_by (header n identity) begins.more
  led = block_same bytes 2 0 len found (led_by (header n identity) begins.more) begins.rest begins.short begins.split

  content_long : length (take len (drop 10 bytes)) ≡ len
  content_long = length-take-le len (drop 10 bytes) (omega (arith, found.within, length-drop 10 bytes))

  pub header_long : 4 + length (header n identity) ≤ len
  header_long = let e = ap length led in omega (arith, e, content_long, led_long (header n identity) begins.more)

  pub header_length : (record_len : ℕ) → record_len < 2 ^ 32 → take 4 (drop 10 bytes) ≡ be32 record_len → record_len ≡ length (header n identity)
  header_length record_len small there =
      let four : take 4 (drop 10 bytes) ≡ be32 (length (header n identity)) =
      sym (take-take 4 len (drop 10 bytes) (omega (arith, header_long))) ∙ ap (λ l. take 4 l) led ∙ take_at (be32 (length (header n identity))) (header n identity ++ begins.more) 4 (length-spelled (length (header n identity))) in
      spelled_once record_len (length (header n identity)) small (omega (arith, header_long, found.short)) (sym there ∙ four)

  pub header_read : (record_len : ℕ) → record_len < 2 ^ 32 → take 4 (drop 10 bytes) ≡ be32 record_len → take record_len (drop 14 bytes) ≡ header n identity
  header_read record_len small there =
      let k : record_len ≡ length (header n identity) = header_length record_len small there in
      let rest = drop len (drop 10 bytes) in
      let behind : drop 14 bytes ≡ header n identity ++ (begins.more ++ rest) =
      sym (drop-drop 4 10 bytes) ∙ ap (λ l. drop 4 l) (sym (take-append-drop len (drop 10 bytes)) ∙ ap (λ l. l ++ rest) led)
      ∙ ap (λ l. drop 4 l) (led_rest (header n identity) begins.more rest) ∙ drop_at (be32 (length (header n identity))) (header n identity ++ (begins.more ++ rest)) 4 (length-spelled (length (header n identity))) in
      ap (λ l. take record_len l) behind ∙ take_at (header n identity) (begins.more ++ rest) record_len (sym k)
    where
      led_rest : (a b c : List ℕ) → led_by a b ++ c ≡ be32 (length a) ++ (a ++ (b ++ c))
      led_rest a b c = append_assoc (be32 (length a)) (a ++ b) c ∙ ap (λ l. be32 (length a) ++ l) (append_assoc a b c)

-- ---- which is current
pub same_file : (m n : ℕ) → File m ≡ File n → m ≡ n
same_file m n e = cc e

pub none_of_one : (m n : ℕ) → (m < n → ⊥) → (n < m → ⊥) → (turn : Turn) → IsTurn (File m) (File n) turn → ⊥
none_of_one m n not_above not_below (Former k) it = not_below (subst (λ (j : ℕ). n < j) (sym (same_file m k it.0)) it.1)
none_of_one m n not_above not_below (Latter k) it = not_above (subst (λ (j : ℕ). m < j) (sym (same_file n k it.0)) it.1)

pub none_missing : (former : First) (turn : Turn) → IsTurn former Missing turn → ⊥
none_missing former (Former k) it = it.1
none_missing former (Latter k) it = cc it.0

pub none_before : (latter : First) (turn : Turn) → IsTurn Missing latter turn → ⊥
none_before latter (Former k) it = cc it.0
none_before latter (Latter k) it = it.1

pub none_closed : (turn : Turn) → IsTurn Closed Closed turn → ⊥
none_closed (Former k) it = cc it.0
none_closed (Latter k) it = cc it.0

-- faults of an opening of devices that are no stranger's and not damaged
pub only_trouble : (fault : OpenFault) → (fault ≡ Unmade → ⊥) → (fault ≡ Stranger → ⊥) → (fault ≡ Broken → ⊥) → (fault ≡ Device) ⊎ (fault ≡ Memory)
only_trouble Unmade unmade stranger broken = absurd (unmade refl)
only_trouble Stranger unmade stranger broken = absurd (stranger refl)
only_trouble Broken unmade stranger broken = absurd (broken refl)
only_trouble Device unmade stranger broken = inl refl
only_trouble Memory unmade stranger broken = inr refl

-- a device that begins with a header is read so
pub first_is : (number : ℕ) (identity a : List ℕ) → BeginsWith number identity a → (f : First) → (f ≡ Missing → length a < 2) → (f ≡ Closed → HoldsNothing a) → ((n : ℕ) → f ≡ File n → BeginsWith n identity a) → f ≡ File number
first_is number identity a begins Missing missing closed file = absurd (let e = ap length begins.split in omega (arith, e, missing refl, length-drop 2 a, length-append (block 0 (led_by (header number identity) begins.more)) begins.rest, length-block 0 (led_by (header number identity) begins.more)))
first_is number identity a begins Closed missing closed file = absurd (never_both number identity a begins (closed refl))
first_is number identity a begins (File n) missing closed file = ap (λ (k : ℕ). File k) (begins_once n number identity identity a (file n refl) begins).0

-- one that holds nothing is read so
pub first_closed : (identity a : List ℕ) → HoldsNothing a → (f : First) → (f ≡ Missing → length a < 2) → ((n : ℕ) → f ≡ File n → BeginsWith n identity a) → f ≡ Closed
first_closed identity a nothing Missing missing file = absurd (omega (arith, nothing.0, missing refl))
first_closed identity a nothing Closed missing file = refl
first_closed identity a nothing (File n) missing file = absurd (never_both n identity a (file n refl) nothing)

-- what is below a number is older
pub below_older : (n : ℕ) (identity b : List ℕ) (f : First) → IsBelow n f → (f ≡ Closed → HoldsNothing b) → ((l : ℕ) → f ≡ File l → BeginsWith l identity b) → IsOlder n identity b
below_older n identity b Missing below closed file = absurd below
below_older n identity b Closed below closed file = inl (closed refl)
below_older n identity b (File l) below closed file = inr (l, below, file l refl)
