-- What was written of a field is read as it.
use Rattle.std.proofs.Common.{◌≡◌, ℕ, ◌<◌, false, nat_lt, List, [], ◌∷◌, ◌++◌, length, All, Some, None, Ok, refl, sym, ap, ◌∙◌, append_assoc, arith, length-append}
use Rattle.std.specs.Prelude.{◌^◌}
use Rattle.std.specs.Int.{w32, w64, to_be_bytes}
use Rattle.std.specs.List.{flat_map}
use Rattle.std.proofs.lemmas.Bool.{lt-ltb, le-ltb, eq-eqb}
use Rattle.std.proofs.lemmas.List.{take_at, drop_at, append-nil}
use Rattle.std.proofs.lemmas.List.Elements.{All-head, All-tail}
use Rattle.std.proofs.lemmas.Nat.{from_be_bytes-to_be_bytes_4, from_be_bytes-to_be_bytes_8}
use Rattle.fr_mutation.specs.declared.mutation.Mutation.{Mutation}
use Rattle.fr_mutation.specs.Limits.{batch_fault}
use Rattle.fr_mutation.specs.CodecSpelling.{spelled}
use Rattle.fr_mutation.specs.CodecReading.{decoded}
use Rattle.fr_mutation.specs.Law.{SpellingIsRead}
use Rattle.fr_tags.specs.declared.body.Body.{Body}
use Rattle.fr_record_log.specs.Limits.{IsSoundBody}
use Rattle.fr_record_log.specs.Spelling.{spelled_body, spelled_bodies}
use Rattle.fr_record_log.specs.Reading.{bytes_at, number_at, length_at, version_at, tag_at, whole, batch_of, text_at, body_at, bodies_at, bodies_of}
use Rattle.fr_record_log.proofs.Lengths.{batch_short}
use Rattle.fr_record_log.proofs.Loops.{body_found}

bytes_again : (len : ℕ) (front rest : List ℕ) → length front ≡ len → bytes_at len (front ++ rest) ≡ Some (front, rest)
bytes_again len front rest e =
    let long : nat_lt (length (front ++ rest)) len ≡ false = le-ltb _ _ (omega (arith, e, length-append front rest)) in
    rw (long, take_at front rest len e, drop_at front rest len e) refl

pub number_again : (n : ℕ) (rest : List ℕ) → n < 2 ^ 64 → number_at (to_be_bytes w64 n ++ rest) ≡ Some (n, rest)
unfolding number_at
number_again n rest low = rw (bytes_again 8 (to_be_bytes w64 n) rest refl, from_be_bytes-to_be_bytes_8 n low) refl

pub version_again : (n : ℕ) (rest : List ℕ) → n < 2 ^ 62 → version_at (to_be_bytes w64 n ++ rest) ≡ Some (n, rest)
unfolding version_at
version_again n rest low = rw (number_again n rest (omega (arith, low)), lt-ltb n (2 ^ 62) low) refl

length_again : (n : ℕ) (rest : List ℕ) → n < 2 ^ 32 → length_at (to_be_bytes w32 n ++ rest) ≡ Some (n, rest)
unfolding length_at
length_again n rest low = rw (bytes_again 4 (to_be_bytes w32 n) rest refl, from_be_bytes-to_be_bytes_4 n low) refl

pub tag_again : (n : ℕ) (rest : List ℕ) → n < 32 → tag_at (n ∷ rest) ≡ Some (n, rest)
unfolding tag_at
tag_again n rest low = rw (lt-ltb n 32 low) refl

module _ (is_read : SpellingIsRead) where
  pub batch_again : (ms : List Mutation) → batch_fault ms ≡ None → batch_of (spelled ms) ≡ Some ms
  batch_again ms within =
      let read : decoded (spelled ms) ≡ Ok (ms, length (spelled ms)) = ap decoded (sym (append-nil (spelled ms))) ∙ is_read ms [] within in
      ap (whole (length (spelled ms))) read ∙ rw (eq-eqb (length (spelled ms)) (length (spelled ms)) refl) refl

  text_again : (b : Body) (rest : List ℕ) → IsSoundBody b → text_at (spelled_body b ++ rest) ≡ Some (b.tag, spelled b.batch, rest)
  unfolding text_at spelled_body
  text_again b rest sound =
      let short = batch_short b.batch sound.batch in
      let behind : (to_be_bytes w32 (length (spelled b.batch)) ++ spelled b.batch) ++ rest ≡ to_be_bytes w32 (length (spelled b.batch)) ++ (spelled b.batch ++ rest) = append_assoc (to_be_bytes w32 (length (spelled b.batch))) (spelled b.batch) rest in
      rw (behind, tag_again b.tag (to_be_bytes w32 (length (spelled b.batch)) ++ (spelled b.batch ++ rest)) sound.tag, length_again (length (spelled b.batch)) (spelled b.batch ++ rest) (omega (arith, short)), bytes_again (length (spelled b.batch)) (spelled b.batch) rest refl) refl

  body_again : (b : Body) (rest : List ℕ) → IsSoundBody b → body_at (spelled_body b ++ rest) ≡ Some (b, rest)
  body_again b rest sound = body_found (spelled_body b ++ rest) b.tag (spelled b.batch) rest b.batch (text_again b rest sound) (batch_again b.batch sound.batch)

  all_again : (bs : List Body) (rest : List ℕ) → All IsSoundBody bs → bodies_at (length bs) (flat_map spelled_body bs ++ rest) ≡ Some (bs, rest)
  unfolding bodies_at
  all_again [] rest sound = refl
  all_again (b ∷ bs) rest sound =
      let behind : flat_map spelled_body (b ∷ bs) ++ rest ≡ spelled_body b ++ (flat_map spelled_body bs ++ rest) = append_assoc (spelled_body b) (flat_map spelled_body bs) rest in
      rw (behind, body_again b (flat_map spelled_body bs ++ rest) (All-head IsSoundBody b bs sound), all_again bs rest (All-tail IsSoundBody b bs sound)) refl

  pub bodies_again : (bs : List Body) → All IsSoundBody bs → bodies_of (spelled_bodies bs) ≡ Some bs
  unfolding bodies_of spelled_bodies
  bodies_again bs sound =
      let all : bodies_at (length bs) (flat_map spelled_body bs) ≡ Some (bs, []) = ap (bodies_at (length bs)) (sym (append-nil (flat_map spelled_body bs))) ∙ all_again bs [] sound in
      rw all refl
