-- Reading bodies one after the other, as a loop does.
use Rattle.std.proofs.Common.{◌≡◌, ℕ, suc, ◌-◌, ◌+◌, ◌≤◌, ◌<◌, true, false, List, [], ◌∷◌, ◌++◌, Option, None, Some, refl, sym, ap, ◌∙◌, append_assoc, arith}
use Rattle.std.specs.Prelude.{if◌then◌else◌}
use Rattle.std.proofs.lemmas.List.{append-nil}
use Rattle.fr_mutation.specs.declared.mutation.Mutation.{Mutation}
use Rattle.fr_tags.specs.declared.body.Body.{Body}
use Rattle.fr_record_log.specs.Reading.{◌>>=◌, byte_at, batch_of, text_at, body_at, bodies_at, bodies_of, is_end}

-- what was read before, and what is still read
abbrev pub with_front : List Body → Option (List Body × List ℕ) → Option (List Body × List ℕ)
with_front front read = read >>= λ x. Some (front ++ x.0, x.1)

one_less : (count i : ℕ) → i < count → count - i ≡ suc (count - (i + 1))
one_less count i lt = omega arith

-- ---- one body

pub body_found : (bytes : List ℕ) (tag : ℕ) (text after : List ℕ) (batch : List Mutation) → text_at bytes ≡ Some (tag, text, after) → batch_of text ≡ Some batch → body_at bytes ≡ Some (record { tag = tag; batch = batch }, after)
unfolding body_at
body_found bytes tag text after batch e h = rw (e, h) refl

pub no_text : (bytes : List ℕ) → text_at bytes ≡ None → body_at bytes ≡ None
unfolding body_at
no_text bytes e = rw e refl

pub no_batch : (bytes : List ℕ) (tag : ℕ) (text after : List ℕ) → text_at bytes ≡ Some (tag, text, after) → batch_of text ≡ None → body_at bytes ≡ None
unfolding body_at
no_batch bytes tag text after e h = rw (e, h) refl

-- ---- one after the other

regroup : (front : List Body) (b : Body) (read : Option (List Body × List ℕ)) → with_front front (read >>= λ x. Some (b ∷ x.0, x.1)) ≡ with_front (front ++ b ∷ []) read
regroup front b (Some x) = ap (λ (bs : List Body). Some (bs, x.1)) (simp append_assoc)
regroup front b None = refl

pub goes_on : (front : List Body) (count i : ℕ) (bytes after : List ℕ) (b : Body) (total : Option (List Body × List ℕ)) → i < count → body_at bytes ≡ Some (b, after)
    → with_front front (bodies_at (count - i) bytes) ≡ total → with_front (front ++ b ∷ []) (bodies_at (count - (i + 1)) after) ≡ total
unfolding bodies_at
goes_on front count i bytes after b total lt h so_far =
    let k : count - i ≡ suc (count - (i + 1)) = one_less count i lt in
    let one : with_front front (bodies_at (count - i) bytes) ≡ with_front (front ++ b ∷ []) (bodies_at (count - (i + 1)) after) = rw (k, h) (regroup front b (bodies_at (count - (i + 1)) after)) in
    sym one ∙ so_far

ends : (front : List Body) (count i : ℕ) (bytes : List ℕ) (total : Option (List Body × List ℕ)) → i < count → body_at bytes ≡ None → with_front front (bodies_at (count - i) bytes) ≡ total → total ≡ None
unfolding bodies_at
ends front count i bytes total lt h so_far =
    let k : count - i ≡ suc (count - (i + 1)) = one_less count i lt in
    let one : with_front front (bodies_at (count - i) bytes) ≡ None = rw (k, h) refl in
    sym so_far ∙ one

is_done : (front : List Body) (count i : ℕ) (bytes : List ℕ) (total : Option (List Body × List ℕ)) → count ≤ i → with_front front (bodies_at (count - i) bytes) ≡ total → total ≡ Some (front, bytes)
unfolding bodies_at
is_done front count i bytes total le so_far =
    let k : count - i ≡ 0 = omega arith in
    let one : with_front front (bodies_at (count - i) bytes) ≡ Some (front, bytes) = rw k (ap (λ (bs : List Body). Some (bs, bytes)) (append-nil front)) in
    sym so_far ∙ one

-- ---- all of them

module _ (bytes : List ℕ) (count : ℕ) (front : List ℕ) (opened : byte_at bytes ≡ Some (count, front)) (bs : List Body) (i : ℕ) (rest : List ℕ) (so_far : with_front bs (bodies_at (count - i) rest) ≡ bodies_at count front) where
  abbrev ending : Option (List Body × List ℕ) → Option (List Body)
  ending o = o >>= λ read. if is_end read.1 then Some read.0 else None

  whole : bodies_of bytes ≡ ending (bodies_at count front)
  unfolding bodies_of bodies_at
  whole = rw opened refl

  pub broken : i < count → body_at rest ≡ None → bodies_of bytes ≡ None
  broken lt none = whole ∙ ap ending (ends bs count i rest (bodies_at count front) lt none so_far)

  pub found_all : count ≤ i → is_end rest ≡ true → bodies_of bytes ≡ Some bs
  found_all le end = whole ∙ ap ending (is_done bs count i rest (bodies_at count front) le so_far) ∙ rw end refl

  pub more_follows : count ≤ i → is_end rest ≡ false → bodies_of bytes ≡ None
  more_follows le end = whole ∙ ap ending (is_done bs count i rest (bodies_at count front) le so_far) ∙ rw end refl
