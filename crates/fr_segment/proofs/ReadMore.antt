-- Bytes that are read group by group.
use Rattle.std.proofs.Common.{◌≡◌, ◌⊎◌, inl, inr, ℕ, zero, suc, ◌+◌, ◌<◌, ◌≤◌, ◌^◌, List, [], ◌∷◌, ◌++◌, length, get_or, take, drop, refl, sym, ap, ◌∙◌, subst, arith, append_assoc, length-append, take-append-drop}
use Rattle.std.specs.Prelude.{All}
use Rattle.std.proofs.lemmas.List.{take_at, drop_at, drop_more, drop-drop, length-take-le, length-drop, get_or-drop, map-append}
use Rattle.std.proofs.lemmas.List.Elements.{All-append}
use Rattle.fr_segment.specs.declared.place.Place.{Place}
use Rattle.fr_segment.specs.File.{Group, body, seal, block, groups_from, AreShort, StandsFrom, StandsFor, IsClosedAt, records_of_all}
use Rattle.fr_segment.specs.Table.{records_at, places, groups_in, IsRead}
use Rattle.fr_segment.proofs.AllLemmas.{all_first, all_none}
use Rattle.fr_segment.proofs.FileLemmas.{length-block, groups_push, length-one, one_split, groups_found, body_at, stands_from, rest_from, Rest}
use Rattle.fr_segment.proofs.TableLemmas.{same_records, records-places, places-within, all-records-append}

-- nothing was read
pub none_read : (bytes : List ℕ) → IsRead bytes [] 0 []
none_read bytes = record {
  within = all_none (λ (p : Place). p.at + p.len ≤ 0);
  front = refl;
  records = refl;
  short = all_none (λ (g : Group). length (body g) < 2 ^ 32);
  long = omega arith;
}

-- a closed gate, and what follows it
pub closed_split : (bytes : List ℕ) (at : ℕ) → at + 1 < length bytes → IsClosedAt bytes at → drop at bytes ≡ 0 ∷ 0 ∷ drop (at + 2) bytes
closed_split bytes at within closed =
    let two : at + 1 + 1 ≡ at + 2 = omega arith in
    drop_more bytes at 1 (omega (arith, within)) ∙ ap (λ x. x ∷ drop (at + 1) bytes) closed.0
    ∙ ap (λ l. 0 ∷ l) (drop_more bytes (at + 1) 1 within ∙ ap (λ x. x ∷ drop (at + 1 + 1) bytes) closed.1 ∙ ap (λ k. 0 ∷ drop k bytes) two)

pub gate_split : (bytes : List ℕ) (at : ℕ) → at + 1 < length bytes → drop at bytes ≡ get_or bytes at 0 ∷ get_or bytes (at + 1) 0 ∷ drop (at + 2) bytes
gate_split bytes at within =
    let two : at + 1 + 1 ≡ at + 2 = omega arith in
    drop_more bytes at 0 (omega (arith, within))
    ∙ ap (λ l. get_or bytes at 0 ∷ l) (drop_more bytes (at + 1) 0 within ∙ ap (λ k. get_or bytes (at + 1) 0 ∷ drop k bytes) two)

pub closed_from : (bytes : List ℕ) (at : ℕ) (rest : List ℕ) → drop at bytes ≡ 0 ∷ 0 ∷ rest → (at + 1 < length bytes) × IsClosedAt bytes at
closed_from bytes at rest is =
    let e = ap length is in
    let zero_is : at + 0 ≡ at = omega arith in (
      omega (arith, e, length-drop at bytes),
      (
        ap (λ k. get_or bytes k 1) (sym zero_is) ∙ sym (get_or-drop at bytes 0 1) ∙ ap (λ l. get_or l 0 1) is,
        sym (get_or-drop at bytes 1 1) ∙ ap (λ l. get_or l 1 1) is,
      ),
    )

module _ (bytes : List ℕ) (table : List Place) (at : ℕ) (gs : List Group) (read : IsRead bytes table at gs) where
  pub at_is : at ≡ length (groups_from 0 gs)
  at_is = sym (length-take-le at bytes read.long) ∙ ap length read.front

  pub read_split : bytes ≡ groups_from 0 gs ++ drop at bytes
  read_split = sym (take-append-drop at bytes) ∙ ap (λ l. l ++ drop at bytes) read.front

  -- the front stands, so what was read does
  pub read_stays : (new : List ℕ) → take at new ≡ take at bytes → at ≤ length new → IsRead new table at gs
  read_stays new front long = record {
    within = read.within;
    front = front ∙ read.front;
    records = same_records at bytes new front table read.within ∙ read.records;
    short = read.short;
    long = long;
  }

  -- the groups are those that the definition finds
  pub read_found : (n : ℕ) → length gs ≡ n → groups_in n bytes ≡ gs
  read_found n is = ap (λ k. groups_in k bytes) (sym is) ∙ groups_found gs 0 bytes (drop at bytes) read.short read_split

  -- what the file stands for begins with them
  pub read_rest : (groups : List Group) → StandsFor bytes groups → Rest (length gs) gs groups (drop at bytes)
  read_rest groups stands = let e : 0 + length gs ≡ length gs = omega arith in subst (λ k. Rest k gs groups (drop at bytes)) e (rest_from gs groups 0 (drop at bytes) bytes read.short read_split stands)

  -- and if the rest stands for others, the file stands for both
  pub read_stands : (others : List Group) → StandsFrom (length gs) others (drop at bytes) → StandsFor bytes (gs ++ others)
  read_stands others stands =
      let e : length gs ≡ 0 + length gs = omega arith in
      subst (λ l. StandsFrom 0 (gs ++ others) l) (sym read_split) (stands_from gs others 0 (drop at bytes) read.short (subst (λ k. StandsFrom k others (drop at bytes)) e stands))

  -- one group more
  module _ (g : Group) (rest : List ℕ) (short : length (body g) < 2 ^ 32) (is : drop at bytes ≡ 1 ∷ 1 ∷ (block (length gs) (body g) ++ rest)) where
    whole : bytes ≡ groups_from 0 (gs ++ g ∷ []) ++ rest
    whole =
        read_split ∙ ap (λ l. groups_from 0 gs ++ l) (is ∙ sym (one_split (length gs) g rest))
        ∙ sym (append_assoc (groups_from 0 gs) (groups_from (length gs) (g ∷ [])) rest) ∙ ap (λ l. l ++ rest) (sym (groups_push gs g))

    long_front : length (groups_from 0 (gs ++ g ∷ [])) ≡ at + 14 + length (body g)
    long_front =
        let e = ap length (groups_push gs g) in
        omega (arith, e, length-append (groups_from 0 gs) (groups_from (length gs) (g ∷ [])), length-one (length gs) g, at_is)

    body_there : drop (at + 10) bytes ≡ body g ++ (seal (length gs) (body g) ++ rest)
    body_there = sym (drop-drop 10 at bytes) ∙ ap (λ l. drop 10 l) is ∙ body_at (length gs) 1 1 (body g) rest

    pub read_behind : drop (at + 14 + length (body g)) bytes ≡ rest
    read_behind = ap (λ l. drop (at + 14 + length (body g)) l) whole ∙ drop_at (groups_from 0 (gs ++ g ∷ [])) rest (at + 14 + length (body g)) long_front

    pub read_more : IsRead bytes (table ++ places (at + 10) g) (at + 14 + length (body g)) (gs ++ g ∷ [])
    read_more = record {
      within = All-append (λ (p : Place). p.at + p.len ≤ at + 14 + length (body g)) table (places (at + 10) g) (λ i d h. omega (arith, read.within i d h)) (places-within g (at + 10) (at + 14 + length (body g)) (omega arith));
      front = ap (λ l. take (at + 14 + length (body g)) l) whole ∙ take_at (groups_from 0 (gs ++ g ∷ [])) rest (at + 14 + length (body g)) long_front;
      records = map-append _ table (places (at + 10) g) ∙ ap (λ xs. xs ++ records_at bytes (places (at + 10) g)) read.records
          ∙ ap (λ xs. records_of_all gs ++ xs) (records-places g (at + 10) bytes (seal (length gs) (body g) ++ rest) body_there) ∙ sym (all-records-append gs g);
      short = All-append (λ (x : Group). length (body x) < 2 ^ 32) gs (g ∷ []) read.short (all_first (λ (x : Group). length (body x) < 2 ^ 32) g [] short (all_none (λ (x : Group). length (body x) < 2 ^ 32)));
      long = let e = ap length whole in omega (arith, e, long_front, length-append (groups_from 0 (gs ++ g ∷ [])) rest);
    }
