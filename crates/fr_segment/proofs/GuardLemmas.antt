-- The guard behind a closed gate.
use Rattle.std.proofs.Common.{◌≡◌, ◌⊎◌, inl, inr, ℕ, ◌+◌, ◌<◌, ◌≤◌, ◌^◌, List, [], ◌∷◌, ◌++◌, length, get_or, take, drop, sym, ap, ◌∙◌, subst, arith, append_assoc, length-append, take-append-drop}
use Rattle.std.proofs.lemmas.List.{take_at, drop_at, take-take, drop-take, drop-drop, length-take, length-take-le, length-drop, get_or-take}
use Rattle.fr_segment.specs.declared.place.Place.{Place}
use Rattle.fr_segment.specs.File.{Group, body, block, groups_from, behind, AreShort, StandsFor, IsClosedAt, IsLeft, IsFront, IsAtRest}
use Rattle.fr_segment.specs.Put.{IsBehindGate}
use Rattle.fr_segment.specs.Table.{IsRead, IsGuarded}
use Rattle.fr_segment.proofs.AllLemmas.{all_left}
use Rattle.fr_segment.proofs.FileLemmas.{length-block, groups-append, length-one, rest_from, unique}
use Rattle.fr_segment.proofs.ReadMore.{at_is, read_stays}
use Rattle.fr_segment.proofs.ReadLemmas.{front_closed, left_stands, rest_stands}

-- bytes behind the closed gate of a file that was read
module _ (file : List ℕ) (table : List Place) (end : ℕ) (gs : List Group) (read : IsRead file table end gs) (long : end + 1 < length file) (closed : IsClosedAt file end) where
  end_here : end ≡ length (groups_from 0 gs)
  end_here = at_is file table end gs read

  pub gs_stand : StandsFor file gs
  gs_stand =
      front_closed file gs read.short (subst (λ n. take n file ≡ groups_from 0 gs) end_here read.front) (subst (λ n. n + 1 < length file) end_here long) (subst (λ n. IsClosedAt file n) end_here closed)

  module _ (now : List ℕ) (same : IsBehindGate file end now) where
    long_now : end + 1 < length now
    long_now = let e = ap length same in omega (arith, e, long, length-take (end + 2) now, length-take (end + 2) file)

    front_now : take end now ≡ take end file
    front_now = sym (take-take end (end + 2) now (omega arith)) ∙ ap (λ l. take end l) same ∙ take-take end (end + 2) file (omega arith)

    closed_now : IsClosedAt now end
    closed_now = (
      sym (get_or-take (end + 2) now end 1 (omega arith)) ∙ ap (λ l. get_or l end 1) same ∙ get_or-take (end + 2) file end 1 (omega arith) ∙ closed.0,
      sym (get_or-take (end + 2) now (end + 1) 1 (omega arith)) ∙ ap (λ l. get_or l (end + 1) 1) same ∙ get_or-take (end + 2) file (end + 1) 1 (omega arith) ∙ closed.1,
    )

    pub guard_closed : (take end now ≡ take end file) × ((end + 1 < length now) × IsClosedAt now end)
    guard_closed = (front_now, (long_now, closed_now))

    -- what a crash may have left it may leave yet
    pub guard_leaves : (before : List Group) (g : Group) → AreShort (before ++ g ∷ []) → IsLeft before g file → IsLeft before g now
    guard_leaves before g short left = go left.gate
      where
        alone : before ≡ gs → IsLeft before g now
        alone is =
            let e : end ≡ length (groups_from 0 before) = end_here ∙ ap (λ xs. length (groups_from 0 xs)) (sym is) in
            record {
              long = subst (λ n. n + 1 < length now) e long_now;
              front = subst (λ n. take n now ≡ take n file) e front_now ∙ left.front;
              gate = inl (subst (λ n. IsClosedAt now n) e closed_now);
            }

        both : take (length (behind (length before) g)) (drop (length (groups_from 0 before) + 2) file) ≡ behind (length before) g → before ++ g ∷ [] ≡ gs → IsLeft before g now
        both there is =
            let n = length (groups_from 0 before) in
            let k = length (behind (length before) g) in
            let whole = ap length (groups-append 0 before (g ∷ [])) in
            let e : end ≡ length (groups_from 0 (before ++ g ∷ [])) = end_here ∙ ap (λ xs. length (groups_from 0 xs)) (sym is) in
            let reach : end + 2 ≡ n + 2 + k =
            omega (
              arith,
              e,
              whole,
              length-append (groups_from 0 before) (groups_from (0 + length before) (g ∷ [])),
              length-one (0 + length before) g,
              length-append (block (length before) (body g)) (0 ∷ 0 ∷ []),
              length-block (length before) (body g),
            ) in
            let cut : take (n + 2 + k) now ≡ take (n + 2 + k) file = subst (λ m. take m now ≡ take m file) reach same in
            record {
              long = omega (arith, reach, long_now);
              front = sym (take-take n end now (omega (arith, reach))) ∙ ap (λ l. take n l) front_now ∙ take-take n end file (omega (arith, reach)) ∙ left.front;
              gate = inr (sym (drop-take (n + 2) k now) ∙ ap (λ l. drop (n + 2) l) cut ∙ drop-take (n + 2) k file ∙ there);
            }

        go : IsClosedAt file (length (groups_from 0 before)) ⊎ (take (length (behind (length before) g)) (drop (length (groups_from 0 before) + 2) file) ≡ behind (length before) g) → IsLeft before g now
        go (inl shut) =
            let stands = front_closed file before (all_left (λ (x : Group). length (body x) < 2 ^ 32) before (g ∷ []) short) left.front left.long shut in
            alone (unique file gs before gs_stand stands)
        go (inr there) = elim (left_stands file before g short left) [
          | inl stands ↦ alone (unique file gs before gs_stand stands)
          | inr stands ↦ both there (unique file gs (before ++ g ∷ []) gs_stand stands)
        ]

    -- groups that the file begins with stay
    pub guard_front : (some : List Group) → IsFront some file → IsFront some now
    guard_front some begins =
        let n = length (groups_from 0 some) in
        let rest = rest_from some gs 0 (drop n file) file begins.short (sym (take-append-drop n file) ∙ ap (λ l. l ++ drop n file) begins.front) gs_stand in
        let e = ap length (ap (λ l. groups_from 0 l) rest.split ∙ groups-append 0 some rest.others) in
        let below : n ≤ end = omega (arith, end_here, e, length-append (groups_from 0 some) (groups_from (0 + length some) rest.others)) in
        record {
          short = begins.short;
          long = omega (arith, below, long_now);
          front = sym (take-take n end now below) ∙ ap (λ l. take n l) front_now ∙ take-take n end file below ∙ begins.front;
        }

    pub guard_read : IsRead now table end gs
    guard_read = read_stays file table end gs read now front_now (omega (arith, long_now))

  -- a file at rest is guarded
  pub rest_guarded : (before : List Group) → IsAtRest before file → (number : ℕ) → length gs ≡ number → IsGuarded file end number
  rest_guarded before rest number is content more short begins =
      let same : before ≡ gs = unique file gs before gs_stand (rest_stands file before rest) in
      let e : end ≡ length (groups_from 0 before) = end_here ∙ ap (λ xs. length (groups_from 0 xs)) (sym same) in
      let there : drop (end + 2) file ≡ rest.rest =
      ap (λ k. drop (k + 2) file) e ∙ ap (λ l. drop (length (groups_from 0 before) + 2) l) (rest.split ∙ sym (append_assoc (groups_from 0 before) (0 ∷ 0 ∷ []) rest.rest))
      ∙ drop_at (groups_from 0 before ++ 0 ∷ 0 ∷ []) rest.rest (length (groups_from 0 before) + 2) (length-append (groups_from 0 before) (0 ∷ 0 ∷ [])) in
      let number_is : length before ≡ number = ap length same ∙ is in
      rest.guarded content more short (sym there ∙ begins ∙ ap (λ k. block k content ++ more) (sym number_is))
