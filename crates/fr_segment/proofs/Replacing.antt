-- The next file of a pair, and the room that it needs.
use Rattle.std.proofs.Common.{◌≡◌, ◌⊎◌, inl, inr, ℕ, ◌+◌, ◌-◌, ◌<◌, ◌≤◌, ◌^◌, min, List, [], ◌∷◌, ◌++◌, length, get_or, drop, refl, sym, ap, ◌∙◌, subst, arith, length-append}
use Rattle.std.proofs.lemmas.List.{append-nil, length-drop}
use Rattle.fr_segment.specs.File.{Group, body, block, behind, guard, groups_from, AreShort}
use Rattle.fr_segment.specs.Header.{header}
use Rattle.fr_segment.specs.Health.{IsNext}
use Rattle.fr_segment.specs.Room.{begun_size}
use Rattle.fr_segment.specs.Turns.{led_by, BeginsWith, IsOlder, own_records}
use Rattle.fr_segment.proofs.AllLemmas.{all_first, all_none}
use Rattle.fr_segment.proofs.FileLemmas.{length-block, length-body, length-one, groups_push}
use Rattle.fr_segment.proofs.Renewed.{length-spelled_group}

pub begins_long : (n : ℕ) (identity file : List ℕ) → BeginsWith n identity file → 1 < length file
begins_long n identity file begins =
    let e = ap length begins.split in
    omega (arith, e, length-drop 2 file, length-append (block 0 (led_by (header n identity) begins.more)) begins.rest, length-block 0 (led_by (header n identity) begins.more))

pub older_long : (n : ℕ) (identity file : List ℕ) → IsOlder n identity file → 1 < length file
older_long n identity file (inl nothing) = nothing.0
older_long n identity file (inr older) = begins_long older.0 identity file older.2

pub length-header : (n : ℕ) (identity : List ℕ) → length (header n identity) ≡ 15 + length identity
length-header n identity = omega arith

pub headed_long : (n : ℕ) (identity : List ℕ) (rs : Group) → length (body (header n identity ∷ rs)) ≡ length identity + 19 + length (body rs)
headed_long n identity rs = omega (arith, length-body (header n identity) rs, length-header n identity)

pub next_of : (n : ℕ) (identity : List ℕ) (rs : Group) → n + 1 < 2 ^ 64 → length (body (header (n + 1) identity ∷ rs)) < 2 ^ 32 → IsNext n identity (header (n + 1) identity ∷ rs)
next_of n identity rs small short = record {
  small = small;
  short = all_first (λ (x : Group). length (body x) < 2 ^ 32) (header (n + 1) identity ∷ rs) [] short (all_none (λ (x : Group). length (body x) < 2 ^ 32));
  headed = record { first = rs; others = []; split = refl };
}

-- where such a file has room, its group is short and its bytes fit
pub next_short : (n capacity : ℕ) (identity : List ℕ) (rs : Group) → length identity + 19 + length (body rs) + 24 ≤ min capacity (2 ^ 32 - 1) → length (body (header n identity ∷ rs)) < 2 ^ 32
next_short n capacity identity rs room = omega (arith, room, headed_long n identity rs)

pub next_fits : (n capacity : ℕ) (identity : List ℕ) (rs : Group) (new : List ℕ) → new ≡ behind 0 (header n identity ∷ rs) ++ guard 1 → length identity + 19 + length (body rs) + 24 ≤ min capacity (2 ^ 32 - 1) → 2 + length new ≤ capacity
next_fits n capacity identity rs new is room = let e = ap length is in omega (arith, e, room, length-spelled_group 0 (header n identity ∷ rs), headed_long n identity rs)

-- the bytes that it takes, and its records
pub next_used : (n : ℕ) (identity : List ℕ) (rs : Group) (groups : List Group) → groups ≡ (header n identity ∷ rs) ∷ [] → length (groups_from 0 groups) ≡ begun_size (length identity + 19) rs
next_used n identity rs groups is = let e = ap (λ gs. length (groups_from 0 gs)) is in omega (arith, e, length-one 0 (header n identity ∷ rs), headed_long n identity rs)

pub next_own : (n : ℕ) (identity : List ℕ) (rs : Group) (groups : List Group) → groups ≡ (header n identity ∷ rs) ∷ [] → own_records groups ≡ rs
next_own n identity rs groups is = ap own_records is ∙ append-nil rs

-- one group more takes its bytes
pub used_more : (gs : List Group) (g : Group) → length (groups_from 0 (gs ++ g ∷ [])) ≡ length (groups_from 0 gs) + (length (body g) + 14)
used_more gs g = let e = ap length (groups_push gs g) in omega (arith, e, length-append (groups_from 0 gs) (groups_from (length gs) (g ∷ [])), length-one (length gs) g)
