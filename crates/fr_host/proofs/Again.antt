-- A write that is made anew: what a crash leaves of it, and that it leaves one content.
use Rattle.std.proofs.Common.{◌≡◌, ◌⊎◌, ℕ, ◌+◌, ◌-◌, ◌<◌, ◌≤◌, ◌^◌, Bool, true, false, List, length, take, drop, slice_index, Option, None, Some, IsTrue, sym, subst, ◌∙◌, ap, refl, inl, inr, arith}
use Rattle.std.proofs.lemmas.Bool.{cases_lt}
use Rattle.std.proofs.lemmas.List.{ext_get_or, get_or-take, get_or-drop, length-take-le, length-drop}
use Rattle.std.proofs.lemmas.Slice.Eq.{bytes_eq-Decides}
use Rattle.std.specs.Str.{bytes_eq}
use Rattle.sqlite_disk.specs.Disk.{Holds, Torn, Mixed, Cut, Follows}
use Rattle.fr_host.specs.Due.{Part, Leaves, IsTornAt, cells}
use Rattle.fr_host.specs.declared.due.Due.{Due}

-- any part of a write, and any part of it again, is a part of it
pub torn_twice : (at n : ℕ) (a b c : List ℕ) → Torn at n a b → Torn at n b c → Torn at n a c
torn_twice at n a b c f s = record {
  no_shorter = omega (arith, f.no_shorter, s.no_shorter);
  no_longer = omega (arith, f.no_longer, s.no_longer);
  below = λ i inside early. s.below i (omega (arith, inside, f.no_shorter)) early ∙ f.below i inside early;
  above = λ i inside past. s.above i (omega (arith, inside, f.no_shorter)) past ∙ f.above i inside past;
}

pub mixed_twice : (at : ℕ) (bytes a b c : List ℕ) → Mixed at bytes a b → Mixed at bytes b c → Mixed at bytes a c
mixed_twice at bytes a b c f s = record {
  torn = torn_twice at (length bytes) a b c f.torn s.torn;
  each = λ i low inside. elim (s.each i low (omega (arith, inside, f.torn.no_shorter))) [
    | inl kept ↦ elim (f.each i low inside) [ inl first ↦ inl (kept ∙ first) | inr put ↦ inr (kept ∙ put) ]
    | inr put ↦ inr put
  ];
}

pub part_twice : (mixes : Bool) (at : ℕ) (bytes a b c : List ℕ) → Part mixes at bytes a b → Part mixes at bytes b c → Part mixes at bytes a c
part_twice false at bytes a b c f s = torn_twice at (length bytes) a b c f s
part_twice true at bytes a b c f s = mixed_twice at bytes a b c f s

-- nothing is a part of any write
pub torn_none : (at n : ℕ) (a : List ℕ) → Torn at n a a
torn_none at n a = record {
  no_shorter = omega arith;
  no_longer = omega arith;
  below = λ i inside early. refl;
  above = λ i inside past. refl;
}

pub mixed_none : (at : ℕ) (bytes a : List ℕ) → Mixed at bytes a a
mixed_none at bytes a = record { torn = torn_none at (length bytes) a; each = λ i low inside. inl refl }

pub cut_none : (n : ℕ) (a : List ℕ) → Cut n a a
cut_none n a = record { no_shorter = omega arith; no_longer = omega arith; below = λ i inside early. refl }

module _ (mixes : Bool) (at : ℕ) (bytes : List ℕ) (left now : List ℕ → Type 0) where
  -- what a write leaves is what was left and a part of it
  pub followed : (IsTrue mixes → Follows (Mixed at bytes) left now) → Follows (Torn at (length bytes)) left now → Follows (Part mixes at bytes) left now
  followed = go mixes
    where
      go : (m : Bool) → (IsTrue m → Follows (Mixed at bytes) left now) → Follows (Torn at (length bytes)) left now → Follows (Part m at bytes) left now
      go false mixed torn = torn
      go true mixed torn = mixed refl

  pub followed_torn : Follows (Part mixes at bytes) left now → Follows (Torn at (length bytes)) left now
  followed_torn = go mixes
    where
      go : (m : Bool) → Follows (Part m at bytes) left now → Follows (Torn at (length bytes)) left now
      go false part = part
      go true part = λ c leaves. (let p = part c leaves in (p.0, p.1, p.2.torn))

  pub followed_mixed : IsTrue mixes → Follows (Part mixes at bytes) left now → Follows (Mixed at bytes) left now
  followed_mixed = go mixes
    where
      go : (m : Bool) → IsTrue m → Follows (Part m at bytes) left now → Follows (Mixed at bytes) left now
      go false is part = absurd (cc is)
      go true is part = part

-- a write made anew leaves nothing that it would not have left
pub again : (mixes : Bool) (at : ℕ) (bytes : List ℕ) (left now : List ℕ → Type 0) → Follows (Part mixes at bytes) left now
    → (c : List ℕ) → ((d : List ℕ) × now d × Part mixes at bytes d c) → (d : List ℕ) × left d × Part mixes at bytes d c
again mixes at bytes left now f c (d, l, p) =
    let first = f d l in
    (first.0, first.1, part_twice mixes at bytes first.0 d c first.2 p)

-- the disk below lacks the write, whatever became of it
pub torn_at_again : (due : Due) (bytes seen now : List ℕ) → due.at < due.end → due.end ≤ length bytes → IsTornAt due bytes seen
    → Torn due.at (length (cells due bytes)) seen now → IsTornAt due bytes now
torn_at_again due bytes seen now some within is t =
    let size : length (cells due bytes) ≡ due.end - due.at = omega (arith, length-take-le (due.end - due.at) (drop due.at bytes), length-drop due.at bytes, some, within) in
    record {
      len = is.len;
      no_shorter = omega (arith, is.no_shorter, t.no_shorter);
      no_longer = omega (arith, is.no_longer, t.no_longer, size, some, within);
      before = λ i inside early. t.below i (omega (arith, inside, is.no_shorter)) early ∙ is.before i inside early;
      behind = λ i inside past. t.above i (omega (arith, inside, is.no_shorter)) (omega (arith, size, some, past)) ∙ is.behind i inside past;
    }

-- the disk below has it, and the gap before it is that of the copy
pub whole_again : (due : Due) (bytes seen : List ℕ) → due.at < due.end → due.end ≤ length bytes → IsTornAt due bytes seen → Holds seen due.at (cells due bytes)
    → ((i : ℕ) → due.old_len ≤ i → i < due.at → slice_index seen i ≡ slice_index bytes i) → seen ≡ bytes
whole_again due bytes seen some within is h gap =
    let size : length (cells due bytes) ≡ due.end - due.at = omega (arith, length-take-le (due.end - due.at) (drop due.at bytes), length-drop due.at bytes, some, within) in
    let same : length seen ≡ length bytes = omega (arith, is.len, is.no_shorter, is.no_longer, h.within, size, some) in
    ext_get_or 0 seen bytes same (λ i inside. elim (cases_lt i due.at) [
      | inl early ↦ elim (cases_lt i due.old_len) [ inl old ↦ is.before i old early | inr new ↦ gap i new early ]
      | inr late ↦ elim (cases_lt i due.end) [
        | inl in_it ↦
            let here : due.at + (i - due.at) ≡ i = omega (arith, late) in
            let low : i - due.at < due.end - due.at = omega (arith, late, in_it) in
            ap (slice_index seen) (sym here) ∙ h.each (i - due.at) (omega (arith, low, size))
            ∙ get_or-take (due.end - due.at) (drop due.at bytes) (i - due.at) 0 low ∙ get_or-drop due.at bytes (i - due.at) 0 ∙ ap (slice_index bytes) here
        | inr past ↦ is.behind i (omega (arith, inside, same, is.len, past)) past
      ]
    ])

-- the copy alone has a write
pub placed : (at n : ℕ) (old mid new : List ℕ) → at + n ≤ length mid → Torn (length old) (at + n - length old) old mid → Torn at n mid new
    → IsTornAt (record { at = at; end = at + n; old_len = length old }) new old
placed at n old mid new room g t = record {
  len = omega (arith, g.no_shorter, g.no_longer, t.no_shorter, t.no_longer, room);
  no_shorter = omega arith;
  no_longer = omega (arith, g.no_shorter, t.no_shorter);
  before = λ i inside early. sym (t.below i (omega (arith, inside, g.no_shorter)) early ∙ g.below i inside inside);
  behind = λ i inside past. sym (t.above i (omega (arith, inside, g.no_shorter)) past ∙ g.below i inside inside);
}

pub written_in : (at n : ℕ) (old mid new : List ℕ) → Torn (length old) (at + n - length old) old mid → Torn at n mid new → Torn at n old new
written_in at n old mid new g t = record {
  no_shorter = omega (arith, g.no_shorter, t.no_shorter);
  no_longer = omega (arith, g.no_longer, t.no_longer);
  below = λ i inside early. t.below i (omega (arith, inside, g.no_shorter)) early ∙ g.below i inside inside;
  above = λ i inside past. t.above i (omega (arith, inside, g.no_shorter)) past ∙ g.below i inside inside;
}

pub mixed_in : (at : ℕ) (bytes old mid new : List ℕ) → Torn (length old) (at + length bytes - length old) old mid → Torn at (length bytes) mid new → Holds new at bytes
    → Mixed at bytes old new
mixed_in at bytes old mid new g t h = record { torn = written_in at (length bytes) old mid new g t; each = λ i low inside. inr (h.each i low) }

-- what was written is what is to be written anew
pub cells_of : (at : ℕ) (bytes new : List ℕ) (old_len : ℕ) → Holds new at bytes → cells (record { at = at; end = at + length bytes; old_len = old_len }) new ≡ bytes
cells_of at bytes new old_len h =
    let n = length bytes in
    let here : at + n - at ≡ n = omega arith in
    let size : length (take (at + n - at) (drop at new)) ≡ n = omega (arith, length-take-le (at + n - at) (drop at new), length-drop at new, h.within) in
    ext_get_or 0 (take (at + n - at) (drop at new)) bytes size (λ i inside.
    let low : i < n = omega (arith, inside, size) in
    get_or-take (at + n - at) (drop at new) i 0 (omega (arith, low)) ∙ get_or-drop at new i 0 ∙ h.each i low)

-- a part of the disk below that reads as the copy is the same in both
pub gap_read : (seen file found : List ℕ) (from to : ℕ) → to ≤ length file → length found ≡ to - from → Holds seen from found
    → bytes_eq found (take (to - from) (drop from file)) ≡ true → (i : ℕ) → from ≤ i → i < to → slice_index seen i ≡ slice_index file i
gap_read seen file found from to within size h is i late early =
    let e : found ≡ take (to - from) (drop from file) = (bytes_eq-Decides found (take (to - from) (drop from file))).0 is in
    let here : from + (i - from) ≡ i = omega (arith, late) in
    let low : i - from < to - from = omega (arith, late, early) in
    ap (slice_index seen) (sym here) ∙ h.each (i - from) (omega (arith, low, size)) ∙ ap (λ s. slice_index s (i - from)) e
    ∙ get_or-take (to - from) (drop from file) (i - from) 0 low ∙ get_or-drop from file (i - from) 0 ∙ ap (slice_index file) here

module _ (mixes : Bool) (o : Option Due) (due : Due) (bytes : List ℕ) (left now : List ℕ → Type 0) (is : o ≡ Some due) (follows : Follows (Part mixes due.at (cells due bytes)) left now) where
  -- what is left while the write is still due, and once it is not, was left before
  pub still_due : (c : List ℕ) → Leaves mixes o bytes now c → Leaves mixes o bytes left c
  still_due c leaves =
      subst (λ p. Leaves mixes p bytes left c) (sym is) (again mixes due.at (cells due bytes) left now follows c (subst (λ p. Leaves mixes p bytes now c) is leaves))

  pub no_more_due : (c : List ℕ) → now c → Leaves mixes o bytes left c
  no_more_due c leaves = subst (λ p. Leaves mixes p bytes left c) (sym is) (follows c leaves)

-- how far the write goes
pub cells_end : (due : Due) (bytes : List ℕ) → due.at < due.end → due.end ≤ length bytes → due.at + length (cells due bytes) ≡ due.end
cells_end due bytes some within = omega (arith, length-take-le (due.end - due.at) (drop due.at bytes), length-drop due.at bytes, some, within)

-- a write that is due still is, whatever became of it
pub not_yet : (o : Option Due) (due : Due) (bytes seen now : List ℕ) → o ≡ Some due → ((d : Due) → o ≡ Some d → (d.at < d.end) × (d.end ≤ length bytes))
    → ((d : Due) → o ≡ Some d → IsTornAt d bytes seen) → Torn due.at (length (cells due bytes)) seen now → (d : Due) → o ≡ Some d → IsTornAt d bytes now
not_yet o due bytes seen now is within lacks t d e =
    let same : due ≡ d = cc (is, e) in
    let w = within due is in
    subst (λ x. IsTornAt x bytes now) same (torn_at_again due bytes seen now w.0 w.1 (lacks due is) t)
