-- What a crash may leave after a write, done or failed.
use Rattle.std.proofs.Common.{◌≡◌, ◌⊎◌, ℕ, ◌+◌, ◌-◌, ◌<◌, ◌≤◌, min, max, Bool, true, false, List, length, get_or, slice_index, Result, Ok, Err, is_err, OnOk, subst, sym, ap, ◌∙◌, inl, inr, arith}
use Rattle.std.proofs.lemmas.Bool.{cases_lt}
use Rattle.std.proofs.lemmas.List.{ext_get_or}
use Rattle.sqlite_disk.specs.Disk.{Holds, Torn, Follows}
use Rattle.fr_record.specs.Disk.{MayLeave}
use Rattle.fr_host.specs.Device.{disk_by, IsMarked, Left}

-- what a call ensures that did not fail
pub done : {T E P : Type 0} (r : Result T E) → false ≡ is_err r → OnOk r P → P
done (Ok x) e p = p
done (Err x) e p = absurd (cc e)

-- a write that is done leaves one content
pub written_once : (at : ℕ) (bytes old seen a b : List ℕ) → seen ≡ old → at ≤ length old → Torn at (length bytes) seen a → Holds a at bytes
    → length b ≡ max (length old) (at + length bytes) → Holds b at bytes
    → ((i : ℕ) → i < length old → (i < at) ⊎ (at + length bytes ≤ i) → get_or b i 0 ≡ get_or old i 0) → a ≡ b
written_once at bytes old seen a b is low torn h size hb others =
    let t = subst (λ s. Torn at (length bytes) s a) is torn in
    let same : length a ≡ length b = omega (arith, t.no_shorter, t.no_longer, h.within, size) in
    ext_get_or 0 a b same (λ i inside. elim (cases_lt i at) [
      | inl early ↦ t.below i (omega (arith, early, low)) early ∙ sym (others i (omega (arith, early, low)) (inl early))
      | inr late ↦ elim (cases_lt i (at + length bytes)) [
        | inl within ↦
            let here : at + (i - at) ≡ i = omega (arith, late) in
            let low' : i - at < length bytes = omega (arith, late, within) in
            ap (slice_index a) (sym here) ∙ h.each (i - at) low' ∙ sym (hb.each (i - at) low') ∙ ap (slice_index b) here
        | inr past ↦
            let old_low : i < length old = omega (arith, t.no_longer, inside, past) in
            t.above i old_low past ∙ sym (others i old_low (inr past))
      ]
    ])

module _ (at n from now_from kept_len : ℕ) (old new : List ℕ) (marks now : List Bool) (is : IsMarked old marks from kept_len) (low : at ≤ length old)
    (first : now_from ≡ min from at) (size : length new ≡ max (length old) (at + n)) (marks_size : length now ≡ max (length marks) (at + n))
    (inside : (i : ℕ) → at ≤ i → i < at + n → get_or now i false ≡ false)
    (outside : (i : ℕ) → (i < at) ⊎ (at + n ≤ i) → get_or now i false ≡ get_or marks i false) where
  -- the marks after a write
  pub marked_written : IsMarked new now now_from kept_len
  marked_written = record {
    each = omega (arith, size, marks_size, is.each);
    from_within = omega (arith, size, low, first);
    below = λ i early. outside i (inl (omega (arith, early, first))) ∙ is.below i (omega (arith, early, first));
    kept = omega (arith, is.kept, size);
    none_past = λ i past. elim (cases_lt i at) [
      | inl early ↦ outside i (inl early) ∙ is.none_past i past
      | inr late ↦ elim (cases_lt i (at + n)) [ inl within ↦ inside i late within | inr behind ↦ outside i (inr behind) ∙ is.none_past i past ]
    ];
  }

  -- what a crash may leave after a write below, done or failed, it may leave after the write
  pub left_written : (P Q : List ℕ → Type 0) → Follows (Torn at n) P Q
      → ((i : ℕ) → i < length old → (i < at) ⊎ (at + n ≤ i) → get_or new i 0 ≡ get_or old i 0)
      → Left P (disk_by old marks kept_len) → Left Q (disk_by new now kept_len)
  left_written P Q follows others left c leaves =
      let before = follows c leaves in
      let d = before.0 in
      let m = left d before.1 in
      let t = before.2 in
      record {
        no_shorter = omega (arith, m.no_shorter, t.no_shorter, is.kept, size);
        no_longer = omega (arith, m.no_longer, t.no_longer, size);
        same = λ i i_low kept.
            let unmoved : (i < at) ⊎ (at + n ≤ i) = elim (cases_lt i at) [
              | inl early ↦ inl early
              | inr late ↦ elim (cases_lt i (at + n)) [ inl within ↦ absurd (cc (kept, inside i late within)) | inr behind ↦ inr behind ]
            ] in
            let was : get_or marks i false ≡ true = sym (outside i unmoved) ∙ kept in
            let long : i < kept_len = elim (cases_lt i kept_len) [ inl it ↦ it | inr past ↦ absurd (cc (was, is.none_past i past)) ] in
            let in_d : i < length d = omega (arith, long, m.no_shorter, is.kept) in
            let in_old : i < length old = omega (arith, long, is.kept) in
            let moved : get_or c i 0 ≡ get_or d i 0 = elim unmoved [ inl early ↦ t.below i in_d early | inr behind ↦ t.above i in_d behind ] in
            moved ∙ m.same i in_d was ∙ sym (others i in_old unmoved);
      }
