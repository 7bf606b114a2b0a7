-- What a crash leaves after each call of a put.
use Rattle.std.proofs.Common.{◌≡◌, ◌⊎◌, inl, inr, ℕ, ◌+◌, ◌<◌, ◌≤◌, List, length, get_or, take, drop, sym, ap, ◌∙◌, arith}
use Rattle.std.proofs.lemmas.List.{same_lists, length-take, length-drop, get_or-take, get_or-drop, get_or_default}
use Rattle.fr_record.specs.Disk.{Disk, MayLeave, IsDurable, Stands, Torn}

-- lists that agree below a place have the same front
pub same_front : (n : ℕ) (xs ys : List ℕ) → n ≤ length xs → n ≤ length ys → ((i : ℕ) → i < n → get_or xs i 0 ≡ get_or ys i 0) → take n xs ≡ take n ys
same_front n xs ys long_xs long_ys same =
    same_lists (take n xs) (take n ys) (omega (arith, length-take n xs, length-take n ys)) (λ k d h.
    let below : k < n = omega (arith, length-take n xs, h) in
    get_or-take n xs k d below ∙ get_or_default xs k d 0 (omega (arith, below)) ∙ same k below ∙ get_or_default ys k 0 d (omega (arith, below)) ∙ sym (get_or-take n ys k d below))

-- lists that agree from a place on have the same end
pub same_end : (n : ℕ) (xs ys : List ℕ) → length xs ≡ length ys → ((i : ℕ) → n ≤ i → i < length xs → get_or xs i 0 ≡ get_or ys i 0) → drop n xs ≡ drop n ys
same_end n xs ys long same =
    same_lists (drop n xs) (drop n ys) (omega (arith, length-drop n xs, length-drop n ys, long)) (λ k d h.
    let below : n + k < length xs = omega (arith, length-drop n xs, h) in
    get_or-drop n xs k d ∙ get_or_default xs (n + k) d 0 below ∙ same (n + k) (omega arith) below ∙ get_or_default ys (n + k) 0 d (omega (arith, long, below)) ∙ sym (get_or-drop n ys k d))

-- after a sync a crash leaves what a read gives
pub durable_leaves : (disk : Disk) (left : List ℕ) → IsDurable disk → MayLeave disk left → left ≡ disk.content
durable_leaves disk left durable may =
    let long : length left ≡ length disk.content = omega (arith, may.no_shorter, may.no_longer, durable.len) in
    same_lists left disk.content long (λ k d h.
    get_or_default left k d 0 h ∙ may.same k h (durable.kept k (omega (arith, h, long))) ∙ get_or_default disk.content k 0 d (omega (arith, h, long)))

-- a call that changes nothing lets a crash leave no more
pub stands_leaves : (old new : Disk) (left : List ℕ) → Stands old new → MayLeave new left → MayLeave old left
stands_leaves old new left stands may = record {
  no_shorter = omega (arith, may.no_shorter, ap length stands.same, stands.len);
  no_longer = omega (arith, may.no_longer, ap length stands.same);
  same = λ i h kept. may.same i h (stands.kept i kept) ∙ ap (λ l. get_or l i 0) stands.same;
}

-- after a write on a durable device, what a crash leaves is as it was outside of the range
pub torn_outside : (at n : ℕ) (old new : Disk) (left : List ℕ) → IsDurable old → Torn at n old new → MayLeave new left → (i : ℕ) → i < length old.content → i < length left → (i < at) ⊎ (at + n ≤ i)
    → get_or left i 0 ≡ get_or old.content i 0
torn_outside at n old new left durable torn may i within h outside =
    may.same i h (torn.kept i within outside (durable.kept i within)) ∙ torn.same i within outside

pub torn_long : (at n : ℕ) (old new : Disk) (left : List ℕ) → IsDurable old → Torn at n old new → MayLeave new left → length old.content ≤ length left
torn_long at n old new left durable torn may = omega (arith, may.no_shorter, torn.no_shorter, torn.len, durable.len)

-- so its front is
pub torn_front : (at n : ℕ) (old new : Disk) (left : List ℕ) → IsDurable old → Torn at n old new → MayLeave new left → at ≤ length old.content → take at left ≡ take at old.content
torn_front at n old new left durable torn may within =
    let long = torn_long at n old new left durable torn may in
    same_front at left old.content (omega (arith, long, within)) within (λ i h. torn_outside at n old new left durable torn may i (omega (arith, h, within)) (omega (arith, h, within, long)) (inl h))

-- and its end, if the write is within
pub torn_end : (at n : ℕ) (old new : Disk) (left : List ℕ) → IsDurable old → Torn at n old new → MayLeave new left → at + n ≤ length old.content → drop (at + n) left ≡ drop (at + n) old.content
torn_end at n old new left durable torn may within =
    let long = torn_long at n old new left durable torn may in
    let same_len : length left ≡ length old.content = omega (arith, long, may.no_longer, torn.no_longer, within) in
    same_end (at + n) left old.content same_len (λ i from h. torn_outside at n old new left durable torn may i (omega (arith, h, same_len)) h (inr from))
