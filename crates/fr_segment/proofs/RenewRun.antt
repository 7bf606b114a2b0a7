-- A first gate that is closed, and a file that is begun anew, call by call.
use Rattle.std.proofs.Common.{◌≡◌, ◌⊎◌, inl, inr, ℕ, ◌+◌, ◌<◌, ◌≤◌, List, [], ◌∷◌, ◌++◌, length, get_or, take, drop, refl, sym, ap, ◌∙◌, subst, arith, length-append}
use Rattle.std.specs.Prelude.{Result, Ok, Err, OnErr}
use Rattle.std.proofs.lemmas.List.{get_or-take, drop-take, drop_at}
use Rattle.fr_record.specs.Disk.{Disk, MayLeave, IsDurable, Stands, Torn, written}
use Rattle.fr_record.specs.Moments.{Throughout}
use Rattle.fr_segment.specs.File.{IsClosedAt}
use Rattle.fr_segment.specs.Put.{IsAtGate, IsPut, IsClosing, IsRenewed}
use Rattle.fr_segment.proofs.Crash.{durable_leaves, stands_leaves, torn_end, torn_long}
use Rattle.fr_segment.proofs.Grown.{put_long}
use Rattle.fr_segment.proofs.Moments.{started, goes_on, weaker, joined}

-- what is so anyway is so after a refusal
pub always_err : {X E : Type 0} (T : Type 0) (result : Result X E) → T → OnErr result T
always_err T (Ok x) it = tt
always_err T (Err e) it = it

-- what a refusal tells
pub err_tells : {X E : Type 0} (T : Type 0) (result : Result X E) (e : E) → result ≡ Err e → OnErr result T → T
err_tells T (Ok x) e is it = absurd (cc is)
err_tells T (Err f) e is it = it

-- what a crash leaves outlasts a call that changes nothing
pub durable_stays : (old new : Disk) → IsDurable old → Stands old new → IsDurable new
durable_stays old new durable stands =
    let long = ap length stands.same in
    record {
      kept = λ i h. stands.kept i (durable.kept i (omega (arith, h, long)));
      len = omega (arith, long, durable.len, stands.len);
    }

-- two bytes that are 0 are a closed gate, and the other way round
pub zeros_closed : (bytes : List ℕ) → take 2 bytes ≡ 0 ∷ 0 ∷ [] → IsClosedAt bytes 0
zeros_closed [] e = absurd (let l = ap length e in omega (arith, l))
zeros_closed (x ∷ []) e = absurd (let l = ap length e in omega (arith, l))
zeros_closed (x ∷ y ∷ bytes) e = (ap (λ l. get_or l 0 1) e, ap (λ l. get_or l 1 1) e)

pub closed_zeros : (bytes : List ℕ) → 1 < length bytes → IsClosedAt bytes 0 → take 2 bytes ≡ 0 ∷ 0 ∷ []
closed_zeros [] long closed = absurd (omega (arith, long))
closed_zeros (x ∷ []) long closed = absurd (omega (arith, long))
closed_zeros (x ∷ y ∷ bytes) long closed = ap (λ (k : ℕ). k ∷ y ∷ []) closed.0 ∙ ap (λ (k : ℕ). 0 ∷ k ∷ []) closed.1

-- a gate that was read on its own
pub gate_shut : (bytes gate : List ℕ) → gate ≡ take 2 bytes → IsClosedAt gate 0 → IsClosedAt bytes 0
gate_shut bytes gate is closed = (
  sym (get_or-take 2 bytes 0 1 (omega arith)) ∙ ap (λ l. get_or l 0 1) (sym is) ∙ closed.0,
  sym (get_or-take 2 bytes 1 1 (omega arith)) ∙ ap (λ l. get_or l 1 1) (sym is) ∙ closed.1,
)

pub shut_gate : (bytes gate : List ℕ) → 1 < length bytes → gate ≡ take 2 bytes → IsClosedAt bytes 0 → (0 + 1 < length gate) × IsClosedAt gate 0
shut_gate bytes gate long is closed =
    let zeros = is ∙ closed_zeros bytes long closed in
    (let e = ap length zeros in omega (arith, e), (ap (λ l. get_or l 0 1) zeros, ap (λ l. get_or l 1 1) zeros))

module _ {D : Type 0} (Led : D → D → Type 0) (disk : D → Disk) (first : D) (within : 1 < length (disk first).content) (durable : IsDurable (disk first)) where
  abbrev pub Closing : D → Type 0
  Closing = Throughout Led disk (IsClosing (disk first).content) first

  as_before : (left : List ℕ) → left ≡ (disk first).content → IsClosing (disk first).content left
  as_before left is = record { long = let e = ap length is in omega (arith, e, within); end = ap (λ l. drop 2 l) is; closed = λ closed. is }

  pub not_begun : Closing first
  not_begun = started Led disk (IsClosing (disk first).content) first (λ left may. as_before left (durable_leaves (disk first) left durable may))

  module _ (read : D) (led_read : Led first read) (stands : Stands (disk first) (disk read)) where
    pub gate_read : Closing read
    gate_read = goes_on Led disk (IsClosing (disk first).content) first first read not_begun led_read (λ left may. as_before left (durable_leaves (disk first) left durable (stands_leaves (disk first) (disk read) left stands may)))

    pub durable_read : IsDurable (disk read)
    durable_read = durable_stays (disk first) (disk read) durable stands

    pub long_read : 1 < length (disk read).content
    long_read = let e = ap length stands.same in omega (arith, e, within)

    module _ (opens : IsClosedAt (disk first).content 0 → ⊥) (one : D) (led_one : Led read one) (torn : Torn 0 2 (disk read) (disk one)) where
      torn_gate : (left : List ℕ) → MayLeave (disk one) left → IsClosing (disk first).content left
      torn_gate left may = record {
        long = let e = ap length stands.same in omega (arith, e, within, torn_long 0 2 (disk read) (disk one) left durable_read torn may);
        end = torn_end 0 2 (disk read) (disk one) left durable_read torn may (omega (arith, long_read)) ∙ ap (λ l. drop 2 l) stands.same;
        closed = λ closed. absurd (opens closed);
      }

      pub gate_written : Closing one
      gate_written = goes_on Led disk (IsClosing (disk first).content) first read one gate_read led_one torn_gate

      pub long_written : 1 < length (disk one).content
      long_written = omega (arith, long_read, torn.no_shorter)

      module _ (two : D) (led_two : Led one two) (stood : Stands (disk one) (disk two)) where
        pub gate_closed : Closing two
        gate_closed = goes_on Led disk (IsClosing (disk first).content) first one two gate_written led_two (λ left may. torn_gate left (stands_leaves (disk one) (disk two) left stood may))

        pub long_closed : 1 < length (disk two).content
        long_closed = let e = ap length stood.same in omega (arith, e, long_written)

        pub is_closed : (disk one).content ≡ written (disk read).content 0 (0 ∷ 0 ∷ []) → IsClosedAt (disk two).content 0
        is_closed done = let is = stood.same ∙ done in (ap (λ l. get_or l 0 1) is, ap (λ l. get_or l 1 1) is)

-- a put behind a gate that was closed
pub put_renewed : (old closed new left : List ℕ) → 1 < length closed → IsClosedAt closed 0 → IsPut closed 0 new left → IsRenewed old new left
put_renewed old closed new left long shut (inl same) = inr (inl (
  put_long closed 0 new left long (inl same),
  (
    sym (get_or-take 2 left 0 1 (omega arith)) ∙ ap (λ l. get_or l 0 1) same ∙ get_or-take 2 closed 0 1 (omega arith) ∙ shut.0,
    sym (get_or-take 2 left 1 1 (omega arith)) ∙ ap (λ l. get_or l 1 1) same ∙ get_or-take 2 closed 1 1 (omega arith) ∙ shut.1,
  ),
))
put_renewed old closed new left long shut (inr at) = inr (inr (
  put_long closed 0 new left long (inr at),
  sym (drop-take 2 (length new) left) ∙ ap (λ l. drop 2 l) at.1.at ∙ drop_at at.0 new 2 at.1.two_long,
))

module _ {D : Type 0} (Led : D → D → Type 0) (disk : D → Disk) (first : D) (new : List ℕ) (closed : D) (closing : Throughout Led disk (IsClosing (disk first).content) first closed) where
  pub while_closing : Throughout Led disk (IsRenewed (disk first).content new) first closed
  while_closing = weaker Led disk (IsClosing (disk first).content) (IsRenewed (disk first).content new) (λ left it. inl it) first closed closing

  pub while_renewing : (last : D) → 1 < length (disk closed).content → IsClosedAt (disk closed).content 0 → Throughout Led disk (IsPut (disk closed).content 0 new) closed last → Throughout Led disk (IsRenewed (disk first).content new) first last
  while_renewing last long shut put =
      joined Led disk (IsRenewed (disk first).content new) first closed last while_closing
      (weaker Led disk (IsPut (disk closed).content 0 new) (IsRenewed (disk first).content new) (λ left it. put_renewed (disk first).content (disk closed).content new left long shut it) closed last put)

-- at the first place it is nothing to the gate what was there
pub at_first : (old now new left : List ℕ) → IsAtGate now 0 (1 ∷ 1 ∷ []) new left → IsAtGate old 0 (1 ∷ 1 ∷ []) new left
at_first old now new left at = record { front = refl; two_long = at.two_long; at = at.at }
