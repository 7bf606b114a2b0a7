-- A put, call by call: at each moment a crash leaves the gate closed, or the new bytes behind it.
use Rattle.std.proofs.Common.{◌≡◌, inl, inr, ℕ, ◌+◌, ◌<◌, ◌≤◌, List, [], ◌∷◌, length, get_or, take, drop, sym, ap, ◌∙◌, subst, arith}
use Rattle.fr_record.specs.Disk.{Disk, IsDurable, Stands, Torn, written}
use Rattle.fr_record.specs.Moments.{Throughout}
use Rattle.fr_segment.specs.Put.{IsPut, IsAtGate}
use Rattle.fr_segment.proofs.Crash.{durable_leaves, stands_leaves}
use Rattle.fr_segment.proofs.Moments.{started, goes_on}
use Rattle.fr_segment.proofs.PutLemmas.{behind_leaves, gate_leaves, opened}

module _ {D : Type 0} (Led : D → D → Type 0) (disk : D → Disk) (gate : ℕ) (new : List ℕ) (first : D) (within : gate + 1 < length (disk first).content) (durable : IsDurable (disk first)) where
  abbrev pub P : List ℕ → Type 0
  P = IsPut (disk first).content gate new

  abbrev pub Until : D → Type 0
  Until = Throughout Led disk P first

  pub unchanged : Until first
  unchanged = started Led disk P first (λ left may. inl (ap (λ l. take (gate + 2) l) (durable_leaves (disk first) left durable may)))

  module _ (one : D) (led_one : Led first one) (torn : Torn (gate + 2) (length new) (disk first) (disk one)) where
    pub put_behind : Until one
    put_behind = goes_on Led disk P first first one unchanged led_one (λ left may. behind_leaves (disk first) (disk one) gate (length new) new left within durable torn may)

    module _ (two : D) (led_two : Led one two) (stands : Stands (disk one) (disk two)) where
      pub synced_behind : Until two
      synced_behind =
          goes_on Led disk P first one two put_behind led_two (λ left may. behind_leaves (disk first) (disk one) gate (length new) new left within durable torn (stands_leaves (disk one) (disk two) left stands may))

      module _ (done : (disk one).content ≡ written (disk first).content (gate + 2) new) (durable_two : IsDurable (disk two)) where
        is_staged : (disk two).content ≡ written (disk first).content (gate + 2) new
        is_staged = stands.same ∙ done

        long : length (disk first).content ≤ length (disk two).content
        long = omega (arith, torn.no_shorter, ap length stands.same)

        module _ (three : D) (led_three : Led two three) (torn_gate : Torn gate 2 (disk two) (disk three)) where
          pub gate_put : Until three
          gate_put = goes_on Led disk P first two three synced_behind led_three (λ left may. inr (take 2 (drop gate left), gate_leaves (disk first) (disk two) (disk three) gate new left within is_staged long durable_two torn_gate may))

          pub gate_synced : (four : D) → Led three four → Stands (disk three) (disk four) → Until four
          gate_synced four led_four kept =
              goes_on Led disk P first three four gate_put led_four (λ left may. inr (
                take 2 (drop gate left),
                gate_leaves (disk first) (disk two) (disk three) gate new left within is_staged long durable_two torn_gate (stands_leaves (disk three) (disk four) left kept may),
              ))

          pub is_open : (four : D) → (disk three).content ≡ written (disk two).content gate (1 ∷ 1 ∷ []) → Stands (disk three) (disk four) → IsAtGate (disk first).content gate (1 ∷ 1 ∷ []) new (disk four).content
          is_open four opens kept =
              subst (λ l. IsAtGate (disk first).content gate (1 ∷ 1 ∷ []) new l) (sym kept.same) (opened (disk first) (disk two) (disk three) gate new within is_staged long durable_two torn_gate opens)
