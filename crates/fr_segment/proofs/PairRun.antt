-- Calls of one device while another one beside it is left alone.
use Rattle.std.proofs.Common.{◌≡◌, ◌⊎◌, inl, inr, List, [], ◌∷◌, ℕ, refl, sym, ap, ◌∙◌, subst}
use Rattle.fr_record.specs.Disk.{Disk, MayLeave}
use Rattle.fr_record.specs.Moments.{LeavesOnly, Throughout}
use Rattle.fr_segment.specs.Pair.{LeavesBoth, PairThroughout}
use Rattle.fr_segment.specs.PairLaws.{begun, one_further, at_end}

module _ {D : Type 0} (Led : D → D → Type 0) (disk : D → Disk) (P R : List ℕ → Type 0) (Q : List ℕ → List ℕ → Type 0) (both : (a b : List ℕ) → P a → R b → Q a b) where
  -- calls of the first device
  pub first_moves : (first last other : D) → LeavesOnly Led disk R other → Throughout Led disk P first last → PairThroughout Led disk Q (first, other) (last, other)
  first_moves first last other rests ([], run) =
      subst (λ d. PairThroughout Led disk Q (first, other) (d, other)) (sym run.0) (begun Led disk Q (first, other) (λ a b left_a left_b. both a b (run.1 a left_a) (rests b left_b)))
  first_moves first last other rests (before ∷ earlier, run) =
      one_further Led disk Q (first, other) (before, other) (last, other) (first_moves first before other rests (earlier, run.0)) (inl (run.1, refl))
      (λ a b left_a left_b. both a b (run.2 a left_a) (rests b left_b))

  -- calls of the second one
  pub second_moves : (other first last : D) → LeavesOnly Led disk P other → Throughout Led disk R first last → PairThroughout Led disk Q (other, first) (other, last)
  second_moves other first last rests ([], run) =
      subst (λ d. PairThroughout Led disk Q (other, first) (other, d)) (sym run.0) (begun Led disk Q (other, first) (λ a b left_a left_b. both a b (rests a left_a) (run.1 b left_b)))
  second_moves other first last rests (before ∷ earlier, run) =
      one_further Led disk Q (other, first) (other, before) (other, last) (second_moves other first before rests (earlier, run.0)) (inr (inl (run.1, refl)))
      (λ a b left_a left_b. both a b (rests a left_a) (run.2 b left_b))

-- the two named in the other order
pub exchanged : {D : Type 0} (Led : D → D → Type 0) (disk : D → Disk) (Q : List ℕ → List ℕ → Type 0) → ((a b : List ℕ) → Q a b → Q b a) → (first : D × D) (c d : D) → PairThroughout Led disk Q first (c, d)
    → PairThroughout Led disk Q first (d, c)
exchanged Led disk Q turns first c d run =
    one_further Led disk Q first (c, d) (d, c) run (inr (inr refl)) (λ a b left_a left_b. turns b a (at_end Led disk Q first (c, d) run b a left_b left_a))
