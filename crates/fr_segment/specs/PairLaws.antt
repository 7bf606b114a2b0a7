-- Runs of calls of two devices, and ways over them, one behind another.
use Rattle.std.proofs.Common.{◌≡◌, ◌⊎◌, inl, inr, List, [], ◌∷◌, ℕ, refl, sym, ap, ◌∙◌, subst}
use Rattle.fr_record.specs.Disk.{Disk, MayLeave}
use Rattle.fr_segment.specs.Pair.{IsCall, LeavesBoth, PairRun, PairThroughout}
use Rattle.fr_segment.specs.Way.{TurnsFile, HasRecords, IsWay}

module _ {D : Type 0} (Led : D → D → Type 0) (disk : D → Disk) where
  module _ (Q : List ℕ → List ℕ → Type 0) where
    -- before the first call
    pub begun : (both : D × D) → LeavesBoth Led disk Q both → PairThroughout Led disk Q both both
    begun both here = ([], (refl, here))

    -- one call more
    pub one_further : (first before last : D × D) → PairThroughout Led disk Q first before → IsCall Led disk before last → LeavesBoth Led disk Q last → PairThroughout Led disk Q first last
    one_further first before last so_far call here = (before ∷ so_far.0, (so_far.1, call, here))

    -- what holds at each moment holds at the last
    pub at_end : (first last : D × D) → PairThroughout Led disk Q first last → LeavesBoth Led disk Q last
    at_end first last ([], run) = subst (λ both. LeavesBoth Led disk Q both) (sym run.0) run.1
    at_end first last (before ∷ earlier, run) = run.2

    -- one run after another
    pub chained : (first middle last : D × D) → PairThroughout Led disk Q first middle → PairThroughout Led disk Q middle last → PairThroughout Led disk Q first last
    chained first middle last start ([], run) = subst (λ both. PairThroughout Led disk Q first both) (sym run.0) start
    chained first middle last start (before ∷ earlier, run) = one_further first before last (chained first middle before start (earlier, run.0)) run.1 run.2

  -- a weaker fact holds at each moment too
  pub weaker_both : (Q R : List ℕ → List ℕ → Type 0) → ((a b : List ℕ) → Q a b → R a b) → (first last : D × D) → PairThroughout Led disk Q first last → PairThroughout Led disk R first last
  weaker_both Q R weakens first last ([], run) = ([], (run.0, λ a b left_a left_b. weakens a b (run.1 a b left_a left_b)))
  weaker_both Q R weakens first last (before ∷ earlier, run) =
      one_further R first before last (weaker_both Q R weakens first before (earlier, run.0)) run.1 (λ a b left_a left_b. weakens a b (run.2 a b left_a left_b))

  pub way_weaker : (P Q : List (List ℕ) → Type 0) (f g : TurnsFile D) → ((rs : List (List ℕ)) → P rs → Q rs) → IsWay Led disk P f g → IsWay Led disk Q f g
  way_weaker P Q f g weakens way = record {
    owner = way.owner;
    run = weaker_both (HasRecords f.identity P) (HasRecords f.identity Q) (λ a b it. (it.0, it.1, weakens it.0 it.2)) (f.current, f.other) (g.current, g.other) way.run;
  }

  pub way_joined : (P : List (List ℕ) → Type 0) (f g h : TurnsFile D) → IsWay Led disk P f g → IsWay Led disk P g h → IsWay Led disk P f h
  way_joined P f g h one two = record {
    owner = two.owner ∙ one.owner;
    run = chained (HasRecords f.identity P) (f.current, f.other) (g.current, g.other) (h.current, h.other) one.run
        (subst (λ identity. PairThroughout Led disk (HasRecords identity P) (g.current, g.other) (h.current, h.other)) one.owner two.run);
  }

  pub way_ends : (P : List (List ℕ) → Type 0) (f g : TurnsFile D) → IsWay Led disk P f g → IsWay Led disk P g g
  way_ends P f g way = record {
    owner = refl;
    run = subst (λ identity. PairThroughout Led disk (HasRecords identity P) (g.current, g.other) (g.current, g.other)) (sym way.owner)
        (begun (HasRecords f.identity P) (g.current, g.other) (at_end (HasRecords f.identity P) (f.current, f.other) (g.current, g.other) way.run));
  }
