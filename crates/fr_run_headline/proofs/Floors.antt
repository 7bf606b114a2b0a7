-- What is below in a generation of a chosen epoch is not above any later cut: floors are safe.
use Rattle.std.proofs.Common.{◌≡◌, ℕ, ◌+◌, ◌≤◌, List, [], ◌∷◌, ◌++◌, append_assoc, Option, None, Some, inl, inr, refl, sym, ◌∙◌, ap, subst, arith}
use Rattle.std.specs.Prelude.{IfSome, unwrap_or}
use Rattle.std.specs.List.{Contains}
use Rattle.std.specs.Option.{option_map}
use Rattle.std.proofs.lemmas.List.Elements.{Contains-append_left, Contains-append_right}
use Rattle.fr_state.specs.Generations.{LogGeneration}
use Rattle.fr_state.specs.LookUp.{next_of, cut_of}
use Rattle.fr_storage.specs.Storage.{cut_in}
use Rattle.fr_storage.specs.Follows.{IsFrontOf}
use Rattle.fr_run.specs.Config.{Config}
use Rattle.fr_run.specs.Turn.{Turn}
use Rattle.fr_run.specs.Nodes.{mark_version, generation_at}
use Rattle.fr_run.specs.Run.{IsTurn, IsRun}
use Rattle.fr_run.specs.States.{state_of, line_of}
use Rattle.fr_run.specs.StateLaws.{IsConfig}
use Rattle.fr_run.proofs.Cells.{Contains-here, Contains-none, Contains-cases}
use Rattle.fr_run_headline.specs.Numbers.{numbers, top_at}
use Rattle.fr_run_headline.specs.Bounds.{IsBelow}
use Rattle.fr_run_headline.proofs.Acks.{below_later}
use Rattle.fr_run_headline.proofs.Ends.{always_chained}
use Rattle.fr_run_headline.proofs.VersionLists.{rise_over}
use Rattle.fr_run_headline.proofs.IssuedLists.{version_of}
use Rattle.fr_run_headline.proofs.EntryLists.{chained_rise}
use Rattle.fr_run_headline.specs.Issued.{entry_of}
use Rattle.std.specs.Prelude.{map, reverse}
use Rattle.fr_run_headline.proofs.Lists.{HasList, planned_list}
use Rattle.fr_run_headline.specs.Storages.{IsSafeFloor}
use Rattle.fr_run_headline.specs.Laws.{Laws}
use Rattle.fr_run_headline.proofs.Behind.{front_is_state}
use Rattle.fr_run_headline.proofs.Taking.{below_is_held_behind}
use Rattle.fr_run_headline.proofs.Agreement.{split_at, cut_in_line}

-- ---- lists

-- what a list has splits it
pub record IsPlace (xs : List LogGeneration) (x : LogGeneration) : Type 0 where
  pub front : List LogGeneration
  pub back : List LogGeneration
  pub is : xs ≡ front ++ x ∷ back

pub place_of : (xs : List LogGeneration) (x : LogGeneration) → Contains xs x → IsPlace xs x
place_of [] x k = absurd (Contains-none k)
place_of (y ∷ xs) x k = elim (Contains-cases y xs x k) [
  | inl e ↦ record { front = []; back = xs; is = ap (λ (z : LogGeneration). z ∷ xs) e }
  | inr later ↦ (let p = place_of xs x later in record { front = y ∷ p.front; back = p.back; is = ap (λ (zs : List LogGeneration). y ∷ zs) p.is })
]

-- ---- bounds

-- what is not above a version that is below is below
pub below_lower : (c : Config) (h : List Turn) (e low high : ℕ) → low ≤ high → IsBelow c h e high → IsBelow c h e low
below_lower c h e low high le k = record {
  generation = k.generation;
  at = k.at;
  below = elim k.below [
    | inl l ↦ inl (omega (arith, l, le))
    | inr all ↦ inr (λ i l. (let r = all i l in let d = r.durable in record { there = r.there; seeded = r.seeded; durable = omega (arith, d, le) }))
  ];
}

-- a planned epoch's mark stands above what it was seeded to, and its last version is not below that
pub seed_is_numbered : Laws → (c : Config) (h : List Turn) → IsRun c h → (e : ℕ) (g : LogGeneration) → generation_at c h e ≡ Some g → g.seeded_to + 1 ≤ top_at c h e
seed_is_numbered laws c h run e g at =
    let base = mark_version (generation_at c h e) in
    let chain = always_chained laws.contents.nodes c h run e in
    let low = rise_over version_of base (top_at c h e) (map (entry_of h e) (reverse (numbers h e))) (chained_rise h e base (numbers h e) chain) in
    let mark : base ≡ g.seeded_to + 1 = ap mark_version at in
    omega (arith, low, mark)

-- no cut in a planned epoch's state is above what the epoch was seeded to
pub cut_is_seeded : Laws → (c : Config) (h : List Turn) → IsConfig c → IsRun c h → (e : ℕ) (g : LogGeneration) → generation_at c h e ≡ Some g → (epoch : ℕ) → cut_in (state_of c h e) epoch ≤ g.seeded_to
cut_is_seeded laws c h config run e g at epoch = go (cut_of (state_of c h e).gens epoch) refl
  where
    list : HasList c h e g
    list = planned_list laws.contents.nodes c h config run e g at

    go : (o : Option ℕ) → cut_of (state_of c h e).gens epoch ≡ o → unwrap_or o 0 ≤ g.seeded_to
    go None here = omega arith
    go (Some cut) here = laws.stores.below_last (line_of c h e) g epoch cut list.ordered list.last (cut_in_line laws c h config run e g at epoch cut here)

-- ---- later generations

-- what is below in a generation is not above what any later one of the list was seeded to
pub taken_over : Laws → (c : Config) (h : List Turn) → IsConfig c → IsRun c h → (e : ℕ) (g : LogGeneration) → generation_at c h e ≡ Some g
    → (front : List LogGeneration) (a n : LogGeneration) (rest : List LogGeneration) → line_of c h e ≡ front ++ a ∷ rest → Contains rest n → (v : ℕ) → IsBelow c h a.epoch v → v ≤ n.seeded_to
taken_over laws c h config run e g at front a n rest is later v below = (below_is_held_behind laws.contents.nodes c h config run e g at front a n rest is later v below).0

-- ---- floors

-- a safe floor is not above any cut of its epoch
pub floor_within_cut : Laws → (c : Config) (h : List Turn) → IsConfig c → IsRun c h → (e own : ℕ) (g : LogGeneration) → generation_at c h e ≡ Some g
    → (floor : ℕ) → IsSafeFloor c h (line_of c h own) floor → IfSome (cut_of (line_of c h e) own) (λ cut. floor ≤ cut)
floor_within_cut laws c h config run e own g at floor safe = go (next_of (line_of c h e) own) refl
  where
    go : (o : Option LogGeneration) → next_of (line_of c h e) own ≡ o → IfSome (option_map (λ (next : LogGeneration). next.seeded_to) o) (λ cut. floor ≤ cut)
    go None here = tt
    go (Some next) here =
        let s = split_at (line_of c h e) own next here in
        let mine : line_of c h own ≡ s.before ++ s.own ∷ [] = ap (line_of c h) (sym s.is) ∙ front_is_state laws.contents.nodes c h config run e g at s.before s.own (next ∷ s.after) s.are in
        let place = place_of (s.before ++ s.own ∷ []) safe.generation (subst (λ xs. Contains xs safe.generation) mine safe.there) in
        let all : line_of c h e ≡ place.front ++ safe.generation ∷ (place.back ++ next ∷ s.after) =
        s.are
        ∙ sym (append_assoc s.before (s.own ∷ []) (next ∷ s.after))
        ∙ ap (λ (xs : List LogGeneration). xs ++ next ∷ s.after) place.is
        ∙ append_assoc place.front (safe.generation ∷ place.back) (next ∷ s.after) in
        taken_over laws c h config run e g at place.front safe.generation next (place.back ++ next ∷ s.after) all (Contains-append_right place.back (next ∷ s.after) next (Contains-here next s.after)) floor safe.below

-- also as a chosen state still names it
pub floor_in_view : Laws → (c : Config) (h : List Turn) → IsConfig c → IsRun c h → (e own : ℕ) (g : LogGeneration) → generation_at c h e ≡ Some g
    → (floor : ℕ) → IsSafeFloor c h (line_of c h own) floor → IfSome (cut_of (state_of c h e).gens own) (λ cut. floor ≤ cut)
floor_in_view laws c h config run e own g at floor safe = go (cut_of (state_of c h e).gens own) refl
  where
    go : (o : Option ℕ) → cut_of (state_of c h e).gens own ≡ o → IfSome o (λ cut. floor ≤ cut)
    go None here = tt
    go (Some cut) here = subst (λ (o : Option ℕ). IfSome o (λ n. floor ≤ n)) (cut_in_line laws c h config run e g at own cut here) (floor_within_cut laws c h config run e own g at floor safe)

pub floor_in_front : (c : Config) (h : List Turn) (front gens : List LogGeneration) (floor : ℕ) → IsFrontOf front gens → IsSafeFloor c h front floor → IsSafeFloor c h gens floor
floor_in_front c h front gens floor is k = record {
  generation = k.generation;
  there = subst (λ xs. Contains xs k.generation) is.1 (Contains-append_left front is.0 k.generation k.there);
  below = k.below;
}

pub floor_later : Laws → (c : Config) (h : List Turn) (t : Turn) → IsRun c h → IsTurn c h t → (gens : List LogGeneration) (floor : ℕ) → IsSafeFloor c h gens floor → IsSafeFloor c (t ∷ h) gens floor
floor_later laws c h t run is gens floor k = record { generation = k.generation; there = k.there; below = below_later laws.contents.nodes c h t run is k.generation.epoch floor k.below }

pub floor_lower : (c : Config) (h : List Turn) (gens : List LogGeneration) (low high : ℕ) → low ≤ high → IsSafeFloor c h gens high → IsSafeFloor c h gens low
floor_lower c h gens low high le k = record { generation = k.generation; there = k.there; below = below_lower c h k.generation.epoch low high le k.below }
