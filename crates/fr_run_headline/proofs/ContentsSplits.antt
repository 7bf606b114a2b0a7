-- What a planned epoch issues, split at its mark and at each of its numbers.
use Rattle.std.proofs.Common.{◌≡◌, ℕ, ◌+◌, ◌<◌, ◌≤◌, List, [], ◌∷◌, ◌++◌, map, reverse, None, Some, inl, inr, refl, sym, ◌∙◌, ap, subst, arith}
use Rattle.std.specs.List.{All, AllByRecursion, Contains}
use Rattle.std.proofs.lemmas.List.{append_assoc, map-append, reverse-append}
use Rattle.fr_state.specs.Generations.{LogGeneration, AreOrdered, last_of}
use Rattle.fr_run.specs.Config.{Config}
use Rattle.fr_run.specs.Turn.{Turn}
use Rattle.fr_run.specs.Nodes.{generation_at, mark_version}
use Rattle.fr_run.specs.Run.{IsRun}
use Rattle.fr_run.specs.States.{line_of}
use Rattle.fr_run.specs.StateLaws.{IsConfig}
use Rattle.fr_run.specs.Laws.{Laws}
use Rattle.fr_run.proofs.Cells.{Contains-none, Contains-cases}
use Rattle.fr_run_headline.specs.Numbers.{Numbering, numbers, top_of, top_at, AreChained}
use Rattle.fr_run_headline.proofs.Ends.{always_chained}
use Rattle.fr_run_headline.specs.Issued.{Entry, entry_of, entries, issued_of, issued}
use Rattle.fr_run_headline.proofs.VersionLists.{RiseIn, through, rise_on, rise_through}
use Rattle.fr_run_headline.proofs.IssuedLists.{version_of, EntriesRise}
use Rattle.fr_run_headline.proofs.EntryLists.{chained_rise}
use Rattle.fr_run_headline.proofs.PartLists.{parts_of, part_of, part_one}
use Rattle.fr_run_headline.proofs.PushLists.{mark_has_none}
use Rattle.fr_run_headline.proofs.Lists.{planned_list, list_rises}

-- ---- what the generations before issue, and then the own entries

record IsFront (entries : ℕ → List Entry) (low : ℕ) (gens : List LogGeneration) (g : LogGeneration) : Type 0 where
  front : List Entry
  is : issued_of entries gens ≡ front ++ entries g.epoch
  rise : RiseIn version_of low front g.seeded_to

front_of : (entries : ℕ → List Entry) (top : ℕ → ℕ) (x : LogGeneration) (gens : List LogGeneration) (g : LogGeneration) → last_of (x ∷ gens) ≡ Some g → AreOrdered (x ∷ gens) → AllByRecursion (EntriesRise entries top) (x ∷ gens)
    → IsFront entries x.seeded_to (x ∷ gens) g
front_of entries top x [] g last order rise =
    let same : x ≡ g = cc in
    let le = ap (λ (y : LogGeneration). y.seeded_to) same in
    record { front = []; is = ap (λ (y : LogGeneration). entries y.epoch) same; rise = omega (arith, le) }
front_of entries top x (y ∷ gens) g last (follows, order) (own, rise) =
    let k = front_of entries top y gens g last order rise in
    let mine = through version_of y.seeded_to (entries x.epoch) in
    record {
      front = mine ++ k.front;
      is = ap (λ xs. mine ++ xs) k.is ∙ sym (append_assoc mine k.front (entries g.epoch));
      rise = rise_on version_of x.seeded_to y.seeded_to g.seeded_to mine k.front (rise_through version_of x.seeded_to (top x.epoch) y.seeded_to (entries x.epoch) own follows.seeded_to) k.rise;
    }

-- what an epoch issues: a list through what it was seeded to, and then its own entries
pub record HasFront (c : Config) (h : List Turn) (e : ℕ) (g : LogGeneration) : Type 0 where
  pub front : List Entry
  pub is : issued c h e ≡ front ++ entries c h e
  pub rise : RiseIn version_of 0 front g.seeded_to

pub has_front : Laws → (c : Config) (h : List Turn) → IsConfig c → IsRun c h → (e : ℕ) (g : LogGeneration) → generation_at c h e ≡ Some g → HasFront c h e g
has_front laws c h config run e g at =
    let k = planned_list laws c h config run e g at in
    let f = go (line_of c h e) k.last k.ordered k.each k.own in
    record { front = f.0; is = f.1; rise = f.2 }
  where
    go : (gens : List LogGeneration) → last_of gens ≡ Some g → AreOrdered gens → All (λ x. generation_at c h x.epoch ≡ Some x) gens → g.epoch ≡ e
        → (front : List Entry) × (issued_of (entries c h) gens ≡ front ++ entries c h e) × RiseIn version_of 0 front g.seeded_to
    go [] last order each own = absurd (cc)
    go (x ∷ gens) last order each own =
        let k = front_of (entries c h) (top_at c h) x gens g last order (list_rises laws c h run (x ∷ gens) each) in
        let mine : issued_of (entries c h) (x ∷ gens) ≡ k.front ++ entries c h e = k.is ∙ ap (λ y. k.front ++ entries c h y) own in
        let low : RiseIn version_of 0 k.front g.seeded_to = rise_on version_of 0 x.seeded_to g.seeded_to [] k.front (omega arith) k.rise in
        (k.front, mine, low)

-- ---- a number among the others

record IsSplit (h : List Turn) (e base : ℕ) (ns : List Numbering) (n : Numbering) : Type 0 where
  before : List Numbering
  after : List Numbering
  is : reverse ns ≡ before ++ n ∷ after
  low : RiseIn version_of base (map (entry_of h e) before) n.prev
  high : RiseIn version_of n.version (map (entry_of h e) after) (top_of base ns)
  rises : n.prev < n.version

split_at : (h : List Turn) (e base : ℕ) (ns : List Numbering) → AreChained base ns → (n : Numbering) → Contains ns n → IsSplit h e base ns n
split_at h e base [] chain n k = absurd (Contains-none k)
split_at h e base (m ∷ ns) (follows, rises, chain) n k = elim (Contains-cases m ns n k) [
  | inl same ↦ subst (IsSplit h e base (m ∷ ns)) same (record {
    before = reverse ns;
    after = [];
    is = reverse-append (m ∷ []) ns;
    low = subst (RiseIn version_of base (map (entry_of h e) (reverse ns))) (sym follows) (chained_rise h e base ns chain);
    high = omega arith;
    rises = rises;
  })
  | inr old ↦ (
      let s = split_at h e base ns chain n old in
      let up : RiseIn version_of (top_of base ns) (entry_of h e m ∷ []) m.version = ((omega (arith, follows, rises)), omega arith) in
      record {
        before = s.before;
        after = s.after ++ m ∷ [];
        is = reverse-append (m ∷ []) ns ∙ ap (λ xs. xs ++ m ∷ []) s.is ∙ append_assoc s.before (n ∷ s.after) (m ∷ []);
        low = s.low;
        high = subst (λ xs. RiseIn version_of n.version xs m.version) (sym (map-append (entry_of h e) s.after (m ∷ [])))
            (rise_on version_of n.version (top_of base ns) m.version (map (entry_of h e) s.after) (entry_of h e m ∷ []) s.high up);
        rises = s.rises;
      })
]

-- ---- parts

abbrev pub mark_entry : Config → List Turn → ℕ → Entry
mark_entry c h e = record { version = mark_version (generation_at c h e); origin = e; batch = None }

-- what an epoch issues from the version before a number through it is what that number's entry has
pub part_of_number : Laws → (c : Config) (h : List Turn) → IsConfig c → IsRun c h → (e : ℕ) (g : LogGeneration) → generation_at c h e ≡ Some g → (n : Numbering) → Contains (numbers h e) n → (tag : ℕ)
    → (part_of c tag n.prev n.version (issued c h e) ≡ parts_of c tag (entry_of h e n ∷ [])) × (g.seeded_to < n.prev) × (n.prev < n.version)
part_of_number laws c h config run e g at n given tag =
    let base = mark_version (generation_at c h e) in
    let mark : base ≡ g.seeded_to + 1 = ap mark_version at in
    let f = has_front laws c h config run e g at in
    let s = split_at h e base (numbers h e) (always_chained laws c h run e) n given in
    let own = map (entry_of h e) s.before in
    let before = f.front ++ mark_entry c h e ∷ own in
    let last = rise_above base n.prev own s.low in
    let low : RiseIn version_of 0 before n.prev = rise_on version_of 0 g.seeded_to n.prev f.front (mark_entry c h e ∷ own) f.rise ((omega (arith, mark)), s.low) in
    let is : issued c h e ≡ before ++ entry_of h e n ∷ map (entry_of h e) s.after =
    f.is
    ∙ ap (λ xs. f.front ++ mark_entry c h e ∷ map (entry_of h e) xs) s.is
    ∙ ap (λ xs. f.front ++ mark_entry c h e ∷ xs) (map-append (entry_of h e) s.before (n ∷ s.after))
    ∙ sym (append_assoc f.front (mark_entry c h e ∷ own) (entry_of h e n ∷ map (entry_of h e) s.after)) in
    (ap (part_of c tag n.prev n.version) is ∙ part_one c tag 0 n.prev (top_of base (numbers h e)) before (entry_of h e n) (map (entry_of h e) s.after) low s.rises s.high, (omega (arith, mark, last)), s.rises)
  where
    rise_above : (a b : ℕ) (xs : List Entry) → RiseIn version_of a xs b → a ≤ b
    rise_above a b [] r = r
    rise_above a b (x ∷ xs) (lt, r) = let k = rise_above x.version b xs r in omega (arith, k, lt)

-- and at its mark it issues nothing
pub part_of_mark : Laws → (c : Config) (h : List Turn) → IsConfig c → IsRun c h → (e : ℕ) (g : LogGeneration) → generation_at c h e ≡ Some g → (tag : ℕ)
    → part_of c tag g.seeded_to (g.seeded_to + 1) (issued c h e) ≡ []
part_of_mark laws c h config run e g at tag =
    let base = mark_version (generation_at c h e) in
    let mark : base ≡ g.seeded_to + 1 = ap mark_version at in
    let f = has_front laws c h config run e g at in
    let own = map (entry_of h e) (reverse (numbers h e)) in
    ap (λ v. part_of c tag g.seeded_to v (issued c h e)) (sym mark)
    ∙ ap (part_of c tag g.seeded_to base) f.is
    ∙ part_one c tag 0 g.seeded_to (top_at c h e) f.front (mark_entry c h e) own f.rise (omega (arith, mark)) (chained_rise h e base (numbers h e) (always_chained laws c h run e))
    ∙ mark_has_none c tag (mark_entry c h e) refl
