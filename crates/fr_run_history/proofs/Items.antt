-- The lists of the abstract machine against lists of entries.
use Rattle.std.proofs.Common.{◌≡◌, ℕ, ◌<◌, ◌≤◌, Bool, true, false, cond, nat_le, map, filter, List, [], ◌∷◌, Option, None, Some, inl, inr, refl, sym, ◌∙◌, ap, arith}
use Rattle.std.specs.List.{Contains, filter_map, cons_option}
use Rattle.std.specs.Option.{option_map}
use Rattle.fr_mutation.specs.declared.mutation.Mutation.{Mutation}
use Rattle.fr_undo.specs.Canonical.{Commit, Rises}
use Rattle.fr_run.proofs.Cells.{Contains-none, Contains-cases}
use Rattle.fr_run_headline.specs.Issued.{Entry}
use Rattle.fr_run_headline.specs.IssuedLaws.{through}
use Rattle.fr_run_headline.specs.Committed.{commit_in}
use Rattle.fr_run_headline.proofs.VersionLists.{RiseIn}
use Rattle.fr_run_headline.proofs.IssuedLists.{version_of}
use Rattle.fr_run_history.specs.Machine.{Item}

-- an item as a commit
abbrev pub commit_of : Item → Commit
commit_of i = (i.version, i.batch)

-- ---- versions

rises_wider : (low a v : ℕ) (cs : List Commit) → low ≤ a → Rises a cs v → Rises low cs v
rises_wider low a v [] le k = omega (arith, le, k)
rises_wider low a v (x ∷ cs) le (lt, k) = ((omega (arith, le, lt)), k)

-- entries that rise have commits that do
pub commits_rise : (low high : ℕ) (xs : List Entry) → RiseIn version_of low xs high → Rises low (filter_map commit_in xs) high
commits_rise low high [] k = k
commits_rise low high (x ∷ xs) (lt, k) = go x.batch (commits_rise x.version high xs k)
  where
    go : (o : Option (List Mutation)) → Rises x.version (filter_map commit_in xs) high → Rises low (cons_option (option_map (λ (batch : List Mutation). (x.version, batch)) o) (filter_map commit_in xs)) high
    go None rest = rises_wider low x.version high (filter_map commit_in xs) (omega (arith, lt)) rest
    go (Some batch) rest = (lt, rest)

-- each item of a list that rises is above the lower end, and not above the higher
pub item_within : (low high : ℕ) (items : List Item) → Rises low (map commit_of items) high → (i : Item) → Contains items i → (low < i.version) × (i.version ≤ high)
item_within low high [] k i there = absurd (Contains-none there)
item_within low high (x ∷ items) (lt, k) i there = elim (Contains-cases x items i there) [
  | inl same ↦ (let at = ap (λ (y : Item). y.version) same in let top = over x.version high (map commit_of items) k in ((omega (arith, at, lt)), (omega (arith, at, top))))
  | inr later ↦ (let r = item_within x.version high items k i later in ((omega (arith, lt, r.0)), r.1))
]
  where
    over : (a v : ℕ) (cs : List Commit) → Rises a cs v → a ≤ v
    over a v [] k = k
    over a v (c ∷ cs) (lt, k) = let top = over c.0 v cs k in omega (arith, lt, top)

-- each version is that of one entry of a list that rises
pub entry_once : (a b : ℕ) (xs : List Entry) → RiseIn version_of a xs b → (x y : Entry) → Contains xs x → Contains xs y → x.version ≡ y.version → x ≡ y
entry_once a b [] r x y k l same = absurd (Contains-none k)
entry_once a b (z ∷ xs) (lt, r) x y k l same = elim (Contains-cases z xs x k) [
  | inl one ↦ elim (Contains-cases z xs y l) [
    | inl other ↦ sym one ∙ other
    | inr later ↦ absurd (apart y later (ap (λ (w : Entry). w.version) one ∙ same))
  ]
  | inr later ↦ elim (Contains-cases z xs y l) [
    | inl other ↦ absurd (apart x later (ap (λ (w : Entry). w.version) other ∙ sym same))
    | inr both ↦ entry_once z.version b xs r x y later both same
  ]
]
  where
    above : (low : ℕ) (ys : List Entry) → RiseIn version_of low ys b → (w : Entry) → Contains ys w → low < w.version
    above low [] r w there = absurd (Contains-none there)
    above low (v ∷ ys) (lt, r) w there = elim (Contains-cases v ys w there) [
      | inl here ↦ (let at = ap (λ (u : Entry). u.version) here in omega (arith, at, lt))
      | inr later ↦ (let k = above v.version ys r w later in omega (arith, lt, k))
    ]

    apart : (w : Entry) → Contains xs w → z.version ≡ w.version → ⊥
    apart w there at = let k = above z.version xs r w there in omega (arith, at, k)

-- ---- fronts

abbrev pub commits_until : ℕ → List Commit → List Commit
commits_until v cs = filter (λ (x : Commit). nat_le x.0 v) cs

items_until : (v : ℕ) (items : List Item) → map commit_of (filter (λ (i : Item). nat_le i.version v) items) ≡ commits_until v (map commit_of items)
items_until v [] = refl
items_until v (x ∷ items) = go (nat_le x.version v) (items_until v items)
  where
    go : (b : Bool) → map commit_of (filter (λ (i : Item). nat_le i.version v) items) ≡ commits_until v (map commit_of items)
        → map commit_of (cond b (x ∷ filter (λ (i : Item). nat_le i.version v) items) (filter (λ (i : Item). nat_le i.version v) items)) ≡ cond b (commit_of x ∷ commits_until v (map commit_of items)) (commits_until v (map commit_of items))
    go true rest = ap (λ cs. commit_of x ∷ cs) rest
    go false rest = rest

entries_until : (v : ℕ) (xs : List Entry) → filter_map commit_in (through v xs) ≡ commits_until v (filter_map commit_in xs)
entries_until v [] = refl
entries_until v (x ∷ xs) = left (nat_le x.version v) ∙ ap (λ (cs : List Commit). cond (nat_le x.version v) (cons_option (commit_in x) cs) cs) (entries_until v xs) ∙ sym (right x.batch)
  where
    left : (b : Bool) → filter_map commit_in (cond b (x ∷ through v xs) (through v xs)) ≡ cond b (cons_option (commit_in x) (filter_map commit_in (through v xs))) (filter_map commit_in (through v xs))
    left true = refl
    left false = refl

    either : (b : Bool) (cs : List Commit) → cond b cs cs ≡ cs
    either true cs = refl
    either false cs = refl

    right : (o : Option (List Mutation)) → commits_until v (cons_option (option_map (λ (batch : List Mutation). (x.version, batch)) o) (filter_map commit_in xs))
        ≡ cond (nat_le x.version v) (cons_option (option_map (λ (batch : List Mutation). (x.version, batch)) o) (commits_until v (filter_map commit_in xs))) (commits_until v (filter_map commit_in xs))
    right None = sym (either (nat_le x.version v) (commits_until v (filter_map commit_in xs)))
    right (Some batch) = refl

-- the commits of a machine's list through a version are those of the entries
pub same_until : (v : ℕ) (items : List Item) (xs : List Entry) → map commit_of items ≡ filter_map commit_in xs → map commit_of (filter (λ (i : Item). nat_le i.version v) items) ≡ filter_map commit_in (through v xs)
same_until v items xs same = items_until v items ∙ ap (commits_until v) same ∙ sym (entries_until v xs)
