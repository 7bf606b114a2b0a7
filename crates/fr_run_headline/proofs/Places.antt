-- What is in lists of entries, and in what lists of generations issue.
use Rattle.std.proofs.Common.{◌≡◌, ℕ, ◌≤◌, Bool, true, false, cond, nat_le, filter, List, [], ◌∷◌, ◌++◌, map, reverse, Some, inl, inr, refl, sym, ◌∙◌, ap, subst}
use Rattle.std.specs.List.{Contains}
use Rattle.std.proofs.lemmas.Bool.{leb-true, le-leb}
use Rattle.std.proofs.lemmas.List.{reverse-append}
use Rattle.std.proofs.lemmas.List.Elements.{Contains-append_left, Contains-append_right, Contains-push}
use Rattle.fr_state.specs.Generations.{LogGeneration, last_of}
use Rattle.fr_run.specs.Config.{Config}
use Rattle.fr_run.specs.Turn.{Turn}
use Rattle.fr_run.proofs.Cells.{Contains-here, Contains-later, Contains-none, Contains-cases}
use Rattle.fr_run_headline.specs.Numbers.{Numbering, numbers}
use Rattle.fr_run_headline.specs.Issued.{Entry, entry_of, entries, issued_of}
use Rattle.fr_run_headline.proofs.VersionLists.{through}
use Rattle.fr_run_headline.proofs.IssuedLists.{version_of}

-- ---- lists

pub filter_has : {X : Type 0} (p : X → Bool) (xs : List X) (x : X) → Contains xs x → p x ≡ true → Contains (filter p xs) x
filter_has p [] x k e = absurd (Contains-none k)
filter_has p (y ∷ xs) x k e = elim (Contains-cases y xs x k) [ inl same ↦ here same (p y) refl | inr later ↦ pass (p y) (filter_has p xs x later e) ]
  where
    here : y ≡ x → (b : Bool) → p y ≡ b → Contains (cond b (y ∷ filter p xs) (filter p xs)) x
    here same true is = subst (λ z. Contains (z ∷ filter p xs) x) (sym same) (Contains-here x (filter p xs))
    here same false is = let d : true ≡ false = sym e ∙ ap p (sym same) ∙ is in absurd (cc)

    pass : (b : Bool) → Contains (filter p xs) x → Contains (cond b (y ∷ filter p xs) (filter p xs)) x
    pass true k = Contains-later y (filter p xs) x k
    pass false k = k

pub filter_keeps : {X : Type 0} (p : X → Bool) (xs : List X) (x : X) → Contains (filter p xs) x → Contains xs x × (p x ≡ true)
filter_keeps p [] x k = absurd (Contains-none k)
filter_keeps {X = X} p (y ∷ xs) x k = go (p y) refl k (filter_keeps p xs x)
  where
    go : (b : Bool) → p y ≡ b → Contains (cond b (y ∷ filter p xs) (filter p xs)) x → (Contains (filter p xs) x → Contains xs x × (p x ≡ true)) → Contains (y ∷ xs) x × (p x ≡ true)
    go true e k rest = elim (Contains-cases y (filter p xs) x k) [
      | inl same ↦ (subst (λ z. Contains (y ∷ xs) z) same (Contains-here y xs), ap p (sym same) ∙ e)
      | inr later ↦ (let r = rest later in (Contains-later y xs x r.0, r.1))
    ]
    go false e k rest = let r = rest k in (Contains-later y xs x r.0, r.1)

map_has : {X Y : Type 0} (f : X → Y) (xs : List X) (x : X) → Contains xs x → Contains (map f xs) (f x)
map_has f [] x k = absurd (Contains-none k)
map_has f (y ∷ xs) x k = elim (Contains-cases y xs x k) [
  | inl same ↦ subst (λ z. Contains (f y ∷ map f xs) (f z)) same (Contains-here (f y) (map f xs))
  | inr later ↦ Contains-later (f y) (map f xs) (f x) (map_has f xs x later)
]

reverse_has : {X : Type 0} (xs : List X) (x : X) → Contains xs x → Contains (reverse xs) x
reverse_has [] x k = absurd (Contains-none k)
reverse_has (y ∷ xs) x k = subst (λ zs. Contains zs x) (sym (reverse-append (y ∷ []) xs)) (elim (Contains-cases y xs x k) [
  | inl same ↦ subst (λ z. Contains (reverse xs ++ y ∷ []) z) same (Contains-push (reverse xs) y)
  | inr later ↦ Contains-append_left (reverse xs) (y ∷ []) x (reverse_has xs x later)
])

-- ---- entries

pub entries_have : (c : Config) (h : List Turn) (e : ℕ) (n : Numbering) → Contains (numbers h e) n → Contains (entries c h e) (entry_of h e n)
entries_have c h e n k = Contains-later _ (map (entry_of h e) (reverse (numbers h e))) (entry_of h e n) (map_has (entry_of h e) (reverse (numbers h e)) n (reverse_has (numbers h e) n k))

pub through_has : (upto : ℕ) (xs : List Entry) (x : Entry) → Contains xs x → x.version ≤ upto → Contains (through version_of upto xs) x
through_has upto xs x k le = filter_has (λ y. nat_le y.version upto) xs x k (le-leb x.version upto le)

pub through_keeps : (upto : ℕ) (xs : List Entry) (x : Entry) → Contains (through version_of upto xs) x → Contains xs x × (x.version ≤ upto)
through_keeps upto xs x k = let r = filter_keeps (λ y. nat_le y.version upto) xs x k in (r.0, leb-true x.version upto r.1)

-- what is the same through a version has the same entries there
pub same_has : (upto : ℕ) (xs ys : List Entry) (x : Entry) → through version_of upto xs ≡ through version_of upto ys → x.version ≤ upto → Contains xs x → Contains ys x
same_has upto xs ys x same le k = (through_keeps upto ys x (subst (λ zs. Contains zs x) same (through_has upto xs x k le))).0

-- ---- what is issued

-- a version is not above what the next generation was seeded to, if there is one
abbrev pub IsWithinNext : ℕ → List LogGeneration → Type 0
IsWithinNext v [] = Unit {0}
IsWithinNext v (n ∷ gens) = v ≤ n.seeded_to

own_has : (entries : ℕ → List Entry) (g : LogGeneration) (rest : List LogGeneration) (x : Entry) → Contains (entries g.epoch) x → IsWithinNext x.version rest → Contains (issued_of entries (g ∷ rest)) x
own_has entries g [] x k le = k
own_has entries g (n ∷ rest) x k le = Contains-append_left (through version_of n.seeded_to (entries g.epoch)) (issued_of entries (n ∷ rest)) x (through_has n.seeded_to (entries g.epoch) x k le)

-- a generation's entry within the next one is issued
pub issued_has : (entries : ℕ → List Entry) (front : List LogGeneration) (g : LogGeneration) (rest : List LogGeneration) (x : Entry) → Contains (entries g.epoch) x → IsWithinNext x.version rest
    → Contains (issued_of entries (front ++ g ∷ rest)) x
issued_has entries [] g rest x k le = own_has entries g rest x k le
issued_has entries (f ∷ []) g rest x k le = Contains-append_right (through version_of g.seeded_to (entries f.epoch)) (issued_of entries (g ∷ rest)) x (own_has entries g rest x k le)
issued_has entries (f ∷ y ∷ front) g rest x k le =
    Contains-append_right (through version_of y.seeded_to (entries f.epoch)) (issued_of entries ((y ∷ front) ++ g ∷ rest)) x (issued_has entries (y ∷ front) g rest x k le)

-- the last generation of a list splits it
pub record IsLast (gens : List LogGeneration) (g : LogGeneration) : Type 0 where
  pub front : List LogGeneration
  pub is : gens ≡ front ++ g ∷ []

pub last_place : (gens : List LogGeneration) (g : LogGeneration) → last_of gens ≡ Some g → IsLast gens g
last_place [] g e = absurd (cc)
last_place (x ∷ []) g e = let same : x ≡ g = cc in record { front = []; is = ap (λ (z : LogGeneration). z ∷ []) same }
last_place (x ∷ y ∷ gens) g e = let r = last_place (y ∷ gens) g e in record { front = x ∷ r.front; is = ap (λ (zs : List LogGeneration). x ∷ zs) r.is }
