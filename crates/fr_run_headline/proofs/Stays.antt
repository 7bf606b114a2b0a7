-- What is issued through the last version of an epoch stays as it is.
use Rattle.std.proofs.Common.{◌≡◌, ℕ, ◌<◌, ◌≤◌, Bool, true, false, cond, ◌==◌, List, [], ◌∷◌, ◌++◌, map, reverse, None, Some, inl, inr, ◌⊎◌, refl, sym, ◌∙◌, ap, subst, arith}
use Rattle.std.specs.List.{Contains}
use Rattle.std.proofs.lemmas.Bool.{eqb-true}
use Rattle.std.proofs.lemmas.List.{map-append, reverse-append}
use Rattle.fr_state.specs.Generations.{LogGeneration}
use Rattle.fr_ask.specs.declared.sequencer.SeqAsk.TheVariants.{Next}
use Rattle.fr_ask.specs.declared.sequencer.SeqTell.{SeqTell}
use Rattle.fr_ask.specs.declared.sequencer.SeqTell.TheVariants as stell
use Rattle.fr_run.specs.Config.{Config}
use Rattle.fr_run.specs.Turn.{Turn, Begun, CellTurn, LogTurn, SeqTurn, Submitted, ProxyHeard, RecHeard, StorageHeard, Gone, Crashed}
use Rattle.fr_run.specs.Nodes.{generation_at, mark_version, is_open}
use Rattle.fr_run.specs.Run.{IsTurn, IsRun}
use Rattle.fr_run.specs.Laws.{Laws}
use Rattle.fr_run.proofs.Cells.{Contains-here, Contains-later}
use Rattle.fr_run.proofs.Growth.{generation_stays, open_stays}
use Rattle.fr_run_headline.specs.Numbers.{Numbering, is_above, with_number, numbers, top_of, top_at, AreChained}
use Rattle.fr_run_headline.proofs.Numbers.{numbers_chain}
use Rattle.fr_run_headline.proofs.Proxies.{batch_stays}
use Rattle.fr_run_headline.specs.Issued.{Entry, entry_of, entries}
use Rattle.fr_run_headline.proofs.Taken.{HasBatch, number_has_batch}
use Rattle.fr_run_headline.proofs.VersionLists.{RiseIn, through}
use Rattle.fr_run_headline.proofs.IssuedLists.{version_of, GainsAbove, added_above}

-- ---- one turn

-- numbers that have their batches make the same entries after a turn
same_entries : (t : Turn) (h : List Turn) (e : ℕ) (ns : List Numbering) → ((n : Numbering) → Contains ns n → HasBatch h e n) → map (entry_of (t ∷ h) e) (reverse ns) ≡ map (entry_of h e) (reverse ns)
same_entries t h e [] k = refl
same_entries t h e (n ∷ ns) k =
    let b = k n (Contains-here n ns) in
    let same = batch_stays t h e n.proxy n.request b.batch b.at ∙ sym b.at in
    let one : entry_of (t ∷ h) e n ≡ entry_of h e n = ap (λ o. let x : Entry = record { version = n.version; origin = e; batch = o } in x) same in
    let rest = same_entries t h e ns (λ m j. k m (Contains-later n ns m j)) in
    ap (map (entry_of (t ∷ h) e)) (reverse-append (n ∷ []) ns)
    ∙ map-append (entry_of (t ∷ h) e) (reverse ns) (n ∷ [])
    ∙ (λ i. rest i ++ one i ∷ [])
    ∙ sym (map-append (entry_of h e) (reverse ns) (n ∷ []))
    ∙ ap (map (entry_of h e)) (sym (reverse-append (n ∷ []) ns))

-- a turn adds no number, or one to those of an open epoch
record Adds (c : Config) (h : List Turn) (t : Turn) (e : ℕ) (n : Numbering) : Type 0 where
  opened : is_open c h e ≡ true
  more : numbers (t ∷ h) e ≡ n ∷ numbers h e

with_number_adds : (p : ℕ) (t : SeqTell) (ns : List Numbering) → (with_number p t ns ≡ ns) ⊎ ((n : Numbering) × (with_number p t ns ≡ n ∷ ns))
with_number_adds p (stell.Numbered r prev v) ns = go (is_above v ns)
  where
    go : (b : Bool) → (cond b (record { proxy = p; request = r; prev = prev; version = v } ∷ ns) ns ≡ ns) ⊎ ((n : Numbering) × (cond b (record { proxy = p; request = r; prev = prev; version = v } ∷ ns) ns ≡ n ∷ ns))
    go true = inr (record { proxy = p; request = r; prev = prev; version = v }, refl)
    go false = inl refl
with_number_adds p (stell.Refused why) ns = inl refl

adds : (c : Config) (h : List Turn) (t : Turn) → IsTurn c h t → (e : ℕ) → (numbers (t ∷ h) e ≡ numbers h e) ⊎ ((n : Numbering) × Adds c h t e n)
adds c h (Begun b shape asks) is e = inl refl
adds c h (CellTurn from i a u) is e = inl refl
adds c h (LogTurn from x i a u) is e = inl refl
adds c h (SeqTurn from x (Next p r step) u) is e = go (x == e) refl
  where
    go : (b : Bool) → (x == e) ≡ b → (numbers (SeqTurn from x (Next p r step) u ∷ h) e ≡ numbers h e) ⊎ ((n : Numbering) × Adds c h (SeqTurn from x (Next p r step) u) e n)
    go false at = inl (ap (λ b. cond b (with_number p u (numbers h e)) (numbers h e)) at)
    go true at = elim (with_number_adds p u (numbers h e)) [
      | inl same ↦ inl (ap (λ b. cond b (with_number p u (numbers h e)) (numbers h e)) at ∙ same)
      | inr (n, more) ↦ inr (n, record { opened = subst (λ y. is_open c h y ≡ true) (eqb-true x e at) is.0.there; more = ap (λ b. cond b (with_number p u (numbers h e)) (numbers h e)) at ∙ more })
    ]
adds c h (Submitted x p step batch asks) is e = inl refl
adds c h (ProxyHeard x p from u outcome asks) is e = inl refl
adds c h (RecHeard b from u asks) is e = inl refl
adds c h (StorageHeard tag from u taken fault) is e = inl refl
adds c h (Gone who) is e = inl refl
adds c h (Crashed who) is e = inl refl

-- ---- entries

-- an epoch gains entries above its last version alone
pub entries_gain : Laws → (c : Config) (h : List Turn) (t : Turn) → IsRun c h → IsTurn c h t → (g : LogGeneration) → generation_at c h g.epoch ≡ Some g → GainsAbove (entries c h) (entries c (t ∷ h)) (top_at c h) g
entries_gain laws c h t run is g at = elim (adds c h t is e) [
  | inl same ↦ ap (through version_of (top_at c h e)) (sym (ap (λ ns. entry_of_mark ∷ map (entry_of (t ∷ h) e) (reverse ns)) same ∙ old))
  | inr (n, new) ↦ gains n new
]
  where
    e : ℕ
    e = g.epoch

    stays : generation_at c (t ∷ h) e ≡ generation_at c h e
    stays = generation_stays laws c h t run is e g at ∙ sym at

    entry_of_mark : Entry
    entry_of_mark = record { version = mark_version (generation_at c (t ∷ h) e); origin = e; batch = None }

    have : (n : Numbering) → Contains (numbers h e) n → HasBatch h e n
    have n k = number_has_batch laws c h run e n k

    mark : entry_of_mark ≡ record { version = mark_version (generation_at c h e); origin = e; batch = None }
    mark = ap (λ o. let x : Entry = record { version = mark_version o; origin = e; batch = None } in x) stays

    old : entry_of_mark ∷ map (entry_of (t ∷ h) e) (reverse (numbers h e)) ≡ entries c h e
    old = (let rest = same_entries t h e (numbers h e) have in λ i. mark i ∷ rest i)

    gains : (n : Numbering) → Adds c h t e n → through version_of (top_at c h e) (entries c h e) ≡ through version_of (top_at c h e) (entries c (t ∷ h) e)
    gains n new =
        let base = mark_version (generation_at c h e) in
        let chain' = (numbers_chain laws c (t ∷ h) (is, run) e (open_stays laws c h t run is e new.opened)).chain in
        let chain : AreChained base (n ∷ numbers h e) = subst (AreChained base) new.more (subst (λ o. AreChained (mark_version o) (numbers (t ∷ h) e)) stays chain') in
        let follows = chain.0 in
        let rises = chain.1 in
        let all : entries c (t ∷ h) e ≡ entries c h e ++ entry_of (t ∷ h) e n ∷ [] =
        ap (λ ns. entry_of_mark ∷ map (entry_of (t ∷ h) e) (reverse ns)) new.more
        ∙ ap (λ ns. entry_of_mark ∷ map (entry_of (t ∷ h) e) ns) (reverse-append (n ∷ []) (numbers h e))
        ∙ ap (λ xs. entry_of_mark ∷ xs) (map-append (entry_of (t ∷ h) e) (reverse (numbers h e)) (n ∷ []))
        ∙ ap (λ xs. xs ++ entry_of (t ∷ h) e n ∷ []) old in
        let above : top_at c h e < n.version = omega (arith, follows, rises) in
        let rise : RiseIn version_of (top_at c h e) (entry_of (t ∷ h) e n ∷ []) n.version = (above, omega arith) in
        sym (added_above (top_at c h e) n.version (entries c h e) (entry_of (t ∷ h) e n ∷ []) rise)
        ∙ ap (through version_of (top_at c h e)) (sym all)

-- the last version of a planned epoch does not fall
pub top_rises : Laws → (c : Config) (h : List Turn) (t : Turn) → IsRun c h → IsTurn c h t → (e : ℕ) (g : LogGeneration) → generation_at c h e ≡ Some g → top_at c h e ≤ top_at c (t ∷ h) e
top_rises laws c h t run is e g at = elim (adds c h t is e) [
  | inl same ↦ (let k : top_at c (t ∷ h) e ≡ top_at c h e = (λ i. top_of (mark_version (stays i)) (same i)) in omega (arith, k))
  | inr (n, new) ↦ (
      let base = mark_version (generation_at c h e) in
      let chain' = (numbers_chain laws c (t ∷ h) (is, run) e (open_stays laws c h t run is e new.opened)).chain in
      let chain : AreChained base (n ∷ numbers h e) = subst (AreChained base) new.more (subst (λ o. AreChained (mark_version o) (numbers (t ∷ h) e)) stays chain') in
      let k : top_at c (t ∷ h) e ≡ n.version = ap (top_of (mark_version (generation_at c (t ∷ h) e))) new.more in
      let follows = chain.0 in
      let rises = chain.1 in
      omega (arith, k, follows, rises))
]
  where
    stays : generation_at c (t ∷ h) e ≡ generation_at c h e
    stays = generation_stays laws c h t run is e g at ∙ sym at
