-- The entries of an epoch rise, and a part of what it issues is one of a list.
use Rattle.std.proofs.Common.{◌≡◌, ℕ, ◌+◌, ◌<◌, List, [], ◌∷◌, ◌++◌, map, reverse, Some, refl, sym, ◌∙◌, ap, subst, arith}
use Rattle.std.proofs.lemmas.List.{map-append, reverse-append}
use Rattle.fr_state.specs.Generations.{LogGeneration}
use Rattle.fr_run.specs.Config.{Config}
use Rattle.fr_run.specs.Turn.{Turn}
use Rattle.fr_run.specs.Nodes.{generation_at, mark_version}
use Rattle.fr_run_headline.specs.Numbers.{Numbering, numbers, top_of, top_at, AreChained}
use Rattle.fr_run_headline.specs.Issued.{entry_of, entries, issued, part}
use Rattle.fr_run_headline.proofs.VersionLists.{RiseIn, rise_on}
use Rattle.fr_run_headline.proofs.IssuedLists.{version_of, EntriesRise}
use Rattle.fr_run_headline.proofs.PartLists.{part_of}

-- a part of what is issued is that of a list
pub part_is : (c : Config) (h : List Turn) (e tag after upto : ℕ) → part c h e tag after upto ≡ part_of c tag after upto (issued c h e)
part_is c h e tag after upto = refl

-- numbers that are chained rise
pub chained_rise : (h : List Turn) (e base : ℕ) (ns : List Numbering) → AreChained base ns → RiseIn version_of base (map (entry_of h e) (reverse ns)) (top_of base ns)
chained_rise h e base [] chain = omega arith
chained_rise h e base (n ∷ ns) (follows, rises, chain) =
    let same : map (entry_of h e) (reverse (n ∷ ns)) ≡ map (entry_of h e) (reverse ns) ++ entry_of h e n ∷ [] =
    ap (map (entry_of h e)) (reverse-append (n ∷ []) ns) ∙ map-append (entry_of h e) (reverse ns) (n ∷ []) in
    let last : top_of base ns < n.version = omega (arith, follows, rises) in
    subst (λ xs. RiseIn version_of base xs n.version) (sym same)
    (rise_on version_of base (top_of base ns) n.version (map (entry_of h e) (reverse ns)) (entry_of h e n ∷ []) (chained_rise h e base ns chain) (last, omega arith))

-- the entries of an epoch rise from its mark through its last version
pub entries_rise : (c : Config) (h : List Turn) (g : LogGeneration) → generation_at c h g.epoch ≡ Some g → AreChained (mark_version (generation_at c h g.epoch)) (numbers h g.epoch)
    → EntriesRise (entries c h) (top_at c h) g
entries_rise c h g is chain =
    let mark : mark_version (generation_at c h g.epoch) ≡ g.seeded_to + 1 = ap mark_version is in
    (omega (arith, mark), chained_rise h g.epoch (mark_version (generation_at c h g.epoch)) (numbers h g.epoch) chain)
