-- A chosen epoch stands in the list of each later one, with a next generation.
use Rattle.std.proofs.Common.{◌≡◌, ℕ, ◌<◌, ◌≤◌, List, [], ◌∷◌, ◌++◌, append_assoc, append-nil, Some, sym, ◌∙◌, ap, subst, arith}
use Rattle.std.specs.List.{Contains}
use Rattle.std.proofs.lemmas.List.Elements.{Contains-append_right}
use Rattle.fr_state.specs.Generations.{LogGeneration, AreOrdered, last_of}
use Rattle.fr_state.specs.LookUp.{cut_of}
use Rattle.fr_run.specs.Config.{Config}
use Rattle.fr_run.specs.Turn.{Turn}
use Rattle.fr_run.specs.Nodes.{generation_at}
use Rattle.fr_run.specs.Run.{IsRun}
use Rattle.fr_run.specs.States.{line_of, IsChosenEpoch}
use Rattle.fr_run.specs.StateLaws.{IsConfig, IsFrontOf}
use Rattle.fr_run.proofs.Cells.{Contains-here}
use Rattle.fr_run_headline.specs.Bounds.{IsBelow}
use Rattle.fr_run_headline.specs.Issued.{issued}
use Rattle.fr_run_headline.proofs.VersionLists.{through}
use Rattle.fr_run_headline.proofs.IssuedLists.{version_of}
use Rattle.fr_run_headline.proofs.Lists.{HasList, planned_list}
use Rattle.fr_run_headline.specs.Laws.{Laws}
use Rattle.fr_run.proofs.Chosen.{chosen_is_planned}
use Rattle.fr_run.proofs.Lines.{chosen_are_chain}
use Rattle.fr_run_headline.proofs.Agreement.{front_issues}
use Rattle.fr_run_headline.proofs.Floors.{taken_over}
use Rattle.fr_run_headline.proofs.Places.{IsLast, last_place}

-- the list of a later epoch, split at an earlier one
pub record IsLaterSplit (c : Config) (h : List Turn) (a e : ℕ) (g : LogGeneration) : Type 0 where
  pub front : List LogGeneration
  pub own : LogGeneration
  pub next : LogGeneration
  pub rest : List LogGeneration
  pub of : generation_at c h a ≡ Some own
  pub epoch : own.epoch ≡ a
  pub are : line_of c h e ≡ front ++ own ∷ next ∷ rest
  pub cut : cut_of (line_of c h e) a ≡ Some next.seeded_to
  pub low : own.seeded_to ≤ next.seeded_to
  pub high : next.seeded_to ≤ g.seeded_to

pub later_split : Laws → (c : Config) (h : List Turn) → IsConfig c → IsRun c h → (a e : ℕ) (g : LogGeneration) → IsChosenEpoch c h a → IsChosenEpoch c h e → generation_at c h e ≡ Some g → a < e → IsLaterSplit c h a e g
later_split laws c h config run a e g chosen new at lt = go front.0 front.1
  where
    own : (own : LogGeneration) × (generation_at c h a ≡ Some own)
    own = chosen_is_planned laws.contents.nodes c h run a chosen

    mine : HasList c h a own.0
    mine = planned_list laws.contents.nodes c h config run a own.0 own.1

    list : HasList c h e g
    list = planned_list laws.contents.nodes c h config run e g at

    place : IsLast (line_of c h a) own.0
    place = last_place (line_of c h a) own.0 mine.last

    front : IsFrontOf (line_of c h a) (line_of c h e)
    front = chosen_are_chain laws.contents.nodes c h config run a e chosen new (omega (arith, lt))

    go : (more : List LogGeneration) → line_of c h a ++ more ≡ line_of c h e → IsLaterSplit c h a e g
    go [] is =
        let same : Some own.0 ≡ Some g = sym mine.last ∙ ap last_of (sym (append-nil (line_of c h a)) ∙ is) ∙ list.last in
        let both : own.0 ≡ g = cc in
        let here : a ≡ e = sym mine.own ∙ ap (λ (x : LogGeneration). x.epoch) both ∙ list.own in
        absurd (omega (arith, lt, here))
    go (next ∷ rest) is =
        let are : line_of c h e ≡ place.front ++ own.0 ∷ next ∷ rest = sym is ∙ ap (λ (xs : List LogGeneration). xs ++ next ∷ rest) place.is ∙ append_assoc place.front (own.0 ∷ []) (next ∷ rest) in
        let ordered : AreOrdered (place.front ++ own.0 ∷ next ∷ rest) = subst AreOrdered are list.ordered in
        let tells = (laws.next_tells place.front rest own.0 next ordered).1 in
        let cut : cut_of (line_of c h e) own.0.epoch ≡ Some next.seeded_to = ap (λ (xs : List LogGeneration). cut_of xs own.0.epoch) are ∙ tells in
        let there : Contains (line_of c h e) own.0 = subst (λ (xs : List LogGeneration). Contains xs own.0) (sym are) (Contains-append_right place.front (own.0 ∷ next ∷ rest) own.0 (Contains-here own.0 (next ∷ rest))) in
        record {
          front = place.front;
          own = own.0;
          next = next;
          rest = rest;
          of = own.1;
          epoch = mine.own;
          are = are;
          cut = ap (cut_of (line_of c h e)) (sym mine.own) ∙ cut;
          low = laws.stores.above_seed (line_of c h e) own.0 next.seeded_to list.ordered there cut;
          high = laws.stores.below_last (line_of c h e) g own.0.epoch next.seeded_to list.ordered list.last cut;
        }

-- what is below in the earlier epoch is not above what the next generation was seeded to
pub below_is_within : Laws → (c : Config) (h : List Turn) → IsConfig c → IsRun c h → (a e : ℕ) (g : LogGeneration) → generation_at c h e ≡ Some g → (k : IsLaterSplit c h a e g) → (v : ℕ) → IsBelow c h a v → v ≤ k.next.seeded_to
below_is_within laws c h config run a e g at k v below =
    taken_over laws c h config run e g at k.front k.own k.next (k.next ∷ k.rest) k.are (Contains-here k.next k.rest) v (subst (λ x. IsBelow c h x v) (sym k.epoch) below)

-- through that, both issue the same
pub split_issues : Laws → (c : Config) (h : List Turn) → IsConfig c → IsRun c h → (a e : ℕ) (g : LogGeneration) → generation_at c h e ≡ Some g → (k : IsLaterSplit c h a e g) → (upto : ℕ) → upto ≤ k.next.seeded_to
    → through version_of upto (issued c h a) ≡ through version_of upto (issued c h e)
split_issues laws c h config run a e g at k upto le =
    ap (λ x. through version_of upto (issued c h x)) (sym k.epoch)
    ∙ front_issues laws c h config run e g at k.front k.own k.next k.rest k.are upto le
