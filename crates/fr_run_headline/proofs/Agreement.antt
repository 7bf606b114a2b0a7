-- What epochs have for a tag is pieces, and along the list of a planned epoch they agree.
use Rattle.std.proofs.Common.{◌≡◌, ℕ, zero, suc, ◌≤◌, Bool, true, false, cond, ◌==◌, List, [], ◌∷◌, ◌++◌, append_assoc, Option, None, Some, refl, sym, ◌∙◌, ap, subst, arith}
use Rattle.std.specs.Prelude.{slice_get}
use Rattle.std.specs.List.{All, AllByRecursion}
use Rattle.std.specs.Option.{option_map}
use Rattle.std.proofs.lemmas.Bool.{eqb-true}
use Rattle.std.proofs.lemmas.List.Elements.{All-tail}
use Rattle.fr_state.specs.Generations.{LogGeneration, AreOrdered, last_of}
use Rattle.fr_state.specs.LookUp.{next_of, cut_of}
use Rattle.fr_state.proofs.ListLemmas.{next_of-cons}
use Rattle.fr_epoch.specs.Recoverer.{RecState, Parent, Plan}
use Rattle.fr_storage.specs.Storage.{epoch_of, own_epoch}
use Rattle.fr_storage.specs.Follows.{ArePieces, Agrees}
use Rattle.fr_run.specs.Config.{Config, first_epoch, first_generation}
use Rattle.fr_run.specs.Turn.{Turn}
use Rattle.fr_run.specs.Nodes.{rec_at, plan_in, generation_in, generation_at}
use Rattle.fr_run.specs.Run.{IsRun}
use Rattle.fr_run.specs.States.{state_of, line_with, line_in, line_from, line_of}
use Rattle.fr_run.specs.StateLaws.{IsConfig}
use Rattle.fr_run_headline.specs.Numbers.{top_at}
use Rattle.fr_run_headline.specs.Issued.{entries, issued_of, issued, part}
use Rattle.fr_run_headline.proofs.VersionLists.{RiseIn, through}
use Rattle.fr_run_headline.proofs.IssuedLists.{version_of, EntriesRise, agree}
use Rattle.fr_run_headline.proofs.PartLists.{part_rises, commits_rise, part_concat, part_none, part_same}
use Rattle.fr_run_headline.proofs.Lists.{HasList, planned_list, list_rises}
use Rattle.fr_run_headline.proofs.Parts.{issued_rises}
use Rattle.fr_run_headline.specs.Agreement.{pieces_at}
use Rattle.fr_run_headline.specs.Laws.{Laws}
use Rattle.fr_run.proofs.Lines.{states_are_views}
use Rattle.fr_run_headline.proofs.Behind.{front_is_state}

-- ---- pieces

-- the line of an epoch that is not planned is that of the first
unplanned_line : (c : Config) (h : List Turn) (e : ℕ) → generation_at c h e ≡ None → line_of c h e ≡ first_generation c ∷ []
unplanned_line c h zero k = refl
unplanned_line c h (suc n) k = go (suc n == first_epoch) k
  where
    planned : (parent : Option Parent) (plan : Option Plan) → generation_in plan ≡ None → line_with c (line_from c h n) parent plan ≡ first_generation c ∷ []
    planned None plan none = refl
    planned (Some p) None none = refl
    planned (Some p) (Some q) none = absurd (cc)

    of_rec : (o : Option RecState) → generation_in (plan_in o) ≡ None → line_in c (line_from c h n) o ≡ first_generation c ∷ []
    of_rec None none = refl
    of_rec (Some r) none = planned r.parent r.plan none

    go : (b : Bool) → cond b (Some (first_generation c)) (generation_in (plan_in (rec_at c h (suc n)))) ≡ None
        → cond b (first_generation c ∷ []) (line_in c (line_from c h n) (rec_at c h (suc n))) ≡ first_generation c ∷ []
    go true none = refl
    go false none = of_rec (rec_at c h (suc n)) none

-- what any epoch issues rises; one that is not planned issues what the first does
any_rises : Laws → (c : Config) (h : List Turn) → IsConfig c → IsRun c h → (e : ℕ) → (b : ℕ) × RiseIn version_of 0 (issued c h e) b
any_rises laws c h config run e = go (generation_at c h e) refl
  where
    go : (o : Option LogGeneration) → generation_at c h e ≡ o → (b : ℕ) × RiseIn version_of 0 (issued c h e) b
    go (Some g) at = (top_at c h e, issued_rises laws.contents.nodes c h config run e g at)
    go None at =
        let same : line_of c h e ≡ first_generation c ∷ [] = unplanned_line c h e at in
        let first = issued_rises laws.contents.nodes c h config run first_epoch (first_generation c) refl in
        (top_at c h first_epoch, subst (λ (gens : List LogGeneration). RiseIn version_of 0 (issued_of (entries c h) gens) (top_at c h first_epoch)) (sym same) first)

pub parts_are_pieces : Laws → (c : Config) (h : List Turn) → IsConfig c → IsRun c h → (tag : ℕ) → ArePieces (pieces_at c h tag)
parts_are_pieces laws c h config run tag = record {
  rise = λ e after upto le. (let k = any_rises laws c h config run e in commits_rise after upto (part c h e tag after upto) (part_rises c tag 0 k.0 after upto (issued c h e) k.1 le));
  meet = λ e a b d le lf. (let k = any_rises laws c h config run e in sym (part_concat c tag 0 k.0 a b d (issued c h e) k.1 le lf));
  none = λ e after upto le. part_none c tag after upto (issued c h e) le;
}

-- ---- splits

-- a list is split where an epoch has a next generation
pub record IsSplit (gens : List LogGeneration) (epoch : ℕ) (next : LogGeneration) : Type 0 where
  pub before : List LogGeneration
  pub own : LogGeneration
  pub after : List LogGeneration
  pub are : gens ≡ before ++ own ∷ next ∷ after
  pub is : own.epoch ≡ epoch

begins : (gens : List LogGeneration) (next : LogGeneration) → slice_get gens 0 ≡ Some next → (after : List LogGeneration) × (gens ≡ next ∷ after)
begins [] next e = absurd (cc)
begins (h ∷ gens) next e = let k : h ≡ next = cc in (gens, ap (λ (z : LogGeneration). z ∷ gens) k)

pub split_at : (gens : List LogGeneration) (epoch : ℕ) (next : LogGeneration) → next_of gens epoch ≡ Some next → IsSplit gens epoch next
split_at [] epoch next e = absurd (cc)
split_at (g ∷ gens) epoch next e = go (g.epoch == epoch) refl (sym (next_of-cons g gens epoch) ∙ e) (split_at gens epoch next)
  where
    go : (b : Bool) → (g.epoch == epoch) ≡ b → cond b (slice_get gens 0) (next_of gens epoch) ≡ Some next → (next_of gens epoch ≡ Some next → IsSplit gens epoch next) → IsSplit (g ∷ gens) epoch next
    go true is k rest = let s = begins gens next k in record { before = []; own = g; after = s.0; are = ap (λ (xs : List LogGeneration). g ∷ xs) s.1; is = eqb-true g.epoch epoch is }
    go false is k rest = let s = rest k in record { before = g ∷ s.before; own = s.own; after = s.after; are = ap (λ (xs : List LogGeneration). g ∷ xs) s.are; is = s.is }

-- ---- a list and its fronts

all_back : (P : LogGeneration → Type 0) (xs ys : List LogGeneration) → All P (xs ++ ys) → All P ys
all_back P [] ys k = k
all_back P (x ∷ xs) ys k = all_back P xs ys (All-tail P x (xs ++ ys) k)

-- what is issued through what the next generation was seeded to is the same for a list and its front
pub front_issues : Laws → (c : Config) (h : List Turn) → IsConfig c → IsRun c h → (e : ℕ) (g : LogGeneration) → generation_at c h e ≡ Some g
    → (front : List LogGeneration) (own next : LogGeneration) (rest : List LogGeneration) → line_of c h e ≡ front ++ own ∷ next ∷ rest
    → (upto : ℕ) → upto ≤ next.seeded_to → through version_of upto (issued c h own.epoch) ≡ through version_of upto (issued c h e)
front_issues laws c h config run e g at front own next rest is upto le =
    ap (λ gens. through version_of upto (issued_of (entries c h) gens)) mine
    ∙ sym (go front (subst AreOrdered is list.ordered))
    ∙ ap (λ gens. through version_of upto (issued_of (entries c h) gens)) (sym is)
  where
    list : HasList c h e g
    list = planned_list laws.contents.nodes c h config run e g at

    mine : line_of c h own.epoch ≡ front ++ own ∷ []
    mine = front_is_state laws.contents.nodes c h config run e g at front own (next ∷ rest) is

    each : All (λ x. generation_at c h x.epoch ≡ Some x) (next ∷ rest)
    each = all_back (λ x. generation_at c h x.epoch ≡ Some x) (front ++ own ∷ []) (next ∷ rest) (subst (All (λ x. generation_at c h x.epoch ≡ Some x)) (is ∙ sym (append_assoc front (own ∷ []) (next ∷ rest))) list.each)

    rise : AllByRecursion (EntriesRise (entries c h) (top_at c h)) (next ∷ rest)
    rise = list_rises laws.contents.nodes c h run (next ∷ rest) each

    go : (front : List LogGeneration) → AreOrdered (front ++ own ∷ next ∷ rest)
        → through version_of upto (issued_of (entries c h) (front ++ own ∷ next ∷ rest)) ≡ through version_of upto (issued_of (entries c h) (front ++ own ∷ []))
    go [] order = agree (entries c h) (top_at c h) own [] next rest order rise upto le
    go (x ∷ front) order =
        ap (λ gens. through version_of upto (issued_of (entries c h) (x ∷ gens))) (sym (append_assoc front (own ∷ []) (next ∷ rest)))
        ∙ agree (entries c h) (top_at c h) x (front ++ own ∷ []) next rest (subst (λ gens. AreOrdered (x ∷ gens)) (sym (append_assoc front (own ∷ []) (next ∷ rest))) order) rise upto le

-- the epoch of a planned epoch's state is its own
pub planned_epoch : Laws → (c : Config) (h : List Turn) → IsConfig c → IsRun c h → (e : ℕ) (g : LogGeneration) → generation_at c h e ≡ Some g → own_epoch (state_of c h e) ≡ e
planned_epoch laws c h config run e g at =
    let k = planned_list laws.contents.nodes c h config run e g at in
    let view = states_are_views laws.contents.nodes c h config run e g at in
    ap epoch_of (ap last_of view.is ∙ laws.stores.drop_last (line_of c h e) (state_of c h e).dropped view.short ∙ k.last) ∙ k.own

-- a cut that a planned epoch's state names is its line's
pub cut_in_line : Laws → (c : Config) (h : List Turn) → IsConfig c → IsRun c h → (e : ℕ) (g : LogGeneration) → generation_at c h e ≡ Some g → (epoch cut : ℕ) → cut_of (state_of c h e).gens epoch ≡ Some cut
    → cut_of (line_of c h e) epoch ≡ Some cut
cut_in_line laws c h config run e g at epoch cut here =
    let list = planned_list laws.contents.nodes c h config run e g at in
    let view = states_are_views laws.contents.nodes c h config run e g at in
    laws.stores.drop_cut (line_of c h e) (state_of c h e).dropped epoch cut list.ordered (ap (λ xs. cut_of xs epoch) (sym view.is) ∙ here)

-- along a line what epochs have agrees
pub lines_agree : Laws → (c : Config) (h : List Turn) → IsConfig c → IsRun c h → (e : ℕ) (g : LogGeneration) → generation_at c h e ≡ Some g → (tag epoch cut after upto : ℕ) → cut_of (line_of c h e) epoch ≡ Some cut → upto ≤ cut
    → part c h epoch tag after upto ≡ part c h e tag after upto
lines_agree laws c h config run e g at tag epoch cut after upto is le = go (next_of (line_of c h e) epoch) refl is
  where
    go : (n : Option LogGeneration) → next_of (line_of c h e) epoch ≡ n → option_map (λ (next : LogGeneration). next.seeded_to) n ≡ Some cut → part c h epoch tag after upto ≡ part c h e tag after upto
    go None here k = absurd (cc)
    go (Some next) here k =
        let same : next.seeded_to ≡ cut = cc in
        let s = split_at (line_of c h e) epoch next here in
        ap (λ x. part c h x tag after upto) (sym s.is)
        ∙ part_same c tag after upto upto (issued c h s.own.epoch) (issued c h e) (omega arith) (front_issues laws c h config run e g at s.before s.own next s.after s.are upto (omega (arith, le, same)))

pub parts_agree : Laws → (c : Config) (h : List Turn) → IsConfig c → IsRun c h → (e : ℕ) (g : LogGeneration) → generation_at c h e ≡ Some g → (tag : ℕ) → Agrees (pieces_at c h tag) (state_of c h e)
parts_agree laws c h config run e g at tag epoch cut after upto is le =
    lines_agree laws c h config run e g at tag epoch cut after upto (cut_in_line laws c h config run e g at epoch cut is) le ∙ ap (λ x. part c h x tag after upto) (sym (planned_epoch laws c h config run e g at))
