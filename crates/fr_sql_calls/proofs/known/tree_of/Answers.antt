use Rattle.std.proofs.Common.{◌≡◌, [], ℕ, List, Option, ap, sym, ◌∙◌, arith}
use Rattle.std.specs.FinMap.{find}
use Rattle.std.specs.Option.{option_or}
use Rattle.std.specs.Map.{lookup}
use Rattle.std.specs.BTreeMap as tree
use Rattle.std.specs.BTreeMap.{is_at}
use Rattle.std.proofs.lemmas.Grind.{common_steps}
use Rattle.fr_undo.specs.State.{Place, place_cmp}
use Rattle.fr_undo.proofs.UndoLemmas.{place_total, place_exact}
use Rattle.fr_sql_calls.proofs.KnownLemmas.{pairs_step, or_nothing}
use Rattle.fr_sql_calls.proofs.known.tree_of.Goals as goal

pub loop-place-preserved : goal.loop-place-preserved
loop-place-preserved c =
    let e : Place × Option (List ℕ) = (c.in-Some.place, c.in-Some.before) in
    record {
      can_next = tt;
      is_finite = tt;
      rows = λ q. pairs_step place_total place_exact c.loop-place.found c.add_row.new.rows c.loop-place.place-iterator.rest.items c.next.new.self.rest.items e c.in-Some.ensures.steps.0 c.in_ok-add_row.ensures q ∙ c.loop-place.invariant.rows q;
    }

pub returns : goal.returns
returns c = λ q.
    let given : c.into_iter-place-iterator.result.rest.items ≡ c.args.rows.items = c.into_iter-place-iterator.ensures.into_iter_gives.0 in
    let ended : c.loop-place.place-iterator.rest.items ≡ [] = grind (arith, common_steps) in
    sym (or_nothing place_cmp (tree.get place_cmp c.loop-place.found q) q c.loop-place.place-iterator.rest.items ended)
    ∙ c.loop-place.invariant.rows q
    ∙ ap (λ (es : List (Place × Option (List ℕ))). option_or (lookup (is_at (place_cmp q)) es) (find place_cmp q c.into_iter-place-iterator.result.rest.items)) c.new-found.ensures.empty
    ∙ ap (λ (l : List (Place × Option (List ℕ))). find place_cmp q l) given
