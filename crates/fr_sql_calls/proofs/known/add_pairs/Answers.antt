use Rattle.std.proofs.Common.{◌≡◌, [], ℕ, List, ap, sym, ◌∙◌, arith}
use Rattle.std.specs.FinMap.{find}
use Rattle.std.specs.Option.{option_or}
use Rattle.std.specs.BTreeMap as tree
use Rattle.std.proofs.lemmas.Grind.{common_steps}
use Rattle.fr_base.specs.Bytes.{bytes_cmp, bytes_total, bytes_exact}
use Rattle.fr_sql_calls.proofs.KnownLemmas.{pairs_step, or_nothing}
use Rattle.fr_sql_calls.proofs.known.add_pairs.Goals as goal

pub loop-key-preserved : goal.loop-key-preserved
loop-key-preserved c =
    let e : List ℕ × List ℕ = (c.in-Some.key, c.in-Some.held) in
    record {
      can_next = tt;
      is_finite = tt;
      rows = λ q. pairs_step bytes_total bytes_exact c.loop-key.known c.add_pair.new.known c.loop-key.key-iterator.rest.items c.next.new.self.rest.items e c.in-Some.ensures.steps.0 c.in_ok-add_pair.ensures q ∙ c.loop-key.invariant.rows q;
    }

pub returns : goal.returns
returns c = λ q.
    let given : c.into_iter-key-iterator.result.rest.items ≡ c.args.rows.items = c.into_iter-key-iterator.ensures.into_iter_gives.0 in
    let ended : c.loop-key.key-iterator.rest.items ≡ [] = grind (arith, common_steps) in
    sym (or_nothing bytes_cmp (tree.get bytes_cmp c.loop-key.known q) q c.loop-key.key-iterator.rest.items ended)
    ∙ c.loop-key.invariant.rows q
    ∙ ap (λ (l : List (List ℕ × List ℕ)). option_or (tree.get bytes_cmp c.args.known.now q) (find bytes_cmp q l)) given
