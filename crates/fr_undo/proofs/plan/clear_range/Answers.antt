use Rattle.std.proofs.Common.{ℕ, List, Some, None, cond, ◌&&◌, not, ap, sym, ◌∙◌}
use Rattle.std.specs.Prelude.{is_some}
use Rattle.std.specs.Option.{option_or}
use Rattle.std.specs.List.{list_any}
use Rattle.std.specs.Ordering.{is_le}
use Rattle.std.specs.BTreeMap as tree
use Rattle.fr_base.specs.Bytes.{bytes_cmp}
use Rattle.fr_undo.specs.Changes.{is_key_of}
use Rattle.fr_undo.proofs.RangeLemmas.{among_filtered, not_le, none_between}
use Rattle.fr_undo.proofs.RowLemmas.{option_or_none}
use Rattle.fr_undo.proofs.PlanLemmas.{cleared_step}
use Rattle.fr_undo.specs.Plan.{planned}
use Rattle.fr_undo.proofs.plan.clear_range.Goals as goal

pub loop-key-preserved : goal.loop-key-preserved
loop-key-preserved c =
    let e : List ℕ × List ℕ = (c.in-Some.key.now, c.in-Some.field-0-1.now) in
    record {
      can = tt;
      ends = tt;
      plan = c.in_ok-add.ensures.plan;
      planned = λ q. cleared_step c.loop-key.plan c.add.new.plan c.loop-key.key-iterator c.next.new.self e c.in-Some.ensures.steps c.in_ok-add.ensures.planned q ∙ c.loop-key.invariant.planned q;
    }

pub returns-in-None-clause-planned : goal.returns-in-None-clause-planned
returns-in-None-clause-planned c = λ q.
    let begin = c.args.begin.now in
    let end = c.args.end.now in
    let held = tree.get bytes_cmp c.args.contents.now q in
    let old = planned c.args.plan.now q in
    let new = planned c.loop-key.plan q in
    sym (option_or_none new)
    ∙ sym (ap (λ es. option_or new (cond (list_any (is_key_of q) es) (Some None) None)) c.in-None.ensures.steps.0)
    ∙ c.loop-key.invariant.planned q
    ∙ ap (λ es. option_or old (cond (list_any (is_key_of q) es) (Some None) None)) (c.into_iter-key-iterator.ensures.into_iter_gives ∙ c.range-key-items.ensures.between tt)
    ∙ ap (λ b. option_or old (cond b (Some None) None)) (among_filtered (λ k. is_le (bytes_cmp begin k) && not (is_le (bytes_cmp end k))) q c.args.contents.now.entries)
    ∙ ap (λ b. option_or old (cond ((is_le (bytes_cmp begin q) && b) && is_some held) (Some None) None)) (not_le end q)

pub returns-else-lt-clause-planned : goal.returns-else-lt-clause-planned
returns-else-lt-clause-planned c = λ q.
    let held = tree.get bytes_cmp c.args.contents.now q in
    let old = planned c.args.plan.now q in
    sym (option_or_none old)
    ∙ sym (ap (λ b. option_or old (cond (b && is_some held) (Some None) None)) (none_between c.args.begin.now c.args.end.now q (cc (c.lt.ensures, c.if-lt.false))))
