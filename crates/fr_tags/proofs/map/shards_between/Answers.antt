use Rattle.std.proofs.Common.{◌≡◌, true, ◌-◌, sym, ◌∙◌, ap, arith}
use Rattle.std.specs.Ordering.{is_lt}
use Rattle.fr_base.specs.Bytes.{bytes_cmp}
use Rattle.fr_tags.specs.Shards.{begun_before, is_from_to}
use Rattle.fr_tags.proofs.TouchedLemmas.{clear_is_met, empty_is_not_met, clear_in_order}
use Rattle.fr_tags.proofs.map.shards_between.Goals as goal

some : (c : goal.After-begun_before) → is_lt (bytes_cmp c.args.begin.now c.args.end.now) ≡ true
some c = ap is_lt (sym c.cmp.ensures) ∙ sym c.is_lt.ensures ∙ c.if-is_lt.true

pub returns-then-is_lt-clause-order : goal.returns-then-is_lt-clause-order
returns-then-is_lt-clause-order c =
    let ordered = clear_in_order c.args.begins.now c.args.begin.now c.args.end.now c.requires (some c) in
    omega (arith, ordered, c.begun.ensures.count, c.begun_before.ensures.count)

pub returns-then-is_lt-clause-each : goal.returns-then-is_lt-clause-each
returns-then-is_lt-clause-each c t within =
    clear_is_met c.args.begins.now c.args.begin.now c.args.end.now t c.requires within (some c)
    ∙ ap (λ n. is_from_to (n - 1) (begun_before c.args.begins.now c.args.end.now) t) (sym c.begun.ensures.count)
    ∙ ap (λ n. is_from_to (c.begun.result - 1) n t) (sym c.begun_before.ensures.count)

pub returns-else-is_lt-clause-each : goal.returns-else-is_lt-clause-each
returns-else-is_lt-clause-each c t within =
    empty_is_not_met c.args.begin.now c.args.end.now _ t (ap is_lt (sym c.cmp.ensures) ∙ sym c.is_lt.ensures ∙ c.if-is_lt.false)
