use Rattle.std.proofs.Common.{◌≡◌, ◌++◌, ◌&&◌, not, ap, sym, ◌∙◌, append-nil}
use Rattle.std.specs.Prelude.{is_some, filter}
use Rattle.std.specs.List.{list_any}
use Rattle.std.specs.Map.{keys_of}
use Rattle.std.specs.Ordering.{is_le}
use Rattle.std.specs.BTreeMap as tree
use Rattle.fr_base.specs.Bytes.{bytes_cmp, is_same}
use Rattle.fr_undo.proofs.RangeLemmas.{any_keys, among_filtered, not_le}
use Rattle.fr_undo.proofs.plan.keys_between.Goals as goal

pub returns : goal.returns
returns c = λ q.
    let begin = c.args.begin.now in
    let end = c.args.end.now in
    let entries = c.args.planned.now.entries in
    let all : c.loop-key.keys.items ≡ keys_of (filter (λ e. is_le (bytes_cmp begin e.0) && not (is_le (bytes_cmp end e.0))) entries) =
    sym (append-nil c.loop-key.keys.items)
    ∙ sym (ap (λ es. c.loop-key.keys.items ++ keys_of es) c.in-None.ensures.steps.0)
    ∙ c.loop-key.invariant
    ∙ ap keys_of (c.into_iter-key-iterator.ensures.into_iter_gives ∙ c.range-key-items.ensures.between tt) in
    ap (list_any (λ k. is_same k q)) all
    ∙ any_keys q (filter (λ e. is_le (bytes_cmp begin e.0) && not (is_le (bytes_cmp end e.0))) entries)
    ∙ among_filtered (λ k. is_le (bytes_cmp begin k) && not (is_le (bytes_cmp end k))) q entries
    ∙ ap (λ b. (is_le (bytes_cmp begin q) && b) && is_some (tree.get bytes_cmp c.args.planned.now q)) (not_le end q)
