use Rattle.std.proofs.Common.{◌++◌, ap, sym, ◌∙◌, append-nil}
use Rattle.std.specs.Range.Bound.{bound_map}
use Rattle.std.specs.BTreeMap.Range.{entries_between}
use Rattle.std.specs.declared.ops.Bound.TheVariants.{Included}
use Rattle.fr_base.specs.Bytes.{bytes_cmp, bytes_total, bytes_exact}
use Rattle.fr_undo.proofs.TreeLemmas.{entries-map_of}
use Rattle.fr_undo.proofs.copies.between_copy.Goals as goal

pub returns : goal.returns
returns c =
    sym (append-nil c.loop-key.entries.items)
    ∙ sym (ap (λ es. c.loop-key.entries.items ++ es) c.in-None.ensures.steps.0)
    ∙ c.loop-key.invariant.rows
    ∙ c.into_iter-key-iterator.ensures.into_iter_gives
    ∙ c.range-key-items.ensures.between tt
    ∙ sym (ap (entries_between bytes_cmp (Included c.args.begin.now) (bound_map (λ x. x.now) c.args.end)) (entries-map_of bytes_cmp bytes_total bytes_exact c.args.contents.now c.range-key-items.ensures.ordered))
