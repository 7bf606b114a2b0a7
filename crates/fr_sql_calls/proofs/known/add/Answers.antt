use Rattle.std.proofs.Common.{ap, sym, ◌∙◌}
use Rattle.std.specs.Prelude.{cond}
use Rattle.std.specs.BTreeMap as tree
use Rattle.fr_base.specs.Bytes.{bytes_cmp, is_same}
use Rattle.fr_sql_calls.proofs.KnownLemmas.{nothing_added}
use Rattle.fr_sql_calls.proofs.known.add.Goals as goal

pub returns-in_default : goal.returns-in_default
returns-in_default c = λ q.
    nothing_added c.args.known.now c.args.key.now c.requires q
    ∙ sym (ap (λ v. cond (is_same c.args.key.now q) v (tree.get bytes_cmp c.args.known.now q)) c.in_default.is)
