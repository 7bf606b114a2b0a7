use Rattle.std.proofs.Common.{◌≡◌, None, Some, cond, sym, ap, ◌∙◌}
use Rattle.std.specs.BTreeMap as tree
use Rattle.fr_base.specs.Bytes.{bytes_cmp, is_same}
use Rattle.fr_mutation.specs.Mutation.{key_of, new_value}
use Rattle.fr_mutation.proofs.MutationLemmas.{keyed_value}
use Rattle.fr_mutation.proofs.effect.act.Goals as goal

pub returns-in_ok-insert-in-Some-2 : goal.returns-in_ok-insert-in-Some-2
returns-in_ok-insert-in-Some-2 c =
    let mutation = c.args.mutation.now in
    let rows = c.args.rows.now in
    let key = c.in-Some.key.now in
    let named : key_of mutation ≡ Some key = cc in
    let value : Some c.in-Some-2.value ≡ new_value mutation (tree.get bytes_cmp rows key) = sym c.in-Some-2.is ∙ c.in_ok-value.ensures ∙ ap (new_value mutation) c.get.ensures.value in
    record {
      ok = λ q.
          (let u = c.in_ok-insert-in-Some-2.ensures.updates.0 q in
          let k = c.in_ok-copy-in-Some-2.ensures in
          let there : tree.get bytes_cmp c.insert.new.self q ≡ cond (is_same key q) (Some c.in-Some-2.value) (tree.get bytes_cmp rows q) = cc in
          there
          ∙ ap (λ v. cond (is_same key q) v (tree.get bytes_cmp rows q)) value
          ∙ keyed_value mutation key named (tree.get bytes_cmp rows) q);
      err = tt;
    }

pub returns-in-None : goal.returns-in-None
returns-in-None c =
    let mutation = c.args.mutation.now in
    let rows = c.args.rows.now in
    let key = c.in-Some.key.now in
    let named : key_of mutation ≡ Some key = cc in
    let value : None ≡ new_value mutation (tree.get bytes_cmp rows key) = sym c.in-None.is ∙ c.in_ok-value.ensures ∙ ap (new_value mutation) c.get.ensures.value in
    record {
      ok = λ q.
          (let u = c.remove.ensures.updates.0 q in
          let there : tree.get bytes_cmp c.remove.new.self q ≡ cond (is_same key q) None (tree.get bytes_cmp rows q) = cc in
          there
          ∙ ap (λ v. cond (is_same key q) v (tree.get bytes_cmp rows q)) value
          ∙ keyed_value mutation key named (tree.get bytes_cmp rows) q);
      err = tt;
    }
