use Rattle.std.proofs.Common.{◌∙◌, ℕ, List}
use Rattle.fr_base.specs.Bytes.{bytes_cmp, bytes_total, bytes_exact}
use Rattle.fr_undo.proofs.TreeLemmas.{copied_sorted, copied_step}
use Rattle.fr_undo.proofs.copies.contents_copy.Goals as goal

pub loop-key-preserved-in_ok-insert : goal.loop-key-preserved-in_ok-insert
loop-key-preserved-in_ok-insert c =
    let e : List ℕ × List ℕ = (c.in-Some.key.now, c.in-Some.value.now) in
    let is = c.in-Some.ensures.steps in
    let k = c.in_ok-copy.ensures in
    let v = c.in_ok-copy-2.ensures in
    record {
      can = tt;
      ends = tt;
      sorted = copied_sorted bytes_cmp c.loop-key.key-iterator c.next.new.self e is c.loop-key.invariant.sorted;
      value = λ q. copied_step bytes_cmp bytes_total bytes_exact c.loop-key.key-iterator c.next.new.self e c.loop-key.copy c.insert.new.self is c.loop-key.invariant.sorted (λ x. cc (c.in_ok-insert.ensures.updates.0 x, k, v)) q ∙ c.loop-key.invariant.value q;
    }

pub loop-key-preserved : goal.loop-key-preserved
loop-key-preserved c =
    let e : List ℕ × List ℕ = (c.in-Some.key.now, c.in-Some.value.now) in
    let is = c.in-Some.ensures.steps in
    let k = c.in_ok-copy.ensures in
    let v = c.in_ok-copy-2.ensures in
    record {
      can = tt;
      ends = tt;
      sorted = copied_sorted bytes_cmp c.loop-key.key-iterator c.next.new.self e is c.loop-key.invariant.sorted;
      value = λ q. copied_step bytes_cmp bytes_total bytes_exact c.loop-key.key-iterator c.next.new.self e c.loop-key.copy c.insert.new.self is c.loop-key.invariant.sorted (λ x. cc (c.in_ok-insert.ensures.updates.0 x, k, v)) q ∙ c.loop-key.invariant.value q;
    }
