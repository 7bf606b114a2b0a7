use Rattle.std.proofs.Common.{◌≡◌, length, take, sym, ◌∙◌, ap, arith}
use Rattle.fr_log.specs.Headers.{headers_in, version_at}
use Rattle.fr_log.proofs.Chaining.{take_length, take_less, version_taken}
use Rattle.fr_log.proofs.pushes.chain.cut_to.Goals as goal

pub loop-len-init : goal.loop-len-init
loop-len-init c = record {
  runs = c.cut_last-len.ensures.runs;
  within = omega (arith, c.cut_last-len.ensures.fewer, c.requires.len);
  enough = c.cut_last-len.ensures.enough;
  left = c.cut_last-len.ensures.left;
  from = c.cut_last-len.ensures.from;
}

pub cut_last-requires-clause-runs : goal.cut_last-requires-clause-runs
cut_last-requires-clause-runs c = c.loop-len.invariant.runs

pub cut_last-requires-clause-len : goal.cut_last-requires-clause-len
cut_last-requires-clause-len c =
    sym (ap length c.loop-len.invariant.left ∙ take_length (headers_in c.args.runs.now.items) c.loop-len.len c.loop-len.invariant.within)

pub loop-len-preserved : goal.loop-len-preserved
loop-len-preserved c =
    let hs = headers_in c.args.runs.now.items in
    let fewer = c.cut_last.ensures.fewer in
    record {
      runs = c.cut_last.ensures.runs;
      within = omega (arith, fewer, c.loop-len.invariant.within);
      enough = c.cut_last.ensures.enough;
      left = c.cut_last.ensures.left ∙ ap (take c.cut_last.result.0) c.loop-len.invariant.left ∙ take_less hs c.cut_last.result.0 c.loop-len.len (omega (arith, fewer));
      from = c.cut_last.ensures.from ∙ ap (λ xs. version_at xs c.cut_last.result.0) c.loop-len.invariant.left ∙ version_taken hs c.loop-len.len c.cut_last.result.0 fewer;
    }

pub returns-clause-runs : goal.returns-clause-runs
returns-clause-runs c = c.loop-len.invariant.runs

pub returns-clause-left : goal.returns-clause-left
returns-clause-left c =
    let at : c.loop-len.len ≡ c.args.left = omega (arith, c.loop-len-test.false, c.loop-len.invariant.enough) in
    c.loop-len.invariant.left ∙ ap (λ n. take n (headers_in c.args.runs.now.items)) at

pub returns-clause-from : goal.returns-clause-from
returns-clause-from c =
    let at : c.loop-len.len ≡ c.args.left = omega (arith, c.loop-len-test.false, c.loop-len.invariant.enough) in
    c.loop-len.invariant.from ∙ ap (version_at (headers_in c.args.runs.now.items)) at
