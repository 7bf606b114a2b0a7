use Rattle.std.proofs.Common.{◌≡◌, ◌≤◌, length, take, Some}
use Rattle.fr_log.specs.Headers.{headers_in, AreRuns, version_at}
use Rattle.fr_log.proofs.pushes.chain.cut_to.Given as goal

-- what is left is so many of the first ones, and the version is that of the next one
abbrev pub invariant-loop-len : goal.invariant-loop-len
invariant-loop-len l = record {
  runs : AreRuns l.runs.items;
  within : l.len ≤ length (headers_in l.fn.runs.items);
  enough : l.left ≤ l.len;
  left : headers_in l.runs.items ≡ take l.len (headers_in l.fn.runs.items);
  from : Some l.from ≡ version_at (headers_in l.fn.runs.items) l.len;
}

abbrev pub decreases-loop-len : goal.decreases-loop-len
decreases-loop-len l = l.len
