use Rattle.std.proofs.Common.{◌∙◌, ap, arith}
use Rattle.fr_log.specs.Headers.{headers_in, version_at}
use Rattle.fr_log.proofs.Chaining.{version_past}
use Rattle.fr_log.proofs.pushes.chain.Headers.truncate.Goals as goal

pub returns-then-self-left-clause-from : goal.returns-then-self-left-clause-from
returns-then-self-left-clause-from c =
    version_past (headers_in c.self.inside.runs.items) c.args.left (omega (arith, c.self.invariant.1, c.if-self-left.true)) ∙ ap (λ hs. version_at hs c.args.left) c.self.view_is
