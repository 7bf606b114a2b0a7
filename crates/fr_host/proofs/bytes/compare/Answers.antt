use Rattle.std.proofs.Common.{rules, ◌≡◌, true, ◌∙◌, sym, ap}
use Rattle.fr_host.proofs.Again.{gap_read}
use Rattle.fr_host.proofs.bytes.compare.Goals as goal

pub returns-clause-same : goal.returns-clause-same
returns-clause-same g c = λ clean. gap_read _ c.args.file.now.items c.in_ok-found.found.items c.args.from c.args.to c.requires.within
    c.in_ok-found.ensures.len (c.in_ok-found.ensures.holds clean) (search rules)
