use Rattle.std.proofs.Common.{◌≡◌, Some, ap, sym, ◌∙◌, arith}
use Rattle.std.specs.Prelude.{map}
use Rattle.fr_audit.specs.Audited as rule
use Rattle.fr_audit_journal.specs.Placed.{placed_of}
use Rattle.fr_audit.specs.Checking.{before_at}
use Rattle.fr_audit.proofs.Steps.{before_is}
use Rattle.fr_audit.proofs.checking.is_repeated.Goals as goal

pub returns-else-number-eq0 : goal.returns-else-number-eq0
returns-else-number-eq0 c =
    let before : before_at (map placed_of c.args.entries.now) c.args.number ≡ Some (placed_of c.index-entries-number.result) =
    before_is placed_of c.args.entries.now c.args.number c.index-entries-number.result (omega (arith, c.if-number-eq0.false)) c.requires c.index-entries-number.is in
    c.is_same_place.ensures ∙ ap (λ o. rule.is_repeated o (placed_of c.args.entry.now)) (sym before)
