use Rattle.std.proofs.Common.{ap, ◌∙◌, length, ◌-◌}
use Rattle.std.specs.Prelude.{slice_get}
use Rattle.std.specs.Option.{option_map}
use Rattle.fr_audit_journal.proofs.Rising.{last_is}
use Rattle.fr_audit_journal.proofs.journal.Journal.last_stamp.Goals as goal

pub returns-in-Some : goal.returns-in-Some
returns-in-Some c =
    ap (option_map (λ e. e.stamp)) c.in-Some.ensures.value
    ∙ ap (λ es. option_map (λ e. e.stamp) (slice_get es (length es - 1))) c.entries.ensures.value
    ∙ last_is c.args.self.now.entries
