use Rattle.std.proofs.Common.{rules, ◌≡◌, None}
use Rattle.fr_storage.specs.declared.fault.StorageFault.TheVariants.{Stranger, BelowFloor}
use Rattle.fr_storage.specs.Server.{refusal_of}
use Rattle.fr_storage.proofs.Standing.{not_some}
use Rattle.fr_storage.proofs.storage.Storage.follow.Goals as goal

pub returns-in_err-reopen-clause-stands : goal.returns-in_err-reopen-clause-stands
returns-in_err-reopen-clause-stands g c pieces is_chosen are one trues standing =
    let mid = c.hear-heard.ensures.stands pieces is_chosen are one trues standing in
    let next = c.reopen.ensures.stands pieces is_chosen are one (record { works = λ fine. tt; found = λ failed n found. tt }) mid.0 in
    let none : refusal_of c.from_residual.result ≡ None = search rules in
    (next.0, not_some (refusal_of c.from_residual.result) Stranger none, not_some (refusal_of c.from_residual.result) BelowFloor none)
