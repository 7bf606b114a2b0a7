use borrow.Enum.Total.{values_d}
use Rattle.std.proofs.Common.{◌≡◌, ◌∙◌, ap, subst}
use Rattle.std.specs.Prelude.{IfOk, Ok, None}
use Rattle.fr_ask.specs.contracts.tell.Tell as tell_type
use Rattle.fr_ask.specs.declared.tell.Tell.{Tell}
use Rattle.fr_ask.specs.declared.tell.Tell.TheVariants as tell
use Rattle.fr_log.specs.contracts.ask.LogTell as log_type
use Rattle.fr_log.specs.declared.ask.LogTell.{LogTell}
use Rattle.fr_log.specs.declared.ask.LogTell.TheVariants as ltell
use Rattle.fr_storage.specs.Server.{storage_of}
use Rattle.fr_storage.specs.Storage.{after_peeked}
use Rattle.fr_run.proofs.Taking.{Parted, told-peeked}
use Rattle.fr_run.proofs.told.take_told.Goals as goal

-- what is read through the two references of the pattern is what was told: no search computes that far
pub returns-in-Log-Log-Peeked-clause-told : goal.returns-in-Log-Log-Peeked-clause-told
returns-in-Log-Log-Peeked-clause-told g c = λ works.
    let at = c.in-Log-Log-Peeked in
    let s = storage_of g.S.ShardStore.state c.args.storage.now in
    let n = storage_of g.S.ShardStore.state c.peeked_by.new.storage in
    let inner : at.field-0-1 ≡ ltell.Peeked at.peeked =
    subst (λ (v : Tell). (values_d tell_type.enum 1 at.result-1-own.given.0 v).0 ≡ ltell.Peeked at.peeked) at.enum_told_at-in-Log-tell-1-is at.enum_told_along-1-is in
    let whole : c.peeked_by.result ≡ Ok None → n ≡ after_peeked s at.epoch at.peeked =
    subst (λ (v : LogTell). c.peeked_by.result ≡ Ok None → n ≡ after_peeked s at.epoch (values_d log_type.enum 3 at.peeked-1-own.given.0 v).0) at.enum_told_along-1-is (c.peeked_by.ensures.whole works) in
    let part : IfOk c.peeked_by.result (Parted s at.epoch at.peeked n) =
    subst (λ (v : LogTell). IfOk c.peeked_by.result (Parted s at.epoch (values_d log_type.enum 3 at.peeked-1-own.given.0 v).0 n)) at.enum_told_along-1-is (c.peeked_by.ensures.part works) in
    told-peeked s n at.epoch _ at.peeked c.args.from.now c.args.tell.now c.peeked_by.result at.epoch-1-is (at.enum_told_at-in-Log-tell-1-is ∙ ap tell.Log inner) whole part
