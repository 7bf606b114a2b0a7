use Rattle.std.proofs.Common.{length, ap, ◌∙◌, Err}
use Rattle.fr_mutation.specs.declared.codec.fault.DecodeFault.TheVariants.{Short, UnknownKind, OverLimit, Inverted, NeedlessFormat}
use Rattle.fr_record_log.specs.Reading.{whole}
use Rattle.fr_record_log.proofs.reading.batch_of.Goals as goal

pub returns-in-Err-Short : goal.returns-in-Err-Short
returns-in-Err-Short c = λ _. ap (whole (length c.args.bytes.now)) ((c.decode.ensures.refused Short (λ e. absurd (cc e))).0 (c.in-Err-Short.is ∙ ap (λ f. Err f) c.in-Err-Short.field-0-is))

pub returns-in-Err-UnknownKind : goal.returns-in-Err-UnknownKind
returns-in-Err-UnknownKind c = λ _. ap (whole (length c.args.bytes.now)) ((c.decode.ensures.refused UnknownKind (λ e. absurd (cc e))).0 (c.in-Err-UnknownKind.is ∙ ap (λ f. Err f) c.in-Err-UnknownKind.field-0-is))

pub returns-in-Err-OverLimit : goal.returns-in-Err-OverLimit
returns-in-Err-OverLimit c = λ _. ap (whole (length c.args.bytes.now)) ((c.decode.ensures.refused OverLimit (λ e. absurd (cc e))).0 (c.in-Err-OverLimit.is ∙ ap (λ f. Err f) c.in-Err-OverLimit.field-0-is))

pub returns-in-Err-Inverted : goal.returns-in-Err-Inverted
returns-in-Err-Inverted c = λ _. ap (whole (length c.args.bytes.now)) ((c.decode.ensures.refused Inverted (λ e. absurd (cc e))).0 (c.in-Err-Inverted.is ∙ ap (λ f. Err f) c.in-Err-Inverted.field-0-is))

pub returns-in-Err-NeedlessFormat : goal.returns-in-Err-NeedlessFormat
returns-in-Err-NeedlessFormat c = λ _. ap (whole (length c.args.bytes.now)) ((c.decode.ensures.refused NeedlessFormat (λ e. absurd (cc e))).0 (c.in-Err-NeedlessFormat.is ∙ ap (λ f. Err f) c.in-Err-NeedlessFormat.field-0-is))
