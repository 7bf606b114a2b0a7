use Rattle.std.proofs.Common.{◌++◌, ◌∷◌, [], length, take, ap, sym, ◌∙◌, arith}
use Rattle.fr_segment.specs.File.{body}
use Rattle.fr_segment.specs.Group.{records_of}
use Rattle.fr_segment.proofs.GroupLemmas.{body_more, one_le}
use Rattle.fr_segment.proofs.spell.spelled_body.Goals as goal

pub loop-payload-preserved : goal.loop-payload-preserved
loop-payload-preserved c = record {
  bytes = c.in_ok-push_record.ensures ∙ ap (λ l. l ++ body (c.deref.result.now ∷ [])) c.loop-payload.invariant.bytes
      ∙ ap (λ x. body (records_of (take c.loop-payload.payload-index c.args.group.now)) ++ body (x ∷ [])) (c.deref.ensures.value ∙ ap (λ v. v.items) c.payload-item.is)
      ∙ sym (body_more c.args.group.now c.loop-payload.payload-index c.payload-item.result c.loop-payload-test.true);
}

pub push_record-requires : goal.push_record-requires
push_record-requires c =
    let le = one_le c.args.group.now c.loop-payload.payload-index c.payload-item.result c.loop-payload-test.true in
    let same = ap length (c.deref.ensures.value ∙ ap (λ v. v.items) c.payload-item.is) in
    omega (arith, le, same, c.requires)
