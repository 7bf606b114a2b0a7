use Rattle.std.proofs.Common.{◌≡◌, ◌++◌, ◌∷◌, [], length, take, ap, sym, ◌∙◌, arith}
use Rattle.fr_segment.specs.File.{body}
use Rattle.fr_segment.specs.Group.{records_of}
use Rattle.fr_segment.proofs.FileLemmas.{be32, body_split, length-body}
use Rattle.fr_segment.proofs.GroupLemmas.{body_more, one_le}
use Rattle.fr_segment.proofs.spell.headed_body.Goals as goal

pub push_record-requires-in-loop-payload : goal.push_record-requires-in-loop-payload
push_record-requires-in-loop-payload c =
    let le = one_le c.args.group.now c.loop-payload.payload-index c.payload-item.result c.loop-payload-test.true in
    let same = ap length (c.deref.ensures.value ∙ ap (λ v. v.items) c.payload-item.is) in
    omega (arith, le, same, c.requires, length-body c.args.header.now (records_of c.args.group.now))

pub loop-payload-preserved : goal.loop-payload-preserved
loop-payload-preserved c =
    let h = c.args.header.now in
    let rs = records_of (take c.loop-payload.payload-index c.args.group.now) in
    record {
      bytes = c.in_ok-push_record-2.ensures ∙ ap (λ l. l ++ body (c.deref.result.now ∷ [])) c.loop-payload.invariant.bytes
          ∙ body_split h rs (body (c.deref.result.now ∷ []))
          ∙ ap (λ x. be32 (length h) ++ (h ++ (body rs ++ body (x ∷ [])))) (c.deref.ensures.value ∙ ap (λ v. v.items) c.payload-item.is)
          ∙ ap (λ l. be32 (length h) ++ (h ++ l)) (sym (body_more c.args.group.now c.loop-payload.payload-index c.payload-item.result c.loop-payload-test.true));
    }
