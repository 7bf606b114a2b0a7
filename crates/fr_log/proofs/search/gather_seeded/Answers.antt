use Rattle.std.proofs.Common.{◌≡◌, length, ap, sym, ◌∙◌, arith, rules}
use Rattle.fr_log.specs.LogState.{seeded_record}
use Rattle.fr_log.proofs.Searching.{gather_full, gather_more, gather_skip, seeded_found, seeded_none, room_more}
use Rattle.fr_log.proofs.search.gather_seeded.Goals as goal
use Rattle.fr_log.proofs.search.gather_seeded.Goals.{then-eq+else-len-most+in_ok-copy+in_ok-push, else-eq}

pub returns-then-len-most-clause-given : goal.returns-then-len-most-clause-given
returns-then-len-most-clause-given c =
    let is = ap (seeded_record c.args.tag) (sym c.record-item.is) ∙ seeded_found c.args.tag c.record-item.result c.record-item.result.batch c.if-eq.ensures (search rules) in
    let full : length c.loop-record.given.items ≡ c.args.most = search rules in
    (gather_full (seeded_record c.args.tag) _ c.loop-record.given.items c.args.records.now c.loop-record.record-index c.args.most c.record-item.result _ c.loop-record-test.true c.loop-record.invariant.given is full).front

pub returns-then-len-most-clause-more : goal.returns-then-len-most-clause-more
returns-then-len-most-clause-more c =
    let is = ap (seeded_record c.args.tag) (sym c.record-item.is) ∙ seeded_found c.args.tag c.record-item.result c.record-item.result.batch c.if-eq.ensures (search rules) in
    let full : length c.loop-record.given.items ≡ c.args.most = search rules in
    (gather_full (seeded_record c.args.tag) _ c.loop-record.given.items c.args.records.now c.loop-record.record-index c.args.most c.record-item.result _ c.loop-record-test.true c.loop-record.invariant.given is full).more_is

pub loop-record-preserved : goal.loop-record-preserved
loop-record-preserved c =
    elim c.if-eq.branch [
      | then-eq+else-len-most+in_ok-copy+in_ok-push w ↦
          let pushed = ap (λ v. v.items) w.given-is ∙ w.in_ok-push.ensures.items in
          record {
            given = pushed ∙ gather_more (seeded_record c.args.tag) _ c.loop-record.given.items c.args.records.now c.loop-record.record-index c.record-item.result _ c.loop-record-test.true
                c.loop-record.invariant.given (ap (seeded_record c.args.tag) (sym c.record-item.is) ∙ seeded_found c.args.tag c.record-item.result _ w.if-eq.ensures w.in_ok-copy.ensures);
            room = room_more c.loop-record.given.items _ _ c.args.most pushed c.loop-record.invariant.room (λ e. w.if-len-most.false (search (rules, e)));
          }
      | else-eq w ↦
          let same = ap (λ v. v.items) w.given-is in
          record {
            given = same ∙ gather_skip (seeded_record c.args.tag) _ c.loop-record.given.items c.args.records.now c.loop-record.record-index c.record-item.result c.loop-record-test.true
                c.loop-record.invariant.given (ap (seeded_record c.args.tag) (sym c.record-item.is) ∙ seeded_none c.args.tag c.record-item.result w.if-eq.ensures);
            room = omega (arith, ap length same, c.loop-record.invariant.room);
          }
    ]
