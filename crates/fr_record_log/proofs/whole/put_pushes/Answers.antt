use Rattle.std.proofs.Common.{◌<◌, length, All, Vec, ℕ, Global, sym, ◌∙◌, ap, subst}
use Rattle.std.specs.Prelude.{◌^◌}
use Rattle.std.proofs.lemmas.List.Elements.{All-push}
use Rattle.fr_record.specs.Group.{records_of}
use Rattle.fr_record_log.proofs.Putting.{numbers_at, within_map, one_pushed}
use Rattle.fr_record_log.proofs.whole.put_pushes.Goals as goal

pub push_at-requires-clause-held : goal.push_at-requires-clause-held
push_at-requires-clause-held c = within_map c.args.numbers.now c.args.log.now.pushes c.loop-index.index c.requires.numbers c.loop-index-test.true

pub push_at-requires-clause-numbers : goal.push_at-requires-clause-numbers
push_at-requires-clause-numbers c =
    let list = c.args.numbers.now in
    let ps = c.args.log.now.pushes in
    let i = c.loop-index.index in
    numbers_at list ps i (record { prev = 0; version = 0; known = 0 }) c.requires.numbers (within_map list ps i c.requires.numbers c.loop-index-test.true)

pub loop-index-preserved : goal.loop-index-preserved
loop-index-preserved c =
    let before = records_of c.args.group.now.items in
    let ps = c.args.log.now.pushes in
    let i = c.loop-index.index in
    let within = within_map c.args.numbers.now ps i c.requires.numbers c.loop-index-test.true in
    record {
      written = ap records_of c.in_ok-push.ensures.items
          ∙ one_pushed before c.loop-index.group.items c.in_ok-pushed.field-0 ps c.in_ok-held.held i c.loop-index.invariant.written within c.in_ok-held.ensures c.in_ok-pushed.ensures.bytes;
      short = subst (All (λ (v : Vec ℕ Global). length v.items < 2 ^ 32)) (sym c.in_ok-push.ensures.items)
          (All-push (λ (v : Vec ℕ Global). length v.items < 2 ^ 32) c.loop-index.group.items c.in_ok-pushed.field-0 c.loop-index.invariant.short c.in_ok-pushed.ensures.short);
    }
