use Rattle.std.proofs.Common.{◌≡◌, ◌+◌, ◌≤◌, subst, arith}
use Rattle.fr_segment.specs.Group.{AreRecords}
use Rattle.fr_segment.proofs.ParseLemmas.{no_records, one_record, record_long, record_fits}
use Rattle.fr_segment.proofs.parse.add_records.Goals as goal

pub loop-at-init : goal.loop-at-init
loop-at-init c = record { records = no_records c.args.bytes.now c.args.start c.args.table.now.items; within = c.requires.order }

pub returns-then-end-at-lt4-clause-broken : goal.returns-then-end-at-lt4-clause-broken
returns-then-end-at-lt4-clause-broken c e g short is =
    omega (arith, record_long c.args.bytes.now c.args.start c.args.end c.loop-at.at c.args.table.now.items c.loop-at.table.items c.loop-at.invariant.records c.requires.within c.loop-at-test.true g short is, c.if-end-at-lt4.true)

pub returns-then-len-end-clause-broken : goal.returns-then-len-end-clause-broken
returns-then-len-end-clause-broken c e g short is =
    omega (arith, record_fits c.args.bytes.now c.args.start c.args.end c.loop-at.at c.args.table.now.items c.loop-at.table.items c.loop-at.invariant.records c.requires.within c.loop-at-test.true g short is c.read_u32-len.result c.read_u32-len.type_inv c.read_u32-len.ensures, c.if-len-end.true, c.if-end-at-lt4.false)

pub loop-at-preserved : goal.loop-at-preserved
loop-at-preserved c =
    let n = c.read_u32-len.result in
    let at = c.loop-at.at in
    let same : at + 4 + n ≡ at + (4 + n) = omega arith in
    let fits : at + (4 + n) ≤ c.args.end = omega (arith, c.if-len-end.false, c.if-end-at-lt4.false) in
    record {
      records = subst (λ k. AreRecords c.args.bytes.now c.args.start k c.args.table.now.items c.push.new.self.items) same
          (one_record c.args.bytes.now c.args.start at n c.args.table.now.items c.loop-at.table.items c.loop-at.invariant.records c.read_u32-len.ensures (omega (arith, fits, c.requires.within)) c.push.new.self.items c.in_ok-push.ensures.items);
      within = fits;
    }

pub returns-clause-ok : goal.returns-clause-ok
returns-clause-ok c =
    let same : c.loop-at.at ≡ c.args.end = omega (arith, c.loop-at.invariant.within, c.loop-at-test.false) in
    subst (λ k. AreRecords c.args.bytes.now c.args.start k c.args.table.now.items c.loop-at.table.items) same c.loop-at.invariant.records
