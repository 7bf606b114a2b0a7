use Rattle.std.proofs.Common.{rules, ◌≡◌, ◌<◌, [], Some, Err, false, length, get_or, refl, sym, ap, ◌∙◌, arith}
use Rattle.fr_record.specs.State.{record_at}
use Rattle.fr_compact.proofs.ReadLemmas.{at_found, read_more, read_none}
use Rattle.fr_compact.proofs.compact_node.reading.read_all.Goals as goal

pub loop-i-init : goal.loop-i-init
loop-i-init g c = record {
  records = refl;
  works = c.requires.works;
  sound = c.requires.sound;
  same = refl;
  failures = refl;
  sizes = (refl, refl, refl, refl);
  always = c.len-i-end.ensures.kept c.requires.works;
  end = search rules;
  so_far = search rules;
}

pub unreachable-requires : goal.unreachable-requires
unreachable-requires g c =
    let i = c.loop-i.i in
    let rs = g.F.GroupFile.records c.args.file.now in
    let end = c.loop-i.invariant.end in
    let within : i < length rs = omega (arith, end, c.loop-i-test.true) in
    let there : record_at rs i ≡ Some (get_or rs i []) = at_found rs i [] within in
    let none : c.in-Ok-None.field-0 ≡ record_at rs i = c.in-Ok-None.ensures.value ∙ ap (λ l. record_at l i) c.loop-i.invariant.records in
    cc (sym c.in-Ok-None.field-0-is ∙ none ∙ there)

pub returns-in-Err-Broken-clause-broken : goal.returns-in-Err-Broken-clause-broken
returns-in-Err-Broken-clause-broken g c e =
    let i = c.loop-i.i in
    let rs = g.F.GroupFile.records c.args.file.now in
    let end = c.loop-i.invariant.end in
    let within : i < length rs = omega (arith, end, c.loop-i-test.true) in
    let x_is : c.as_slice.result.now ≡ c.in-Ok-Some.change = search rules in
    let found : Some c.as_slice.result.now ≡ record_at rs i = ap (λ x. Some x) x_is ∙ sym c.in-Ok-Some.field-0-is ∙ c.in-Ok-Some.ensures.value ∙ ap (λ l. record_at l i) c.loop-i.invariant.records in
    read_none g.M.Recorded.replay c.args.machine.now rs i c.loop-i.machine c.as_slice.result.now within found c.loop-i.invariant.so_far
    (c.read.ensures.broken (c.in-Err-Broken.is ∙ ap (λ f. Err f) c.in-Err-Broken.field-0-is))

pub loop-i-preserved : goal.loop-i-preserved
loop-i-preserved g c =
    let i = c.loop-i.i in
    let rs = g.F.GroupFile.records c.args.file.now in
    let at = c.loop-i.invariant in
    let end = at.end in
    let within : i < length rs = omega (arith, end, c.loop-i-test.true) in
    let x_is : c.as_slice.result.now ≡ c.in-Ok-Some.change = search rules in
    let found : Some c.as_slice.result.now ≡ record_at rs i = ap (λ x. Some x) x_is ∙ sym c.in-Ok-Some.field-0-is ∙ c.in-Ok-Some.ensures.value ∙ ap (λ l. record_at l i) at.records in
    let reads : g.M.Recorded.replay c.loop-i.machine c.as_slice.result.now ≡ Some c.read.new.self = c.in-Ok.ensures.ok in
    let still_works : g.F.GroupFile.is_failed c.get.new.self ≡ false = search rules in
    let sizes = c.get.ensures.sizes in
    record {
      records = c.get.ensures.same ∙ at.records;
      works = still_works;
      sound = c.read.ensures.sound;
      same = g.met.M.Recorded.same_read c.loop-i.machine c.read.new.self c.as_slice.result.now reads ∙ at.same;
      failures = c.in-Ok-Some.ensures.no_failure ∙ at.failures;
      sizes = (sizes.0 ∙ at.sizes.0, sizes.1 ∙ at.sizes.1, sizes.2 ∙ at.sizes.2, sizes.3 ∙ at.sizes.3);
      always = g.F.GroupFile.joined _ c.args.file.now c.loop-i.file c.get.new.self at.always
          (g.F.GroupFile.weaker _ _ c.loop-i.file c.get.new.self (λ l is. is ∙ at.records) (c.get.ensures.any_moment at.works));
      end = end;
      so_far = read_more g.M.Recorded.replay c.args.machine.now rs i c.loop-i.machine c.as_slice.result.now within found at.so_far c.read.new.self reads;
    }

pub returns-in-Err-clause-any_moment : goal.returns-in-Err-clause-any_moment
returns-in-Err-clause-any_moment g c =
    g.F.GroupFile.joined _ c.args.file.now c.loop-i.file c.get.new.self c.loop-i.invariant.always
    (g.F.GroupFile.weaker _ _ c.loop-i.file c.get.new.self (λ l is. is ∙ c.loop-i.invariant.records) (c.get.ensures.any_moment c.loop-i.invariant.works))

pub returns-in-Err-Broken-clause-any_moment : goal.returns-in-Err-Broken-clause-any_moment
returns-in-Err-Broken-clause-any_moment g c =
    g.F.GroupFile.joined _ c.args.file.now c.loop-i.file c.get.new.self c.loop-i.invariant.always
    (g.F.GroupFile.weaker _ _ c.loop-i.file c.get.new.self (λ l is. is ∙ c.loop-i.invariant.records) (c.get.ensures.any_moment c.loop-i.invariant.works))

pub returns-in-Err-Memory-clause-any_moment : goal.returns-in-Err-Memory-clause-any_moment
returns-in-Err-Memory-clause-any_moment g c =
    g.F.GroupFile.joined _ c.args.file.now c.loop-i.file c.get.new.self c.loop-i.invariant.always
    (g.F.GroupFile.weaker _ _ c.loop-i.file c.get.new.self (λ l is. is ∙ c.loop-i.invariant.records) (c.get.ensures.any_moment c.loop-i.invariant.works))
