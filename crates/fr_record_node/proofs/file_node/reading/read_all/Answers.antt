use Rattle.std.proofs.Common.{rules, ◌≡◌, ◌<◌, [], Some, Err, false, length, get_or, sym, ap, ◌∙◌, arith}
use Rattle.fr_record.specs.State.{record_at}
use Rattle.fr_record_node.proofs.ReadLemmas.{at_found, read_more, read_none}
use Rattle.fr_record_node.proofs.OpeningLemmas.{read_on}
use Rattle.fr_record_node.proofs.file_node.reading.read_all.Goals as goal

pub unreachable-requires : goal.unreachable-requires
unreachable-requires g c =
    let i = c.loop-i.i in
    let rs = c.args.file.now.records in
    let end = c.loop-i.invariant.end in
    let within : i < length rs = omega (arith, end, c.loop-i-test.true) in
    let there : record_at rs i ≡ Some (get_or rs i []) = at_found rs i [] within in
    let none : c.in-Ok-None.field-0 ≡ record_at rs i = c.in-Ok-None.ensures.value ∙ ap (λ l. record_at l i) c.loop-i.invariant.records in
    cc (sym c.in-Ok-None.field-0-is ∙ none ∙ there)

pub returns-in-Err-Broken-clause-broken : goal.returns-in-Err-Broken-clause-broken
returns-in-Err-Broken-clause-broken g c e =
    let i = c.loop-i.i in
    let rs = c.args.file.now.records in
    let end = c.loop-i.invariant.end in
    let within : i < length rs = omega (arith, end, c.loop-i-test.true) in
    let x_is : c.as_slice.result.now ≡ c.in-Ok-Some.change = search rules in
    let found : Some c.as_slice.result.now ≡ record_at rs i = ap (λ x. Some x) x_is ∙ sym c.in-Ok-Some.field-0-is ∙ c.in-Ok-Some.ensures.value ∙ ap (λ l. record_at l i) c.loop-i.invariant.records in
    read_none g.M.Recorded.replay c.args.machine.now rs i c.loop-i.machine c.as_slice.result.now within found c.loop-i.invariant.so_far
    (c.read.ensures.broken (c.in-Err-Broken.is ∙ ap (λ f. Err f) c.in-Err-Broken.field-0-is))

pub loop-i-preserved : goal.loop-i-preserved
loop-i-preserved g c =
    let i = c.loop-i.i in
    let rs = c.args.file.now.records in
    let end = c.loop-i.invariant.end in
    let within : i < length rs = omega (arith, end, c.loop-i-test.true) in
    let x_is : c.as_slice.result.now ≡ c.in-Ok-Some.change = search rules in
    let found : Some c.as_slice.result.now ≡ record_at rs i = ap (λ x. Some x) x_is ∙ sym c.in-Ok-Some.field-0-is ∙ c.in-Ok-Some.ensures.value ∙ ap (λ l. record_at l i) c.loop-i.invariant.records in
    let reads : g.M.Recorded.replay c.loop-i.machine c.as_slice.result.now ≡ Some c.read.new.self = c.in-Ok.ensures.ok in
    let still_works : c.get.new.self.is_failed ≡ false = search rules in
    record {
      records = c.get.ensures.same ∙ c.loop-i.invariant.records;
      works = still_works;
      sound = c.read.ensures.sound;
      same = g.met.M.Recorded.same_read c.loop-i.machine c.read.new.self c.as_slice.result.now reads ∙ c.loop-i.invariant.same;
      failures = c.in-Ok-Some.ensures.no_failure ∙ c.loop-i.invariant.failures;
      still = read_on g.D.Device.Led g.D.Device.disk c.args.file.now.device c.loop-i.file.device c.get.new.self.device c.loop-i.invariant.still c.get.ensures.stands c.get.ensures.any_moment;
      capacity = c.get.ensures.capacity ∙ c.loop-i.invariant.capacity;
      end = end;
      so_far = read_more g.M.Recorded.replay c.args.machine.now rs i c.loop-i.machine c.as_slice.result.now within found c.loop-i.invariant.so_far c.read.new.self reads;
    }

pub returns-in-Err-clause-still : goal.returns-in-Err-clause-still
returns-in-Err-clause-still g c =
    read_on g.D.Device.Led g.D.Device.disk c.args.file.now.device c.loop-i.file.device c.get.new.self.device c.loop-i.invariant.still c.get.ensures.stands c.get.ensures.any_moment

pub returns-in-Err-Broken-clause-still : goal.returns-in-Err-Broken-clause-still
returns-in-Err-Broken-clause-still g c =
    read_on g.D.Device.Led g.D.Device.disk c.args.file.now.device c.loop-i.file.device c.get.new.self.device c.loop-i.invariant.still c.get.ensures.stands c.get.ensures.any_moment

pub returns-in-Err-Memory-clause-still : goal.returns-in-Err-Memory-clause-still
returns-in-Err-Memory-clause-still g c =
    read_on g.D.Device.Led g.D.Device.disk c.args.file.now.device c.loop-i.file.device c.get.new.self.device c.loop-i.invariant.still c.get.ensures.stands c.get.ensures.any_moment
