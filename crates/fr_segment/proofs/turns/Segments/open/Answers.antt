use Rattle.std.proofs.Common.{rules, ◌≡◌, Ok, sym, ap, ◌∙◌, subst}
use Rattle.std.proofs.lemmas.Result.{IfOk-weaker, IfOk-at_ok}
use Rattle.fr_segment.specs.declared.first.Turn.{Turn}
use Rattle.fr_segment.specs.declared.first.Turn.TheVariants.{Former, Latter}
use Rattle.fr_segment.specs.declared.open_fault.OpenFault.TheVariants.{Unmade, Stranger, Broken}
use Rattle.fr_segment.specs.First.{IsTurn}
use Rattle.fr_segment.specs.Opening.{IsOpening}
use Rattle.fr_segment.specs.PairOpening.{IsPairOpening, HavePairGone}
use Rattle.fr_segment.specs.Turns.{PairStandsFor, own_records}
use Rattle.fr_segment.proofs.Opened.{foreign_none, reading, turn_begins, turn_older, pair_so, no_turn, refused_foreign, ok_both, err_so, same_faults, third_alone}
use Rattle.fr_segment.proofs.OpenRun.{one_read, both_read, read_opening, former_opening, latter_opening}
use Rattle.fr_segment.proofs.TurnsLemmas.{pair_exchanged}
use Rattle.fr_segment.proofs.turns.Segments.open.Goals as goal

pub returns-in-Err-clause-none : goal.returns-in-Err-clause-none
returns-in-Err-clause-none g c told records pair =
    let who : c.as_slice.result.now ≡ c.args.identity = search rules in
    let foreign = refused_foreign c.as_slice.result.now c.args.identity (g.D.Device.disk c.args.first).content c.read_first.result c.in-Err.fault who c.in-Err.is c.read_first.ensures.never_unmade c.read_first.ensures.foreign (same_faults c.in-Err.fault Unmade Stranger Broken told) in
    foreign_none c.args.identity records (g.D.Device.disk c.args.first).content (g.D.Device.disk c.args.second).content foreign pair

pub returns-in-Err-clause-gone : goal.returns-in-Err-clause-gone
returns-in-Err-clause-gone g c =
    ((c.read_first.new.device, c.args.second), read_opening g.D.Device.Led g.D.Device.disk c.args.first c.args.second (c.read_first.new.device, c.args.second) (one_read g.D.Device.Led g.D.Device.disk c.args.first c.args.second c.read_first.new.device c.read_first.ensures.any_moment))

pub returns-in-Err-read_first-clause-none : goal.returns-in-Err-read_first-clause-none
returns-in-Err-read_first-clause-none g c told records pair =
    let who_too : c.as_slice-2.result.now ≡ c.args.identity = search rules in
    let foreign = refused_foreign c.as_slice-2.result.now c.args.identity (g.D.Device.disk c.args.second).content c.read_first-2.result c.in-Err-read_first.fault who_too c.in-Err-read_first.is c.read_first-2.ensures.never_unmade c.read_first-2.ensures.foreign (same_faults c.in-Err-read_first.fault Unmade Stranger Broken told) in
    foreign_none c.args.identity records (g.D.Device.disk c.args.second).content (g.D.Device.disk c.args.first).content foreign (pair_exchanged c.args.identity records (g.D.Device.disk c.args.first).content (g.D.Device.disk c.args.second).content pair)

pub returns-in-Err-read_first-clause-gone : goal.returns-in-Err-read_first-clause-gone
returns-in-Err-read_first-clause-gone g c =
    let run = both_read g.D.Device.Led g.D.Device.disk c.args.first c.args.second c.read_first.new.device c.read_first-2.new.device c.read_first.ensures.any_moment c.read_first-2.ensures.any_moment in
    ((c.read_first.new.device, c.read_first-2.new.device), read_opening g.D.Device.Led g.D.Device.disk c.args.first c.args.second (c.read_first.new.device, c.read_first-2.new.device) run)

pub with-requires-clause-older : goal.with-requires-clause-older
with-requires-clause-older g c =
    let who_too : c.as_slice-2.result.now ≡ c.args.identity = search rules in
    let two = reading c.as_slice-2.result.now c.args.identity (g.D.Device.disk c.args.second).content c.read_first-2.result c.in-Ok-read_first.latter who_too c.in-Ok-read_first.is c.read_first-2.ensures.missing c.read_first-2.ensures.closed c.read_first-2.ensures.file in
    let turn : IsTurn c.in-Ok.former c.in-Ok-read_first.latter (Former c.in-Ok-Former.number) = IfOk-at_ok (λ (t : Turn). IsTurn c.in-Ok.former c.in-Ok-read_first.latter t) (c.in-Ok-Former.is ∙ ap (λ (t : Turn). Ok t) c.in-Ok-Former.field-0-is) c.turn_of.ensures.turn in
    turn_older c.in-Ok-Former.number c.args.identity (g.D.Device.disk c.args.second).content (g.D.Device.disk c.read_first-2.new.device).content c.in-Ok-read_first.latter c.read_first-2.ensures.stands.same two turn.1

pub with-requires-in-Ok-Latter-clause-older : goal.with-requires-in-Ok-Latter-clause-older
with-requires-in-Ok-Latter-clause-older g c =
    let who : c.as_slice.result.now ≡ c.args.identity = search rules in
    let one = reading c.as_slice.result.now c.args.identity (g.D.Device.disk c.args.first).content c.read_first.result c.in-Ok.former who c.in-Ok.is c.read_first.ensures.missing c.read_first.ensures.closed c.read_first.ensures.file in
    let turn : IsTurn c.in-Ok.former c.in-Ok-read_first.latter (Latter c.in-Ok-Latter.number) = IfOk-at_ok (λ (t : Turn). IsTurn c.in-Ok.former c.in-Ok-read_first.latter t) (c.in-Ok-Latter.is ∙ ap (λ (t : Turn). Ok t) c.in-Ok-Latter.field-0-is) c.turn_of.ensures.turn in
    turn_older c.in-Ok-Latter.number c.args.identity (g.D.Device.disk c.args.first).content (g.D.Device.disk c.read_first.new.device).content c.in-Ok.former c.read_first.ensures.stands.same one turn.1

pub returns-in-Ok-Former-clause-none : goal.returns-in-Ok-Former-clause-none
returns-in-Ok-Former-clause-none g c told records pair =
    c.with.ensures.none (third_alone c.with.result Unmade Stranger Broken c.with.ensures.never_unmade c.with.ensures.never_stranger told) records
    (pair_so c.args.identity records (g.D.Device.disk c.read_first.new.device).content (g.D.Device.disk c.read_first-2.new.device).content (g.D.Device.disk c.args.first).content (g.D.Device.disk c.args.second).content (sym c.read_first.ensures.stands.same) (sym c.read_first-2.ensures.stands.same) pair)

pub returns-in-Ok-Former-clause-any_moment : goal.returns-in-Ok-Former-clause-any_moment
returns-in-Ok-Former-clause-any_moment g c =
    let who : c.as_slice.result.now ≡ c.args.identity = search rules in
    let one = reading c.as_slice.result.now c.args.identity (g.D.Device.disk c.args.first).content c.read_first.result c.in-Ok.former who c.in-Ok.is c.read_first.ensures.missing c.read_first.ensures.closed c.read_first.ensures.file in
    let who_too : c.as_slice-2.result.now ≡ c.args.identity = search rules in
    let two = reading c.as_slice-2.result.now c.args.identity (g.D.Device.disk c.args.second).content c.read_first-2.result c.in-Ok-read_first.latter who_too c.in-Ok-read_first.is c.read_first-2.ensures.missing c.read_first-2.ensures.closed c.read_first-2.ensures.file in
    let turn : IsTurn c.in-Ok.former c.in-Ok-read_first.latter (Former c.in-Ok-Former.number) = IfOk-at_ok (λ (t : Turn). IsTurn c.in-Ok.former c.in-Ok-read_first.latter t) (c.in-Ok-Former.is ∙ ap (λ (t : Turn). Ok t) c.in-Ok-Former.field-0-is) c.turn_of.ensures.turn in
    let run = both_read g.D.Device.Led g.D.Device.disk c.args.first c.args.second c.read_first.new.device c.read_first-2.new.device c.read_first.ensures.any_moment c.read_first-2.ensures.any_moment in
    let begins = turn_begins c.in-Ok-Former.number c.args.identity (g.D.Device.disk c.args.first).content (g.D.Device.disk c.read_first.new.device).content c.in-Ok.former c.read_first.ensures.stands.same one turn.0 in
    let older = turn_older c.in-Ok-Former.number c.args.identity (g.D.Device.disk c.args.second).content (g.D.Device.disk c.read_first-2.new.device).content c.in-Ok-read_first.latter c.read_first-2.ensures.stands.same two turn.1 in
    ok_both c.with.result (λ pair. IsOpening g.D.Device.Led g.D.Device.disk c.read_first.new.device pair.current) (λ pair. pair.other ≡ c.read_first-2.new.device) (λ pair. IsPairOpening g.D.Device.Led g.D.Device.disk (c.args.first, c.args.second) (pair.current, pair.other))
    (λ pair opening same. subst (λ d. IsPairOpening g.D.Device.Led g.D.Device.disk (c.args.first, c.args.second) (pair.current, d)) (sym same) (former_opening g.D.Device.Led g.D.Device.disk c.args.first c.args.second c.args.identity c.read_first.new.device c.read_first-2.new.device run c.in-Ok.ensures.durable c.in-Ok-read_first.ensures.durable c.in-Ok-Former.number begins older pair.current opening)) c.with.ensures.opening c.with.ensures.beside

pub returns-in-Ok-Former-clause-gone : goal.returns-in-Ok-Former-clause-gone
returns-in-Ok-Former-clause-gone g c =
    let who : c.as_slice.result.now ≡ c.args.identity = search rules in
    let one = reading c.as_slice.result.now c.args.identity (g.D.Device.disk c.args.first).content c.read_first.result c.in-Ok.former who c.in-Ok.is c.read_first.ensures.missing c.read_first.ensures.closed c.read_first.ensures.file in
    let who_too : c.as_slice-2.result.now ≡ c.args.identity = search rules in
    let two = reading c.as_slice-2.result.now c.args.identity (g.D.Device.disk c.args.second).content c.read_first-2.result c.in-Ok-read_first.latter who_too c.in-Ok-read_first.is c.read_first-2.ensures.missing c.read_first-2.ensures.closed c.read_first-2.ensures.file in
    let turn : IsTurn c.in-Ok.former c.in-Ok-read_first.latter (Former c.in-Ok-Former.number) = IfOk-at_ok (λ (t : Turn). IsTurn c.in-Ok.former c.in-Ok-read_first.latter t) (c.in-Ok-Former.is ∙ ap (λ (t : Turn). Ok t) c.in-Ok-Former.field-0-is) c.turn_of.ensures.turn in
    let run = both_read g.D.Device.Led g.D.Device.disk c.args.first c.args.second c.read_first.new.device c.read_first-2.new.device c.read_first.ensures.any_moment c.read_first-2.ensures.any_moment in
    let begins = turn_begins c.in-Ok-Former.number c.args.identity (g.D.Device.disk c.args.first).content (g.D.Device.disk c.read_first.new.device).content c.in-Ok.former c.read_first.ensures.stands.same one turn.0 in
    let older = turn_older c.in-Ok-Former.number c.args.identity (g.D.Device.disk c.args.second).content (g.D.Device.disk c.read_first-2.new.device).content c.in-Ok-read_first.latter c.read_first-2.ensures.stands.same two turn.1 in
    err_so c.with.result ((last : g.row.D.Denot) × IsOpening g.D.Device.Led g.D.Device.disk c.read_first.new.device last) (HavePairGone g.D.Device.Led g.D.Device.disk (c.args.first, c.args.second)) (λ it. ((it.0, c.read_first-2.new.device), former_opening g.D.Device.Led g.D.Device.disk c.args.first c.args.second c.args.identity c.read_first.new.device c.read_first-2.new.device run c.in-Ok.ensures.durable c.in-Ok-read_first.ensures.durable c.in-Ok-Former.number begins older it.0 it.1)) c.with.ensures.gone

pub returns-in-Ok-Latter-clause-records : goal.returns-in-Ok-Latter-clause-records
returns-in-Ok-Latter-clause-records g c =
    IfOk-weaker c.with-in-Ok-Latter.result (λ pair. PairStandsFor c.args.identity (own_records pair.groups) (g.D.Device.disk c.read_first-2.new.device).content (g.D.Device.disk c.read_first.new.device).content) (λ pair. PairStandsFor c.args.identity (own_records pair.groups) (g.D.Device.disk c.args.first).content (g.D.Device.disk c.args.second).content)
    (λ pair it. pair_so c.args.identity (own_records pair.groups) (g.D.Device.disk c.args.first).content (g.D.Device.disk c.args.second).content (g.D.Device.disk c.read_first.new.device).content (g.D.Device.disk c.read_first-2.new.device).content c.read_first.ensures.stands.same c.read_first-2.ensures.stands.same (pair_exchanged c.args.identity (own_records pair.groups) (g.D.Device.disk c.read_first-2.new.device).content (g.D.Device.disk c.read_first.new.device).content it)) c.with-in-Ok-Latter.ensures.records

pub returns-in-Ok-Latter-clause-none : goal.returns-in-Ok-Latter-clause-none
returns-in-Ok-Latter-clause-none g c told records pair =
    c.with-in-Ok-Latter.ensures.none (third_alone c.with-in-Ok-Latter.result Unmade Stranger Broken c.with-in-Ok-Latter.ensures.never_unmade c.with-in-Ok-Latter.ensures.never_stranger told) records
    (pair_exchanged c.args.identity records (g.D.Device.disk c.read_first.new.device).content (g.D.Device.disk c.read_first-2.new.device).content (pair_so c.args.identity records (g.D.Device.disk c.read_first.new.device).content (g.D.Device.disk c.read_first-2.new.device).content (g.D.Device.disk c.args.first).content (g.D.Device.disk c.args.second).content (sym c.read_first.ensures.stands.same) (sym c.read_first-2.ensures.stands.same) pair))

pub returns-in-Ok-Latter-clause-any_moment : goal.returns-in-Ok-Latter-clause-any_moment
returns-in-Ok-Latter-clause-any_moment g c =
    let who : c.as_slice.result.now ≡ c.args.identity = search rules in
    let one = reading c.as_slice.result.now c.args.identity (g.D.Device.disk c.args.first).content c.read_first.result c.in-Ok.former who c.in-Ok.is c.read_first.ensures.missing c.read_first.ensures.closed c.read_first.ensures.file in
    let who_too : c.as_slice-2.result.now ≡ c.args.identity = search rules in
    let two = reading c.as_slice-2.result.now c.args.identity (g.D.Device.disk c.args.second).content c.read_first-2.result c.in-Ok-read_first.latter who_too c.in-Ok-read_first.is c.read_first-2.ensures.missing c.read_first-2.ensures.closed c.read_first-2.ensures.file in
    let turn : IsTurn c.in-Ok.former c.in-Ok-read_first.latter (Latter c.in-Ok-Latter.number) = IfOk-at_ok (λ (t : Turn). IsTurn c.in-Ok.former c.in-Ok-read_first.latter t) (c.in-Ok-Latter.is ∙ ap (λ (t : Turn). Ok t) c.in-Ok-Latter.field-0-is) c.turn_of.ensures.turn in
    let run = both_read g.D.Device.Led g.D.Device.disk c.args.first c.args.second c.read_first.new.device c.read_first-2.new.device c.read_first.ensures.any_moment c.read_first-2.ensures.any_moment in
    let begins = turn_begins c.in-Ok-Latter.number c.args.identity (g.D.Device.disk c.args.second).content (g.D.Device.disk c.read_first-2.new.device).content c.in-Ok-read_first.latter c.read_first-2.ensures.stands.same two turn.0 in
    let older = turn_older c.in-Ok-Latter.number c.args.identity (g.D.Device.disk c.args.first).content (g.D.Device.disk c.read_first.new.device).content c.in-Ok.former c.read_first.ensures.stands.same one turn.1 in
    ok_both c.with-in-Ok-Latter.result (λ pair. IsOpening g.D.Device.Led g.D.Device.disk c.read_first-2.new.device pair.current) (λ pair. pair.other ≡ c.read_first.new.device) (λ pair. IsPairOpening g.D.Device.Led g.D.Device.disk (c.args.first, c.args.second) (pair.current, pair.other))
    (λ pair opening same. subst (λ d. IsPairOpening g.D.Device.Led g.D.Device.disk (c.args.first, c.args.second) (pair.current, d)) (sym same) (latter_opening g.D.Device.Led g.D.Device.disk c.args.first c.args.second c.args.identity c.read_first.new.device c.read_first-2.new.device run c.in-Ok.ensures.durable c.in-Ok-read_first.ensures.durable c.in-Ok-Latter.number begins older pair.current opening)) c.with-in-Ok-Latter.ensures.opening c.with-in-Ok-Latter.ensures.beside

pub returns-in-Ok-Latter-clause-gone : goal.returns-in-Ok-Latter-clause-gone
returns-in-Ok-Latter-clause-gone g c =
    let who : c.as_slice.result.now ≡ c.args.identity = search rules in
    let one = reading c.as_slice.result.now c.args.identity (g.D.Device.disk c.args.first).content c.read_first.result c.in-Ok.former who c.in-Ok.is c.read_first.ensures.missing c.read_first.ensures.closed c.read_first.ensures.file in
    let who_too : c.as_slice-2.result.now ≡ c.args.identity = search rules in
    let two = reading c.as_slice-2.result.now c.args.identity (g.D.Device.disk c.args.second).content c.read_first-2.result c.in-Ok-read_first.latter who_too c.in-Ok-read_first.is c.read_first-2.ensures.missing c.read_first-2.ensures.closed c.read_first-2.ensures.file in
    let turn : IsTurn c.in-Ok.former c.in-Ok-read_first.latter (Latter c.in-Ok-Latter.number) = IfOk-at_ok (λ (t : Turn). IsTurn c.in-Ok.former c.in-Ok-read_first.latter t) (c.in-Ok-Latter.is ∙ ap (λ (t : Turn). Ok t) c.in-Ok-Latter.field-0-is) c.turn_of.ensures.turn in
    let run = both_read g.D.Device.Led g.D.Device.disk c.args.first c.args.second c.read_first.new.device c.read_first-2.new.device c.read_first.ensures.any_moment c.read_first-2.ensures.any_moment in
    let begins = turn_begins c.in-Ok-Latter.number c.args.identity (g.D.Device.disk c.args.second).content (g.D.Device.disk c.read_first-2.new.device).content c.in-Ok-read_first.latter c.read_first-2.ensures.stands.same two turn.0 in
    let older = turn_older c.in-Ok-Latter.number c.args.identity (g.D.Device.disk c.args.first).content (g.D.Device.disk c.read_first.new.device).content c.in-Ok.former c.read_first.ensures.stands.same one turn.1 in
    err_so c.with-in-Ok-Latter.result ((last : g.row.D.Denot) × IsOpening g.D.Device.Led g.D.Device.disk c.read_first-2.new.device last) (HavePairGone g.D.Device.Led g.D.Device.disk (c.args.first, c.args.second)) (λ it. ((it.0, c.read_first.new.device), latter_opening g.D.Device.Led g.D.Device.disk c.args.first c.args.second c.args.identity c.read_first.new.device c.read_first-2.new.device run c.in-Ok.ensures.durable c.in-Ok-read_first.ensures.durable c.in-Ok-Latter.number begins older it.0 it.1)) c.with-in-Ok-Latter.ensures.gone

pub returns-in-Err-turn_of-clause-none : goal.returns-in-Err-turn_of-clause-none
returns-in-Err-turn_of-clause-none g c told records pair =
    let who : c.as_slice.result.now ≡ c.args.identity = search rules in
    let one = reading c.as_slice.result.now c.args.identity (g.D.Device.disk c.args.first).content c.read_first.result c.in-Ok.former who c.in-Ok.is c.read_first.ensures.missing c.read_first.ensures.closed c.read_first.ensures.file in
    let who_too : c.as_slice-2.result.now ≡ c.args.identity = search rules in
    let two = reading c.as_slice-2.result.now c.args.identity (g.D.Device.disk c.args.second).content c.read_first-2.result c.in-Ok-read_first.latter who_too c.in-Ok-read_first.is c.read_first-2.ensures.missing c.read_first-2.ensures.closed c.read_first-2.ensures.file in
    no_turn c.args.identity records (g.D.Device.disk c.args.first).content (g.D.Device.disk c.args.second).content c.in-Ok.former c.in-Ok-read_first.latter one two c.in-Err-turn_of.ensures.none pair

pub returns-in-Err-turn_of-clause-gone : goal.returns-in-Err-turn_of-clause-gone
returns-in-Err-turn_of-clause-gone g c =
    let run = both_read g.D.Device.Led g.D.Device.disk c.args.first c.args.second c.read_first.new.device c.read_first-2.new.device c.read_first.ensures.any_moment c.read_first-2.ensures.any_moment in
    ((c.read_first.new.device, c.read_first-2.new.device), read_opening g.D.Device.Led g.D.Device.disk c.args.first c.args.second (c.read_first.new.device, c.read_first-2.new.device) run)
